-- By the stage of the walk. Assumes nothing.
use borrow.Author.Rules.{rules}
use Rattle.heads.proofs.Headings.{due_first, due_seeking, due_following}
use Rattle.heads.proofs.due.Goals as goal

pub returns-in-First : goal.returns-in-First
returns-in-First c = search (rules, due_first, due_seeking, due_following)

pub returns-in-Seeking : goal.returns-in-Seeking
returns-in-Seeking c = search (rules, due_first, due_seeking, due_following)

pub returns-in-Following : goal.returns-in-Following
returns-in-Following c = search (rules, due_first, due_seeking, due_following)
