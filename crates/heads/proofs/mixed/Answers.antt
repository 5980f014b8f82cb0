-- By the stage of the walk. Assumes nothing.
use borrow.Author.Rules.{rules}
use Rattle.heads.proofs.Headings.{mixed_first, mixed_seeking, mixed_following}
use Rattle.heads.proofs.mixed.Goals as goal

pub returns-in-First : goal.returns-in-First
returns-in-First c = search (rules, mixed_first, mixed_seeking, mixed_following)

pub returns-in-Seeking : goal.returns-in-Seeking
returns-in-Seeking c = search (rules, mixed_first, mixed_seeking, mixed_following)

pub returns-in-Following : goal.returns-in-Following
returns-in-Following c = search (rules, mixed_first, mixed_seeking, mixed_following)
