-- By the stage of the walk. Assumes nothing.
use borrow.Author.Rules.{rules}
use Rattle.heads.proofs.Headings.{heading_seeking, heading_following}
use Rattle.heads.proofs.heading_at.Goals as goal

pub returns-in-Following : goal.returns-in-Following
returns-in-Following c = search (rules, heading_following, heading_seeking)

pub returns-in_default : goal.returns-in_default
returns-in_default c = search (rules, heading_following, heading_seeking)
