-- By the stage. Assumes nothing.
use borrow.Author.Rules.{rules}
use Rattle.pairs.proofs.Steps.{first_here, first_kept}
use Rattle.pairs.proofs.walks.first_of.Goals as goal

pub returns-then-due-eq0 : goal.returns-then-due-eq0
returns-then-due-eq0 c = search first_here

pub returns-else-due-eq0 : goal.returns-else-due-eq0
returns-else-due-eq0 c = search first_kept
