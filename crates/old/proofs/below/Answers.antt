-- The rows left to look at decide the answer.
use borrow.Author.Rules.{rules}
use Rattle.old.proofs.Laws.{rows_here, rows_next, rows_end}
use Rattle.old.proofs.below.Goals as goal

pub returns-then-inherits : goal.returns-then-inherits
returns-then-inherits c = search (rules, rows_here)

pub loop-t-preserved : goal.loop-t-preserved
loop-t-preserved c = search (rules, rows_next)

pub returns : goal.returns
returns c = search (rules, rows_end)
