-- The loop's invariant: no index below x agrees. Assumes nothing.
use Rattle.agreeing.proofs.Cells.{Passed}
use Rattle.agreeing.proofs.first.Given as goal

abbrev pub invariant-loop-x : goal.invariant-loop-x
invariant-loop-x l = Passed l.old l.table l.y l.x
