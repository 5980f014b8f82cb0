-- The loop's invariant: the cells of the old table and those of the new one's indexes below y are there. Assumes nothing.
use Rattle.agreeing.proofs.Cells.{Filled}
use Rattle.agreeing.proofs.fill_new.Given as goal

abbrev pub invariant-loop-y : goal.invariant-loop-y
invariant-loop-y l = Filled l.old l.new l.cells l.y
