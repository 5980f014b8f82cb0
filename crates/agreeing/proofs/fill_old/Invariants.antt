-- The loop's invariant: the cells of the indexes below x are there. Assumes nothing.
use Rattle.agreeing.specs.Agreeing.{Firsts, Weighed}
use Rattle.agreeing.proofs.fill_old.Given as goal

abbrev pub invariant-loop-x : goal.invariant-loop-x
invariant-loop-x l = Firsts l.old l.cells l.x × Weighed l.old l.weights l.x
