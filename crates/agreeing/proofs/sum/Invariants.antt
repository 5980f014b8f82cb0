-- The loop's invariant (`Sums`): the sum so far and that of the members left make the whole sum. Assumes nothing.
use Rattle.agreeing.proofs.Cells.{Sums}
use Rattle.agreeing.proofs.sum.Given as goal

abbrev pub invariant-loop-i : goal.invariant-loop-i
invariant-loop-i l = Sums l.old l.table l.u l.m l.n l.w l.i
