-- The loop's invariant: the entries agree exactly if those left do. Assumes nothing.
use Rattle.agreeing.proofs.Cells.{Lists}
use Rattle.agreeing.proofs.entries.Given as goal

abbrev pub invariant-loop-k : goal.invariant-loop-k
invariant-loop-k l = Lists l.old l.new l.i l.j l.n l.k
