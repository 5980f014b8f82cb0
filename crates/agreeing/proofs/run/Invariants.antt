-- The loop's invariant: the members agree exactly if those left do. Assumes nothing.
use Rattle.agreeing.proofs.Cells.{Structs}
use Rattle.agreeing.proofs.run.Given as goal

abbrev pub invariant-loop-i : goal.invariant-loop-i
invariant-loop-i l = Structs l.old l.table l.t l.u l.m l.k l.n l.i
