-- The loop's invariant: the rows from k on give the end and the count. The measure is their number. Assumes nothing.
use Prim.Native.Nat.{◌-◌}
use Rattle.convert.proofs.Owning.{Owning}
use Rattle.convert.proofs.slice.own_rows.Given as goal

abbrev pub invariant-loop-k : goal.invariant-loop-k
invariant-loop-k l = Owning l.table l.list l.n l.i l.o l.start l.k

abbrev pub decreases-loop-k : goal.decreases-loop-k
decreases-loop-k l = l.n - l.k
