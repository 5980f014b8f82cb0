-- The loop's invariant: what is left to compare decides the answer. Assumes nothing.
use Prim.Native.Nat.{◌*◌}
use Rattle.table.proofs.Labels.{Same}
use Rattle.table.proofs.naming.same.Given as goal

abbrev pub invariant-loop-k : goal.invariant-loop-k
invariant-loop-k l = Same l.a l.b (8 * l.k)
