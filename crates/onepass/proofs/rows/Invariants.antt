-- The invariants of the pass over type rows, of the pass over owners and of the array. Assumes nothing.
use Prim.Native.Nat.{◌≤◌}
use Rattle.onepass.proofs.Passing.{Rows}
use Rattle.onepass.proofs.rows.Given as goal

abbrev pub invariant-loop-t : goal.invariant-loop-t
invariant-loop-t l = (l.n ≤ 256) × Rows l.table l.shapes l.n l.t l.prior l.from
