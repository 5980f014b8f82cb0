-- What was passed is bools; the loop ends where fewer than thirty-two are left, or at a block that is not all bools. Assumes nothing.
use Prim.Native.Nat.{◌*◌}
use Rattle.value.specs.Parts.{AreBools}
use Rattle.value.proofs.plain.bool_blocks.Given as goal

abbrev pub invariant-loop-k : goal.invariant-loop-k
invariant-loop-k l = AreBools l.s 0 (32 * l.k)
