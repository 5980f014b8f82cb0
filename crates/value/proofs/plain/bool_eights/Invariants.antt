-- What was passed is bools; the loop ends where fewer than eight are left, or at eight that are not all bools. Assumes nothing.
use Prim.Native.Nat.{◌+◌, ◌*◌}
use Rattle.value.specs.Parts.{AreBools}
use Rattle.value.proofs.plain.bool_eights.Given as goal

abbrev pub invariant-loop-k : goal.invariant-loop-k
invariant-loop-k l = AreBools l.s 0 (l.first + 8 * l.k)
