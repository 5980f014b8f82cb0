-- What was passed is bools; the loop ends where fewer than eight are left, or at eight that are not all bools. Assumes nothing.
use native.Mathlib.Omega.{arith}
use Rattle.value.proofs.BoolLaws.{eights_turn, bools_end}
use Rattle.value.proofs.plain.bool_eights.Goals as goal

pub loop-k-preserved : goal.loop-k-preserved
loop-k-preserved c = search eights_turn

pub returns-then-not-eight_bools : goal.returns-then-not-eight_bools
returns-then-not-eight_bools c = (omega arith, c.loop-k.invariant)

pub returns : goal.returns
returns c = (omega arith, bools_end _ _ _ c.loop-k.invariant (omega arith))
