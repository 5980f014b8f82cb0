-- What was passed is bools; the loop ends where fewer than thirty-two are left, or at a block that is not all bools. Assumes nothing.
use native.Mathlib.Omega.{arith}
use Rattle.value.proofs.BoolLaws.{bools_none, blocks_turn, bools_end}
use Rattle.value.proofs.plain.bool_blocks.Goals as goal

pub loop-k-init : goal.loop-k-init
loop-k-init c = bools_none _

pub loop-k-preserved : goal.loop-k-preserved
loop-k-preserved c = search blocks_turn

pub returns-then-not-block_of_bools : goal.returns-then-not-block_of_bools
returns-then-not-block_of_bools c = (omega arith, c.loop-k.invariant)

pub returns : goal.returns
returns c = (omega arith, bools_end _ _ _ c.loop-k.invariant (omega arith))
