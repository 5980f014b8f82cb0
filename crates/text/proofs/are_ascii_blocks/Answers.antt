-- What was tested is below 128; the last thirty-two bytes cover the rest.
use native.Mathlib.Omega.{arith}
use Rattle.text.proofs.Laws.{tested_none, tested_turn, tested_last}
use Rattle.text.proofs.are_ascii_blocks.Goals.{else-loop-i-test, then-loop-i-test+else-not-are_four_ascii+else-i-end-i-gt32}
use Rattle.text.proofs.are_ascii_blocks.Goals as goal

pub loop-i-init : goal.loop-i-init
loop-i-init c = tested_none _ _ _ (omega arith) (omega arith)

pub loop-i-preserved : goal.loop-i-preserved
loop-i-preserved c = search tested_turn

pub returns : goal.returns
returns c =
    elim c.loop-i-test.branch [
      | else-loop-i-test w ↦ search tested_last
      | then-loop-i-test+else-not-are_four_ascii+else-i-end-i-gt32 w ↦ search (tested_last _ _ _ _ 32 (tested_turn _ _ _ _ 32 c.loop-i.invariant w.loop-i-test.true _ w.are_four_ascii.ensures w.if-not-are_four_ascii.false) (omega arith) (omega arith))
    ]
