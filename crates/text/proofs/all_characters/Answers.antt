-- What was passed are characters: what is left decides.
use native.Mathlib.Omega.{arith}
use Rattle.text.proofs.Laws.{crossed_none, text_ascii, text_wrong, text_next, text_room, text_less, text_end}
use Rattle.text.proofs.all_characters.Goals as goal

pub loop-i-init : goal.loop-i-init
loop-i-init c = crossed_none _ 0 (omega arith)

pub overflow_add-i : goal.overflow_add-i
overflow_add-i c = omega arith

pub ascii_end-i-requires : goal.ascii_end-i-requires
ascii_end-i-requires c = omega arith

pub loop-i-smaller-then-s-i-lt128 : goal.loop-i-smaller-then-s-i-lt128
loop-i-smaller-then-s-i-lt128 c = omega arith

pub loop-i-preserved-then-s-i-lt128 : goal.loop-i-preserved-then-s-i-lt128
loop-i-preserved-then-s-i-lt128 c = search text_ascii

pub returns-then-k-eq0 : goal.returns-then-k-eq0
returns-then-k-eq0 c = search text_wrong

pub overflow_add-i-else-s-i-lt128 : goal.overflow_add-i-else-s-i-lt128
overflow_add-i-else-s-i-lt128 c = omega (arith, text_room _ _ _ c.loop-i.invariant (omega arith) c.character-k.ensures c.if-k-eq0.false)

pub loop-i-smaller : goal.loop-i-smaller
loop-i-smaller c = search text_less

pub loop-i-preserved : goal.loop-i-preserved
loop-i-preserved c = search text_next

pub returns : goal.returns
returns c = search text_end
