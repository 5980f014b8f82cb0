-- The loop's invariant: the rows from i on decide the answer. The measure is their number. Assumes nothing.
use native.Mathlib.Omega.{arith}
use Rattle.view.proofs.Seeing.{seeks_begin, seeks_here, seeks_next, seeks_end}
use Rattle.view.proofs.seek.Goals as goal

pub loop-i-init : goal.loop-i-init
loop-i-init c = search seeks_begin

pub returns-then-member-int_at : goal.returns-then-member-int_at
returns-then-member-int_at c = search seeks_here

pub loop-i-smaller : goal.loop-i-smaller
loop-i-smaller c = omega arith

pub loop-i-preserved : goal.loop-i-preserved
loop-i-preserved c = search seeks_next

pub returns : goal.returns
returns c = search seeks_end
