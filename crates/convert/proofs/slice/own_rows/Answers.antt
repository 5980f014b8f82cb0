-- The loop's invariant: the rows from k on give the end and the count. The measure is their number. Assumes nothing.
use native.Mathlib.Omega.{arith}
use Rattle.convert.proofs.Owning.{owning_begin, owning_before, owning_past, owning_next, owning_end}
use Rattle.convert.proofs.slice.own_rows.Goals as goal

pub loop-k-init : goal.loop-k-init
loop-k-init c = search owning_begin

pub overflow_mul-k : goal.overflow_mul-k
overflow_mul-k c = omega arith

pub returns-then-member-owner : goal.returns-then-member-owner
returns-then-member-owner c = search owning_before

pub returns-then-past-member : goal.returns-then-past-member
returns-then-past-member c = search owning_past

pub overflow_add-k : goal.overflow_add-k
overflow_add-k c = omega arith

pub loop-k-smaller : goal.loop-k-smaller
loop-k-smaller c = omega arith

pub loop-k-preserved : goal.loop-k-preserved
loop-k-preserved c = search owning_next

pub returns : goal.returns
returns c = search owning_end
