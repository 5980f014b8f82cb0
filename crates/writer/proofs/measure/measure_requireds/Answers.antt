-- The loop's invariant: so many member rows are passed, and the rows from the next on give the pieces still to be measured. Assumes nothing.
use native.Mathlib.Omega.{arith}
use Rattle.writer.proofs.Groups.{is_due, pass_over, pass_due, pass_next, pass_fault, pass_end}
use Rattle.writer.proofs.measure.measure_requireds.Goals as goal

pub loop-k-init : goal.loop-k-init
loop-k-init c = c.quick_requireds-q.ensures

pub overflow_add-a : goal.overflow_add-a
overflow_add-a c = omega arith

pub loop-k-preserved-then-mark_from-ne0 : goal.loop-k-preserved-then-mark_from-ne0
loop-k-preserved-then-mark_from-ne0 c = (omega arith, pass_over _ _ _ _ _ _ _ _ _ _ _ _ _ _ _ c.loop-k.invariant.1 _ _ _ c.requires.a_value.0 c.requires.a_value.1 c.loop-k-test.true c.mark_from.ensures c.if-mark_from-ne0.true)

pub returns-then-count-i : goal.returns-then-count-i
returns-then-count-i c = rw c.laid_of.ensures (pass_due _ _ _ _ _ _ _ _ _ _ _ _ _ _ _ c.loop-k.invariant.1 _ (is_due _ _ _ _ _ _ c.requires.a_value.0 c.requires.a_value.1 c.loop-k-test.true c.mark_from.ensures c.if-mark_from-ne0.false) _ c.if-count-i.true)

pub overflow_add-a-in-loop-k : goal.overflow_add-a-in-loop-k
overflow_add-a-in-loop-k c = omega arith

pub overflow_add-a-in-loop-k-2 : goal.overflow_add-a-in-loop-k-2
overflow_add-a-in-loop-k-2 c = omega arith

pub due-d-requires-clause-all_value : goal.due-d-requires-clause-all_value
due-d-requires-clause-all_value c = (c.requires.first_value.2, c.type_from.ensures, (is_due _ _ _ _ _ _ c.requires.a_value.0 c.requires.a_value.1 c.loop-k-test.true c.mark_from.ensures c.if-mark_from-ne0.false))

pub due-d-requires-clause-at_bound : goal.due-d-requires-clause-at_bound
due-d-requires-clause-at_bound c = (omega (arith, c.loop-k.invariant.1.few, c.loop-k.invariant.1.within, c.requires.start_bound.0, c.requires.start_bound.2), omega (arith, c.if-count-i.false, c.requires.start_bound.4), c.requires.start_bound.3)

pub overflow_add-i : goal.overflow_add-i
overflow_add-i c = omega (arith, c.if-count-i.false, c.requires.start_bound.2)

pub loop-k-preserved : goal.loop-k-preserved
loop-k-preserved c = (omega arith, pass_next _ _ _ _ _ _ _ _ _ _ _ _ _ _ c.loop-k.invariant.1 c.if-count-i.false _ _ c.due-d.ensures _ c.in-Ok.is)

pub returns-in-Err : goal.returns-in-Err
returns-in-Err c = rw c.laid_of-in-Err.ensures (pass_fault _ _ _ _ _ _ _ _ _ _ _ _ _ _ c.loop-k.invariant.1 c.if-count-i.false _ _ c.due-d.ensures _ (is_due _ _ _ _ _ _ c.requires.a_value.0 c.requires.a_value.1 c.loop-k-test.true c.mark_from.ensures c.if-mark_from-ne0.false) _ c.in-Err.is)

pub returns : goal.returns
returns c = rw c.laid_of-2.ensures (pass_end _ _ _ _ _ _ _ _ _ _ _ _ _ _ c.loop-k.invariant.1 _ c.requires.a_value.1 (omega arith))
