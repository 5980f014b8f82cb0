-- The loop's invariant: so many member rows are passed, and the rows from the next on give the pieces still to be measured. The measure is the member rows left. Assumes nothing.
use borrow.Author.Rules.{rules}
use native.Mathlib.Omega.{arith}
use Rattle.writer.proofs.Groups.{grouping_begin, row_within, row_inside, row_due, row_over, quick_next, at_small}
use Rattle.writer.proofs.measure.quick_requireds.Goals as goal

pub overflow_add-a : goal.overflow_add-a
overflow_add-a c = omega arith

pub whole-limit-requires-clause-end_bound : goal.whole-limit-requires-clause-end_bound
whole-limit-requires-clause-end_bound c = omega arith

pub loop-k-init : goal.loop-k-init
loop-k-init c = (omega arith, search grouping_begin)

pub overflow_add-a-in-loop-k : goal.overflow_add-a-in-loop-k
overflow_add-a-in-loop-k c = omega arith

pub overflow_add-a-in-loop-k-2 : goal.overflow_add-a-in-loop-k-2
overflow_add-a-in-loop-k-2 c = omega arith

pub member_row_in-member-requires-clause-m_in_bounds : goal.member_row_in-member-requires-clause-m_in_bounds
member_row_in-member-requires-clause-m_in_bounds c = search row_inside

pub overflow_add-k : goal.overflow_add-k
overflow_add-k c = omega arith

pub loop-k-smaller-then-member-ne0 : goal.loop-k-smaller-then-member-ne0
loop-k-smaller-then-member-ne0 c = omega arith

pub loop-k-preserved-then-member-ne0 : goal.loop-k-preserved-then-member-ne0
loop-k-preserved-then-member-ne0 c = (omega arith, row_over _ _ _ _ _ _ _ _ _ _ _ _ _ _ c.loop-k.invariant.1 _ _ _ c.requires.a_value.0 c.requires.a_value.1 c.whole-limit.ensures.0 c.loop-k-test.true _ c.member_row_in-member.ensures c.if-member-ne0.true)

pub overflow_add-a-in-loop-k-3 : goal.overflow_add-a-in-loop-k-3
overflow_add-a-in-loop-k-3 c = omega arith

pub quick_due-d-requires-clause-m_bound : goal.quick_due-d-requires-clause-m_bound
quick_due-d-requires-clause-m_bound c = (search row_within, c.member_row_in-member.ensures.of_is, row_due _ _ _ _ _ _ c.requires.a_value.0 c.requires.a_value.1 c.whole-limit.ensures.0 c.loop-k-test.true _ c.member_row_in-member.ensures c.if-member-ne0.false)

pub quick_due-d-requires-clause-at_bound : goal.quick_due-d-requires-clause-at_bound
quick_due-d-requires-clause-at_bound c = (search at_small, omega arith, search rules)

pub overflow_add-i : goal.overflow_add-i
overflow_add-i c = omega arith

pub overflow_add-k-in-Ok : goal.overflow_add-k-in-Ok
overflow_add-k-in-Ok c = omega arith

pub loop-k-smaller : goal.loop-k-smaller
loop-k-smaller c = omega arith

pub loop-k-preserved : goal.loop-k-preserved
loop-k-preserved c = (omega arith, search quick_next)
