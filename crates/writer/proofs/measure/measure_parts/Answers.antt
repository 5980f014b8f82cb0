-- The loop's invariant: the slices from the owner at hand on are still to be measured, and the rows left decide the answer; a parameter list has one owner. The measure is the owner, since a base is smaller. Assumes nothing.
use native.Mathlib.Omega.{arith}
use Rattle.writer.proofs.Walks.{parting_begin, parting_wrong, parting_over, parting_end, parting_next}
use Rattle.writer.proofs.measure.measure_parts.Goals as goal

pub loop-owner-init : goal.loop-owner-init
loop-owner-init c = parting_begin _ _ _ _ _ _ _ _ _ _

pub measure_part-d-requires-clause-begin_value : goal.measure_part-d-requires-clause-begin_value
measure_part-d-requires-clause-begin_value c = c.requires.begin_value

pub measure_part-d-requires-clause-shapes_value : goal.measure_part-d-requires-clause-shapes_value
measure_part-d-requires-clause-shapes_value c = c.requires.shapes_value

pub measure_part-d-requires-clause-first_value : goal.measure_part-d-requires-clause-first_value
measure_part-d-requires-clause-first_value c = (c.members_at-first.ensures.0, c.members_at-first.ensures.1, c.members-all.ensures.0)

pub measure_part-d-requires-clause-owner : goal.measure_part-d-requires-clause-owner
measure_part-d-requires-clause-owner c = c.owner_at-owner.ensures

pub measure_part-d-requires-clause-at_bound : goal.measure_part-d-requires-clause-at_bound
measure_part-d-requires-clause-at_bound c = (omega (arith, c.loop-owner.invariant.few, c.loop-owner.invariant.within, c.loop-owner.invariant.below, c.requires.start_bound.0, c.requires.start_bound.1, c.requires.start_bound.2), c.loop-owner.invariant.within, c.requires.start_bound.2, c.requires.start_bound.3, c.requires.start_bound.4)

pub returns-then-d-ne0 : goal.returns-then-d-ne0
returns-then-d-ne0 c = parting_wrong _ _ _ _ _ _ _ _ c.args.list _ _ _ _ _ c.requires.list_value c.loop-owner.invariant _ c.owner_at-owner.ensures.up_is _ _ c.measure_part-d.ensures c.if-d-ne0.true

pub returns-then-d-count : goal.returns-then-d-count
returns-then-d-count c = parting_over _ _ _ _ _ _ _ _ c.args.list _ _ _ _ _ c.requires.list_value c.loop-owner.invariant _ c.owner_at-owner.ensures.up_is _ _ c.measure_part-d.ensures c.if-d-ne0.false c.if-owner-eq0.true c.if-d-count.true

pub returns-then-owner-eq0 : goal.returns-then-owner-eq0
returns-then-owner-eq0 c = parting_end _ _ _ _ _ _ _ _ c.args.list _ _ _ _ _ c.requires.list_value c.loop-owner.invariant _ c.owner_at-owner.ensures.up_is _ _ c.measure_part-d.ensures c.if-d-ne0.false c.if-owner-eq0.true c.if-d-count.false

pub overflow_sub-o : goal.overflow_sub-o
overflow_sub-o c = omega arith

pub loop-owner-smaller : goal.loop-owner-smaller
loop-owner-smaller c = omega (arith, c.owner_at-owner.ensures.up_small)

pub loop-owner-preserved : goal.loop-owner-preserved
loop-owner-preserved c = parting_next _ _ _ _ _ _ _ _ c.args.list _ _ _ _ _ c.requires.list_value c.loop-owner.invariant _ c.owner_at-owner.ensures.up_is _ _ c.measure_part-d.ensures c.if-d-ne0.false c.if-owner-eq0.false c.owner_at-owner.ensures.up_small
