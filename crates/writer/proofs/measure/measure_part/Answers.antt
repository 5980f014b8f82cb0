-- The rows of required members, then those of optional ones; of a slice also the end marker, and the front before them. Or some row is refused. Assumes nothing.
use native.Mathlib.Omega.{arith}
use Rattle.writer.proofs.Groups.{rows_refused, rows_joined}
use Rattle.writer.proofs.Fronts.{part_refused, part_list, part_measured}
use Rattle.writer.proofs.measure.measure_part.Goals as goal

pub measure_requireds-required-requires-clause-begin_value : goal.measure_requireds-required-requires-clause-begin_value
measure_requireds-required-requires-clause-begin_value c = c.requires.begin_value

pub measure_requireds-required-requires-clause-shapes_value : goal.measure_requireds-required-requires-clause-shapes_value
measure_requireds-required-requires-clause-shapes_value c = c.requires.shapes_value

pub measure_requireds-required-requires-clause-first_value : goal.measure_requireds-required-requires-clause-first_value
measure_requireds-required-requires-clause-first_value c = c.requires.first_value

pub measure_requireds-required-requires-clause-a_value : goal.measure_requireds-required-requires-clause-a_value
measure_requireds-required-requires-clause-a_value c = (c.requires.owner.a_is, c.requires.owner.b_is, c.requires.owner.a_small, c.requires.owner.b_small)

pub measure_requireds-required-requires-clause-start_bound : goal.measure_requireds-required-requires-clause-start_bound
measure_requireds-required-requires-clause-start_bound c = (omega (arith, c.requires.at_bound.0, c.front_len.ensures.1), c.requires.at_bound.1, c.requires.at_bound.2, c.requires.at_bound.3, c.requires.at_bound.4)

pub returns-then-required-ne0 : goal.returns-then-required-ne0
returns-then-required-ne0 c = part_refused _ _ _ _ _ _ c.args.list c.args.last _ _ _ _ c.front_len.ensures.0 c.front_len.ensures.1 _ _ _ (rows_refused _ _ _ _ _ _ _ _ _ _ _ _ c.measure_requireds-required.ensures c.if-required-ne0.true) c.if-required-ne0.true

pub measure_optionals-d-requires-clause-begin_value : goal.measure_optionals-d-requires-clause-begin_value
measure_optionals-d-requires-clause-begin_value c = c.requires.begin_value

pub measure_optionals-d-requires-clause-shapes_value : goal.measure_optionals-d-requires-clause-shapes_value
measure_optionals-d-requires-clause-shapes_value c = c.requires.shapes_value

pub measure_optionals-d-requires-clause-first_value : goal.measure_optionals-d-requires-clause-first_value
measure_optionals-d-requires-clause-first_value c = c.requires.first_value

pub measure_optionals-d-requires-clause-a_value : goal.measure_optionals-d-requires-clause-a_value
measure_optionals-d-requires-clause-a_value c = (c.requires.owner.a_is, c.requires.owner.b_is, c.requires.owner.a_small, c.requires.owner.b_small)

pub measure_optionals-d-requires-clause-start_bound : goal.measure_optionals-d-requires-clause-start_bound
measure_optionals-d-requires-clause-start_bound c = let g = c.measure_requireds-required.ensures.right c.if-required-ne0.false in (omega (arith, g.few, g.within, c.front_len.ensures.1, c.requires.at_bound.0, c.requires.at_bound.2), g.within, c.requires.at_bound.2, c.requires.at_bound.3, c.requires.at_bound.4)

pub returns-then-d-ne0 : goal.returns-then-d-ne0
returns-then-d-ne0 c = part_refused _ _ _ _ _ _ c.args.list c.args.last _ _ _ _ c.front_len.ensures.0 c.front_len.ensures.1 _ _ _ (rows_joined _ _ _ _ _ _ _ _ _ _ _ _ c.measure_requireds-required.ensures c.if-required-ne0.false _ _ c.measure_optionals-d.ensures) c.if-d-ne0.true

pub returns-then-list : goal.returns-then-list
returns-then-list c = part_list _ _ _ _ _ _ c.args.list c.args.last _ _ _ _ c.front_len.ensures.0 c.front_len.ensures.1 _ _ _ (rows_joined _ _ _ _ _ _ _ _ _ _ _ _ c.measure_requireds-required.ensures c.if-required-ne0.false _ _ c.measure_optionals-d.ensures) c.if-list.true

pub overflow_add-d : goal.overflow_add-d
overflow_add-d c = let g = (rows_joined _ _ _ _ _ _ _ _ _ _ _ _ c.measure_requireds-required.ensures c.if-required-ne0.false _ _ c.measure_optionals-d.ensures).right c.if-d-ne0.false in omega (arith, c.end_len.ensures.1, c.requires.at_bound.0, c.requires.at_bound.2, c.front_len.ensures.1, g.few, g.within)

pub returns : goal.returns
returns c = rw c.laid_of.ensures (part_measured _ _ _ _ _ _ c.args.list c.args.last _ _ _ _ c.front_len.ensures.0 c.front_len.ensures.1 _ (rows_joined _ _ _ _ _ _ _ _ _ _ _ _ c.measure_requireds-required.ensures c.if-required-ne0.false _ _ c.measure_optionals-d.ensures) c.if-list.false c.if-d-ne0.false _ c.end_len.ensures.0 c.end_len.ensures.1)
