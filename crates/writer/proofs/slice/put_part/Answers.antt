-- The rows of required members, then those of optional ones; of a slice also the end marker, and the front before them. Or some row is refused. Assumes nothing.
use mathlib.Core.Path.{refl}
use native.Mathlib.Omega.{arith}
use Rattle.writer.proofs.Groups.{rows_refused, rows_joined}
use Rattle.writer.proofs.Fronts.{part_refused, part_list, part_slice}
use Rattle.writer.proofs.slice.put_part.Goals as goal

pub put_requireds-required-requires-clause-first_value : goal.put_requireds-required-requires-clause-first_value
put_requireds-required-requires-clause-first_value c = (c.requires.first_value.0, c.requires.first_value.1)

pub put_requireds-required-requires-clause-a_value : goal.put_requireds-required-requires-clause-a_value
put_requireds-required-requires-clause-a_value c = (c.requires.owner.a_is, c.requires.owner.b_is, c.requires.owner.a_small, c.requires.owner.b_small)

pub put_requireds-required-requires-clause-start_bound : goal.put_requireds-required-requires-clause-start_bound
put_requireds-required-requires-clause-start_bound c = (omega (arith, c.requires.at_bound.0, c.front_len.ensures.1), c.requires.at_bound.1, c.requires.at_bound.2, c.requires.at_bound.3, c.requires.at_bound.4)

pub returns-then-required-ne0 : goal.returns-then-required-ne0
returns-then-required-ne0 c = part_refused _ _ _ _ _ _ c.args.list c.args.last _ _ _ _ c.front_len.ensures.0 c.front_len.ensures.1 _ _ _ (rows_refused _ _ _ _ _ _ _ _ _ _ _ _ c.put_requireds-required.ensures c.if-required-ne0.true) c.if-required-ne0.true

pub put_optionals-d-requires-clause-shapes_value : goal.put_optionals-d-requires-clause-shapes_value
put_optionals-d-requires-clause-shapes_value c = c.requires.shapes_value

pub put_optionals-d-requires-clause-first_value : goal.put_optionals-d-requires-clause-first_value
put_optionals-d-requires-clause-first_value c = c.requires.first_value

pub put_optionals-d-requires-clause-a_value : goal.put_optionals-d-requires-clause-a_value
put_optionals-d-requires-clause-a_value c = (c.requires.owner.a_is, c.requires.owner.b_is, c.requires.owner.a_small, c.requires.owner.b_small)

pub put_optionals-d-requires-clause-start_bound : goal.put_optionals-d-requires-clause-start_bound
put_optionals-d-requires-clause-start_bound c = let g = c.put_requireds-required.ensures.right c.if-required-ne0.false in (omega (arith, g.few, g.within, c.front_len.ensures.1, c.requires.at_bound.0, c.requires.at_bound.2), g.within, c.requires.at_bound.2, c.requires.at_bound.3, c.requires.at_bound.4)

pub returns-then-d-ne0 : goal.returns-then-d-ne0
returns-then-d-ne0 c = part_refused _ _ _ _ _ _ c.args.list c.args.last _ _ _ _ c.front_len.ensures.0 c.front_len.ensures.1 _ _ _ (rows_joined _ _ _ _ _ _ _ _ _ _ _ _ c.put_requireds-required.ensures c.if-required-ne0.false _ _ c.put_optionals-d.ensures) c.if-d-ne0.true

pub returns-then-list : goal.returns-then-list
returns-then-list c = part_list _ _ _ _ _ _ c.args.list c.args.last _ _ _ _ c.front_len.ensures.0 c.front_len.ensures.1 _ _ _ (rows_joined _ _ _ _ _ _ _ _ _ _ _ _ c.put_requireds-required.ensures c.if-required-ne0.false _ _ c.put_optionals-d.ensures) c.if-list.true

pub put_end-e-requires : goal.put_end-e-requires
put_end-e-requires c = let g = (rows_joined _ _ _ _ _ _ _ _ _ _ _ _ c.put_requireds-required.ensures c.if-required-ne0.false _ _ c.put_optionals-d.ensures).right c.if-d-ne0.false in omega (arith, c.requires.at_bound.0, c.requires.at_bound.2, c.front_len.ensures.1, g.few, g.within)

pub overflow_sub-e : goal.overflow_sub-e
overflow_sub-e c = let g = (rows_joined _ _ _ _ _ _ _ _ _ _ _ _ c.put_requireds-required.ensures c.if-required-ne0.false _ _ c.put_optionals-d.ensures).right c.if-d-ne0.false in omega (arith, c.put_end-e.ensures.0.ends, g.puts.ends)

pub put_front_as-requires-clause-owner : goal.put_front_as-requires-clause-owner
put_front_as-requires-clause-owner c = c.requires.owner

pub put_front_as-requires-clause-at_bound : goal.put_front_as-requires-clause-at_bound
put_front_as-requires-clause-at_bound c = let g = (rows_joined _ _ _ _ _ _ _ _ _ _ _ _ c.put_requireds-required.ensures c.if-required-ne0.false _ _ c.put_optionals-d.ensures).right c.if-d-ne0.false in (omega (arith, c.requires.at_bound.0), omega (arith, c.put_end-e.ensures.1, c.requires.at_bound.0, c.requires.at_bound.2, c.front_len.ensures.1, g.few, g.within))

pub returns : goal.returns
returns c = rw c.laid_of.ensures (part_slice _ _ _ _ _ _ c.args.list c.args.last _ _ _ _ c.front_len.ensures.0 c.front_len.ensures.1 _ _ _ (rows_joined _ _ _ _ _ _ _ _ _ _ _ _ c.put_requireds-required.ensures c.if-required-ne0.false _ _ c.put_optionals-d.ensures) c.if-list.false c.if-d-ne0.false _ _ _ _ _ c.put_end-e.ensures.0 c.put_end-e.ensures.1 refl c.put_front_as.ensures.0)
