-- The loops' invariants: the outcome follows from the slices ahead and, inside a slice, together with the answer from the optionals ahead. Each measure is the bytes left. Assumes nothing.
use mathlib.Core.Path.{refl, ◌∙◌}
use native.Mathlib.Omega.{arith}
use borrow.Author.Rules.{rules}
use Rattle.slices.proofs.Endings.{ends_same, put_keeps}
use Rattle.slices.proofs.Walking.{ends_says, ends_gives, inner_bound, outer_begin, wrong_fits, skip_less, skip_fits, skip_count, outer_skip, known_order, known_within, from_fits, end_fits, asks_place, asks_count, refused_fits, at_fits, outer_same, outer_in, end_less, end_mark_fits, inner_end, known_less, known_starts, place_fits, next_fits, tag_fits, count_fits, member_few, inner_known, skipped_less, skipped_fits, skipped_tag_fits, skipped_count, inner_skipped, stop_fits, size_place, inner_done, inner_out, outer_join, wrong_says, wrong_gives, refused_says, refused_gives, outer_answer, stopped_says, stopped_gives, over_says, over_gives}
use Rattle.slices.proofs.walks.slices.Goals as goal

-- the answers that take facts from before the slice
pub loop-more-init : goal.loop-more-init
loop-more-init c =
    let I = c.slices.invariant.1 in
    let O = c.opening.ensures in
    let K = c.in-Known.is in
    let R = c.required.ensures in
    let W = c.in-Ok-required.is in
    (refl, outer_answer _ _ _ _ _ _ _ _ _ _ _ _ I _ O _ c.in-Ok.is _ _ _ _ _ K _ R.value _ W _ R.out_after, outer_in I O c.in-Ok.is K R.value W c.member_end-stop.ensures.0 _)

pub slices-preserved : goal.slices-preserved
slices-preserved c =
    let R = c.required.ensures in
    let S = outer_same c.slices.invariant.1 c.opening.ensures c.in-Ok.is c.in-Known.is R.value c.in-Ok-required.is R.out_after in
    (c.loop-more.invariant.0 ∙ R.out_len_unchanged ∙ c.slices.invariant.0, outer_join S (inner_out c.loop-more.invariant.2 c.loop-more-test.false c.left_over.ensures c.if-left_over.false c.first_of-first.ensures c.base-b.ensures.0 c.if-b-eq0.false))

pub returns-in-Err-quick_next-clause-value : goal.returns-in-Err-quick_next-clause-value
returns-in-Err-quick_next-clause-value c = search stopped_says

pub returns-in-Err-quick_next-clause-out_after : goal.returns-in-Err-quick_next-clause-out_after
returns-in-Err-quick_next-clause-out_after c = search stopped_gives

pub returns-then-left_over-clause-value : goal.returns-then-left_over-clause-value
returns-then-left_over-clause-value c = search (over_says, c.loop-more.invariant.2)

pub returns-then-left_over-clause-out_after : goal.returns-then-left_over-clause-out_after
returns-then-left_over-clause-out_after c = search over_gives

pub returns-then-b-eq0 : goal.returns-then-b-eq0
returns-then-b-eq0 c =
    let R = c.required.ensures in
    let E = ends_same (outer_same c.slices.invariant.1 c.opening.ensures c.in-Ok.is c.in-Known.is R.value c.in-Ok-required.is R.out_after) (inner_done c.loop-more.invariant.2 c.loop-more-test.false c.left_over.ensures c.if-left_over.false c.first_of-first.ensures c.base-b.ensures.0 c.if-b-eq0.true c.format_number.ensures) in
    record { value = ends_says _ _ _ _ _ _ E; out_len_unchanged = c.loop-more.invariant.0 ∙ R.out_len_unchanged ∙ c.slices.invariant.0; out_after = ends_gives _ _ _ _ _ _ E }

pub slices-init : goal.slices-init
slices-init c = (refl, outer_begin _ _ _ _ _ (search) (omega arith) (search rules))

pub slice_bounds-opening-count : goal.slice_bounds-opening-count
slice_bounds-opening-count c = omega arith

pub overflow_add-pos : goal.overflow_add-pos
overflow_add-pos c = search (rules, skip_fits)

pub overflow_add-skipped : goal.overflow_add-skipped
overflow_add-skipped c = search (rules, skip_count)

pub slices-smaller-in-Skip : goal.slices-smaller-in-Skip
slices-smaller-in-Skip c = search skip_less

pub slices-preserved-in-Skip : goal.slices-preserved-in-Skip
slices-preserved-in-Skip c = search (rules, outer_skip)

pub overflow_add-from : goal.overflow_add-from
overflow_add-from c = search (rules, from_fits)

pub overflow_add-end : goal.overflow_add-end
overflow_add-end c = search (rules, end_fits)

pub slice_bounds-required-count : goal.slice_bounds-required-count
slice_bounds-required-count c = search known_order

pub slice_bounds-required-start : goal.slice_bounds-required-start
slice_bounds-required-start c = search (rules, known_order)

pub slice_bounds-required-end : goal.slice_bounds-required-end
slice_bounds-required-end c = search (rules, known_within)

pub required-requires-clause-s_bound : goal.required-requires-clause-s_bound
required-requires-clause-s_bound c = (search asks_place, search asks_count)

pub overflow_add-at : goal.overflow_add-at
overflow_add-at c = search (rules, at_fits)

pub slice_bounds-quick_next-count : goal.slice_bounds-quick_next-count
slice_bounds-quick_next-count c = omega arith

pub quick_next-requires-clause-begin_value : goal.quick_next-requires-clause-begin_value
quick_next-requires-clause-begin_value c = c.requires.begin_value

pub quick_next-requires-clause-first_value : goal.quick_next-requires-clause-first_value
quick_next-requires-clause-first_value c = c.members_at-place.ensures

pub quick_next-requires-clause-whole : goal.quick_next-requires-clause-whole
quick_next-requires-clause-whole c = (c.whole-limit.ensures.1, c.whole-limit.ensures.0)

pub quick_next-requires-clause-shapes_value : goal.quick_next-requires-clause-shapes_value
quick_next-requires-clause-shapes_value c = c.requires.shapes_value

pub quick_next-requires-clause-stop_bound : goal.quick_next-requires-clause-stop_bound
quick_next-requires-clause-stop_bound c = search inner_bound

pub overflow_add-at-in-None : goal.overflow_add-at-in-None
overflow_add-at-in-None c = search end_mark_fits

pub loop-more-smaller-in-None : goal.loop-more-smaller-in-None
loop-more-smaller-in-None c = search end_less

pub loop-more-preserved-in-None : goal.loop-more-preserved-in-None
loop-more-preserved-in-None c = (search rules, search rules, search inner_end)

pub overflow_add-at-in-Known-optional : goal.overflow_add-at-in-Known-optional
overflow_add-at-in-Known-optional c = search place_fits

pub overflow_sub-bytes : goal.overflow_sub-bytes
overflow_sub-bytes c = search known_starts

pub overflow_add-count : goal.overflow_add-count
overflow_add-count c = search count_fits

pub overflow_add-at-in-Known-optional-2 : goal.overflow_add-at-in-Known-optional-2
overflow_add-at-in-Known-optional-2 c = search next_fits

pub overflow_add-least : goal.overflow_add-least
overflow_add-least c = search tag_fits

pub behind-row-requires-clause-first_value : goal.behind-row-requires-clause-first_value
behind-row-requires-clause-first_value c = c.members_at-place.ensures

pub behind-row-requires-clause-m_bound : goal.behind-row-requires-clause-m_bound
behind-row-requires-clause-m_bound c = search member_few

pub loop-more-smaller-in-Known-optional : goal.loop-more-smaller-in-Known-optional
loop-more-smaller-in-Known-optional c = search known_less

pub loop-more-preserved-in-Known-optional : goal.loop-more-preserved-in-Known-optional
loop-more-preserved-in-Known-optional c = (search put_keeps, search rules, search (inner_known, c.loop-more.invariant.2, c.quick_next.ensures, c.in-Ok-quick_next.is, c.in-Known-optional.is, c.behind-row.ensures))

pub overflow_add-optionals : goal.overflow_add-optionals
overflow_add-optionals c = search skipped_count

pub overflow_add-at-in-Skipped : goal.overflow_add-at-in-Skipped
overflow_add-at-in-Skipped c = search skipped_fits

pub overflow_add-least-in-Skipped : goal.overflow_add-least-in-Skipped
overflow_add-least-in-Skipped c = search skipped_tag_fits

pub loop-more-smaller : goal.loop-more-smaller
loop-more-smaller c = search skipped_less

pub loop-more-preserved : goal.loop-more-preserved
loop-more-preserved c = (search rules, search rules, search (inner_skipped, c.loop-more.invariant.2, c.quick_next.ensures, c.in-Ok-quick_next.is, c.in-Skipped.is))

pub overflow_sub-result : goal.overflow_sub-result
overflow_sub-result c = search size_place

pub base-b-requires : goal.base-b-requires
base-b-requires c = c.requires.begin_value

pub slices-smaller : goal.slices-smaller
slices-smaller c = omega arith

pub shape_of-out-then-left_over : goal.shape_of-out-then-left_over
shape_of-out-then-left_over c = search (rules, c.slices)

pub shape_of-out-then-b-eq0 : goal.shape_of-out-then-b-eq0
shape_of-out-then-b-eq0 c = search (rules, c.slices)

pub returns-in-Err-required-clause-value : goal.returns-in-Err-required-clause-value
returns-in-Err-required-clause-value c = search refused_says

pub returns-in-Err-required-clause-out_after : goal.returns-in-Err-required-clause-out_after
returns-in-Err-required-clause-out_after c = search refused_gives

pub returns-in-Err-clause-value : goal.returns-in-Err-clause-value
returns-in-Err-clause-value c = search wrong_says

pub returns-in-Err-clause-out_after : goal.returns-in-Err-clause-out_after
returns-in-Err-clause-out_after c = search wrong_gives

pub stopped-requires : goal.stopped-requires
stopped-requires c = search (rules, wrong_fits)

pub stopped-requires-in-Err-quick_next : goal.stopped-requires-in-Err-quick_next
stopped-requires-in-Err-quick_next c = search (rules, stop_fits)

pub stopped-requires-in-Err-required : goal.stopped-requires-in-Err-required
stopped-requires-in-Err-required c = search (rules, refused_fits)
