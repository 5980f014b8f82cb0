-- The header is followed by a known value in its declared bytes, or by what is skipped; both lie within the bytes at hand.
use borrow.Author.Rules.{rules}
use Rattle.level.proofs.Nexts.{head_fits, lost_fits, next_wrong, known_start, known_from, known_end, known_place, next_known, next_refused, skipped_end, skipped_place, next_skipped, next_cut}
use Rattle.level.proofs.optionals.optional.Goals as goal

pub returns-in_err-header : goal.returns-in_err-header
returns-in_err-header c = search (rules, next_known, next_refused, next_skipped, next_cut, next_wrong)

pub slice_bounds-used_up-count : goal.slice_bounds-used_up-count
slice_bounds-used_up-count c = search (rules, head_fits, lost_fits)

pub slice_bounds-used_up-start : goal.slice_bounds-used_up-start
slice_bounds-used_up-start c = search (rules, head_fits, lost_fits)

pub overflow_sub-result : goal.overflow_sub-result
overflow_sub-result c = search (rules, head_fits, known_start, known_from, known_end, known_place, lost_fits, skipped_end, skipped_place)

pub overflow_add-result : goal.overflow_add-result
overflow_add-result c = search (rules, head_fits, known_start, known_from, known_end, known_place, lost_fits, skipped_end, skipped_place)

pub overflow_add-result-in-Ok : goal.overflow_add-result-in-Ok
overflow_add-result-in-Ok c = search (rules, head_fits, known_start, known_from, known_end, known_place, lost_fits, skipped_end, skipped_place)

pub behind-requires : goal.behind-requires
behind-requires c = search (rules, head_fits, known_start, known_from, known_end, known_place, lost_fits, skipped_end, skipped_place, next_known, next_refused, next_skipped, next_cut, next_wrong)

pub slice_bounds-extent-count : goal.slice_bounds-extent-count
slice_bounds-extent-count c = search (rules, head_fits, lost_fits)

pub slice_bounds-extent-start : goal.slice_bounds-extent-start
slice_bounds-extent-start c = search (rules, head_fits, lost_fits)

pub overflow_add-result-in-Ok-extent : goal.overflow_add-result-in-Ok-extent
overflow_add-result-in-Ok-extent c = search (rules, head_fits, known_start, known_from, known_end, known_place, lost_fits, skipped_end, skipped_place)

pub behind-requires-in-Err-extent : goal.behind-requires-in-Err-extent
behind-requires-in-Err-extent c = search (rules, head_fits, known_start, known_from, known_end, known_place, lost_fits, skipped_end, skipped_place, next_known, next_refused, next_skipped, next_cut, next_wrong)

pub returns-in-Ok : goal.returns-in-Ok
returns-in-Ok c = search (rules, next_known, next_refused, next_skipped, next_cut, next_wrong)

pub returns-in-Err : goal.returns-in-Err
returns-in-Err c = search (rules, next_known, next_refused, next_skipped, next_cut, next_wrong)

pub returns-in-Ok-extent : goal.returns-in-Ok-extent
returns-in-Ok-extent c = search (rules, next_known, next_refused, next_skipped, next_cut, next_wrong)

pub returns-in-Err-extent : goal.returns-in-Err-extent
returns-in-Err-extent c = search (rules, next_known, next_refused, next_skipped, next_cut, next_wrong)
