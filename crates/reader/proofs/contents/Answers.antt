-- The contents by the kind of the top. Assumes nothing.
use borrow.Author.Rules.{rules}
use Rattle.reader.proofs.Bodies.{new_list, new_list_gives, new_unmarked, new_unmarked_gives, mark_place, mark_within, mark_fits, new_slices, new_slices_gives}
use Rattle.reader.proofs.contents.Goals as goal

pub returns-then-kind-eq15-clause-value : goal.returns-then-kind-eq15-clause-value
returns-then-kind-eq15-clause-value c = search new_list

pub returns-then-kind-eq15-clause-out_after : goal.returns-then-kind-eq15-clause-out_after
returns-then-kind-eq15-clause-out_after c = search new_list_gives

pub overflow_add-result : goal.overflow_add-result
overflow_add-result c = search (rules, mark_place)

pub returns-in-Err-clause-value : goal.returns-in-Err-clause-value
returns-in-Err-clause-value c = search new_unmarked

pub returns-in-Err-clause-out_after : goal.returns-in-Err-clause-out_after
returns-in-Err-clause-out_after c = search new_unmarked_gives

pub overflow_add-mark : goal.overflow_add-mark
overflow_add-mark c = search (rules, mark_fits)

pub slices-requires-clause-start_in_bounds : goal.slices-requires-clause-start_in_bounds
slices-requires-clause-start_in_bounds c = search (rules, mark_within)

pub returns-clause-value : goal.returns-clause-value
returns-clause-value c = search new_slices

pub returns-clause-out_after : goal.returns-clause-out_after
returns-clause-out_after c = search new_slices_gives
