-- By its opening, then by its members. Assumes nothing.
use borrow.Author.Rules.{rules}
use Rattle.pairs.proofs.Steps.{data_order, data_within, data_front, data_place, data_fits, turn_skip, turn_skip_gives, turn_bad, turn_bad_gives, turn_data_gives, turn_refused, refused_fits, read_fits, turn_known, turn_over}
use Rattle.pairs.proofs.walks.pair.Goals as goal

pub returns-in_err-o-clause-value : goal.returns-in_err-o-clause-value
returns-in_err-o-clause-value c = search (rules, turn_bad, c.in_err-o.was)

pub returns-in_err-o-clause-out_after : goal.returns-in_err-o-clause-out_after
returns-in_err-o-clause-out_after c = search (turn_bad_gives, c.in_err-o.was)

pub returns-in-Skip-clause-value : goal.returns-in-Skip-clause-value
returns-in-Skip-clause-value c = search (turn_skip, c.in_ok-o.was)

pub returns-in-Skip-clause-out_after : goal.returns-in-Skip-clause-out_after
returns-in-Skip-clause-out_after c = search (turn_skip_gives, c.in_ok-o.was)

pub slice_bounds-required-count : goal.slice_bounds-required-count
slice_bounds-required-count c = search (data_order, c.in_ok-o.was)

pub slice_bounds-required-start : goal.slice_bounds-required-start
slice_bounds-required-start c = search (rules, data_order, c.in_ok-o.was)

pub slice_bounds-required-end : goal.slice_bounds-required-end
slice_bounds-required-end c = search (rules, data_within, c.in_ok-o.was)

pub overflow_add-at : goal.overflow_add-at
overflow_add-at c = search (rules, data_fits, c.in_ok-o.was)

pub required-requires-clause-s_bound : goal.required-requires-clause-s_bound
required-requires-clause-s_bound c = (search (rules, data_place, c.in_ok-o.was), search rules)

pub behind-requires : goal.behind-requires
behind-requires c = search (rules, refused_fits, c.in_ok-o.was)

pub returns-in-Err-clause-value : goal.returns-in-Err-clause-value
returns-in-Err-clause-value c = search (turn_refused, c.in_ok-o.was)

pub returns-in-Err-clause-out_after : goal.returns-in-Err-clause-out_after
returns-in-Err-clause-out_after c = search (turn_data_gives, c.in_ok-o.was)

pub overflow_add-start : goal.overflow_add-start
overflow_add-start c = search (rules, read_fits, c.in_ok-o.was)

pub returns-then-start-members-clause-value : goal.returns-then-start-members-clause-value
returns-then-start-members-clause-value c = search (turn_known, c.in_ok-o.was)

pub returns-then-start-members-clause-out_after : goal.returns-then-start-members-clause-out_after
returns-then-start-members-clause-out_after c = search (turn_data_gives, c.in_ok-o.was)

pub overflow_sub-result : goal.overflow_sub-result
overflow_sub-result c = search (data_front, c.in_ok-o.was)

pub returns-else-start-members-clause-value : goal.returns-else-start-members-clause-value
returns-else-start-members-clause-value c = search (turn_over, c.in_ok-o.was)

pub returns-else-start-members-clause-out_after : goal.returns-else-start-members-clause-out_after
returns-else-start-members-clause-out_after c = search (turn_data_gives, c.in_ok-o.was)
