-- The contents by the kind of the top. Assumes nothing.
use borrow.Author.Rules.{rules}
use Rattle.reader.proofs.Bodies.{old_list, old_list_gives, old_unled, old_unled_gives, lead_place, lead_within, old_pairs, old_pairs_gives}
use Rattle.reader.proofs.old_contents.Goals as goal

pub returns-then-kind-eq15-clause-value : goal.returns-then-kind-eq15-clause-value
returns-then-kind-eq15-clause-value c = search old_list

pub returns-then-kind-eq15-clause-out_after : goal.returns-then-kind-eq15-clause-out_after
returns-then-kind-eq15-clause-out_after c = search old_list_gives

pub pairs-requires-clause-start_in_bounds : goal.pairs-requires-clause-start_in_bounds
pairs-requires-clause-start_in_bounds c = search (rules, lead_within)

pub overflow_add-result : goal.overflow_add-result
overflow_add-result c = search (rules, lead_place)

pub returns-in-Ok-clause-value : goal.returns-in-Ok-clause-value
returns-in-Ok-clause-value c = search old_pairs

pub returns-in-Ok-clause-out_after : goal.returns-in-Ok-clause-out_after
returns-in-Ok-clause-out_after c = search old_pairs_gives

pub returns-in-Err-clause-value : goal.returns-in-Err-clause-value
returns-in-Err-clause-value c = search old_unled

pub returns-in-Err-clause-out_after : goal.returns-in-Err-clause-out_after
returns-in-Err-clause-out_after c = search old_unled_gives
