-- The required members, and nothing more. Assumes nothing.
use borrow.Author.Rules.{rules}
use Rattle.reader.proofs.OldListing.{old_at, old_place, old_says, old_gives, old_refused}
use Rattle.reader.proofs.lists.old_list.Goals as goal

pub overflow_add-result : goal.overflow_add-result
overflow_add-result c = search (rules, old_at)

pub overflow_add-result-in-Err : goal.overflow_add-result-in-Err
overflow_add-result-in-Err c = search (rules, old_place)

pub returns-in-Ok-clause-value : goal.returns-in-Ok-clause-value
returns-in-Ok-clause-value c = search old_says

pub returns-in-Ok-clause-out_after : goal.returns-in-Ok-clause-out_after
returns-in-Ok-clause-out_after c = search old_gives

pub returns-in-Err-clause-value : goal.returns-in-Err-clause-value
returns-in-Err-clause-value c = search old_refused

pub returns-in-Err-clause-out_after : goal.returns-in-Err-clause-out_after
returns-in-Err-clause-out_after c = search old_gives
