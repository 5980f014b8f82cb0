-- The required members, then the optionals. Assumes nothing.
use native.Mathlib.Omega.{arith}
use borrow.Author.Rules.{rules}
use Rattle.reader.proofs.Listing.{list_at, list_place, list_begin, told_both, read_says, read_gives, refused_says, refused_gives}
use Rattle.reader.proofs.lists.list.Goals as goal

pub overflow_add-start : goal.overflow_add-start
overflow_add-start c = search (rules, list_at)

pub optionals-requires-clause-listing : goal.optionals-requires-clause-listing
optionals-requires-clause-listing c = list_begin _ _ _ _ _ _ (search told_both) _ _ c.requires.takes (search rules) (omega arith)

pub overflow_add-result : goal.overflow_add-result
overflow_add-result c = search (rules, list_place)

pub returns-clause-value : goal.returns-clause-value
returns-clause-value c = search (read_says, c.requires)

pub returns-clause-out_after : goal.returns-clause-out_after
returns-clause-out_after c = search (read_gives, c.requires)

pub returns-in-Err-clause-value : goal.returns-in-Err-clause-value
returns-in-Err-clause-value c = search refused_says

pub returns-in-Err-clause-out_after : goal.returns-in-Err-clause-out_after
returns-in-Err-clause-out_after c = search refused_gives
