-- The types one by one; type bits 7 and above are a class, which is refused.
use borrow.Author.Rules.{rules}
use Rattle.encoding.specs.Optional.{extent}
use Rattle.optional.proofs.Declared.{extent_at, extent_past}
use Rattle.optional.proofs.extents.extent.Goals as goal

pub returns-in-0 : goal.returns-in-0
unfolding extent
returns-in-0 c = search (rules, extent_at 0, extent_at 1, extent_at 2, extent_at 3, extent_at 4, extent_at 5, extent_at 6, extent_past)

pub returns-in-1 : goal.returns-in-1
unfolding extent
returns-in-1 c = search (rules, extent_at 0, extent_at 1, extent_at 2, extent_at 3, extent_at 4, extent_at 5, extent_at 6, extent_past)

pub returns-in-2 : goal.returns-in-2
unfolding extent
returns-in-2 c = search (rules, extent_at 0, extent_at 1, extent_at 2, extent_at 3, extent_at 4, extent_at 5, extent_at 6, extent_past)

pub returns-in-3 : goal.returns-in-3
unfolding extent
returns-in-3 c = search (rules, extent_at 0, extent_at 1, extent_at 2, extent_at 3, extent_at 4, extent_at 5, extent_at 6, extent_past)

pub returns-in_default : goal.returns-in_default
unfolding extent
returns-in_default c = search (rules, extent_at 0, extent_at 1, extent_at 2, extent_at 3, extent_at 4, extent_at 5, extent_at 6, extent_past)
