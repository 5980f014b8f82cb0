-- The facets, then the count.
use borrow.Author.Rules.{rules}
use Rattle.locate.proofs.Locating.{facets_end, referenced_fit, referenced_is, referenced_none}
use Rattle.locate.proofs.referenced.Goals as goal

pub returns-in_err-n : goal.returns-in_err-n
returns-in_err-n c = search (rules, referenced_none, c.in_err-n.was)

pub slice_bounds-counted-count : goal.slice_bounds-counted-count
slice_bounds-counted-count c = search (rules, facets_end, c.in_ok-n.was)

pub slice_bounds-counted-start : goal.slice_bounds-counted-start
slice_bounds-counted-start c = search (rules, facets_end, c.in_ok-n.was)

pub later-requires : goal.later-requires
later-requires c = search (rules, referenced_fit, c.in_ok-n.was)

pub returns : goal.returns
returns c = rw c.later.ensures (search (rules, referenced_is, c.in_ok-n.was))
