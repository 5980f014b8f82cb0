-- Facets: their number, judged, then the one string if there is one.
use borrow.Author.Rules.{rules}
use Rattle.encoding.specs.Proxy.{text}
use Rattle.encoding.proofs.ValueLaws.{held_text}
use Rattle.wire.proofs.Laws.{size_within}
use Rattle.wire.proofs.Sums.{later_fits}
use Rattle.proxy.proofs.Laws.{facets_many, facets_end, facets_one, facets_none}
use Rattle.proxy.proofs.facets.Goals as goal

pub returns-in_err-size : goal.returns-in_err-size
returns-in_err-size c = search (rules, facets_none, c.in_err-size.was)

pub returns-then-size-ge2 : goal.returns-then-size-ge2
returns-then-size-ge2 c = search (facets_many, c.in_ok-size.was)

pub returns-then-size-eq0 : goal.returns-then-size-eq0
returns-then-size-eq0 c = search (facets_end, c.in_ok-size.was)

pub slice_bounds-read_text-count : goal.slice_bounds-read_text-count
slice_bounds-read_text-count c = search (rules, size_within, c.in_ok-size.was)

pub slice_bounds-read_text-start : goal.slice_bounds-read_text-start
slice_bounds-read_text-start c = search (rules, size_within, c.in_ok-size.was)

pub later-requires : goal.later-requires
later-requires c = search (rules, later_fits text held_text, size_within, c.in_ok-size.was)

pub returns : goal.returns
returns c = search (rules, facets_one, c.in_ok-size.was)
