-- The number of endpoints, then the endpoints.
use borrow.Author.Rules.{rules}
use Rattle.wire.proofs.Laws.{size_within}
use Rattle.wire.proofs.Sums.{any_later_fits}
use Rattle.proxy.specs.Parts.{addresses as addresses-of}
use Rattle.proxy.proofs.Laws.{held_addresses, endpoints_rest, endpoints_none}
use Rattle.proxy.proofs.endpoints.Goals as goal

pub returns-in_err-size : goal.returns-in_err-size
returns-in_err-size c = search (rules, endpoints_none, c.in_err-size.was)

pub slice_bounds-addresses-count : goal.slice_bounds-addresses-count
slice_bounds-addresses-count c = search (rules, size_within, c.in_ok-size.was)

pub slice_bounds-addresses-start : goal.slice_bounds-addresses-start
slice_bounds-addresses-start c = search (rules, size_within, c.in_ok-size.was)

pub later-requires : goal.later-requires
later-requires c = search (rules, any_later_fits addresses-of held_addresses, size_within, c.in_ok-size.was)

pub returns : goal.returns
returns c = search (rules, endpoints_rest, c.in_ok-size.was)
