-- The host, then the other fields.
use borrow.Author.Rules.{rules}
use Rattle.endpoint.proofs.Laws.{host_end, address_fit, address_are, address_none}
use Rattle.endpoint.proofs.fields.address.Goals as goal

pub returns-in_err-host : goal.returns-in_err-host
returns-in_err-host c = search (rules, address_none, c.in_err-host.was)

pub slice_bounds-tail-count : goal.slice_bounds-tail-count
slice_bounds-tail-count c = search (rules, host_end, c.in_ok-host.was)

pub slice_bounds-tail-start : goal.slice_bounds-tail-start
slice_bounds-tail-start c = search (rules, host_end, c.in_ok-host.was)

pub later-requires : goal.later-requires
later-requires c = search (rules, address_fit, c.in_ok-host.was)

pub returns : goal.returns
returns c = rw c.later.ensures (search (rules, address_are, c.in_ok-host.was))
