-- An identity; nil ends it, else the reference.
use borrow.Author.Rules.{rules}
use Rattle.wire.proofs.Sums.{any_later_fits}
use Rattle.encoding.specs.Proxy.{reference as reference-of}
use Rattle.encoding.proofs.ValueLaws.{held_reference}
use Rattle.proxy.proofs.Laws.{identity_end, proxy_nil, proxy_rest, proxy_none}
use Rattle.proxy.proofs.proxy.Goals as goal

pub returns-in_err-identity : goal.returns-in_err-identity
returns-in_err-identity c = search (rules, proxy_none, c.in_err-identity.was)

pub returns-then-identity-eq0 : goal.returns-then-identity-eq0
returns-then-identity-eq0 c = search (proxy_nil, c.in_ok-identity.was)

pub slice_bounds-reference-count : goal.slice_bounds-reference-count
slice_bounds-reference-count c = search (rules, identity_end, c.in_ok-identity.was)

pub slice_bounds-reference-start : goal.slice_bounds-reference-start
slice_bounds-reference-start c = search (rules, identity_end, c.in_ok-identity.was)

pub later-requires : goal.later-requires
later-requires c = search (rules, any_later_fits reference-of held_reference, identity_end, c.in_ok-identity.was)

pub returns : goal.returns
returns c = search (rules, proxy_rest, c.in_ok-identity.was)
