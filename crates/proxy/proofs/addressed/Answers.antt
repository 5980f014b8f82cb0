-- The versions, if there are any; then the endpoints.
use borrow.Author.Rules.{rules}
use Rattle.wire.proofs.Sums.{later_fits}
use Rattle.encoding.specs.Proxy.{endpoints as endpoints-of}
use Rattle.proxy.proofs.Laws.{held_endpoints, addressed_old, addressed_short, addressed_rest}
use Rattle.proxy.proofs.addressed.Goals as goal

pub returns-then-old : goal.returns-then-old
returns-then-old c = search addressed_old

pub returns-then-s-lt4 : goal.returns-then-s-lt4
returns-then-s-lt4 c = search addressed_short

pub later-requires : goal.later-requires
later-requires c = search (rules, later_fits endpoints-of held_endpoints)

pub returns : goal.returns
returns c = search (rules, addressed_rest)
