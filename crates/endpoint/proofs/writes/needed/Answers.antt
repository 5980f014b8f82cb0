-- The length by the type. The sums are small.
use borrow.Author.Rules.{rules}
use Rattle.endpoint.proofs.Writings.{needed_udp, needed_timed}
use Rattle.endpoint.proofs.writes.needed.Goals as goal

pub returns-then-kind-eq3 : goal.returns-then-kind-eq3
returns-then-kind-eq3 c = search (rules, needed_udp, needed_timed)

pub returns : goal.returns
returns c = search (rules, needed_udp, needed_timed)
