-- Port, timeout and compress put one after another.
use Rattle.endpoint.proofs.Writings.{tail_put_udp, tail_put}
use Rattle.endpoint.proofs.writes.put_tail.Goals as goal

pub returns-then-kind-eq3 : goal.returns-then-kind-eq3
returns-then-kind-eq3 c = search tail_put_udp

pub returns-else-kind-eq3 : goal.returns-else-kind-eq3
returns-else-kind-eq3 c = search tail_put
