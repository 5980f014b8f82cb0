-- A port, a case for each way out.
use Rattle.endpoint.proofs.Laws.{port_cut, port_zero, port_high, port_is}
use Rattle.endpoint.proofs.fields.port.Goals.{then-port-eq0-via-then-port-eq0, then-port-eq0-via-else-port-eq0+then-port-gt65535}
use Rattle.endpoint.proofs.fields.port.Goals as goal

pub returns-then-s-lt4 : goal.returns-then-s-lt4
returns-then-s-lt4 c = search port_cut

pub returns-then-port-eq0 : goal.returns-then-port-eq0
returns-then-port-eq0 c =
    elim c.then-port-eq0.branch [
      | then-port-eq0-via-then-port-eq0 w ↦ search port_zero
      | then-port-eq0-via-else-port-eq0+then-port-gt65535 w ↦ search port_high
    ]

pub returns : goal.returns
returns c = search port_is
