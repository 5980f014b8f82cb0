-- Endpoints one after another. The loop keeps: what is still to be read makes the whole answer.
use Rattle.std.proofs.Common.{◌-◌}
use Rattle.encoding.specs.Result.{times}
use Rattle.encoding.specs.Proxy.{endpoint as endpoint-of}
use Rattle.wire.specs.Steps.{step_of}
use Rattle.wire.specs.StepLaws.{Left}
use Rattle.proxy.proofs.endpoint_list.Given as goal

abbrev pub invariant-loop-i : goal.invariant-loop-i
invariant-loop-i l = Left l.s (step_of (times l.n endpoint-of l.s)) (times (l.n - l.i) endpoint-of) l.at
