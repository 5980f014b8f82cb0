-- Strings one after another. The loop keeps: what is still to be read makes the whole answer.
use Rattle.std.proofs.Common.{◌-◌}
use Rattle.encoding.specs.Result.{times}
use Rattle.encoding.specs.Proxy.{text as text_of}
use Rattle.wire.specs.Steps.{step_of}
use Rattle.wire.specs.StepLaws.{Left}
use Rattle.value.proofs.plain.texts.Given as goal

abbrev pub invariant-loop : goal.invariant-loop
invariant-loop l = Left l.s (step_of (times l.n text_of l.s)) (times (l.n - l.counter) text_of) l.at
