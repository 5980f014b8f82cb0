-- Bools one after another, the first of them judged together. The loop keeps: what is still to be read makes the whole answer. Assumes nothing.
use Rattle.std.proofs.Common.{◌-◌}
use Rattle.encoding.specs.Result.{times}
use Rattle.encoding.specs.Number.{bool as bool-of}
use Rattle.wire.specs.Steps.{step_of}
use Rattle.wire.specs.StepLaws.{Left}
use Rattle.value.proofs.plain.bools.Given as goal

abbrev pub invariant-loop : goal.invariant-loop
invariant-loop l = Left l.s (step_of (times l.n bool-of l.s)) (times (l.n - l.counter) bool-of) l.at
