-- Enums one after another. The loop keeps: what is still to be read makes the whole answer.
use Rattle.std.proofs.Common.{◌-◌}
use Rattle.encoding.specs.Result.{times}
use Rattle.encoding.specs.Types.{upto as upto-of, enum}
use Rattle.encoding.specs.Value.{value}
use Rattle.encoding.specs.Old.{type_as}
use Rattle.wire.specs.Steps.{step_of}
use Rattle.wire.specs.StepLaws.{Left}
use Rattle.value.proofs.plain.enums.Given as goal

abbrev pub invariant-loop : goal.invariant-loop
invariant-loop l = Left l.s (step_of (times l.n (value (type_as l.old (enum (upto-of l.g)))) l.s)) (times (l.n - l.counter) (value (type_as l.old (enum (upto-of l.g))))) l.at
