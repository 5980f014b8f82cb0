-- The loop keeps: what is still to be read makes the whole answer; 0 says nothing.
use Rattle.std.proofs.Common.{◌-◌}
use Rattle.encoding.specs.Result.{times}
use Rattle.wire.specs.Steps.{step_of}
use Rattle.wire.specs.StepLaws.{Left}
use Rattle.value.specs.Parts.{text_entry}
use Rattle.value.proofs.quick.text_pairs.Given as goal

abbrev pub invariant-loop : goal.invariant-loop
invariant-loop l = Left l.s (step_of (times l.n (text_entry l.w) l.s)) (times (l.n - l.counter) (text_entry l.w)) l.at
