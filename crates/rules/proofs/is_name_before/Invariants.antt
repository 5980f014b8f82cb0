-- The rows left to look at decide the answer. Assumes nothing.
use Rattle.rules.proofs.Judging.{Before}
use Rattle.rules.proofs.is_name_before.Given as goal

abbrev pub invariant-loop-r : goal.invariant-loop-r
invariant-loop-r l = Before l.table l.name l.from l.t l.r
