-- The rows so far are plain. Assumes nothing.
use Rattle.onepass.specs.Passing.{PlainRows}
use Rattle.onepass.proofs.plain_members.Given as goal

abbrev pub invariant-loop-k : goal.invariant-loop-k
invariant-loop-k l = PlainRows l.table l.o l.from l.k
