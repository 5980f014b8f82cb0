-- The members left decide the answer, and the tags before are below `above`. Assumes nothing.
use Rattle.onepass.proofs.Passing.{Usual}
use Rattle.onepass.proofs.members.Given as goal

abbrev pub invariant-loop-m : goal.invariant-loop-m
invariant-loop-m l = Usual l.table l.o l.end l.m l.above
