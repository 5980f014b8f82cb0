-- The members left decide the answer, and the tags before are below `above`. Assumes nothing.
use Rattle.std.proofs.Common.{◌≡◌}
use Rattle.rules.proofs.Judging.{Owner}
use Rattle.rules.proofs.owner.Given as goal

abbrev pub invariant-loop-m : goal.invariant-loop-m
invariant-loop-m l = (l.other ≡ l.m) × Owner l.table l.o l.own l.end l.m l.above

abbrev pub invariant-loop-m-2 : goal.invariant-loop-m-2
invariant-loop-m-2 l = Owner l.table l.o l.own l.end l.m l.above
