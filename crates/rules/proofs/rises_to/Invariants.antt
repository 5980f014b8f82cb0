-- The entries left rise from the last one. Assumes nothing.
use Rattle.rules.proofs.Judging.{Rise}
use Rattle.rules.proofs.rises_to.Given as goal

abbrev pub invariant-loop-i : goal.invariant-loop-i
invariant-loop-i l = Rise l.table l.c l.d l.g l.last l.i
