-- The loop's invariant: the entries left decide the answer. Assumes nothing.
use Rattle.bursts.proofs.Looking.{Looking}
use Rattle.bursts.proofs.is_late.Given as goal

abbrev pub invariant-loop-j : goal.invariant-loop-j
invariant-loop-j l = Looking l.messages l.before l.m l.j
