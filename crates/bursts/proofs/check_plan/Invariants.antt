-- The loop's invariant (`Passed`): what the pass knows of the entries so far; the entries left decide the answer. Assumes nothing.
use Rattle.bursts.proofs.Judging.{Passed}
use Rattle.bursts.proofs.check_plan.Given as goal

abbrev pub invariant-loop-i : goal.invariant-loop-i
invariant-loop-i l = Passed l.messages l.entries l.i l.above l.last l.left
