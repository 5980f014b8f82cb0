-- The loop's invariant: the messages left make the rest of the lent list. Assumes nothing.
use Rattle.bursts.proofs.Putting.{Putting}
use Rattle.bursts.proofs.fill.Given as goal

abbrev pub invariant-loop-i : goal.invariant-loop-i
invariant-loop-i l = Putting l.messages l.initial.entries l.entries l.i l.last.number l.last.left
