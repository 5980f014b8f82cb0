-- The rows left to look at decide the answer.
use Rattle.old.proofs.Laws.{Rows}
use Rattle.old.proofs.below.Given as goal

abbrev pub invariant-loop-t : goal.invariant-loop-t
invariant-loop-t l = Rows l.table l.top l.n l.t
