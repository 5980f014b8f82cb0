-- Rows inside are passed four at a time. The loop's invariant: the rows from the one looked at decide the answer.
use Rattle.table.proofs.Chains.{Searching}
use Rattle.table.proofs.chain.has_optional.Given as goal

abbrev pub invariant-loop-i : goal.invariant-loop-i
invariant-loop-i l = Searching l.table l.m l.end l.i
