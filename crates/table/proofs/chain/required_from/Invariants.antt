-- Rows inside are passed four at a time. The loop's invariant: the row looked at has the same first required row as row m.
use Rattle.table.proofs.Chains.{Skipping}
use Rattle.table.proofs.chain.required_from.Given as goal

abbrev pub invariant-loop-i : goal.invariant-loop-i
invariant-loop-i l = Skipping l.table l.m l.end l.i
