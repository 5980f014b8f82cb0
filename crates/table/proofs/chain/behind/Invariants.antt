-- The loop's invariant: the rows left to look at decide the answer.
use Rattle.table.proofs.Chains.{Passing}
use Rattle.table.proofs.chain.behind.Given as goal

abbrev pub invariant-loop-i : goal.invariant-loop-i
invariant-loop-i l = Passing l.table l.from l.m l.tag l.i
