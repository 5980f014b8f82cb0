-- The loop's invariant: the rows from the one looked at decide the answer.
use Prim.Native.Nat.{◌+◌, ◌*◌}
use Rattle.table.proofs.Chains.{Searching}
use Rattle.table.proofs.chain.past_requireds.Given as goal

abbrev pub invariant-loop-k : goal.invariant-loop-k
invariant-loop-k l = Searching l.table l.m l.end (l.m + 4 * l.k)
