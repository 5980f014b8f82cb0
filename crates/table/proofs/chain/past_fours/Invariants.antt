-- The loop's invariant: the row looked at has the same first required row as row m.
use Prim.Native.Nat.{◌+◌, ◌*◌}
use Rattle.table.proofs.Chains.{Skipping}
use Rattle.table.proofs.chain.past_fours.Given as goal

abbrev pub invariant-loop-k : goal.invariant-loop-k
invariant-loop-k l = Skipping l.table l.m l.end (l.m + 4 * l.k)
