-- The loop's invariant: the entries that are left decide. The measure is their number. Assumes nothing.
use Prim.Native.Nat.{◌-◌}
use Rattle.table.proofs.Searches.{Search}
use Rattle.table.proofs.allowed.searched.Given as goal

abbrev pub invariant-loop-lo : goal.invariant-loop-lo
invariant-loop-lo l = Search l.table l.c l.d l.n l.lo l.hi

abbrev pub decreases-loop-lo : goal.decreases-loop-lo
decreases-loop-lo l = l.hi - l.lo
