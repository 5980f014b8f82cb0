-- The loop's invariant: the slices from the place at hand on decide the answer. The measure is the bytes left. Assumes nothing.
use Prim.Native.Nat.{suc, ◌-◌}
use lib.ListN.{length, drop}
use Rattle.encoding.specs.Table.{name_of}
use Rattle.edit.specs.Place.{seek_slice}
use Rattle.seek.specs.Located.{slot_of}
use Rattle.seek.proofs.Seeking.{Seeks}
use Rattle.seek.proofs.find_slice.Given as goal

abbrev pub invariant-loop-at : goal.invariant-loop-at
invariant-loop-at l = Seeks (name_of l.table l.o) l.m l.start (slot_of (seek_slice (name_of l.table l.o) (suc (length l.m)) l.start (drop l.start l.m))) l.at

abbrev pub decreases-loop-at : goal.decreases-loop-at
decreases-loop-at l = length l.m - l.at
