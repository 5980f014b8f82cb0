-- The loop's invariant: the outcome follows from the optionals ahead. The measure is the bytes left. Assumes nothing.
use mathlib.Core.Path.{◌≡◌}
use lib.ListN.{length}
use Prim.Native.Nat.{◌-◌}
use Rattle.slices.specs.Left.{listing}
use Rattle.reader.specs.Listing.{Listing}
use Rattle.reader.proofs.lists.quick.Given as goal

abbrev pub invariant-loop-at : goal.invariant-loop-at
invariant-loop-at l = (length l.out ≡ length l.initial.out) × Listing l.table l.top l.m (listing l.table l.top l.m l.start 0 l.rows 0 l.initial.out) l.stop l.at l.least l.row l.count 0 l.out

abbrev pub decreases-loop-at : goal.decreases-loop-at
decreases-loop-at l = length l.m - l.at
