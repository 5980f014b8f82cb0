-- The loop's invariant: the slices from the owner at hand on are still to be put. The measure is the owner, since a base is smaller. Assumes nothing.
use mathlib.Core.Path.{◌≡◌}
use lib.ListN.{length}
use Rattle.convert.proofs.Moving.{Moving}
use Rattle.convert.proofs.slice.put_slices.Given as goal

abbrev pub invariant-loop-s : goal.invariant-loop-s
invariant-loop-s l = (length l.out ≡ length l.initial.out) × Moving l.table l.message l.list l.n l.t l.at l.initial.out l.o l.i l.p l.to l.front l.out

abbrev pub decreases-loop-s : goal.decreases-loop-s
decreases-loop-s l = l.o
