-- The loop's invariant: the slices from the owner at hand on are still to be put, and the rows left decide the answer; a parameter list has one owner. The measure is the owner, since a base is smaller. Assumes nothing.
use mathlib.Core.Path.{◌≡◌}
use mathlib.Core.Bool.{true}
use lib.ListN.{length}
use Rattle.writer.proofs.Walks.{Parting}
use Rattle.writer.proofs.message.put_parts.Given as goal

abbrev pub invariant-loop-owner : goal.invariant-loop-owner
invariant-loop-owner l = (length l.out ≡ length l.initial.out) × Parting l.table l.old l.rows l.buffer true l.count l.t l.start l.list l.initial.out l.at l.o l.i l.out

abbrev pub decreases-loop-owner : goal.decreases-loop-owner
decreases-loop-owner l = l.o
