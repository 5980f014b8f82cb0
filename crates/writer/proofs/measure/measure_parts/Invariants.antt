-- The loop's invariant: the slices from the owner at hand on are still to be measured, and the rows left decide the answer; a parameter list has one owner. The measure is the owner, since a base is smaller. Assumes nothing.
use mathlib.Core.Bool.{false}
use mathlib.Core.List.{[]}
use Rattle.writer.proofs.Walks.{Parting}
use Rattle.writer.proofs.measure.measure_parts.Given as goal

abbrev pub invariant-loop-owner : goal.invariant-loop-owner
invariant-loop-owner l = Parting l.table l.old l.rows l.buffer false l.count l.t l.start l.list [] l.at l.o l.i []

abbrev pub decreases-loop-owner : goal.decreases-loop-owner
decreases-loop-owner l = l.o
