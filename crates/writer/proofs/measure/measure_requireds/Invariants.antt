-- The loop's invariant: so many member rows are passed, and the rows from the next on give the pieces still to be measured. Assumes nothing.
use Prim.Native.Nat.{◌-◌, ◌≤◌}
use mathlib.Core.Bool.{false}
use mathlib.Core.List.{[]}
use Rattle.pieces.specs.Cursors.{due_at}
use Rattle.writer.specs.Slices.{Grouping}
use Rattle.writer.proofs.measure.measure_requireds.Given as goal

abbrev pub invariant-loop-k : goal.invariant-loop-k
invariant-loop-k l = (l.k ≤ l.b) × Grouping l.table l.old l.rows l.buffer false l.count (due_at l.o 0) l.from l.start [] [] (due_at l.o l.k) l.at l.i false []
