-- The loop's invariant: the rows from the next on give the pieces still to be measured. Assumes nothing.
use Prim.Native.Nat.{◌-◌}
use mathlib.Core.List.{[]}
use mathlib.Core.Bool.{false}
use Rattle.pieces.specs.Cursors.{may_at}
use Rattle.writer.specs.Slices.{Grouping}
use Rattle.writer.proofs.measure.measure_optionals.Given as goal

abbrev pub invariant-loop-i : goal.invariant-loop-i
invariant-loop-i l = Grouping l.table l.old l.rows l.buffer false l.count (may_at l.table l.o 0) l.from l.start [] [] (may_at l.table l.o l.least) l.at l.i l.optionals []
