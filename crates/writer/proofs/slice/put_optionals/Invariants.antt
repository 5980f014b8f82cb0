-- The loop's invariant: the rows from the next on give the pieces still to be put. Assumes nothing.
use Prim.Native.Nat.{◌-◌}
use mathlib.Core.Path.{◌≡◌}
use mathlib.Core.List.{[]}
use mathlib.Core.Bool.{true}
use lib.ListN.{length}
use Rattle.pieces.specs.Cursors.{may_at}
use Rattle.writer.specs.Slices.{Grouping}
use Rattle.writer.proofs.slice.put_optionals.Given as goal

abbrev pub invariant-loop-i : goal.invariant-loop-i
invariant-loop-i l = (length l.out ≡ length l.initial.out) × Grouping l.table l.old l.rows l.buffer true l.count (may_at l.table l.o 0) l.from l.start l.initial.out [] (may_at l.table l.o l.least) l.at l.i l.optionals l.out
