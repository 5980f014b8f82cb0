-- The loop's invariant: so many member rows are passed, and the rows from the next on give the pieces still to be put, after the bytes that wait. Assumes nothing.
use Prim.Native.Nat.{◌+◌, ◌-◌, ◌≤◌}
use mathlib.Core.Path.{◌≡◌}
use mathlib.Core.Bool.{true, false}
use lib.ListN.{length, take, drop}
use Rattle.pieces.specs.Cursors.{due_at}
use Rattle.writer.specs.Slices.{Grouping}
use Rattle.writer.proofs.slice.put_requireds.Given as goal

abbrev pub invariant-loop-k : goal.invariant-loop-k
invariant-loop-k l = (length l.out ≡ length l.initial.out) × (l.k ≤ l.b) × (l.place + l.len ≤ 65536) × Grouping l.table l.old l.rows l.buffer true l.count (due_at l.o 0) l.from l.start l.initial.out (take l.len (drop l.place l.buffer)) (due_at l.o l.k) l.at l.i false l.out
