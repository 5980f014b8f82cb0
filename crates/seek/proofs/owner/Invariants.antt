-- The loop's invariant: the chain from the row at hand decides the answer. The measure is the row number, since a base is smaller. Assumes nothing.
use mathlib.Core.Path.{◌≡◌}
use Rattle.table.specs.Found.{found_of}
use Rattle.edit.specs.Change.{target}
use Rattle.seek.specs.Located.{target_row}
use Rattle.seek.proofs.owner.Given as goal

abbrev pub invariant-loop-begin : goal.invariant-loop-begin
invariant-loop-begin l = found_of (target_row (target l.table l.t l.m)) ≡ found_of (target_row (target l.table l.o l.m))

abbrev pub decreases-loop-begin : goal.decreases-loop-begin
decreases-loop-begin l = l.o
