-- The loop's invariant: the line from the row at hand decides the answer. The measure is the row number, since a base is smaller. Assumes nothing.
use lib.Dec.{ltb}
use mathlib.Core.Path.{◌≡◌}
use mathlib.Core.Bool.{◌&&◌}
use Rattle.encoding.specs.Table.{types, any, optional_members, chain}
use Rattle.encoding.specs.Old.{any_of}
use Rattle.old.proofs.above.Given as goal

abbrev pub invariant-loop-begin : goal.invariant-loop-begin
invariant-loop-begin l = any (λ r. ltb r (types l.table) && any_of (optional_members l.table r)) (chain l.table l.top) ≡ any (λ r. ltb r (types l.table) && any_of (optional_members l.table r)) (chain l.table l.o)

abbrev pub decreases-loop-begin : goal.decreases-loop-begin
decreases-loop-begin l = l.o
