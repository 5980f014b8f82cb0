-- The loop's invariant: the chain from the row at hand decides the answer. The measure is the row number, since a base is smaller. Assumes nothing.
use lib.Dec.{eqb}
use mathlib.Core.Path.{◌≡◌}
use Rattle.encoding.specs.Table.{any, chain}
use Rattle.table.proofs.chain.in_chain.Given as goal

abbrev pub invariant-loop-o : goal.invariant-loop-o
invariant-loop-o l = any (λ r. eqb r l.top) (chain l.table l.t) ≡ any (λ r. eqb r l.top) (chain l.table l.o)

abbrev pub decreases-loop-o : goal.decreases-loop-o
decreases-loop-o l = l.o
