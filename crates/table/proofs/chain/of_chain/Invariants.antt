-- The loop's invariant: the chain from the row at hand decides the answer. The measure is the row number, since a base is smaller. Assumes nothing.
use mathlib.Core.Path.{◌≡◌}
use Rattle.encoding.specs.Table.{any, takes, chain}
use Rattle.table.proofs.chain.of_chain.Given as goal

abbrev pub invariant-loop-t : goal.invariant-loop-t
invariant-loop-t l = any (λ r. takes l.table r l.m) (chain l.table l.t) ≡ any (λ r. takes l.table r l.m) (chain l.table l.o)

abbrev pub decreases-loop-t : goal.decreases-loop-t
decreases-loop-t l = l.o
