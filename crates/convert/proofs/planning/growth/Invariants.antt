-- The loop's invariant: the bases of the row at hand are still to be counted. The measure is the row, since a base is smaller. Assumes nothing.
use Rattle.convert.proofs.Growing.{Growing}
use Rattle.convert.proofs.planning.growth.Given as goal

abbrev pub invariant-loop-begin : goal.invariant-loop-begin
invariant-loop-begin l = Growing l.table l.t l.n l.o

abbrev pub decreases-loop-begin : goal.decreases-loop-begin
decreases-loop-begin l = l.o
