-- The loop's invariant: the line from the row at hand decides the answer. The measure is the row number, since a base is smaller. Assumes nothing.
use mathlib.Core.Path.{refl}
use native.Mathlib.Omega.{arith}
use Rattle.old.proofs.Laws.{above_here, above_end, above_next}
use Rattle.old.proofs.above.Goals as goal

pub loop-begin-init : goal.loop-begin-init
loop-begin-init c = refl

pub returns-then-bars : goal.returns-then-bars
returns-then-bars c = search above_here

pub returns-then-b-eq0 : goal.returns-then-b-eq0
returns-then-b-eq0 c = search above_end

pub overflow_sub-o : goal.overflow_sub-o
overflow_sub-o c = omega arith

pub loop-begin-smaller : goal.loop-begin-smaller
loop-begin-smaller c = omega arith

pub loop-begin-preserved : goal.loop-begin-preserved
loop-begin-preserved c = search above_next
