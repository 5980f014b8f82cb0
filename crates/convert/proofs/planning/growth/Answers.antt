-- The loop's invariant: the bases of the row at hand are still to be counted. The measure is the row, since a base is smaller. Assumes nothing.
use native.Mathlib.Omega.{arith}
use borrow.Author.Rules.{rules}
use Rattle.convert.proofs.Growing.{growing_begin, growing_end, growing_few, growing_next}
use Rattle.convert.proofs.planning.growth.Goals as goal

pub loop-begin-init : goal.loop-begin-init
loop-begin-init c = search growing_begin

pub returns-then-up-eq0 : goal.returns-then-up-eq0
returns-then-up-eq0 c = (search growing_end, search growing_few)

pub overflow_sub-o : goal.overflow_sub-o
overflow_sub-o c = omega arith

pub overflow_add-n-in-loop-begin : goal.overflow_add-n-in-loop-begin
overflow_add-n-in-loop-begin c = search (rules, growing_few)

pub loop-begin-smaller : goal.loop-begin-smaller
loop-begin-smaller c = omega arith

pub loop-begin-preserved : goal.loop-begin-preserved
loop-begin-preserved c = search growing_next
