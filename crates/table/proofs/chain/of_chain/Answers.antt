-- The loop's invariant: the chain from the row at hand decides the answer. The measure is the row number, since a base is smaller.
use mathlib.Core.Path.{refl}
use native.Mathlib.Omega.{arith}
use Rattle.table.proofs.Chains.{owner_here, owner_end, owner_next}
use Rattle.table.proofs.chain.of_chain.Goals as goal

pub loop-t-init : goal.loop-t-init
loop-t-init c = refl

pub returns-then-takes : goal.returns-then-takes
returns-then-takes c = search owner_here

pub returns-then-b-eq0 : goal.returns-then-b-eq0
returns-then-b-eq0 c = search owner_end

pub overflow_sub-o : goal.overflow_sub-o
overflow_sub-o c = omega arith

pub loop-t-smaller : goal.loop-t-smaller
loop-t-smaller c = omega arith

pub loop-t-preserved : goal.loop-t-preserved
loop-t-preserved c = owner_next _ _ _ _ c.loop-t.invariant _ c.takes.ensures c.if-takes.false _ c.base-b.ensures.0 c.if-b-eq0.false
