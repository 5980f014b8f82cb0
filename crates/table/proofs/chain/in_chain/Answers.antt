-- The loop's invariant: the chain from the row at hand decides the answer. The measure is the row number, since a base is smaller.
use mathlib.Core.Path.{refl}
use native.Mathlib.Omega.{arith}
use Rattle.table.proofs.Chains.{top_here, top_end, top_next}
use Rattle.table.proofs.chain.in_chain.Goals as goal

pub loop-o-init : goal.loop-o-init
loop-o-init c = refl

pub returns-then-o-top : goal.returns-then-o-top
returns-then-o-top c = search top_here

pub returns-then-b-eq0 : goal.returns-then-b-eq0
returns-then-b-eq0 c = top_end _ _ _ _ c.loop-o.invariant c.if-o-top.false _ c.base-b.ensures.0 c.if-b-eq0.true

pub overflow_sub-o : goal.overflow_sub-o
overflow_sub-o c = omega arith

pub loop-o-smaller : goal.loop-o-smaller
loop-o-smaller c = omega arith

pub loop-o-preserved : goal.loop-o-preserved
loop-o-preserved c = top_next _ _ _ _ c.loop-o.invariant c.if-o-top.false _ c.base-b.ensures.0 c.if-b-eq0.false
