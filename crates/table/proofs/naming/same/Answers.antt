-- The loop's invariant: what is left to compare decides the answer. Assumes nothing.
use native.Mathlib.Omega.{arith}
use Rattle.table.proofs.Labels.{same_lengths, same_begin, same_long, same_last, long_stop}
use Rattle.table.proofs.naming.same.Goals as goal

pub returns-then-n-b : goal.returns-then-n-b
returns-then-n-b c = same_lengths _ _ (λ e. omega arith)

pub loop-k-init : goal.loop-k-init
loop-k-init c = same_begin _ _ (omega arith)

pub returns-then-long_in : goal.returns-then-long_in
returns-then-long_in c = search long_stop

pub loop-k-preserved : goal.loop-k-preserved
loop-k-preserved c =
    same_long _ _ (λ j. omega (arith, c.type_inv.a j)) (λ j. omega (arith, c.type_inv.b j)) _ c.loop-k.invariant (omega arith) _ _ c.long_in.ensures c.long_in-in-loop-k.ensures c.if-long_in.false

pub returns : goal.returns
returns c = same_last _ _ (λ j. omega (arith, c.type_inv.a j)) (λ j. omega (arith, c.type_inv.b j)) _ c.loop-k.invariant (omega arith) _ (omega arith) (omega arith) _ _ c.long_in-2.ensures c.long_in-3.ensures
