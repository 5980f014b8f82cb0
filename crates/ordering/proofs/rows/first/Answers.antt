-- The loop's invariant: the search goes on from row i. Assumes nothing.
use Rattle.std.proofs.Common.{refl, sym, ◌∙◌}
use Rattle.ordering.proofs.Naming.{finding_end, finding_next, finding_here}
use Rattle.ordering.proofs.rows.first.Goals as goal

pub loop-i-init : goal.loop-i-init
loop-i-init g c = λ f h. refl

pub returns-then-passed-clause-row : goal.returns-then-passed-clause-row
returns-then-passed-clause-row g c = λ f h.
    finding_here f c.args.m c.args.end c.loop-i.i (c.loop-i.invariant f h) c.loop-i-test.true (sym (h _ _ c.loop-i-test.true c.passes-passed.ensures) ∙ c.if-passed.true)

pub loop-i-preserved : goal.loop-i-preserved
loop-i-preserved g c = λ f h.
    finding_next f c.args.m c.args.end c.loop-i.i (c.loop-i.invariant f h) c.loop-i-test.true (sym (h _ _ c.loop-i-test.true c.passes-passed.ensures) ∙ c.if-passed.false)

pub returns-clause-row : goal.returns-clause-row
returns-clause-row g c = λ f h. finding_end f c.args.m c.args.end c.loop-i.i (c.loop-i.invariant f h) c.loop-i-test.false
