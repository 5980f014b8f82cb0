-- What the pass knows of the entries so far (`Passed`) decides each way out. Assumes nothing.
use borrow.Author.Rules.{rules}
use Rattle.bursts.proofs.Judging.{judged_begin, judged_astray, judged_late, judged_stuck, judged_known, judged_before, judged_next, judged_missing, judged_sound}
use Rattle.bursts.proofs.check_plan.Goals as goal

pub returns-then-not-opens : goal.returns-then-not-opens
returns-then-not-opens c = search judged_astray

pub loop-i-init : goal.loop-i-init
loop-i-init c = search judged_begin

pub returns-in_default : goal.returns-in_default
returns-in_default c = judged_stuck _ _ _ _ _ _ c.loop-i.invariant c.loop-i-test.true _ c.enter.ensures c.in_default.is

pub rise-requires-clause-m_in_bounds : goal.rise-requires-clause-m_in_bounds
rise-requires-clause-m_in_bounds c = judged_known _ _ _ _ _ _ c.loop-i.invariant c.loop-i-test.true _ c.enter.ensures _ c.in-Some.is

pub rise-requires-clause-known : goal.rise-requires-clause-known
rise-requires-clause-known c = judged_before _ _ _ _ _ _ c.loop-i.invariant c.loop-i-test.true

pub returns-in_default-rise : goal.returns-in_default-rise
returns-in_default-rise c = judged_late _ _ _ _ _ _ c.loop-i.invariant c.loop-i-test.true _ c.rise.ensures c.in_default-rise.is

pub loop-i-preserved : goal.loop-i-preserved
loop-i-preserved c = judged_next _ _ _ _ _ _ c.loop-i.invariant c.loop-i-test.true _ c.enter.ensures _ c.in-Some.is _ c.rise.ensures _ c.in-Some-rise.is

pub returns-then-n-count : goal.returns-then-n-count
returns-then-n-count c = search (judged_missing, rules)

pub returns-else-n-count : goal.returns-else-n-count
returns-else-n-count c = search (judged_sound, rules)
