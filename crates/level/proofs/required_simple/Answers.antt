-- The members that may be any bytes are read first. If no required row is left then, or none after a sequence, they are all of them; else `required` begins anew, and its rows are put over those that were put. Assumes nothing.
use borrow.Author.Rules.{rules}
use native.Mathlib.Omega.{arith}
use Rattle.level.proofs.Plain.{limit_whole, last_says, last_gives, log_place, log_room, log_count, log_says, log_gives, log_anew}
use Rattle.level.proofs.required_simple.Goals as goal

-- the sums after a sequence, the answer, and the answer where nothing was put: the facts come from the calls before
pub overflow_add-result : goal.overflow_add-result
overflow_add-result c = log_room _ _ _ _ _ _ _ _ _ _ _ c.simples-r.ensures.due _ c.required_from.ensures.1.0 c.required_from.ensures.1.1 c.if-required_from-end.false _ _ c.last_log-n.ensures c.if-n-ne0.true c.requires.s_bound.0

pub overflow_add-result-then-n-ne0 : goal.overflow_add-result-then-n-ne0
overflow_add-result-then-n-ne0 c = log_count _ _ _ _ _ _ _ _ _ _ _ c.simples-r.ensures.due c.requires.s_bound.1

pub returns-then-n-ne0-clause-value : goal.returns-then-n-ne0-clause-value
returns-then-n-ne0-clause-value c = log_says _ _ _ _ _ _ _ _ _ _ _ c.simples-r.ensures.due _ c.required_from.ensures.1.0 c.required_from.ensures.1.1 c.if-required_from-end.false _ _ c.last_log-n.ensures c.if-n-ne0.true

pub returns-then-n-ne0-clause-out_after : goal.returns-then-n-ne0-clause-out_after
returns-then-n-ne0-clause-out_after c = log_gives _ _ _ _ _ _ _ _ _ _ _ c.simples-r.ensures.due _ c.required_from.ensures.1.0 c.required_from.ensures.1.1 c.if-required_from-end.false _ _ c.last_log-n.ensures c.if-n-ne0.true

pub returns-clause-out_after : goal.returns-clause-out_after
returns-clause-out_after c = log_anew _ _ _ _ _ _ _ _ _ _ _ c.simples-r.ensures.due _ c.required_from.ensures.1.0 c.required_from.ensures.1.1 c.if-required_from-end.false _ _ c.last_log-n.ensures c.if-n-ne0.false c.simples-r.ensures.covered _ c.required-2.ensures.out_after

pub simples-r-requires-clause-whole : goal.simples-r-requires-clause-whole
simples-r-requires-clause-whole c = search limit_whole

pub returns-then-required_from-end-clause-value : goal.returns-then-required_from-end-clause-value
returns-then-required_from-end-clause-value c = search last_says

pub returns-then-required_from-end-clause-out_after : goal.returns-then-required_from-end-clause-out_after
returns-then-required_from-end-clause-out_after c = search last_gives

pub overflow_add-at : goal.overflow_add-at
overflow_add-at c = search log_place

pub last_log-n-requires-clause-m_lt_limit : goal.last_log-n-requires-clause-m_lt_limit
last_log-n-requires-clause-m_lt_limit c = omega arith

pub overflow_add-result-then-n-ne0-2 : goal.overflow_add-result-then-n-ne0-2
overflow_add-result-then-n-ne0-2 c = omega arith

pub required-requires-2 : goal.required-requires-2
required-requires-2 c = search (rules, c.requires)
