-- The loop's invariant: the answer and the list follow from the rows that are left, and rows put over those that were put make the list as it was. Assumes nothing.
use borrow.Author.Rules.{rules}
use native.Mathlib.Omega.{arith}
use Rattle.level.specs.FillLaws.{covered_none, covered_next}
use Rattle.level.proofs.Plain.{row_within, row_inside, simple_begin, simple_next, simple_room}
use Rattle.level.proofs.simples.Goals as goal

pub loop-m-init : goal.loop-m-init
loop-m-init c = (search rules, search rules, search simple_begin, search covered_none)

pub simple-w-requires-clause-m_bound : goal.simple-w-requires-clause-m_bound
simple-w-requires-clause-m_bound c = search row_within

pub simple-w-requires-clause-m_in_bounds : goal.simple-w-requires-clause-m_in_bounds
simple-w-requires-clause-m_in_bounds c = search row_inside

pub overflow_add-at : goal.overflow_add-at
overflow_add-at c = omega arith

pub overflow_add-k : goal.overflow_add-k
overflow_add-k c = omega arith

pub overflow_add-pos : goal.overflow_add-pos
overflow_add-pos c = search simple_room

pub loop-m-preserved : goal.loop-m-preserved
loop-m-preserved c = (search rules, search rules, search simple_next, search (covered_next _ _ _ _ c.loop-m.invariant.3))
