-- The loop's invariant: the answer and the list follow from the rows that are left. The measure is their number. Assumes nothing.
use borrow.Author.Rules.{rules}
use Rattle.std.proofs.lemmas.Result.{err_from_is_err_and}
use native.Mathlib.Omega.{arith}
use Rattle.optional.proofs.Lookups.{typed}
use Rattle.level.proofs.Requireds.{due_begin, due_run, due_next, due_fault, due_never, due_says, due_gives, due_fits}
use Rattle.level.proofs.required.Goals as goal

pub loop-m-init : goal.loop-m-init
loop-m-init c = search (rules, due_begin)

pub member_row_from-row-requires-clause-first_bound : goal.member_row_from-row-requires-clause-first_bound
member_row_from-row-requires-clause-first_bound c = (search rules, omega arith)

pub overflow_add-at : goal.overflow_add-at
overflow_add-at c = omega arith

pub overflow_add-k : goal.overflow_add-k
overflow_add-k c = omega arith

pub overflow_add-m : goal.overflow_add-m
overflow_add-m c = omega arith

pub overflow_add-m-else-row-eq0 : goal.overflow_add-m-else-row-eq0
overflow_add-m-else-row-eq0 c = omega arith

pub required_from-m-requires-clause-m_le_end : goal.required_from-m-requires-clause-m_le_end
required_from-m-requires-clause-m_le_end c = omega arith

pub loop-m-smaller : goal.loop-m-smaller
loop-m-smaller c = omega arith

pub loop-m-preserved : goal.loop-m-preserved
loop-m-preserved c = (search rules, search rules, search due_run)

pub returns-clause-value : goal.returns-clause-value
returns-clause-value c = search due_says

pub returns-clause-out_after : goal.returns-clause-out_after
returns-clause-out_after c = search due_gives

pub put_member-answer-requires : goal.put_member-answer-requires
put_member-answer-requires c = search (rules, c.requires)

pub later-requires : goal.later-requires
later-requires c = search (due_fits _ _ _ _ _ _ _ _ _ _ _ _ _ c.loop-m.invariant.2, typed, c.member_row_from-row.ensures.mark_is, c.member_row_from-row.ensures.of_is, c.members-all.ensures.0, c.loop-m.invariant.0)

pub returns-in_err-pos-clause-value : goal.returns-in_err-pos-clause-value
returns-in_err-pos-clause-value c =
    let p = err_from_is_err_and c.from_residual.result c.from_residual.ensures.1 in
    rw (p.1, p.2) (search (due_fault _ _ _ _ _ _ _ _ _ _ _ _ _ c.loop-m.invariant.2, typed, c.member_row_from-row.ensures.mark_is, c.member_row_from-row.ensures.of_is, c.members-all.ensures.0, c.loop-m.invariant.0, c.in_err-pos.was))

pub returns-in_err-pos-clause-out_after : goal.returns-in_err-pos-clause-out_after
returns-in_err-pos-clause-out_after c = λ ps n e. search (due_never _ _ _ _ _ _ _ _ _ _ _ _ _ c.loop-m.invariant.2, typed, c.member_row_from-row.ensures.mark_is, c.member_row_from-row.ensures.of_is, c.members-all.ensures.0, c.loop-m.invariant.0, c.in_err-pos.was, e)

pub loop-m-preserved-then-row-eq0 : goal.loop-m-preserved-then-row-eq0
loop-m-preserved-then-row-eq0 c = (search rules, search rules, search (due_next _ _ _ _ _ _ _ _ _ _ _ _ _ c.loop-m.invariant.2, typed, c.member_row_from-row.ensures.mark_is, c.member_row_from-row.ensures.of_is, c.members-all.ensures.0, c.loop-m.invariant.0, c.in_ok-pos.was))
