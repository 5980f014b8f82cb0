-- Enums one after another. The loop keeps: what is still to be read makes the whole answer.
use borrow.Author.Rules.{rules}
use Rattle.std.proofs.Common.{sym, ◌∙◌}
use Rattle.std.proofs.lemmas.Result.{err_from_is_err_and}
use Rattle.value.proofs.CycleLaws.{element_begin, element_next, element_fault, element_done, value_fits}
use Rattle.value.proofs.plain.enums.Goals as goal

pub loop-init : goal.loop-init
loop-init c = search element_begin

pub later-requires : goal.later-requires
later-requires c = search (rules, value_fits)

pub returns-in_err-at : goal.returns-in_err-at
returns-in_err-at c =
    let p = err_from_is_err_and c.from_residual.result c.from_residual.ensures.1 in
    rw (p.1, p.2) (element_fault _ _ _ _ _ _ c.loop.invariant c.loop-test.true _ c.upto.ensures _ (sym c.later.ensures ∙ c.in_err-at.was))

pub loop-preserved : goal.loop-preserved
loop-preserved c = element_next _ _ _ _ _ _ c.loop.invariant c.loop-test.true _ c.upto.ensures _ (sym c.later.ensures ∙ c.in_ok-at.was)

pub returns : goal.returns
returns c = search element_done
