-- Strings one after another. The loop keeps: what is still to be read makes the whole answer.
use borrow.Author.Rules.{rules}
use Rattle.std.proofs.Common.{sym, ◌∙◌}
use Rattle.std.proofs.lemmas.Result.{err_from_is_err_and}
use Rattle.encoding.specs.Proxy.{text as text_of}
use Rattle.encoding.proofs.ValueLaws.{held_text}
use Rattle.wire.specs.StepLaws.{each_begin, each_later_next, each_later_fault, each_done}
use Rattle.wire.proofs.Sums.{later_fits}
use Rattle.value.proofs.plain.texts.Goals as goal

pub loop-init : goal.loop-init
loop-init c = search (each_begin text_of held_text)

pub later-requires : goal.later-requires
later-requires c = search (rules, later_fits text_of held_text)

pub returns-in_err-at : goal.returns-in_err-at
returns-in_err-at c =
    let p = err_from_is_err_and c.from_residual.result c.from_residual.ensures.1 in
    rw (p.1, p.2) (each_later_fault text_of held_text _ _ _ _ _ c.loop.invariant c.loop-test.true _ c.read_text.ensures _ (sym c.later.ensures ∙ c.in_err-at.was))

pub loop-preserved : goal.loop-preserved
loop-preserved c = each_later_next text_of held_text _ _ _ _ _ c.loop.invariant c.loop-test.true _ c.read_text.ensures _ (sym c.later.ensures ∙ c.in_ok-at.was)

pub returns : goal.returns
returns c = search (each_done text_of held_text)
