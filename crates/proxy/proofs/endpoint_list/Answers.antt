-- Endpoints one after another. The loop keeps: what is still to be read makes the whole answer.
use borrow.Author.Rules.{rules}
use Rattle.std.proofs.Common.{sym, ◌∙◌}
use Rattle.std.proofs.lemmas.Result.{err_from_is_err_and}
use Rattle.encoding.specs.Proxy.{endpoint as endpoint-of}
use Rattle.wire.specs.StepLaws.{Left, each_begin, each_later_next, each_later_fault, each_done}
use Rattle.encoding.proofs.ValueLaws.{held_endpoint}
use Rattle.wire.proofs.Sums.{later_fits}
use Rattle.proxy.proofs.endpoint_list.Goals as goal

pub loop-i-init : goal.loop-i-init
loop-i-init c = search (each_begin endpoint-of held_endpoint)

pub slice_bounds-endpoint-count : goal.slice_bounds-endpoint-count
slice_bounds-endpoint-count c = search (rules, Left.inside)

pub later-requires : goal.later-requires
later-requires c = search (rules, later_fits endpoint-of held_endpoint, Left.inside)

pub returns-in_err-at : goal.returns-in_err-at
returns-in_err-at c =
    let p = err_from_is_err_and c.from_residual.result c.from_residual.ensures.1 in
    rw (p.1, p.2) (each_later_fault endpoint-of held_endpoint _ _ _ _ _ c.loop-i.invariant c.loop-i-test.true _ c.endpoint.ensures _ (sym c.later.ensures ∙ c.in_err-at.was))

pub loop-i-preserved : goal.loop-i-preserved
loop-i-preserved c =
    each_later_next endpoint-of held_endpoint _ _ _ _ _ c.loop-i.invariant c.loop-i-test.true _ c.endpoint.ensures _ (sym c.later.ensures ∙ c.in_ok-at.was)

pub returns : goal.returns
returns c = search (each_done endpoint-of held_endpoint)
