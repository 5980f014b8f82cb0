-- The endpoints before the wanted one, then that one.
use borrow.Author.Rules.{rules}
use Rattle.std.proofs.Common.{sym, ◌∙◌}
use Rattle.std.proofs.lemmas.Result.{err_from_is_err_and}
use Rattle.locate.proofs.Locating.{passed_fit, passed_bad, next_within, passed_is, passed_wrong_fit, passed_wrong}
use Rattle.locate.proofs.passed.Goals as goal

pub later-requires : goal.later-requires
later-requires c = search (rules, passed_fit)

pub returns-in_err-place : goal.returns-in_err-place
returns-in_err-place c =
    let p = err_from_is_err_and c.from_residual.result c.from_residual.ensures.1 in
    rw (p.1, p.2) (passed_bad _ _ _ _ c.requires _ c.endpoint_list.ensures _ (sym c.later.ensures ∙ c.in_err-place.was))

pub slice_bounds-endpoint-count : goal.slice_bounds-endpoint-count
slice_bounds-endpoint-count c = next_within _ _ c.args.n _ c.requires _ c.endpoint_list.ensures _ (sym c.later.ensures ∙ c.in_ok-place.was)

pub slice_bounds-endpoint-start : goal.slice_bounds-endpoint-start
slice_bounds-endpoint-start c = search (rules, next_within _ _ c.args.n _ c.requires _ c.endpoint_list.ensures _ (sym c.later.ensures ∙ c.in_ok-place.was))

pub behind-requires : goal.behind-requires
behind-requires c = search (rules, passed_wrong_fit _ _ c.args.n _ c.requires _ c.endpoint_list.ensures _ (sym c.later.ensures ∙ c.in_ok-place.was))

pub returns-in-Ok : goal.returns-in-Ok
returns-in-Ok c = passed_is _ _ _ _ c.requires _ c.endpoint_list.ensures _ (sym c.later.ensures ∙ c.in_ok-place.was) _ c.endpoint.ensures _ c.in-Ok.is

pub returns-in-Err : goal.returns-in-Err
returns-in-Err c =
    rw c.behind.ensures (passed_wrong _ _ _ _ c.requires _ c.endpoint_list.ensures _ (sym c.later.ensures ∙ c.in_ok-place.was) _ c.endpoint.ensures _ c.in-Err.is)
