-- The declared bytes, which the version and the fields use up.
use borrow.Author.Rules.{rules}
use Rattle.std.proofs.Common.{sym, ◌∙◌}
use Rattle.std.proofs.lemmas.Result.{err_from_is_err_and}
use Rattle.endpoint.proofs.Laws.{enclosed_none, enclosed_end, enclosed_start, enclosed_fit, enclosed_are, enclosed_left, enclosed_bad}
use Rattle.endpoint.proofs.fields.enclosed.Goals as goal

pub returns-in_err-n : goal.returns-in_err-n
returns-in_err-n c = search (rules, enclosed_none, c.in_err-n.was)

pub later-requires : goal.later-requires
later-requires c = search (rules, enclosed_fit, c.in_ok-n.was)

pub slice_bounds-versioned-count : goal.slice_bounds-versioned-count
slice_bounds-versioned-count c = search (rules, enclosed_start, c.in_ok-n.was)

pub slice_bounds-versioned-start : goal.slice_bounds-versioned-start
slice_bounds-versioned-start c = search (rules, enclosed_start, c.in_ok-n.was)

pub slice_bounds-versioned-end : goal.slice_bounds-versioned-end
slice_bounds-versioned-end c = search (rules, enclosed_end, c.in_ok-n.was)

pub returns-in_err-fields : goal.returns-in_err-fields
returns-in_err-fields c =
    let p = err_from_is_err_and c.from_residual-in_err-fields.result c.from_residual-in_err-fields.ensures.1 in
    rw (p.1, p.2) (enclosed_bad _ _ _ c.read_declared.ensures _ c.in_ok-n.was _ c.versioned.ensures _ (sym c.later.ensures ∙ c.in_err-fields.was))

pub returns-then-fields-n : goal.returns-then-fields-n
returns-then-fields-n c = enclosed_left _ _ _ c.read_declared.ensures _ c.in_ok-n.was _ c.versioned.ensures _ (sym c.later.ensures ∙ c.in_ok-fields.was) c.if-fields-n.true

pub returns : goal.returns
returns c = enclosed_are _ _ _ c.read_declared.ensures _ c.in_ok-n.was _ c.versioned.ensures _ (sym c.later.ensures ∙ c.in_ok-fields.was) c.if-fields-n.false
