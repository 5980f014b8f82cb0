-- By what flags and ID mean, then by the declared length. Assumes nothing.
use borrow.Author.Rules.{rules}
use Rattle.std.proofs.lemmas.Result.{err_from_is_err_and}
use Rattle.slices.proofs.Steps.{opening_wrong, opening_compact, opening_skip, opening_unskipped, opening_sliced, opening_unsized, skip_within, known_within, declared_fits, size_fits}
use Rattle.slices.proofs.walks.opening.Goals as goal

pub returns-in_err-head : goal.returns-in_err-head
returns-in_err-head c = search (rules, opening_wrong, c.in_err-head.was)

pub slice_bounds-read_declared-count : goal.slice_bounds-read_declared-count
slice_bounds-read_declared-count c = search (rules, skip_within, c.in_ok-head.was)

pub slice_bounds-read_declared-start : goal.slice_bounds-read_declared-start
slice_bounds-read_declared-start c = search (rules, skip_within, c.in_ok-head.was)

pub later-requires : goal.later-requires
later-requires c = search (rules, declared_fits, skip_within, c.in_ok-head.was)

pub returns-in_err-end-in-Skip : goal.returns-in_err-end-in-Skip
returns-in_err-end-in-Skip c =
    let p = err_from_is_err_and c.from_residual-in_err-end-in-Skip.result c.from_residual-in_err-end-in-Skip.ensures.1 in
    rw (p.1, p.2) (search (opening_unskipped, c.in_ok-head.was, c.in_err-end-in-Skip.was))

pub returns-in_ok-end-in-Skip : goal.returns-in_ok-end-in-Skip
returns-in_ok-end-in-Skip c = search (opening_skip, c.in_ok-head.was, c.in_ok-end-in-Skip.was)

pub slice_bounds-read_declared-count-then-sliced : goal.slice_bounds-read_declared-count-then-sliced
slice_bounds-read_declared-count-then-sliced c = search (rules, known_within, c.in_ok-head.was)

pub slice_bounds-read_declared-start-then-sliced : goal.slice_bounds-read_declared-start-then-sliced
slice_bounds-read_declared-start-then-sliced c = search (rules, known_within, c.in_ok-head.was)

pub later-requires-then-sliced : goal.later-requires-then-sliced
later-requires-then-sliced c = search (rules, declared_fits, known_within, c.in_ok-head.was)

pub returns-in_err-end-in-Known : goal.returns-in_err-end-in-Known
returns-in_err-end-in-Known c =
    let p = err_from_is_err_and c.from_residual-in_err-end-in-Known.result c.from_residual-in_err-end-in-Known.ensures.1 in
    rw (p.1, p.2) (search (opening_unsized, c.in_ok-head.was, c.in_err-end-in-Known.was))

pub overflow_add-result : goal.overflow_add-result
overflow_add-result c = search (rules, size_fits, known_within, c.in_ok-head.was, c.in_ok-end-in-Known.was)

pub returns-then-sliced : goal.returns-then-sliced
returns-then-sliced c = search (opening_sliced, c.in_ok-head.was, c.in_ok-end-in-Known.was)

pub returns-else-sliced : goal.returns-else-sliced
returns-else-sliced c = search (opening_compact, c.in_ok-head.was)
