-- The ID, which lies within the bytes at hand; then by what it means. Assumes nothing.
use borrow.Author.Rules.{rules}
use Rattle.pairs.proofs.Steps.{id_length, id_order, id_within, opening_named, opening_meant, opening_unnamed}
use Rattle.pairs.proofs.walks.opening.Goals as goal

pub returns-in_err-id : goal.returns-in_err-id
returns-in_err-id c = search (rules, opening_unnamed, c.in_err-id.was)

pub overflow_sub-start : goal.overflow_sub-start
overflow_sub-start c = search (id_length, c.in_ok-id.was)

pub slice_bounds-meaning-count : goal.slice_bounds-meaning-count
slice_bounds-meaning-count c = search (id_order, c.in_ok-id.was)

pub slice_bounds-meaning-start : goal.slice_bounds-meaning-start
slice_bounds-meaning-start c = search (rules, id_order, c.in_ok-id.was)

pub slice_bounds-meaning-end : goal.slice_bounds-meaning-end
slice_bounds-meaning-end c = search (rules, id_within, c.in_ok-id.was)

pub returns-in_err-meant : goal.returns-in_err-meant
returns-in_err-meant c = search (rules, opening_meant, c.in_ok-id.was, c.in_err-meant.was)

pub entered-requires : goal.entered-requires
entered-requires c = search (id_within, c.in_ok-id.was)

pub returns : goal.returns
returns c = search (opening_named, c.in_ok-id.was, c.in_ok-meant.was)
