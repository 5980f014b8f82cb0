-- A string with its own size is read once. Any other value is read in just the bytes that the part delivers, which lie in those at hand; it takes all of them, or it is refused.
use borrow.Author.Rules.{rules}
use Rattle.std.proofs.lemmas.Result.{err_from_is_err_and}
use Rattle.level.proofs.Parts.{part_start, part_end, used_none, used_wide, used_text, used_all, used_less, used_bad, used_fits}
use Rattle.level.proofs.optionals.used_up.Goals as goal

pub returns-then-is_text : goal.returns-then-is_text
returns-then-is_text c = search used_text

pub returns-in_err-part : goal.returns-in_err-part
returns-in_err-part c = search (rules, used_none, c.in_err-part.was)

pub returns-then-w-part : goal.returns-then-w-part
returns-then-w-part c = search (used_wide, c.in_ok-part.was)

pub overflow_sub-start : goal.overflow_sub-start
overflow_sub-start c = search (rules, part_start, c.in_ok-part.was)

pub slice_bounds-read_value-end : goal.slice_bounds-read_value-end
slice_bounds-read_value-end c = search (rules, part_end, c.in_ok-part.was)

pub later-requires : goal.later-requires
later-requires c = search (rules, used_fits, c.in_ok-part.was)

pub returns-in_err-end : goal.returns-in_err-end
returns-in_err-end c =
    let p = err_from_is_err_and c.from_residual-in_err-end.result c.from_residual-in_err-end.ensures.1 in
    rw (p.1, p.2) (search (used_bad, c.in_ok-part.was, c.in_err-end.was))

pub returns-then-end-part : goal.returns-then-end-part
returns-then-end-part c = search (used_less, c.in_ok-part.was, c.in_ok-end.was)

pub returns : goal.returns
returns c = search (used_all, c.in_ok-part.was, c.in_ok-end.was)
