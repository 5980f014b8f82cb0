-- The passes in turn; once the type rows and the sum are fine, each owner's member rows are there, and owner by owner they are the member rows in order. Assumes nothing.
use Rattle.std.proofs.lemmas.Result.{err_from_is_err_and}
use borrow.Author.Rules.{rules}
use Rattle.rules.proofs.Judging.{check_header, check_rows, check_all_rows, check_types, check_members}
use Rattle.rules.proofs.check.Goals as goal

pub returns-in_err-placed : goal.returns-in_err-placed
returns-in_err-placed c =
    let p = err_from_is_err_and c.from_residual.result c.from_residual.ensures.1 in
    rw (p.1, p.2) (check_header _ _ c.header.ensures _ c.placed.ensures _ c.in_err-placed.was)

pub type_rows-requires-clause-n_in_bounds : goal.type_rows-requires-clause-n_in_bounds
type_rows-requires-clause-n_in_bounds c = search (rules, check_rows, c.in_ok-placed.was)

pub returns-in_err-type_rows : goal.returns-in_err-type_rows
returns-in_err-type_rows c =
    let p = err_from_is_err_and c.from_residual-in_err-type_rows.result c.from_residual-in_err-type_rows.ensures.1 in
    rw (p.1, p.2) (check_types _ _ c.header.ensures _ c.placed.ensures _ c.in_ok-placed.was _ c.type_rows.ensures _ c.in_err-type_rows.was)

pub member_rows-requires-clause-k_in_bounds : goal.member_rows-requires-clause-k_in_bounds
member_rows-requires-clause-k_in_bounds c = search (rules, check_all_rows, c.in_ok-placed.was)

pub returns : goal.returns
returns c = search (check_members, c.in_ok-placed.was, c.in_ok-type_rows.was)
