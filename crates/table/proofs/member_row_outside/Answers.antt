-- Each field by its look-up; the zero byte from the part that begins at the member row.
use borrow.Author.Rules.{rules}
use Rattle.table.proofs.Places.{member_spare_is, rest_shows}
use Rattle.table.proofs.member_row_outside.Goals as goal

pub returns : goal.returns
returns c = search (rules, member_spare_is, rest_shows)
