-- In the part that begins at the row; a field past half the table's length is past its end.
use borrow.Author.Rules.{rules}
use Rattle.table.proofs.Places.{field_past, field_within, rest_shows}
use Rattle.table.proofs.field.Goals as goal

pub returns-then-table-i : goal.returns-then-table-i
returns-then-table-i c = search (rules, field_past, field_within, rest_shows)

pub returns : goal.returns
returns c = search (rules, field_past, field_within, rest_shows)
