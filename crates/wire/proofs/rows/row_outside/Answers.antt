-- Each number is read at its place in the row.
use borrow.Author.Rules.{rules}
use Rattle.wire.proofs.RowLaws.{numbers_read}
use Rattle.wire.proofs.rows.row_outside.Goals as goal

pub returns : goal.returns
returns c = search (rules, numbers_read)
