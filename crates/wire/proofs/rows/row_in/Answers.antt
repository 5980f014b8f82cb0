-- The row is read from its own 12 bytes. Assumes nothing.
use borrow.Author.Rules.{rules}
use Rattle.wire.proofs.RowLaws.{row_read}
use Rattle.wire.proofs.rows.row_in.Goals as goal

pub returns : goal.returns
returns c = search (rules, row_read)
