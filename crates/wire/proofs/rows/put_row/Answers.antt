-- A row that fits replaces its 12 bytes.
use borrow.Author.Rules.{rules}
use Rattle.wire.proofs.RowLaws.{row_put, row_over}
use Rattle.wire.proofs.rows.put_row.Goals as goal

pub returns-then-k-out : goal.returns-then-k-out
returns-then-k-out c = search (rules, row_put, row_over)

pub returns-else-k-out : goal.returns-else-k-out
returns-else-k-out c = search (rules, row_put, row_over)
