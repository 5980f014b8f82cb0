-- A row is its three numbers, one after another.
use borrow.Author.Rules.{rules}
use Rattle.wire.proofs.RowLaws.{numbers_put}
use Rattle.wire.proofs.rows.put_numbers.Goals as goal

pub returns : goal.returns
returns c = search (rules, numbers_put)
