-- A row of the table: what is read quickly, or a value of that row, among the rows that have a tree.
use borrow.Author.Rules.{rules}
use Rattle.value.proofs.CycleLaws.{row_again}
use Rattle.value.proofs.QuickLaws.{quick_took}
use Rattle.value.proofs.read_value.Goals as goal

pub returns : goal.returns
returns c = search (rules, quick_took, row_again)
