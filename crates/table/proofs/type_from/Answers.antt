-- The type is at the start of the member row.
use borrow.Author.Rules.{rules}
use Rattle.table.proofs.Places.{type_here}
use Rattle.table.proofs.type_from.Goals as goal

pub returns : goal.returns
returns c = search (rules, type_here)
