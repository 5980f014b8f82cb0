-- The mark is at 2 of the member row.
use borrow.Author.Rules.{rules}
use Rattle.table.proofs.Places.{mark_here}
use Rattle.table.proofs.mark_from.Goals as goal

pub returns : goal.returns
returns c = search (rules, mark_here)
