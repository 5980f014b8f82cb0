-- The part that begins at the member row has the mark at 2.
use borrow.Author.Rules.{rules}
use Rattle.table.proofs.Places.{mark_is, rest_shows}
use Rattle.table.proofs.mark.Goals as goal

pub returns : goal.returns
returns c = search (rules, mark_is, rest_shows)
