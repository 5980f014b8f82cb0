-- The part that begins at the member row has the type first.
use borrow.Author.Rules.{rules}
use Rattle.table.proofs.Places.{member_type_is, rest_shows}
use Rattle.table.proofs.member_type.Goals as goal

pub returns : goal.returns
returns c = search (rules, member_type_is, rest_shows)
