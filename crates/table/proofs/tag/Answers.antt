-- The part that begins at the member row has the tag at 4.
use borrow.Author.Rules.{rules}
use Rattle.table.proofs.Places.{tag_is, rest_shows}
use Rattle.table.proofs.tag.Goals as goal

pub returns : goal.returns
returns c = search (rules, tag_is, rest_shows)
