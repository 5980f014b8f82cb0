-- The byte at the row's place.
use borrow.Author.Rules.{rules}
use Rattle.table.proofs.Places.{kind_byte}
use Rattle.table.proofs.kind_in.Goals as goal

pub returns : goal.returns
returns c = search (rules, kind_byte)
