-- The int at the entry's place.
use borrow.Author.Rules.{rules}
use Rattle.table.proofs.Places.{entry_is}
use Rattle.table.proofs.allowed.list_entry.Goals as goal

pub returns : goal.returns
returns c = search (rules, entry_is)
