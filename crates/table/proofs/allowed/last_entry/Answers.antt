-- An entry of the table's lists, or none.
use borrow.Author.Rules.{rules}
use Rattle.table.proofs.Searches.{last_none, last_is}
use Rattle.table.proofs.allowed.last_entry.Goals as goal

pub returns-then-d-eq0 : goal.returns-then-d-eq0
returns-then-d-eq0 c = search (rules, last_none, last_is)

pub returns : goal.returns
returns c = search (rules, last_none, last_is)
