-- The greatest enumerator, or the last entry of the row's list.
use borrow.Author.Rules.{rules}
use Rattle.table.proofs.Searches.{most_plain, most_all, most_listed}
use Rattle.table.proofs.most.Goals as goal

pub returns-then-row-g : goal.returns-then-row-g
returns-then-row-g c = search (rules, most_listed, most_all, most_plain)

pub returns-else-row-g : goal.returns-else-row-g
returns-else-row-g c = search (rules, most_listed, most_all, most_plain)

pub returns-else-with_lists : goal.returns-else-with_lists
returns-else-with_lists c = search (rules, most_listed, most_all, most_plain)
