-- E is the short after the zero byte, in a table with lists.
use borrow.Author.Rules.{rules}
use Rattle.table.proofs.Places.{entries_lists, entries_none}
use Rattle.table.proofs.entries.Goals as goal

pub returns-then-with_lists : goal.returns-then-with_lists
returns-then-with_lists c = search (rules, entries_lists, entries_none)

pub returns : goal.returns
returns c = search (rules, entries_lists, entries_none)
