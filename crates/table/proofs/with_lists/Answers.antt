-- The header of a table with lists is longer.
use borrow.Author.Rules.{rules}
use Rattle.table.proofs.Places.{lists_begin}
use Rattle.table.proofs.with_lists.Goals as goal

pub returns : goal.returns
returns c = search (rules, lists_begin)
