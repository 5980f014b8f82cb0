-- The start, or the table's end if it is past that.
use borrow.Author.Rules.{rules}
use native.Mathlib.Omega.{arith}
use Rattle.table.proofs.Labels.{name_least}
use Rattle.table.proofs.naming.start_of.Goals as goal

pub returns : goal.returns
returns c = (search (rules, name_least), omega arith)
