-- T is the short at 5.
use borrow.Author.Rules.{rules}
use Rattle.encoding.specs.Table.{types}
use Rattle.table.proofs.types.Goals as goal

pub returns : goal.returns
unfolding types
returns c = search rules
