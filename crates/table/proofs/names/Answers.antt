-- N is the short at 9.
use borrow.Author.Rules.{rules}
use Rattle.encoding.specs.Table.{names}
use Rattle.table.proofs.names.Goals as goal

pub returns : goal.returns
unfolding names
returns c = search rules
