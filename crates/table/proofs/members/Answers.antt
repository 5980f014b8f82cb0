-- M is the short at 7.
use borrow.Author.Rules.{rules}
use Rattle.encoding.specs.Table.{members}
use Rattle.table.proofs.members.Goals as goal

pub returns : goal.returns
unfolding members
returns c = search rules
