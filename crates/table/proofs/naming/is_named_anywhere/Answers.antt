-- The part that is compared is the name.
use borrow.Author.Rules.{rules}
use Rattle.table.proofs.Labels.{named_part}
use Rattle.table.proofs.naming.is_named_anywhere.Goals as goal

pub returns : goal.returns
returns c = search (rules, named_part)
