-- The part that is compared is the name; a row that is not wholly inside is left to another function, which is lent the whole.
use borrow.Author.Rules.{rules}
use native.Mathlib.Omega.{arith}
use Rattle.table.proofs.Places.{row_fits}
use Rattle.table.proofs.Labels.{named_part}
use Rattle.table.proofs.naming.is_named.Goals as goal

pub row_at-requires-clause-t_bound : goal.row_at-requires-clause-t_bound
row_at-requires-clause-t_bound c = row_fits _ _ (omega arith)

pub returns : goal.returns
returns c = search (rules, named_part)
