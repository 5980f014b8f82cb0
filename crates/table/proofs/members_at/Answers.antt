-- After as many type rows as the header counts.
use borrow.Author.Rules.{rules}
use native.Mathlib.Omega.{arith}
use Rattle.table.proofs.Places.{row_fits, row_near}
use Rattle.table.proofs.members_at.Goals as goal

pub row_at-requires-clause-t_bound : goal.row_at-requires-clause-t_bound
row_at-requires-clause-t_bound c = row_fits _ _ (omega arith)

pub returns : goal.returns
returns c = search (rules, row_near)
