-- At its place; for a far row, first in the part that begins at the row.
use borrow.Author.Rules.{rules}
use native.Mathlib.Omega.{arith}
use Rattle.table.proofs.Places.{row_fits, rest_shows, kind_direct, kind_is}
use Rattle.table.proofs.kind.Goals as goal

pub row_at-requires-clause-t_bound : goal.row_at-requires-clause-t_bound
row_at-requires-clause-t_bound c = row_fits _ _ (omega arith)

pub returns-then-t-lt65536 : goal.returns-then-t-lt65536
returns-then-t-lt65536 c = search (rules, kind_direct)

pub returns : goal.returns
returns c = search (rules, kind_is, rest_shows)
