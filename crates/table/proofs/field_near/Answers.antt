-- At its place; for a far row, by the look-up of any field.
use borrow.Author.Rules.{rules}
use native.Mathlib.Omega.{arith}
use Rattle.encoding.proofs.TableLaws.{header_most}
use Rattle.table.proofs.Places.{row_fits, field_direct}
use Rattle.table.proofs.field_near.Goals as goal

pub row_at-requires-clause-t_bound : goal.row_at-requires-clause-t_bound
row_at-requires-clause-t_bound g c = row_fits _ _ (omega arith)

pub overflow_add-row_at : goal.overflow_add-row_at
overflow_add-row_at g c = omega (arith, header_most c.args.table.now)

pub returns-then-t-lt65536 : goal.returns-then-t-lt65536
returns-then-t-lt65536 g c = search (rules, field_direct)
