-- A row that lies inside is read without a test of its bytes; any other as far as the table goes.
use native.Mathlib.Omega.{arith}
use Rattle.table.proofs.Places.{row_fits}
use Rattle.table.proofs.type_row.Goals as goal

pub row_at-requires-clause-t_bound : goal.row_at-requires-clause-t_bound
row_at-requires-clause-t_bound c = row_fits _ _ (omega arith)
