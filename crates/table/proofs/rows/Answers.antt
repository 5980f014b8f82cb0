-- The rows that have a tree are those of the table, at most 256.
use native.Mathlib.Omega.{arith}
use Rattle.table.proofs.Places.{rows_least}
use Rattle.table.proofs.rows.Goals as goal

pub returns-then-n-le256 : goal.returns-then-n-le256
returns-then-n-le256 c = (rows_least _ _ c.types-n.ensures.0 _ (omega arith), omega arith)

pub returns : goal.returns
returns c = (rows_least _ _ c.types-n.ensures.0 _ (omega arith), omega arith)
