-- Two tests.
use mathlib.Core.Path.{sym}
use mathlib.Core.Bool.{true≢false}
use native.Mathlib.Omega.{arith}
use Rattle.table.proofs.Places.{row_fits}
use Rattle.value.proofs.QuickLaws.{row_there}
use Rattle.value.proofs.quick.is_there.Goals as goal

pub returns-then-rows-t : goal.returns-then-rows-t
returns-then-rows-t c = λ e. absurd (true≢false (sym e))

pub row_at-requires-clause-t_bound : goal.row_at-requires-clause-t_bound
row_at-requires-clause-t_bound c = row_fits _ _ (omega arith)

pub returns : goal.returns
returns c = λ e. row_there _ _ _ _ (omega arith) c.row_at.ensures e
