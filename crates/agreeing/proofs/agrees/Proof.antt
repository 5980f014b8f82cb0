-- Both indexes are those of rows, so the answer is that of `rows`. Assumes nothing.
use Rattle.agreeing.proofs.Cells.{agrees_is, agrees_parts, row_there, row_within, row_kind, row_few, weights_scaled, weights_inside, weighed_row, weight_row}
use borrow.Author.Rules.{rules}
use native.Mathlib.Omega.{arith}
use Rattle.agreeing.proofs.agrees.Statement.{statement}
use Rattle.agreeing.proofs.agrees.Tie as tie

pub agrees_spec : {M : Type 1} → statement M
agrees_spec =
    tie.close
    (tie.spec
    (λ c. search (rules, weights_scaled))  -- mul-v
    (λ c. search weights_inside)  -- element-v
    (λ c. omega arith)  -- sub-rows
    (λ c. search row_there)  -- sub-rows-2
    (λ c κs. (search rules, ((omega arith, search row_within, search rules), ((search weighed_row, search weight_row), ((search row_kind, search row_few), search agrees_parts)))))  -- rows-requires
    (λ c. search agrees_is))  -- returns
