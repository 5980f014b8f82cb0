-- No row, or the last one. Assumes nothing.
use native.Mathlib.Omega.{arith}
use borrow.Author.Rules.{rules}
use Rattle.convert.proofs.Owning.{end_none, end_last}
use Rattle.convert.proofs.slice.row_end.Statement.{statement}
use Rattle.convert.proofs.slice.row_end.Tie as tie

pub row_end_spec : {M : Type 1} → statement M
row_end_spec =
    tie.close
    (tie.spec
    (λ c. (search end_none, omega arith))  -- returns
    (λ c. omega arith)  -- sub-at
    (λ c. omega arith)  -- mul-at
    (λ c. omega arith)  -- add_int_at
    (λ c κs. search rules)  -- int-at-requires
    (λ c. omega arith)  -- add_int_at_2
    (λ c κs. search rules)  -- int-at-requires-2
    (λ c. search rules)  -- add_result
    (λ c. (search end_last, search rules)))  -- returns_2
