-- A short list, or the lesser of the two. Assumes nothing.
use native.Mathlib.Omega.{arith}
use borrow.Author.Rules.{rules}
use Rattle.reading.proofs.most_rows.Statement.{statement}
use Rattle.reading.proofs.most_rows.Tie as tie

pub most_rows_spec : {M : Type 1} → statement M
most_rows_spec =
    tie.close
    (tie.spec
    (λ c. omega arith)  -- returns
    (λ c κs. search rules)  -- members-requires
    (λ c κs. search rules)  -- least-requires
    (λ c. omega arith))  -- returns_2
