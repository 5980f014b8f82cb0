-- The list is long enough for the members of the table. Assumes nothing.
use borrow.Author.Rules.{rules}
use native.Mathlib.Omega.{arith}
use Rattle.convert.proofs.convert.Statement.{statement}
use Rattle.convert.proofs.convert.Tie as tie

pub convert_spec : {M : Type 1} → statement M
convert_spec =
    tie.close
    (tie.spec
    (λ c κs. search rules)  -- members-requires
    (λ c. search rules)  -- slice-aggregate-convert-by
    (λ c κs. omega arith)  -- convert-by-requires
    (λ c. search rules)  -- same-length
    (λ c. search rules)  -- returns
    (λ c. search rules)  -- slice-aggregate-convert-by-2
    (λ c κs. omega arith)  -- convert-by-requires-2
    (λ c. search rules)  -- same-length-2
    (λ c. search rules)  -- returns_2
    (λ c. search rules)  -- slice-aggregate-convert-by-3
    (λ c κs. omega arith)  -- convert-by-requires-3
    (λ c. search rules)  -- same-length-3
    (λ c. search rules))  -- returns_3
