-- Both lists hold as many rows as there can be. Assumes nothing.
use borrow.Author.Rules.{rules}
use native.Mathlib.Omega.{arith}
use Rattle.reading.proofs.walk_long.Statement.{statement}
use Rattle.reading.proofs.walk_long.Tie as tie

pub walk_long_spec : {M : Type 1} → statement M
walk_long_spec =
    tie.close
    (tie.spec
    (λ c κs. omega arith)  -- walk-many-requires
    (λ c. search rules)  -- same-length
    (λ c. search rules)  -- returns
    (λ c κs. search rules)  -- walk-all-requires
    (λ c. search rules)  -- same-length-2
    (λ c. search rules))  -- returns_2
