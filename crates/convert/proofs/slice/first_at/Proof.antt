-- By the kind. Assumes nothing.
use native.Mathlib.Omega.{arith}
use borrow.Author.Rules.{rules}
use Rattle.convert.proofs.Moving.{first_class, first_other}
use Rattle.convert.proofs.slice.first_at.Statement.{statement}
use Rattle.convert.proofs.slice.first_at.Tie as tie

pub first_at_spec : {M : Type 1} → statement M
first_at_spec =
    tie.close
    (tie.spec
    (λ c κs. search rules)  -- kind-requires
    (λ c. (search first_class, omega arith, omega arith))  -- returns
    (λ c. (search first_other, omega arith, omega arith)))  -- returns_2
