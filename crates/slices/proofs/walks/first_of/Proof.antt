-- By the stage of the walk. Assumes nothing.
use Rattle.slices.proofs.Steps.{first_here, first_found, first_kept}
use borrow.Author.Rules.{rules}
use Rattle.slices.proofs.walks.first_of.Statement.{statement}
use Rattle.slices.proofs.walks.first_of.Tie as tie

pub first_of_spec : {M : Type 1} → statement M
first_of_spec =
    tie.close
    (tie.spec
    (λ c. search rules)  -- enum-told
    (λ c. search rules)  -- enum-told-2
    (λ c. search rules)  -- enum-known-stage
    (λ c. search first_here)  -- returns
    (λ c. search first_found)  -- returns_2
    (λ c. search first_kept))  -- returns_3
