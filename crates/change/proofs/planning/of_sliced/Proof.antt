-- 3 and 21 of the new bytes, or the exchange. Assumes nothing.
use borrow.Author.Rules.{rules}
use Rattle.change.proofs.Plans.{sliced_fresh, sliced_located}
use Rattle.change.proofs.planning.of_sliced.Statement.{statement}
use Rattle.change.proofs.planning.of_sliced.Tie as tie

pub of_sliced_spec : {M : Type 1} → statement M
of_sliced_spec =
    tie.close
    (tie.spec
    (λ c κs. search rules)  -- type-of-member-requires
    (λ c κs. search rules)  -- fresh-form-requires
    (λ c. search sliced_fresh)  -- returns
    (λ c κs. search rules)  -- members-at-requires
    (λ c κs. search rules)  -- member-row-requires
    (λ c κs. search rules)  -- kind-requires
    (λ c κs. search rules)  -- form-requires
    (λ c κs. search rules)  -- located-requires
    (λ c. search sliced_located))  -- returns_2
