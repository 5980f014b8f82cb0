-- By what the view shows. Assumes nothing.
use borrow.Author.Rules.{rules}
use Rattle.change.proofs.Plans.{listed_part, listed_fallback, listed_nothing, listed_refused}
use Rattle.change.proofs.planning.is_listed.Statement.{statement}
use Rattle.change.proofs.planning.is_listed.Tie as tie

pub is_listed_spec : {M : Type 1} → statement M
is_listed_spec =
    tie.close
    (tie.spec
    (λ c. search rules)  -- slice-aggregate-member-numbers
    (λ c κs. search rules)  -- member-numbers-requires
    (λ c. search rules)  -- enum-known-v
    (λ c. search rules)  -- enum-told
    (λ c. search rules)  -- enum-told-2
    (λ c. search rules)  -- enum-known-v-2
    (λ c. search listed_part)  -- returns
    (λ c. search listed_fallback)  -- returns_2
    (λ c. search listed_nothing)  -- returns_3
    (λ c. search listed_refused))  -- returns_4
