-- An index that is no struct has no members and weighs 0; else the weight is the sum over its members. Assumes nothing.
use Rattle.agreeing.proofs.Cells.{weight_none, weight_there, weight_within, weight_ranked, weight_is}
use borrow.Author.Rules.{rules}
use Rattle.agreeing.proofs.weight.Statement.{statement}
use Rattle.agreeing.proofs.weight.Tie as tie

pub weight_spec : {M : Type 1} → statement M
weight_spec =
    tie.close
    (tie.spec
    (λ c κs. search rules)  -- sort-at-requires
    (λ c. search weight_none)  -- returns
    (λ c. search weight_there)  -- sub-u
    (λ c κs. search rules)  -- members-at-requires
    (λ c κs. search rules)  -- field-a-requires
    (λ c κs. search rules)  -- field-b-requires
    (λ c κs. (search rules, ((search weight_within, search rules), search weight_ranked)))  -- sum-requires
    (λ c. search weight_is))  -- returns_2
