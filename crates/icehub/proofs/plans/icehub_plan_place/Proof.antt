-- The place is that of the planner's answer. Assumes nothing.
use borrow.Author.Rules.{rules}
use Rattle.numbers.proofs.Planning.{plan_same}
use Rattle.icehub.proofs.plans.icehub_plan_place.Statement.{statement}
use Rattle.icehub.proofs.plans.icehub_plan_place.Tie as tie

pub icehub_plan_place_spec : {M : Type 1} → statement M
icehub_plan_place_spec =
    tie.close
    (tie.spec
    (λ c κs. search rules)  -- answer-requires
    (λ c κs. search rules)  -- planned-place-requires
    (λ c. search plan_same))  -- returns
