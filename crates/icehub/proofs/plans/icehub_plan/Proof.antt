-- The number is that of the planner's answer, and the list is the planner's. Assumes nothing.
use borrow.Author.Rules.{rules}
use Rattle.numbers.proofs.Planning.{plan_same}
use Rattle.icehub.proofs.plans.icehub_plan.Statement.{statement}
use Rattle.icehub.proofs.plans.icehub_plan.Tie as tie

pub icehub_plan_spec : {M : Type 1} → statement M
icehub_plan_spec =
    tie.close
    (tie.spec
    (λ c κs. search rules)  -- plan-requires
    (λ c κs. search rules)  -- planned-requires
    (λ c. search rules)  -- same-length
    (λ c. search (rules, plan_same)))  -- returns
