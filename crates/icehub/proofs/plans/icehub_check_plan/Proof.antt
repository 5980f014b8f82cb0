-- The number is that of the check's answer. Assumes nothing.
use borrow.Author.Rules.{rules}
use Rattle.numbers.proofs.Planning.{check_same}
use Rattle.icehub.proofs.plans.icehub_check_plan.Statement.{statement}
use Rattle.icehub.proofs.plans.icehub_check_plan.Tie as tie

pub icehub_check_plan_spec : {M : Type 1} → statement M
icehub_check_plan_spec =
    tie.close
    (tie.spec
    (λ c κs. search rules)  -- check-plan-requires
    (λ c κs. search rules)  -- checked-requires
    (λ c. search check_same))  -- returns
