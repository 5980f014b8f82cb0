-- By the two cases. Assumes nothing.
use Rattle.change.proofs.Plans.{gone_set, gone_empty}
use Rattle.change.proofs.planning.is_gone.Statement.{statement}
use Rattle.change.proofs.planning.is_gone.Tie as tie

pub is_gone_spec : {M : Type 1} → statement M
is_gone_spec =
    tie.close
    (tie.spec
    (λ c. search gone_set)  -- returns
    (λ c. search gone_empty))  -- returns_2
