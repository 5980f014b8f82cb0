-- The number is that of the answer, and the lent bytes are as the call leaves them. Assumes nothing.
use borrow.Author.Rules.{rules}
use Rattle.icehub.proofs.Guarding.{guard_refusal}
use Rattle.icehub.proofs.guards.icehub_guard_start.Statement.{statement}
use Rattle.icehub.proofs.guards.icehub_guard_start.Tie as tie

pub icehub_guard_start_spec : {M : Type 1} → statement M
icehub_guard_start_spec =
    tie.close
    (tie.spec
    (λ c κs. search rules)  -- start-requires
    (λ c. search rules)  -- same-length
    (λ c. (search guard_refusal, search rules)))  -- returns
