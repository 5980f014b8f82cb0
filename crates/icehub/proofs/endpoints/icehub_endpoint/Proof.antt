-- The number is that of the answer, and the lent numbers are as the call leaves them. Assumes nothing.
use borrow.Author.Rules.{rules}
use Rattle.numbers.proofs.Dialling.{opened_same}
use Rattle.icehub.proofs.endpoints.icehub_endpoint.Statement.{statement}
use Rattle.icehub.proofs.endpoints.icehub_endpoint.Tie as tie

pub icehub_endpoint_spec : {M : Type 1} → statement M
icehub_endpoint_spec =
    tie.close
    (tie.spec
    (λ c κs. search rules)  -- open-numbers-requires
    (λ c κs. search rules)  -- refusal-requires
    (λ c. search rules)  -- same-length
    (λ c. (search opened_same, search rules)))  -- returns
