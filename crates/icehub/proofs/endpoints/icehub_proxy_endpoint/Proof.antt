-- The number is that of the answer, and the lent numbers are as the call leaves them. Assumes nothing.
use borrow.Author.Rules.{rules}
use Rattle.numbers.proofs.Dialling.{located_same}
use Rattle.icehub.proofs.endpoints.icehub_proxy_endpoint.Statement.{statement}
use Rattle.icehub.proofs.endpoints.icehub_proxy_endpoint.Tie as tie

pub icehub_proxy_endpoint_spec : {M : Type 1} → statement M
icehub_proxy_endpoint_spec =
    tie.close
    (tie.spec
    (λ c κs. search rules)  -- endpoint-at-numbers-requires
    (λ c κs. search rules)  -- located-refusal-requires
    (λ c. search rules)  -- same-length
    (λ c. (search located_same, search rules)))  -- returns
