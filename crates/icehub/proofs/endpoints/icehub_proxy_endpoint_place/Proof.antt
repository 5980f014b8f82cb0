-- The place is that of the answer. Assumes nothing.
use borrow.Author.Rules.{rules}
use Rattle.numbers.proofs.Dialling.{located_same}
use Rattle.icehub.proofs.endpoints.icehub_proxy_endpoint_place.Statement.{statement}
use Rattle.icehub.proofs.endpoints.icehub_proxy_endpoint_place.Tie as tie

pub icehub_proxy_endpoint_place_spec : {M : Type 1} → statement M
icehub_proxy_endpoint_place_spec =
    tie.close
    (tie.spec
    (λ c κs. search rules)  -- endpoint-at-answer-requires
    (λ c κs. search rules)  -- located-place-requires
    (λ c. search located_same))  -- returns
