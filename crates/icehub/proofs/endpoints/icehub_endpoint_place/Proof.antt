-- The place is that of the answer. Assumes nothing.
use borrow.Author.Rules.{rules}
use Rattle.numbers.proofs.Dialling.{opened_same}
use Rattle.icehub.proofs.endpoints.icehub_endpoint_place.Statement.{statement}
use Rattle.icehub.proofs.endpoints.icehub_endpoint_place.Tie as tie

pub icehub_endpoint_place_spec : {M : Type 1} → statement M
icehub_endpoint_place_spec =
    tie.close
    (tie.spec
    (λ c κs. search rules)  -- answer-requires
    (λ c κs. search rules)  -- place_requires
    (λ c. search opened_same))  -- returns
