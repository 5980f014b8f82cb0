-- The place is that of the writer's answer. Assumes nothing.
use borrow.Author.Rules.{rules}
use Rattle.numbers.proofs.Numbered.{same_number}
use Rattle.icehub.proofs.endpoints.icehub_endpoint_write_place.Statement.{statement}
use Rattle.icehub.proofs.endpoints.icehub_endpoint_write_place.Tie as tie

pub icehub_endpoint_write_place_spec : {M : Type 1} → statement M
icehub_endpoint_write_place_spec =
    tie.close
    (tie.spec
    (λ c κs. search rules)  -- endpoint-written-requires
    (λ c κs. search rules)  -- written-number-requires
    (λ c. search same_number))  -- returns
