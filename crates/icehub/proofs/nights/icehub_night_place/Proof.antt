-- The place hangs on the buffer and the room for answers alone. Assumes nothing.
use borrow.Author.Rules.{rules}
use Rattle.icehub.proofs.Counted.{place_same}
use Rattle.icehub.proofs.nights.icehub_night_place.Statement.{statement}
use Rattle.icehub.proofs.nights.icehub_night_place.Tie as tie

pub icehub_night_place_spec : {M : Type 1} → statement M
icehub_night_place_spec =
    tie.close
    (tie.spec
    (λ c κs. search rules)  -- place_requires
    (λ c. search place_same))  -- returns
