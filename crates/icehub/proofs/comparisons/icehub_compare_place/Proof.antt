-- The place is that of the answer. Assumes nothing.
use borrow.Author.Rules.{rules}
use Rattle.icehub.proofs.Comparing.{place_same}
use Rattle.icehub.proofs.comparisons.icehub_compare_place.Statement.{statement}
use Rattle.icehub.proofs.comparisons.icehub_compare_place.Tie as tie

pub icehub_compare_place_spec : {M : Type 1} → statement M
icehub_compare_place_spec =
    tie.close
    (tie.spec
    (λ c κs. search rules)  -- answer-requires
    (λ c. search place_same))  -- returns
