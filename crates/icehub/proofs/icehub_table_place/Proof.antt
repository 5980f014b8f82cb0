-- The number is that of the verdict on the table. Assumes nothing.
use borrow.Author.Rules.{rules}
use Rattle.numbers.proofs.Judged.{place_same}
use Rattle.icehub.proofs.icehub_table_place.Statement.{statement}
use Rattle.icehub.proofs.icehub_table_place.Tie as tie

pub icehub_table_place_spec : {M : Type 1} → statement M
icehub_table_place_spec =
    tie.close
    (tie.spec
    (λ c κs. search rules)  -- check-requires
    (λ c κs. search rules)  -- rule-place-requires
    (λ c. search place_same))  -- returns
