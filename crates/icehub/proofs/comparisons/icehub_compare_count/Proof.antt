-- The number is that of the answer. Assumes nothing.
use borrow.Author.Rules.{rules}
use Rattle.icehub.proofs.Comparing.{count_same}
use Rattle.icehub.proofs.comparisons.icehub_compare_count.Statement.{statement}
use Rattle.icehub.proofs.comparisons.icehub_compare_count.Tie as tie

pub icehub_compare_count_spec : {M : Type 1} → statement M
icehub_compare_count_spec =
    tie.close
    (tie.spec
    (λ c κs. search rules)  -- answer-requires
    (λ c. search count_same))  -- returns
