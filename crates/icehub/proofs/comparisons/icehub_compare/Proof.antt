-- The number is that of the answer, and the list is the comparison's. Assumes nothing.
use borrow.Author.Rules.{rules}
use Rattle.icehub.proofs.Comparing.{refusal_same}
use Rattle.icehub.proofs.comparisons.icehub_compare.Statement.{statement}
use Rattle.icehub.proofs.comparisons.icehub_compare.Tie as tie

pub icehub_compare_spec : {M : Type 1} → statement M
icehub_compare_spec =
    tie.close
    (tie.spec
    (λ c κs. search rules)  -- compare-requires
    (λ c. search rules)  -- same-length
    (λ c. (search refusal_same, search rules)))  -- returns
