-- The answer is that of the comparison. Assumes nothing.
use borrow.Author.Rules.{rules}
use Rattle.icehub.proofs.Comparing.{extends_same}
use Rattle.icehub.proofs.comparisons.icehub_compare_extends.Statement.{statement}
use Rattle.icehub.proofs.comparisons.icehub_compare_extends.Tie as tie

pub icehub_compare_extends_spec : {M : Type 1} → statement M
icehub_compare_extends_spec =
    tie.close
    (tie.spec
    (λ c κs. search rules)  -- answer-requires
    (λ c. search extends_same))  -- returns
