-- By the two flags. Assumes nothing.
use borrow.Author.Rules.{rules}
use Rattle.change.proofs.Plans.{end_flagged, end_last, end_list}
use Rattle.change.proofs.planning.cut_end.Statement.{statement}
use Rattle.change.proofs.planning.cut_end.Tie as tie

pub cut_end_spec : {M : Type 1} → statement M
cut_end_spec =
    tie.close
    (tie.spec
    (λ c. search end_flagged)  -- returns
    (λ c. search rules)  -- add_result
    (λ c. search end_last)  -- returns_2
    (λ c. search end_list))  -- returns_3
