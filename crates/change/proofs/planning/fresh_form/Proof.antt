-- By the length, then by the value. Assumes nothing.
use borrow.Author.Rules.{rules}
use Rattle.change.proofs.Plans.{fresh_long, fresh_right, fresh_wrong, fresh_none}
use Rattle.change.proofs.planning.fresh_form.Statement.{statement}
use Rattle.change.proofs.planning.fresh_form.Tie as tie

pub fresh_form_spec : {M : Type 1} → statement M
fresh_form_spec =
    tie.close
    (tie.spec
    (λ c. search fresh_long)  -- returns
    (λ c κs. search rules)  -- exact-value-requires
    (λ c. search fresh_right)  -- returns_2
    (λ c. search fresh_wrong)  -- returns_3
    (λ c. search fresh_none))  -- returns_4
