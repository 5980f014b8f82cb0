-- By the row, then its kind. Assumes nothing.
use Rattle.compare.proofs.Telling.{top_beyond, top_kind}
use borrow.Author.Rules.{rules}
use Rattle.compare.proofs.no_top.Statement.{statement}
use Rattle.compare.proofs.no_top.Tie as tie

pub no_top_spec : {M : Type 1} → statement M
no_top_spec =
    tie.close
    (tie.spec
    (λ c κs. search rules)  -- types-requires
    (λ c. search top_beyond)  -- returns
    (λ c κs. search rules)  -- kind-requires
    (λ c. search top_kind))  -- returns_2
