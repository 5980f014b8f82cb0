-- Each way out is a case of `sort_at`: index 0, a row past the end, a kind above 12, or the kind. Assumes nothing.
use Rattle.agreeing.proofs.Cells.{sort_none, sort_past, sort_great, sort_kind}
use borrow.Author.Rules.{rules}
use Rattle.agreeing.proofs.sort_at.Statement.{statement}
use Rattle.agreeing.proofs.sort_at.Tie as tie

pub sort_at_spec : {M : Type 1} → statement M
sort_at_spec =
    tie.close
    (tie.spec
    (λ c. search sort_none)  -- returns
    (λ c. search rules)  -- sub-t
    (λ c κs. search rules)  -- rows-requires
    (λ c. search sort_past)  -- returns_2
    (λ c κs. search rules)  -- kind-requires
    (λ c. search sort_great)  -- returns_3
    (λ c. search sort_kind))  -- returns_4
