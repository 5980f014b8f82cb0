-- A table without lists has none; else the length of the list is compared with the greatest number. Assumes nothing.
use Rattle.agreeing.proofs.Cells.{listed_is, listed_none}
use borrow.Author.Rules.{rules}
use Rattle.agreeing.proofs.is_listed.Statement.{statement}
use Rattle.agreeing.proofs.is_listed.Tie as tie

pub is_listed_spec : {M : Type 1} → statement M
is_listed_spec =
    tie.close
    (tie.spec
    (λ c κs. search rules)  -- with-lists-requires
    (λ c κs. search rules)  -- type-row-requires
    (λ c κs. search rules)  -- greatest-requires
    (λ c. search rules)  -- add_result
    (λ c. search listed_is)  -- returns
    (λ c. search listed_none))  -- returns_2
