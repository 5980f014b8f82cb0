-- Lists of different lengths differ; else `entries` compares them. Assumes nothing.
use Rattle.agreeing.proofs.Cells.{lists_differ, lists_are}
use borrow.Author.Rules.{rules}
use Rattle.agreeing.proofs.lists.Statement.{statement}
use Rattle.agreeing.proofs.lists.Tie as tie

pub lists_spec : {M : Type 1} → statement M
lists_spec =
    tie.close
    (tie.spec
    (λ c κs. search rules)  -- field-requires
    (λ c κs. search rules)  -- field-requires-2
    (λ c. search lists_differ)  -- returns
    (λ c κs. search rules)  -- field-requires-3
    (λ c κs. search rules)  -- field-requires-4
    (λ c κs. search rules)  -- entries-at-requires
    (λ c κs. search rules)  -- entries-at-requires-2
    (λ c κs. search rules)  -- entries-requires
    (λ c. search lists_are))  -- returns_2
