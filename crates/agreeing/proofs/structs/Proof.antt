-- Structs with different numbers of members differ; else `run` compares the members. Assumes nothing.
use Rattle.agreeing.proofs.Cells.{structs_differ, structs_are}
use borrow.Author.Rules.{rules}
use Rattle.agreeing.proofs.structs.Statement.{statement}
use Rattle.agreeing.proofs.structs.Tie as tie

pub structs_spec : {M : Type 1} → statement M
structs_spec =
    tie.close
    (tie.spec
    (λ c κs. search rules)  -- field-b-requires
    (λ c κs. search rules)  -- field-b-requires-2
    (λ c. search structs_differ)  -- returns
    (λ c κs. search rules)  -- field-a-requires
    (λ c κs. search rules)  -- field-a-requires-2
    (λ c κs. search rules)  -- members-at-requires
    (λ c κs. search rules)  -- members-at-requires-2
    (λ c κs. search rules)  -- run-requires
    (λ c. search structs_are))  -- returns_2
