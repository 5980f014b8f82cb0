-- The cells of the two parts say whether these agree. Assumes nothing.
use Rattle.agreeing.proofs.Cells.{part_is, part_inside}
use borrow.Author.Rules.{rules}
use Rattle.agreeing.proofs.part.Statement.{statement}
use Rattle.agreeing.proofs.part.Tie as tie

pub part_spec : {M : Type 1} → statement M
part_spec =
    tie.close
    (tie.spec
    (λ c κs. search rules)  -- field-requires
    (λ c κs. search rules)  -- index-below-requires
    (λ c κs. search rules)  -- field-requires-2
    (λ c κs. search rules)  -- index-below-requires-2
    (λ c κs. search part_inside)  -- is-same-requires
    (λ c. search part_is))  -- returns
