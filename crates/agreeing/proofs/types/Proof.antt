-- The cells of the two member types say whether these agree. Assumes nothing.
use Rattle.agreeing.proofs.Cells.{types_are, part_inside}
use borrow.Author.Rules.{rules}
use Rattle.agreeing.proofs.types.Statement.{statement}
use Rattle.agreeing.proofs.types.Tie as tie

pub types_spec : {M : Type 1} → statement M
types_spec =
    tie.close
    (tie.spec
    (λ c κs. search rules)  -- member-below-requires
    (λ c κs. search rules)  -- member-below-requires-2
    (λ c κs. search part_inside)  -- is-same-requires
    (λ c. search types_are))  -- returns
