-- By whether the slice is sliced. Assumes nothing.
use Rattle.slices.proofs.Steps.{over_sliced}
use borrow.Author.Rules.{rules}
use Rattle.slices.proofs.walks.left_over.Statement.{statement}
use Rattle.slices.proofs.walks.left_over.Tie as tie

pub left_over_spec : {M : Type 1} → statement M
left_over_spec =
    tie.close
    (tie.spec
    (λ c. search over_sliced)  -- returns
    (λ c. search rules))  -- returns_2
