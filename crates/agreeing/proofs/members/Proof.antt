-- The cells of the two types, as parts of the whole tables, say whether these agree. Assumes nothing.
use Rattle.agreeing.proofs.Cells.{all_members, row_inside}
use borrow.Author.Rules.{rules}
use native.Mathlib.Omega.{arith}
use Rattle.agreeing.proofs.members.Statement.{statement}
use Rattle.agreeing.proofs.members.Tie as tie

pub members_spec : {M : Type 1} → statement M
members_spec =
    tie.close
    (tie.spec
    (λ c κs. search rules)  -- type-of-member-requires
    (λ c κs. search rules)  -- index-requires
    (λ c κs. search rules)  -- type-of-member-requires-2
    (λ c κs. search rules)  -- index-requires-2
    (λ c κs. (search row_inside, search row_inside, omega arith))  -- is-same-requires
    (λ c. search all_members))  -- returns
