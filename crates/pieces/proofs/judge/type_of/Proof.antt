-- A member's type is its row's tree; row 256 has none. Assumes nothing.
use borrow.Author.Rules.{rules}
use Rattle.table.proofs.Places.{member_row, no_member}
use Rattle.pieces.proofs.judge.type_of.Statement.{statement}
use Rattle.pieces.proofs.judge.type_of.Tie as tie

pub type_of_spec : {M : Type 1} → statement M
type_of_spec =
    tie.close
    (tie.spec
    (λ c. search (rules, member_row))  -- returns
    (λ c. search (rules, no_member)))  -- returns_2
