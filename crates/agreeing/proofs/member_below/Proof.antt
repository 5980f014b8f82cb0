-- A member row past the end has a broken type; else the index is that of its type as a part. Assumes nothing.
use Rattle.agreeing.proofs.Cells.{member_none, member_is}
use borrow.Author.Rules.{rules}
use Rattle.agreeing.proofs.member_below.Statement.{statement}
use Rattle.agreeing.proofs.member_below.Tie as tie

pub member_below_spec : {M : Type 1} → statement M
member_below_spec =
    tie.close
    (tie.spec
    (λ c κs. search rules)  -- members-requires
    (λ c. search (rules, member_none))  -- returns
    (λ c κs. search rules)  -- member-row-from-requires
    (λ c κs. search rules)  -- index-below-requires
    (λ c. search (rules, member_is)))  -- returns_2
