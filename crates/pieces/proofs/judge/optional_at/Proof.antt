-- By the tests of an optional member. Assumes nothing.
use borrow.Author.Rules.{rules}
use Rattle.pieces.proofs.Reaches.{found_may, gone_below, gone_past, gone_required, gone_tag}
use Rattle.pieces.proofs.judge.optional_at.Statement.{statement}
use Rattle.pieces.proofs.judge.optional_at.Tie as tie

pub optional_at_spec : {M : Type 1} → statement M
optional_at_spec =
    tie.close
    (tie.spec
    (λ c. search gone_below)  -- returns
    (λ c. search rules)  -- add-if2
    (λ c. search gone_past)  -- returns_2
    (λ c κs. search rules)  -- member-row-flat-requires
    (λ c. search gone_required)  -- returns_3
    (λ c. search gone_tag)  -- returns_4
    (λ c κs. search rules)  -- type-of-requires
    (λ c. search found_may))  -- returns_5
