-- By the first byte. Assumes nothing.
use Rattle.reader.proofs.Bodies.{marker_none, marker_other, marker_right}
use borrow.Author.Rules.{rules}
use Rattle.reader.proofs.marker.Statement.{statement}
use Rattle.reader.proofs.marker.Tie as tie

pub marker_spec : {M : Type 1} → statement M
marker_spec =
    tie.close
    (tie.spec
    (λ c. search marker_none)  -- returns
    (λ c κs. search rules)  -- byte-at-requires
    (λ c. search marker_other)  -- returns_2
    (λ c. search marker_right))  -- returns_3
