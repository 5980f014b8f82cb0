-- By the kind. Assumes nothing.
use Rattle.reader.proofs.Bodies.{marker_class, marker_bare}
use borrow.Author.Rules.{rules}
use Rattle.reader.proofs.marker_of.Statement.{statement}
use Rattle.reader.proofs.marker_of.Tie as tie

pub marker_of_spec : {M : Type 1} → statement M
marker_of_spec =
    tie.close
    (tie.spec
    (λ c κs. search rules)  -- marker-requires
    (λ c. search marker_class)  -- returns
    (λ c. search marker_bare))  -- returns_2
