-- As the caller says, or as table and top say. Assumes nothing.
use borrow.Author.Rules.{rules}
use Rattle.reader.proofs.Bodies.{known_free, known_barred}
use Rattle.reader.proofs.barred.Statement.{statement}
use Rattle.reader.proofs.barred.Tie as tie

pub barred_spec : {M : Type 1} → statement M
barred_spec =
    tie.close
    (tie.spec
    (λ c. search known_free)  -- returns
    (λ c. search known_barred)  -- returns_2
    (λ c κs. search rules)  -- no-old-requires
    (λ c. search rules))  -- returns_3
