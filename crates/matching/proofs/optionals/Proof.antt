-- Over its member rows. Assumes nothing.
use Rattle.matching.proofs.Judging.{optionals_every}
use borrow.Author.Rules.{rules}
use Rattle.matching.proofs.optionals.Statement.{statement}
use Rattle.matching.proofs.optionals.Tie as tie

pub optionals_spec : {M : Type 1} → statement M
optionals_spec =
    tie.close
    (tie.spec
    (λ c κs. search rules)  -- field-a-requires
    (λ c κs. search rules)  -- field-b-requires
    (λ c κs. search rules)  -- every-requires
    (λ c. search optionals_every))  -- returns
