-- What the caller says is passed on; 0 says nothing; 1 is right if the table breaks no rule and none of its member rows is optional. Assumes nothing.
use borrow.Author.Rules.{rules}
use Rattle.reading.specs.Optionless.{old_plain}
use Rattle.reading.proofs.Telling.{old_unasked}
use Rattle.reading.proofs.known_old.Statement.{statement}
use Rattle.reading.proofs.known_old.Tie as tie

pub known_old_spec : {M : Type 1} → statement M
known_old_spec =
    tie.close
    (tie.spec
    (λ c κs. search rules)  -- byte-at-requires
    (λ c. search rules)  -- returns
    (λ c. search rules)  -- returns_2
    (λ c κs. search rules)  -- members-at-requires
    (λ c κs. search rules)  -- members-requires
    (λ c κs. search rules)  -- has-optional-requires
    (λ c. search old_unasked)  -- returns_3
    (λ c. search old_plain))  -- returns_4
