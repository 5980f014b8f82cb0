-- A check refuses, or the walk over the body says all. Assumes nothing.
use borrow.Author.Rules.{rules}
use Rattle.reading.proofs.Telling.{found_ready, stop_walked, body_walked}
use Rattle.onepass.specs.PassLaws.{shapes_there}
use Rattle.reading.proofs.checked.Statement.{statement}
use Rattle.reading.proofs.checked.Tie as tie

pub checked_spec : {M : Type 1} → statement M
checked_spec =
    tie.close
    (tie.spec
    (λ c κs. search rules)  -- byte-count-requires
    (λ c κs. search rules)  -- prepared-requires
    (λ c. search rules)  -- enum-known-p
    (λ c. search rules)  -- enum-told
    (λ c κs. search rules)  -- types-at-requires
    (λ c κs. (search rules, (search rules, search found_ready)))  -- known-old-requires
    (λ c κs. (search rules, (search shapes_there, search rules)))  -- body-requires
    (λ c. (search stop_walked, search rules))  -- returns
    (λ c. search rules)  -- same-length
    (λ c. (search body_walked, search rules)))  -- returns_2
