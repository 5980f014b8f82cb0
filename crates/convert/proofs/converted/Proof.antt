-- What the plan says is the answer. Assumes nothing.
use borrow.Author.Rules.{rules}
use Rattle.reading.proofs.Telling.{unasked, old_unasked}
use Rattle.convert.proofs.Answering.{walk_narrow, stopped_answer, fits_answer}
use Rattle.convert.proofs.converted.Statement.{statement}
use Rattle.convert.proofs.converted.Tie as tie

pub converted_spec : {M : Type 1} → statement M
converted_spec =
    tie.close
    (tie.spec
    (λ c. search rules)  -- slice-aggregate-walk
    (λ c κs. (search unasked, search old_unasked))  -- walk-requires
    (λ c κs. search rules)  -- types-at-requires
    (λ c κs. (search rules, search walk_narrow))  -- plan-requires
    (λ c. search rules)  -- enum-known-p
    (λ c κs. search rules)  -- low-requires
    (λ c κs. search rules)  -- low-requires-2
    (λ c. search rules)  -- enum-known-p-2
    (λ c κs. search rules)  -- low-requires-3
    (λ c. search stopped_answer)  -- returns
    (λ c. search fits_answer))  -- returns_2
