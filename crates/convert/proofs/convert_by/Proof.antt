-- The message is refused, or its sliced form is put: the rows of the walk's list are the message's. Assumes nothing.
use borrow.Author.Rules.{rules}
use Rattle.reading.proofs.Telling.{unasked, old_unasked}
use Rattle.convert.proofs.Answering.{walk_narrow, stopped_answer, stopped_output, fits_answer, output_fits, fits_count, fits_type, fits_start, fits_length}
use Rattle.convert.proofs.convert_by.Statement.{statement}
use Rattle.convert.proofs.convert_by.Tie as tie

pub convert_by_spec : {M : Type 1} → statement M
convert_by_spec =
    tie.close
    (tie.spec
    (λ c κs. (search unasked, search old_unasked))  -- walk-requires
    (λ c κs. search rules)  -- types-at-requires
    (λ c κs. (search rules, search walk_narrow))  -- plan-requires
    (λ c. search rules)  -- enum-known-p
    (λ c κs. search rules)  -- low-requires
    (λ c κs. search rules)  -- low-requires-2
    (λ c. search rules)  -- enum-known-p-2
    (λ c κs. search rules)  -- first-at-requires
    (λ c κs. (search rules, (search fits_count, search fits_type, search rules, search rules, search fits_start, search fits_length)))  -- put-record-requires
    (λ c κs. search rules)  -- low-requires-3
    (λ c. search rules)  -- same-length
    (λ c. (search stopped_answer, search stopped_output))  -- returns
    (λ c. search rules)  -- same-length-2
    (λ c. search rules)  -- same-length-3
    (λ c. (search fits_answer, search output_fits)))  -- returns_2
