-- The answer of the walk, and the list that it leaves. Assumes nothing.
use borrow.Author.Rules.{rules}
use Rattle.reading.proofs.Telling.{told_listed, anew_most, anew_listed, anew_list}
use Rattle.reading.proofs.read.Statement.{statement}
use Rattle.reading.proofs.read.Tie as tie

pub read_spec : {M : Type 1} → statement M
read_spec =
    tie.close
    (tie.spec
    (λ c κs. search rules)  -- most-rows-requires
    (λ c κs. search rules)  -- walk-few-requires
    (λ c κs. search rules)  -- told-requires
    (λ c. search rules)  -- same-length
    (λ c. (search told_listed, search rules))  -- returns
    (λ c κs. search rules)  -- walk-some-requires
    (λ c κs. search rules)  -- told-requires-2
    (λ c. search rules)  -- same-length-2
    (λ c. (search told_listed, search rules))  -- returns_2
    (λ c κs. search rules)  -- walk-more-requires
    (λ c κs. search rules)  -- told-requires-3
    (λ c. search rules)  -- same-length-3
    (λ c. (search told_listed, search rules))  -- returns_3
    (λ c. search rules)  -- sub-walk-long
    (λ c. search rules)  -- part-walk-long-start
    (λ c. search rules)  -- part-walk-long-end
    (λ c. search rules)  -- sub-walk-long-2
    (λ c. search rules)  -- part-walk-long-start-2
    (λ c. search rules)  -- part-walk-long-end-2
    (λ c κs. search anew_most)  -- walk-long-requires
    (λ c κs. search rules)  -- told-requires-4
    (λ c. search rules)  -- same-length-4
    (λ c. (search (told_listed, anew_listed), search anew_list)))  -- returns_4
