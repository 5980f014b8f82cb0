-- The answer of the walk. Assumes nothing.
use borrow.Author.Rules.{rules}
use Rattle.reading.proofs.Telling.{unasked, old_unasked, told_walked}
use Rattle.reading.proofs.answer.Statement.{statement}
use Rattle.reading.proofs.answer.Tie as tie

pub answer_spec : {M : Type 1} → statement M
answer_spec =
    tie.close
    (tie.spec
    (λ c. search rules)  -- slice-aggregate-walk
    (λ c κs. (search unasked, search old_unasked))  -- walk-requires
    (λ c κs. search rules)  -- told-requires
    (λ c. search told_walked))  -- returns
