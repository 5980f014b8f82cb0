-- The number is that of the answer. Assumes nothing.
use borrow.Author.Rules.{rules}
use Rattle.numbers.proofs.Numbered.{same_number}
use Rattle.icehub.proofs.changes.set_number.Statement.{statement}
use Rattle.icehub.proofs.changes.set_number.Tie as tie

pub set_number_spec : {M : Type 1} → statement M
set_number_spec =
    tie.close
    (tie.spec
    (λ c κs. search rules)  -- set-answer-requires
    (λ c κs. search rules)  -- written-number-requires
    (λ c. search same_number))  -- returns
