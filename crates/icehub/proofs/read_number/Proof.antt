-- The number is that of the reader's answer. Assumes nothing.
use borrow.Author.Rules.{rules}
use Rattle.numbers.proofs.Numbering.{number_same}
use Rattle.icehub.proofs.read_number.Statement.{statement}
use Rattle.icehub.proofs.read_number.Tie as tie

pub read_number_spec : {M : Type 1} → statement M
read_number_spec =
    tie.close
    (tie.spec
    (λ c κs. search rules)  -- answer-requires
    (λ c κs. search rules)  -- number-requires
    (λ c. search number_same))  -- returns
