-- The number is that of the converter's answer. Assumes nothing.
use borrow.Author.Rules.{rules}
use Rattle.numbers.proofs.Numbered.{same_number}
use Rattle.icehub.proofs.conversion.convert_number.Statement.{statement}
use Rattle.icehub.proofs.conversion.convert_number.Tie as tie

pub convert_number_spec : {M : Type 1} → statement M
convert_number_spec =
    tie.close
    (tie.spec
    (λ c κs. search rules)  -- converted-requires
    (λ c κs. search rules)  -- written-number-requires
    (λ c. search same_number))  -- returns
