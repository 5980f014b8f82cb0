-- The number is that of the converter's answer, and the output is the call's. Assumes nothing.
use borrow.Author.Rules.{rules}
use Rattle.numbers.proofs.Numbered.{same_number}
use Rattle.icehub.proofs.conversion.icehub_convert.Statement.{statement}
use Rattle.icehub.proofs.conversion.icehub_convert.Tie as tie

returns : tie.Need-returns
returns c = (search same_number, search rules)

pub icehub_convert_spec : {M : Type 1} → statement M
icehub_convert_spec =
    tie.close
    (tie.spec
    (λ c κs. search rules)  -- convert-requires
    (λ c κs. search rules)  -- written-number-requires
    (λ c. search rules)  -- same-length
    returns)
