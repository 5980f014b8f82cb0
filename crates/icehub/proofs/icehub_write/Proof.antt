-- The number is that of the writer's answer, and the output is the call's. Assumes nothing.
use borrow.Author.Rules.{rules}
use Rattle.numbers.proofs.Numbered.{same_number}
use Rattle.icehub.proofs.icehub_write.Statement.{statement}
use Rattle.icehub.proofs.icehub_write.Tie as tie

returns : tie.Need-returns
returns c = (search same_number, search rules)

pub icehub_write_spec : {M : Type 1} → statement M
icehub_write_spec =
    tie.close
    (tie.spec
    (λ c κs. search rules)  -- write-requires
    (λ c κs. search rules)  -- written-number-requires
    (λ c. search rules)  -- same-length
    returns)
