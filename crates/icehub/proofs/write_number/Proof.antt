-- The number is that of the writer's answer. Assumes nothing.
use borrow.Author.Rules.{rules}
use Rattle.numbers.proofs.Numbered.{same_number}
use Rattle.icehub.proofs.write_number.Statement.{statement}
use Rattle.icehub.proofs.write_number.Tie as tie

pub write_number_spec : {M : Type 1} → statement M
write_number_spec =
    tie.close
    (tie.spec
    (λ c κs. search rules)  -- written-requires
    (λ c κs. search rules)  -- written-number-requires
    (λ c. search same_number))  -- returns
