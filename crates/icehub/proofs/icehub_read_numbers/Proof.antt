-- The number is that of the reader's answer; list and numbers are as the reader leaves them. Assumes nothing.
use borrow.Author.Rules.{rules}
use Rattle.numbers.proofs.Numbering.{number_same}
use Rattle.icehub.proofs.icehub_read_numbers.Statement.{statement}
use Rattle.icehub.proofs.icehub_read_numbers.Tie as tie

pub icehub_read_numbers_spec : {M : Type 1} → statement M
icehub_read_numbers_spec =
    tie.close
    (tie.spec
    (λ c κs. search rules)  -- read-numbers-requires
    (λ c κs. search rules)  -- number-requires
    (λ c. search rules)  -- same-length
    (λ c. search rules)  -- same-length-2
    (λ c. (search number_same, (search rules, search rules))))  -- returns
