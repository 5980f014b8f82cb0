-- The number is that of the reader's answer, and the list is as the reader leaves it. Assumes nothing.
use borrow.Author.Rules.{rules}
use Rattle.numbers.proofs.Numbering.{number_same}
use Rattle.icehub.proofs.icehub_read.Statement.{statement}
use Rattle.icehub.proofs.icehub_read.Tie as tie

pub icehub_read_spec : {M : Type 1} → statement M
icehub_read_spec =
    tie.close
    (tie.spec
    (λ c κs. search rules)  -- read-requires
    (λ c κs. search rules)  -- number-requires
    (λ c. search rules)  -- same-length
    (λ c. (search number_same, search rules)))  -- returns
