-- The number is that of the answer, and the output is the call's. Assumes nothing.
use borrow.Author.Rules.{rules}
use Rattle.numbers.proofs.Numbered.{same_number}
use Rattle.icehub.proofs.changes.icehub_set.Statement.{statement}
use Rattle.icehub.proofs.changes.icehub_set.Tie as tie

pub icehub_set_spec : {M : Type 1} → statement M
icehub_set_spec =
    tie.close
    (tie.spec
    (λ c κs. search rules)  -- set-requires
    (λ c κs. search rules)  -- written-number-requires
    (λ c. search rules)  -- same-length
    (λ c. (search same_number, search rules)))  -- returns
