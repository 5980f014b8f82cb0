-- The answer and its numbers, each as its function gives it. Assumes nothing.
use borrow.Author.Rules.{rules}
use Rattle.reading.proofs.Numbering.{told_few}
use Rattle.reading.proofs.numbered.Statement.{statement}
use Rattle.reading.proofs.numbered.Tie as tie

pub numbered_spec : {M : Type 1} → statement M
numbered_spec =
    tie.close
    (tie.spec
    (λ c κs. search rules)  -- few-skipped-requires
    (λ c κs. search rules)  -- told-requires
    (λ c κs. search rules)  -- put-numbers-requires
    (λ c. search rules)  -- same-length
    (λ c. (search told_few, search rules)))  -- returns
