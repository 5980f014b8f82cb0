-- All records, then the tops. Assumes nothing.
use Rattle.matching.proofs.Judging.{extending_both, extending_not}
use borrow.Author.Rules.{rules}
use Rattle.matching.proofs.extending.Statement.{statement}
use Rattle.matching.proofs.extending.Tie as tie

pub extending_spec : {M : Type 1} → statement M
extending_spec =
    tie.close
    (tie.spec
    (λ c κs. search rules)  -- all-matched-requires
    (λ c κs. search rules)  -- tops-requires
    (λ c. search extending_both)  -- returns
    (λ c. search extending_not))  -- returns_2
