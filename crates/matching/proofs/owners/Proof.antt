-- Required members, then optional ones. Assumes nothing.
use Rattle.matching.proofs.Judging.{owners_both, owners_not}
use borrow.Author.Rules.{rules}
use Rattle.matching.proofs.owners.Statement.{statement}
use Rattle.matching.proofs.owners.Tie as tie

pub owners_spec : {M : Type 1} → statement M
owners_spec =
    tie.close
    (tie.spec
    (λ c κs. search rules)  -- required-requires
    (λ c κs. search rules)  -- optionals-requires
    (λ c. search owners_both)  -- returns
    (λ c. search owners_not))  -- returns_2
