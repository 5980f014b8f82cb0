-- Kind, then name. Assumes nothing.
use Rattle.matching.proofs.Judging.{same_kinds, same_not}
use borrow.Author.Rules.{rules}
use Rattle.matching.proofs.same_record.Statement.{statement}
use Rattle.matching.proofs.same_record.Tie as tie

pub same_record_spec : {M : Type 1} → statement M
same_record_spec =
    tie.close
    (tie.spec
    (λ c κs. search rules)  -- kind-requires
    (λ c κs. search rules)  -- kind-requires-2
    (λ c κs. search rules)  -- same-names-requires
    (λ c. search same_kinds)  -- returns
    (λ c. search same_not))  -- returns_2
