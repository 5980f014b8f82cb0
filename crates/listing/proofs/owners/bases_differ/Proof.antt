-- By which of the two are there. Assumes nothing.
use Rattle.listing.proofs.Walking.{differ_none, differ_one, differ_names}
use borrow.Author.Rules.{rules}
use Rattle.listing.proofs.owners.bases_differ.Statement.{statement}
use Rattle.listing.proofs.owners.bases_differ.Tie as tie

pub bases_differ_spec : {M : Type 1} → statement M
bases_differ_spec =
    tie.close
    (tie.spec
    (λ c. search differ_none)  -- returns
    (λ c. search differ_one)  -- returns_2
    (λ c. search rules)  -- sub-same-names
    (λ c. search rules)  -- sub-same-names-2
    (λ c κs. search rules)  -- same-names-requires
    (λ c. search differ_names))  -- returns_3
