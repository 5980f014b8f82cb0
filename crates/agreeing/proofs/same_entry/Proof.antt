-- Both entries are read from their tables. Assumes nothing.
use borrow.Author.Rules.{rules}
use Rattle.agreeing.proofs.same_entry.Statement.{statement}
use Rattle.agreeing.proofs.same_entry.Tie as tie

pub same_entry_spec : {M : Type 1} → statement M
same_entry_spec =
    tie.close
    (tie.spec
    (λ c κs. search rules)  -- list-entry-requires
    (λ c κs. search rules)  -- list-entry-requires-2
    (λ c. cc))  -- returns
