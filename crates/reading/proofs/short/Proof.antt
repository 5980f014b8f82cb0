-- Each arm gives what `short_of` gives of its case. Assumes nothing.
use borrow.Author.Rules.{rules}
use Rattle.reading.proofs.Numbering.{short_accepted, short_refused}
use Rattle.reading.proofs.short.Statement.{statement}
use Rattle.reading.proofs.short.Tie as tie

pub short_spec : {M : Type 1} → statement M
short_spec =
    tie.close
    (tie.spec
    (λ c. search rules)  -- enum-known-a
    (λ c. search rules)  -- enum-known-a-2
    (λ c. search short_accepted)  -- returns
    (λ c. search short_refused))  -- returns_2
