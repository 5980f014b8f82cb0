-- One byte, 0 or refused. Assumes nothing.
use Rattle.reader.proofs.Bodies.{lead_none, lead_other, lead_right}
use borrow.Author.Rules.{rules}
use Rattle.reader.proofs.lead.Statement.{statement}
use Rattle.reader.proofs.lead.Tie as tie

pub lead_spec : {M : Type 1} → statement M
lead_spec =
    tie.close
    (tie.spec
    (λ c. search lead_none)  -- returns
    (λ c κs. search rules)  -- byte-at-requires
    (λ c. search lead_other)  -- returns_2
    (λ c. search lead_right))  -- returns_3
