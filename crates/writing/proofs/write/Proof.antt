-- The answer made of the outcome is document 01's. Assumes nothing.
use borrow.Author.Rules.{rules}
use Rattle.writing.proofs.Outcomes.{answer_told}
use Rattle.writing.proofs.write.Statement.{statement}
use Rattle.writing.proofs.write.Tie as tie

returns : tie.Need-returns
returns c = (search answer_told, search rules)

pub write_spec : {M : Type 1} → statement M
write_spec =
    tie.close
    (tie.spec
    (λ c κs. search rules)  -- outcome-requires
    (λ c κs. search rules)  -- writing-of-requires
    (λ c. search rules)  -- same-length
    returns)
