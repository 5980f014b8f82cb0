-- The outcome for an output that holds no message says what it is for any room. Assumes nothing.
use borrow.Author.Rules.{rules}
use Rattle.writing.proofs.Outcomes.{answer_fitted}
use Rattle.writing.proofs.written.Statement.{statement}
use Rattle.writing.proofs.written.Tie as tie

returns : tie.Need-returns
returns c = search answer_fitted

pub written_spec : {M : Type 1} → statement M
written_spec =
    tie.close
    (tie.spec
    (λ c. search rules)  -- slice-aggregate-outcome
    (λ c κs. search rules)  -- outcome-requires
    (λ c κs. search rules)  -- fit-requires
    (λ c κs. search rules)  -- writing-of-requires
    returns)
