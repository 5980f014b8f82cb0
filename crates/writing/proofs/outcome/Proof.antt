-- A part from 0 on is the whole. Assumes nothing.
use borrow.Author.Rules.{rules}
use Rattle.writing.proofs.Outcomes.{anew_outcome, anew_output}
use Rattle.writing.proofs.outcome.Statement.{statement}
use Rattle.writing.proofs.outcome.Tie as tie

pub outcome_spec : {M : Type 1} → statement M
outcome_spec =
    tie.close
    (tie.spec
    (λ c. search rules)  -- sub-checked
    (λ c. search rules)  -- part-checked-start
    (λ c. search rules)  -- part-checked-end
    (λ c. search rules)  -- sub-checked-2
    (λ c. search rules)  -- part-checked-start-2
    (λ c. search rules)  -- part-checked-end-2
    (λ c. search rules)  -- sub-checked-3
    (λ c. search rules)  -- part-checked-start-3
    (λ c. search rules)  -- part-checked-end-3
    (λ c κs. search rules)  -- checked-requires
    (λ c. search rules)  -- same-length
    (λ c. ((search anew_outcome, search rules), search anew_output)))  -- returns
