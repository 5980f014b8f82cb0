-- The front of 1.1. Assumes nothing.
use borrow.Author.Rules.{rules}
use Rattle.writer.proofs.Fronts.{front_new}
use Rattle.writer.proofs.slice.put_front.Statement.{statement}
use Rattle.writer.proofs.slice.put_front.Tie as tie

pub put_front_spec : {M : Type 1} → statement M
put_front_spec =
    tie.close
    (tie.spec
    (λ c κs. search rules)  -- names-at-requires
    (λ c κs. search rules)  -- owner-at-requires
    (λ c κs. search rules)  -- put-front-as-requires
    (λ c. search rules)  -- same-length
    (λ c. (search front_new, search rules)))  -- returns
