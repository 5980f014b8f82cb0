-- What `checked` gives of slices taken anew. Assumes nothing.
use borrow.Author.Rules.{rules}
use Rattle.reading.proofs.Telling.{anew_lent, anew_old, anew_walked, anew_shapes}
use Rattle.reading.proofs.walk.Statement.{statement}
use Rattle.reading.proofs.walk.Tie as tie

pub walk_spec : {M : Type 1} → statement M
walk_spec =
    tie.close
    (tie.spec
    (λ c. search rules)  -- sub-checked
    (λ c. search rules)  -- part-checked-start
    (λ c. search rules)  -- part-checked-end
    (λ c. search rules)  -- sub-checked-2
    (λ c. search rules)  -- part-checked-start-2
    (λ c. search rules)  -- part-checked-end-2
    (λ c κs. (search anew_lent, search anew_old))  -- checked-requires
    (λ c. search rules)  -- same-length
    (λ c. (search anew_walked, search anew_shapes)))  -- returns
