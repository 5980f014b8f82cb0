-- The four parts, one after another. Assumes nothing.
use borrow.Author.Rules.{rules}
use Rattle.splice.proofs.Putting.{whole_from, whole_at, whole_put}
use Rattle.splice.proofs.put.Statement.{statement}
use Rattle.splice.proofs.put.Tie as tie

pub put_spec : {M : Type 1} → statement M
put_spec =
    tie.close
    (tie.spec
    (λ c κs. (search rules, (search rules, search whole_from)))  -- put-front-requires
    (λ c κs. (search rules, search whole_at))  -- put-piece-requires
    (λ c κs. search rules)  -- put-marker-requires
    (λ c κs. search rules)  -- put-part-requires
    (λ c. search rules)  -- same-length
    (λ c. search whole_put))  -- returns
