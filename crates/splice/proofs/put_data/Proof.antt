-- Two parts, one after another. Assumes nothing.
use borrow.Author.Rules.{rules}
use Rattle.splice.proofs.Putting.{data_put}
use Rattle.splice.proofs.put_data.Statement.{statement}
use Rattle.splice.proofs.put_data.Tie as tie

pub put_data_spec : {M : Type 1} → statement M
put_data_spec =
    tie.close
    (tie.spec
    (λ c κs. search rules)  -- put-number-requires
    (λ c. search rules)  -- add-put-part
    (λ c. search rules)  -- add-put-part-2
    (λ c. search rules)  -- add-put-part-3
    (λ c. search rules)  -- sub-put-part
    (λ c κs. search rules)  -- put-part-requires
    (λ c. search rules)  -- same-length
    (λ c. search data_put))  -- returns
