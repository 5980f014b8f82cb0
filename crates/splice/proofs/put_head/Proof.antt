-- Three parts, one after another. Assumes nothing.
use borrow.Author.Rules.{rules}
use Rattle.splice.proofs.Putting.{head_put}
use Rattle.splice.proofs.put_head.Statement.{statement}
use Rattle.splice.proofs.put_head.Tie as tie

pub put_head_spec : {M : Type 1} → statement M
put_head_spec =
    tie.close
    (tie.spec
    (λ c κs. search rules)  -- byte-at-requires
    (λ c κs. search rules)  -- is-last-requires
    (λ c. search rules)  -- sub-put-part
    (λ c κs. search rules)  -- put-part-requires
    (λ c κs. search rules)  -- slice-flags-requires
    (λ c κs. search rules)  -- put-number-requires
    (λ c. search rules)  -- add-put-part
    (λ c. search rules)  -- add-put-part-2
    (λ c. search rules)  -- add-put-part-3
    (λ c. search rules)  -- sub-put-part-2
    (λ c κs. search rules)  -- put-part-requires-2
    (λ c. search rules)  -- same-length
    (λ c. search head_put))  -- returns
