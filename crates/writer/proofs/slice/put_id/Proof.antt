-- The size, and the name after it. Assumes nothing.
use borrow.Author.Rules.{rules}
use native.Mathlib.Omega.{arith}
use Rattle.writer.proofs.Names.{id_put}
use Rattle.writer.proofs.slice.put_id.Statement.{statement}
use Rattle.writer.proofs.slice.put_id.Tie as tie

pub put_id_spec : {M : Type 1} → statement M
put_id_spec =
    tie.close
    (tie.spec
    (λ c κs. search rules)  -- size-len-requires
    (λ c κs. search rules)  -- put-size-requires
    (λ c. search rules)  -- add-put-part
    (λ c κs. search rules)  -- put-part-requires
    (λ c. search rules)  -- add_result
    (λ c. search rules)  -- add_result_2
    (λ c. search rules)  -- same-length
    (λ c. (search id_put, omega arith)))  -- returns
