-- Flags, type ID and size, one after another. Assumes nothing.
use borrow.Author.Rules.{rules}
use Rattle.writer.proofs.Fronts.{front_put}
use Rattle.writer.proofs.slice.put_front_as.Statement.{statement}
use Rattle.writer.proofs.slice.put_front_as.Tie as tie

pub put_front_as_spec : {M : Type 1} → statement M
put_front_as_spec =
    tie.close
    (tie.spec
    (λ c κs. search rules)  -- put-flags-requires
    (λ c κs. search rules)  -- put-id-requires
    (λ c. search rules)  -- add-put-number
    (λ c κs. search rules)  -- put-number-requires
    (λ c. search rules)  -- add_result
    (λ c. search rules)  -- same-length
    (λ c. (search front_put, search rules)))  -- returns
