-- By the form. Assumes nothing.
use borrow.Author.Rules.{rules}
use Rattle.pieces.proofs.Fields.{length_put_none, length_put_size, length_put_int}
use Rattle.pieces.proofs.piece.put_length.Statement.{statement}
use Rattle.pieces.proofs.piece.put_length.Tie as tie

pub put_length_spec : {M : Type 1} → statement M
put_length_spec =
    tie.close
    (tie.spec
    (λ c. search (rules, length_put_none))  -- returns
    (λ c κs. search rules)  -- put-size-requires
    (λ c κs. search rules)  -- size-len-requires
    (λ c. search rules)  -- add_result
    (λ c. search rules)  -- same-length
    (λ c. search (rules, length_put_size))  -- returns_2
    (λ c κs. search rules)  -- put-number-requires
    (λ c. search rules)  -- add_result_2
    (λ c. search rules)  -- same-length-2
    (λ c. search (rules, length_put_int)))  -- returns_3
