-- One byte, or a byte and the tag as a size. Assumes nothing.
use borrow.Author.Rules.{rules}
use Rattle.pieces.proofs.Fields.{header_put_short, header_put_long}
use Rattle.pieces.proofs.piece.put_header.Statement.{statement}
use Rattle.pieces.proofs.piece.put_header.Tie as tie

pub put_header_spec : {M : Type 1} → statement M
put_header_spec =
    tie.close
    (tie.spec
    (λ c κs. search rules)  -- header-bits-requires
    (λ c κs. search rules)  -- put-number-requires
    (λ c. search rules)  -- add_result
    (λ c. search rules)  -- same-length
    (λ c. search (rules, header_put_short))  -- returns
    (λ c κs. search rules)  -- header-bits-requires-2
    (λ c κs. search rules)  -- put-number-requires-2
    (λ c. search rules)  -- add-put-size
    (λ c κs. search rules)  -- put-size-requires
    (λ c. search rules)  -- add_result_2
    (λ c κs. search rules)  -- size-len-requires
    (λ c. search rules)  -- add_result_3
    (λ c. search rules)  -- same-length-2
    (λ c. search (rules, header_put_long)))  -- returns_2
