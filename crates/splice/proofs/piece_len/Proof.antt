-- Header, length field and bytes, or nothing. Assumes nothing.
use borrow.Author.Rules.{rules}
use native.Mathlib.Omega.{arith}
use Rattle.splice.proofs.Putting.{piece_set, piece_none}
use Rattle.splice.proofs.piece_len.Statement.{statement}
use Rattle.splice.proofs.piece_len.Tie as tie

pub piece_len_spec : {M : Type 1} → statement M
piece_len_spec =
    tie.close
    (tie.spec
    (λ c κs. search rules)  -- header-len-requires
    (λ c κs. search rules)  -- field-len-requires
    (λ c. search rules)  -- add_result
    (λ c. search rules)  -- add_result_2
    (λ c. (search piece_set, omega arith))  -- returns
    (λ c. (search piece_none, omega arith)))  -- returns_2
