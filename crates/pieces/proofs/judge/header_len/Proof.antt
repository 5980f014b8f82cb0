-- By the tag. Assumes nothing.
use borrow.Author.Rules.{rules}
use native.Mathlib.Omega.{arith}
use Rattle.pieces.proofs.Fields.{header_one, header_more}
use Rattle.pieces.proofs.judge.header_len.Statement.{statement}
use Rattle.pieces.proofs.judge.header_len.Tie as tie

pub header_len_spec : {M : Type 1} → statement M
header_len_spec =
    tie.close
    (tie.spec
    (λ c. (search header_one, omega arith))  -- returns
    (λ c κs. search rules)  -- size-len-requires
    (λ c. search rules)  -- add_result
    (λ c. (search header_more, omega arith)))  -- returns_2
