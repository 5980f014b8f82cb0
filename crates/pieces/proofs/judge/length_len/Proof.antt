-- By the form. Assumes nothing.
use borrow.Author.Rules.{rules}
use native.Mathlib.Omega.{arith}
use Rattle.pieces.proofs.Fields.{length_zero, length_same, length_four}
use Rattle.pieces.proofs.judge.length_len.Statement.{statement}
use Rattle.pieces.proofs.judge.length_len.Tie as tie

pub length_len_spec : {M : Type 1} → statement M
length_len_spec =
    tie.close
    (tie.spec
    (λ c. (search length_zero, omega arith))  -- returns
    (λ c κs. search rules)  -- size-len-requires
    (λ c. (search length_same, omega arith))  -- returns_2
    (λ c. (search length_four, omega arith)))  -- returns_3
