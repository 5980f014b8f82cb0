-- An optional as the writer puts it, or nothing. Assumes nothing.
use borrow.Author.Rules.{rules}
use native.Mathlib.Omega.{arith}
use Rattle.splice.proofs.Putting.{piece_put, piece_end, piece_skip}
use Rattle.splice.proofs.put_piece.Statement.{statement}
use Rattle.splice.proofs.put_piece.Tie as tie

pub put_piece_spec : {M : Type 1} → statement M
put_piece_spec =
    tie.close
    (tie.spec
    (λ c κs. search rules)  -- put-optional-requires
    (λ c. search rules)  -- same-length
    (λ c. (search piece_put, search piece_end))  -- returns
    (λ c. (search piece_skip, omega arith)))  -- returns_2
