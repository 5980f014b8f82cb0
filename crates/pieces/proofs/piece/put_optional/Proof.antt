-- Header, length field and content, one after another. Assumes nothing.
use borrow.Author.Rules.{rules}
use native.Mathlib.Omega.{arith}
use Rattle.pieces.proofs.Fields.{optional_put}
use Rattle.pieces.proofs.piece.put_optional.Statement.{statement}
use Rattle.pieces.proofs.piece.put_optional.Tie as tie

pub put_optional_spec : {M : Type 1} → statement M
put_optional_spec =
    tie.close
    (tie.spec
    (λ c κs. search rules)  -- form-bits-requires
    (λ c κs. search rules)  -- put-header-requires
    (λ c κs. search rules)  -- part-len-requires
    (λ c κs. search rules)  -- put-length-requires
    (λ c κs. search rules)  -- put-content-requires
    (λ c. search rules)  -- same-length
    (λ c. (search optional_put, omega arith)))  -- returns
