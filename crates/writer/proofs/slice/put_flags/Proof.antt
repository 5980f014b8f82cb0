-- By the encoding. Assumes nothing.
use borrow.Author.Rules.{rules}
use native.Mathlib.Omega.{arith}
use Rattle.writer.proofs.Fronts.{flags_over, flags_put}
use Rattle.writer.proofs.slice.put_flags.Statement.{statement}
use Rattle.writer.proofs.slice.put_flags.Tie as tie

pub put_flags_spec : {M : Type 1} → statement M
put_flags_spec =
    tie.close
    (tie.spec
    (λ c. (search flags_over, omega arith))  -- returns
    (λ c κs. search rules)  -- slice-flags-requires
    (λ c κs. search rules)  -- put-number-requires
    (λ c. search rules)  -- add_result
    (λ c. search rules)  -- same-length
    (λ c. (search flags_put, omega arith)))  -- returns_2
