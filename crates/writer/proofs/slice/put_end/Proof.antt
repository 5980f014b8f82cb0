-- By the optionals. Assumes nothing.
use borrow.Author.Rules.{rules}
use native.Mathlib.Omega.{arith}
use Rattle.writer.proofs.Fronts.{end_put, end_over}
use Rattle.writer.proofs.slice.put_end.Statement.{statement}
use Rattle.writer.proofs.slice.put_end.Tie as tie

pub put_end_spec : {M : Type 1} → statement M
put_end_spec =
    tie.close
    (tie.spec
    (λ c κs. search rules)  -- put-number-requires
    (λ c. search rules)  -- add_result
    (λ c. search rules)  -- same-length
    (λ c. (search end_put, omega arith))  -- returns
    (λ c. (search end_over, omega arith)))  -- returns_2
