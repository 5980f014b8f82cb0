-- By the optionals. Assumes nothing.
use native.Mathlib.Omega.{arith}
use Rattle.writer.proofs.Fronts.{end_some, end_none}
use Rattle.writer.proofs.measure.end_len.Statement.{statement}
use Rattle.writer.proofs.measure.end_len.Tie as tie

pub end_len_spec : {M : Type 1} → statement M
end_len_spec =
    tie.close
    (tie.spec
    (λ c. (search end_some, omega arith))  -- returns
    (λ c. (search end_none, omega arith)))  -- returns_2
