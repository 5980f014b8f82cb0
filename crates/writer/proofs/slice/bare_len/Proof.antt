-- By the encoding. Assumes nothing.
use native.Mathlib.Omega.{arith}
use Rattle.writer.proofs.Fronts.{bare_old, bare_new}
use Rattle.writer.proofs.slice.bare_len.Statement.{statement}
use Rattle.writer.proofs.slice.bare_len.Tie as tie

pub bare_len_spec : {M : Type 1} → statement M
bare_len_spec =
    tie.close
    (tie.spec
    (λ c. (search bare_old, omega arith))  -- returns
    (λ c. (search bare_new, omega arith)))  -- returns_2
