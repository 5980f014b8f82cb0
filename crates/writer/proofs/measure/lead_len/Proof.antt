-- By the kind, then by the encoding. Assumes nothing.
use native.Mathlib.Omega.{arith}
use Rattle.writer.proofs.Walks.{long_list, long_class, long_old, long_new}
use Rattle.writer.proofs.measure.lead_len.Statement.{statement}
use Rattle.writer.proofs.measure.lead_len.Tie as tie

pub lead_len_spec : {M : Type 1} → statement M
lead_len_spec =
    tie.close
    (tie.spec
    (λ c. (search long_list, omega arith))  -- returns
    (λ c. (search long_class, omega arith))  -- returns_2
    (λ c. (search long_old, omega arith))  -- returns_3
    (λ c. (search long_new, omega arith)))  -- returns_4
