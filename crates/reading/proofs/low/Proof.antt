-- The mask is 2 ^ 32 - 1, so what is left are the low 32 bits. Assumes nothing.
use lib.Bits.{and_mask, mask_lt}
use Rattle.reading.proofs.low.Statement.{statement}
use Rattle.reading.proofs.low.Tie as tie

pub low_spec : {M : Type 1} → statement M
low_spec =
    tie.close
    (tie.spec
    (λ c. record { fits = mask_lt c.args.x 32 })  -- cast-result
    (λ c. and_mask c.args.x 32))  -- returns
