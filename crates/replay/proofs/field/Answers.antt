-- What is left after the mask fits 32 bits.
use lib.Bits.{mask_lt}
use Rattle.replay.proofs.field.Goals as goal

pub overflow_cast-result : goal.overflow_cast-result
overflow_cast-result c = record { fits = mask_lt c.int_at.result 32 }
