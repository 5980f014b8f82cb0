-- Bit 5, by its mask.
use Rattle.wire.proofs.Bits.{bit_set}
use Rattle.wire.proofs.is_last.Goals as goal

pub returns : goal.returns
returns c = bit_set c.args.flags 5
