-- Bit 4, by its mask.
use Rattle.wire.proofs.Bits.{bit_set}
use Rattle.wire.proofs.has_size.Goals as goal

pub returns : goal.returns
returns c = bit_set c.args.flags 4
