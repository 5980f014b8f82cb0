-- Bit 3, by its mask.
use Rattle.wire.proofs.Bits.{bit_set}
use Rattle.wire.proofs.has_table.Goals as goal

pub returns : goal.returns
returns c = bit_set c.args.flags 3
