-- Bit 2, by its mask.
use Rattle.wire.proofs.Bits.{bit_set}
use Rattle.wire.proofs.has_optionals.Goals as goal

pub returns : goal.returns
returns c = bit_set c.args.flags 2
