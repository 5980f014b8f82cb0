-- Tag bits above type bits, by masks and a shift.
use Rattle.wire.proofs.Bits.{header_masked}
use Rattle.wire.proofs.header_bits.Goals as goal

pub returns : goal.returns
returns c = header_masked _ _
