-- The bits are apart, so that joining them is adding their worth.
use borrow.Author.Rules.{rules}
use Rattle.wire.proofs.Bits.{flags_joined}
use Rattle.wire.proofs.slice_flags.Goals as goal

pub returns : goal.returns
returns c = search (rules, flags_joined)
