-- The long is two ints of the part that begins at its place.
use mathlib.Core.Path.{sym}
use native.Mathlib.Omega.{arith}
use Rattle.wire.specs.At.{at_past}
use Rattle.wire.proofs.Laws.{long_is}
use Rattle.wire.proofs.long_at.Goals as goal

pub returns-then-s-i : goal.returns-then-s-i
returns-then-s-i c = sym (at_past _ _ _ (omega arith))

pub returns : goal.returns
returns c = search long_is
