-- The short of two bytes that are there.
use native.Mathlib.Omega.{arith}
use Rattle.wire.proofs.Laws.{short_is}
use Rattle.wire.proofs.short_in.Goals as goal

pub returns : goal.returns
returns c = (search short_is, omega arith)
