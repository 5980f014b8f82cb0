-- The int of two shorts that are there.
use native.Mathlib.Omega.{arith}
use Rattle.wire.proofs.Laws.{int_is}
use Rattle.wire.proofs.int_in.Goals as goal

pub returns : goal.returns
returns c = (search int_is, omega arith)
