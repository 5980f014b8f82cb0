-- The short where both bytes are there, else the byte, if there is one.
use native.Mathlib.Omega.{arith}
use Rattle.wire.proofs.Laws.{short_cut}
use Rattle.wire.proofs.short_at.Goals as goal

pub returns : goal.returns
returns c = (search short_cut, omega arith)
