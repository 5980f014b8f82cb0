-- The int where all four bytes are there, else what is there of the first three.
use mathlib.Core.Path.{sym}
use native.Mathlib.Omega.{arith}
use Rattle.wire.specs.At.{at_past}
use Rattle.wire.proofs.Laws.{int_cut}
use Rattle.wire.proofs.int_at.Goals as goal

pub returns-then-s-i : goal.returns-then-s-i
returns-then-s-i c = (sym (at_past _ _ _ (omega arith)), omega arith)

pub returns : goal.returns
returns c = (search int_cut, omega arith)
