-- A byte at a place: the byte there, or 0 past the end.
use mathlib.Core.Path.{sym, ◌∙◌}
use native.Mathlib.Omega.{arith}
use Rattle.wire.specs.At.{at_byte, at_past}
use Rattle.wire.proofs.byte_at.Goals as goal

pub returns-then-i-s : goal.returns-then-i-s
returns-then-i-s c = (c.wide.ensures.0 ∙ sym (at_byte _ _), c.wide.ensures.1)

pub returns-else-i-s : goal.returns-else-i-s
returns-else-i-s c = (sym (at_past _ _ _ (omega arith)), omega arith)
