-- The state of the frost guard as bytes, as the code has it.
--
--   loaded_in    the state that bytes hold, if they are a state
--   head_of g    set point and marks as one number of eight bytes
use Rattle.std.proofs.Math.Option as Math
use Rattle.std.specs.Prelude.{ℕ, ◌+◌, ◌*◌, Option, Some, None}
use Rattle.frost.specs.declared.Guard as code
use Rattle.frost.specs.Frost.{Guard, mark_of}
use Rattle.frost.specs.Code.{guard_in}

abbrev pub loaded_in : Option code.Guard → Math.Option Guard
loaded_in (Some g) = Math.some (guard_in g)
loaded_in None = Math.none

unfoldable pub head_of : Guard → ℕ
head_of g = g.set + 65536 * (mark_of g.tick + 256 * (mark_of g.start + 256 * mark_of g.delay))
