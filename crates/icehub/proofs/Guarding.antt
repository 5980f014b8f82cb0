-- The number of a start of the frost guard. Assumes nothing.
--
--   guard_refusal    the refusal's number of an answer as the code has it
use mathlib.Core.Path.{◌≡◌, ap}
use lib.ListN.{get_or}
use Rattle.frost.specs.declared.Told as code
use Rattle.frost.specs.Frost.{Told, told_numbers}
use Rattle.frost.specs.Code.{told_in}

pub guard_refusal : (t : code.Told) (x : Told) → told_in t ≡ x → t.refusal ≡ get_or (told_numbers x) 0 0
unfolding told_numbers
guard_refusal t x e = ap (λ (y : Told). y.refusal) e
