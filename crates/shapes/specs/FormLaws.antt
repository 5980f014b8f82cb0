-- The type bits of a form, by its number. Assumes nothing.
--
--   form_bits_lem    they are those of the form
use Rattle.std.specs.Prelude.{◌≡◌, refl}
use Rattle.std.proofs.Common.{lt-ltb}
use Rattle.encoding.specs.Types.{bits, Form, bare, own, counted, sized, bits_of}
use Rattle.encoding.proofs.TypesLaws.{bits_below}
use Rattle.wire.specs.Put.{form_bits}
use Rattle.shapes.specs.Shapes.{form_number}

pub form_bits_lem : (f : Form) → form_bits (form_number f) ≡ bits (bits_of f)
unfolding form_bits form_number
form_bits_lem (bare k) = rw (lt-ltb (bits k) 8 (bits_below k))
form_bits_lem own = refl
form_bits_lem counted = refl
form_bits_lem sized = refl
