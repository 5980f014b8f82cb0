-- Forms and their numbers. Assumes nothing.
--
--   named_form    the form of the number of a type's form is that form
--   bare_width    a type of form F1 to F8 that has a width has that of its form
use Rattle.std.specs.Prelude.{◌≡◌, refl, Bool, true, false, ◌&&◌, ◌<◌}
use Rattle.std.proofs.Common.{arith}
use Rattle.encoding.specs.Result.{pick}
use Rattle.encoding.specs.Types.{short, int, long, float, double, Ty, broken, bool, byte, string, proxy, old_proxy, num, enum, old_enum, struct, seq, dict, fixed, fixeds, single, own, counted, sized, form_of}
use Rattle.shapes.specs.Shapes.{form_number, width_of}
use Rattle.optional.specs.Forms.{form_named, run_width}

counted_named : (b : Bool) → form_named (form_number (pick b counted sized)) ≡ pick b counted sized
unfolding form_named form_number
counted_named true = refl
counted_named false = refl

pub named_form : (t : Ty) → form_named (form_number (form_of t)) ≡ form_of t
unfolding form_named form_number form_of
named_form broken = refl
named_form bool = refl
named_form byte = refl
named_form string = refl
named_form proxy = refl
named_form old_proxy = refl
named_form (num short) = refl
named_form (num int) = refl
named_form (num long) = refl
named_form (num float) = refl
named_form (num double) = refl
named_form (enum g) = refl
named_form (old_enum g) = refl
named_form (struct ts) = counted_named (fixeds ts)
named_form (seq t) = go (single t) (fixed t)
  where
    go : (a b : Bool) → form_named (form_number (pick a own (pick b counted sized))) ≡ pick a own (pick b counted sized)
    go true b = refl
    go false b = counted_named b
named_form (dict k v) = counted_named (fixed k && fixed v)

counted_late : (b : Bool) {A : Type 0} → form_number (pick b counted sized) < 4 → A
unfolding form_number
counted_late true h = absurd (omega arith)
counted_late false h = absurd (omega arith)

pub bare_width : (t : Ty) → form_number (form_of t) < 4 → 0 < width_of t → width_of t ≡ run_width (form_number (form_of t))
unfolding form_number form_of width_of run_width
bare_width broken f h = absurd (omega arith)
bare_width bool f h = absurd (omega arith)
bare_width byte f h = refl
bare_width string f h = absurd (omega arith)
bare_width proxy f h = absurd (omega arith)
bare_width old_proxy f h = absurd (omega arith)
bare_width (num short) f h = refl
bare_width (num int) f h = refl
bare_width (num long) f h = refl
bare_width (num float) f h = refl
bare_width (num double) f h = refl
bare_width (enum g) f h = absurd (omega arith)
bare_width (old_enum g) f h = absurd (omega arith)
bare_width (struct ts) f h = counted_late (fixeds ts) f
bare_width (seq t) f h = absurd (omega arith)
bare_width (dict k v) f h = absurd (omega arith)
