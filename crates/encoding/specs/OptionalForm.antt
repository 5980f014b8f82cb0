-- Which types are fixed_size, and the form of an optional of each type, in document 01's words and apart from the equations of `Types`.
-- `ExactForms` promises that `Types.form_of` gives each type just this form.
--
--   FixedSize t, FixedSizes ts   t is fixed_size; so is each of ts
--   HasForm t f                  an optional of type t has form f
use Rattle.std.specs.Prelude.{◌≡◌}
use Rattle.encoding.specs.Types.{Allowed, Num, short, int, long, float, double, Ty, Tys, nil, cons, broken, bool, byte, string, proxy, old_proxy, num, enum, old_enum, struct, seq, dict, f1, f2, f4, f8, size, Form, bare, own, counted, sized}

-- kinds 0..6 and structs of only these
mutual
  pub data FixedSize : Ty → Type 0 where
    a_bool : FixedSize bool
    a_byte : FixedSize byte
    a_number : {w : Num} → FixedSize (num w)
    a_struct : {ts : Tys} → FixedSizes ts → FixedSize (struct ts)

  pub data FixedSizes : Tys → Type 0 where
    no_more : FixedSizes nil
    one_more : {t : Ty} {ts : Tys} → FixedSize t → FixedSizes ts → FixedSizes (cons t ts)

-- bool and byte F1; short F2; int and float F4; long and double F8; enum Size; string, sequence of bool or byte VSize with no further size;
-- other fixed_size structs and containers of fixed_size parts VSize; the rest, proxy too, FSize. 1.0 has no optionals: its types are among the rest
pub data HasForm : Ty → Form → Type 0 where
  bool_f1 : HasForm bool (bare f1)
  byte_f1 : HasForm byte (bare f1)
  short_f2 : HasForm (num short) (bare f2)
  int_f4 : HasForm (num int) (bare f4)
  float_f4 : HasForm (num float) (bare f4)
  long_f8 : HasForm (num long) (bare f8)
  double_f8 : HasForm (num double) (bare f8)
  enum_size : {g : Allowed} → HasForm (enum g) (bare size)
  string_own : HasForm string own
  bools_own : HasForm (seq bool) own
  bytes_own : HasForm (seq byte) own
  struct_counted : {ts : Tys} → FixedSize (struct ts) → HasForm (struct ts) counted
  sequence_counted : {t : Ty} → FixedSize t → (t ≡ bool → ⊥) → (t ≡ byte → ⊥) → HasForm (seq t) counted
  dictionary_counted : {k v : Ty} → FixedSize k → FixedSize v → HasForm (dict k v) counted
  struct_sized : {ts : Tys} → (FixedSize (struct ts) → ⊥) → HasForm (struct ts) sized
  sequence_sized : {t : Ty} → (FixedSize t → ⊥) → HasForm (seq t) sized
  dictionary_sized : {k v : Ty} → (FixedSize k × FixedSize v → ⊥) → HasForm (dict k v) sized
  proxy_sized : HasForm proxy sized
  old_proxy_sized : HasForm old_proxy sized
  old_enum_sized : {g : Allowed} → HasForm (old_enum g) sized
  broken_sized : HasForm broken sized
