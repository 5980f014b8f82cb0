-- The shape of a row: what its type asks of reader and writer, as one number.
--
--   form_number f         a form's number: of a bare one its type's bits, 8 own, 9 counted, 10 sized
--   narrow n             n where it is at most 237, else 0
--   width_of ty           a type's width: every string of so many bytes is a value of it; 0 if it has none of at most 237
--   widths_from n ts      the widths of a struct's members, added to n; 0 where one of them has none
--   struct_shape w b      the shape of a struct of width w: 18 + w; without a width that of a container, by whether it is fixed_size
--   shape_of ty           the shape of a type: 0 bool, 4 enum, 7 sequence of bool or byte, 8 string, 9 other containers and structs of fixed_size parts,
--                        10 those of other parts, proxy, broken and the enum of 1.0; 10 + w a byte or number of w bytes, 18 + w a struct of width w
--   plain_shape k         the shape of a row without parts, by its kind
--   shape_at t, shapes_of  the shape of row t; those of the rows 0 to 255
--   Shaped l t           the array l has the shapes of the rows below t
--   form_code, width_code  the number of the form, and the width, that a shape says
--   shape_in l t          the shape that the array l has for row t; that of a broken type past its end
--   form_in, width_in      its form's number, its width
--   width_below l t i     the width of row i as a part of row t: 0 unless i is below t
--   is_text_in, is_bool_in, is_enum_in   whether it is a string's, a bool's, an enum's
use Rattle.std.specs.Prelude.{ℕ, ◌+◌, ◌-◌, ◌/◌, ◌<◌, ◌≡◌, Bool, ◌&&◌, List, [], ◌∷◌, map, get_or, eqb, leb, ltb}
use Rattle.encoding.specs.Result.{pick}
use Rattle.encoding.specs.Types.{width, Ty, Tys, nil, cons, broken, bool, byte, string, proxy, old_proxy, num, enum, old_enum, struct, seq, dict, fixed, fixeds, single, Form, bare, own, counted, sized, bits}
use Rattle.encoding.specs.Table.{range, ty_of}

unfoldable pub form_number : Form → ℕ
form_number (bare k) = bits k
form_number own = 8
form_number counted = 9
form_number sized = 10

-- ---- of a type

abbrev pub narrow : ℕ → ℕ
narrow n = pick (leb n 237) n 0

unfoldable mutual
  pub width_of : Ty → ℕ
  width_of broken = 0
  width_of bool = 0
  width_of byte = 1
  width_of string = 0
  width_of proxy = 0
  width_of old_proxy = 0
  width_of (num w) = width w
  width_of (enum g) = 0
  width_of (old_enum g) = 0
  width_of (struct ts) = narrow (widths_from 0 ts)
  width_of (seq t) = 0
  width_of (dict k v) = 0

  pub widths_from : ℕ → Tys → ℕ
  widths_from n nil = n
  widths_from n (cons t ts) = pick (eqb (width_of t) 0) 0 (widths_from (n + width_of t) ts)

abbrev pub struct_shape : ℕ → Bool → ℕ
struct_shape w b = pick (eqb w 0) (pick b 9 10) (18 + w)

unfoldable pub shape_of : Ty → ℕ
shape_of broken = 10
shape_of bool = 0
shape_of byte = 11
shape_of string = 8
shape_of proxy = 10
shape_of old_proxy = 10
shape_of (num w) = 10 + width w
shape_of (enum g) = 4
shape_of (old_enum g) = 10
shape_of (struct ts) = struct_shape (width_of (struct ts)) (fixeds ts)
shape_of (seq t) = pick (single t) 7 (pick (fixed t) 9 10)
shape_of (dict k v) = pick (fixed k && fixed v) 9 10

-- ---- of the table's rows

unfoldable pub plain_shape : ℕ → ℕ
plain_shape k = get_or (0 ∷ 11 ∷ 12 ∷ 14 ∷ 18 ∷ 14 ∷ 18 ∷ 8 ∷ 4 ∷ []) k 10

unfoldable pub shape_at : List ℕ → ℕ → ℕ
shape_at T t = shape_of (ty_of T t)

unfoldable pub shapes_of : List ℕ → List ℕ
shapes_of T = map (shape_at T) (range 0 256)

pub record Shaped (T shapes : List ℕ) (t : ℕ) : Type 0 where
  pub below : (i : ℕ) → i < t → get_or shapes i 0 ≡ shape_at T i

-- ---- what a shape says

unfoldable pub form_code : ℕ → ℕ
form_code x = pick (ltb x 11) (pick (eqb x 7) 8 x) (pick (ltb x 18) ((x - 10) / 2) (pick (eqb x 18) 3 9))

unfoldable pub width_code : ℕ → ℕ
width_code x = pick (ltb x 11) 0 (pick (ltb x 19) (x - 10) (x - 18))

unfoldable pub shape_in : List ℕ → ℕ → ℕ
shape_in l t = pick (ltb t 256) (get_or l t 0) 10

abbrev pub form_in : List ℕ → ℕ → ℕ
form_in l t = form_code (shape_in l t)

abbrev pub width_in : List ℕ → ℕ → ℕ
width_in l t = width_code (shape_in l t)

abbrev pub width_below : List ℕ → ℕ → ℕ → ℕ
width_below l t i = pick (leb t i) 0 (width_in l i)

abbrev pub is_text_in : List ℕ → ℕ → Bool
is_text_in l t = eqb (shape_in l t) 8

abbrev pub is_bool_in : List ℕ → ℕ → Bool
is_bool_in l t = eqb (shape_in l t) 0

abbrev pub is_enum_in : List ℕ → ℕ → Bool
is_enum_in l t = eqb (shape_in l t) 4
