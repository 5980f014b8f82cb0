-- Shapes of rows, each from the shapes of the rows below. Assumes nothing.
--
--   code_..                                    the form that a shape says
--   plain_none                                 the shape of a row without parts
--   width_none, width_number, width_struct     the width that a shape says
--   shape_here, shape_past                     the shape of a row, in the array and past its end
--   fixed_..                                   what the test of one row finds, by its shape and kind
--   Members, members_..                        the loop over a struct's members: each is fixed_size
--   Widths, widths_..                          the same: their widths
--   struct_.., seq_.., dict_.., row_..         the shapes of structs and containers; of a row of each kind
--   Filling, filling_..                        the array as it fills
use Prim.Native.Nat.{ℕ, zero, suc, ◌+◌, ◌-◌, ◌*◌, ◌/◌, ◌≤◌, ◌<◌}
use mathlib.Core.Path.{◌≡◌, refl, sym, ap, ◌∙◌}
use mathlib.Core.Bool.{Bool, true, false, ◌&&◌, ◌||◌}
use mathlib.Core.Logic.{⊎_elim}
use mathlib.Core.List.{List, [], ◌∷◌, map}
use native.Mathlib.Nat.{eq-or-lt_of_le}
use native.Mathlib.Omega.{arith}
use lib.ListN.{length, get_or, set, replicate, length-set, length-map, length-replicate, get_or-replicate, get_or-eq_default}
use lib.Seq.{get_or-set_same, get_or-set_other, ext_get_or}
use lib.Dec.{eqb, leb, ltb}
use borrow.Author.Tests.{leb-true, leb-false, le-leb, lt-leb, lt-ltb, le-ltb, eq-eqb, ne_eqb, eqb-false}
use Rattle.encoding.specs.Result.{pick}
use Rattle.encoding.specs.Types.{Tys, struct, seq, dict, fixed, fixeds, single}
use Rattle.encoding.specs.Table.{kind, field, members, member_type, range, member_tys, own_rows, tys, part_ty, type_rows, ty_of}
use Rattle.encoding.proofs.TableLaws.{rows_below, ty_past, below_ty, below_none, member_in, member_past, members_more, members_none, row_bool, row_byte, row_short, row_int, row_long, row_float, row_double, row_string, row_enum, row_struct, row_seq, row_dict, row_proxy, row_other}
use Rattle.shapes.specs.Shapes.{narrow, width_of, widths_from, struct_shape, shape_of, plain_shape, shape_at, shapes_of, Shaped, form_code, width_code, shape_in, width_in}
use Rattle.shapes.specs.ShapesLaws.{width_fixed, range_at, shape_width}
use Rattle.table.proofs.ByKind.{by_kind}

-- ---- what a shape says

module _ (x : ℕ) where
  pub code_own : x < 11 → x ≡ 7 → 8 ≡ form_code x
  unfolding form_code
  code_own h e = rw e

  pub code_same : x < 11 → (x ≡ 7 → ⊥) → x ≡ form_code x
  unfolding form_code
  code_same h e = rw (lt-ltb x 11 h, ne_eqb x 7 e)

  module _ (h : 11 ≤ x) where
    pub code_number : x < 18 → (x - 10) / 2 ≡ form_code x
    unfolding form_code
    code_number l = rw (le-ltb x 11 h, lt-ltb x 18 l)

    pub code_eight : x ≡ 18 → 3 ≡ form_code x
    unfolding form_code
    code_eight e = rw e

    pub code_struct : 18 ≤ x → (x ≡ 18 → ⊥) → 9 ≡ form_code x
    unfolding form_code
    code_struct l e = rw (le-ltb x 11 h, le-ltb x 18 l, ne_eqb x 18 e)

plain_past : (k : ℕ) → 9 ≤ k → plain_shape k ≡ 10
unfolding plain_shape
plain_past k h = get_or-eq_default (0 ∷ 11 ∷ 12 ∷ 14 ∷ 18 ∷ 14 ∷ 18 ∷ 8 ∷ 4 ∷ []) 10 {n = k} h

pub plain_none : (k : ℕ) → (k ≡ 0 → ⊥) → (k ≡ 1 → ⊥) → (k ≡ 2 → ⊥) → (k ≡ 3 → ⊥) → (k ≡ 4 → ⊥) → (k ≡ 5 → ⊥) → (k ≡ 6 → ⊥) → (k ≡ 7 → ⊥) → (k ≡ 8 → ⊥) → 10 ≡ plain_shape k
unfolding plain_shape
plain_none = by_kind (λ k. (k ≡ 0 → ⊥) → (k ≡ 1 → ⊥) → (k ≡ 2 → ⊥) → (k ≡ 3 → ⊥) → (k ≡ 4 → ⊥) → (k ≡ 5 → ⊥) → (k ≡ 6 → ⊥) → (k ≡ 7 → ⊥) → (k ≡ 8 → ⊥) → 10 ≡ plain_shape k)
    (λ a b c d e f g h i. absurd (a refl)) (λ a b c d e f g h i. absurd (b refl)) (λ a b c d e f g h i. absurd (c refl)) (λ a b c d e f g h i. absurd (d refl))
    (λ a b c d e f g h i. absurd (e refl)) (λ a b c d e f g h i. absurd (f refl)) (λ a b c d e f g h i. absurd (g refl)) (λ a b c d e f g h i. absurd (h refl))
    (λ a b c d e f g h i. absurd (i refl)) (λ a b c d e f g h i. refl) (λ a b c d e f g h i. refl) (λ a b c d e f g h i. refl) (λ a b c d e f g h i. refl)
    (λ n l a b c d e f g h i. sym (plain_past n (omega arith)))

module _ (x : ℕ) where
  pub width_none : x < 11 → 0 ≡ width_code x
  unfolding width_code
  width_none h = rw (lt-ltb x 11 h)

  pub width_number : 11 ≤ x → x < 19 → x - 10 ≡ width_code x
  unfolding width_code
  width_number h l = rw (le-ltb x 11 h, lt-ltb x 19 l)

  pub width_struct : 11 ≤ x → 19 ≤ x → x - 18 ≡ width_code x
  unfolding width_code
  width_struct h l = rw (le-ltb x 11 h, le-ltb x 19 l)

module _ (shapes : List ℕ) (t : ℕ) where
  pub shape_here : (r : ℕ) → t < 256 → r ≡ get_or shapes t 0 → r ≡ shape_in shapes t
  unfolding shape_in
  shape_here r h e = rw (lt-ltb t 256 h) e

  pub shape_past : 256 ≤ t → 10 ≡ shape_in shapes t
  unfolding shape_in
  shape_past h = rw (le-ltb t 256 h)

-- ---- one row

-- fixed_size rows have the shape 0 or one above 10, and structs of only these without a width 9
abbrev fixed_by : ℕ → ℕ → Bool
fixed_by x k = ltb 10 x || (eqb x 0 || (eqb x 9 && eqb k 9))

fixed_struct_shape : (ts : Tys) → fixeds ts ≡ fixed_by (struct_shape (width_of (struct ts)) (fixeds ts)) 9
unfolding fixed
fixed_struct_shape ts = go (eqb (width_of (struct ts)) 0) refl (fixeds ts) refl
  where
    go : (a : Bool) → eqb (width_of (struct ts)) 0 ≡ a → (b : Bool) → fixeds ts ≡ b → b ≡ fixed_by (pick a (pick b 9 10) (18 + width_of (struct ts))) 9
    go true e true f = refl
    go true e false f = refl
    go false e b f =
        sym f ∙ width_fixed (struct ts) (let q = eqb-false (width_of (struct ts)) 0 e in omega arith)
        ∙ sym (rw (lt-ltb 10 (18 + width_of (struct ts)) (omega arith)))

module _ (T : List ℕ) (t : ℕ) (h : t < type_rows T) where
  single_kind : single (ty_of T t) ≡ leb (kind T t) 1
  unfolding single
  single_kind = by_kind (λ k. kind T t ≡ k → single (ty_of T t) ≡ leb k 1)
      (λ e. rw (row_bool T t h e)) (λ e. rw (row_byte T t h e)) (λ e. rw (row_short T t h e)) (λ e. rw (row_int T t h e))
      (λ e. rw (row_long T t h e)) (λ e. rw (row_float T t h e)) (λ e. rw (row_double T t h e)) (λ e. rw (row_string T t h e))
      (λ e. rw (row_enum T t h e)) (λ e. rw (row_struct T t h e)) (λ e. rw (row_seq T t h e)) (λ e. rw (row_dict T t h e)) (λ e. rw (row_proxy T t h e))
      (λ n l e. rw (row_other T t h (rw e l)) (sym (lt-leb n 1 (omega arith))))
      (kind T t) refl

  fixed_shape : fixed (ty_of T t) ≡ fixed_by (shape_at T t) (kind T t)
  unfolding fixed shape_at shape_of part_ty
  fixed_shape = by_kind (λ k. kind T t ≡ k → fixed (ty_of T t) ≡ fixed_by (shape_at T t) k)
      (λ e. rw (row_bool T t h e)) (λ e. rw (row_byte T t h e)) (λ e. rw (row_short T t h e)) (λ e. rw (row_int T t h e))
      (λ e. rw (row_long T t h e)) (λ e. rw (row_float T t h e)) (λ e. rw (row_double T t h e)) (λ e. rw (row_string T t h e))
      (λ e. rw (row_enum T t h e))
      (λ e. rw (row_struct T t h e) (fixed_struct_shape (member_tys T (tys T t) (range (field T t 0) (field T t 1)))))
      (λ e. rw (row_seq T t h e) (as_seq (single (part_ty T t (field T t 0))) (fixed (part_ty T t (field T t 0)))))
      (λ e. rw (row_dict T t h e) (as_dict (fixed (part_ty T t (field T t 0)) && fixed (part_ty T t (field T t 1)))))
      (λ e. rw (row_proxy T t h e))
      (λ n l e. rw (row_other T t h (rw e l)))
      (kind T t) refl
    where
      as_seq : (a b : Bool) → false ≡ fixed_by (pick a 7 (pick b 9 10)) 10
      as_seq true b = refl
      as_seq false true = refl
      as_seq false false = refl

      as_dict : (b : Bool) → false ≡ fixed_by (pick b 9 10) 11
      as_dict true = refl
      as_dict false = refl

-- the test of row i as a part of row t
pub fixed_none : (T : List ℕ) (t i : ℕ) → t ≤ i → false ≡ fixed (part_ty T t i)
unfolding fixed part_ty
fixed_none T t i h = rw (below_none T t i h)

module _ (T shapes : List ℕ) (t i : ℕ) (l : t ≤ type_rows T) (below : Shaped T shapes t) (h : i < t) where
  fixed_part : fixed (part_ty T t i) ≡ fixed_by (get_or shapes i 0) (kind T i)
  unfolding part_ty
  fixed_part = rw (below_ty T t i l h, below.below i h) (fixed_shape T i (omega arith))

  pub fixed_wide : 10 < get_or shapes i 0 → true ≡ fixed (part_ty T t i)
  fixed_wide e = sym (fixed_part ∙ rw (lt-ltb _ _ e))

  module _ (a : get_or shapes i 0 ≤ 10) where
    pub fixed_bool : get_or shapes i 0 ≡ 0 → true ≡ fixed (part_ty T t i)
    fixed_bool e = sym (fixed_part ∙ rw (le-ltb _ _ a, eq-eqb _ _ e))

    module _ (b : get_or shapes i 0 ≡ 0 → ⊥) where
      pub fixed_struct : (k : ℕ) → k ≡ kind T i → get_or shapes i 0 ≡ 9 → eqb k 9 ≡ fixed (part_ty T t i)
      fixed_struct k ek e = sym (fixed_part ∙ rw (le-ltb _ _ a, ne_eqb _ _ b, eq-eqb _ _ e, ek))

      pub fixed_not : (get_or shapes i 0 ≡ 9 → ⊥) → false ≡ fixed (part_ty T t i)
      fixed_not e = sym (fixed_part ∙ rw (le-ltb _ _ a, ne_eqb _ _ b, ne_eqb _ _ e))

-- ---- a struct's members

-- what is left to look at decides the answer
abbrev pub Members : List ℕ → ℕ → ℕ → ℕ → Type 0
Members T t m left = (m + left < 131072)
    × (fixeds (member_tys T (tys T t) (own_rows T t)) ≡ fixeds (member_tys T (tys T t) (range m left)))

pub members_begin : (T : List ℕ) (t m left : ℕ) → m ≡ field T t 0 → left ≡ field T t 1 → m < 65536 → left < 65536 → Members T t m left
unfolding own_rows
members_begin T t m left em el hm hl = (omega arith, rw (em, el))

module _ (T : List ℕ) (t m left : ℕ) (inv : Members T t m left) where
  pub members_end : left ≤ 0 → true ≡ fixeds (member_tys T (tys T t) (own_rows T t))
  unfolding fixeds
  members_end h = sym (inv.1 ∙ rw (members_none T (tys T t) m left h))

  module _ (h : 0 < left) (n : ℕ) (e : n ≡ members T) where
    pub members_past : n ≤ m → false ≡ fixeds (member_tys T (tys T t) (own_rows T t))
    unfolding fixed fixeds
    members_past l = sym (inv.1 ∙ rw (members_more T (tys T t) m left h, member_past T m (tys T t) (rw e at l)))

    module _ (l : m < n) (i : ℕ) (ei : i ≡ member_type T m) (r : Bool) (er : r ≡ fixed (part_ty T t i)) where
      member_fixed : (b : Bool) → r ≡ b → fixeds (member_tys T (tys T t) (own_rows T t)) ≡ b && fixeds (member_tys T (tys T t) (range (m + 1) (left - 1)))
      unfolding fixeds part_ty
      member_fixed b q = inv.1 ∙ rw (members_more T (tys T t) m left h, member_in T m (tys T t) (rw e at l), ← ei, ← er, q)

      pub members_not : r ≡ false → false ≡ fixeds (member_tys T (tys T t) (own_rows T t))
      members_not q = sym (member_fixed false q)

      pub members_next : r ≡ true → (k : ℕ) → k ≡ left - 1 → Members T t (m + 1) k
      members_next q k z = (omega arith, rw z (member_fixed true q))

-- ---- the width of a struct

-- the width of row i as a part of row t
pub width_part : (T shapes : List ℕ) (t i r : ℕ) → t ≤ type_rows T → Shaped T shapes t → r ≡ pick (leb t i) 0 (width_in shapes i) → r ≡ width_of (part_ty T t i)
unfolding width_of shape_at part_ty
width_part T shapes t i r l below e = e ∙ go (leb t i) refl
  where
    go : (b : Bool) → leb t i ≡ b → pick b 0 (width_in shapes i) ≡ width_of (part_ty T t i)
    go true q = rw (below_none T t i (leb-true _ _ q))
    go false q =
        let h = leb-false _ _ q in
        rw (below_ty T t i l h) (ap width_code (sym (shape_here shapes i _ (omega (arith, rows_below T)) (sym (below.below i h)))) ∙ shape_width (ty_of T i))

-- the sum so far and what is left to look at decide the answer
abbrev pub Widths : List ℕ → ℕ → ℕ → ℕ → ℕ → Type 0
Widths T t m left sum = (m + left < 131072)
    × ((sum + 256 * left < 16777216) × (widths_from 0 (member_tys T (tys T t) (own_rows T t)) ≡ widths_from sum (member_tys T (tys T t) (range m left))))

pub widths_begin : (T : List ℕ) (t m left : ℕ) → m ≡ field T t 0 → left ≡ field T t 1 → m < 65536 → left < 65536 → Widths T t m left 0
unfolding own_rows
widths_begin T t m left em el hm hl = (omega arith, (omega arith, rw (em, el)))

module _ (T : List ℕ) (t m left sum : ℕ) (inv : Widths T t m left sum) where
  struct_width : (n : ℕ) → widths_from sum (member_tys T (tys T t) (range m left)) ≡ n → narrow n ≡ width_of (struct (member_tys T (tys T t) (own_rows T t)))
  unfolding width_of
  struct_width n e = sym (ap narrow (inv.1.1 ∙ e))

  module _ (h : left ≤ 0) where
    all_added : widths_from sum (member_tys T (tys T t) (range m left)) ≡ sum
    unfolding widths_from
    all_added = rw (members_none T (tys T t) m left h)

    pub widths_wide : 237 < sum → 0 ≡ width_of (struct (member_tys T (tys T t) (own_rows T t)))
    widths_wide l = sym (rw (lt-leb sum 237 l)) ∙ struct_width sum all_added

    pub widths_end : sum ≤ 237 → sum ≡ width_of (struct (member_tys T (tys T t) (own_rows T t)))
    widths_end l = sym (rw (le-leb sum 237 l)) ∙ struct_width sum all_added

  module _ (h : 0 < left) (n : ℕ) (e : n ≡ members T) where
    pub widths_past : n ≤ m → 0 ≡ width_of (struct (member_tys T (tys T t) (own_rows T t)))
    unfolding width_of widths_from
    widths_past l = struct_width 0 (rw (members_more T (tys T t) m left h, member_past T m (tys T t) (rw e at l)))

    module _ (l : m < n) (shapes : List ℕ) (below : Shaped T shapes t) (few : t ≤ type_rows T) (i : ℕ) (ei : i ≡ member_type T m)
        (r : ℕ) (er : r ≡ pick (leb t i) 0 (width_in shapes i)) where
      member_width : widths_from sum (member_tys T (tys T t) (range m left)) ≡ pick (eqb r 0) 0 (widths_from (sum + r) (member_tys T (tys T t) (range (m + 1) (left - 1))))
      unfolding widths_from part_ty
      member_width = rw (members_more T (tys T t) m left h, member_in T m (tys T t) (rw e at l), ← ei, ← width_part T shapes t i r few below er)

      pub widths_not : r ≡ 0 → 0 ≡ width_of (struct (member_tys T (tys T t) (own_rows T t)))
      widths_not q = struct_width 0 (member_width ∙ rw q)

      pub widths_next : r < 256 → (r ≡ 0 → ⊥) → (k : ℕ) → k ≡ left - 1 → Widths T t (m + 1) k (sum + r)
      widths_next b q k z = (omega arith, (omega arith, rw z (inv.1.1 ∙ member_width ∙ rw (ne_eqb r 0 q))))

-- ---- structs and containers

module _ (ts : Tys) (w : ℕ) (e : w ≡ width_of (struct ts)) where
  pub struct_wide : (w ≡ 0 → ⊥) → 18 + w ≡ shape_of (struct ts)
  unfolding shape_of
  struct_wide q = sym (rw (← e, ne_eqb w 0 q))

  pub struct_other : w ≡ 0 → (b : Bool) → b ≡ fixeds ts → (r : ℕ) → r ≡ pick b 9 10 → r ≡ shape_of (struct ts)
  unfolding shape_of
  struct_other q b eb r er = er ∙ sym (rw (← e, q, ← eb))

module _ (T : List ℕ) (t i : ℕ) (l : t ≤ type_rows T) (ei : i ≡ field T t 0) where
  pub seq_broken : t ≤ i → 10 ≡ shape_of (seq (part_ty T t (field T t 0)))
  unfolding shape_of single fixed part_ty
  seq_broken h = rw (← ei, below_none T t i h)

  module _ (h : i < t) (k : ℕ) (ek : k ≡ kind T i) where
    single_part : single (part_ty T t (field T t 0)) ≡ leb k 1
    unfolding part_ty
    single_part = rw (← ei, below_ty T t i l h, ek) (single_kind T i (omega arith))

    pub seq_single : k ≤ 1 → 7 ≡ shape_of (seq (part_ty T t (field T t 0)))
    unfolding shape_of
    seq_single e = rw (single_part, le-leb _ _ e)

    pub seq_other : 1 < k → (b : Bool) → b ≡ fixed (part_ty T t i) → (r : ℕ) → r ≡ pick b 9 10
        → r ≡ shape_of (seq (part_ty T t (field T t 0)))
    unfolding shape_of
    seq_other e b eb r er = er ∙ sym (rw (single_part, lt-leb _ _ e, ← ei, ← eb))

module _ (T : List ℕ) (t i j : ℕ) (ei : i ≡ field T t 0) (ej : j ≡ field T t 1) (a : Bool) (ea : a ≡ fixed (part_ty T t i)) where
  pub dict_other : a ≡ true → (b : Bool) → b ≡ fixed (part_ty T t j) → (r : ℕ) → r ≡ pick b 9 10
      → r ≡ shape_of (dict (part_ty T t (field T t 0)) (part_ty T t (field T t 1)))
  unfolding shape_of
  dict_other q b eb r er = er ∙ sym (rw (← ei, ← ej, ← ea, q, ← eb))

pub dict_not : (T : List ℕ) (t i : ℕ) (a : Bool) → i ≡ field T t 0 → a ≡ fixed (part_ty T t i) → a ≡ false
    → 10 ≡ shape_of (dict (part_ty T t (field T t 0)) (part_ty T t (field T t 1)))
unfolding shape_of
dict_not T t i a ei ea q = rw (← ei, ← ea, q)

-- ---- a row of each kind

module _ (T : List ℕ) (t : ℕ) (h : t < type_rows T) (k : ℕ) (ek : k ≡ kind T t) where
  pub row_of_struct : k ≡ 9 → (r : ℕ) → r ≡ shape_of (struct (member_tys T (tys T t) (own_rows T t))) → r ≡ shape_at T t
  unfolding shape_at own_rows
  row_of_struct e r er = er ∙ sym (rw (row_struct T t h (sym ek ∙ e)))

  pub row_of_seq : k ≡ 10 → (r : ℕ) → r ≡ shape_of (seq (part_ty T t (field T t 0))) → r ≡ shape_at T t
  unfolding shape_at part_ty
  row_of_seq e r er = er ∙ sym (rw (row_seq T t h (sym ek ∙ e)))

  pub row_of_dict : k ≡ 11 → (r : ℕ) → r ≡ shape_of (dict (part_ty T t (field T t 0)) (part_ty T t (field T t 1))) → r ≡ shape_at T t
  unfolding shape_at part_ty
  row_of_dict e r er = er ∙ sym (rw (row_dict T t h (sym ek ∙ e)))

  pub row_of_none : (k ≡ 9 → ⊥) → (k ≡ 10 → ⊥) → (k ≡ 11 → ⊥) → (r : ℕ) → r ≡ plain_shape k → r ≡ shape_at T t
  unfolding shape_at shape_of plain_shape
  row_of_none a b c r er = er ∙ ap plain_shape ek ∙ sym (by_kind (λ n. kind T t ≡ n → shape_at T t ≡ plain_shape n)
      (λ e. rw (row_bool T t h e)) (λ e. rw (row_byte T t h e)) (λ e. rw (row_short T t h e)) (λ e. rw (row_int T t h e))
      (λ e. rw (row_long T t h e)) (λ e. rw (row_float T t h e)) (λ e. rw (row_double T t h e)) (λ e. rw (row_string T t h e))
      (λ e. rw (row_enum T t h e)) (λ e. absurd (a (ek ∙ e))) (λ e. absurd (b (ek ∙ e))) (λ e. absurd (c (ek ∙ e))) (λ e. rw (row_proxy T t h e))
      (λ n l e. rw (row_other T t h (rw e l)) (sym (plain_past n (omega arith))))
      (kind T t) refl)

-- ---- the array

-- the shapes of the rows below t are there, and after them comes 10, the shape of a row without a tree
pub record Filling (T shapes : List ℕ) (t : ℕ) : Type 0 where
  pub few : t ≤ type_rows T
  pub size : length shapes ≡ 256
  pub done : Shaped T shapes t
  pub behind : (i : ℕ) → t ≤ i → i < 256 → get_or shapes i 0 ≡ 10

pub filling_begin : (T shapes : List ℕ) → shapes ≡ replicate 256 10 → Filling T shapes 0
filling_begin T shapes e = record {
  few = omega arith;
  size = ap length e ∙ length-replicate {A = ℕ} 256 10;
  done = record { below = λ i l. absurd (omega arith) };
  behind = λ i h l. ap (λ (z : List ℕ). get_or z i 0) e ∙ get_or-replicate {A = ℕ} 256 i 10 0 l;
}

module _ (T shapes : List ℕ) (t : ℕ) (inv : Filling T shapes t) where
  pub filling_done : Shaped T shapes t
  filling_done = inv.done

  pub filling_next : (n v : ℕ) → n ≡ type_rows T → t < n → v ≡ shape_at T t → Filling T (set shapes t v) (t + 1)
  filling_next n v en h e = record {
    few = omega arith;
    size = length-set shapes t v ∙ inv.size;
    done = record {
      below = λ i l. ⊎_elim
          (λ q. rw q (get_or-set_same shapes t v 0 (omega (arith, rows_below T, inv.size)) ∙ e))
          (λ q. get_or-set_other shapes t i v 0 (λ z. omega arith) ∙ inv.done.below i q)
          (eq-or-lt_of_le {n = i} {m = t} (omega arith));
    };
    behind = λ i l k. get_or-set_other shapes t i v 0 (λ z. omega arith) ∙ inv.behind i (omega arith) k;
  }

range_length : (n j : ℕ) → length (range j n) ≡ n
unfolding range
range_length zero j = refl
range_length (suc n) j = ap suc (range_length n (suc j))

pub filling_end : (T shapes : List ℕ) (t n : ℕ) → Filling T shapes t → n ≡ type_rows T → n ≤ t → shapes ≡ shapes_of T
unfolding shapes_of shape_at shape_of
filling_end T shapes t n inv en h =
    ext_get_or 0 shapes (map (shape_at T) (range 0 256)) (inv.size ∙ sym (length-map (range 0 256) (shape_at T) ∙ range_length 256 0))
    (λ i l. each i (rw inv.size at l) ∙ sym (range_at (shape_at T) 256 0 i (rw inv.size at l) ∙ ap (shape_at T) (omega arith)))
  where
    past : (i : ℕ) → t ≤ i → i < 256 → get_or shapes i 0 ≡ shape_at T i
    past i q l = inv.behind i q l ∙ sym (ap shape_of (ty_past T i (omega (arith, inv.few))))

    go : (i : ℕ) (b : Bool) → leb t i ≡ b → i < 256 → get_or shapes i 0 ≡ shape_at T i
    go i true e l = past i (leb-true _ _ e) l
    go i false e l = inv.done.below i (leb-false _ _ e)

    each : (i : ℕ) → i < 256 → get_or shapes i 0 ≡ shape_at T i
    each i l = go i (leb t i) refl l
