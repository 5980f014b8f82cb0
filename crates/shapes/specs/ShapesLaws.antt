-- A shape says the form of an optional of its type, and how many bytes of any content are a value of it. Assumes nothing.
--
--   width_fixed     a type with a width is fixed_size
--   width_takes     so many bytes of any content are one value
--   width_as        the width is the same in encoding 1.0
--   shape_form      a shape's form is that of the type; shape_width its width
--   shape_text, shape_bool, shape_enum   only a string has shape 8, only a bool 0, of all rows only an enum 4
--   range_at        an element of a list made over a range
--   form_row, width_row, text_row, bool_row, enum_row   the same of row t, from the array of all shapes
use Rattle.std.specs.Prelude.{ℕ, zero, suc, ◌+◌, ◌-◌, ◌≤◌, ◌<◌, ◌≡◌, Bool, ◌&&◌, List, [], ◌∷◌, map, length, drop, get_or, eqb, leb}
use Rattle.std.proofs.Math.Path.{refl, sym, ap}
use Rattle.std.proofs.Common.{◌∙◌, add-zero, arith, length-drop}
use Rattle.std.proofs.Math.Bool.{true, false}
use Rattle.std.proofs.lemmas.Bool.{false≢true}
use Rattle.std.proofs.Math.Dec.{ltb}
use borrow.Author.Tests.{ne_eqb, eqb-true, eqb-false, ltb-true, ltb-false, le-ltb}
use Rattle.encoding.specs.Result.{ok, pick, skip, pure}
use Rattle.encoding.proofs.ResultLaws.{bind_step, chunk_step}
use Rattle.encoding.specs.Types.{short, int, long, float, double, Ty, Tys, nil, cons, broken, bool, byte, string, proxy, old_proxy, num, enum, old_enum, struct, seq, dict, fixed, fixeds, single, Form, counted, sized, form_of}
use Rattle.encoding.specs.Value.{value, values}
use Rattle.encoding.specs.Old.{as_old, as_olds, type_as}
use Rattle.encoding.specs.Table.{kind, field, allowed, range, member_tys, own_rows, row_ty, tys, type_rows, ty_of}
use Rattle.encoding.proofs.TableLaws.{rows_below, ty_row, ty_past}
use Rattle.shapes.specs.Shapes.{form_number, narrow, width_of, widths_from, shape_of, shape_at, shapes_of, form_code, width_code, shape_in, form_in, width_in, is_text_in, is_bool_in, is_enum_in}

-- ---- a width

narrow_most : (n : ℕ) → 0 < narrow n → narrow n ≡ n
narrow_most n = go (leb n 237)
  where
    go : (b : Bool) → 0 < pick b n 0 → pick b n 0 ≡ n
    go true h = refl
    go false h = absurd (omega arith)

mutual
  unfolding width_of widths_from fixed fixeds

  pub width_fixed : (t : Ty) → 0 < width_of t → fixed t ≡ true
  width_fixed broken h = absurd (omega arith)
  width_fixed bool h = refl
  width_fixed byte h = refl
  width_fixed string h = absurd (omega arith)
  width_fixed proxy h = absurd (omega arith)
  width_fixed old_proxy h = absurd (omega arith)
  width_fixed (num w) h = refl
  width_fixed (enum g) h = absurd (omega arith)
  width_fixed (old_enum g) h = absurd (omega arith)
  width_fixed (struct ts) h = widths_fixed 0 ts (rw (narrow_most (widths_from 0 ts) h) at h)
  width_fixed (seq t) h = absurd (omega arith)
  width_fixed (dict k v) h = absurd (omega arith)

  widths_fixed : (n : ℕ) (ts : Tys) → 0 < widths_from n ts → fixeds ts ≡ true
  widths_fixed n nil h = refl
  widths_fixed n (cons t ts) h = go (eqb (width_of t) 0) refl h (λ h. width_fixed t h) (λ h. widths_fixed (n + width_of t) ts h)
    where
      go : (b : Bool) → eqb (width_of t) 0 ≡ b → 0 < pick b 0 (widths_from (n + width_of t) ts) → (0 < width_of t → fixed t ≡ true) → (0 < widths_from (n + width_of t) ts → fixeds ts ≡ true)
          → (fixed t && fixeds ts) ≡ true
      go true e h first rest = absurd (omega arith)
      go false e h first rest = let q = eqb-false (width_of t) 0 e in rw (first (omega arith), rest h)

mutual
  unfolding width_of widths_from value values skip pure

  pub width_takes : (t : Ty) → 0 < width_of t → (xs : List ℕ) → width_of t ≤ length xs → value t xs ≡ ok tt (width_of t)
  width_takes broken h xs l = absurd (omega arith)
  width_takes bool h xs l = absurd (omega arith)
  width_takes byte h xs l = chunk_step 1 (λ _. tt) xs l
  width_takes string h xs l = absurd (omega arith)
  width_takes proxy h xs l = absurd (omega arith)
  width_takes old_proxy h xs l = absurd (omega arith)
  width_takes (num w) h xs l = chunk_step (width_of (num w)) (λ _. tt) xs l
  width_takes (enum g) h xs l = absurd (omega arith)
  width_takes (old_enum g) h xs l = absurd (omega arith)
  width_takes (struct ts) h xs l =
      let e = narrow_most (widths_from 0 ts) h in
      let W = widths_take 0 ts (rw e at h) in
      W.1 xs (omega arith) ∙ ap (ok tt) (omega arith)
  width_takes (seq t) h xs l = absurd (omega arith)
  width_takes (dict k v) h xs l = absurd (omega arith)

  widths_take : (n : ℕ) (ts : Tys) → 0 < widths_from n ts
      → (n ≤ widths_from n ts) × ((xs : List ℕ) → widths_from n ts - n ≤ length xs → values ts xs ≡ ok tt (widths_from n ts - n))
  widths_take n nil h = (omega arith, λ xs l. ap (ok tt) (omega arith))
  widths_take n (cons t ts) h = go (eqb (width_of t) 0) refl h (λ h xs l. width_takes t h xs l) (λ h. widths_take (n + width_of t) ts h)
    where
      w : ℕ
      w = widths_from (n + width_of t) ts

      go : (b : Bool) → eqb (width_of t) 0 ≡ b → 0 < pick b 0 w → (0 < width_of t → (xs : List ℕ) → width_of t ≤ length xs → value t xs ≡ ok tt (width_of t))
          → (0 < w → (n + width_of t ≤ w) × ((xs : List ℕ) → w - (n + width_of t) ≤ length xs → values ts xs ≡ ok tt (w - (n + width_of t))))
          → (n ≤ pick b 0 w) × ((xs : List ℕ) → pick b 0 w - n ≤ length xs → values (cons t ts) xs ≡ ok tt (pick b 0 w - n))
      go true e h first rest = absurd (omega arith)
      go false e h first rest =
          let q = eqb-false (width_of t) 0 e in
          let R = rest h in
          let below = R.0 in (
            omega arith,
            λ xs l. bind_step (value t) (λ _. values ts) xs (first (omega arith) xs (omega arith)) (R.1 (drop (width_of t) xs) (omega (arith, length-drop (width_of t) xs)))
                ∙ ap (ok tt) (omega arith),
          )

-- bytes and numbers are the same in encoding 1.0
mutual
  unfolding width_of widths_from as_old as_olds

  width_old : (t : Ty) → width_of (as_old t) ≡ width_of t
  width_old broken = refl
  width_old bool = refl
  width_old byte = refl
  width_old string = refl
  width_old proxy = refl
  width_old old_proxy = refl
  width_old (num w) = refl
  width_old (enum g) = refl
  width_old (old_enum g) = refl
  width_old (struct ts) = ap narrow (widths_old 0 ts)
  width_old (seq t) = refl
  width_old (dict k v) = refl

  widths_old : (n : ℕ) (ts : Tys) → widths_from n (as_olds ts) ≡ widths_from n ts
  widths_old n nil = refl
  widths_old n (cons t ts) = rw (width_old t, widths_old (n + width_of t) ts)

pub width_as : (old : Bool) (t : Ty) → width_of (type_as old t) ≡ width_of t
width_as true t = width_old t
width_as false t = refl

-- ---- a shape

code_struct : (w : ℕ) → 0 < w → form_code (18 + w) ≡ 9
unfolding form_code
code_struct w h = rw (le-ltb (18 + w) 11 (omega arith), le-ltb (18 + w) 18 (omega arith), ne_eqb (18 + w) 18 (λ e. omega arith))

pub shape_form : (t : Ty) → form_code (shape_of t) ≡ form_number (form_of t)
unfolding form_code shape_of form_of form_number fixed
shape_form broken = refl
shape_form bool = refl
shape_form byte = refl
shape_form string = refl
shape_form proxy = refl
shape_form old_proxy = refl
shape_form (num short) = refl
shape_form (num int) = refl
shape_form (num long) = refl
shape_form (num float) = refl
shape_form (num double) = refl
shape_form (enum g) = refl
shape_form (old_enum g) = refl
shape_form (struct ts) = go (eqb (width_of (struct ts)) 0) refl (fixeds ts) refl
  where
    go : (a : Bool) → eqb (width_of (struct ts)) 0 ≡ a → (b : Bool) → fixeds ts ≡ b → form_code (pick a (pick b 9 10) (18 + width_of (struct ts))) ≡ form_number (pick b counted sized)
    go true e true f = refl
    go true e false f = refl
    go false e true f = code_struct (width_of (struct ts)) (let q = eqb-false (width_of (struct ts)) 0 e in omega arith)
    go false e false f = absurd (let q = eqb-false (width_of (struct ts)) 0 e in false≢true (sym f ∙ width_fixed (struct ts) (omega arith)))
shape_form (seq t) = go (single t) (fixed t)
  where
    go : (a b : Bool) → form_code (pick a 7 (pick b 9 10)) ≡ form_number (pick a Form.own (pick b counted sized))
    go true b = refl
    go false true = refl
    go false false = refl
shape_form (dict k v) = go (fixed k && fixed v)
  where
    go : (b : Bool) → form_code (pick b 9 10) ≡ form_number (pick b counted sized)
    go true = refl
    go false = refl

pub shape_width : (t : Ty) → width_code (shape_of t) ≡ width_of t
unfolding width_code shape_of width_of
shape_width broken = refl
shape_width bool = refl
shape_width byte = refl
shape_width string = refl
shape_width proxy = refl
shape_width old_proxy = refl
shape_width (num short) = refl
shape_width (num int) = refl
shape_width (num long) = refl
shape_width (num float) = refl
shape_width (num double) = refl
shape_width (enum g) = refl
shape_width (old_enum g) = refl
shape_width (struct ts) = go (narrow (widths_from 0 ts)) (eqb (narrow (widths_from 0 ts)) 0) refl (fixeds ts)
  where
    go : (w : ℕ) (a : Bool) → eqb w 0 ≡ a → (b : Bool) → width_code (pick a (pick b 9 10) (18 + w)) ≡ w
    go w true e true = sym (eqb-true w 0 e)
    go w true e false = sym (eqb-true w 0 e)
    go w false e b = let q = eqb-false w 0 e in rw (le-ltb (18 + w) 11 (omega arith), le-ltb (18 + w) 19 (omega arith)) (omega arith)
shape_width (seq t) = go (single t) (fixed t)
  where
    go : (a b : Bool) → ◌≡◌ {A = ℕ} (width_code (pick a 7 (pick b 9 10))) 0
    go true b = refl
    go false true = refl
    go false false = refl
shape_width (dict k v) = go (fixed k && fixed v)
  where
    go : (b : Bool) → ◌≡◌ {A = ℕ} (width_code (pick b 9 10)) 0
    go true = refl
    go false = refl

-- a type with parts has the shape 7 or one above 8
struct_shape_lem : (ts : Tys) → 9 ≤ shape_of (struct ts)
unfolding shape_of
struct_shape_lem ts = go (width_of (struct ts)) (eqb (width_of (struct ts)) 0) (fixeds ts)
  where
    go : (w : ℕ) (a b : Bool) → 9 ≤ pick a (pick b 9 10) (18 + w)
    go w true true = omega arith
    go w true false = omega arith
    go w false b = omega arith

seq_shape : (t : Ty) → (7 ≤ shape_of (seq t)) × (shape_of (seq t) ≡ 8 → ⊥)
unfolding shape_of
seq_shape t = go (single t) (fixed t)
  where
    go : (a b : Bool) → (7 ≤ pick a 7 (pick b 9 10)) × (◌≡◌ {A = ℕ} (pick a 7 (pick b 9 10)) 8 → ⊥)
    go true b = (omega arith, λ e. omega arith)
    go false true = (omega arith, λ e. omega arith)
    go false false = (omega arith, λ e. omega arith)

dict_shape : (k v : Ty) → 9 ≤ shape_of (dict k v)
unfolding shape_of
dict_shape k v = go (fixed k && fixed v)
  where
    go : (b : Bool) → 9 ≤ pick b 9 10
    go true = omega arith
    go false = omega arith

pub shape_text : (t : Ty) → shape_of t ≡ 8 → t ≡ string
unfolding shape_of
shape_text broken h = absurd (omega arith)
shape_text bool h = absurd (omega arith)
shape_text byte h = absurd (omega arith)
shape_text string h = refl
shape_text proxy h = absurd (omega arith)
shape_text old_proxy h = absurd (omega arith)
shape_text (num w) h = absurd (omega arith)
shape_text (enum g) h = absurd (omega arith)
shape_text (old_enum g) h = absurd (omega arith)
shape_text (struct ts) h = absurd (omega (arith, struct_shape_lem ts))
shape_text (seq t) h = absurd ((seq_shape t).1 h)
shape_text (dict k v) h = absurd (omega (arith, dict_shape k v))

pub shape_bool : (t : Ty) → shape_of t ≡ 0 → t ≡ bool
unfolding shape_of
shape_bool broken h = absurd (omega arith)
shape_bool bool h = refl
shape_bool byte h = absurd (omega arith)
shape_bool string h = absurd (omega arith)
shape_bool proxy h = absurd (omega arith)
shape_bool old_proxy h = absurd (omega arith)
shape_bool (num w) h = absurd (omega arith)
shape_bool (enum g) h = absurd (omega arith)
shape_bool (old_enum g) h = absurd (omega arith)
shape_bool (struct ts) h = absurd (omega (arith, struct_shape_lem ts))
shape_bool (seq t) h = absurd (omega (arith, (seq_shape t).0))
shape_bool (dict k v) h = absurd (omega (arith, dict_shape k v))

-- a row of kind 0 to 7 is no enum
plain_shape : (k : ℕ) → shape_of (get_or (bool ∷ byte ∷ num short ∷ num int ∷ num long ∷ num float ∷ num double ∷ string ∷ []) k broken) ≡ 4 → ⊥
unfolding shape_of
plain_shape zero h = omega arith
plain_shape (suc zero) h = omega arith
plain_shape (suc (suc zero)) h = omega arith
plain_shape (suc (suc (suc zero))) h = omega arith
plain_shape (suc (suc (suc (suc zero)))) h = omega arith
plain_shape (suc (suc (suc (suc (suc zero))))) h = omega arith
plain_shape (suc (suc (suc (suc (suc (suc zero)))))) h = omega arith
plain_shape (suc (suc (suc (suc (suc (suc (suc zero))))))) h = omega arith
plain_shape (suc (suc (suc (suc (suc (suc (suc (suc k)))))))) h = omega arith

pub shape_enum : (T : List ℕ) (l : List Ty) (t : ℕ) → shape_of (row_ty T l t) ≡ 4 → row_ty T l t ≡ enum (allowed T t)
unfolding shape_of row_ty
shape_enum T l t = go (eqb (kind T t) 8) (eqb (kind T t) 9) (eqb (kind T t) 10) (eqb (kind T t) 11) (eqb (kind T t) 12)
  where
    plain : Ty
    plain = get_or (bool ∷ byte ∷ num short ∷ num int ∷ num long ∷ num float ∷ num double ∷ string ∷ []) (kind T t) broken

    a : Ty
    a = get_or l (field T t 0) broken

    b : Ty
    b = get_or l (field T t 1) broken

    rest : Bool → Bool → Bool → Bool → Ty
    rest s q d p = pick s (struct (member_tys T l (own_rows T t))) (pick q (seq a) (pick d (dict a b) (pick p proxy plain)))

    go : (e s q d p : Bool) → shape_of (pick e (enum (allowed T t)) (rest s q d p)) ≡ 4
        → pick e (enum (allowed T t)) (rest s q d p) ≡ enum (allowed T t)
    go true s q d p h = refl
    go false true q d p h = absurd (omega (arith, struct_shape_lem (member_tys T l (own_rows T t))))
    go false false true d p h = absurd (omega (arith, (seq_shape a).0))
    go false false false true p h = absurd (omega (arith, dict_shape a b))
    go false false false false true h = absurd (omega arith)
    go false false false false false h = absurd (plain_shape (kind T t) h)

-- ---- the array

pub range_at : (f : ℕ → ℕ) (n j i : ℕ) → i < n → get_or (map f (range j n)) i 0 ≡ f (j + i)
unfolding range
range_at f zero j i h = absurd (omega arith)
range_at f (suc n) j zero h = ap f (sym (add-zero j))
range_at f (suc n) j (suc i) h = range_at f n (suc j) i (omega arith) ∙ ap f (omega arith)

module _ (T : List ℕ) (t : ℕ) where
  shape_row : shape_in (shapes_of T) t ≡ shape_of (ty_of T t)
  unfolding shape_in shapes_of shape_at shape_of
  shape_row = go (ltb t 256) refl
    where
      go : (b : Bool) → ltb t 256 ≡ b → pick b (get_or (map (shape_at T) (range 0 256)) t 0) 10 ≡ shape_of (ty_of T t)
      go true e = range_at (shape_at T) 256 0 t (ltb-true t 256 e) ∙ ap (shape_at T) (omega arith)
      go false e = sym (ap shape_of (ty_past T t (omega (arith, ltb-false t 256 e, rows_below T))))

  module _ (shapes : List ℕ) (e : shapes ≡ shapes_of T) where
    pub form_row : form_in shapes t ≡ form_number (form_of (ty_of T t))
    form_row = rw (e, shape_row) (shape_form (ty_of T t))

    pub width_row : width_in shapes t ≡ width_of (ty_of T t)
    width_row = rw (e, shape_row) (shape_width (ty_of T t))

    -- the shape that was found is the type's
    shape_found : (x : ℕ) → eqb (shape_in shapes t) x ≡ true → shape_of (ty_of T t) ≡ x
    shape_found x h = sym shape_row ∙ ap (λ (l : List ℕ). shape_in l t) (sym e) ∙ eqb-true _ _ h

    pub text_row : is_text_in shapes t ≡ true → ty_of T t ≡ string
    text_row h = shape_text (ty_of T t) (shape_found 8 h)

    pub bool_row : is_bool_in shapes t ≡ true → ty_of T t ≡ bool
    bool_row h = shape_bool (ty_of T t) (shape_found 0 h)

    pub enum_row : is_enum_in shapes t ≡ true → ty_of T t ≡ enum (allowed T t)
    unfolding shape_of
    enum_row h = go (ltb t (type_rows T)) refl
      where
        go : (b : Bool) → ltb t (type_rows T) ≡ b → ty_of T t ≡ enum (allowed T t)
        go true q = let r = ty_row T t (ltb-true _ _ q) in r ∙ shape_enum T (tys T t) t (sym (ap shape_of r) ∙ shape_found 4 h)
        go false q = absurd (let z = sym (shape_found 4 h) ∙ ap shape_of (ty_past T t (ltb-false _ _ q)) in omega arith)
