-- What the readers of values, structs, sequences and dictionaries make of the answers of those that they call. Assumes nothing.
--
--   plain_as .. dict_as                                      a type in either encoding
--   row_not, as_bool .. as_other                             a value by its row's kind
--   row_wide, exact_wide, part_wide                          a value by its row's width
--   text_there, _not                                         what the shapes say of a part, by whether it lies below
--   row_text, text_value, text_values                        a string, by its row's shape; row_bool, bool_values a bool; row_enum, enum_values an enum without a list
--   struct_begin, member_gone, _read, _next, _fault, _done   the loop over members
--   seq_none, _wide, _later                                  a sequence: its size, then its elements
--   dict_none, _later                                        a dictionary: its size, then its pairs
--   element_begin, _next, _fault, _done                      the loop over elements
--   entry_begin, _next, _fault, _done                        the loop over pairs
--   key_end, pair_none, _wide, _later                        an entry: its key, then its value
--   value_fits .. pairs_fit                                  what they take, and where they refuse, does not wrap
--   value_row, row_again                                     a row of the table
--   exact_took, _bad                                         exactly one value
use mathlib.Core.Path.{◌≡◌, refl, sym, ap, ◌∙◌}
use mathlib.Core.Bool.{Bool, true, false, not, false≢true}
use mathlib.Core.List.{List}
use Prim.Native.Nat.{ℕ, zero, suc, ◌+◌, ◌-◌, ◌*◌, ◌^◌, ◌≤◌, ◌<◌, zero-le}
use native.Mathlib.Omega.{arith}
use native.Mathlib.Nat.{add-zero, zero-mul, suc-mul}
use lib.ListN.{length, take, drop, length-drop}
use lib.Dec.{eqb, leb, ltb}
use borrow.Author.Tests.{le-leb, lt-leb, leb-false, ltb-true, ltb-false, not-true}
use Rattle.encoding.specs.Result.{Res, ok, bad, Parser, pick, ◌>>=◌, pure, fail, skip, times}
use Rattle.encoding.proofs.ResultLaws.{bind_step, Held, held_bind, held_times}
use Rattle.encoding.specs.Number.{size}
use Rattle.encoding.specs.Number
use Rattle.encoding.specs.Proxy
use Rattle.encoding.specs.Types.{upto, short, int, long, float, double, Ty, Tys, nil, cons, broken, bool, byte, string, proxy, num, enum, struct, seq, dict}
use Rattle.encoding.specs.Table.{with_lists, kind, field, members, member_type, range, greatest, allowed, member_ty, member_tys, own_rows, row_ty, tys, part_ty, type_rows, trees, ty_of}
use Rattle.encoding.proofs.TableLaws.{tys_at, ty_row, ty_past, below_none, row_broken, member_in, member_past, members_more, members_none}
use Rattle.encoding.specs.Value.{value, values, whole, exact}
use Rattle.encoding.proofs.ValueLaws.{held_value}
use Rattle.encoding.specs.Old.{as_old, as_olds, type_as}
use Rattle.table.specs.Rows.{IsTypeRow, greatest_of}
use Rattle.table.specs.declared.TypeRow.{TypeRow}
use Rattle.shapes.specs.Shapes.{width_of, shapes_of, width_in, width_below, is_text_in, is_bool_in, is_enum_in}
use Rattle.shapes.specs.ShapesLaws.{width_takes, width_as, width_row, text_row, bool_row, enum_row}
use Rattle.std.specs.Prelude.{Result, Ok, Err}
use Rattle.wire.specs.declared.Counted.{Counted}
use Rattle.wire.specs.declared.Refusal.{Refusal}
use Rattle.wire.specs.Steps.{step_of, sized_of, refused, later, LaterFits}
use Rattle.wire.specs.StepLaws.{rest_is, step_fault, took_held, then_none, then_took, then_later, with_none, with_took, with_later, Left, left_begin, left_next, left_fault, left_done, each_begin, each_later_next, each_later_fault, each_done}
use Rattle.value.specs.Parts.{is_text_below, types_as, entry}
use Rattle.wire.proofs.Sums.{later_fits}

-- ---- a value by its row's kind

-- a number that is at least i, and not i
past : {k i : ℕ} → i ≤ k → (k ≡ i → ⊥) → suc i ≤ k
past h n = omega (arith, n)

-- what encoding 1.0 has as 1.1
plain_as : (old : Bool) (X : Ty) → as_old X ≡ X → type_as old X ≡ X
plain_as true X e = e
plain_as false X e = refl

-- a proxy, and types with parts, in either encoding
proxy_as : (old : Bool) → value (type_as old proxy) ≡ Proxy.proxy old
unfolding value as_old
proxy_as true = refl
proxy_as false = refl

struct_as : (old : Bool) (ts : Tys) → value (type_as old (struct ts)) ≡ values (types_as old ts)
unfolding value as_old
struct_as true ts = refl
struct_as false ts = refl

cons_as : (old : Bool) (t : Ty) (ts : Tys) → values (types_as old (cons t ts)) ≡ (value (type_as old t) >>= λ _. values (types_as old ts))
unfolding values as_olds
cons_as true t ts = refl
cons_as false t ts = refl

nil_as : (old : Bool) → values (types_as old nil) ≡ pure tt
unfolding values as_olds
nil_as true = refl
nil_as false = refl

seq_as : (old : Bool) (X : Ty) → value (type_as old (seq X)) ≡ (size >>= λ n. times n (value (type_as old X)))
unfolding value as_old
seq_as true X = refl
seq_as false X = refl

pub dict_as : (old : Bool) (K W : Ty) → value (type_as old (dict K W)) ≡ (size >>= λ n. times n (entry (type_as old K) (type_as old W)))
unfolding value as_old entry
dict_as true K W = refl
dict_as false K W = refl

module _ (old : Bool) (T : List ℕ) (t e : ℕ) (s : List ℕ) where
  pub row_not : t ≤ e → refused 4 0 ≡ step_of (value (type_as old (part_ty T t e)) s)
  unfolding part_ty value fail step_of as_old
  row_not h = rw (below_none T t e h, plain_as old broken refl)

  module _ (l : e < t) (k : ℕ) (q : k ≡ kind T e) (r : Result ℕ Refusal) where
    -- by the tree that the kind makes of the rows below
    by_row : (X : Ty) → row_ty T (tys T e) e ≡ X → r ≡ step_of (value (type_as old X) s) → r ≡ step_of (value (type_as old (part_ty T t e)) s)
    unfolding part_ty
    by_row X h g = g ∙ ap (λ (y : Ty). step_of (value (type_as old y) s)) (sym (tys_at T t e l ∙ h))

    pub as_bool : k ≡ 0 → r ≡ step_of (Number.bool s) → r ≡ step_of (value (type_as old (part_ty T t e)) s)
    unfolding row_ty value as_old
    as_bool z g = by_row bool (rw (sym q ∙ z)) (rw (plain_as old bool refl) g)

    pub as_byte : k ≡ 1 → r ≡ step_of (skip 1 s) → r ≡ step_of (value (type_as old (part_ty T t e)) s)
    unfolding row_ty value as_old
    as_byte z g = by_row byte (rw (sym q ∙ z)) (rw (plain_as old byte refl) g)

    pub as_short : k ≡ 2 → r ≡ step_of (skip 2 s) → r ≡ step_of (value (type_as old (part_ty T t e)) s)
    unfolding row_ty value as_old
    as_short z g = by_row (num short) (rw (sym q ∙ z)) (rw (plain_as old (num short) refl) g)

    pub as_int : k ≡ 3 → r ≡ step_of (skip 4 s) → r ≡ step_of (value (type_as old (part_ty T t e)) s)
    unfolding row_ty value as_old
    as_int z g = by_row (num int) (rw (sym q ∙ z)) (rw (plain_as old (num int) refl) g)

    pub as_long : k ≡ 4 → r ≡ step_of (skip 8 s) → r ≡ step_of (value (type_as old (part_ty T t e)) s)
    unfolding row_ty value as_old
    as_long z g = by_row (num long) (rw (sym q ∙ z)) (rw (plain_as old (num long) refl) g)

    pub as_float : k ≡ 5 → r ≡ step_of (skip 4 s) → r ≡ step_of (value (type_as old (part_ty T t e)) s)
    unfolding row_ty value as_old
    as_float z g = by_row (num float) (rw (sym q ∙ z)) (rw (plain_as old (num float) refl) g)

    pub as_double : k ≡ 6 → r ≡ step_of (skip 8 s) → r ≡ step_of (value (type_as old (part_ty T t e)) s)
    unfolding row_ty value as_old
    as_double z g = by_row (num double) (rw (sym q ∙ z)) (rw (plain_as old (num double) refl) g)

    pub as_string : k ≡ 7 → (v : Result ℕ Refusal) → v ≡ step_of (Proxy.text (take (length s - 0) (drop 0 s))) → r ≡ v → r ≡ step_of (value (type_as old (part_ty T t e)) s)
    unfolding row_ty value as_old
    as_string z v g h = by_row string (rw (sym q ∙ z)) (rw (plain_as old string refl) (h ∙ g ∙ ap (λ (b : List ℕ). step_of (Proxy.text b)) (rest_is s 0)))

    pub as_enum : k ≡ 8 → r ≡ step_of (value (type_as old (enum (allowed T e))) s) → r ≡ step_of (value (type_as old (part_ty T t e)) s)
    unfolding row_ty
    as_enum z g = by_row (enum (allowed T e)) (rw (sym q ∙ z)) g

    pub as_struct : k ≡ 9 → r ≡ step_of (value (type_as old (struct (member_tys T (tys T e) (own_rows T e)))) s) → r ≡ step_of (value (type_as old (part_ty T t e)) s)
    unfolding row_ty
    as_struct z g = by_row (struct (member_tys T (tys T e) (own_rows T e))) (rw (sym q ∙ z)) g

    pub as_seq : k ≡ 10 → r ≡ step_of (value (type_as old (seq (part_ty T e (field T e 0)))) s) → r ≡ step_of (value (type_as old (part_ty T t e)) s)
    unfolding row_ty part_ty
    as_seq z g = by_row (seq (part_ty T e (field T e 0))) (rw (sym q ∙ z)) g

    pub as_dict : k ≡ 11 → r ≡ step_of (value (type_as old (dict (part_ty T e (field T e 0)) (part_ty T e (field T e 1)))) s) → r ≡ step_of (value (type_as old (part_ty T t e)) s)
    unfolding row_ty part_ty
    as_dict z g = by_row (dict (part_ty T e (field T e 0)) (part_ty T e (field T e 1))) (rw (sym q ∙ z)) g

    pub as_proxy : k ≡ 12 → (v : Result ℕ Refusal) → v ≡ step_of (Proxy.proxy old (take (length s - 0) (drop 0 s))) → r ≡ v → r ≡ step_of (value (type_as old (part_ty T t e)) s)
    unfolding row_ty
    as_proxy z v g h = by_row proxy (rw (sym q ∙ z)) (rw (proxy_as old) (h ∙ g ∙ ap (λ (b : List ℕ). step_of (Proxy.proxy old b)) (rest_is s 0)))

    -- a kind past the last that a value may have
    pub as_other : (k ≡ 0 → ⊥) → (k ≡ 1 → ⊥) → (k ≡ 2 → ⊥) → (k ≡ 3 → ⊥) → (k ≡ 4 → ⊥) → (k ≡ 5 → ⊥) → (k ≡ 6 → ⊥) → (k ≡ 7 → ⊥) → (k ≡ 8 → ⊥)
        → (k ≡ 9 → ⊥) → (k ≡ 10 → ⊥) → (k ≡ 11 → ⊥) → (k ≡ 12 → ⊥) → r ≡ refused 4 0 → r ≡ step_of (value (type_as old (part_ty T t e)) s)
    unfolding value fail step_of as_old
    as_other n₀ n₁ n₂ n₃ n₄ n₅ n₆ n₇ n₈ n₉ n₁₀ n₁₁ n₁₂ g =
        by_row broken (row_broken T (tys T e) e (rw q at (past (past (past (past (past (past (past (past (past (past (past (past (past zero-le n₀) n₁) n₂) n₃) n₄) n₅) n₆) n₇) n₈) n₉) n₁₀) n₁₁) n₁₂))) (rw (plain_as old broken refl) g)

-- ---- a value by its row's shape

-- what the shapes say of a part, by whether it lies below
module _ (shapes : List ℕ) (t e : ℕ) where
  pub text_there : e < t → (r : Bool) → r ≡ is_text_in shapes e → r ≡ is_text_below shapes t e
  unfolding is_text_below
  text_there h r g = rw (lt-leb t e h) g

  pub text_not : t ≤ e → false ≡ is_text_below shapes t e
  unfolding is_text_below
  text_not h = rw (le-leb t e h)

-- a row that has a tree, as a part of a row above
part_there : (T : List ℕ) (t e : ℕ) → e < t → e < type_rows T → part_ty T t e ≡ ty_of T e
unfolding part_ty
part_there T t e l h = tys_at T t e l ∙ sym (ty_row T e h)

module _ (old : Bool) (T shapes : List ℕ) (f : shapes ≡ shapes_of T) where
  module _ (t : ℕ) (s : List ℕ) (w : ℕ) (g : w ≡ width_in shapes t) (h : 0 < w) where
    wide : w ≡ width_of (ty_of T t)
    wide = g ∙ width_row T t shapes f

    wide_as : w ≡ width_of (type_as old (ty_of T t))
    wide_as = wide ∙ sym (width_as old (ty_of T t))

    row_takes : w ≤ length s → value (type_as old (ty_of T t)) s ≡ ok tt w
    row_takes k = width_takes (type_as old (ty_of T t)) (rw wide_as at h) s (rw wide_as at k) ∙ ap (ok tt) (sym wide_as)

    pub row_wide : w ≤ length s → Ok w ≡ step_of (value (type_as old (ty_of T t)) s)
    unfolding step_of
    row_wide k = rw (row_takes k)

    pub exact_wide : w ≤ length s → eqb w (length s) ≡ exact (type_as old (ty_of T t)) s
    unfolding exact whole
    exact_wide k = rw (row_takes k)

  -- without lists an enum row allows the numbers up to its greatest
  unlisted : (t : ℕ) (w : Bool) → w ≡ with_lists T → not w ≡ true → (row : TypeRow) → IsTypeRow T t row → (n : ℕ) → n ≡ greatest_of row → allowed T t ≡ upto n
  unfolding allowed greatest
  unlisted t w ew none row i n en =
      let z : n ≡ field T t 0 + 65536 * field T t 1 = omega (arith, i.a_is, i.b_is) in
      rw (← ew, not-true w none, ← z)

  module _ (t : ℕ) (s : List ℕ) (r : Result ℕ Refusal) (b : Bool) where
    pub row_text : b ≡ is_text_in shapes t → b ≡ true → r ≡ step_of (Proxy.text s) → r ≡ step_of (value (type_as old (ty_of T t)) s)
    unfolding value as_old
    row_text g h q = rw (text_row T t shapes f (sym g ∙ h), plain_as old string refl) q

    pub row_bool : b ≡ is_bool_in shapes t → b ≡ true → r ≡ step_of (Number.bool s) → r ≡ step_of (value (type_as old (ty_of T t)) s)
    unfolding value as_old
    row_bool g h q = rw (bool_row T t shapes f (sym g ∙ h), plain_as old bool refl) q

    pub row_enum : b ≡ is_enum_in shapes t → b ≡ true → (w : Bool) → w ≡ with_lists T → not w ≡ true → (row : TypeRow) → IsTypeRow T t row
        → (n : ℕ) → n ≡ greatest_of row → r ≡ step_of (value (type_as old (enum (upto n))) s) → r ≡ step_of (value (type_as old (ty_of T t)) s)
    row_enum g h w ew none row i n en q = rw (enum_row T t shapes f (sym g ∙ h), unlisted t w ew none row i n en) q

  module _ (t e : ℕ) (l : e < t) where
    part_takes : (s : List ℕ) (w : ℕ) → w ≡ width_in shapes e → 0 < w → w ≤ length s → value (type_as old (part_ty T t e)) s ≡ ok tt w
    unfolding width_of
    part_takes s w g h k = go (ltb e (type_rows T)) refl
      where
        go : (b : Bool) → ltb e (type_rows T) ≡ b → value (type_as old (part_ty T t e)) s ≡ ok tt w
        go true q = rw (part_there T t e l (ltb-true _ _ q)) (row_takes e s w g h k)
        go false q = absurd (let z : width_of (ty_of T e) ≡ 0 = rw (ty_past T e (ltb-false _ _ q)) in omega (arith, wide e s w g h))

    pub part_wide : (s : List ℕ) (w : ℕ) → w ≡ width_in shapes e → 0 < w → w ≤ length s → Ok w ≡ step_of (value (type_as old (part_ty T t e)) s)
    unfolding step_of
    part_wide s w g h k = rw (part_takes s w g h k)

    part_as : (X : Ty) → ty_of T e ≡ X → (X ≡ broken → ⊥) → part_ty T t e ≡ X
    part_as X g n = go (ltb e (type_rows T)) refl
      where
        go : (b : Bool) → ltb e (type_rows T) ≡ b → part_ty T t e ≡ X
        go true q = part_there T t e l (ltb-true _ _ q) ∙ g
        go false q = absurd (n (sym g ∙ ty_past T e (ltb-false _ _ q)))

    part_text : is_text_in shapes e ≡ true → part_ty T t e ≡ string
    part_text h = part_as string (text_row T e shapes f h) λ z. let y : ◌≡◌ {A = ℕ} 0 1 = cc in omega arith

    part_bool : is_bool_in shapes e ≡ true → part_ty T t e ≡ bool
    part_bool h = part_as bool (bool_row T e shapes f h) λ z. let y : ◌≡◌ {A = ℕ} 0 1 = cc in omega arith

    pub text_values : (b : Bool) → b ≡ is_text_in shapes e → b ≡ true → (s : List ℕ) (r : Result ℕ Refusal) (n : ℕ)
        → r ≡ step_of (times n Proxy.text s) → r ≡ step_of (times n (value (type_as old (part_ty T t e))) s)
    unfolding value as_old
    text_values b g h s r n q = rw (part_text (sym g ∙ h), plain_as old string refl) q

    pub bool_values : (b : Bool) → b ≡ is_bool_in shapes e → b ≡ true → (s : List ℕ) (r : Result ℕ Refusal) (n : ℕ)
        → r ≡ step_of (times n Number.bool s) → r ≡ step_of (times n (value (type_as old (part_ty T t e))) s)
    unfolding value as_old
    bool_values b g h s r n q = rw (part_bool (sym g ∙ h), plain_as old bool refl) q

    part_enum : is_enum_in shapes e ≡ true → part_ty T t e ≡ enum (allowed T e)
    part_enum h = part_as (enum (allowed T e)) (enum_row T e shapes f h) λ z. let y : ◌≡◌ {A = ℕ} 0 1 = cc in omega arith

    pub enum_values : (b : Bool) → b ≡ is_enum_in shapes e → b ≡ true → (w : Bool) → w ≡ with_lists T → not w ≡ true → (row : TypeRow) → IsTypeRow T e row
        → (g : ℕ) → g ≡ greatest_of row → (s : List ℕ) (r : Result ℕ Refusal) (n : ℕ) → r ≡ step_of (times n (value (type_as old (enum (upto g)))) s)
        → r ≡ step_of (times n (value (type_as old (part_ty T t e))) s)
    enum_values b eb h w ew none row i g eg s r n q = rw (part_enum (sym eb ∙ h), unlisted e w ew none row i g eg) q

  -- by what the shapes say of a part
  module _ (t e : ℕ) where
    pub below_takes : (w : ℕ) → w ≡ width_below shapes t e → 0 < w → (s : List ℕ) → w ≤ length s → value (type_as old (part_ty T t e)) s ≡ ok tt w
    below_takes w g h s k = go (leb t e) refl g
      where
        go : (b : Bool) → leb t e ≡ b → w ≡ pick b 0 (width_in shapes e) → value (type_as old (part_ty T t e)) s ≡ ok tt w
        go true q g = absurd (omega arith)
        go false q g = part_takes t e (leb-false _ _ q) s w g h k

    pub text_value : (b : Bool) → b ≡ is_text_below shapes t e → b ≡ true → (s : List ℕ) (r : Result ℕ Refusal) → r ≡ step_of (Proxy.text s) → r ≡ step_of (value (type_as old (part_ty T t e)) s)
    unfolding is_text_below value as_old
    text_value b g h s r d = go (leb t e) refl (sym g ∙ h)
      where
        go : (b : Bool) → leb t e ≡ b → pick b false (is_text_in shapes e) ≡ true → r ≡ step_of (value (type_as old (part_ty T t e)) s)
        go true q z = absurd (false≢true z)
        go false q z = rw (part_text t e (leb-false _ _ q) z, plain_as old string refl) d

-- ---- members

module _ (old : Bool) (T : List ℕ) (t : ℕ) (s : List ℕ) (row : TypeRow) (i : IsTypeRow T t row) where
  pub struct_begin : Left s (step_of (value (type_as old (struct (member_tys T (tys T t) (own_rows T t)))) s)) (values (types_as old (member_tys T (tys T t) (range row.a (field T t 0 + field T t 1 - row.a))))) 0
  unfolding own_rows
  struct_begin =
      let z : field T t 0 + field T t 1 - field T t 0 ≡ field T t 1 = omega arith in
      rw (i.a_is, z, struct_as old) (left_begin s (values (types_as old (member_tys T (tys T t) (range (field T t 0) (field T t 1))))))

  -- the member rows from m on
  module _ (all : Result ℕ Refusal) (m at : ℕ) (inv : Left s all (values (types_as old (member_tys T (tys T t) (range m (field T t 0 + field T t 1 - m))))) at) where
    pub member_done : row.a + row.b ≤ m → Ok at ≡ all
    member_done h = left_done s all tt at (rw (members_none T (tys T t) m (field T t 0 + field T t 1 - m) (omega (arith, i.a_is, i.b_is)), nil_as old) at inv)

    module _ (h : m < row.a + row.b) where
      -- a member, then those after it
      more : Left s all (value (type_as old (member_ty T (tys T t) m)) >>= λ _. values (types_as old (member_tys T (tys T t) (range (m + 1) (field T t 0 + field T t 1 - (m + 1)))))) at
      more =
          let z : field T t 0 + field T t 1 - m - 1 ≡ field T t 0 + field T t 1 - (m + 1) = omega arith in
          rw (members_more T (tys T t) m (field T t 0 + field T t 1 - m) (omega (arith, i.a_is, i.b_is)), cons_as old, z) at inv

      pub member_gone : (n : ℕ) → n ≡ members T → n ≤ m → refused 4 at ≡ all
      unfolding value fail step_of as_old
      member_gone n f l =
          ap (refused 4) (sym (add-zero at))
          ∙ left_fault s all (value (type_as old (member_ty T (tys T t) m))) (values (types_as old (member_tys T (tys T t) (range (m + 1) (field T t 0 + field T t 1 - (m + 1)))))) at more (refused 4 0)
          (rw (member_past T m (tys T t) (omega arith), plain_as old broken refl)) _ refl

      module _ (r : Result ℕ Refusal) (d : r ≡ step_of (value (type_as old (member_ty T (tys T t) m)) (take (length s - at) (drop at s)))) where
        pub member_next : (n : ℕ) → later at r ≡ Ok n → Left s all (values (types_as old (member_tys T (tys T t) (range (m + 1) (field T t 0 + field T t 1 - (m + 1)))))) n
        member_next n q = go r refl
          where
            go : (b : Result ℕ Refusal) → r ≡ b → Left s all (values (types_as old (member_tys T (tys T t) (range (m + 1) (field T t 0 + field T t 1 - (m + 1)))))) n
            go (Ok k) g = let z : at + k ≡ n = cc (g, q) in rw z at (left_next s all (value (type_as old (member_ty T (tys T t) m))) _ at more r d (held_value _) k g)
            go (Err x) g = let z : ◌≡◌ {A = ℕ} 0 1 = cc (g, q) in absurd (omega arith)

        pub member_fault : (x : Refusal) → later at r ≡ Err x → Err x ≡ all
        member_fault x q = go r refl
          where
            go : (b : Result ℕ Refusal) → r ≡ b → Err x ≡ all
            go (Ok k) g = let z : ◌≡◌ {A = ℕ} 0 1 = cc (g, q) in absurd (omega arith)
            go (Err y) g = sym q ∙ ap (later at) g ∙ left_fault s all (value (type_as old (member_ty T (tys T t) m))) _ at more r d y g

-- a member that is there
pub member_read : (old : Bool) (T : List ℕ) (t m n e : ℕ) (s : List ℕ) (r : Result ℕ Refusal) → n ≡ members T → m < n → e ≡ member_type T m
    → r ≡ step_of (value (type_as old (part_ty T t e)) s) → r ≡ step_of (value (type_as old (member_ty T (tys T t) m)) s)
unfolding part_ty
member_read old T t m n e s r f l g d = rw (member_in T m (tys T t) (omega arith), ← g) d

-- ---- sequences

-- as many times as many bytes, where they are there
times_takes : (p : Parser (Unit {0})) (w : ℕ) → ((xs : List ℕ) → w ≤ length xs → p xs ≡ ok tt w) → (n : ℕ) (xs : List ℕ) → n * w ≤ length xs → times n p xs ≡ ok tt (n * w)
unfolding times pure
times_takes p w takes zero xs h = ap (ok tt) (sym (zero-mul w))
times_takes p w takes (suc n) xs h =
    let e = suc-mul n w in
    bind_step p (λ _. times n p) xs (takes xs (omega arith)) (times_takes p w takes n (drop w xs) (omega (arith, length-drop w xs)))
    ∙ ap (ok tt) (omega arith)

-- bytes that are there after n others
pub after_those : (s : List ℕ) (n w : ℕ) → w ≤ length s - n → w ≤ length (take (length s - n) (drop n s))
after_those s n w h = rw rest_is (omega (arith, length-drop n s))

module _ (old : Bool) (s : List ℕ) (r : Result Counted Refusal) (e : r ≡ sized_of (size s)) where
  pub seq_none : (X : Ty) (x : Refusal) → r ≡ Err x → Err x ≡ step_of (value (type_as old (seq X)) s)
  seq_none X x q = rw (seq_as old X) (with_none size (λ n. times n (value (type_as old X))) s r e x q)

  pub dict_none : (K W : Ty) (x : Refusal) → r ≡ Err x → Err x ≡ step_of (value (type_as old (dict K W)) s)
  dict_none K W x q = rw (dict_as old K W) (with_none size (λ n. times n (entry (type_as old K) (type_as old W))) s r e x q)

  module _ (x : Counted) (q : r ≡ Ok x) where
    pub seq_wide : (T shapes : List ℕ) → shapes ≡ shapes_of T → (t i : ℕ) → i ≡ field T t 0 → (w : ℕ) → w ≡ width_below shapes t i → 0 < w
        → x.number * w ≤ length s - x.bytes → Ok (x.bytes + x.number * w) ≡ step_of (value (type_as old (seq (part_ty T t (field T t 0)))) s)
    unfolding step_of
    seq_wide T shapes f t i g w d h l =
        rw (← g, seq_as old (part_ty T t i)) (with_took size (λ n. times n (value (type_as old (part_ty T t i)))) s r e x q (Ok (x.number * w))
        (rw (times_takes (value (type_as old (part_ty T t i))) w (below_takes old T shapes f t i w d h) x.number (take (length s - x.bytes) (drop x.bytes s)) (after_those s x.bytes (x.number * w) l))) (x.number * w) refl)

    module _ (a : Result ℕ Refusal) where
      pub seq_later : (T : List ℕ) (t i : ℕ) → i ≡ field T t 0 → a ≡ step_of (times x.number (value (type_as old (part_ty T t i))) (take (length s - x.bytes) (drop x.bytes s)))
          → later x.bytes a ≡ step_of (value (type_as old (seq (part_ty T t (field T t 0)))) s)
      seq_later T t i g d = rw (← g, seq_as old (part_ty T t i)) (with_later size (λ n. times n (value (type_as old (part_ty T t i)))) s r e x q a d)

      pub dict_later : (K W : Ty) → a ≡ step_of (times x.number (entry (type_as old K) (type_as old W)) (take (length s - x.bytes) (drop x.bytes s)))
          → later x.bytes a ≡ step_of (value (type_as old (dict K W)) s)
      dict_later K W d = rw (dict_as old K W) (with_later size (λ n. times n (entry (type_as old K) (type_as old W))) s r e x q a d)

-- ---- the loops over elements and pairs

pub held_entry : (K W : Ty) → Held (entry K W)
unfolding entry
held_entry K W = held_bind (value K) (λ _. value W) (held_value K) (λ _. held_value W)

module _ (K : Ty) where
  pub element_begin : (s : List ℕ) (n : ℕ) → Left s (step_of (times n (value K) s)) (times (n - 0) (value K)) 0
  element_begin = each_begin (value K) (held_value K)

  module _ (s : List ℕ) (all : Result ℕ Refusal) (n i at : ℕ) (inv : Left s all (times (n - i) (value K)) at) where
    pub element_done : n ≤ i → Ok at ≡ all
    element_done = each_done (value K) (held_value K) s all n i at inv

    module _ (h : i < n) (r : Result ℕ Refusal) (e : r ≡ step_of (value K (take (length s - at) (drop at s)))) where
      pub element_next : (m : ℕ) → later at r ≡ Ok m → Left s all (times (n - (i + 1)) (value K)) m
      element_next = each_later_next (value K) (held_value K) s all n i at inv h r e

      pub element_fault : (x : Refusal) → later at r ≡ Err x → Err x ≡ all
      element_fault = each_later_fault (value K) (held_value K) s all n i at inv h r e

pub entry_begin : (old : Bool) (T : List ℕ) (t k v : ℕ) → k ≡ field T t 0 → v ≡ field T t 1 → (s : List ℕ) (n : ℕ)
    → Left s (step_of (times n (entry (type_as old (part_ty T t (field T t 0))) (type_as old (part_ty T t (field T t 1)))) s)) (times (n - 0) (entry (type_as old (part_ty T t k)) (type_as old (part_ty T t v)))) 0
entry_begin old T t k v e f s n = rw (← e, ← f) (each_begin (entry (type_as old (part_ty T t k)) (type_as old (part_ty T t v))) (held_entry _ _) s n)

module _ (K W : Ty) where
  module _ (s : List ℕ) (all : Result ℕ Refusal) (n i at : ℕ) (inv : Left s all (times (n - i) (entry K W)) at) where
    pub entry_done : n ≤ i → Ok at ≡ all
    entry_done = each_done (entry K W) (held_entry K W) s all n i at inv

    module _ (h : i < n) (r : Result ℕ Refusal) (e : r ≡ step_of (entry K W (take (length s - at) (drop at s)))) where
      pub entry_next : (m : ℕ) → later at r ≡ Ok m → Left s all (times (n - (i + 1)) (entry K W)) m
      entry_next = each_later_next (entry K W) (held_entry K W) s all n i at inv h r e

      pub entry_fault : (x : Refusal) → later at r ≡ Err x → Err x ≡ all
      entry_fault = each_later_fault (entry K W) (held_entry K W) s all n i at inv h r e

-- ---- an entry

pub key_end : (K : Ty) (s : List ℕ) (r : Result ℕ Refusal) → r ≡ step_of (value K s) → (n : ℕ) → r ≡ Ok n → n ≤ length s
key_end K = took_held (value K) (held_value K)

module _ (K W : Ty) (s : List ℕ) (r : Result ℕ Refusal) (e : r ≡ step_of (value K s)) where
  pub pair_none : (x : Refusal) → r ≡ Err x → Err x ≡ step_of (entry K W s)
  unfolding entry
  pair_none x q = then_none (value K) (value W) s r e x q

  pub pair_later : (n : ℕ) → r ≡ Ok n → (a : Result ℕ Refusal) → a ≡ step_of (value W (take (length s - n) (drop n s))) → later n a ≡ step_of (entry K W s)
  unfolding entry
  pair_later n q a d = then_later (value K) (value W) s r e n q a d

pub pair_wide : (K : Ty) (s : List ℕ) (r : Result ℕ Refusal) → r ≡ step_of (value K s) → (n : ℕ) → r ≡ Ok n
    → (old : Bool) (T shapes : List ℕ) → shapes ≡ shapes_of T → (t e w : ℕ) → w ≡ width_below shapes t e → 0 < w → w ≤ length s - n → Ok (n + w) ≡ step_of (entry K (type_as old (part_ty T t e)) s)
unfolding entry step_of
pair_wide K s r d n q old T shapes f t e w g h l = then_took (value K) (value (type_as old (part_ty T t e))) s r d n q (Ok w)
    (rw (below_takes old T shapes f t e w g h (take (length s - n) (drop n s)) (after_those s n w l))) w refl

-- ---- sums of places

-- what p answers n bytes later
abbrev Fitting : {A : Type 0} → Parser A → Type 0
Fitting p = (s : List ℕ) (n : ℕ) (r : Result ℕ Refusal) → r ≡ step_of (p (take (length s - n) (drop n s))) → n ≤ length s → length s < 2 ^ 64 → LaterFits n r

pub value_fits : (K : Ty) → Fitting (value K)
value_fits K s n r e = later_fits (value K) (held_value K) s n r e

pub elements_fit : (i : ℕ) (K : Ty) → Fitting (times i (value K))
elements_fit i K s n r e = later_fits (times i (value K)) (held_times i (value K) (held_value K)) s n r e

pub entry_fits : (K W : Ty) → Fitting (entry K W)
entry_fits K W s n r e = later_fits (entry K W) (held_entry K W) s n r e

pub pairs_fit : (i : ℕ) (K W : Ty) → Fitting (times i (entry K W))
pairs_fit i K W s n r e = later_fits (times i (entry K W)) (held_times i (entry K W) (held_entry K W)) s n r e

-- ---- a row of the table, and exactly one value

pub value_row : (old : Bool) (T : List ℕ) (n t : ℕ) (s : List ℕ) (r : Result ℕ Refusal) → n ≡ type_rows T → r ≡ step_of (value (type_as old (part_ty T n t)) s) → r ≡ step_of (value (type_as old (ty_of T t)) s)
unfolding ty_of trees part_ty
value_row old T n t s r e d = rw (← e) d

-- an answer that is rebuilt
pub row_again : (old : Bool) (T : List ℕ) (n t : ℕ) (s : List ℕ) (r v : Result ℕ Refusal) → n ≡ type_rows T → v ≡ step_of (value (type_as old (part_ty T n t)) s) → r ≡ v → r ≡ step_of (value (type_as old (ty_of T t)) s)
row_again old T n t s r v e d q = q ∙ value_row old T n t s v e d

module _ (X : Ty) (s : List ℕ) (r : Result ℕ Refusal) (e : r ≡ step_of (value X s)) where
  pub exact_took : (n : ℕ) → r ≡ Ok n → eqb n (length s) ≡ exact X s
  unfolding exact whole step_of
  exact_took n q = go (value X s) (sym q ∙ e)
    where
      go : (x : Res (Unit {0})) → Ok n ≡ step_of x → eqb n (length s) ≡ whole (length s) x
      go (ok u m) h = let i : n ≡ m = cc in rw i
      go (bad c p) h = let z : ◌≡◌ {A = ℕ} 0 1 = cc in absurd (omega arith)

  pub exact_bad : (x : Refusal) → r ≡ Err x → false ≡ exact X s
  unfolding exact whole
  exact_bad x q = rw (step_fault (value X s) x (sym q ∙ e))
