-- A row's cell, by the cells of the rows below. Types are compared by their cells, so no type tree is walked. Assumes nothing.
--
--   sort_.., row_..               what the sort of an index says of its type and of its row
--   below_.., index_is            an index as a part, and of a row; member_.. that of a member's type
--   alike_.., part_..             two cells that are there say whether two indexes agree, and two parts
--   Structs, structs_..           the loop over the members of two structs
--   listed_.., Lists, lists_..    the lists of two enums; enums_.. what two enums allow
--   rows_..                       two rows
--   Passed, passed_.., first_broken, agrees_..   the search for the first index that agrees
--   firsts_..                     two first indexes are equal exactly if the types agree
--   rank_.., place_..             ranks, and the place of a cell; Sums, sums_.. the sum of ranks
--   weight_.., weights_.., weighed_..   the weights of indexes
--   own_..                        the cells of the old table as they fill
--   Filled, filled_..             those of both tables; all_members: when all are there
use Prim.Native.Nat.{ℕ, zero, suc, ◌+◌, ◌-◌, ◌*◌, ◌≤◌, ◌<◌}
use mathlib.Core.Path.{◌≡◌, refl, sym, ap, ap₂, ◌∙◌}
use mathlib.Core.Bool.{Bool, true, false, ◌&&◌, not, true≢false}
use mathlib.Core.Logic.{⊎_elim}
use mathlib.Core.List.{List, map}
use native.Mathlib.Nat.{eq-or-lt_of_le, zero-add, add-zero}
use native.Mathlib.Numerals.{add-one}
use native.Mathlib.Omega.{arith}
use lib.ListN.{length, get_or, set, length-set}
use lib.Seq.{get_or-set_same, get_or-set_other}
use lib.Dec.{eqb, leb, ltb}
use borrow.Author.Tests.{leb-true, leb-false, le-leb, lt-leb, lt-ltb, le-ltb, ltb-true, ltb-false, eq-eqb, ne_eqb, not-true, not-false}
use Rattle.encoding.specs.Result.{pick, same_bytes}
use Rattle.encoding.proofs.ResultLaws.{same_bytes_ok}
use Rattle.encoding.specs.Types.{upto, only, allowed_of, short, int, long, float, double, Ty, nil, broken, bool, byte, string, proxy, old_proxy, num, enum, old_enum, struct, seq, dict}
use Rattle.encoding.specs.Table.{with_lists, kind, field, greatest, members, member_type, list_entry, entries_of, allowed, range, member_ty, member_tys, own_rows, tys, part_ty, type_rows, trees, ty_of}
use Rattle.encoding.proofs.TableLaws.{rows_below, ty_past, below_ty, below_none, member_in, member_past, members_more, members_none, row_bool, row_byte, row_short, row_int, row_long, row_float, row_double, row_string, row_enum, row_struct, row_seq, row_dict, row_proxy, row_other}
use Rattle.differences.specs.Compare.{same_allowed, shape, enums_of, members_of, element_of, value_of, same_ty, same_tys}
use Rattle.differences.specs.CompareLaws.{ty_ok, ty_equal}
use Rattle.agreeing.specs.Agreeing.{indexed, sort_at, below, is_listed, IsFirst, Firsts, Alike, Agreed, rank_from, rank, Ranked, weigh, Weighed}
use Rattle.table.specs.declared.TypeRow.{TypeRow}
use Rattle.table.specs.Rows.{IsTypeRow, greatest_of}
use Rattle.table.proofs.ByKind.{by_kind}
use Rattle.table.proofs.Ranges.{range_left, range_empty}

-- ---- sorts

unfoldable sort_of : Ty → ℕ
sort_of broken = 13
sort_of bool = 0
sort_of byte = 1
sort_of string = 7
sort_of proxy = 12
sort_of old_proxy = 14
sort_of (num short) = 2
sort_of (num int) = 3
sort_of (num long) = 4
sort_of (num float) = 5
sort_of (num double) = 6
sort_of (enum g) = 8
sort_of (old_enum g) = 15
sort_of (struct ts) = 9
sort_of (seq t) = 10
sort_of (dict k v) = 11

sort_broken : (t : Ty) → sort_of t ≡ 13 → t ≡ broken
unfolding sort_of
sort_broken broken e = refl
sort_broken bool e = absurd (omega arith)
sort_broken byte e = absurd (omega arith)
sort_broken string e = absurd (omega arith)
sort_broken proxy e = absurd (omega arith)
sort_broken old_proxy e = absurd (omega arith)
sort_broken (num short) e = absurd (omega arith)
sort_broken (num int) e = absurd (omega arith)
sort_broken (num long) e = absurd (omega arith)
sort_broken (num float) e = absurd (omega arith)
sort_broken (num double) e = absurd (omega arith)
sort_broken (enum g) e = absurd (omega arith)
sort_broken (old_enum g) e = absurd (omega arith)
sort_broken (struct ts) e = absurd (omega arith)
sort_broken (seq t) e = absurd (omega arith)
sort_broken (dict k v) e = absurd (omega arith)

sort_row : (T : List ℕ) (t : ℕ) → t < type_rows T → sort_of (ty_of T t) ≡ pick (leb (kind T t) 12) (kind T t) 13
unfolding sort_of
sort_row T t h = by_kind (λ k. kind T t ≡ k → sort_of (ty_of T t) ≡ pick (leb k 12) k 13)
    (λ e. rw (row_bool T t h e)) (λ e. rw (row_byte T t h e)) (λ e. rw (row_short T t h e)) (λ e. rw (row_int T t h e))
    (λ e. rw (row_long T t h e)) (λ e. rw (row_float T t h e)) (λ e. rw (row_double T t h e)) (λ e. rw (row_string T t h e))
    (λ e. rw (row_enum T t h e)) (λ e. rw (row_struct T t h e)) (λ e. rw (row_seq T t h e)) (λ e. rw (row_dict T t h e)) (λ e. rw (row_proxy T t h e))
    (λ n l e. rw (row_other T t h (rw e l), lt-leb n 12 l))
    (kind T t) refl

sort_is : (T : List ℕ) (x : ℕ) → sort_of (indexed T x) ≡ sort_at T x
unfolding sort_of sort_at indexed
sort_is T zero = refl
sort_is T (suc t) = go (ltb t (type_rows T)) refl
  where
    go : (b : Bool) → ltb t (type_rows T) ≡ b → sort_of (ty_of T t) ≡ pick (b && leb (kind T t) 12) (kind T t) 13
    go true e = sort_row T t (ltb-true _ _ e)
    go false e = rw (ty_past T t (ltb-false _ _ e))

module _ (T : List ℕ) (x : ℕ) where
  pub sort_none : x ≡ 0 → 13 ≡ sort_at T x
  unfolding sort_at
  sort_none e = rw e

  module _ (h : x ≡ 0 → ⊥) where
    sort_step : sort_at T x ≡ pick (ltb (x - 1) (type_rows T) && leb (kind T (x - 1)) 12) (kind T (x - 1)) 13
    unfolding sort_at
    sort_step = let e : x ≡ suc (x - 1) = omega arith in ap (sort_at T) e

    pub sort_past : (n : ℕ) → n ≡ type_rows T → n ≤ x - 1 → 13 ≡ sort_at T x
    sort_past n en l = sym (sort_step ∙ rw (← en, le-ltb (x - 1) n l))

    module _ (n : ℕ) (en : n ≡ type_rows T) (l : x - 1 < n) (k : ℕ) (ek : k ≡ kind T (x - 1)) where
      pub sort_great : 12 < k → 13 ≡ sort_at T x
      sort_great g = sym (sort_step ∙ rw (← en, lt-ltb (x - 1) n l, ← ek, lt-leb k 12 g))

      pub sort_kind : k ≤ 12 → k ≡ sort_at T x
      sort_kind g = sym (sort_step ∙ rw (← en, lt-ltb (x - 1) n l, ← ek, le-leb k 12 g))

-- an index whose sort is not 13 is that of a row
module _ (T : List ℕ) (x k : ℕ) (e : k ≡ sort_at T x) (h : k ≡ 13 → ⊥) where
  pub row_there : 0 < x
  unfolding sort_at
  row_there = go x e
    where
      go : (y : ℕ) → k ≡ sort_at T y → 0 < y
      go zero q = absurd (h q)
      go (suc y) q = omega arith

  row_all : (x - 1 < type_rows T) × (k ≡ kind T (x - 1)) × (k ≤ 12)
  row_all =
      go (ltb (x - 1) (type_rows T)) refl (leb (kind T (x - 1)) 12) refl
      (e ∙ sort_step T x (λ z. omega (arith, row_there)))
    where
      go : (a : Bool) → ltb (x - 1) (type_rows T) ≡ a → (b : Bool) → leb (kind T (x - 1)) 12 ≡ b → k ≡ pick (a && b) (kind T (x - 1)) 13 → (x - 1 < type_rows T) × (k ≡ kind T (x - 1)) × (k ≤ 12)
      go true f true g q = (ltb-true _ _ f, q, omega (arith, leb-true (kind T (x - 1)) 12 g))
      go true f false g q = absurd (h q)
      go false f b g q = absurd (h q)

  pub row_within : x - 1 < type_rows T
  row_within = row_all.0

  pub row_kind : k ≡ kind T (x - 1)
  row_kind = row_all.1

  pub row_few : k ≤ 12
  row_few = row_all.2

-- ---- indexes

module _ (t i : ℕ) where
  pub below_none_is : t ≤ i → 0 ≡ below t i
  unfolding below
  below_none_is h = rw (le-leb t i h)

  pub below_is : i < t → i + 1 ≡ below t i
  unfolding below
  below_is h = rw (lt-leb t i h, add-one)

indexed_below : (T : List ℕ) (t i : ℕ) → t ≤ type_rows T → indexed T (below t i) ≡ part_ty T t i
unfolding indexed below part_ty
indexed_below T t i h = go (leb t i) refl
  where
    go : (b : Bool) → leb t i ≡ b → indexed T (pick b 0 (suc i)) ≡ get_or (tys T t) i broken
    go true e = sym (below_none T t i (leb-true _ _ e))
    go false e = sym (below_ty T t i h (leb-false _ _ e))

pub index_is : (T : List ℕ) (n i r : ℕ) → n ≡ type_rows T → r ≡ below n i → indexed T r ≡ ty_of T i
unfolding ty_of trees part_ty
index_is T n i r en er = rw (er, en) (indexed_below T (type_rows T) i (omega arith))

module _ (T : List ℕ) (t m : ℕ) where
  pub member_none : (n : ℕ) → n ≡ members T → n ≤ m → indexed T 0 ≡ member_ty T (tys T t) m
  unfolding indexed
  member_none n e h = sym (member_past T m (tys T t) (rw e at h))

  pub member_is : (n i r : ℕ) → n ≡ members T → m < n → i ≡ member_type T m → r ≡ below t i → t ≤ type_rows T → indexed T r ≡ member_ty T (tys T t) m
  unfolding part_ty
  member_is n i r en l ei er h =
      ap (indexed T) er ∙ indexed_below T t i h ∙ ap (λ (j : ℕ). get_or (tys T t) j broken) ei ∙ sym (member_in T m (tys T t) (rw en at l))

-- ---- two cells

module _ (S T cells : List ℕ) (base x y : ℕ) (A : Alike S T cells base x y) where
  alike_is : (i j : ℕ) → i < x → j < y → (b : Bool) → b ≡ eqb (get_or cells i 0) (get_or cells (base + j) 0) → b ≡ same_ty (indexed S i) (indexed T j)
  alike_is i j li lj b e = e ∙ A.same i j li lj

  pub alike_upto : (v : ℕ) → v < x → Alike S T cells base v y
  alike_upto v lv = record { same = λ i j li lj. A.same i j (omega arith) lj }

module _ (S T cells : List ℕ) (base t u : ℕ) (ht : t < type_rows S) (hu : u < type_rows T) (A : Alike S T cells base (t + 1) (u + 1)) where
  pub part_is : (i a d x y : ℕ) → a ≡ field S t i → d ≡ field T u i → x ≡ below t a → x ≤ t → y ≡ below u d → y ≤ u → (b : Bool) → b ≡ eqb (get_or cells x 0) (get_or cells (base + y) 0)
      → b ≡ same_ty (part_ty S t (field S t i)) (part_ty T u (field T u i))
  part_is i a d x y ea ed ex lx ey ly b e =
      alike_is S T cells base (t + 1) (u + 1) A x y (omega arith) (omega arith) b e
      ∙ ap₂ same_ty (ap (indexed S) (rw ea at ex) ∙ indexed_below S t _ (omega arith)) (ap (indexed T) (rw ed at ey) ∙ indexed_below T u _ (omega arith))

-- an index of a part or of a row lies inside the array
pub part_inside : (T : List ℕ) (x t : ℕ) → x ≤ t → t < type_rows T → x < 257
part_inside T x t l h = omega (arith, rows_below T)

pub row_inside : (T : List ℕ) (x : ℕ) → x ≤ type_rows T → x < 257
row_inside T x l = omega (arith, rows_below T)

-- ---- structs

module _ (S T cells : List ℕ) (base t u : ℕ) (ht : t < type_rows S) (hu : u < type_rows T) (A : Alike S T cells base (t + 1) (u + 1)) where
  pub types_are : (m k x y : ℕ) → indexed S x ≡ member_ty S (tys S t) m → x ≤ t → indexed T y ≡ member_ty T (tys T u) k → y ≤ u → (b : Bool) → b ≡ eqb (get_or cells x 0) (get_or cells (base + y) 0)
      → b ≡ same_ty (member_ty S (tys S t) m) (member_ty T (tys T u) k)
  types_are m k x y ex lx ey ly b e = alike_is S T cells base (t + 1) (u + 1) A x y (omega arith) (omega arith) b e ∙ ap₂ same_ty ex ey

pub record Structs (S T : List ℕ) (t u m k n i : ℕ) : Type 0 where
  pub within : i ≤ n
  pub rest : same_tys (member_tys S (tys S t) (range m n)) (member_tys T (tys T u) (range k n)) ≡ same_tys (member_tys S (tys S t) (range (m + i) (n - i))) (member_tys T (tys T u) (range (k + i) (n - i)))

module _ (S T : List ℕ) (t u m k n : ℕ) where
  pub structs_begin : Structs S T t u m k n 0
  structs_begin =
      let em : m + 0 ≡ m = omega arith in let ek : k + 0 ≡ k = omega arith in let en : n - 0 ≡ n = omega arith in
      record { within = omega arith; rest = rw (em, ek, en) }

  module _ (i : ℕ) (inv : Structs S T t u m k n i) where
    pub structs_end : n ≤ i → true ≡ same_tys (member_tys S (tys S t) (range m n)) (member_tys T (tys T u) (range k n))
    unfolding same_tys
    structs_end h = sym (inv.rest ∙ rw (members_none S (tys S t) (m + i) (n - i) (omega arith), members_none T (tys T u) (k + i) (n - i) (omega arith)))

    module _ (h : i < n) (b : Bool) (e : b ≡ same_ty (member_ty S (tys S t) (m + i)) (member_ty T (tys T u) (k + i))) where
      structs_more : same_tys (member_tys S (tys S t) (range m n)) (member_tys T (tys T u) (range k n))
          ≡ b && same_tys (member_tys S (tys S t) (range (m + i + 1) (n - i - 1))) (member_tys T (tys T u) (range (k + i + 1) (n - i - 1)))
      unfolding same_tys
      structs_more =
          inv.rest
          ∙ rw (members_more S (tys S t) (m + i) (n - i) (omega arith), members_more T (tys T u) (k + i) (n - i) (omega arith), ← e)

      pub structs_not : not b ≡ true → false ≡ same_tys (member_tys S (tys S t) (range m n)) (member_tys T (tys T u) (range k n))
      structs_not q = sym (structs_more ∙ rw (not-true b q))

      pub structs_next : not b ≡ false → Structs S T t u m k n (i + 1)
      structs_next q =
          let em : m + i + 1 ≡ m + (i + 1) = omega arith in let ek : k + i + 1 ≡ k + (i + 1) = omega arith in let en : n - i - 1 ≡ n - (i + 1) = omega arith in
          record { within = omega arith; rest = structs_more ∙ rw (not-false b q, em, ek, en) }

module _ (S T : List ℕ) (t u : ℕ) where
  counts_differ : (a b i j : ℕ) → (a ≡ b → ⊥) → false ≡ same_tys (member_tys S (tys S t) (range i a)) (member_tys T (tys T u) (range j b))
  unfolding same_tys member_tys range
  counts_differ zero zero i j h = absurd (h refl)
  counts_differ zero (suc b) i j h = refl
  counts_differ (suc a) zero i j h = refl
  counts_differ (suc a) (suc b) i j h = go (same_ty (member_ty S (tys S t) i) (member_ty T (tys T u) j)) (counts_differ a b (suc i) (suc j) (λ e. h (ap suc e)))
    where
      go : (c : Bool) → false ≡ same_tys (member_tys S (tys S t) (range (suc i) a)) (member_tys T (tys T u) (range (suc j) b))
          → false ≡ (c && same_tys (member_tys S (tys S t) (range (suc i) a)) (member_tys T (tys T u) (range (suc j) b)))
      go true e = e
      go false e = refl

  module _ (a b : ℕ) (ea : a ≡ field S t 1) (eb : b ≡ field T u 1) where
    pub structs_differ : (a ≡ b → ⊥) → false ≡ same_tys (member_tys S (tys S t) (own_rows S t)) (member_tys T (tys T u) (own_rows T u))
    unfolding own_rows
    structs_differ h = rw (← ea, ← eb) (counts_differ a b (field S t 0) (field T u 0) h)

    pub structs_are : a ≡ b → (m k : ℕ) → m ≡ field S t 0 → k ≡ field T u 0 → (r : Bool) → r ≡ same_tys (member_tys S (tys S t) (range m a)) (member_tys T (tys T u) (range k a))
        → r ≡ same_tys (member_tys S (tys S t) (own_rows S t)) (member_tys T (tys T u) (own_rows T u))
    unfolding own_rows
    structs_are e m k em ek r er = er ∙ rw (em, ek) (ap₂ (λ (v w : ℕ). same_tys (member_tys S (tys S t) (range (field S t 0) v)) (member_tys T (tys T u) (range (field T u 0) w))) ea (e ∙ eb))

-- ---- enums

module _ (T : List ℕ) (t : ℕ) where
  row_greatest : (r : TypeRow) → IsTypeRow T t r → greatest_of r ≡ greatest T t
  unfolding greatest
  row_greatest r i = rw (i.a_is, i.b_is)

  pub listed_is : (w : Bool) → w ≡ with_lists T → w ≡ true → (r : TypeRow) → IsTypeRow T t r → (g : ℕ) → g ≡ greatest_of r → not (eqb r.d (g + 1)) ≡ is_listed T t
  unfolding is_listed
  listed_is w ew q r i g eg = rw (← ew, q, i.d_is, eg, row_greatest r i, add-one)

  pub listed_none : (w : Bool) → w ≡ with_lists T → w ≡ false → false ≡ is_listed T t
  unfolding is_listed
  listed_none w ew q = rw (← ew, q)

  entries_length : (n i : ℕ) → length (map (list_entry T) (range i n)) ≡ n
  unfolding range
  entries_length zero i = refl
  entries_length (suc n) i = ap suc (entries_length n (suc i))

  allowed_is : allowed T t ≡ pick (is_listed T t) (only (entries_of T t)) (upto (greatest T t))
  unfolding allowed allowed_of is_listed entries_of
  allowed_is = go (with_lists T)
    where
      by : (b : Bool) → pick b (upto (greatest T t)) (only (map (list_entry T) (range (field T t 2) (field T t 3)))) ≡ pick (not b) (only (map (list_entry T) (range (field T t 2) (field T t 3)))) (upto (greatest T t))
      by true = refl
      by false = refl

      go : (w : Bool) → pick w (pick (eqb (length (map (list_entry T) (range (field T t 2) (field T t 3)))) (suc (greatest T t))) (upto (greatest T t)) (only (map (list_entry T) (range (field T t 2) (field T t 3))))) (upto (greatest T t))
          ≡ pick (w && not (eqb (field T t 3) (suc (greatest T t)))) (only (map (list_entry T) (range (field T t 2) (field T t 3)))) (upto (greatest T t))
      go true = rw (entries_length (field T t 3) (field T t 2)) (by (eqb (field T t 3) (suc (greatest T t))))
      go false = refl

pub record Lists (S T : List ℕ) (i j n k : ℕ) : Type 0 where
  pub within : k ≤ n
  pub rest : same_bytes (map (list_entry S) (range i n)) (map (list_entry T) (range j n)) ≡ same_bytes (map (list_entry S) (range (i + k) (n - k))) (map (list_entry T) (range (j + k) (n - k)))

module _ (S T : List ℕ) (i j n : ℕ) where
  pub lists_begin : Lists S T i j n 0
  lists_begin =
      let ei : i + 0 ≡ i = omega arith in let ej : j + 0 ≡ j = omega arith in let en : n - 0 ≡ n = omega arith in
      record { within = omega arith; rest = rw (ei, ej, en) }

  module _ (k : ℕ) (inv : Lists S T i j n k) where
    pub lists_end : n ≤ k → true ≡ same_bytes (map (list_entry S) (range i n)) (map (list_entry T) (range j n))
    unfolding same_bytes
    lists_end h = sym (inv.rest ∙ rw (range_empty (i + k) (n - k) (omega arith), range_empty (j + k) (n - k) (omega arith)))

    module _ (h : k < n) (b : Bool) (e : b ≡ eqb (list_entry S (i + k)) (list_entry T (j + k))) where
      lists_more : same_bytes (map (list_entry S) (range i n)) (map (list_entry T) (range j n))
          ≡ b && same_bytes (map (list_entry S) (range (i + k + 1) (n - k - 1))) (map (list_entry T) (range (j + k + 1) (n - k - 1)))
      unfolding same_bytes
      lists_more = inv.rest ∙ rw (range_left (i + k) (n - k) (omega arith), range_left (j + k) (n - k) (omega arith), ← e)

      pub lists_not : not b ≡ true → false ≡ same_bytes (map (list_entry S) (range i n)) (map (list_entry T) (range j n))
      lists_not q = sym (lists_more ∙ rw (not-true b q))

      pub lists_next : not b ≡ false → Lists S T i j n (k + 1)
      lists_next q =
          let ei : i + k + 1 ≡ i + (k + 1) = omega arith in let ej : j + k + 1 ≡ j + (k + 1) = omega arith in let en : n - k - 1 ≡ n - (k + 1) = omega arith in
          record { within = omega arith; rest = lists_more ∙ rw (not-false b q, ei, ej, en) }

module _ (S T : List ℕ) (t u : ℕ) where
  module _ (a b : Bool) (ea : a ≡ is_listed S t) (eb : b ≡ is_listed T u) where
    sets_are : same_allowed (allowed S t) (allowed T u) ≡ same_allowed (pick a (only (entries_of S t)) (upto (greatest S t))) (pick b (only (entries_of T u)) (upto (greatest T u)))
    sets_are = rw (allowed_is S t, allowed_is T u, ← ea, ← eb)

    pub enums_listed : a ≡ true → b ≡ true → (r : Bool) → r ≡ same_bytes (entries_of S t) (entries_of T u) → r ≡ same_allowed (allowed S t) (allowed T u)
    unfolding same_allowed
    enums_listed p q r e = e ∙ sym (sets_are ∙ rw (p, q))

    pub enums_one : a ≡ true → b ≡ false → false ≡ same_allowed (allowed S t) (allowed T u)
    unfolding same_allowed
    enums_one p q = sym (sets_are ∙ rw (p, q))

    pub enums_other : a ≡ false → b ≡ true → false ≡ same_allowed (allowed S t) (allowed T u)
    unfolding same_allowed
    enums_other p q = sym (sets_are ∙ rw (p, q))

    pub enums_all : a ≡ false → b ≡ false → (r s : TypeRow) → IsTypeRow S t r → IsTypeRow T u s → (g h : ℕ) → g ≡ greatest_of r → h ≡ greatest_of s
        → eqb g h ≡ same_allowed (allowed S t) (allowed T u)
    unfolding same_allowed
    enums_all p q r s i j g h eg eh = sym (sets_are ∙ rw (p, q, eg, eh, row_greatest S t r i, row_greatest T u s j))

  pub lists_differ : (a b : ℕ) → a ≡ field S t 3 → b ≡ field T u 3 → (a ≡ b → ⊥) → false ≡ same_bytes (entries_of S t) (entries_of T u)
  unfolding entries_of
  lists_differ a b ea eb h = go (same_bytes (entries_of S t) (entries_of T u)) refl
    where
      go : (c : Bool) → same_bytes (entries_of S t) (entries_of T u) ≡ c → false ≡ c
      go true e = absurd (h (ea ∙ sym (entries_length S t (field S t 3) (field S t 2)) ∙ ap length (same_bytes_ok (entries_of S t) (entries_of T u) e) ∙ entries_length T u (field T u 3) (field T u 2) ∙ sym eb))
      go false e = refl

  pub lists_are : (a b : ℕ) → a ≡ field S t 3 → b ≡ field T u 3 → a ≡ b → (i j : ℕ) → i ≡ field S t 2 → j ≡ field T u 2
      → (r : Bool) → r ≡ same_bytes (map (list_entry S) (range i a)) (map (list_entry T) (range j a)) → r ≡ same_bytes (entries_of S t) (entries_of T u)
  unfolding entries_of
  lists_are a b ea eb e i j ei ej r er = er ∙ rw (ei, ej) (ap₂ (λ (v w : ℕ). same_bytes (map (list_entry S) (range (field S t 2) v)) (map (list_entry T) (range (field T u 2) w))) ea (e ∙ eb))

-- ---- two rows

module _ (S T : List ℕ) (t u : ℕ) where
  pub rows_heavier : (v w : ℕ) → v ≡ weigh S (members_of (ty_of S t)) → w ≡ weigh S (members_of (ty_of T u)) → (v ≡ w → ⊥) → false ≡ same_ty (ty_of S t) (ty_of T u)
  rows_heavier v w ev ew h = go (same_ty (ty_of S t) (ty_of T u)) refl
    where
      go : (c : Bool) → same_ty (ty_of S t) (ty_of T u) ≡ c → false ≡ c
      go true e = absurd (h (ev ∙ ap (λ (x : Ty). weigh S (members_of x)) (ty_ok (ty_of S t) (ty_of T u) e) ∙ sym ew))
      go false e = refl

module _ (S T : List ℕ) (t u : ℕ) (ht : t < type_rows S) (hu : u < type_rows T) (j k : ℕ) (ej : j ≡ kind S t) (et : k ≡ kind T u) where
  pub rows_differ : k ≤ 12 → (j ≡ k → ⊥) → false ≡ same_ty (ty_of S t) (ty_of T u)
  rows_differ l h = go (same_ty (ty_of S t) (ty_of T u)) refl
    where
      sorts : ty_of S t ≡ ty_of T u → pick (leb j 12) j 13 ≡ k
      sorts e = rw (ej) (sym (sort_row S t ht) ∙ ap sort_of e ∙ sort_row T u hu ∙ rw (← et, le-leb k 12 l))

      by : (b : Bool) → leb j 12 ≡ b → pick b j 13 ≡ k → ⊥
      by true q e = h e
      by false q e = omega arith

      go : (c : Bool) → same_ty (ty_of S t) (ty_of T u) ≡ c → false ≡ c
      go true e = absurd (by (leb j 12) refl (sorts (ty_ok (ty_of S t) (ty_of T u) e)))
      go false e = refl

module _ (S T : List ℕ) (t u : ℕ) (ht : t < type_rows S) (hu : u < type_rows T) (j k : ℕ) (ej : j ≡ kind S t) (et : k ≡ kind T u) (ek : j ≡ k) where
  es : k ≡ kind S t
  es = sym ek ∙ ej

  pub rows_enum : k ≡ 8 → (r : Bool) → r ≡ same_allowed (allowed S t) (allowed T u) → r ≡ same_ty (ty_of S t) (ty_of T u)
  unfolding same_ty shape enums_of
  rows_enum q r e = e ∙ sym (rw (row_enum S t ht (sym es ∙ q), row_enum T u hu (sym et ∙ q)))

  pub rows_struct : k ≡ 9 → (r : Bool) → r ≡ same_tys (member_tys S (tys S t) (own_rows S t)) (member_tys T (tys T u) (own_rows T u)) → r ≡ same_ty (ty_of S t) (ty_of T u)
  unfolding same_ty shape members_of own_rows
  rows_struct q r e = e ∙ sym (rw (row_struct S t ht (sym es ∙ q), row_struct T u hu (sym et ∙ q)))

  pub rows_seq : k ≡ 10 → (r : Bool) → r ≡ same_ty (part_ty S t (field S t 0)) (part_ty T u (field T u 0)) → r ≡ same_ty (ty_of S t) (ty_of T u)
  unfolding same_ty shape element_of part_ty
  rows_seq q r e = e ∙ sym (rw (row_seq S t ht (sym es ∙ q), row_seq T u hu (sym et ∙ q)))

  module _ (q : k ≡ 11) (a : Bool) (ea : a ≡ same_ty (part_ty S t (field S t 0)) (part_ty T u (field T u 0))) where
    dicts : same_ty (ty_of S t) (ty_of T u) ≡ a && same_ty (part_ty S t (field S t 1)) (part_ty T u (field T u 1))
    unfolding same_ty shape element_of value_of part_ty
    dicts = rw ea (rw (row_dict S t ht (sym es ∙ q), row_dict T u hu (sym et ∙ q)))

    pub rows_dict : a ≡ true → (r : Bool) → r ≡ same_ty (part_ty S t (field S t 1)) (part_ty T u (field T u 1)) → r ≡ same_ty (ty_of S t) (ty_of T u)
    rows_dict p r e = e ∙ sym (dicts ∙ rw p)

    pub rows_dict_not : a ≡ false → false ≡ same_ty (ty_of S t) (ty_of T u)
    rows_dict_not p = sym (dicts ∙ rw p)

  pub rows_plain : (k ≡ 8 → ⊥) → (k ≡ 9 → ⊥) → (k ≡ 10 → ⊥) → (k ≡ 11 → ⊥) → true ≡ same_ty (ty_of S t) (ty_of T u)
  rows_plain a b c d = sym (ty_equal (ty_of S t) (ty_of T u) (by_kind (λ n. k ≡ n → ty_of S t ≡ ty_of T u)
      (λ e. rw (row_bool S t ht (sym es ∙ e), row_bool T u hu (sym et ∙ e))) (λ e. rw (row_byte S t ht (sym es ∙ e), row_byte T u hu (sym et ∙ e)))
      (λ e. rw (row_short S t ht (sym es ∙ e), row_short T u hu (sym et ∙ e))) (λ e. rw (row_int S t ht (sym es ∙ e), row_int T u hu (sym et ∙ e)))
      (λ e. rw (row_long S t ht (sym es ∙ e), row_long T u hu (sym et ∙ e))) (λ e. rw (row_float S t ht (sym es ∙ e), row_float T u hu (sym et ∙ e)))
      (λ e. rw (row_double S t ht (sym es ∙ e), row_double T u hu (sym et ∙ e))) (λ e. rw (row_string S t ht (sym es ∙ e), row_string T u hu (sym et ∙ e)))
      (λ e. absurd (a e)) (λ e. absurd (b e)) (λ e. absurd (c e)) (λ e. absurd (d e)) (λ e. rw (row_proxy S t ht (sym es ∙ e), row_proxy T u hu (sym et ∙ e)))
      (λ n l e. rw (row_other S t ht (rw (sym es ∙ e) l), row_other T u hu (rw (sym et ∙ e) l)))
      k refl))

-- ---- the first index that agrees

indexed_row : (T : List ℕ) (x : ℕ) → 0 < x → indexed T x ≡ ty_of T (x - 1)
unfolding indexed
indexed_row T x h = let e : x ≡ suc (x - 1) = omega arith in ap (indexed T) e

-- no index below x agrees with index y
pub record Passed (S T : List ℕ) (y x : ℕ) : Type 0 where
  pub others : (i : ℕ) → i < x → same_ty (indexed S i) (indexed T y) ≡ false

module _ (S T : List ℕ) (n y k : ℕ) (ek : k ≡ sort_at T y) where
  pub first_broken : k ≡ 13 → IsFirst S n (indexed T y) 0
  unfolding indexed
  first_broken q = record {
    within = omega arith;
    others = λ i l. absurd (omega arith);
    found = λ l. ty_equal broken (indexed T y) (sym (sort_broken (indexed T y) (sort_is T y ∙ sym ek ∙ q)));
  }

  module _ (q : k ≡ 13 → ⊥) where
    pub passed_begin : Passed S T y 1
    unfolding indexed sort_of
    passed_begin = record { others = λ i l. let e : i ≡ 0 = omega arith in rw e (go (same_ty broken (indexed T y)) refl) }
      where
        go : (c : Bool) → same_ty broken (indexed T y) ≡ c → c ≡ false
        go true e = absurd (q (ek ∙ sym (sort_is T y) ∙ sym (ap sort_of (ty_ok broken (indexed T y) e))))
        go false e = refl

-- two indexes of rows: x, and y, whose sort is not 13
module _ (S T : List ℕ) (x y k : ℕ) (lx : 0 < x) (ek : k ≡ sort_at T y) (q : k ≡ 13 → ⊥) where
  pub agrees_is : (b : Bool) → b ≡ same_ty (ty_of S (x - 1)) (ty_of T (y - 1)) → b ≡ same_ty (indexed S x) (indexed T y)
  agrees_is b e = e ∙ sym (ap₂ same_ty (indexed_row S x lx) (indexed_row T y (row_there T y k ek q)))

  pub agrees_parts : (cells : List ℕ) (base : ℕ) → Alike S T cells base x y → Alike S T cells base (x - 1 + 1) (y - 1 + 1)
  agrees_parts cells base A = record { same = λ i j li lj. A.same i j (omega arith) (omega (arith, row_there T y k ek q)) }

module _ (S T : List ℕ) (n y x : ℕ) (P : Passed S T y x) (l : x < n) (b : Bool) (e : b ≡ same_ty (indexed S x) (indexed T y)) where
  pub passed_found : b ≡ true → IsFirst S n (indexed T y) x
  passed_found h = record { within = omega arith; others = P.others; found = λ z. sym e ∙ h }

  pub passed_next : b ≡ false → Passed S T y (x + 1)
  passed_next h = record {
    others = λ i li. ⊎_elim (λ z. rw z (sym e ∙ h)) (λ z. P.others i z) (eq-or-lt_of_le {n = i} {m = x} (omega arith));
  }

module _ (S T : List ℕ) (y x n : ℕ) (P : Passed S T y x) where
  pub passed_end : n ≤ x → IsFirst S n (indexed T y) n
  passed_end h = record { within = omega arith; others = λ i l. P.others i (omega arith); found = λ l. absurd (omega arith) }

-- ---- the array

-- the cell of index i is the first also among the first n indexes
own_more : (S : List ℕ) (i n c : ℕ) → i < n → IsFirst S i (indexed S i) c → IsFirst S n (indexed S i) c
own_more S i n c l F = record {
  within = omega (arith, F.within);
  others = F.others;
  found = λ _. ⊎_elim (λ z. rw z (ty_equal (indexed S i) (indexed S i) refl)) F.found (eq-or-lt_of_le {n = c} {m = i} F.within);
}

-- the first indexes of two types are equal exactly if the types agree
module _ (S : List ℕ) (n i c d : ℕ) (l : i < n) (C : IsFirst S i (indexed S i) c) (t : Ty) (D : IsFirst S n t d) where
  own : same_ty (indexed S c) (indexed S i) ≡ true
  own = (own_more S i n c l C).found (omega (arith, C.within))

  firsts_equal : indexed S i ≡ t → c ≡ d
  firsts_equal e = go (ltb c d) refl (ltb d c) refl
    where
      go : (a : Bool) → ltb c d ≡ a → (b : Bool) → ltb d c ≡ b → c ≡ d
      go true q b r = absurd (true≢false (sym own ∙ ap (same_ty (indexed S c)) e ∙ D.others c (ltb-true c d q)))
      go false q true r = absurd (true≢false (sym (D.found (omega (arith, C.within, ltb-true d c r))) ∙ sym (ap (same_ty (indexed S d)) e) ∙ C.others d (ltb-true d c r)))
      go false q false r = omega (arith, ltb-false c d q, ltb-false d c r)

  firsts_unlike : same_ty (indexed S i) t ≡ false → c ≡ d → ⊥
  firsts_unlike h e =
      true≢false
      (sym (ty_equal (indexed S i) t (sym (ty_ok (indexed S c) (indexed S i) own) ∙ ap (indexed S) e ∙ ty_ok (indexed S d) t (D.found (omega (arith, C.within)))))
      ∙ h)

  firsts_are : eqb c d ≡ same_ty (indexed S i) t
  firsts_are = go (same_ty (indexed S i) t) refl
    where
      go : (b : Bool) → same_ty (indexed S i) t ≡ b → eqb c d ≡ b
      go true e = eq-eqb c d (firsts_equal (ty_ok (indexed S i) t e))
      go false e = ne_eqb c d (firsts_unlike e)

-- ---- ranks and weights

rank_from_lem : (S : List ℕ) (t : Ty) (n i c : ℕ) → i ≤ c → c ≤ i + n → ((j : ℕ) → i ≤ j → j < c → same_ty (indexed S j) t ≡ false) → (c < i + n → same_ty (indexed S c) t ≡ true) → rank_from S i n t ≡ c
unfolding rank_from
rank_from_lem S t zero i c l m before here = omega arith
rank_from_lem S t (suc n) i c l m before here = ⊎_elim
    (λ z. let e : same_ty (indexed S i) t ≡ true = rw z (here (omega arith)) in rw e z)
    (λ z. rw (before i (omega arith) z) (rank_from_lem S t n (suc i) c z (omega arith) (λ j lj. before j (omega arith)) (λ q. here (omega arith))))
    (eq-or-lt_of_le {n = i} {m = c} l)

first_rank : (S : List ℕ) (t : Ty) (c : ℕ) → IsFirst S (type_rows S + 1) t c → c ≡ rank S t
unfolding rank
first_rank S t c F = sym (rank_from_lem S t (type_rows S + 1) 0 c (omega arith) (omega (arith, F.within)) (λ j _ l. F.others j l) (λ q. F.found (omega arith)))

rank_most : (S : List ℕ) (t : Ty) (n i : ℕ) → rank_from S i n t ≤ i + n
unfolding rank_from
rank_most S t zero i = omega arith
rank_most S t (suc n) i = go (same_ty (indexed S i) t) (rank_most S t n (suc i))
  where
    go : (b : Bool) → rank_from S (suc i) n t ≤ suc i + n → pick b i (rank_from S (suc i) n t) ≤ i + suc n
    go true h = omega arith
    go false h = omega arith

module _ (S T cells : List ℕ) (base y : ℕ) (R : Ranked S T cells base y) where
  ranked_below : 0 < y → Ranked S T cells base (y - 1 + 1)
  ranked_below l = record { rank_of = λ j lj. R.rank_of j (omega arith) }

  ranked_small : (j : ℕ) → j < y → get_or cells (base + j) 0 ≤ 257
  unfolding rank
  ranked_small j l = omega (arith, R.rank_of j l, rank_most S (indexed T j) (type_rows S + 1) 0, rows_below S)

-- the place of a part's cell lies inside the array
module _ (T : List ℕ) (base u r : ℕ) (h : u < type_rows T) (l : r ≤ u) (lb : base ≤ 257) where
  pub place_fits : base + r < 18446744073709551616
  place_fits = omega (arith, rows_below T)

  pub place_scaled : (base + r) * 8 < 18446744073709551616
  place_scaled = omega (arith, rows_below T)

  pub place_inside : base + r < 514
  place_inside = omega (arith, rows_below T)

-- the loop over n members: w is the sum of the cells of the first i
pub record Sums (S T : List ℕ) (u m n w i : ℕ) : Type 0 where
  pub within : i ≤ n
  pub small : w ≤ 257 * i
  pub rest : weigh S (member_tys T (tys T u) (range m n)) ≡ w + weigh S (member_tys T (tys T u) (range (m + i) (n - i)))

module _ (S T : List ℕ) (u m n : ℕ) where
  pub sums_begin : Sums S T u m n 0 0
  sums_begin =
      let em : m + 0 ≡ m = omega arith in let en : n - 0 ≡ n = omega arith in
      record { within = omega arith; small = omega arith; rest = rw (em, en) (sym (zero-add (weigh S (member_tys T (tys T u) (range m n))))) }

  module _ (w i : ℕ) (inv : Sums S T u m n w i) where
    pub sums_end : n ≤ i → w ≡ weigh S (member_tys T (tys T u) (range m n))
    unfolding weigh
    sums_end h = sym (inv.rest ∙ rw (members_none T (tys T u) (m + i) (n - i) (omega arith)) (add-zero w))

    module _ (h : i < n) (cells : List ℕ) (base : ℕ) (R : Ranked S T cells base (u + 1)) (r : ℕ) (l : r ≤ u) where
      pub sums_fit : n < 65536 → w + get_or cells (base + r) 0 < 18446744073709551616
      sums_fit g = omega (arith, inv.small, ranked_small S T cells base (u + 1) R r (omega arith))

      pub sums_next : indexed T r ≡ member_ty T (tys T u) (m + i) → Sums S T u m n (w + get_or cells (base + r) 0) (i + 1)
      unfolding weigh
      sums_next e =
          let em : m + i + 1 ≡ m + (i + 1) = omega arith in let en : n - i - 1 ≡ n - (i + 1) = omega arith in
          let q : get_or cells (base + r) 0 ≡ rank S (member_ty T (tys T u) (m + i)) = R.rank_of r (omega arith) ∙ ap (rank S) e in
          record {
            within = omega arith;
            small = omega (arith, inv.small, ranked_small S T cells base (u + 1) R r (omega arith));
            rest = inv.rest ∙ rw (members_more T (tys T u) (m + i) (n - i) (omega arith), em, en) (rw (← q) (omega arith));
          }

members_nil : (t : Ty) → (sort_of t ≡ 9 → ⊥) → members_of t ≡ nil
unfolding sort_of members_of
members_nil broken h = refl
members_nil bool h = refl
members_nil byte h = refl
members_nil string h = refl
members_nil proxy h = refl
members_nil old_proxy h = refl
members_nil (num n) h = refl
members_nil (enum g) h = refl
members_nil (old_enum g) h = refl
members_nil (struct ts) h = absurd (h refl)
members_nil (seq t) h = refl
members_nil (dict k v) h = refl

module _ (S T : List ℕ) (y k : ℕ) (ek : k ≡ sort_at T y) where
  pub weight_none : (k ≡ 9 → ⊥) → 0 ≡ weigh S (members_of (indexed T y))
  unfolding weigh
  weight_none h = sym (ap (weigh S) (members_nil (indexed T y) (λ q. h (ek ∙ sym (sort_is T y) ∙ q))))

  module _ (q : k ≡ 9) where
    no_13 : k ≡ 13 → ⊥
    no_13 e = omega arith

    pub weight_there : 0 < y
    weight_there = row_there T y k ek no_13

    pub weight_within : y - 1 < type_rows T
    weight_within = row_within T y k ek no_13

    pub weight_ranked : (cells : List ℕ) (base : ℕ) → Ranked S T cells base y → Ranked S T cells base (y - 1 + 1)
    weight_ranked cells base R = ranked_below S T cells base y R weight_there

    pub weight_is : (m n : ℕ) → m ≡ field T (y - 1) 0 → n ≡ field T (y - 1) 1 → (r : ℕ) → r ≡ weigh S (member_tys T (tys T (y - 1)) (range m n)) → r ≡ weigh S (members_of (indexed T y))
    unfolding members_of
    weight_is m n em en r er = er ∙ rw (em, en, indexed_row T y weight_there, row_struct T (y - 1) weight_within (sym (row_kind T y k ek no_13) ∙ q))

module _ (S weights : List ℕ) where
  pub weighed_begin : length weights ≡ 257 → Weighed S weights 0
  weighed_begin e = record { size = e; weight_of = λ i l. absurd (omega arith) }

  module _ (x : ℕ) (W : Weighed S weights x) where
    pub weighed_next : (n : ℕ) → n ≡ type_rows S → x < n + 1 → (w : ℕ) → w ≡ weigh S (members_of (indexed S x)) → Weighed S (set weights x w) (x + 1)
    weighed_next n en h w ew = record {
      size = length-set weights x w ∙ W.size;
      weight_of = λ i l. ⊎_elim
          (λ z. rw z (get_or-set_same weights x w 0 (omega (arith, rows_below S, W.size)) ∙ ew))
          (λ z. get_or-set_other weights x i w 0 (λ q. omega arith) ∙ W.weight_of i z)
          (eq-or-lt_of_le {n = i} {m = x} (omega arith));
    }

    pub weighed_end : (n : ℕ) → n ≡ type_rows S → x ≤ n + 1 → n + 1 ≤ x → Weighed S weights (type_rows S + 1)
    weighed_end n en l h = let e : x ≡ type_rows S + 1 = omega arith in rw (← e) W

    pub weighed_upto : (v : ℕ) → v < x → Weighed S weights (v + 1)
    weighed_upto v l = record { size = W.size; weight_of = λ i li. W.weight_of i (omega arith) }

  pub weighed_row : (x : ℕ) → Weighed S weights (x + 1) → 0 < x → get_or weights x 0 ≡ weigh S (members_of (ty_of S (x - 1)))
  weighed_row x W l = W.weight_of x (omega arith) ∙ ap (λ (t : Ty). weigh S (members_of t)) (indexed_row S x l)

  pub weighed_all : Weighed S weights (type_rows S + 1) → (n : ℕ) → n ≡ type_rows S → Weighed S weights (n + 1)
  weighed_all W n en = rw en W

module _ (S : List ℕ) (x : ℕ) (h : x ≤ type_rows S) where
  pub weights_scaled : x * 8 < 18446744073709551616
  weights_scaled = omega (arith, rows_below S)

  pub weights_inside : x < 257
  weights_inside = omega (arith, rows_below S)

pub weight_row : (S T : List ℕ) (y k w : ℕ) → k ≡ sort_at T y → (k ≡ 13 → ⊥) → w ≡ weigh S (members_of (indexed T y)) → w ≡ weigh S (members_of (ty_of T (y - 1)))
weight_row S T y k w ek q e = e ∙ ap (λ (t : Ty). weigh S (members_of t)) (indexed_row T y (row_there T y k ek q))

module _ (S cells : List ℕ) where
  pub own_begin : length cells ≡ 514 → Firsts S cells 0
  own_begin e = record { size = e; each = λ i l. absurd (omega arith) }

  module _ (x : ℕ) (F : Firsts S cells x) where
    pub own_alike : Alike S S cells 0 x x
    own_alike = record { same = λ i j li lj. let e : 0 + j ≡ j = omega arith in rw e (firsts_are S x i _ _ li (F.each i li) (indexed S j) (own_more S j x _ lj (F.each j lj))) }

    pub own_ranked : (n : ℕ) → n ≡ type_rows S → x < n + 1 → Ranked S S cells 0 x
    own_ranked n en h = record { rank_of = λ j l. let e : 0 + j ≡ j = omega arith in rw e (first_rank S (indexed S j) _ (own_more S j (type_rows S + 1) _ (omega arith) (F.each j l))) }

    pub own_next : (n : ℕ) → n ≡ type_rows S → x < n + 1 → (v : ℕ) → IsFirst S x (indexed S x) v → Firsts S (set cells x v) (x + 1)
    own_next n en h v I = record {
      size = length-set cells x v ∙ F.size;
      each = λ i l. ⊎_elim
          (λ z. rw (z, get_or-set_same cells x v 0 (omega (arith, rows_below S, F.size))) I)
          (λ z. rw (get_or-set_other cells x i v 0 (λ q. omega arith)) (F.each i z))
          (eq-or-lt_of_le {n = i} {m = x} (omega arith));
    }

    pub own_end : (n : ℕ) → n ≡ type_rows S → x ≤ n + 1 → n + 1 ≤ x → Firsts S cells (type_rows S + 1)
    own_end n en l h = let e : x ≡ type_rows S + 1 = omega arith in rw (← e) F

-- the cells of the old table, and those of the new one below index y
pub record Filled (S T cells : List ℕ) (y : ℕ) : Type 0 where
  pub old : Firsts S cells (type_rows S + 1)
  pub new : (j : ℕ) → j < y → IsFirst S (type_rows S + 1) (indexed T j) (get_or cells (257 + j) 0)

module _ (S T cells : List ℕ) where
  pub filled_begin : Firsts S cells (type_rows S + 1) → Filled S T cells 0
  filled_begin F = record { old = F; new = λ j l. absurd (omega arith) }

  module _ (y : ℕ) (F : Filled S T cells y) where
    filled_same : Alike S T cells 257 (type_rows S + 1) y
    filled_same = record { same = λ i j li lj. firsts_are S (type_rows S + 1) i _ _ li (F.old.each i li) (indexed T j) (F.new j lj) }

    pub filled_ranked : Ranked S T cells 257 y
    filled_ranked = record { rank_of = λ j l. first_rank S (indexed T j) _ (F.new j l) }

    pub filled_alike : (n : ℕ) → n ≡ type_rows S → Alike S T cells 257 (n + 1) y
    filled_alike n en = rw en filled_same

    pub filled_next : (n : ℕ) → n ≡ type_rows S → (m : ℕ) → m ≡ type_rows T → y < m + 1 → (v : ℕ) → IsFirst S (n + 1) (indexed T y) v → Filled S T (set cells (257 + y) v) (y + 1)
    filled_next n en m em h v I = record {
      old = record {
        size = length-set cells (257 + y) v ∙ F.old.size;
        each = λ i l. rw (get_or-set_other cells (257 + y) i v 0 (λ q. omega (arith, rows_below S))) (F.old.each i l);
      };
      new = λ j l. ⊎_elim
          (λ z. rw (z, get_or-set_same cells (257 + y) v 0 (omega (arith, rows_below T, F.old.size))) (rw en at I))
          (λ z. rw (get_or-set_other cells (257 + y) (257 + j) v 0 (λ q. omega arith)) (F.new j z))
          (eq-or-lt_of_le {n = j} {m = y} (omega arith));
    }

    pub filled_end : (m : ℕ) → m ≡ type_rows T → y ≤ m + 1 → m + 1 ≤ y → Agreed S T cells
    filled_end m em l h = let e : y ≡ type_rows T + 1 = omega arith in rw (← e) filled_same

module _ (S T cells : List ℕ) (A : Agreed S T cells) (m n i j : ℕ) (ei : ty_of S i ≡ member_ty S (trees S) m) (ej : ty_of T j ≡ member_ty T (trees T) n) where
  pub all_members : (x y : ℕ) → indexed S x ≡ ty_of S i → x ≤ type_rows S → indexed T y ≡ ty_of T j → y ≤ type_rows T → (c : Bool) → c ≡ eqb (get_or cells x 0) (get_or cells (257 + y) 0)
      → c ≡ same_ty (member_ty S (trees S) m) (member_ty T (trees T) n)
  all_members x y ex lx ey ly c e = alike_is S T cells 257 (type_rows S + 1) (type_rows T + 1) A x y (omega arith) (omega arith) c e ∙ ap₂ same_ty (ex ∙ ei) (ey ∙ ej)
