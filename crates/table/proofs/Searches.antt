-- The search in a list of allowed enumerators, and what an enum row allows. Assumes nothing.
--
--   Search, search_..                       the loop: the entries that are left decide
--   allows_plain, allows_all, allows_listed what an enum row allows: without a list, by a list of all numbers, by a search
--   last_none, last_is                      the last entry of a list
--   most_plain, most_all, most_listed       the greatest that an enum row allows, in the same three cases
use Prim.Native.Nat.{ℕ, zero, suc, ◌+◌, ◌-◌, ◌*◌, ◌/◌, ◌≤◌, ◌<◌}
use mathlib.Core.Path.{◌≡◌, refl, sym, ap, ap₂, ◌∙◌}
use mathlib.Core.Bool.{Bool, true, false}
use mathlib.Core.List.{List, map}
use native.Mathlib.Numerals.{add-one}
use native.Mathlib.Omega.{arith}
use lib.ListN.{length, get_or}
use lib.Dec.{leb}
use borrow.Author.Tests.{eq-eqb, ne_eqb}
use Rattle.encoding.specs.Types.{searched, allows, allowed_of, most}
use Rattle.encoding.proofs.AllowedLaws.{searched_none, searched_here, searched_after, searched_before}
use Rattle.encoding.specs.Table.{with_lists, range, list_entry, greatest, entries_of, allowed}
use Rattle.encoding.proofs.ListLaws.{length_entries, mapped_at}
use Rattle.table.specs.Rows.{IsTypeRow, greatest_of}
use Rattle.table.specs.declared.TypeRow.{TypeRow}

-- the list of d entries from entry c on
abbrev part : List ℕ → ℕ → ℕ → List ℕ
part T c d = map (list_entry T) (range c d)

-- the fuel of the definition is enough for the entries that are left
pub record Search (T : List ℕ) (c d n lo hi : ℕ) : Type 0 where
  pub fuel : ℕ
  pub within : hi ≤ d
  pub enough : hi ≤ lo + fuel
  pub rest : searched d (map (list_entry T) (range c d)) n 0 d ≡ searched fuel (map (list_entry T) (range c d)) n lo hi

pub search_begin : (T : List ℕ) (c d n : ℕ) → Search T c d n 0 d
search_begin T c d n = record { fuel = d; within = omega arith; enough = omega arith; rest = refl }

module _ (T : List ℕ) (c d n lo hi : ℕ) (inv : Search T c d n lo hi) where
  pub search_end : hi ≤ lo → false ≡ searched d (map (list_entry T) (range c d)) n 0 d
  search_end h = sym (inv.rest ∙ searched_none (part T c d) n lo hi inv.fuel h)

  module _ (h : lo < hi) (x : ℕ) (ex : x ≡ list_entry T (c + (lo + hi) / 2)) where
    entry : get_or (part T c d) ((lo + hi) / 2) 0 ≡ x
    entry = mapped_at (list_entry T) c d ((lo + hi) / 2) (omega (arith, inv.within)) ∙ sym ex

    -- some fuel is left
    more : {P : Type 0} → ((f : ℕ) → hi ≤ lo + suc f → searched d (part T c d) n 0 d ≡ searched (suc f) (part T c d) n lo hi → P) → P
    more {P} step = go inv.fuel inv.enough inv.rest
      where
        go : (f : ℕ) → hi ≤ lo + f → searched d (part T c d) n 0 d ≡ searched f (part T c d) n lo hi → P
        go zero k r = absurd (omega arith)
        go (suc f) k r = step f k r

    pub search_here : x ≡ n → true ≡ searched d (map (list_entry T) (range c d)) n 0 d
    search_here e = more (λ f k r. sym (r ∙ searched_here (part T c d) n lo hi f h (entry ∙ e)))

    pub search_after : x < n → Search T c d n ((lo + hi) / 2 + 1) hi
    search_after l = more (λ f k r. record {
      fuel = f;
      within = inv.within;
      enough = omega arith;
      rest = r ∙ searched_after (part T c d) n lo hi f h (omega (arith, entry)) ∙ rw add-one;
    })

    pub search_before : (x ≡ n → ⊥) → n ≤ x → Search T c d n lo ((lo + hi) / 2)
    search_before other l = more (λ f k r. record {
      fuel = f;
      within = omega (arith, inv.within);
      enough = omega arith;
      rest = r ∙ searched_before (part T c d) n lo hi f h (omega (arith, entry, other));
    })

-- ---- what an enum row allows

module _ (T : List ℕ) (t g : ℕ) (row : TypeRow) (i : IsTypeRow T t row) (eg : g ≡ greatest_of row) (b : Bool) (eb : b ≡ with_lists T) where
  great : g ≡ greatest T t
  unfolding greatest
  great = eg ∙ ap₂ (λ (a b : ℕ). a + 65536 * b) i.a_is i.b_is

  pub allows_plain : (n : ℕ) → b ≡ false → leb n g ≡ allows (allowed T t) n
  unfolding allows allowed
  allows_plain n q = rw (← eb, q) (ap (leb n) great)

  pub most_plain : b ≡ false → g ≡ most (allowed T t)
  unfolding most allowed
  most_plain q = rw (← eb, q) great

  module _ (q : b ≡ true) where
    pub allows_all : (n : ℕ) → row.d ≡ g + 1 → leb n g ≡ allows (allowed T t) n
    unfolding allows allowed allowed_of
    allows_all n h =
        let z : length (entries_of T t) ≡ suc (greatest T t) = omega (arith, length_entries T t, i.d_is, great) in
        rw (← eb, q, eq-eqb _ _ z) (ap (leb n) great)

    pub allows_listed : (n : ℕ) → (row.d ≡ g + 1 → ⊥) → (r : Bool) → r ≡ searched row.d (map (list_entry T) (range row.c row.d)) n 0 row.d → r ≡ allows (allowed T t) n
    unfolding allows allowed allowed_of entries_of
    allows_listed n h r e =
        let z : length (entries_of T t) ≡ suc (greatest T t) → ⊥ = λ y. h (omega (arith, length_entries T t, i.d_is, great)) in
        rw (← eb, q, ne_eqb _ _ z, length_entries T t) (e ∙ ap₂ (λ (c d : ℕ). searched d (map (list_entry T) (range c d)) n 0 d) i.c_is i.d_is)

    pub most_all : row.d ≡ g + 1 → g ≡ most (allowed T t)
    unfolding most allowed allowed_of
    most_all h =
        let z : length (entries_of T t) ≡ suc (greatest T t) = omega (arith, length_entries T t, i.d_is, great) in
        rw (← eb, q, eq-eqb _ _ z) great

    pub most_listed : (row.d ≡ g + 1 → ⊥) → (r : ℕ) → r ≡ get_or (map (list_entry T) (range row.c row.d)) (row.d - 1) 0 → r ≡ most (allowed T t)
    unfolding most allowed allowed_of entries_of
    most_listed h r e =
        let z : length (entries_of T t) ≡ suc (greatest T t) → ⊥ = λ y. h (omega (arith, length_entries T t, i.d_is, great)) in
        rw (← eb, q, ne_eqb _ _ z, length_entries T t) (e ∙ ap₂ (λ (c d : ℕ). get_or (map (list_entry T) (range c d)) (d - 1) 0) i.c_is i.d_is)

-- ---- the last entry of a list

pub last_none : (T : List ℕ) (c d : ℕ) → d ≡ 0 → 0 ≡ get_or (map (list_entry T) (range c d)) (d - 1) 0
unfolding range
last_none T c d z = rw z

pub last_is : (T : List ℕ) (c d : ℕ) → (d ≡ 0 → ⊥) → (r : ℕ) → r ≡ list_entry T (c + (d - 1)) → r ≡ get_or (map (list_entry T) (range c d)) (d - 1) 0
last_is T c d n r e = e ∙ sym (mapped_at (list_entry T) c d (d - 1) (omega (arith, n)))
