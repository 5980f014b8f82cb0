-- The match of two tables, function by function. Assumes nothing.
--
--   optional_..                   a member row; Every, every_.. the loop over them; optionals_..
--   required_..                   required members, counted
--   owners_.., same_.., bases_..  two owners; one kind and name; two bases
--   by_.., matched_..             a record and its partner; All, all_.. the loop over the records
--   tops_.., extending_..
use Prim.Native.Nat.{ℕ, zero, suc, ◌+◌, ◌-◌, ◌≤◌, ◌<◌}
use mathlib.Core.Path.{◌≡◌, refl, sym, ap, ap₂, ◌∙◌}
use mathlib.Core.Bool.{Bool, true, false, ◌&&◌, ◌||◌, not, true≢false}
use mathlib.Core.List.{List, [], ◌∷◌}
use native.Mathlib.Omega.{arith}
use lib.ListN.{length}
use lib.Dec.{eqb}
use borrow.Author.Tests.{eq-eqb, ne_eqb, not-true, not-false}
use Rattle.encoding.specs.Result.{pick, same_bytes}
use Rattle.encoding.specs.Table.{types, kind, is_record, field, fine, faults, mark, range, lookup, own_rows, required_members, optional_members, name_of, base}
use Rattle.encoding.proofs.RuleLaws.{types_most}
use Rattle.table.specs.declared.MemberRow.{MemberRow}
use Rattle.table.specs.Rows.{IsMemberRow}
use Rattle.table.proofs.Ranges.{range_more, range_none, range_left, range_empty}
use Rattle.differences.specs.Compare.{those, rows_of, records, same_record, partner, member_row, required_differences, required_match, optionals_match, owners_match, bases_match, matched_by, all_matched, tops_match, extending}
use Rattle.std.proofs.Common.{Option, None, Some}
use Rattle.ordering.specs.Ordering.{row_number}
use Rattle.listing.specs.Listing.{Listed, FewMembers, agree_rows}
use Rattle.listing.specs.ListingLaws.{required_match_lem, required_most}
use Rattle.matching.specs.Matching.{optional_matches, every_row, row_matched}
use Rattle.matching.specs.MatchingLaws.{optionals_are, few_owner, few_record, few_partner}

module _ (S T : List ℕ) where
  -- ---- optional members

  module _ (u m : ℕ) (r : MemberRow) (i : IsMemberRow S m r) where
    pub optional_none : r.mark ≡ 0 → true ≡ optional_matches S T u m
    unfolding optional_matches
    optional_none q = rw (eq-eqb (mark S m) 0 (sym i.mark_is ∙ q))

    pub optional_is : (r.mark ≡ 0 → ⊥) → (k : ℕ) → k ≡ member_row (lookup r.tag (optional_members T u)) → (b : Bool) → b ≡ agree_rows S T (suc m) k → b ≡ optional_matches S T u m
    unfolding optional_matches
    optional_is q k ek b e = e ∙ rw (ek, i.tag_is) (sym (rw (ne_eqb (mark S m) 0 (λ z. q (i.mark_is ∙ z)))))

  module _ (u m n : ℕ) where
    abbrev pub Every : ℕ → Type 0
    Every i = (i ≤ n) × (every_row (optional_matches S T u) (range m n) ≡ every_row (optional_matches S T u) (range (m + i) (n - i)))

    pub every_begin : Every 0
    every_begin = let x : m + 0 ≡ m = omega arith in let y : n - 0 ≡ n = omega arith in (omega arith, rw (x, y))

    module _ (i : ℕ) (inv : Every i) where
      pub every_end : n ≤ i → true ≡ every_row (optional_matches S T u) (range m n)
      unfolding every_row
      every_end h = sym (inv.1 ∙ rw (range_empty (m + i) (n - i) (omega arith)))

      module _ (h : i < n) (b : Bool) (e : b ≡ optional_matches S T u (m + i)) where
        every_more : every_row (optional_matches S T u) (range m n) ≡ b && every_row (optional_matches S T u) (range (m + i + 1) (n - i - 1))
        unfolding every_row
        every_more = inv.1 ∙ rw (range_left (m + i) (n - i) (omega arith), ← e)

        pub every_not : not b ≡ true → false ≡ every_row (optional_matches S T u) (range m n)
        every_not q = sym (every_more ∙ rw (not-true b q))

        pub every_next : not b ≡ false → Every (i + 1)
        every_next q =
            let x : m + i + 1 ≡ m + (i + 1) = omega arith in let y : n - i - 1 ≡ n - (i + 1) = omega arith in
            (omega arith, every_more ∙ rw (not-false b q, x, y))

  module _ (t u : ℕ) where
    pub optionals_every : (m n : ℕ) → m ≡ field S t 0 → n ≡ field S t 1 → (b : Bool) → b ≡ every_row (optional_matches S T u) (range m n)
        → b ≡ optionals_match (optional_members S t) (optional_members T u)
    unfolding own_rows
    optionals_every m n em en b e = e ∙ rw (em, en) (sym (optionals_are S T t u))

    -- ---- required members

    pub required_room : field S t 1 ≤ 1024 → field T u 1 ≤ 1024 → 0 + length (required_differences S T t u) < 4294967296
    required_room a b = omega (arith, required_most S T t u)

    pub required_none : (out last : List ℕ) (r : ℕ) → Listed (required_differences S T t u) 0 out last r → eqb r 0 ≡ required_match (required_members S t) (required_members T u)
    required_none out last r A = let z : r ≡ length (required_differences S T t u) = omega (arith, A.count) in ap (λ (x : ℕ). eqb x 0) z ∙ sym (required_match_lem S T t u)

    -- ---- two owners

    module _ (a : Bool) (e : a ≡ required_match (required_members S t) (required_members T u)) where
      pub owners_both : a ≡ true → (b : Bool) → b ≡ optionals_match (optional_members S t) (optional_members T u) → b ≡ owners_match S T t u
      unfolding owners_match
      owners_both q b f = f ∙ sym (rw (← e, q))

      pub owners_not : a ≡ false → false ≡ owners_match S T t u
      unfolding owners_match
      owners_not q = rw (← e, q)

    -- ---- one kind and name

    module _ (k j : ℕ) (ek : k ≡ kind S t) (ej : j ≡ kind T u) where
      pub same_kinds : k ≡ j → (b : Bool) → b ≡ same_bytes (name_of S t) (name_of T u) → b ≡ same_record S T t u
      unfolding same_record
      same_kinds q b f = f ∙ sym (rw (← ek, ← ej, eq-eqb k j q))

      pub same_not : (k ≡ j → ⊥) → false ≡ same_record S T t u
      unfolding same_record
      same_not q = rw (← ek, ← ej, ne_eqb k j q)

  -- ---- two bases

  module _ (b c : ℕ) where
    pub bases_none : b ≡ 0 → eqb c 0 ≡ bases_match S T b c
    unfolding bases_match
    bases_none e = rw e (go c)
      where
        go : (x : ℕ) → eqb x 0 ≡ bases_match S T 0 x
        go zero = refl
        go (suc x) = ne_eqb (suc x) 0 (λ z. omega arith)

    module _ (h : b ≡ 0 → ⊥) where
      pub bases_one : c ≡ 0 → false ≡ bases_match S T b c
      unfolding bases_match
      bases_one e = let z : b ≡ suc (b - 1) = omega arith in rw (z, e)

      pub bases_both : (c ≡ 0 → ⊥) → (r : Bool) → r ≡ same_record S T (b - 1) (c - 1) → r ≡ bases_match S T b c
      unfolding bases_match
      bases_both l r e = let z : b ≡ suc (b - 1) = omega arith in let y : c ≡ suc (c - 1) = omega arith in e ∙ sym (ap₂ (bases_match S T) z y)

  -- ---- a record and its partner

  module _ (t : ℕ) (p : Option ℕ) where
    pub by_none : p ≡ None → false ≡ matched_by S T t (row_number p)
    unfolding matched_by
    by_none e = rw e

    module _ (u : ℕ) (h : p ≡ Some u) where
      module _ (b c : ℕ) (eb : b ≡ base S t) (ec : c ≡ base T u) (a : Bool) (e : a ≡ owners_match S T t u) where
        by_step : matched_by S T t (row_number p) ≡ a && bases_match S T b c
        unfolding matched_by
        by_step = rw (h, ← e, ← eb, ← ec)

        pub by_bases : a ≡ true → (r : Bool) → r ≡ bases_match S T b c → r ≡ matched_by S T t (row_number p)
        by_bases q r f = f ∙ sym (by_step ∙ rw q)

        pub by_not : a ≡ false → false ≡ matched_by S T t (row_number p)
        by_not q = sym (by_step ∙ rw q)

      pub by_few : FewMembers T (row_number p) → field T u 1 ≤ 1024
      by_few F = go (rw h at F)
        where
          go : FewMembers T (suc u) → field T u 1 ≤ 1024
          go G = let z : suc u - 1 ≡ u = omega arith in rw z at (G (omega arith))

  module _ (t k : ℕ) (ek : k ≡ kind S t) (b : Bool) (e : b ≡ is_record k) where
    pub matched_none : b ≡ false → true ≡ row_matched S T t
    unfolding row_matched
    matched_none q = rw (← ek, ← e, q)

    module _ (q : b ≡ true) where
      is_record_lem : is_record (kind S t) ≡ true
      is_record_lem = rw (← ek) (sym e ∙ q)

      pub matched_few : faults S ≡ fine → t < types S → field S t 1 ≤ 1024
      matched_few f l = few_record S f t l is_record_lem

      pub matched_partner : faults T ≡ fine → (p : ℕ) → p ≡ partner S T t → FewMembers T p
      matched_partner f p ep = few_partner T f S t p is_record_lem ep

      pub matched_is : (p : ℕ) → p ≡ partner S T t → (r : Bool) → r ≡ matched_by S T t p → r ≡ row_matched S T t
      unfolding row_matched
      matched_is p ep r f = f ∙ ap (matched_by S T t) ep ∙ sym (rw is_record_lem)

  -- ---- the loop over the records

  matched_rows : (l : List ℕ) → all_matched S T (those (λ t. is_record (kind S t)) l) ≡ every_row (row_matched S T) l
  unfolding all_matched those every_row row_matched
  matched_rows [] = refl
  matched_rows (t ∷ l) = rw (← matched_rows l) (go (is_record (kind S t)))
    where
      go : (b : Bool) → all_matched S T (pick b (t ∷ those (λ x. is_record (kind S x)) l) (those (λ x. is_record (kind S x)) l))
          ≡ pick b (matched_by S T t (partner S T t)) true && all_matched S T (those (λ x. is_record (kind S x)) l)
      go true = refl
      go false = refl

  module _ (n : ℕ) where
    abbrev pub AllTo : ℕ → Type 0
    AllTo t = (t ≤ n) × (n ≡ types S) × (all_matched S T (records S) ≡ every_row (row_matched S T) (range t (n - t)))

    pub all_begin : n ≡ types S → AllTo 0
    unfolding records rows_of
    all_begin e = let z : n - 0 ≡ types S = omega arith in (omega arith, e, matched_rows (range 0 (types S)) ∙ rw z)

    module _ (t : ℕ) (inv : AllTo t) where
      pub all_end : n ≤ t → true ≡ all_matched S T (records S)
      unfolding every_row
      all_end h = sym (inv.2 ∙ rw (range_none t n h))

      pub all_inside : t < n → t < types S
      all_inside h = omega (arith, inv.1)

      module _ (h : t < n) (b : Bool) (e : b ≡ row_matched S T t) where
        all_more : all_matched S T (records S) ≡ b && every_row (row_matched S T) (range (t + 1) (n - (t + 1)))
        unfolding every_row
        all_more = inv.2 ∙ rw (range_more t n h, ← e)

        pub all_not : not b ≡ true → false ≡ all_matched S T (records S)
        all_not q = sym (all_more ∙ rw (not-true b q))

        pub all_next : not b ≡ false → AllTo (t + 1)
        all_next q = (omega arith, inv.1, all_more ∙ rw (not-false b q))

  -- ---- the tops

  module _ (t u k : ℕ) (ek : k ≡ kind S t) (a : Bool) (ea : a ≡ is_record k) where
    tops_step : tops_match S T t u ≡ ((a && same_record S T t u) || (eqb k 15 && (eqb (kind T u) 15 && owners_match S T t u)))
    unfolding tops_match
    tops_step = rw (ea, ek)

    no_list : a ≡ true → k ≡ 15 → ⊥
    no_list q e = true≢false (sym q ∙ ea ∙ ap is_record e)

    pub tops_records : a ≡ true → (r : Bool) → r ≡ same_record S T t u → r ≡ tops_match S T t u
    tops_records q r e = e ∙ sym (tops_step ∙ rw (q, ne_eqb k 15 (no_list q)) (either (same_record S T t u)))
      where
        either : (x : Bool) → (x || false) ≡ x
        either true = refl
        either false = refl

    module _ (q : a ≡ false) where
      pub tops_none : (k ≡ 15 → ⊥) → false ≡ tops_match S T t u
      tops_none h = sym (tops_step ∙ rw (q, ne_eqb k 15 h))

      module _ (h : k ≡ 15) (j : ℕ) (ej : j ≡ kind T u) where
        pub tops_one : (j ≡ 15 → ⊥) → false ≡ tops_match S T t u
        tops_one l = sym (tops_step ∙ rw (q, eq-eqb k 15 h, ← ej, ne_eqb j 15 l))

        module _ (l : j ≡ 15) where
          pub tops_lists : (r : Bool) → r ≡ owners_match S T t u → r ≡ tops_match S T t u
          tops_lists r e = e ∙ sym (tops_step ∙ rw (q, eq-eqb k 15 h, ← ej, eq-eqb j 15 l))

          pub tops_few : faults S ≡ fine → t < types S → field S t 1 ≤ 1024
          tops_few f i = few_owner S f t i (rw (← ek, h) refl)

          pub tops_few_new : faults T ≡ fine → u < types T → field T u 1 ≤ 1024
          tops_few_new f i = few_owner T f u i (rw (← ej, l) refl)

  module _ (t u : ℕ) (a : Bool) (e : a ≡ all_matched S T (records S)) where
    pub extending_both : a ≡ true → (r : Bool) → r ≡ tops_match S T t u → r ≡ extending S T t u
    unfolding extending
    extending_both q r f = f ∙ sym (rw (← e, q))

    pub extending_not : a ≡ false → false ≡ extending S T t u
    unfolding extending
    extending_not q = rw (← e, q)

-- a row that lies inside a table that breaks no rule
pub row_small : (T : List ℕ) (t : ℕ) → faults T ≡ fine → t < types T → t < 65536
row_small T t f l = omega (arith, types_most T f)

pub partner_small : (T : List ℕ) (p : ℕ) → faults T ≡ fine → p ≤ types T → p ≤ 65536
partner_small T p f l = omega (arith, types_most T f)
