-- The differences of all pairs, listed. Assumes nothing.
--
--   list_kind                a parameter list; first_few, follow_few the next one
--   rest_are                 the rest of an array
--   item_..                  an item's pair; slot_.., slots_.. the loop over the items in order
--   lists_..                 the loop over parameter lists; list_.. from the first ones on
--   all_..                   records, then parameter lists
use Prim.Native.Nat.{ℕ, zero, suc, ◌+◌, ◌-◌, ◌≤◌, ◌<◌}
use mathlib.Core.Path.{◌≡◌, refl, sym, ap, ap₂, ◌∙◌, subst}
use mathlib.Core.Logic.{inl, inr}
use mathlib.Core.List.{List, [], ◌∷◌, ◌++◌, map}
use native.Mathlib.Numerals.{add-one}
use native.Mathlib.Omega.{arith}
use lib.ListN.{length, take, drop, get_or, length-append, length-drop, drop_of_length-le}
use lib.Seq.{drop-cons, take-length}
use lib.Dec.{eqb}
use borrow.Author.Tests.{lt-ltb, le-ltb}
use Rattle.encoding.specs.Table.{types, kind, fine, faults}
use Rattle.encoding.proofs.RuleLaws.{types_most}
use Rattle.differences.specs.Compare.{rows_of, lists, partner, Pair, Difference, paired, list_pairs, pair_differences, all_differences, differences}
use Rattle.differences.specs.CompareDemands.{In}
use Rattle.ordering.specs.Ordering.{item_pair, items}
use Rattle.listing.specs.Listing.{Listed, Listing, is_list, next_of, follow_of, left_of, FewMembers}
use Rattle.listing.specs.ListingLaws.{listed_more, listed_as, listing_begin, listing_end, listing_next, left_all, left_falls, paired_none, paired_next}
use Rattle.compare.specs.PairLaws.{next_few, item_few_old, item_few_new, items_in, differences_sum, differences_few}

-- ---- a parameter list looked for

pub list_kind : (T : List ℕ) (t k : ℕ) → k ≡ kind T t → eqb k 15 ≡ is_list T t
unfolding is_list
list_kind T t k e = ap (λ (x : ℕ). eqb x 15) e

module _ (T : List ℕ) (f : faults T ≡ fine) (end : ℕ) (e : end ≡ types T) where
  pub first_few : (r : ℕ) → r ≡ next_of (is_list T) 0 end → FewMembers T r
  first_few r q = next_few T f 0 end r e q

  pub follow_few : (a r : ℕ) → r ≡ follow_of (is_list T) a end → FewMembers T r
  unfolding follow_of
  follow_few zero r q = rw q (λ l. absurd (omega arith))
  follow_few (suc a) r q = next_few T f (suc a) end r e q

pub few_none : (T : List ℕ) → FewMembers T 0
few_none T l = absurd (omega arith)

-- ---- an item

module _ (S T : List ℕ) (k c : ℕ) (ec : c ≡ types S) where
  module _ (h : k < c) (p : ℕ) (ep : p ≡ partner S T k) where
    item_first : suc k ≡ (item_pair S T k).0
    unfolding item_pair
    item_first = rw (lt-ltb k (types S) (omega arith))

    item_second : p ≡ (item_pair S T k).1
    unfolding item_pair
    item_second = ep ∙ sym (rw (lt-ltb k (types S) (omega arith)))

    item_are : pair_differences S T (suc k) p ≡ pair_differences S T (item_pair S T k).0 (item_pair S T k).1
    item_are = ap₂ (pair_differences S T) item_first item_second

    pub item_old : FewMembers S (item_pair S T k).0 → FewMembers S (suc k)
    item_old F = let z : suc k ≡ (item_pair S T k).0 = omega (arith, item_first) in rw z F

    pub item_new : FewMembers T (item_pair S T k).1 → FewMembers T p
    item_new F = rw item_second F

    pub item_room : (n : ℕ) → n + length (pair_differences S T (item_pair S T k).0 (item_pair S T k).1) < 4294967296 → n + length (pair_differences S T (suc k) p) < 4294967296
    item_room n l = omega (arith, ap length item_are)

    pub item_listed : (n : ℕ) (out last : List ℕ) (r : ℕ) → Listed (pair_differences S T (suc k) p) n out last r → Listed (pair_differences S T (item_pair S T k).0 (item_pair S T k).1) n out last r
    item_listed n out last r A = listed_as n out _ _ item_are last r A

  module _ (h : c ≤ k) where
    alone_first : 0 ≡ (item_pair S T k).0
    unfolding item_pair
    alone_first = rw (le-ltb k (types S) (omega arith))

    alone_second : suc (k - c) ≡ (item_pair S T k).1
    unfolding item_pair
    alone_second = rw (le-ltb k (types S) (omega arith), ec)

    alone_are : pair_differences S T 0 (suc (k - c)) ≡ pair_differences S T (item_pair S T k).0 (item_pair S T k).1
    alone_are = ap₂ (pair_differences S T) alone_first alone_second

    pub alone_few : FewMembers T (item_pair S T k).1 → FewMembers T (suc (k - c))
    alone_few F = let z : suc (k - c) ≡ (item_pair S T k).1 = omega (arith, alone_second) in rw z F

    pub alone_room : (n : ℕ) → n + length (pair_differences S T (item_pair S T k).0 (item_pair S T k).1) < 4294967296 → n + length (pair_differences S T 0 (suc (k - c))) < 4294967296
    alone_room n l = omega (arith, ap length alone_are)

    pub alone_listed : (n : ℕ) (out last : List ℕ) (r : ℕ) → Listed (pair_differences S T 0 (suc (k - c))) n out last r → Listed (pair_differences S T (item_pair S T k).0 (item_pair S T k).1) n out last r
    alone_listed n out last r A = listed_as n out _ _ alone_are last r A

-- ---- the items in order

-- the rest of an array from place s on
pub rest_are : (slots ks : List ℕ) (s : ℕ) → length slots ≡ 512 → drop s slots ≡ ks → take (512 - s) (drop s slots) ≡ ks
rest_are slots ks s e h = let y : 512 - s ≡ length (drop s slots) = omega (arith, length-drop s slots) in rw (y, take-length (drop s slots)) h

in_at : (j : ℕ) (l : List ℕ) → j < length l → In (get_or l j 0) l
in_at j [] h = absurd (omega arith)
in_at zero (x ∷ l) h = inl refl
in_at (suc j) (x ∷ l) h = inr (in_at j l (omega arith))

module _ (S T : List ℕ) where
  abbrev pub by_items : List ℕ → List Difference
  by_items ks = all_differences S T (map (item_pair S T) ks)

  module _ (fs : faults S ≡ fine) (ft : faults T ≡ fine) (ks : List ℕ) (h : ks ≡ items S T) (j : ℕ) (g : j < length ks) where
    slot_in : In (get_or ks j 0) (items S T)
    slot_in = subst (λ (x : List ℕ). In (get_or ks j 0) x) h (in_at j ks g)

    pub slot_old : FewMembers S (item_pair S T (get_or ks j 0)).0
    slot_old = item_few_old S T fs ft (get_or ks j 0) (items_in S T fs ft (get_or ks j 0) slot_in).0

    pub slot_inside : get_or ks j 0 < types S + types T
    slot_inside = (items_in S T fs ft (get_or ks j 0) slot_in).1

    pub slot_new : FewMembers T (item_pair S T (get_or ks j 0)).1
    slot_new = item_few_new S T fs ft (get_or ks j 0) (items_in S T fs ft (get_or ks j 0) slot_in).0 slot_inside

    pub slot_small : get_or ks j 0 < 131072
    slot_small = omega (arith, slot_inside, types_most S fs, types_most T ft)

  module _ (n : ℕ) (out ks : List ℕ) where
    pub slots_begin : Listing (by_items ks) n out (by_items (drop 0 ks)) n out
    slots_begin = listing_begin (by_items ks) n out _ refl

    module _ (j i : ℕ) (l : List ℕ) (R : Listing (by_items ks) n out (by_items (drop j ks)) i l) where
      slots_more : j < length ks → by_items (drop j ks) ≡ pair_differences S T (item_pair S T (get_or ks j 0)).0 (item_pair S T (get_or ks j 0)).1 ++ by_items (drop (j + 1) ks)
      unfolding all_differences
      slots_more g = ap by_items (drop-cons ks j 0 g) ∙ rw add-one

      pub slots_room : j < length ks → n + length (by_items ks) < 4294967296 → i + length (pair_differences S T (item_pair S T (get_or ks j 0)).0 (item_pair S T (get_or ks j 0)).1) < 4294967296
      slots_room g b =
          omega (arith, R.count, ap length (slots_more g), length-append (pair_differences S T (item_pair S T (get_or ks j 0)).0 (item_pair S T (get_or ks j 0)).1) (by_items (drop (j + 1) ks)))

      pub slots_step : j < length ks → (last : List ℕ) (r : ℕ) → Listed (pair_differences S T (item_pair S T (get_or ks j 0)).0 (item_pair S T (get_or ks j 0)).1) i l last r
          → Listing (by_items ks) n out (by_items (drop (j + 1) ks)) r last
      slots_step g last r A =
          listing_next (by_items ks) n out (by_items (drop j ks)) i l R
          (pair_differences S T (item_pair S T (get_or ks j 0)).0 (item_pair S T (get_or ks j 0)).1) (by_items (drop (j + 1) ks)) (slots_more g) r last A

      pub slots_end : length ks ≤ j → Listed (by_items ks) n out l i
      unfolding all_differences
      slots_end g = listing_end (by_items ks) n out (by_items (drop j ks)) i l R (ap by_items (drop_of_length-le ks {i = j} g))

-- ---- parameter lists

module _ (S T : List ℕ) where
  abbrev pub lists_from : ℕ → ℕ → List Difference
  lists_from a b = all_differences S T (paired (left_of (is_list S) a (types S)) (left_of (is_list T) b (types T)))

  module _ (end stop : ℕ) (es : end ≡ types S) (et : stop ≡ types T) (a b : ℕ) (h : 0 < a + b) (x y : ℕ) (ex : x ≡ follow_of (is_list S) a end) (ey : y ≡ follow_of (is_list T) b stop) where
    follow_x : x ≡ follow_of (is_list S) a (types S)
    follow_x = ex ∙ ap (follow_of (is_list S) a) es

    follow_y : y ≡ follow_of (is_list T) b (types T)
    follow_y = ey ∙ ap (follow_of (is_list T) b) et

    pub lists_falls : length (left_of (is_list S) x (types S)) + length (left_of (is_list T) y (types T)) < length (left_of (is_list S) a (types S)) + length (left_of (is_list T) b (types T))
    lists_falls = rw (follow_x, follow_y) (left_falls (is_list S) (is_list T) (types S) (types T) a b h)

    pub lists_step : (m k n i : ℕ) (out l : List ℕ) → Listing (lists_from m k) n out (lists_from a b) i l → (last : List ℕ) (r : ℕ) → Listed (pair_differences S T a b) i l last r
        → Listing (lists_from m k) n out (lists_from x y) r last
    unfolding all_differences
    lists_step m k n i out l R last r A =
        listing_next (lists_from m k) n out (lists_from a b) i l R (pair_differences S T a b) (lists_from x y)
        (ap (all_differences S T) (paired_next (is_list S) (is_list T) (types S) (types T) a b h) ∙ rw (← follow_x, ← follow_y)) r last A

  module _ (m k n : ℕ) (out : List ℕ) where
    pub lists_begin : Listing (lists_from m k) n out (lists_from m k) n out
    lists_begin = listing_begin (lists_from m k) n out _ refl

    module _ (a b i : ℕ) (l : List ℕ) (R : Listing (lists_from m k) n out (lists_from a b) i l) where
      pub lists_room : 0 < a + b → n + length (lists_from m k) < 4294967296 → i + length (pair_differences S T a b) < 4294967296
      unfolding all_differences
      lists_room h q =
          omega (
            arith,
            R.count,
            ap (λ (ps : List Pair). length (all_differences S T ps)) (paired_next (is_list S) (is_list T) (types S) (types T) a b h),
            length-append (pair_differences S T a b) (lists_from (follow_of (is_list S) a (types S)) (follow_of (is_list T) b (types T))),
          )

      pub lists_end : a + b ≤ 0 → Listed (lists_from m k) n out l i
      unfolding all_differences
      lists_end h = listing_end (lists_from m k) n out (lists_from a b) i l R (ap (all_differences S T) (paired_none (is_list S) (is_list T) (types S) (types T) a b h))

  module _ (m k end stop : ℕ) (es : end ≡ types S) (et : stop ≡ types T) (em : m ≡ next_of (is_list S) 0 end) (ek : k ≡ next_of (is_list T) 0 stop) where
    list_are : all_differences S T (list_pairs S T) ≡ lists_from m k
    unfolding list_pairs lists rows_of is_list
    list_are =
        let zs : types S - 0 ≡ types S = omega arith in
        let zt : types T - 0 ≡ types T = omega arith in
        sym (ap₂ (λ (p q : List ℕ). all_differences S T (paired p q))
        (left_all (is_list S) (types S) 0 m (em ∙ ap (next_of (is_list S) 0) es) ∙ rw zs) (left_all (is_list T) (types T) 0 k (ek ∙ ap (next_of (is_list T) 0) et) ∙ rw zt))

    pub list_room : (n : ℕ) → n + length (all_differences S T (list_pairs S T)) < 4294967296 → n + length (lists_from m k) < 4294967296
    list_room n h = omega (arith, ap length list_are)

    pub list_listed : (n : ℕ) (out last : List ℕ) (r : ℕ) → Listed (lists_from m k) n out last r → Listed (all_differences S T (list_pairs S T)) n out last r
    list_listed n out last r A = listed_as n out _ _ (sym list_are) last r A

-- ---- all

module _ (S T : List ℕ) (fs : faults S ≡ fine) (ft : faults T ≡ fine) (d : List ℕ) (ed : d ≡ items S T) where
  all_are : differences S T ≡ by_items S T d ++ all_differences S T (list_pairs S T)
  all_are = differences_sum S T fs ft ∙ rw ed

  all_sum : length (differences S T) ≡ length (by_items S T d) + length (all_differences S T (list_pairs S T))
  all_sum = ap length all_are ∙ length-append (by_items S T d) (all_differences S T (list_pairs S T))

  pub all_first : 0 + length (all_differences S T (map (item_pair S T) d)) < 4294967296
  all_first = omega (arith, all_sum, differences_few S T fs ft)

  module _ (out l : List ℕ) (i : ℕ) (A : Listed (all_differences S T (map (item_pair S T) d)) 0 out l i) where
    pub all_second : i + length (all_differences S T (list_pairs S T)) < 4294967296
    all_second = omega (arith, all_sum, differences_few S T fs ft, A.count)

    module _ (last : List ℕ) (r : ℕ) (B : Listed (all_differences S T (list_pairs S T)) i l last r) where
      pub all_listed : Listed (differences S T) 0 out last r
      all_listed = listed_as 0 out _ _ (sym all_are) last r (listed_more 0 out (by_items S T d) (all_differences S T (list_pairs S T)) l last i r A B)

      pub all_small : r < 4294967296
      all_small = omega (arith, all_sum, differences_few S T fs ft, A.count, B.count)
