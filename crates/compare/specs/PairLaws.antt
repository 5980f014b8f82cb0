-- Laws of all differences of two tables. Assumes nothing.
--
--   next_few           a parameter list that is looked for has at most 1,024 members
--   item_few_..        the rows of an item have at most 1,024 members
--   pair_most          a pair has at most 4,097 differences
--   differences_sum, differences_few    the differences are those of records, then lists; two tables that break no rule have less than 2^32 of them
use Prim.Native.Nat.{ℕ, zero, suc, ◌+◌, ◌-◌, ◌*◌, ◌≤◌, ◌<◌}
use Rattle.std.specs.Prelude.{◌≡◌, Bool, ◌&&◌}
use Rattle.std.proofs.Math.Path.{refl, sym, ap}
use Rattle.std.proofs.Common.{◌∙◌, inl, inr}
use Rattle.std.proofs.Math.Bool.{true, false}
use mathlib.Core.List.{List, [], ◌∷◌, ◌++◌, append_assoc, map}
use native.Mathlib.Omega.{arith}
use Rattle.std.proofs.Math.ListN.{length, length-append}
use Rattle.std.proofs.Math.Dec.{eqb, ltb}
use borrow.Author.Tests.{ltb-true, ltb-false, eqb-true}
use Rattle.encoding.specs.Result.{pick}
use Rattle.encoding.specs.Table.{types, kind, is_record, owns, field, fine, faults, range}
use Rattle.encoding.proofs.RuleLaws.{types_most, length_range}
use Rattle.differences.specs.Compare.{insert, ordered, those, rows_of, lists, partner, Pair, Difference, given, bases_differ, paired, record_pairs, list_pairs, base_difference, required_differences, optional_differences, owner_differences, pair_differences, all_differences, differences}
use Rattle.differences.specs.CompareDemands.{In}
use Rattle.encoding.proofs.ResultLaws.{both_true}
use Rattle.differences.specs.FindLaws.{ordered_ok, those_ok}
use Rattle.ordering.specs.Ordering.{is_item, item_pair, before, items}
use Rattle.ordering.specs.OrderingLaws.{pairs_items}
use Rattle.listing.specs.Listing.{is_list, head_row, next_of, FewMembers}
use Rattle.listing.specs.ListingLaws.{required_most, optional_most}
use Rattle.matching.specs.MatchingLaws.{few_owner, few_record, few_partner}

-- ---- rows that pass a test

those_head : (f : ℕ → Bool) (n m x : ℕ) → head_row (those f (range m n)) ≡ suc x → (f x ≡ true) × (x < m + n) × (0 < n)
unfolding head_row those range
those_head f zero m x h = absurd (omega arith)
those_head f (suc n) m x h = go (f m) refl h (λ q. those_head f n (suc m) x q)
  where
    go : (b : Bool) → f m ≡ b → head_row (pick b (m ∷ those f (range (suc m) n)) (those f (range (suc m) n))) ≡ suc x
        → (head_row (those f (range (suc m) n)) ≡ suc x → (f x ≡ true) × (x < suc m + n) × (0 < n)) → (f x ≡ true) × (x < m + suc n) × (0 < suc n)
    go true e q ih = let z : m ≡ x = omega arith in (rw z at e, omega arith, omega arith)
    go false e q ih = let r = ih q in (r.0, omega (arith, r.1), omega arith)

pub next_few : (T : List ℕ) → faults T ≡ fine → (m end r : ℕ) → end ≡ types T → r ≡ next_of (is_list T) m end → FewMembers T r
unfolding next_of is_list
next_few T f m end r ee e l =
    let z : r ≡ suc (r - 1) = omega arith in
    let p = those_head (is_list T) (end - m) m (r - 1) (sym e ∙ z) in
    few_owner T f (r - 1) (omega (arith, p.1, p.2)) (ap owns (eqb-true (kind T (r - 1)) 15 p.0))

-- ---- items

module _ (S T : List ℕ) (fs : faults S ≡ fine) (ft : faults T ≡ fine) where
  module _ (k : ℕ) (i : is_item S T k ≡ true) where
    pub item_few_old : FewMembers S (item_pair S T k).0
    unfolding is_item item_pair
    item_few_old = go (ltb k (types S)) refl i
      where
        go : (b : Bool) → ltb k (types S) ≡ b → pick b (is_record (kind S k)) (is_record (kind T (k - types S)) && eqb (partner T S (k - types S)) 0) ≡ true
            → FewMembers S (pick {X = Pair} b (suc k, partner S T k) (0, suc (k - types S))).0
        go true e h l = let z : suc k - 1 ≡ k = omega arith in rw z (few_record S fs k (ltb-true k (types S) e) h)
        go false e h l = absurd (omega arith)

    pub item_few_new : k < types S + types T → FewMembers T (item_pair S T k).1
    unfolding is_item item_pair
    item_few_new w = go (ltb k (types S)) refl i
      where
        go : (b : Bool) → ltb k (types S) ≡ b → pick b (is_record (kind S k)) (is_record (kind T (k - types S)) && eqb (partner T S (k - types S)) 0) ≡ true
            → FewMembers T (pick {X = Pair} b (suc k, partner S T k) (0, suc (k - types S))).1
        go true e h = few_partner T ft S k (partner S T k) h refl
        go false e h =
            λ l. let z : suc (k - types S) - 1 ≡ k - types S = omega arith in
            rw z (few_record T ft (k - types S) (omega (arith, ltb-false k (types S) e)) (both_true (is_record (kind T (k - types S))) _ h).0)

  pub items_in : (k : ℕ) → In k (items S T) → (is_item S T k ≡ true) × (k < types S + types T)
  unfolding items
  items_in k j =
      let r = those_ok (is_item S T) 0 (types S + types T) k (ordered_ok (before S T) k (those (is_item S T) (range 0 (types S + types T))) j) in
      (r.2, omega (arith, r.1))

-- ---- how many differences

module _ (S T : List ℕ) where
  base_most : (t u : ℕ) → length (base_difference S T t u) ≤ 1
  unfolding base_difference given
  base_most t u = go (bases_differ S T _ _)
    where
      go : (b : Bool) → length (given {A = Difference} b (record { what = 1; owner = suc t; owner' = suc u; member = 0; member' = 0 })) ≤ 1
      go true = omega arith
      go false = omega arith

  pub pair_most : (o p : ℕ) → FewMembers S o → FewMembers T p → length (pair_differences S T o p) ≤ 4097
  unfolding pair_differences owner_differences
  pair_most zero p x y = omega arith
  pair_most (suc t) zero x y = omega arith
  pair_most (suc t) (suc u) x y =
      let z : suc t - 1 ≡ t = omega arith in
      let z' : suc u - 1 ≡ u = omega arith in
      let a : field S t 1 ≤ 1024 = rw z at (x (omega arith)) in
      let b : field T u 1 ≤ 1024 = rw z' at (y (omega arith)) in
      omega (
        arith,
        base_most t u,
        required_most S T t u,
        optional_most S T t u,
        length-append (base_difference S T t u ++ required_differences S T t u) (optional_differences S T t u),
        length-append (base_difference S T t u) (required_differences S T t u),
      )

  all_append : (ps qs : List Pair) → all_differences S T (ps ++ qs) ≡ all_differences S T ps ++ all_differences S T qs
  unfolding all_differences
  all_append [] qs = refl
  all_append (p ∷ ps) qs = ap (λ (l : List Difference). pair_differences S T p.0 p.1 ++ l) (all_append ps qs) ∙ sym (append_assoc (pair_differences S T p.0 p.1) (all_differences S T ps) (all_differences S T qs))

  items_most : (ks : List ℕ) → ((k : ℕ) → In k ks → FewMembers S (item_pair S T k).0 × FewMembers T (item_pair S T k).1) → length (all_differences S T (map (item_pair S T) ks)) ≤ 4097 * length ks
  unfolding all_differences
  items_most [] h = omega arith
  items_most (k ∷ ks) h =
      let f = h k (inl refl) in
      omega (
        arith,
        pair_most (item_pair S T k).0 (item_pair S T k).1 f.0 f.1,
        items_most ks (λ x i. h x (inr i)),
        length-append (pair_differences S T (item_pair S T k).0 (item_pair S T k).1) (all_differences S T (map (item_pair S T) ks)),
      )

  lists_most : (ts us : List ℕ) → ((t : ℕ) → In t ts → FewMembers S (suc t)) → ((u : ℕ) → In u us → FewMembers T (suc u))
      → length (all_differences S T (paired ts us)) ≤ 4097 * (length ts + length us)
  unfolding all_differences paired
  lists_most [] [] x y = omega arith
  lists_most [] (u ∷ us) x y =
      omega (arith, lists_most [] us x (λ v i. y v (inr i)), pair_most 0 (suc u) (λ l. absurd (omega arith)) (y u (inl refl)), length-append (pair_differences S T 0 (suc u)) (all_differences S T (paired [] us)))
  lists_most (t ∷ ts) [] x y =
      omega (arith, lists_most ts [] (λ v i. x v (inr i)) y, pair_most (suc t) 0 (x t (inl refl)) (λ l. absurd (omega arith)), length-append (pair_differences S T (suc t) 0) (all_differences S T (paired ts [])))
  lists_most (t ∷ ts) (u ∷ us) x y =
      omega (arith, lists_most ts us (λ v i. x v (inr i)) (λ v i. y v (inr i)), pair_most (suc t) (suc u) (x t (inl refl)) (y u (inl refl)), length-append (pair_differences S T (suc t) (suc u)) (all_differences S T (paired ts us)))

those_most : (f : ℕ → Bool) (l : List ℕ) → length (those f l) ≤ length l
unfolding those
those_most f [] = omega arith
those_most f (i ∷ l) = go (f i) (those_most f l)
  where
    go : (b : Bool) → length (those f l) ≤ length l → length (pick b (i ∷ those f l) (those f l)) ≤ suc (length l)
    go true h = omega arith
    go false h = omega arith

insert_length : (less : ℕ → ℕ → Bool) (a : ℕ) (l : List ℕ) → length (insert less a l) ≡ suc (length l)
unfolding insert
insert_length less a [] = refl
insert_length less a (b ∷ l) = go (less b a) (insert_length less a l)
  where
    go : (c : Bool) → length (insert less a l) ≡ suc (length l) → length (pick c (b ∷ insert less a l) (a ∷ b ∷ l)) ≡ suc (suc (length l))
    go true e = ap suc e
    go false e = refl

ordered_length : (less : ℕ → ℕ → Bool) (l : List ℕ) → length (ordered less l) ≡ length l
unfolding ordered
ordered_length less [] = refl
ordered_length less (a ∷ l) = insert_length less a (ordered less l) ∙ ap suc (ordered_length less l)

module _ (S T : List ℕ) (fs : faults S ≡ fine) (ft : faults T ≡ fine) where
  list_few : (X : List ℕ) → faults X ≡ fine → (t : ℕ) → In t (lists X) → FewMembers X (suc t)
  unfolding lists rows_of
  list_few X f t i l =
      let r = those_ok (λ x. eqb (kind X x) 15) 0 (types X) t i in
      let z : suc t - 1 ≡ t = omega arith in
      rw z (few_owner X f t (omega (arith, r.1)) (ap owns (eqb-true (kind X t) 15 r.2)))

  lists_length : (X : List ℕ) → length (lists X) ≤ types X
  unfolding lists rows_of
  lists_length X = omega (arith, those_most (λ x. eqb (kind X x) 15) (range 0 (types X)), length_range 0 (types X))

  items_length : length (items S T) ≤ types S + types T
  unfolding items
  items_length =
      omega (arith, ordered_length (before S T) (those (is_item S T) (range 0 (types S + types T))), those_most (is_item S T) (range 0 (types S + types T)), length_range 0 (types S + types T))

  pub differences_sum : differences S T ≡ all_differences S T (map (item_pair S T) (items S T)) ++ all_differences S T (list_pairs S T)
  unfolding differences
  differences_sum = all_append S T (record_pairs S T) (list_pairs S T) ∙ rw (pairs_items S T)

  pub differences_few : length (differences S T) < 4294967296
  unfolding list_pairs
  differences_few =
      let a = items_most S T (items S T) (λ k i. let r = items_in S T fs ft k i in (item_few_old S T fs ft k r.0, item_few_new S T fs ft k r.0 r.1)) in
      let b = lists_most S T (lists S) (lists T) (list_few S fs) (list_few T ft) in
      omega (
        arith,
        a,
        b,
        items_length,
        lists_length S,
        lists_length T,
        types_most S fs,
        types_most T ft,
        ap length differences_sum,
        length-append (all_differences S T (map (item_pair S T) (items S T))) (all_differences S T (list_pairs S T)),
      )
