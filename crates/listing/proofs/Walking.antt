-- The differences of members and owners, listed. Assumes nothing.
--
--   agree_..                      two member rows agree
--   member_..                     the difference of two member rows
--   next_.., follow_..            the loop that looks for a required member, and the next one
--   walk_..                       the loop over required members; required_.. from the first ones on
--   tag_.., tags_.., optional_..  the loop over tags
--   differ_.., bases_..           the bases
--   owner_.., pair_..             two owners, a pair of rows
use mathlib.Core.Path.{◌≡◌, refl, sym, ap, ap₂, ◌∙◌}
use mathlib.Core.Bool.{Bool, true, false, not, true≢false}
use mathlib.Core.List.{List, [], ◌∷◌, ◌++◌}
use Prim.Native.Nat.{ℕ, zero, suc, ◌+◌, ◌-◌, ◌≤◌, ◌<◌}
use native.Mathlib.Numerals.{add-one}
use native.Mathlib.Omega.{arith}
use lib.ListN.{length, take, drop, get_or, length-append, length-drop, drop_of_length-le}
use lib.Seq.{drop-cons, take-length}
use lib.Dec.{eqb}
use borrow.Author.Tests.{ne_eqb}
use Rattle.std.proofs.Common.{Option, None, Some}
use Rattle.std.specs.Option.{is_some}
use Rattle.encoding.specs.Result.{same_bytes}
use Rattle.encoding.specs.Table.{field, mark, range, search as find, trees, member_ty, lookup, own_rows, optional_members, name_of, base}
use Rattle.differences.specs.Compare.{same_ty, row_or_none, paired, Difference, given, member_row, member_differences, required_differences, optional_differences, tags_of, bases_differ, base_difference, owner_differences, pair_differences}
use Rattle.ordering.specs.Ordering.{row_number}
use Rattle.listing.specs.Listing.{Listed, Listing, agree_rows, member_difference, is_required, next_of, follow_of, left_of, row_differences, tag_difference, FewMembers}
use Rattle.listing.specs.ListingLaws.{next_found, listed_none, listed_more, listed_as, listing_begin, listing_end, listing_next, left_all, left_falls, paired_none, paired_next, required_is, tags_next, tags_none}

module _ (S T : List ℕ) where
  -- ---- two member rows

  module _ (m k : Option ℕ) where
    pub agree_none : m ≡ None → (r : Bool) → is_some k ≡ not r → r ≡ agree_rows S T (row_number m) (row_number k)
    unfolding agree_rows
    agree_none e r h = rw e (go k r h)
      where
        go : (o : Option ℕ) (x : Bool) → is_some o ≡ not x → x ≡ agree_rows S T 0 (row_number o)
        go None true q = refl
        go None false q = absurd (true≢false (sym q))
        go (Some u) true q = absurd (true≢false q)
        go (Some u) false q = refl

    module _ (i : ℕ) (h : m ≡ Some i) where
      pub agree_one : k ≡ None → false ≡ agree_rows S T (row_number m) (row_number k)
      unfolding agree_rows
      agree_one e = rw (h, e)

      pub agree_both : (j : ℕ) → k ≡ Some j → (r : Bool) → r ≡ same_ty (member_ty S (trees S) i) (member_ty T (trees T) j) → r ≡ agree_rows S T (row_number m) (row_number k)
      unfolding agree_rows
      agree_both j l r e = rw (h, l) e

  module _ (m k : ℕ) where
    module _ (what t u n : ℕ) (out : List ℕ) (b : Bool) (e : b ≡ agree_rows S T m k) where
      pub member_same : b ≡ true → Listed (member_difference S T what t u m k) n out out n
      unfolding member_difference given
      member_same q = rw (← e, q) (listed_none n out)

      pub member_differs : b ≡ false → (w x y : ℕ) → w ≡ what → x ≡ m → y ≡ k → (last : List ℕ) (r : ℕ) → Listed (record { what = w; owner = t + 1; owner' = u + 1; member = x; member' = y } ∷ []) n out last r
          → Listed (member_difference S T what t u m k) n out last r
      unfolding member_difference given
      member_differs q w x y ew ex ey last r A = listed_as n out _ _ (rw (← e, q, ew, ex, ey, add-one, add-one)) last r A

  -- ---- the bases

  module _ (b c : ℕ) where
    pub differ_none : b ≡ 0 → not (eqb c 0) ≡ bases_differ S T b c
    unfolding bases_differ
    differ_none e = rw e (go c)
      where
        go : (x : ℕ) → not (eqb x 0) ≡ bases_differ S T 0 x
        go zero = refl
        go (suc x) = rw (ne_eqb (suc x) 0 (λ z. omega arith))

    module _ (h : b ≡ 0 → ⊥) where
      pub differ_one : c ≡ 0 → true ≡ bases_differ S T b c
      unfolding bases_differ
      differ_one e = let z : b ≡ suc (b - 1) = omega arith in rw (z, e)

      pub differ_names : (c ≡ 0 → ⊥) → (r : Bool) → r ≡ same_bytes (name_of S (b - 1)) (name_of T (c - 1)) → not r ≡ bases_differ S T b c
      unfolding bases_differ
      differ_names l r e = let z : b ≡ suc (b - 1) = omega arith in let y : c ≡ suc (c - 1) = omega arith in ap not e ∙ sym (ap₂ (bases_differ S T) z y)

  module _ (t u n : ℕ) (out : List ℕ) (b c : ℕ) (eb : b ≡ base S t) (ec : c ≡ base T u) (d : Bool) (e : d ≡ bases_differ S T b c) where
    bases_step : bases_differ S T (base S t) (base T u) ≡ d
    bases_step = sym (e ∙ ap₂ (bases_differ S T) eb ec)

    pub bases_same : d ≡ false → Listed (base_difference S T t u) n out out n
    unfolding base_difference given
    bases_same q = rw (bases_step, q) (listed_none n out)

    pub bases_other : d ≡ true → (w : ℕ) → w ≡ 1 → (last : List ℕ) (r : ℕ) → Listed (record { what = w; owner = t + 1; owner' = u + 1; member = 0; member' = 0 } ∷ []) n out last r
        → Listed (base_difference S T t u) n out last r
    unfolding base_difference given
    bases_other q w ew last r A = listed_as n out _ _ (rw (bases_step, q, ew, add-one, add-one)) last r A

  -- ---- tags

  module _ (t u n : ℕ) (out : List ℕ) where
    pub tag_listed : (g m k : ℕ) → m ≡ member_row (lookup g (optional_members S t)) → k ≡ member_row (lookup g (optional_members T u)) → (last : List ℕ) (r : ℕ)
        → Listed (member_difference S T 3 t u m k) n out last r → Listed (tag_difference S T t u g) n out last r
    unfolding tag_difference
    tag_listed g m k em ek last r A = listed_as n out _ _ (rw (em, ek)) last r A

    abbrev pub by_tags : List ℕ → List Difference
    by_tags gs = member_differences 3 t u (optional_members S t) (optional_members T u) gs

    pub tags_begin : (tags : List ℕ) → Listing (by_tags tags) n out (by_tags (drop 0 tags)) n out
    tags_begin tags = listing_begin (by_tags tags) n out _ refl

    module _ (tags : List ℕ) (i : ℕ) (l : List ℕ) (j : ℕ) (R : Listing (by_tags tags) n out (by_tags (drop j tags)) i l) where
      pub tags_below : n + length (by_tags tags) < 4294967296 → i < 4294967296
      tags_below h = omega (arith, R.count)

      pub tags_step : j < length tags → (last : List ℕ) (r : ℕ) → Listed (tag_difference S T t u (get_or tags j 0)) i l last r
          → Listing (by_tags tags) n out (by_tags (drop (j + 1) tags)) r last
      tags_step h last r A =
          listing_next (by_tags tags) n out (by_tags (drop j tags)) i l R (tag_difference S T t u (get_or tags j 0)) (by_tags (drop (j + 1) tags))
          (ap by_tags (drop-cons tags j 0 (omega arith)) ∙ tags_next S T t u (get_or tags j 0) (drop (suc j) tags) ∙ rw add-one) r last A

      pub tags_end : length tags ≤ j → Listed (by_tags tags) n out l i
      tags_end h = listing_end (by_tags tags) n out (by_tags (drop j tags)) i l R (ap by_tags (drop_of_length-le tags {i = j} (omega arith)) ∙ tags_none S T t u)

    module _ (tags : List ℕ) (s : ℕ) (z : length tags ≡ 2048) (e : drop s tags ≡ tags_of (optional_members S t) (optional_members T u)) where
      optional_are : by_tags (take (2048 - s) (drop s tags)) ≡ optional_differences S T t u
      unfolding optional_differences
      optional_are = let y : 2048 - s ≡ length (drop s tags) = omega (arith, length-drop s tags) in ap by_tags (rw (y, take-length (drop s tags)) e)

      pub optional_few : n + length (optional_differences S T t u) < 4294967296 → n + length (by_tags (take (2048 - s) (drop s tags))) < 4294967296
      optional_few h = omega (arith, ap length optional_are)

      pub optional_listed : (last : List ℕ) (r : ℕ) → Listed (by_tags (take (2048 - s) (drop s tags))) n out last r → Listed (optional_differences S T t u) n out last r
      optional_listed last r A = listed_as n out _ _ optional_are last r A

  -- ---- two owners

  module _ (t u n : ℕ) (h : n + length (owner_differences S T t u) < 4294967296) where
    owner_sum : length (owner_differences S T t u) ≡ length (base_difference S T t u) + length (required_differences S T t u) + length (optional_differences S T t u)
    unfolding owner_differences
    owner_sum =
        length-append (base_difference S T t u ++ required_differences S T t u) (optional_differences S T t u)
        ∙ ap (λ (x : ℕ). x + length (optional_differences S T t u)) (length-append (base_difference S T t u) (required_differences S T t u))

    pub owner_first : n < 4294967296
    owner_first = omega arith

    module _ (out l : List ℕ) (i : ℕ) (A : Listed (base_difference S T t u) n out l i) where
      pub owner_second : i + length (required_differences S T t u) < 4294967296
      owner_second = omega (arith, owner_sum, A.count)

      module _ (l' : List ℕ) (j : ℕ) (B : Listed (required_differences S T t u) i l l' j) where
        pub owner_third : j + length (optional_differences S T t u) < 4294967296
        owner_third = omega (arith, owner_sum, A.count, B.count)

        pub owner_listed : (last : List ℕ) (r : ℕ) → Listed (optional_differences S T t u) j l' last r → Listed (owner_differences S T t u) n out last r
        unfolding owner_differences
        owner_listed last r C =
            listed_more n out (base_difference S T t u ++ required_differences S T t u) (optional_differences S T t u) l' last j r
            (listed_more n out (base_difference S T t u) (required_differences S T t u) l l' i j A B) C

  module _ (o p : Option ℕ) (n : ℕ) (out last : List ℕ) (r : ℕ) where
    pub pair_new : o ≡ None → (w x : ℕ) → w ≡ 0 → x ≡ row_number p → Listed (record { what = w; owner = 0; owner' = x; member = 0; member' = 0 } ∷ []) n out last r
        → Listed (pair_differences S T (row_number o) (row_number p)) n out last r
    unfolding pair_differences
    pair_new e w x ew ex A = listed_as n out _ _ (rw (e, ew, ex)) last r A

    module _ (t : ℕ) (h : o ≡ Some t) where
      pub pair_old : p ≡ None → (w : ℕ) → w ≡ 0 → Listed (record { what = w; owner = t + 1; owner' = 0; member = 0; member' = 0 } ∷ []) n out last r
          → Listed (pair_differences S T (row_number o) (row_number p)) n out last r
      unfolding pair_differences
      pair_old e w ew A = listed_as n out _ _ (rw (h, e, ew, add-one)) last r A

      module _ (u : ℕ) (l : p ≡ Some u) where
        pair_are : owner_differences S T t u ≡ pair_differences S T (row_number o) (row_number p)
        unfolding pair_differences
        pair_are = rw (h, l)

        pub pair_few : n + length (pair_differences S T (row_number o) (row_number p)) < 4294967296 → n + length (owner_differences S T t u) < 4294967296
        pair_few k = omega (arith, ap length pair_are)

        pub pair_both : Listed (owner_differences S T t u) n out last r → Listed (pair_differences S T (row_number o) (row_number p)) n out last r
        pair_both A = listed_as n out _ _ pair_are last r A

pub few_members : (T : List ℕ) (o : Option ℕ) (t : ℕ) → o ≡ Some t → FewMembers T (row_number o) → field T t 1 ≤ 1024
few_members T o t h F = go (rw h at F)
  where
    go : FewMembers T (suc t) → field T t 1 ≤ 1024
    go G = let z : suc t - 1 ≡ t = omega arith in rw z at (G (omega arith))

-- ---- a required member looked for

pub required_mark : (T : List ℕ) (m k : ℕ) → k ≡ mark T m → eqb k 0 ≡ is_required T m
unfolding is_required
required_mark T m k e = ap (λ (x : ℕ). eqb x 0) e

pub next_first : (T : List ℕ) (t end x r : ℕ) → x ≡ field T t 0 → r ≡ row_or_none (find (is_required T) (range x (end - x))) → r ≡ next_of (is_required T) (field T t 0) end
next_first T t end x r ex e = next_found (is_required T) x end r e ∙ ap (λ (y : ℕ). next_of (is_required T) y end) ex

module _ (f : ℕ → Bool) (a : Option ℕ) (end : ℕ) where
  pub follow_none : a ≡ None → 0 ≡ follow_of f (row_number a) end
  unfolding follow_of
  follow_none e = rw e

  pub follow_next : (x : ℕ) → a ≡ Some x → (r : ℕ) → r ≡ row_or_none (find f (range (x + 1) (end - (x + 1)))) → r ≡ follow_of f (row_number a) end
  unfolding follow_of
  follow_next x h r e = rw h (next_found f (suc x) end r (rw add-one at e))

-- ---- required members

module _ (S T : List ℕ) (t u end stop : ℕ) where
  abbrev pub rows_from : ℕ → ℕ → List Difference
  rows_from a b = row_differences S T t u (paired (left_of (is_required S) a end) (left_of (is_required T) b stop))

  pub walk_falls : (a b : ℕ) → 0 < a + b → (x y : ℕ) → x ≡ follow_of (is_required S) a end → y ≡ follow_of (is_required T) b stop
      → length (left_of (is_required S) x end) + length (left_of (is_required T) y stop) < length (left_of (is_required S) a end) + length (left_of (is_required T) b stop)
  walk_falls a b h x y ex ey = rw (ex, ey) (left_falls (is_required S) (is_required T) end stop a b h)

  module _ (m k n : ℕ) (out : List ℕ) where
    pub walk_begin : Listing (rows_from m k) n out (rows_from m k) n out
    walk_begin = listing_begin (rows_from m k) n out _ refl

    module _ (a b i : ℕ) (l : List ℕ) (R : Listing (rows_from m k) n out (rows_from a b) i l) where
      pub walk_below : n + length (rows_from m k) < 4294967296 → i < 4294967296
      walk_below h = omega (arith, R.count)

      pub walk_step : 0 < a + b → (last : List ℕ) (r : ℕ) → Listed (member_difference S T 2 t u a b) i l last r
          → (x y : ℕ) → x ≡ follow_of (is_required S) a end → y ≡ follow_of (is_required T) b stop → Listing (rows_from m k) n out (rows_from x y) r last
      unfolding row_differences
      walk_step h last r A x y ex ey =
          listing_next (rows_from m k) n out (rows_from a b) i l R (member_difference S T 2 t u a b) (rows_from x y)
          (ap (row_differences S T t u) (paired_next (is_required S) (is_required T) end stop a b h) ∙ rw (← ex, ← ey)) r last A

      pub walk_end : a + b ≤ 0 → Listed (rows_from m k) n out l i
      unfolding row_differences
      walk_end h = listing_end (rows_from m k) n out (rows_from a b) i l R (ap (row_differences S T t u) (paired_none (is_required S) (is_required T) end stop a b h))

  module _ (es : end ≡ field S t 0 + field S t 1) (et : stop ≡ field T u 0 + field T u 1) (m k : ℕ)
      (em : m ≡ next_of (is_required S) (field S t 0) end) (ek : k ≡ next_of (is_required T) (field T u 0) stop) where
    rows_are : required_differences S T t u ≡ rows_from m k
    unfolding own_rows
    rows_are =
        let zs : end - field S t 0 ≡ field S t 1 = omega arith in
        let zt : stop - field T u 0 ≡ field T u 1 = omega arith in
        required_is S T t u ∙ sym (rw (left_all (is_required S) end (field S t 0) m em, left_all (is_required T) stop (field T u 0) k ek, zs, zt))

    pub required_few : (n : ℕ) → n + length (required_differences S T t u) < 4294967296 → n + length (rows_from m k) < 4294967296
    required_few n h = omega (arith, ap length rows_are)

    pub required_listed : (n : ℕ) (out last : List ℕ) (r : ℕ) → Listed (rows_from m k) n out last r → Listed (required_differences S T t u) n out last r
    required_listed n out last r A = listed_as n out _ _ (sym rows_are) last r A
