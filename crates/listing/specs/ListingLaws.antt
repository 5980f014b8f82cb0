-- Laws of differences in a lent list. Assumes nothing.
--
--   listed_..               none, one, some after others
--   enter_listed            where all fit: their bytes one after another, and the rest as it was
--   listing_..              a loop that lists
--   any_some, any_none      one row or the other, or neither
--   next_found              the first row that passes, looked for
--   left_all, left_follow, left_none, left_falls    the rows left, from one on
--   paired_..               two lists of rows set against each other, one pair after another
--   required_is             the differences of required members, pair by pair
--   tags_next               those of optional members, tag by tag
--   required_match_lem          required members match exactly if they have no difference
--   required_most, optional_most   how many differences there are at most
use Prim.Native.Nat.{ℕ, zero, suc, ◌+◌, ◌-◌, ◌*◌, ◌≤◌, ◌<◌}
use Rattle.std.specs.Prelude.{◌≡◌, Bool, ◌&&◌, not, drop, leb, ltb}
use Rattle.std.proofs.Math.Path.{refl, ap, ap₂}
use Rattle.std.proofs.Common.{sym, ◌∙◌, add-zero, leb-true, leb-false, le-leb, eq-eqb, ne_eqb}
use Rattle.std.proofs.Math.Bool.{true, false}
use Rattle.std.proofs.Math.Option.{Option, none, some}
use mathlib.Core.List.{List, [], ◌∷◌, ◌++◌}
use native.Mathlib.Omega.{arith}
use Rattle.std.proofs.Math.ListN.{length, length-append}
use Rattle.std.proofs.Math.Dec.{eqb}
use Rattle.std.proofs.lemmas.Bool.{lt-leb}
use borrow.Author.Tests.{ltb-true, ltb-false}
use Rattle.std.specs.Prelude.{Option as Row}
use Rattle.ordering.specs.Ordering.{row_number}
use Rattle.encoding.specs.Result.{pick, concat}
use Rattle.encoding.proofs.NumberLaws.{length_le_bytes}
use Rattle.encoding.specs.Number.{le_bytes}
use Rattle.encoding.proofs.RuleLaws.{length_range, own_sum}
use Rattle.encoding.specs.Table.{field, mark, tag, range, search as find, trees, member_ty, Member, lookup, requireds_in, optionals_in, own_rows, required_members, optional_members}
use Rattle.wire.specs.Put.{put}
use Rattle.wire.specs.PutLaws.{put_length, put_none, put_put, put_front}
use Rattle.differences.specs.Compare.{same_ty, insert, ordered, those, row_or_none, paired, Difference, given, agree, member_row, member_differences, longer, required_differences, is_there, keys, keys_without, optional_differences, tags_of, required_match, difference_bytes}
use Rattle.listing.specs.Listing.{enter, Listed, Listing, agree_rows, member_difference, is_required, head_row, next_of, follow_of, left_of, row_differences, tag_difference}

-- ---- differences in a list

enter_append : (ds es : List Difference) (k : ℕ) (out : List ℕ) → enter k (ds ++ es) out ≡ enter (k + length ds) es (enter k ds out)
unfolding enter
enter_append [] es k out = ap (λ (i : ℕ). enter i es out) (sym (add-zero k))
enter_append (d ∷ ds) es k out =
    enter_append ds es (suc k) _ ∙ ap (λ (i : ℕ). enter i es (enter (suc k) ds (put (20 * k) (difference_bytes d) out))) (omega arith)

pub enter_length : (ds : List Difference) (k : ℕ) (out : List ℕ) → length (enter k ds out) ≡ length out
unfolding enter
enter_length [] k out = refl
enter_length (d ∷ ds) k out = enter_length ds (suc k) _ ∙ put_length (20 * k) (difference_bytes d) out

pub length_difference : (d : Difference) → length (difference_bytes d) ≡ 20
unfolding difference_bytes
length_difference d =
    let a = length-append (le_bytes 4 d.what ++ le_bytes 4 d.owner ++ le_bytes 4 d.owner' ++ le_bytes 4 d.member) (le_bytes 4 d.member') in
    let b = length-append (le_bytes 4 d.what ++ le_bytes 4 d.owner ++ le_bytes 4 d.owner') (le_bytes 4 d.member) in
    let c = length-append (le_bytes 4 d.what ++ le_bytes 4 d.owner) (le_bytes 4 d.owner') in
    let e = length-append (le_bytes 4 d.what) (le_bytes 4 d.owner) in
    omega (arith, a, b, c, e, length_le_bytes 4 d.what, length_le_bytes 4 d.owner, length_le_bytes 4 d.owner', length_le_bytes 4 d.member, length_le_bytes 4 d.member')

pub length_differences : (ds : List Difference) → length (concat difference_bytes ds) ≡ 20 * length ds
unfolding concat
length_differences [] = refl
length_differences (d ∷ ds) = omega (arith, length-append (difference_bytes d) (concat difference_bytes ds), length_difference d, length_differences ds)

enter_put : (ds : List Difference) (k : ℕ) (out : List ℕ) → 20 * (k + length ds) ≤ length out → enter k ds out ≡ put (20 * k) (concat difference_bytes ds) out
unfolding enter concat
enter_put [] k out h = sym (put_none (20 * k) out)
enter_put (d ∷ ds) k out h =
    let l = put_length (20 * k) (difference_bytes d) out in
    enter_put ds (suc k) (put (20 * k) (difference_bytes d) out) (omega arith)
    ∙ put_put (20 * k) (20 * suc k) (difference_bytes d) (concat difference_bytes ds) out (omega (arith, length_difference d)) (omega (arith, length_difference d, length_differences ds))

pub enter_listed : (ds : List Difference) (out : List ℕ) → 20 * length ds ≤ length out → enter 0 ds out ≡ concat difference_bytes ds ++ drop (20 * length ds) out
enter_listed ds out h =
    enter_put ds 0 out (omega arith)
    ∙ put_front (concat difference_bytes ds) out (omega (arith, length_differences ds))
    ∙ ap (λ (i : ℕ). concat difference_bytes ds ++ drop i out) (length_differences ds)

module _ (n : ℕ) (out : List ℕ) where
  pub listed_none : Listed [] n out out n
  unfolding enter
  listed_none = record { count = omega arith; list = refl }

  pub listed_one : (d : Difference) (last : List ℕ) → last ≡ put (20 * n) (difference_bytes d) out → Listed (d ∷ []) n out last (n + 1)
  unfolding enter
  listed_one d last e = record { count = omega arith; list = e }

  pub listed_more : (ds es : List Difference) (l last : List ℕ) (i r : ℕ) → Listed ds n out l i → Listed es i l last r → Listed (ds ++ es) n out last r
  listed_more ds es l last i r A B = record {
    count = omega (arith, A.count, B.count, length-append ds es);
    list = B.list ∙ ap₂ (λ (k : ℕ) (x : List ℕ). enter k es x) A.count A.list ∙ sym (enter_append ds es n out);
  }

  pub listed_as : (ds es : List Difference) → ds ≡ es → (last : List ℕ) (r : ℕ) → Listed ds n out last r → Listed es n out last r
  listed_as ds es e last r A = rw (← e) A

-- ---- a loop that lists

module _ (ds : List Difference) (n : ℕ) (out : List ℕ) where
  pub listing_begin : (rest : List Difference) → ds ≡ rest → Listing ds n out rest n out
  listing_begin rest e = rw (← e) (record { count = refl; list = refl })

  module _ (rest : List Difference) (i : ℕ) (l : List ℕ) (R : Listing ds n out rest i l) where
    pub listing_end : rest ≡ [] → Listed ds n out l i
    unfolding enter
    listing_end e =
        let z : length rest ≡ 0 = rw e in
        record { count = omega (arith, R.count); list = ap (λ (x : List Difference). enter i x l) (sym e) ∙ R.list }

    pub listing_below : (b : ℕ) → n + length ds < b → i < b
    listing_below b h = omega (arith, R.count)

    module _ (es later : List Difference) (e : rest ≡ es ++ later) where
      pub listing_room : (b : ℕ) → n + length ds < b → i + length es < b
      listing_room b h = omega (arith, R.count, ap length e, length-append es later)

      pub listing_next : (r : ℕ) (last : List ℕ) → Listed es i l last r → Listing ds n out later r last
      listing_next r last A = record {
        count = omega (arith, R.count, A.count, ap length e, length-append es later);
        list = ap₂ (λ (k : ℕ) (x : List ℕ). enter k later x) A.count A.list ∙ sym (enter_append es later i l) ∙ ap (λ (x : List Difference). enter i x l) (sym e) ∙ R.list;
      }

-- ---- rows

-- the rows that pass, from the first of them on
-- there is one row or the other exactly if the sum of their numbers is not 0
module _ (a b : Row ℕ) (r : Bool) (e : r ≡ ltb 0 (row_number a + row_number b)) where
  pub any_some : r ≡ true → 0 < row_number a + row_number b
  any_some q = ltb-true 0 (row_number a + row_number b) (sym e ∙ q)

  pub any_none : r ≡ false → row_number a + row_number b ≤ 0
  any_none q = ltb-false 0 (row_number a + row_number b) (sym e ∙ q)

head_find : (f : ℕ → Bool) (l : List ℕ) → row_or_none (find f l) ≡ head_row (those f l)
unfolding find row_or_none head_row those
head_find f [] = refl
head_find f (i ∷ l) = go (f i) (head_find f l)
  where
    go : (b : Bool) → row_or_none (find f l) ≡ head_row (those f l) → row_or_none (pick b (some i) (find f l)) ≡ head_row (pick b (i ∷ those f l) (those f l))
    go true e = refl
    go false e = e

-- the first row that is found
pub next_found : (f : ℕ → Bool) (m end r : ℕ) → r ≡ row_or_none (find f (range m (end - m))) → r ≡ next_of f m end
unfolding next_of
next_found f m end r e = e ∙ head_find f (range m (end - m))

head_left : (f : ℕ → Bool) (n m end : ℕ) → n ≡ end - m → left_of f (head_row (those f (range m n))) end ≡ those f (range m n)
unfolding left_of head_row those range
head_left f zero m end e = refl
head_left f (suc n) m end e = go (f m) (head_left f n (suc m) end (omega arith))
  where
    go : (b : Bool) → left_of f (head_row (those f (range (suc m) n))) end ≡ those f (range (suc m) n)
        → left_of f (head_row (pick b (m ∷ those f (range (suc m) n)) (those f (range (suc m) n)))) end ≡ pick b (m ∷ those f (range (suc m) n)) (those f (range (suc m) n))
    go true ih = let z : end - suc m ≡ n = omega arith in rw z
    go false ih = ih

module _ (f : ℕ → Bool) (end : ℕ) where
  pub left_all : (m a : ℕ) → a ≡ next_of f m end → left_of f a end ≡ those f (range m (end - m))
  unfolding next_of
  left_all m a e = ap (λ (x : ℕ). left_of f x end) e ∙ head_left f (end - m) m end refl

  pub left_follow : (a : ℕ) → 0 < a → left_of f a end ≡ (a - 1) ∷ left_of f (follow_of f a end) end
  unfolding left_of follow_of
  left_follow zero h = absurd (omega arith)
  left_follow (suc r) h = let z : suc r - 1 ≡ r = omega arith in rw (z, left_all (suc r) (next_of f (suc r) end) refl)

  pub left_none : (a : ℕ) → a ≡ 0 → left_of f a end ≡ []
  unfolding left_of
  left_none a e = rw e

module _ (f g : ℕ → Bool) (end stop : ℕ) where
  pub paired_none : (a b : ℕ) → a + b ≤ 0 → paired (left_of f a end) (left_of g b stop) ≡ []
  unfolding paired
  paired_none a b h = rw (left_none f end a (omega arith), left_none g stop b (omega arith))

  follow_none : (h : ℕ → Bool) (e : ℕ) → follow_of h 0 e ≡ 0
  unfolding follow_of
  follow_none h e = refl

  pub paired_next : (a b : ℕ) → 0 < a + b
      → paired (left_of f a end) (left_of g b stop) ≡ (a, b) ∷ paired (left_of f (follow_of f a end) end) (left_of g (follow_of g b stop) stop)
  unfolding paired left_of follow_of
  paired_next zero zero h = absurd (omega arith)
  paired_next zero (suc b) h = let z : suc b - 1 ≡ b = omega arith in rw (left_all g stop (suc b) (next_of g (suc b) stop) refl)
  paired_next (suc a) zero h = rw (left_all f end (suc a) (next_of f (suc a) end) refl)
  paired_next (suc a) (suc b) h = rw (left_all f end (suc a) (next_of f (suc a) end) refl, left_all g stop (suc b) (next_of g (suc b) stop) refl)

  pub left_falls : (a b : ℕ) → 0 < a + b
      → length (left_of f (follow_of f a end) end) + length (left_of g (follow_of g b stop) stop) < length (left_of f a end) + length (left_of g b stop)
  unfolding left_of follow_of
  left_falls zero zero h = absurd (omega arith)
  left_falls zero (suc b) h = rw (left_all g stop (suc b) (next_of g (suc b) stop) refl) (omega arith)
  left_falls (suc a) zero h = rw (left_all f end (suc a) (next_of f (suc a) end) refl) (omega arith)
  left_falls (suc a) (suc b) h = rw (left_all f end (suc a) (next_of f (suc a) end) refl, left_all g stop (suc b) (next_of g (suc b) stop) refl) (omega arith)

-- ---- members that are found

-- each member has its row's type
abbrev Typed : List ℕ → List Member → Type 0
Typed T [] = Unit {0}
Typed T (m ∷ ms) = (m.ty ≡ member_ty T (trees T) m.row) × Typed T ms

lookup_typed : (T : List ℕ) (k : ℕ) (ms : List Member) (m : Member) → Typed T ms → lookup k ms ≡ some m → m.ty ≡ member_ty T (trees T) m.row
unfolding lookup
lookup_typed T k [] m y h = let z : ◌≡◌ {A = ℕ} 0 1 = cc in absurd (omega arith)
lookup_typed T k (x ∷ ms) m y h = go (eqb k x.key) h (λ q. lookup_typed T k ms m y.1 q)
  where
    go : (b : Bool) → pick b (some x) (lookup k ms) ≡ some m → (lookup k ms ≡ some m → m.ty ≡ member_ty T (trees T) m.row) → m.ty ≡ member_ty T (trees T) m.row
    go true e ih = let z : x ≡ m = cc in ap (λ (v : Member). v.ty) (sym z) ∙ y.0 ∙ ap (λ (v : Member). member_ty T (trees T) v.row) z
    go false e ih = ih e

optionals_typed : (T : List ℕ) (rs : List ℕ) → Typed T (optionals_in T (trees T) rs)
unfolding optionals_in
optionals_typed T [] = tt
optionals_typed T (r ∷ rs) = go (eqb (mark T r) 0) (optionals_typed T rs)
  where
    go : (b : Bool) → Typed T (optionals_in T (trees T) rs)
        → Typed T (pick b (optionals_in T (trees T) rs) (record { row = r; key = tag T r; ty = member_ty T (trees T) r } ∷ optionals_in T (trees T) rs))
    go true y = y
    go false y = (refl, y)

module _ (S T : List ℕ) (t u : ℕ) where
  agree_rows_lem : (o p : Option Member) → ((m : Member) → o ≡ some m → m.ty ≡ member_ty S (trees S) m.row) → ((m : Member) → p ≡ some m → m.ty ≡ member_ty T (trees T) m.row)
      → agree o p ≡ agree_rows S T (member_row o) (member_row p)
  unfolding agree agree_rows member_row
  agree_rows_lem none none x y = refl
  agree_rows_lem none (some n) x y = refl
  agree_rows_lem (some m) none x y = refl
  agree_rows_lem (some m) (some n) x y = ap₂ same_ty (x m refl) (y n refl)

  -- an optional member of the old table and the new one of its tag
  pub optional_agrees : (m k : ℕ) → agree (some (record { row = m; key = k; ty = member_ty S (trees S) m })) (lookup k (optional_members T u)) ≡ agree_rows S T (suc m) (member_row (lookup k (optional_members T u)))
  unfolding member_row optional_members
  optional_agrees m k = agree_rows_lem (some (record { row = m; key = k; ty = member_ty S (trees S) m })) (lookup k (optional_members T u))
      (λ x e. let z : record { row = m; key = k; ty = member_ty S (trees S) m } ≡ x = cc in ap (λ (v : Member). v.ty) (sym z) ∙ ap (λ (v : Member). member_ty S (trees S) v.row) z)
      (λ x. lookup_typed T k (optional_members T u) x (optionals_typed T (own_rows T u)))

  pub tags_next : (g : ℕ) (gs : List ℕ) → member_differences 3 t u (optional_members S t) (optional_members T u) (g ∷ gs)
      ≡ tag_difference S T t u g ++ member_differences 3 t u (optional_members S t) (optional_members T u) gs
  unfolding member_differences tag_difference member_difference optional_members
  tags_next g gs = rw (agree_rows_lem (lookup g (optional_members S t)) (lookup g (optional_members T u))
      (λ m. lookup_typed S g (optional_members S t) m (optionals_typed S (own_rows S t))) (λ m. lookup_typed T g (optional_members T u) m (optionals_typed T (own_rows T u))))

  pub tags_none : member_differences 3 t u (optional_members S t) (optional_members T u) [] ≡ []
  unfolding member_differences
  tags_none = refl

-- ---- required members by position

abbrev Keyed : List ℕ → ℕ → List Member → Type 0
Keyed T i [] = Unit {0}
Keyed T i (m ∷ ms) = (m.key ≡ i) × (m.ty ≡ member_ty T (trees T) m.row) × Keyed T (suc i) ms

requireds_keyed : (T : List ℕ) (rs : List ℕ) (i : ℕ) → Keyed T i (requireds_in T (trees T) i rs)
unfolding requireds_in
requireds_keyed T [] i = tt
requireds_keyed T (r ∷ rs) i = go (eqb (mark T r) 0) (requireds_keyed T rs (suc i)) (requireds_keyed T rs i)
  where
    go : (b : Bool) → Keyed T (suc i) (requireds_in T (trees T) (suc i) rs) → Keyed T i (requireds_in T (trees T) i rs)
        → Keyed T i (pick b (record { row = r; key = i; ty = member_ty T (trees T) r } ∷ requireds_in T (trees T) (suc i) rs) (requireds_in T (trees T) i rs))
    go true x y = (refl, refl, x)
    go false x y = y

unfoldable rows_in : List Member → List ℕ
rows_in [] = []
rows_in (m ∷ ms) = m.row ∷ rows_in ms

requireds_rows : (T : List ℕ) (rs : List ℕ) (i : ℕ) → rows_in (requireds_in T (trees T) i rs) ≡ those (is_required T) rs
unfolding requireds_in rows_in those is_required
requireds_rows T [] i = refl
requireds_rows T (r ∷ rs) i = go (eqb (mark T r) 0) (requireds_rows T rs (suc i)) (requireds_rows T rs i)
  where
    go : (b : Bool) → rows_in (requireds_in T (trees T) (suc i) rs) ≡ those (is_required T) rs → rows_in (requireds_in T (trees T) i rs) ≡ those (is_required T) rs
        → rows_in (pick b (record { row = r; key = i; ty = member_ty T (trees T) r } ∷ requireds_in T (trees T) (suc i) rs) (requireds_in T (trees T) i rs)) ≡ pick b (r ∷ those (is_required T) rs) (those (is_required T) rs)
    go true x y = ap (λ (l : List ℕ). r ∷ l) x
    go false x y = y

longer_both : (a b : ℕ) → longer (suc a) (suc b) ≡ suc (longer a b)
unfolding longer
longer_both a b = go (leb a b) refl
  where
    go : (c : Bool) → leb a b ≡ c → pick (leb (suc a) (suc b)) (suc b) (suc a) ≡ suc (pick c b a)
    go true e = let h = leb-true a b e in rw (le-leb (suc a) (suc b) (omega arith))
    go false e = let h = leb-false a b e in rw (lt-leb (suc a) (suc b) (omega arith))

longer_none : (b : ℕ) → longer 0 b ≡ b
unfolding longer
longer_none b = rw (le-leb 0 b (omega arith))

longer_some : (a : ℕ) → longer a 0 ≡ a
unfolding longer
longer_some zero = refl
longer_some (suc a) = rw (lt-leb (suc a) 0 (omega arith))

skipped : (k : ℕ) (m : Member) (ms : List Member) → m.key < k → lookup k (m ∷ ms) ≡ lookup k ms
unfolding lookup
skipped k m ms h = rw (ne_eqb k m.key (λ e. omega arith))

none_found : (k : ℕ) → lookup k [] ≡ none
unfolding lookup
none_found k = refl

here : (k : ℕ) (m : Member) (ms : List Member) → m.key ≡ k → lookup k (m ∷ ms) ≡ some m
unfolding lookup
here k m ms e = rw (eq-eqb k m.key (sym e))

module _ (w t u : ℕ) where
  skip_old : (m : Member) (ms ns : List Member) (n j : ℕ) → m.key < j → member_differences w t u (m ∷ ms) ns (range j n) ≡ member_differences w t u ms ns (range j n)
  unfolding member_differences range
  skip_old m ms ns zero j h = refl
  skip_old m ms ns (suc n) j h = rw (skipped j m ms h, skip_old m ms ns n (suc j) (omega arith))

  skip_new : (n' : Member) (ms ns : List Member) (n j : ℕ) → n'.key < j → member_differences w t u ms (n' ∷ ns) (range j n) ≡ member_differences w t u ms ns (range j n)
  unfolding member_differences range
  skip_new x ms ns zero j h = refl
  skip_new x ms ns (suc n) j h = rw (skipped j x ns h, skip_new x ms ns n (suc j) (omega arith))

module _ (S T : List ℕ) (t u : ℕ) where
  by_rows : (ms ns : List Member) (i : ℕ) → Keyed S i ms → Keyed T i ns
      → member_differences 2 t u ms ns (range i (longer (length ms) (length ns))) ≡ row_differences S T t u (paired (rows_in ms) (rows_in ns))
  unfolding member_differences range row_differences member_difference paired rows_in agree agree_rows member_row
  by_rows [] [] i x y = rw (longer_none 0)
  by_rows [] (n ∷ ns) i x y =
      rw (longer_none (suc (length ns)), here i n ns y.0, none_found i, skip_new 2 t u n [] ns (length ns) (suc i) (omega (arith, y.0)), ← longer_none (length ns), by_rows [] ns (suc i) tt y.2)
  by_rows (m ∷ ms) [] i x y =
      rw (longer_some (suc (length ms)), here i m ms x.0, none_found i, skip_old 2 t u m ms [] (length ms) (suc i) (omega (arith, x.0)), ← longer_some (length ms), by_rows ms [] (suc i) x.2 tt)
  by_rows (m ∷ ms) (n ∷ ns) i x y =
      rw (
        longer_both (length ms) (length ns),
        here i m ms x.0,
        here i n ns y.0,
        skip_old 2 t u m ms (n ∷ ns) (longer (length ms) (length ns)) (suc i) (omega (arith, x.0)),
        skip_new 2 t u n ms ns (longer (length ms) (length ns)) (suc i) (omega (arith, y.0)),
        by_rows ms ns (suc i) x.2 y.2,
      )
      (ap (λ (b : Bool). given (not b) (record { what = 2; owner = suc t; owner' = suc u; member = suc m.row; member' = suc n.row }) ++ row_differences S T t u (paired (rows_in ms) (rows_in ns)))
      (ap₂ same_ty x.1 y.1))

  pub required_is : required_differences S T t u ≡ row_differences S T t u (paired (those (is_required S) (own_rows S t)) (those (is_required T) (own_rows T u)))
  unfolding required_differences required_members
  required_is =
      by_rows (requireds_in S (trees S) 0 (own_rows S t)) (requireds_in T (trees T) 0 (own_rows T u)) 0 (requireds_keyed S (own_rows S t) 0) (requireds_keyed T (own_rows T u) 0)
      ∙ rw (requireds_rows S (own_rows S t) 0, requireds_rows T (own_rows T u) 0)

  not_empty : (d : Difference) (l : List Difference) → false ≡ eqb (length (d ∷ l)) 0
  not_empty d l = sym (ne_eqb (suc (length l)) 0 (λ z. omega arith))

  differ_rows : (ms ns : List Member) (i : ℕ) → Keyed S i ms → Keyed T i ns → required_match ms ns ≡ eqb (length (row_differences S T t u (paired (rows_in ms) (rows_in ns)))) 0
  unfolding required_match row_differences member_difference paired rows_in agree_rows given
  differ_rows [] [] i x y = refl
  differ_rows [] (n ∷ ns) i x y = not_empty (record { what = 2; owner = suc t; owner' = suc u; member = 0; member' = suc n.row }) (row_differences S T t u (paired [] (rows_in ns)))
  differ_rows (m ∷ ms) [] i x y = not_empty (record { what = 2; owner = suc t; owner' = suc u; member = suc m.row; member' = 0 }) (row_differences S T t u (paired (rows_in ms) []))
  differ_rows (m ∷ ms) (n ∷ ns) i x y = rw (x.1, y.1) (go (same_ty (member_ty S (trees S) m.row) (member_ty T (trees T) n.row)) (differ_rows ms ns (suc i) x.2 y.2))
    where
      go : (b : Bool) → required_match ms ns ≡ eqb (length (row_differences S T t u (paired (rows_in ms) (rows_in ns)))) 0
          → b && required_match ms ns ≡ eqb (length (given (not b) (record { what = 2; owner = suc t; owner' = suc u; member = suc m.row; member' = suc n.row }) ++ row_differences S T t u (paired (rows_in ms) (rows_in ns)))) 0
      go true e = e
      go false e = not_empty (record { what = 2; owner = suc t; owner' = suc u; member = suc m.row; member' = suc n.row }) (row_differences S T t u (paired (rows_in ms) (rows_in ns)))

  -- required members match exactly if they have no difference
  pub required_match_lem : required_match (required_members S t) (required_members T u) ≡ eqb (length (required_differences S T t u)) 0
  unfolding required_differences required_members
  required_match_lem =
      differ_rows (requireds_in S (trees S) 0 (own_rows S t)) (requireds_in T (trees T) 0 (own_rows T u)) 0 (requireds_keyed S (own_rows S t) 0) (requireds_keyed T (own_rows T u) 0)
      ∙ ap (λ (l : List Difference). eqb (length l) 0) (sym (by_rows (requireds_in S (trees S) 0 (own_rows S t)) (requireds_in T (trees T) 0 (own_rows T u)) 0 (requireds_keyed S (own_rows S t) 0) (requireds_keyed T (own_rows T u) 0)))

members_most : (w t u : ℕ) (ms ns : List Member) (ks : List ℕ) → length (member_differences w t u ms ns ks) ≤ length ks
unfolding member_differences given
members_most w t u ms ns [] = omega arith
members_most w t u ms ns (k ∷ ks) = go (agree (lookup k ms) (lookup k ns)) (members_most w t u ms ns ks)
  where
    go : (b : Bool) → length (member_differences w t u ms ns ks) ≤ length ks
        → length (given (not b) (record { what = w; owner = suc t; owner' = suc u; member = member_row (lookup k ms); member' = member_row (lookup k ns) }) ++ member_differences w t u ms ns ks) ≤ suc (length ks)
    go true h = omega arith
    go false h = omega arith

longer_most : (a b : ℕ) → longer a b ≤ a + b
unfolding longer
longer_most a b = go (leb a b)
  where
    go : (c : Bool) → pick c b a ≤ a + b
    go true = omega arith
    go false = omega arith

insert_length : (a : ℕ) (l : List ℕ) → length (insert ltb a l) ≡ suc (length l)
unfolding insert
insert_length a [] = refl
insert_length a (b ∷ l) = go (ltb b a) (insert_length a l)
  where
    go : (c : Bool) → length (insert ltb a l) ≡ suc (length l) → length (pick c (b ∷ insert ltb a l) (a ∷ b ∷ l)) ≡ suc (suc (length l))
    go true e = ap suc e
    go false e = refl

ordered_length : (l : List ℕ) → length (ordered ltb l) ≡ length l
unfolding ordered
ordered_length [] = refl
ordered_length (a ∷ l) = insert_length a (ordered ltb l) ∙ ap suc (ordered_length l)

keys_length : (ms : List Member) → length (keys ms) ≡ length ms
unfolding keys
keys_length [] = refl
keys_length (m ∷ ms) = ap suc (keys_length ms)

without_most : (ms ns : List Member) → length (keys_without ms ns) ≤ length ns
unfolding keys_without
without_most ms [] = omega arith
without_most ms (n ∷ ns) = go (is_there (lookup n.key ms)) (without_most ms ns)
  where
    go : (b : Bool) → length (keys_without ms ns) ≤ length ns → length (pick b (keys_without ms ns) (n.key ∷ keys_without ms ns)) ≤ suc (length ns)
    go true h = omega arith
    go false h = omega arith

-- how many differences there are at most
module _ (S T : List ℕ) (t u : ℕ) where
  pub required_most : length (required_differences S T t u) ≤ field S t 1 + field T u 1
  unfolding required_differences
  required_most =
      omega (
        arith,
        members_most 2 t u (required_members S t) (required_members T u) (range 0 (longer (length (required_members S t)) (length (required_members T u)))),
        length_range 0 (longer (length (required_members S t)) (length (required_members T u))),
        longer_most (length (required_members S t)) (length (required_members T u)),
        own_sum S t,
        own_sum T u,
      )

  pub optional_most : length (optional_differences S T t u) ≤ field S t 1 + field T u 1
  unfolding optional_differences tags_of
  optional_most =
      omega (
        arith,
        members_most 3 t u (optional_members S t) (optional_members T u) (tags_of (optional_members S t) (optional_members T u)),
        ordered_length (keys (optional_members S t) ++ keys_without (optional_members S t) (optional_members T u)),
        length-append (keys (optional_members S t)) (keys_without (optional_members S t) (optional_members T u)),
        keys_length (optional_members S t),
        without_most (optional_members S t) (optional_members T u),
        own_sum S t,
        own_sum T u,
      )
