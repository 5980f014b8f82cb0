-- What an enum row of a valid table allows is what the table says: up to the greatest, or the entries of its list. The normal form keeps the set,
-- since a list of g + 1 entries that rises to g has each number up to g at its own place; and each set has one normal form.
--
--   rises_least, rises_most       on a list that rises to g, an entry is at least its place and at most g
--   Normal, normal_same           the form of a set; two forms of one set are equal
--   among_enumerator, enumerator_among   what the form allows are the row's enumerators, and back
--   has_tree                      a row of a valid table has a tree; enum_tree that of an enum
--   allowed_normal                an enum row of a valid table has such a form
--   types_rise, exact_enums       the lists in types rise; a value of an enum is the size of one of its enumerators; exact_old_enums: in 1.0
use Rattle.std.specs.Prelude.{◌≡◌, Bool, List, [], ◌∷◌, ℕ, zero, suc, ◌+◌, ◌-◌, ◌*◌, ◌≤◌, ◌<◌, length, get_or}
use Rattle.std.proofs.Math.Path.{refl}
use Rattle.std.proofs.Common.{sym, ap, ap₂, ◌∙◌, subst}
use Rattle.std.proofs.Math.Bool.{true, false}
use native.Mathlib.Omega.{arith}
use Rattle.std.proofs.Math.Decide.{ℕ_discrete}
use Rattle.std.proofs.Math.Dec.{eqb}
use borrow.Author.Tests.{eqb-true, eqb-false, le-leb}
use Rattle.encoding.specs.Result.{pick}
use Rattle.encoding.specs.Types.{Allowed, upto, only, allowed_of, enum}
use Rattle.encoding.specs.Number.{val}
use Rattle.encoding.specs.Grammar.{Among, Greatest, IsSize, IsEnum, enumerator, OldWidth, IsOldEnum, old_enumerator, IsValue, Rises}
use Rattle.encoding.specs.Table.{at, version, with_lists, types, type_rows, kind, field, greatest, list_entry, entries_of, has_list, allowed, ty_of}
use Rattle.encoding.proofs.TableLaws.{row_enum}
use Rattle.encoding.specs.Old.{as_old}
use Rattle.encoding.proofs.OldLaws.{rises_as}
use Rattle.encoding.proofs.AllowedLaws.{rises_apart}
use Rattle.encoding.proofs.ListLaws.{length_entries, entry_at_lem, Reaches, list_reaches, type_rises}
use Rattle.encoding.proofs.ExactLaws.{exact_is, is_exact}
use Rattle.encoding.specs.Valid.{Valid, version_1, version_2, ValidVersion}
use Rattle.encoding.specs.Agree.{Enumerator, of_range, of_entry}
use Rattle.laws.specs.Demands.{TypesRise, ExactEnums, ExactOldEnums}
use Rattle.laws.proofs.TableExact.{sound}

-- ---- a list that rises to its greatest

rises_least : (l : List ℕ) → Rises l → (i : ℕ) → i < length l → i ≤ get_or l i 0
rises_least l R zero h = omega arith
rises_least l R (suc i) h = omega (arith, rises_least l R i (omega arith), R i h)

module _ (g : ℕ) (l : List ℕ) (R : Reaches g l) where
  last_place : (i : ℕ) × (suc i ≡ length l)
  last_place = go (length l) refl
    where
      go : (n : ℕ) → length l ≡ n → (i : ℕ) × (suc i ≡ length l)
      go zero e = absurd (omega (arith, R.some))
      go (suc i) e = (i, sym e)

  rises_most : (i : ℕ) → i < length l → get_or l i 0 ≤ g
  rises_most i h =
      let j = last_place.0 in
      let e = R.last j last_place.1 in
      elim (ℕ_discrete i j) [ yes q ↦ omega (arith, ap (λ (x : ℕ). get_or l x 0) q, e) | no q ↦ omega (arith, e, rises_apart l R.rises i j (omega (arith, q, last_place.1)) (omega (arith, last_place.1))) ]

  last_among : Among (only l) g
  last_among = (last_place.0, omega (arith, last_place.1), R.last last_place.0 last_place.1)

  length_most : length l ≤ suc g
  length_most = omega (arith, last_place.1, R.last last_place.0 last_place.1, rises_least l R.rises last_place.0 (omega (arith, last_place.1)))

  -- where it has as many entries as there are numbers up to g, each number is at its own place
  whole_at : length l ≡ suc g → (k i : ℕ) → i + k ≡ g → get_or l i 0 ≡ i
  whole_at e zero i q = let m = rises_most i (omega arith) in omega (arith, rises_least l R.rises i (omega arith))
  whole_at e (suc k) i q =
      omega (arith, whole_at e k (suc i) (omega arith), R.rises i (omega arith), rises_least l R.rises i (omega arith))

  -- a list with all numbers up to g has as many entries
  all_there : ((n : ℕ) → n ≤ g → Among (only l) n) → (n : ℕ) → n ≤ g → (n < length l) × (get_or l n 0 ≡ n)
  all_there A zero h =
      let w = A 0 h in
      let i : w.0 ≡ 0 = omega (arith, rises_least l R.rises w.0 w.1, w.2) in
      (omega (arith, w.1), ap (λ (x : ℕ). get_or l x 0) (sym i) ∙ w.2)
  all_there A (suc n) h =
      let w = A (suc n) h in
      let before = all_there A n (omega arith) in
      let most : w.0 ≤ suc n = omega (arith, rises_least l R.rises w.0 w.1, w.2) in
      let i : w.0 ≡ suc n = go w.0 w.1 w.2 most before in
      (omega (arith, w.1, i), ap (λ (x : ℕ). get_or l x 0) (sym i) ∙ w.2)
    where
      go : (i : ℕ) → i < length l → get_or l i 0 ≡ suc n → i ≤ suc n → (n < length l) × (get_or l n 0 ≡ n) → i ≡ suc n
      go i k e m b =
          elim (ℕ_discrete i (suc n)) [
            | yes q ↦ q
            | no q ↦ elim (ℕ_discrete i n) [
              | yes z ↦ absurd (omega (arith, ap (λ (x : ℕ). get_or l x 0) z, e, b.1))
              | no z ↦ absurd (omega (arith, rises_apart l R.rises i n (omega (arith, q, z, m)) b.0, e, b.1))
            ]
          ]

-- ---- each set has one form

abbrev pub Normal : Allowed → Type 0
Normal (upto g) = Unit {0}
Normal (only l) = (g : ℕ) × Reaches g l × (length l ≡ suc g → ⊥)

abbrev SameSet : Allowed → Allowed → Type 0
SameSet a b = (n : ℕ) → (Among a n → Among b n) × (Among b n → Among a n)

-- a list with holes is not all up to a greatest
upto_only : (g : ℕ) (l : List ℕ) → Normal (only l) → SameSet (upto g) (only l) → ⊥
upto_only g l N S =
    let h = N.0 in
    let w = (S g).0 (omega arith) in
    let low : h ≤ g = (S h).1 (last_among h l N.1) in
    let high : g ≤ h = omega (arith, w.2, rises_most h l N.1 w.0 w.1) in
    let there = all_there h l N.1 (λ n k. (S n).0 (omega arith)) h (omega arith) in
    N.2 (omega (arith, there.0, length_most h l N.1))

-- lists that rise and have the same entries are equal
tail_rises : (x : ℕ) (l : List ℕ) → Rises (x ∷ l) → Rises l
tail_rises x l R i h = R (suc i) (omega arith)

head_least : (x : ℕ) (l : List ℕ) → Rises (x ∷ l) → (n : ℕ) → Among (only l) n → x < n
head_least x l R n w = omega (arith, rises_apart (x ∷ l) R 0 (suc w.0) (omega arith) (omega (arith, w.1)), w.2)

head_most : (x : ℕ) (l : List ℕ) → Rises (x ∷ l) → (n : ℕ) → Among (only (x ∷ l)) n → x ≤ n
head_most x l R n (zero, h, e) = omega arith
head_most x l R n (suc i, h, e) = let k = head_least x l R n (i, omega arith, e) in omega arith

in_tail : (x : ℕ) (l : List ℕ) (n : ℕ) → x < n → Among (only (x ∷ l)) n → Among (only l) n
in_tail x l n k (zero, h, e) = absurd (omega arith)
in_tail x l n k (suc i, h, e) = (i, omega arith, e)

lists_same : (l m : List ℕ) → Rises l → Rises m → SameSet (only l) (only m) → l ≡ m
lists_same [] [] R Q S = refl
lists_same [] (y ∷ m) R Q S = let w = (S y).1 (0, omega arith, refl) in absurd (omega (arith, w.1))
lists_same (x ∷ l) [] R Q S = let w = (S x).0 (0, omega arith, refl) in absurd (omega (arith, w.1))
lists_same (x ∷ l) (y ∷ m) R Q S =
    let a = head_most y m Q x ((S x).0 (0, omega arith, refl)) in
    let b = head_most x l R y ((S y).1 (0, omega arith, refl)) in
    let e : x ≡ y = omega arith in
    ap₂ (λ (z : ℕ) (r : List ℕ). z ∷ r) e (lists_same l m (tail_rises x l R) (tail_rises y m Q) (λ n. (
      λ w. let k = head_least x l R n w in in_tail y m n (omega arith) ((S n).0 (suc w.0, omega (arith, w.1), w.2)),
      λ w. let k = head_least y m Q n w in in_tail x l n (omega arith) ((S n).1 (suc w.0, omega (arith, w.1), w.2)),
    )))

pub normal_same : (a b : Allowed) → Normal a → Normal b → SameSet a b → a ≡ b
normal_same (upto g) (upto h) N M S = ap upto (let x : g ≤ h = (S g).0 (omega arith) in let y : h ≤ g = (S h).1 (omega arith) in omega arith)
normal_same (upto g) (only l) N M S = absurd (upto_only g l M S)
normal_same (only l) (upto g) N M S = absurd (upto_only g l N (λ n. ((S n).1, (S n).0)))
normal_same (only l) (only m) N M S = ap only (lists_same l m N.1.rises M.1.rises S)

-- ---- an enum row of a valid table

pub has_tree : (T : List ℕ) → Valid T → (t : ℕ) → t < types T → t < type_rows T
unfolding type_rows
has_tree T S t l = rw (le-leb (types T) 256 S.header.types_most) l

module _ (T : List ℕ) (S : Valid T) (t : ℕ) (below : t < types T) (k : kind T t ≡ 8) where
  reaches : version T ≡ 2 → Reaches (greatest T t) (entries_of T t)
  unfolding has_list with_lists
  reaches e = list_reaches T (sound T S) t below (rw (e, k))

  pub allowed_normal : Normal (allowed T t)
  unfolding allowed allowed_of with_lists
  allowed_normal = go (eqb (version T) 2) refl (eqb (length (entries_of T t)) (suc (greatest T t))) refl
    where
      go : (b : Bool) → eqb (version T) 2 ≡ b → (c : Bool) → eqb (length (entries_of T t)) (suc (greatest T t)) ≡ c
          → Normal (pick b (pick c (upto (greatest T t)) (only (entries_of T t))) (upto (greatest T t)))
      go true e true q = tt
      go true e false q = (greatest T t, reaches (eqb-true (version T) 2 e), eqb-false (length (entries_of T t)) (suc (greatest T t)) q)
      go false e c q = tt

  -- an entry is an enumerator, and back
  entry_listed : version T ≡ 2 → (n : ℕ) → Among (only (entries_of T t)) n → Enumerator T t n
  unfolding version
  entry_listed e n w = let h : w.0 < field T t 3 = omega (arith, w.1, length_entries T t) in of_entry e w.0 h (sym (entry_at_lem T t w.0 h) ∙ w.2)

  listed_entry : (n i : ℕ) → i < field T t 3 → list_entry T (field T t 2 + i) ≡ n → Among (only (entries_of T t)) n
  listed_entry n i h e = (i, omega (arith, length_entries T t), entry_at_lem T t i h ∙ e)

  pub among_enumerator : (n : ℕ) → Among (allowed T t) n → Enumerator T t n
  unfolding allowed allowed_of with_lists version greatest
  among_enumerator n = go S.header.versioned (eqb (at T 2 3) 2) refl (eqb (length (entries_of T t)) (suc (field T t 0 + 65536 * field T t 1))) refl
    where
      go : ValidVersion T → (b : Bool) → eqb (at T 2 3) 2 ≡ b → (c : Bool) → eqb (length (entries_of T t)) (suc (field T t 0 + 65536 * field T t 1)) ≡ c
          → Among (pick b (pick c (upto (field T t 0 + 65536 * field T t 1)) (only (entries_of T t))) (upto (field T t 0 + 65536 * field T t 1))) n → Enumerator T t n
      go v true e true q w =
          let R = reaches (eqb-true (at T 2 3) 2 e) in
          let z = eqb-true (length (entries_of T t)) (suc (greatest T t)) q in
          entry_listed (eqb-true (at T 2 3) 2 e) n (n, omega arith, whole_at (greatest T t) (entries_of T t) R z (field T t 0 + 65536 * field T t 1 - n) n (omega arith))
      go v true e false q w = entry_listed (eqb-true (at T 2 3) 2 e) n w
      go (version_1 v l) false e c q w = of_range v w
      go (version_2 v m l) false e c q w = absurd (eqb-false (at T 2 3) 2 e v)

  pub enumerator_among : (n : ℕ) → Enumerator T t n → Among (allowed T t) n
  unfolding allowed allowed_of with_lists version greatest
  enumerator_among n (of_range v w) = rw v w
  enumerator_among n (of_entry v i h e) = rw v (go (eqb (length (entries_of T t)) (suc (field T t 0 + 65536 * field T t 1))))
    where
      go : (c : Bool) → Among (pick c (upto (field T t 0 + 65536 * field T t 1)) (only (entries_of T t))) n
      go true = omega (arith, entry_at_lem T t i h, e, rises_most (greatest T t) (entries_of T t) (reaches v) i (omega (arith, length_entries T t)))
      go false = listed_entry n i h e

  pub enum_tree : ty_of T t ≡ enum (allowed T t)
  enum_tree = row_enum T t (has_tree T S t below) k

  -- the greatest of them is the row's
  allowed_greatest : Greatest (allowed T t) (greatest T t)
  unfolding allowed allowed_of with_lists
  allowed_greatest = go (eqb (version T) 2) refl (eqb (length (entries_of T t)) (suc (greatest T t)))
    where
      go : (b : Bool) → eqb (version T) 2 ≡ b → (c : Bool) → Greatest (pick b (pick c (upto (greatest T t)) (only (entries_of T t))) (upto (greatest T t))) (greatest T t)
      go true e true = record { among = omega arith; most = λ n w. w }
      go true e false =
          let R = reaches (eqb-true (version T) 2 e) in
          record { among = last_among (greatest T t) (entries_of T t) R; most = λ n w. omega (arith, w.2, rises_most (greatest T t) (entries_of T t) R w.0 w.1) }
      go false e c = record { among = omega arith; most = λ n w. w }

-- ---- the promises

pub types_rise : TypesRise
types_rise T S old t = rises_as old (ty_of T t) (type_rises T (sound T S) t)

pub exact_enums : ExactEnums
unfolding IsValue
exact_enums T S t l k b = (
  λ h. read (subst (λ u. IsValue u b) (enum_tree T S t l k) (exact_is (ty_of T t) (types_rise T S false t) b h)),
  λ n e z. is_exact (ty_of T t) (types_rise T S false t) b (subst (λ u. IsValue u b) (sym (enum_tree T S t l k)) (enumerator (enumerator_among T S t l k n e) z)),
)
  where
    read : IsEnum (allowed T t) b → (n : ℕ) × Enumerator T t n × IsSize n b
    read (enumerator {n} a z) = (n, among_enumerator T S t l k n a, z)

pub exact_old_enums : ExactOldEnums
unfolding IsValue as_old greatest
exact_old_enums T S t l k b = (
  λ h. read (subst (λ u. IsValue (as_old u) b) (enum_tree T S t l k) (exact_is (as_old (ty_of T t)) (types_rise T S true t) b h)),
  λ e w. is_exact (as_old (ty_of T t)) (types_rise T S true t) b
      (subst (λ u. IsValue (as_old u) b) (sym (enum_tree T S t l k)) (old_enumerator (allowed_greatest T S t l k) w (enumerator_among T S t l k (val b) e))),
)
  where
    read : IsOldEnum (allowed T t) b → Enumerator T t (val b) × OldWidth (field T t 0 + 65536 * field T t 1) (length b)
    read (old_enumerator {g = h} G w a) =
        let M = allowed_greatest T S t l k in
        let same : h ≡ field T t 0 + 65536 * field T t 1 = omega (arith, M.most h G.among, G.most (field T t 0 + 65536 * field T t 1) M.among) in
        (among_enumerator T S t l k (val b) a, subst (λ (x : ℕ). OldWidth x (length b)) same w)
