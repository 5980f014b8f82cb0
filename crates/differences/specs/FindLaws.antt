-- The list of differences holds exactly the differences: membership goes through each step that builds the list. Assumes nothing.
--
--   in_..           members of lists that are joined, put in order, chosen and paired
--   pair_..         which pairs are set against each other
--   difference_ok, difference_step, compare_finds    each listed difference is one, and each one is listed; the promise
use Rattle.std.specs.Prelude.{◌≡◌, Bool, ◌⊎◌, length, leb, ltb}
use Rattle.std.proofs.Math.Path.{refl, sym, ap, subst}
use Rattle.std.proofs.Common.{ap₂, ◌∙◌, add-zero}
use Rattle.std.proofs.Math.Bool.{true, false, not, true≢false}
use Rattle.std.proofs.lemmas.Bool.{false≢true}
use Rattle.std.proofs.Math.Option.{Option, none, some}
use Rattle.std.proofs.Math.Logic.{inl, inr}
use mathlib.Core.List.{List, [], ◌∷◌, ◌++◌}
use Prim.Native.Nat.{ℕ, zero, suc, ◌+◌, ◌-◌, ◌≤◌, ◌<◌}
use native.Mathlib.Omega.{arith}
use Rattle.std.proofs.Math.Dec.{eqb}
use borrow.Author.Tests.{eqb-true, leb-true, leb-false, not-true, eq-eqb}
use Rattle.encoding.specs.Result.{pick, same_bytes}
use Rattle.encoding.proofs.ResultLaws.{some≢none, same_bytes_ok, same_bytes_same}
use Rattle.encoding.specs.Types.{Ty}
use Rattle.encoding.specs.Table.{types, kind, is_record, Fault, fine, faults, Member, lookup, range, name_of, base}
use Rattle.encoding.specs.Table
use Rattle.encoding.proofs.RuleLaws.{names_differ, base_right}
use Rattle.encoding.specs.Extends.{SameRecord, BasesMatch, type_of}
use Rattle.differences.specs.Compare
use Rattle.differences.specs.Compare.{same_ty, insert, ordered, those, rows_of, records, lists, same_record, partner, Pair, old_pairs, new_pairs, record_pairs, paired, list_pairs, Difference, bases_differ, given, base_difference, agree, member_row, member_differences, longer, required_differences, is_there, keys, keys_without, tags_of, optional_differences, owner_differences, pair_differences, all_differences, differences}
use Rattle.differences.specs.CompareDemands.{lists_before, ListNumber, Paired, as_records, as_lists, MembersDiffer, five, Differs, record_only_old, record_only_new, list_only_old, list_only_new, base_differs, required_differs, optional_differs, In, CompareFinds}
use Rattle.differences.specs.CompareLaws.{ty_ok, ty_equal, Partnered, found, alone, partnered, new_record, some_same}

-- ---- members of lists

pub in_append : {A : Type 0} (a : A) (l k : List A) → In a (l ++ k) → In a l ⊎ In a k
in_append a [] k i = inr i
in_append a (x ∷ l) k (inl e) = inl (inl e)
in_append a (x ∷ l) k (inr i) = go (in_append a l k i)
  where
    go : In a l ⊎ In a k → In a (x ∷ l) ⊎ In a k
    go (inl j) = inl (inr j)
    go (inr j) = inr j

in_left : {A : Type 0} (a : A) (l k : List A) → In a l → In a (l ++ k)
in_left a [] k i = absurd i
in_left a (x ∷ l) k (inl e) = inl e
in_left a (x ∷ l) k (inr i) = inr (in_left a l k i)

in_right : {A : Type 0} (a : A) (l k : List A) → In a k → In a (l ++ k)
in_right a [] k i = i
in_right a (x ∷ l) k i = inr (in_right a l k i)

module _ {A : Type 0} (less : A → A → Bool) where
  pub insert_ok : (x a : A) (l : List A) → In x (insert less a l) → (x ≡ a) ⊎ In x l
  unfolding insert
  insert_ok x a [] i = i
  insert_ok x a (b ∷ l) i = go (less b a) i (λ j. insert_ok x a l j)
    where
      later : (x ≡ a) ⊎ In x l → (x ≡ a) ⊎ In x (b ∷ l)
      later (inl e) = inl e
      later (inr j) = inr (inr j)

      go : (t : Bool) → In x (pick t (b ∷ insert less a l) (a ∷ b ∷ l)) → (In x (insert less a l) → (x ≡ a) ⊎ In x l) → (x ≡ a) ⊎ In x (b ∷ l)
      go true (inl e) ih = inr (inl e)
      go true (inr j) ih = later (ih j)
      go false (inl e) ih = inl e
      go false (inr j) ih = inr j

  insert_here : (a : A) (l : List A) → In a (insert less a l)
  unfolding insert
  insert_here a [] = inl refl
  insert_here a (b ∷ l) = go (less b a) (insert_here a l)
    where
      go : (t : Bool) → In a (insert less a l) → In a (pick t (b ∷ insert less a l) (a ∷ b ∷ l))
      go true j = inr j
      go false j = inl refl

  insert_there : (x a : A) (l : List A) → In x l → In x (insert less a l)
  unfolding insert
  insert_there x a [] i = absurd i
  insert_there x a (b ∷ l) i = go (less b a) i (λ j. insert_there x a l j)
    where
      go : (t : Bool) → In x (b ∷ l) → (In x l → In x (insert less a l)) → In x (pick t (b ∷ insert less a l) (a ∷ b ∷ l))
      go true (inl e) ih = inl e
      go true (inr j) ih = inr (ih j)
      go false j ih = inr j

  pub ordered_ok : (x : A) (l : List A) → In x (ordered less l) → In x l
  unfolding ordered
  ordered_ok x [] i = i
  ordered_ok x (a ∷ l) i = go (insert_ok x a (ordered less l) i) (λ j. ordered_ok x l j)
    where
      go : (x ≡ a) ⊎ In x (ordered less l) → (In x (ordered less l) → In x l) → In x (a ∷ l)
      go (inl e) ih = inl e
      go (inr j) ih = inr (ih j)

  ordered_step : (x : A) (l : List A) → In x l → In x (ordered less l)
  unfolding ordered
  ordered_step x [] i = i
  ordered_step x (a ∷ l) (inl e) = subst (λ (y : A). In x (insert less y (ordered less l))) e (insert_here x (ordered less l))
  ordered_step x (a ∷ l) (inr i) = insert_there x a (ordered less l) (ordered_step x l i)

-- ---- rows that pass a test

pub strict : (x y : ℕ) → (x ≡ y → ⊥) → x ≤ y → suc x ≤ y
strict x y n l = omega arith

pub those_ok : (f : ℕ → Bool) (i k t : ℕ) → In t (those f (range i k)) → (i ≤ t) × (t < i + k) × (f t ≡ true)
unfolding those range
those_ok f i zero t j = absurd j
those_ok f i (suc k) t j = go (f i) refl j (λ w. those_ok f (suc i) k t w)
  where
    later : (suc i ≤ t) × (t < suc i + k) × (f t ≡ true) → (i ≤ t) × (t < i + suc k) × (f t ≡ true)
    later r = (omega (arith, r.0), omega (arith, r.1), r.2)

    go : (b : Bool) → f i ≡ b → In t (pick b (i ∷ those f (range (suc i) k)) (those f (range (suc i) k))) → (In t (those f (range (suc i) k)) → (suc i ≤ t) × (t < suc i + k) × (f t ≡ true))
        → (i ≤ t) × (t < i + suc k) × (f t ≡ true)
    go true e (inl q) ih = (omega (arith, q), omega (arith, q), ap f q ∙ e)
    go true e (inr w) ih = later (ih w)
    go false e w ih = later (ih w)

those_step : (f : ℕ → Bool) (i k t : ℕ) → i ≤ t → t < i + k → f t ≡ true → In t (those f (range i k))
unfolding those range
those_step f i zero t a b e = absurd (omega arith)
those_step f i (suc k) t a b e = go (eqb i t) refl (f i) refl (λ w. those_step f (suc i) k t w (omega arith) e)
  where
    go : (c : Bool) → eqb i t ≡ c → (d : Bool) → f i ≡ d → (suc i ≤ t → In t (those f (range (suc i) k))) → In t (pick d (i ∷ those f (range (suc i) k)) (those f (range (suc i) k)))
    go true q true v ih = inl (sym (eqb-true i t q))
    go true q false v ih = absurd (true≢false (sym e ∙ ap f (sym (eqb-true i t q)) ∙ v))
    go false q true v ih = inr (ih (strict i t (λ z. true≢false (sym (eq-eqb i t z) ∙ q)) a))
    go false q false v ih = ih (strict i t (λ z. true≢false (sym (eq-eqb i t z) ∙ q)) a)

pub range_ok : (i k t : ℕ) → In t (range i k) → (i ≤ t) × (t < i + k)
unfolding range
range_ok i zero t j = absurd j
range_ok i (suc k) t (inl e) = (omega (arith, e), omega (arith, e))
range_ok i (suc k) t (inr j) = let r = range_ok (suc i) k t j in (omega (arith, r.0), omega (arith, r.1))

range_step : (i k t : ℕ) → i ≤ t → t < i + k → In t (range i k)
unfolding range
range_step i zero t a b = absurd (omega arith)
range_step i (suc k) t a b = go (eqb i t) refl (λ w. range_step (suc i) k t w (omega arith))
  where
    go : (c : Bool) → eqb i t ≡ c → (suc i ≤ t → In t (range (suc i) k)) → In t (i ∷ range (suc i) k)
    go true q ih = inl (sym (eqb-true i t q))
    go false q ih = inr (ih (strict i t (λ z. true≢false (sym (eq-eqb i t z) ∙ q)) a))

pub record_rows : (T : List ℕ) (t : ℕ) → In t (records T) → (t < types T) × (is_record (kind T t) ≡ true)
unfolding records rows_of
record_rows T t i = let r = those_ok (λ t. is_record (kind T t)) 0 (types T) t i in (omega (arith, r.1), r.2)

record_row : (T : List ℕ) (t : ℕ) → t < types T → is_record (kind T t) ≡ true → In t (records T)
unfolding records rows_of
record_row T t l r = those_step (λ t. is_record (kind T t)) 0 (types T) t (omega arith) (omega arith) r

-- ---- parameter lists by their number

-- the element of a number
abbrev pub Nth : {A : Type 0} → A → List A → ℕ → Type 0
Nth a [] k = ⊥
Nth a (b ∷ l) zero = a ≡ b
Nth a (b ∷ l) (suc k) = Nth a l k

module _ (T : List ℕ) where
  abbrev pub is_list : ℕ → Bool
  is_list t = eqb (kind T t) 15

  before_next : (t : ℕ) → lists_before T (suc t) ≡ lists_before T t + pick (is_list t) 1 0
  unfolding lists_before
  before_next t = refl

  pub before_is : (t : ℕ) → is_list t ≡ true → lists_before T (suc t) ≡ lists_before T t + 1
  before_is t e = before_next t ∙ ap (λ (b : Bool). lists_before T t + pick b 1 0) e

  before_not : (t : ℕ) → is_list t ≡ false → lists_before T (suc t) ≡ lists_before T t
  before_not t e = before_next t ∙ ap (λ (b : Bool). lists_before T t + pick b 1 0) e ∙ add-zero (lists_before T t)

  abbrev Number : ℕ → ℕ → ℕ → ℕ → Type 0
  Number t i n k = (i ≤ t) × (t < i + n) × (is_list t ≡ true) × (lists_before T t ≡ lists_before T i + k)

  nth_ok : (i n t k : ℕ) → Nth t (those is_list (range i n)) k → Number t i n k
  unfolding those range
  nth_ok i zero t k w = absurd w
  nth_ok i (suc n) t k w = go k (is_list i) refl w (λ j v. nth_ok (suc i) n t j v)
    where
      go : (k : ℕ) (b : Bool) → is_list i ≡ b → Nth t (pick b (i ∷ those is_list (range (suc i) n)) (those is_list (range (suc i) n))) k → ((j : ℕ) → Nth t (those is_list (range (suc i) n)) j → Number t (suc i) n j) → Number t i (suc n) k
      go zero true e v ih = (omega (arith, v), omega (arith, v), ap is_list v ∙ e, ap (lists_before T) v ∙ sym (add-zero (lists_before T i)))
      go (suc k) true e v ih = let r = ih k v in (omega (arith, r.0), omega (arith, r.1), r.2, omega (arith, r.3, before_is i e))
      go k false e v ih = let r = ih k v in (omega (arith, r.0), omega (arith, r.1), r.2, omega (arith, r.3, before_not i e))

  pub before_rises : (t k : ℕ) → lists_before T t ≤ lists_before T (t + k)
  before_rises t zero = rw (add-zero t) (omega arith)
  before_rises t (suc k) = let e : t + suc k ≡ suc (t + k) = omega arith in rw e (omega (arith, before_next (t + k), before_rises t k))

  pub lists_risen : (i t : ℕ) → suc i ≤ t → is_list i ≡ true → lists_before T t ≡ lists_before T i + 0 → ⊥
  lists_risen i t l v e = go (t - suc i) (omega arith)
    where
      go : (k : ℕ) → suc i + k ≡ t → ⊥
      go k q = let z = ap (lists_before T) q in omega (arith, z, e, before_rises (suc i) k, before_is i v)

  nth_step : (i n t k : ℕ) → Number t i n k → Nth t (those is_list (range i n)) k
  unfolding those range
  nth_step i zero t k r = absurd (omega (arith, r.0, r.1))
  nth_step i (suc n) t k r = go (eqb i t) refl (is_list i) refl k r.3 (λ j l e. nth_step (suc i) n t j (l, omega (arith, r.1), r.2, e))
    where
      go : (c : Bool) → eqb i t ≡ c → (d : Bool) → is_list i ≡ d → (k : ℕ) → lists_before T t ≡ lists_before T i + k → ((j : ℕ) → suc i ≤ t → lists_before T t ≡ lists_before T (suc i) + j → Nth t (those is_list (range (suc i) n)) j)
          → Nth t (pick d (i ∷ those is_list (range (suc i) n)) (those is_list (range (suc i) n))) k
      go true q true v zero e ih = sym (eqb-true i t q)
      go true q true v (suc k) e ih = let z = ap (lists_before T) (eqb-true i t q) in absurd (omega (arith, z, e))
      go true q false v k e ih = absurd (true≢false (sym r.2 ∙ ap is_list (sym (eqb-true i t q)) ∙ v))
      go false q true v zero e ih = let l = strict i t (λ z. true≢false (sym (eq-eqb i t z) ∙ q)) r.0 in absurd (lists_risen i t l v e)
      go false q true v (suc k) e ih = ih k (strict i t (λ z. true≢false (sym (eq-eqb i t z) ∙ q)) r.0) (omega (arith, e, before_is i v))
      go false q false v k e ih = ih k (strict i t (λ z. true≢false (sym (eq-eqb i t z) ∙ q)) r.0) (omega (arith, e, before_not i v))

  length_those : (i n : ℕ) → lists_before T (i + n) ≡ lists_before T i + length (those is_list (range i n))
  unfolding those range
  length_those i zero = ap (lists_before T) (add-zero i) ∙ sym (add-zero (lists_before T i))
  length_those i (suc n) = go (is_list i) refl (length_those (suc i) n)
    where
      moved : i + suc n ≡ suc i + n
      moved = omega arith

      go : (b : Bool) → is_list i ≡ b → lists_before T (suc i + n) ≡ lists_before T (suc i) + length (those is_list (range (suc i) n))
          → lists_before T (i + suc n) ≡ lists_before T i + length (pick b (i ∷ those is_list (range (suc i) n)) (those is_list (range (suc i) n)))
      go true q ih = ap (lists_before T) moved ∙ ih ∙ omega (arith, before_is i q)
      go false q ih = ap (lists_before T) moved ∙ ih ∙ omega (arith, before_not i q)

  pub list_ok : (t k : ℕ) → Nth t (lists T) k → ListNumber T t k
  unfolding lists rows_of lists_before
  list_ok t k w = let r = nth_ok 0 (types T) t k w in record { inside = omega (arith, r.1); a_list = eqb-true (kind T t) 15 r.2; number = r.3 ∙ omega arith }

  list_step : (t k : ℕ) → ListNumber T t k → Nth t (lists T) k
  unfolding lists rows_of lists_before
  list_step t k n = nth_step 0 (types T) t k (omega arith, omega (arith, n.inside), eq-eqb (kind T t) 15 n.a_list, n.number ∙ omega arith)

  lists_length : length (lists T) ≡ lists_before T (types T)
  unfolding lists rows_of lists_before
  lists_length = let z : 0 + types T ≡ types T = omega arith in let q = ap (lists_before T) z in omega (arith, length_those 0 (types T), q)

-- ---- pairs

pub data PairIs (ts us : List ℕ) (p : Pair) : Type 0 where
  both_lists : (t u k : ℕ) → Nth t ts k → Nth u us k → p ≡ (suc t, suc u) → PairIs ts us p
  one_old : (t k : ℕ) → Nth t ts k → length us ≤ k → p ≡ (suc t, 0) → PairIs ts us p
  one_new : (u k : ℕ) → Nth u us k → length ts ≤ k → p ≡ (0, suc u) → PairIs ts us p

pair_later : {t u : ℕ} {ts us : List ℕ} {p : Pair} → PairIs ts us p → PairIs (t ∷ ts) (u ∷ us) p
pair_later (both_lists t u k a b e) = both_lists t u (suc k) a b e
pair_later (one_old t k a l e) = one_old t (suc k) a (omega (arith, l)) e
pair_later (one_new u k a l e) = one_new u (suc k) a (omega (arith, l)) e

old_later : {t : ℕ} {ts : List ℕ} {p : Pair} → PairIs ts [] p → PairIs (t ∷ ts) [] p
old_later (both_lists t u k a b e) = absurd b
old_later (one_old t k a l e) = one_old t (suc k) a (omega arith) e
old_later (one_new u k a l e) = absurd a

new_later : {u : ℕ} {us : List ℕ} {p : Pair} → PairIs [] us p → PairIs [] (u ∷ us) p
new_later (both_lists t u k a b e) = absurd a
new_later (one_old t k a l e) = absurd a
new_later (one_new u k a l e) = one_new u (suc k) a (omega arith) e

pub paired_ok : (ts us : List ℕ) (p : Pair) → In p (paired ts us) → PairIs ts us p
unfolding paired
paired_ok [] [] p i = absurd i
paired_ok [] (u ∷ us) p (inl e) = one_new u 0 refl (omega arith) e
paired_ok [] (u ∷ us) p (inr i) = new_later (paired_ok [] us p i)
paired_ok (t ∷ ts) [] p (inl e) = one_old t 0 refl (omega arith) e
paired_ok (t ∷ ts) [] p (inr i) = old_later (paired_ok ts [] p i)
paired_ok (t ∷ ts) (u ∷ us) p (inl e) = both_lists t u 0 refl refl e
paired_ok (t ∷ ts) (u ∷ us) p (inr i) = pair_later (paired_ok ts us p i)

abbrev pub pair_of : ℕ → ℕ → Pair
pair_of a b = (a, b)

paired_both : (ts us : List ℕ) (t u k : ℕ) → Nth t ts k → Nth u us k → In (pair_of (suc t) (suc u)) (paired ts us)
unfolding paired
paired_both [] us t u k a b = absurd a
paired_both (x ∷ ts) [] t u k a b = absurd b
paired_both (x ∷ ts) (y ∷ us) t u zero a b = inl (ap₂ (λ (i j : ℕ). pair_of (suc i) (suc j)) a b)
paired_both (x ∷ ts) (y ∷ us) t u (suc k) a b = inr (paired_both ts us t u k a b)

paired_old : (ts us : List ℕ) (t k : ℕ) → Nth t ts k → length us ≤ k → In (pair_of (suc t) 0) (paired ts us)
unfolding paired
paired_old [] us t k a l = absurd a
paired_old (x ∷ ts) [] t zero a l = inl (ap (λ (i : ℕ). pair_of (suc i) 0) a)
paired_old (x ∷ ts) [] t (suc k) a l = inr (paired_old ts [] t k a (omega arith))
paired_old (x ∷ ts) (y ∷ us) t zero a l = absurd (omega arith)
paired_old (x ∷ ts) (y ∷ us) t (suc k) a l = inr (paired_old ts us t k a (omega arith))

paired_new : (ts us : List ℕ) (u k : ℕ) → Nth u us k → length ts ≤ k → In (pair_of 0 (suc u)) (paired ts us)
unfolding paired
paired_new [] [] u k a l = absurd a
paired_new [] (y ∷ us) u zero a l = inl (ap (λ (i : ℕ). pair_of 0 (suc i)) a)
paired_new [] (y ∷ us) u (suc k) a l = inr (paired_new [] us u k a (omega arith))
paired_new (x ∷ ts) [] u k a l = absurd a
paired_new (x ∷ ts) (y ∷ us) u zero a l = absurd (omega arith)
paired_new (x ∷ ts) (y ∷ us) u (suc k) a l = inr (paired_new ts us u k a (omega arith))

module _ (old new : List ℕ) where
  pub old_ok : (ts : List ℕ) (p : Pair) → In p (old_pairs old new ts) → (t : ℕ) × In t ts × (p ≡ pair_of (suc t) (partner old new t))
  unfolding old_pairs
  old_ok [] p i = absurd i
  old_ok (t ∷ ts) p (inl e) = (t, inl refl, e)
  old_ok (t ∷ ts) p (inr i) = let r = old_ok ts p i in (r.0, inr r.1, r.2)

  old_step : (ts : List ℕ) (t : ℕ) → In t ts → In (pair_of (suc t) (partner old new t)) (old_pairs old new ts)
  unfolding old_pairs
  old_step [] t i = absurd i
  old_step (x ∷ ts) t (inl e) = inl (ap (λ (i : ℕ). pair_of (suc i) (partner old new i)) e)
  old_step (x ∷ ts) t (inr i) = inr (old_step ts t i)

  pub new_ok : (us : List ℕ) (p : Pair) → In p (new_pairs old new us) → (u : ℕ) × In u us × (partner new old u ≡ 0) × (p ≡ pair_of 0 (suc u))
  unfolding new_pairs
  new_ok [] p i = absurd i
  new_ok (u ∷ us) p i = go (eqb (partner new old u) 0) refl i (λ j. new_ok us p j)
    where
      more : (v : ℕ) × In v us × (partner new old v ≡ 0) × (p ≡ pair_of 0 (suc v)) → (v : ℕ) × In v (u ∷ us) × (partner new old v ≡ 0) × (p ≡ pair_of 0 (suc v))
      more r = (r.0, inr r.1, r.2, r.3)

      go : (b : Bool) → eqb (partner new old u) 0 ≡ b → In p (pick b (pair_of 0 (suc u) ∷ new_pairs old new us) (new_pairs old new us))
          → (In p (new_pairs old new us) → (v : ℕ) × In v us × (partner new old v ≡ 0) × (p ≡ pair_of 0 (suc v))) → (v : ℕ) × In v (u ∷ us) × (partner new old v ≡ 0) × (p ≡ pair_of 0 (suc v))
      go true q (inl e) ih = (u, inl refl, eqb-true (partner new old u) 0 q, e)
      go true q (inr j) ih = more (ih j)
      go false q j ih = more (ih j)

  new_step : (us : List ℕ) (u : ℕ) → In u us → partner new old u ≡ 0 → In (pair_of 0 (suc u)) (new_pairs old new us)
  unfolding new_pairs
  new_step [] u i z = absurd i
  new_step (x ∷ us) u i z = go (eqb (partner new old x) 0) refl i (λ j. new_step us u j z)
    where
      go : (b : Bool) → eqb (partner new old x) 0 ≡ b → In u (x ∷ us) → (In u us → In (pair_of 0 (suc u)) (new_pairs old new us)) → In (pair_of 0 (suc u)) (pick b (pair_of 0 (suc x) ∷ new_pairs old new us) (new_pairs old new us))
      go true q (inl e) ih = inl (ap (λ (i : ℕ). pair_of 0 (suc i)) e)
      go true q (inr j) ih = inr (ih j)
      go false q (inl e) ih = absurd (true≢false (sym (eq-eqb (partner new old x) 0 (ap (partner new old) (sym e) ∙ z)) ∙ q))
      go false q (inr j) ih = ih j

  -- ---- differences of pairs

  pub all_ok : (ps : List Pair) (d : Difference) → In d (all_differences old new ps) → (p : Pair) × In p ps × In d (pair_differences old new p.0 p.1)
  unfolding all_differences
  all_ok [] d i = absurd i
  all_ok (p ∷ ps) d i = go (in_append d (pair_differences old new p.0 p.1) (all_differences old new ps) i) (λ j. all_ok ps d j)
    where
      go : In d (pair_differences old new p.0 p.1) ⊎ In d (all_differences old new ps) → (In d (all_differences old new ps) → (q : Pair) × In q ps × In d (pair_differences old new q.0 q.1))
          → (q : Pair) × In q (p ∷ ps) × In d (pair_differences old new q.0 q.1)
      go (inl j) ih = (p, inl refl, j)
      go (inr j) ih = let r = ih j in (r.0, inr r.1, r.2)

  all_step : (ps : List Pair) (d : Difference) (p : Pair) → In p ps → In d (pair_differences old new p.0 p.1) → In d (all_differences old new ps)
  unfolding all_differences
  all_step [] d p i j = absurd i
  all_step (q ∷ ps) d p (inl e) j =
      in_left d (pair_differences old new q.0 q.1) (all_differences old new ps) (subst (λ (x : Pair). In d (pair_differences old new x.0 x.1)) e j)
  all_step (q ∷ ps) d p (inr i) j = in_right d (pair_differences old new q.0 q.1) (all_differences old new ps) (all_step ps d p i j)

pub given_ok : {A : Type 0} (b : Bool) (x d : A) → In d (given b x) → (b ≡ true) × (d ≡ x)
unfolding given
given_ok true x d (inl e) = (refl, e)
given_ok true x d (inr i) = absurd i
given_ok false x d i = absurd i

given_step : {A : Type 0} (b : Bool) (x : A) → b ≡ true → In x (given b x)
unfolding given
given_step true x e = inl refl
given_step false x e = absurd (false≢true e)

-- ---- members

pub agree_ok' : (o p : Option Member) → agree o p ≡ false → type_of o ≡ type_of p → ⊥
unfolding agree type_of
agree_ok' none none h e = true≢false h
agree_ok' none (some n) h e = some≢none {o = some n.ty} refl (sym e)
agree_ok' (some m) none h e = some≢none {o = some m.ty} refl e
agree_ok' (some m) (some n) h e = true≢false (sym (ty_equal m.ty n.ty (some_same e)) ∙ h)

agree_true : (o p : Option Member) → agree o p ≡ true → type_of o ≡ type_of p
unfolding agree type_of
agree_true none none h = refl
agree_true none (some n) h = absurd (false≢true h)
agree_true (some m) none h = absurd (false≢true h)
agree_true (some m) (some n) h = ap some (ty_ok m.ty n.ty h)

agree_false : (o p : Option Member) → (type_of o ≡ type_of p → ⊥) → agree o p ≡ false
agree_false o p n = go (agree o p) refl
  where
    go : (b : Bool) → agree o p ≡ b → agree o p ≡ false
    go true e = absurd (n (agree_true o p e))
    go false e = e

module _ (w t u : ℕ) (ms ns : List Member) where
  abbrev pub member_five : ℕ → Difference
  member_five k = record { what = w; owner = suc t; owner' = suc u; member = member_row (lookup k ms); member' = member_row (lookup k ns) }

  pub members_ok : (ks : List ℕ) (d : Difference) → In d (member_differences w t u ms ns ks) → (k : ℕ) × In k ks × MembersDiffer ms ns k × (d ≡ member_five k)
  unfolding member_differences
  members_ok [] d i = absurd i
  members_ok (k ∷ ks) d i = go (in_append d (given (not (agree (lookup k ms) (lookup k ns))) (member_five k)) (member_differences w t u ms ns ks) i) (λ j. members_ok ks d j)
    where
      go : In d (given (not (agree (lookup k ms) (lookup k ns))) (member_five k)) ⊎ In d (member_differences w t u ms ns ks)
          → (In d (member_differences w t u ms ns ks) → (j : ℕ) × In j ks × MembersDiffer ms ns j × (d ≡ member_five j)) → (j : ℕ) × In j (k ∷ ks) × MembersDiffer ms ns j × (d ≡ member_five j)
      go (inl j) ih = let g = given_ok (not (agree (lookup k ms) (lookup k ns))) (member_five k) d j in (k, inl refl, agree_ok' (lookup k ms) (lookup k ns) (not-true (agree (lookup k ms) (lookup k ns)) g.0), g.1)
      go (inr j) ih = let r = ih j in (r.0, inr r.1, r.2, r.3)

  members_step : (ks : List ℕ) (k : ℕ) → In k ks → MembersDiffer ms ns k → In (member_five k) (member_differences w t u ms ns ks)
  unfolding member_differences
  members_step [] k i n = absurd i
  members_step (j ∷ ks) k (inl e) n =
      in_left (member_five k) (given (not (agree (lookup j ms) (lookup j ns))) (member_five j)) (member_differences w t u ms ns ks)
      (subst (λ (x : ℕ). In (member_five k) (given (not (agree (lookup x ms) (lookup x ns))) (member_five x))) e (given_step (not (agree (lookup k ms) (lookup k ns))) (member_five k) (ap not (agree_false (lookup k ms) (lookup k ns) n))))
  members_step (j ∷ ks) k (inr i) n = in_right (member_five k) (given (not (agree (lookup j ms) (lookup j ns))) (member_five j)) (member_differences w t u ms ns ks) (members_step ks k i n)

-- a member that is there has a key of the list
key_in : (k : ℕ) (ms : List Member) (m : Member) → lookup k ms ≡ some m → In k (keys ms)
unfolding lookup keys
key_in k [] m h = absurd (some≢none h refl)
key_in k (n ∷ ms) m h = go (eqb k n.key) refl h (λ j. key_in k ms m j)
  where
    go : (b : Bool) → eqb k n.key ≡ b → pick b (some n) (lookup k ms) ≡ some m → (lookup k ms ≡ some m → In k (keys ms)) → In k (n.key ∷ keys ms)
    go true q e ih = inl (eqb-true k n.key q)
    go false q e ih = inr (ih e)

there_not : (o : Option Member) → o ≡ none → is_there o ≡ false
unfolding is_there
there_not o e = rw e

key_without : (k : ℕ) (ms ns : List Member) (n : Member) → lookup k ms ≡ none → lookup k ns ≡ some n → In k (keys_without ms ns)
unfolding lookup keys_without
key_without k ms [] n z h = absurd (some≢none h refl)
key_without k ms (x ∷ ns) n z h = go (eqb k x.key) refl (is_there (lookup x.key ms)) refl h (λ j. key_without k ms ns n z j)
  where
    go : (b : Bool) → eqb k x.key ≡ b → (c : Bool) → is_there (lookup x.key ms) ≡ c → pick b (some x) (lookup k ns) ≡ some n → (lookup k ns ≡ some n → In k (keys_without ms ns)) → In k (pick c (keys_without ms ns) (x.key ∷ keys_without ms ns))
    go true q true v e ih = absurd (true≢false (sym v ∙ ap (λ (i : ℕ). is_there (lookup i ms)) (sym (eqb-true k x.key q)) ∙ there_not (lookup k ms) z))
    go true q false v e ih = inl (eqb-true k x.key q)
    go false q true v e ih = ih e
    go false q false v e ih = inr (ih e)

-- a required member that is there has a position within them
position_in : (T : List ℕ) (l : List Ty) (i k : ℕ) (ms : List ℕ) (m : Member) → lookup k (Table.requireds_in T l i ms) ≡ some m → (i ≤ k) × (k < i + length (Table.requireds_in T l i ms))
unfolding lookup Table.requireds_in
position_in T l i k [] m h = absurd (some≢none h refl)
position_in T l i k (x ∷ ms) m h = go (eqb (Table.mark T x) 0) h (λ j q. position_in T l j k ms m q)
  where
    own : (b : Bool) → eqb k i ≡ b → pick b (some (record { row = x; key = i; ty = Table.member_ty T l x })) (lookup k (Table.requireds_in T l (suc i) ms)) ≡ some m
        → ((j : ℕ) → lookup k (Table.requireds_in T l j ms) ≡ some m → (j ≤ k) × (k < j + length (Table.requireds_in T l j ms))) → (i ≤ k) × (k < i + suc (length (Table.requireds_in T l (suc i) ms)))
    own true q e ih = let z = eqb-true k i q in (omega (arith, z), omega (arith, z))
    own false q e ih = let r = ih (suc i) e in (omega (arith, r.0), omega (arith, r.1))

    go : (b : Bool) → lookup k (pick b (record { row = x; key = i; ty = Table.member_ty T l x } ∷ Table.requireds_in T l (suc i) ms) (Table.requireds_in T l i ms)) ≡ some m
        → ((j : ℕ) → lookup k (Table.requireds_in T l j ms) ≡ some m → (j ≤ k) × (k < j + length (Table.requireds_in T l j ms)))
        → (i ≤ k) × (k < i + length (pick b (record { row = x; key = i; ty = Table.member_ty T l x } ∷ Table.requireds_in T l (suc i) ms) (Table.requireds_in T l i ms)))
    go true e ih = own (eqb k i) refl e ih
    go false e ih = ih i e

position : (T : List ℕ) (t k : ℕ) (m : Member) → lookup k (Table.required_members T t) ≡ some m → k < length (Table.required_members T t)
unfolding Table.required_members
position T t k m h = let r = position_in T (Table.trees T) 0 k (Table.own_rows T t) m h in omega (arith, r.1)

longer_first : (a b : ℕ) → a ≤ longer a b
unfolding longer
longer_first a b = go (leb a b) refl
  where
    go : (c : Bool) → leb a b ≡ c → a ≤ pick c b a
    go true e = leb-true a b e
    go false e = omega arith

longer_second : (a b : ℕ) → b ≤ longer a b
unfolding longer
longer_second a b = go (leb a b) refl
  where
    go : (c : Bool) → leb a b ≡ c → b ≤ pick c b a
    go true e = omega arith
    go false e = omega (arith, leb-false a b e)

-- members differ only where one of them is there
pub one_there : (o p : Option Member) → (type_of o ≡ type_of p → ⊥) → ((m : Member) × (o ≡ some m)) ⊎ ((o ≡ none) × ((n : Member) × (p ≡ some n)))
unfolding type_of
one_there none none n = absurd (n refl)
one_there none (some x) n = inr (refl, (x, refl))
one_there (some m) p n = inl (m, refl)

position_listed : (old new : List ℕ) (t u k : ℕ) → MembersDiffer (Table.required_members old t) (Table.required_members new u) k
    → In k (range 0 (longer (length (Table.required_members old t)) (length (Table.required_members new u))))
position_listed old new t u k n = go (one_there (lookup k (Table.required_members old t)) (lookup k (Table.required_members new u)) n)
  where
    go : ((m : Member) × (lookup k (Table.required_members old t) ≡ some m)) ⊎ ((lookup k (Table.required_members old t) ≡ none) × ((x : Member) × (lookup k (Table.required_members new u) ≡ some x)))
        → In k (range 0 (longer (length (Table.required_members old t)) (length (Table.required_members new u))))
    go (inl r) = range_step 0 _ k (omega arith) (omega (arith, position old t k r.0 r.1, longer_first (length (Table.required_members old t)) (length (Table.required_members new u))))
    go (inr r) = range_step 0 _ k (omega arith) (omega (arith, position new u k r.1.0 r.1.1, longer_second (length (Table.required_members old t)) (length (Table.required_members new u))))

tag_listed : (ms ns : List Member) (k : ℕ) → MembersDiffer ms ns k → In k (tags_of ms ns)
unfolding tags_of
tag_listed ms ns k n = ordered_step ltb k (keys ms ++ keys_without ms ns) (go (one_there (lookup k ms) (lookup k ns) n))
  where
    go : ((m : Member) × (lookup k ms ≡ some m)) ⊎ ((lookup k ms ≡ none) × ((x : Member) × (lookup k ns ≡ some x))) → In k (keys ms ++ keys_without ms ns)
    go (inl r) = in_left k (keys ms) (keys_without ms ns) (key_in k ms r.0 r.1)
    go (inr r) = in_right k (keys ms) (keys_without ms ns) (key_without k ms ns r.1.0 r.0 r.1.1)

-- ---- bases

bases_ok' : (old new : List ℕ) (b c : ℕ) → bases_differ old new b c ≡ true → BasesMatch old new b c → ⊥
unfolding bases_differ
bases_ok' old new zero zero h m = false≢true h
bases_ok' old new zero (suc c) h m = m
bases_ok' old new (suc b) zero h m = m
bases_ok' old new (suc b) (suc c) h m = true≢false (sym (same_bytes_same (name_of old b) (name_of new c) m.names) ∙ not-true (same_bytes (name_of old b) (name_of new c)) h)

-- bases of one kind match if their names do
abbrev OneKind : (old new : List ℕ) → ℕ → ℕ → Type 0
OneKind old new zero c = Unit {0}
OneKind old new (suc b) zero = Unit {0}
OneKind old new (suc b) (suc c) = (is_record (kind old b) ≡ true) × (c < types new) × (kind old b ≡ kind new c)

bases_step' : (old new : List ℕ) (b c : ℕ) → OneKind old new b c → (BasesMatch old new b c → ⊥) → bases_differ old new b c ≡ true
unfolding bases_differ
bases_step' old new zero zero o n = absurd (n tt)
bases_step' old new zero (suc c) o n = refl
bases_step' old new (suc b) zero o n = refl
bases_step' old new (suc b) (suc c) o n = go (same_bytes (name_of old b) (name_of new c)) refl
  where
    go : (q : Bool) → same_bytes (name_of old b) (name_of new c) ≡ q → not q ≡ true
    go true e = absurd (n (record { old_one = o.0; inside = o.1; kinds = o.2; names = same_bytes_ok (name_of old b) (name_of new c) e }))
    go false e = refl

-- a parameter list has no base
pub list_base : (T : List ℕ) (t : ℕ) → kind T t ≡ 15 → base T t ≡ 0
unfolding base
list_base T t e = rw e

bases_kind : (old new : List ℕ) → faults old ≡ fine → faults new ≡ fine → (t u : ℕ) → Paired old new t u → OneKind old new (base old t) (base new u)
bases_kind old new f g t u (as_lists k a b) = subst (λ (x : ℕ). OneKind old new x (base new u)) (sym (list_base old t a.a_list)) tt
bases_kind old new f g t u (as_records l s) = go (base old t) refl (base new u) refl
  where
    go : (b : ℕ) → base old t ≡ b → (c : ℕ) → base new u ≡ c → OneKind old new b c
    go zero e c q = tt
    go (suc b) e zero q = tt
    go (suc b) e (suc c) q =
        let B = base_right old f t l s.old_one b e in
        let C = base_right new g u s.inside (new_record s) c q in
        (ap (λ (k : ℕ). is_record k) B.1 ∙ s.old_one, omega (arith, C.0, s.inside), B.1 ∙ s.kinds ∙ sym C.1)

-- ---- owners

module _ (old new : List ℕ) (f : faults old ≡ fine) (g : faults new ≡ fine) where
  owner_ok : (t u : ℕ) (d : Difference) → Paired old new t u → In d (owner_differences old new t u) → (k : ℕ) × Differs old new d k
  unfolding owner_differences base_difference required_differences optional_differences
  owner_ok t u d P i = split (in_append d (base_difference old new t u ++ required_differences old new t u) (optional_differences old new t u) i)
    where
      of_base : In d (base_difference old new t u) → (k : ℕ) × Differs old new d k
      of_base j =
          let r = given_ok (bases_differ old new (base old t) (base new u)) (five 1 (suc t) (suc u) 0 0) d j in
          (0, subst (λ (x : Difference). Differs old new x 0) (sym r.1) (base_differs t u P (bases_ok' old new (base old t) (base new u) r.0)))

      of_required : In d (required_differences old new t u) → (k : ℕ) × Differs old new d k
      of_required j =
          let r = members_ok 2 t u (Table.required_members old t) (Table.required_members new u) _ d j in
          (r.0, subst (λ (x : Difference). Differs old new x r.0) (sym r.3) (required_differs t u r.0 P r.2))

      of_optional : In d (optional_differences old new t u) → (k : ℕ) × Differs old new d k
      of_optional j =
          let r = members_ok 3 t u (Table.optional_members old t) (Table.optional_members new u) _ d j in
          (r.0, subst (λ (x : Difference). Differs old new x r.0) (sym r.3) (optional_differs t u r.0 P r.2))

      two : In d (base_difference old new t u) ⊎ In d (required_differences old new t u) → (k : ℕ) × Differs old new d k
      two (inl j) = of_base j
      two (inr j) = of_required j

      split : In d (base_difference old new t u ++ required_differences old new t u) ⊎ In d (optional_differences old new t u) → (k : ℕ) × Differs old new d k
      split (inl j) = two (in_append d (base_difference old new t u) (required_differences old new t u) j)
      split (inr j) = of_optional j

  base_in : (t u : ℕ) → Paired old new t u → (BasesMatch old new (base old t) (base new u) → ⊥) → In (five 1 (suc t) (suc u) 0 0) (owner_differences old new t u)
  unfolding owner_differences base_difference
  base_in t u P n =
      in_left (five 1 (suc t) (suc u) 0 0) (base_difference old new t u ++ required_differences old new t u) (optional_differences old new t u)
      (in_left (five 1 (suc t) (suc u) 0 0) (base_difference old new t u) (required_differences old new t u)
      (given_step (bases_differ old new (base old t) (base new u)) (five 1 (suc t) (suc u) 0 0) (bases_step' old new (base old t) (base new u) (bases_kind old new f g t u P) n)))

  required_in : (t u k : ℕ) → MembersDiffer (Table.required_members old t) (Table.required_members new u) k
      → In (member_five 2 t u (Table.required_members old t) (Table.required_members new u) k) (owner_differences old new t u)
  unfolding owner_differences required_differences
  required_in t u k n =
      in_left (member_five 2 t u (Table.required_members old t) (Table.required_members new u) k) (base_difference old new t u ++ required_differences old new t u) (optional_differences old new t u)
      (in_right (member_five 2 t u (Table.required_members old t) (Table.required_members new u) k) (base_difference old new t u) (required_differences old new t u)
      (members_step 2 t u (Table.required_members old t) (Table.required_members new u) _ k (position_listed old new t u k n) n))

  optional_in : (t u k : ℕ) → MembersDiffer (Table.optional_members old t) (Table.optional_members new u) k
      → In (member_five 3 t u (Table.optional_members old t) (Table.optional_members new u) k) (owner_differences old new t u)
  unfolding owner_differences optional_differences
  optional_in t u k n =
      in_right (member_five 3 t u (Table.optional_members old t) (Table.optional_members new u) k) (base_difference old new t u ++ required_differences old new t u) (optional_differences old new t u)
      (members_step 3 t u (Table.optional_members old t) (Table.optional_members new u) _ k (tag_listed (Table.optional_members old t) (Table.optional_members new u) k n) n)

  -- ---- which pairs there are

  abbrev pairs : List Pair
  pairs = record_pairs old new ++ list_pairs old new

  old_record : (t : ℕ) → t < types old → is_record (kind old t) ≡ true → In (pair_of (suc t) (partner old new t)) pairs
  unfolding record_pairs
  old_record t l r =
      in_left (pair_of (suc t) (partner old new t)) (record_pairs old new) (list_pairs old new)
      (ordered_step (Compare.pair_before old new) (pair_of (suc t) (partner old new t)) (old_pairs old new (records old) ++ new_pairs old new (records new))
      (in_left (pair_of (suc t) (partner old new t)) (old_pairs old new (records old)) (new_pairs old new (records new)) (old_step old new (records old) t (record_row old t l r))))

  new_one : (u : ℕ) → u < types new → is_record (kind new u) ≡ true → partner new old u ≡ 0 → In (pair_of 0 (suc u)) pairs
  unfolding record_pairs
  new_one u l r z =
      in_left (pair_of 0 (suc u)) (record_pairs old new) (list_pairs old new)
      (ordered_step (Compare.pair_before old new) (pair_of 0 (suc u)) (old_pairs old new (records old) ++ new_pairs old new (records new))
      (in_right (pair_of 0 (suc u)) (old_pairs old new (records old)) (new_pairs old new (records new)) (new_step old new (records new) u (record_row new u l r) z)))

  list_pair : (p : Pair) → In p (paired (lists old) (lists new)) → In p pairs
  unfolding list_pairs
  list_pair p i = in_right p (record_pairs old new) (list_pairs old new) i

  pair_in : (t u : ℕ) → Paired old new t u → In (pair_of (suc t) (suc u)) pairs
  pair_in t u (as_lists k a b) = list_pair (pair_of (suc t) (suc u)) (paired_both (lists old) (lists new) t u k (list_step old t k a) (list_step new u k b))
  pair_in t u (as_records l s) = go (partnered old new t s.old_one)
    where
      go : Partnered old new t → In (pair_of (suc t) (suc u)) pairs
      go (found v e q) =
          let z : v ≡ u = names_differ new g v u q.inside s.inside (new_record q) (new_record s) (sym q.names ∙ s.names) in
          subst (λ (x : ℕ). In (pair_of (suc t) x) pairs) (e ∙ ap suc z) (old_record t l s.old_one)
      go (alone e n) = absurd (n u s)

  -- a record of one table alone
  turned : {t u : ℕ} → t < types old → SameRecord old new t u → SameRecord new old u t
  turned l s = record { old_one = new_record s; inside = l; kinds = sym s.kinds; names = sym s.names }

  old_alone : (t : ℕ) → is_record (kind old t) ≡ true → ((u : ℕ) → SameRecord old new t u → ⊥) → partner old new t ≡ 0
  old_alone t r n = go (partnered old new t r)
    where
      go : Partnered old new t → partner old new t ≡ 0
      go (found u e s) = absurd (n u s)
      go (alone e m) = e

  new_alone : (u : ℕ) → u < types new → is_record (kind new u) ≡ true → ((t : ℕ) → t < types old → SameRecord old new t u → ⊥) → partner new old u ≡ 0
  new_alone u l r n = go (partnered new old u r)
    where
      back : (t : ℕ) → SameRecord new old u t → SameRecord old new t u
      back t s = record { old_one = new_record s; inside = l; kinds = sym s.kinds; names = sym s.names }

      go : Partnered new old u → partner new old u ≡ 0
      go (found t e s) = absurd (n t s.inside (back t s))
      go (alone e m) = e

  -- ---- every difference is one

  single_ok : (x d : Difference) → In d (x ∷ []) → d ≡ x
  single_ok x d (inl e) = e
  single_ok x d (inr i) = absurd i

  pair_is : (p : Pair) (a b : ℕ) (d : Difference) → p ≡ pair_of a b → In d (pair_differences old new p.0 p.1) → In d (pair_differences old new a b)
  pair_is p a b d e i = subst (λ (x : Pair). In d (pair_differences old new x.0 x.1)) e i

  only_old : (t : ℕ) (d : Difference) → In d (pair_differences old new (suc t) 0) → d ≡ five 0 (suc t) 0 0 0
  unfolding pair_differences
  only_old t d i = single_ok (five 0 (suc t) 0 0 0) d i

  only_new : (u : ℕ) (d : Difference) → In d (pair_differences old new 0 (suc u)) → d ≡ five 0 0 (suc u) 0 0
  unfolding pair_differences
  only_new u d i = single_ok (five 0 0 (suc u) 0 0) d i

  both_ok : (t u : ℕ) (d : Difference) → Paired old new t u → In d (pair_differences old new (suc t) (suc u)) → (k : ℕ) × Differs old new d k
  unfolding pair_differences
  both_ok t u d P i = owner_ok t u d P i

  old_pair : (t : ℕ) (p : Pair) (d : Difference) → In t (records old) → p ≡ pair_of (suc t) (partner old new t) → In d (pair_differences old new p.0 p.1) → (k : ℕ) × Differs old new d k
  old_pair t p d i e j = go (partnered old new t R.1)
    where
      R : (t < types old) × (is_record (kind old t) ≡ true)
      R = record_rows old t i

      go : Partnered old new t → (k : ℕ) × Differs old new d k
      go (found u q s) = both_ok t u d (as_records R.0 s) (pair_is p (suc t) (suc u) d (e ∙ ap (λ (x : ℕ). pair_of (suc t) x) q) j)
      go (alone q n) = (0, subst (λ (x : Difference). Differs old new x 0) (sym (only_old t d (pair_is p (suc t) 0 d (e ∙ ap (λ (x : ℕ). pair_of (suc t) x) q) j))) (record_only_old t R.0 R.1 n))

  new_pair : (u : ℕ) (p : Pair) (d : Difference) → In u (records new) → partner new old u ≡ 0 → p ≡ pair_of 0 (suc u) → In d (pair_differences old new p.0 p.1) → (k : ℕ) × Differs old new d k
  new_pair u p d i z e j = go (partnered new old u R.1)
    where
      R : (u < types new) × (is_record (kind new u) ≡ true)
      R = record_rows new u i

      go : Partnered new old u → (k : ℕ) × Differs old new d k
      go (found t q s) = absurd (omega (arith, q, z))
      go (alone q n) = (0, subst (λ (x : Difference). Differs old new x 0) (sym (only_new u d (pair_is p 0 (suc u) d e j))) (record_only_new u R.0 R.1 (λ t l s. n t (turned l s))))

  list_pair_ok : (p : Pair) (d : Difference) → PairIs (lists old) (lists new) p → In d (pair_differences old new p.0 p.1) → (k : ℕ) × Differs old new d k
  list_pair_ok p d (both_lists t u k a b e) j = both_ok t u d (as_lists k (list_ok old t k a) (list_ok new u k b)) (pair_is p (suc t) (suc u) d e j)
  list_pair_ok p d (one_old t k a l e) j =
      (0, subst (λ (x : Difference). Differs old new x 0) (sym (only_old t d (pair_is p (suc t) 0 d e j))) (list_only_old t k (list_ok old t k a) (omega (arith, l, lists_length new))))
  list_pair_ok p d (one_new u k a l e) j =
      (0, subst (λ (x : Difference). Differs old new x 0) (sym (only_new u d (pair_is p 0 (suc u) d e j))) (list_only_new u k (list_ok new u k a) (omega (arith, l, lists_length old))))

  difference_ok : (d : Difference) → In d (differences old new) → (k : ℕ) × Differs old new d k
  unfolding differences record_pairs list_pairs
  difference_ok d i = go (all_ok old new pairs d i)
    where
      rows : (p : Pair) → In d (pair_differences old new p.0 p.1) → In p (old_pairs old new (records old)) ⊎ In p (new_pairs old new (records new)) → (k : ℕ) × Differs old new d k
      rows p j (inl w) = let r = old_ok old new (records old) p w in old_pair r.0 p d r.1 r.2 j
      rows p j (inr w) = let r = new_ok old new (records new) p w in new_pair r.0 p d r.1 r.2 r.3 j

      which : (p : Pair) → In d (pair_differences old new p.0 p.1) → In p (record_pairs old new) ⊎ In p (list_pairs old new) → (k : ℕ) × Differs old new d k
      which p j (inl w) =
          rows p j (in_append p (old_pairs old new (records old)) (new_pairs old new (records new)) (ordered_ok (Compare.pair_before old new) p (old_pairs old new (records old) ++ new_pairs old new (records new)) w))
      which p j (inr w) = list_pair_ok p d (paired_ok (lists old) (lists new) p w) j

      go : (p : Pair) × In p pairs × In d (pair_differences old new p.0 p.1) → (k : ℕ) × Differs old new d k
      go r = which r.0 r.2 (in_append r.0 (record_pairs old new) (list_pairs old new) r.1)

  -- ---- and every one is listed

  listed : (d : Difference) (a b : ℕ) → In (pair_of a b) pairs → In d (pair_differences old new a b) → In d (differences old new)
  unfolding differences
  listed d a b i j = all_step old new pairs d (pair_of a b) i j

  alone_old : (t : ℕ) → In (pair_of (suc t) 0) pairs → In (five 0 (suc t) 0 0 0) (differences old new)
  unfolding pair_differences
  alone_old t i = listed (five 0 (suc t) 0 0 0) (suc t) 0 i (inl refl)

  alone_new : (u : ℕ) → In (pair_of 0 (suc u)) pairs → In (five 0 0 (suc u) 0 0) (differences old new)
  unfolding pair_differences
  alone_new u i = listed (five 0 0 (suc u) 0 0) 0 (suc u) i (inl refl)

  of_owner : (t u : ℕ) (d : Difference) → Paired old new t u → In d (owner_differences old new t u) → In d (differences old new)
  unfolding pair_differences
  of_owner t u d P i = listed d (suc t) (suc u) (pair_in t u P) i

  difference_step : (d : Difference) (k : ℕ) → Differs old new d k → In d (differences old new)
  difference_step d k (record_only_old t l r n) = alone_old t (subst (λ (x : ℕ). In (pair_of (suc t) x) pairs) (old_alone t r n) (old_record t l r))
  difference_step d k (record_only_new u l r n) = alone_new u (new_one u l r (new_alone u l r n))
  difference_step d k (list_only_old t j a l) = alone_old t (list_pair (pair_of (suc t) 0) (paired_old (lists old) (lists new) t j (list_step old t j a) (omega (arith, l, lists_length new))))
  difference_step d k (list_only_new u j a l) = alone_new u (list_pair (pair_of 0 (suc u)) (paired_new (lists old) (lists new) u j (list_step new u j a) (omega (arith, l, lists_length old))))
  difference_step d k (base_differs t u P n) = of_owner t u (five 1 (suc t) (suc u) 0 0) P (base_in t u P n)
  difference_step d k (required_differs t u j P n) = of_owner t u _ P (required_in t u j n)
  difference_step d k (optional_differs t u j P n) = of_owner t u _ P (optional_in t u j n)

pub compare_finds : CompareFinds
compare_finds old new d f g = (difference_ok old new f g d, difference_step old new f g d)
