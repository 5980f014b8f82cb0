-- Names as parts of the table, and their comparison. Assumes nothing.
--
--   Same, same_.., long_stop   the loop that compares two strings eight bytes at a time, then the last eight; same_pointwise the library's comparison
--   name_least, name_long      where a name begins, and how many bytes it has; name_inside they lie within the table
--   named_part                 the part of the table that is compared is the name
--   record_named ..            a row is a record of a name
--   named_first                the row that a name finds is the first of this name
use Prim.Native.Nat.{ℕ, zero, suc, ◌+◌, ◌-◌, ◌*◌, ◌≤◌, ◌<◌, min}
use mathlib.Core.Path.{◌≡◌, refl, sym, ap, ◌∙◌}
use mathlib.Core.Bool.{Bool, true, false, ◌&&◌}
use mathlib.Core.List.{List, [], ◌∷◌}
use native.Mathlib.Nat.{add-zero}
use native.Mathlib.Numerals.{add-one}
use native.Mathlib.Omega.{arith}
use lib.ListN.{length, take, drop, get_or, drop_of_length-le}
use lib.Seq.{drop-cons}
use lib.Dec.{eqb, leb}
use lib.Pointwise.{pointwise}
use borrow.Author.Tests.{leb-true, leb-false, eqb-true, eqb-false, eq-eqb}
use Rattle.encoding.specs.Result.{pick, same_bytes}
use Rattle.encoding.proofs.ResultLaws.{same_bytes_ok}
use Rattle.encoding.specs.Table.{at, types, names_at, kind, field, is_record, name_of, named}
use Rattle.wire.specs.At.{at_more}
use Rattle.table.specs.Names.{name_start, is_named}
use Rattle.table.specs.NamesLaws.{name_part, length_name}
use Rattle.table.specs.Found.{found_of}
use Rattle.std.specs.Prelude.{Option, Some, None, MatchOption}
use Rattle.table.proofs.Ranges.{find_never, find_first}

-- ---- comparison

differ : (a b : List ℕ) → (a ≡ b → ⊥) → false ≡ same_bytes a b
differ a b h = go (same_bytes a b) refl
  where
    go : (t : Bool) → same_bytes a b ≡ t → false ≡ t
    go true e = absurd (h (same_bytes_ok a b e))
    go false e = refl

module _ (a b : List ℕ) where
  pub same_lengths : (length a ≡ length b → ⊥) → false ≡ same_bytes a b
  same_lengths h = differ a b (λ e. h (ap length e))

  pub same_stop : (i : ℕ) → (get_or a i 0 ≡ get_or b i 0 → ⊥) → false ≡ same_bytes a b
  same_stop i h = differ a b (λ e. h (ap (λ (l : List ℕ). get_or l i 0) e))

  pub long_stop : (i x y : ℕ) → x ≡ at a 8 i → y ≡ at b 8 i → (x ≡ y → ⊥) → false ≡ same_bytes a b
  long_stop i x y ex ey h = differ a b (λ e. h (ex ∙ ap (λ (l : List ℕ). at l 8 i) e ∙ sym ey))

-- what is left to compare decides the answer
abbrev pub Same : List ℕ → List ℕ → ℕ → Type 0
Same a b i = (i ≤ length a) × (length a ≡ length b) × (same_bytes a b ≡ same_bytes (drop i a) (drop i b))

pub same_begin : (a b : List ℕ) → length a ≡ length b → Same a b 0
same_begin a b e = (omega arith, e, refl)

module _ (a b : List ℕ) (i : ℕ) (inv : Same a b i) where
  same_more : i < length a → same_bytes (drop i a) (drop i b) ≡ eqb (get_or a i 0) (get_or b i 0) && same_bytes (drop (i + 1) a) (drop (i + 1) b)
  unfolding same_bytes
  same_more h = let k : i < length b = omega (arith, inv.1) in rw (drop-cons a i 0 h, drop-cons b i 0 k, add-one)

  pub same_turn : i < length a → get_or a i 0 ≡ get_or b i 0 → Same a b (i + 1)
  same_turn h e = (omega arith, inv.1, inv.2 ∙ same_more h ∙ rw (eq-eqb _ _ e))

  pub same_end : length a ≤ i → true ≡ same_bytes a b
  unfolding same_bytes
  same_end h = sym (inv.2 ∙ rw (drop_of_length-le a h, drop_of_length-le b {i = i} (omega (arith, inv.1))))

-- the library compares the bytes in turn
pub same_pointwise : (a b : List ℕ) → pointwise eqb a b ≡ same_bytes a b
unfolding same_bytes
same_pointwise [] [] = refl
same_pointwise [] (y ∷ b) = refl
same_pointwise (x ∷ a) [] = refl
same_pointwise (x ∷ a) (y ∷ b) = ap (λ (z : Bool). eqb x y && z) (same_pointwise a b)

-- bytes are the same where their numbers are
module _ (a b : List ℕ) (sa : (j : ℕ) → get_or a j 0 < 256) (sb : (j : ℕ) → get_or b j 0 < 256) where
  number_bytes : (k i : ℕ) → at a k i ≡ at b k i → (j : ℕ) → i ≤ j → j < i + k → get_or a j 0 ≡ get_or b j 0
  number_bytes zero i e j h l = absurd (omega arith)
  number_bytes (suc k) i e j h l =
      let x = at_more a k i in
      let y = at_more b k i in
      let p : get_or a i 0 ≡ get_or b i 0 = omega (arith, sa i, sb i) in
      let q : at a k (suc i) ≡ at b k (suc i) = omega (arith, sa i, sb i) in
      go (eqb i j) refl p (number_bytes k (suc i) q)
    where
      go : (t : Bool) → eqb i j ≡ t → get_or a i 0 ≡ get_or b i 0 → ((j : ℕ) → suc i ≤ j → j < suc i + k → get_or a j 0 ≡ get_or b j 0) → get_or a j 0 ≡ get_or b j 0
      go true z p again = let y : i ≡ j = eqb-true i j z in rw y at p
      go false z p again = let y = eqb-false i j z in again j (omega arith) (omega arith)

  same_run : (k i : ℕ) → Same a b i → i + k ≤ length a → ((j : ℕ) → i ≤ j → j < i + k → get_or a j 0 ≡ get_or b j 0) → Same a b (i + k)
  same_run zero i inv h e = rw (add-zero i) inv
  same_run (suc k) i inv h e =
      let z : i + suc k ≡ suc i + k = omega arith in
      rw z (same_run k (suc i) (rw add-one at (same_turn a b i inv (omega arith) (e i (omega arith) (omega arith)))) (omega arith) (λ j m l. e j (omega arith) (omega arith)))

  -- the next eight
  pub same_long : (k : ℕ) → Same a b (8 * k) → 8 ≤ length a - 8 * k → (x y : ℕ) → x ≡ at a 8 (8 * k) → y ≡ at b 8 (8 * k) → x ≡ y → Same a b (8 * (k + 1))
  same_long k inv h x y ex ey e =
      let z : 8 * (k + 1) ≡ 8 * k + 8 = omega arith in
      rw z (same_run 8 (8 * k) inv (omega arith) (number_bytes 8 (8 * k) (sym ex ∙ e ∙ ey)))

  -- the last eight, where fewer are left
  pub same_last : (i : ℕ) → Same a b i → length a - i < 8 → (k : ℕ) → k ≡ length a - 8 → 8 ≤ length a → (x y : ℕ) → x ≡ at a 8 k → y ≡ at b 8 k → eqb x y ≡ same_bytes a b
  same_last i inv h k ek l x y ex ey = go (eqb x y) refl
    where
      go : (t : Bool) → eqb x y ≡ t → t ≡ same_bytes a b
      go true e =
          let r = same_run (length a - i) i inv (omega (arith, inv.0)) (λ j m o. number_bytes 8 k (sym ex ∙ eqb-true x y e ∙ ey) j (omega arith) (omega (arith, inv.0))) in
          same_end a b (i + (length a - i)) r (omega (arith, inv.0))
      go false e = long_stop a b k x y ex ey (eqb-false x y e)

-- ---- the part of the table that a name is

module _ (T : List ℕ) (t : ℕ) where
  module _ (p f : ℕ) (ep : p ≡ names_at T) (ef : f ≡ field T t 3) where
    pub name_least : (a : ℕ) → a ≡ min (p + f) (length T) → a ≡ name_start T t
    unfolding name_start
    name_least a h = go (leb (names_at T + field T t 3) (length T)) refl
      where
        go : (b : Bool) → leb (names_at T + field T t 3) (length T) ≡ b → a ≡ pick b (names_at T + field T t 3) (length T)
        go true e = omega (arith, leb-true)
        go false e = omega (arith, leb-false)

  module _ (a k l : ℕ) (s : a ≡ name_start T t) (ek : k ≡ field T t 4) (e : l ≡ min k (length T - a)) where
    pub name_long : l ≡ length (name_of T t)
    name_long = omega (arith, length_name T t)

    pub name_inside : a ≤ length T → name_start T t + l ≤ length T
    name_inside h = omega arith

  pub named_part : (a l : ℕ) → a ≡ name_start T t → l ≡ length (name_of T t) → (nm : List ℕ) (r : Bool) → r ≡ same_bytes nm (take (a + l - a) (drop a T)) → r ≡ same_bytes nm (name_of T t)
  named_part a l s e nm r h =
      let z : a + l - a ≡ length (name_of T t) = omega arith in
      h ∙ rw (z, s, name_part T t)

-- ---- the search for a name

module _ (T nm : List ℕ) (t : ℕ) (k : ℕ) (ek : k ≡ kind T t) (b : Bool) (eb : b ≡ is_record k) where
  pub record_named : (r : Bool) → b ≡ true → r ≡ same_bytes nm (name_of T t) → r ≡ is_named T nm t
  record_named r q e = e ∙ sym (ap (λ (z : Bool). z && same_bytes nm (name_of T t)) (ap is_record (sym ek) ∙ sym eb ∙ q))

  pub record_short : b ≡ true → (n : ℕ) → n ≡ field T t 4 → n < length nm → false ≡ is_named T nm t
  record_short q n e h = record_named false q (same_lengths nm (name_of T t) (λ l. omega (arith, length_name T t)))

  pub record_none : b ≡ false → false ≡ is_named T nm t
  record_none q = sym (ap (λ (z : Bool). z && same_bytes nm (name_of T t)) (ap is_record (sym ek) ∙ sym eb ∙ q))

-- the first row that is a record of the name, among all rows
pub named_first : (T nm : List ℕ) (n : ℕ) → n ≡ types T → (r : Option ℕ)
    → MatchOption r ((k : ℕ) → 0 ≤ k → k < n → is_named T nm k ≡ false) (λ i. (0 ≤ i) × (i < n) × (is_named T nm i ≡ true) × ((k : ℕ) → 0 ≤ k → k < i → is_named T nm k ≡ false))
    → r ≡ found_of (named T nm)
unfolding named found_of
named_first T nm n e None h = rw (find_never (is_named T nm) (types T) 0 (λ k a b. h k a (omega arith)))
named_first T nm n e (Some i) h = rw (find_first (is_named T nm) (types T) 0 i h.0 (omega (arith, h.1)) h.2 h.3)
