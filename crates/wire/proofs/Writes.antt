-- The loops that put bytes, and a size put in two parts. Assumes nothing.
--
--   Laying            what a loop keeps that lays bytes one by one
--   number_..         the loop over the bytes of a number
--   bytes_..          the loop over bytes
--   size_..           a size: one byte, or 255 and an int
--   part_..           a part of bytes, as much of it as is there
use mathlib.Core.Path.{◌≡◌, refl, sym, ap, subst, ◌∙◌}
use mathlib.Core.Bool.{Bool, true, false}
use mathlib.Core.List.{List, [], ◌∷◌, ◌++◌}
use Prim.Native.Nat.{ℕ, zero, suc, ◌+◌, ◌-◌, ◌/◌, ◌%◌, ◌≤◌, ◌<◌, min}
use native.Mathlib.Omega.{arith}
use native.Mathlib.Nat.{add-zero, min-eq_left, min-eq_right}
use native.Mathlib.Numerals.{add-one}
use lib.ListN.{length, take, drop, get_or, set, length-set, length-append, length-drop, drop_of_length-le}
use lib.Seq.{sets, drop-cons, take_all, take-nil}
use lib.Dec.{leb}
use borrow.Author.Tests.{leb-true, leb-false}
use Rattle.encoding.specs.Number.{le_bytes, size_bytes}
use Rattle.encoding.proofs.NumberLaws.{length_le_bytes, size_short, size_long}
use Rattle.wire.specs.Put.{put}
use Rattle.wire.proofs.Room.{fits_yes, fits_no}
use Rattle.wire.specs.PutLaws.{put_sets, put_over, put_none, put_put}

-- ---- bytes b are still to be laid at p of out, which makes `last`, a list of n

pub record Laying (last : List ℕ) (n : ℕ) (b : List ℕ) (p : ℕ) (out : List ℕ) : Type 0 where
  pub room : p + length b ≤ length out
  pub rest : last ≡ sets out p b
  pub same : length out ≡ n

lay_begin : (at : ℕ) (b out : List ℕ) → at + length b ≤ length out → Laying (put at b out) (length out) b at out
lay_begin at b out h = record { room = h; rest = put_sets at b out h; same = refl }

lay_turn : (last : List ℕ) (n x : ℕ) (b : List ℕ) (p : ℕ) (out : List ℕ) → Laying last n (x ∷ b) p out → Laying last n b (p + 1) (set out p x)
lay_turn last n x b p out l =
    let k = length-set out p x in
    record {
      room = omega (arith, l.room);
      rest = l.rest ∙ ap (λ (i : ℕ). sets (set out p x) i b) (sym (add-one p));
      same = k ∙ l.same;
    }

lay_end : (last : List ℕ) (n : ℕ) (b : List ℕ) (p : ℕ) (out : List ℕ) → b ≡ [] → Laying last n b p out → out ≡ last
lay_end last n b p out e l = sym (l.rest ∙ ap (λ (z : List ℕ). sets out p z) e)

-- ---- the bytes of a number

le_more : (k v : ℕ) → 0 < k → le_bytes k v ≡ v % 256 ∷ le_bytes (k - 1) (v / 256)
unfolding le_bytes
le_more zero v h = absurd (omega arith)
le_more (suc k) v h = let e : k ≡ suc k - 1 = omega arith in ap (λ (j : ℕ). v % 256 ∷ le_bytes j (v / 256)) e

pub number_begin : (at k v : ℕ) (out : List ℕ) (r : Bool) → r ≡ leb (at + k) (length out) → r ≡ true
    → Laying (put at (le_bytes k v) out) (length out) (le_bytes (at + k - at) v) at out
number_begin at k v out r e q =
    let z : at + k - at ≡ k = omega arith in
    rw z (lay_begin at (le_bytes k v) out (omega (arith, fits_yes (length out) at k r e q, length_le_bytes k v)))

module _ (last : List ℕ) (n end v p : ℕ) (out : List ℕ) (l : Laying last n (le_bytes (end - p) v) p out) where
  pub number_room : p < end → p < length out
  number_room h = omega (arith, l.room, length_le_bytes (end - p) v)

  pub number_turn : p < end → Laying last n (le_bytes (end - (p + 1)) (v / 256)) (p + 1) (set out p (v % 256))
  number_turn h =
      let z : end - p - 1 ≡ end - (p + 1) = omega arith in
      let g : 0 < end - p = omega arith in
      rw (← z) (lay_turn last n (v % 256) _ p out (subst (λ (b : List ℕ). Laying last n b p out) (le_more (end - p) v g) l))

  pub number_end : end ≤ p → out ≡ last
  unfolding le_bytes
  number_end h = let z : end - p ≡ 0 = omega arith in lay_end last n (le_bytes (end - p) v) p out (rw z) l

-- ---- bytes

pub bytes_begin : (at : ℕ) (b out : List ℕ) (r : Bool) → r ≡ leb (at + length b) (length out) → r ≡ true
    → Laying (put at b out) (length out) (drop 0 b) (at + 0) out
bytes_begin at b out r e q = rw add-zero (lay_begin at b out (fits_yes (length out) at (length b) r e q))

module _ (last : List ℕ) (n at : ℕ) (b : List ℕ) (i : ℕ) (out : List ℕ) (l : Laying last n (drop i b) (at + i) out) where
  pub bytes_room : i < length b → at + i < length out
  bytes_room h = omega (arith, l.room, length-drop i b)

  pub bytes_turn : i < length b → Laying last n (drop (i + 1) b) (at + (i + 1)) (set out (at + i) (get_or b i 0))
  bytes_turn h =
      let e : at + (i + 1) ≡ at + i + 1 = omega arith in
      rw (e, add-one i) (lay_turn last n (get_or b i 0) _ (at + i) out (subst (λ (z : List ℕ). Laying last n z (at + i) out) (drop-cons b i 0 h) l))

  pub bytes_end : length b ≤ i → out ≡ last
  bytes_end h = lay_end last n (drop i b) (at + i) out (drop_of_length-le b h) l

-- ---- bytes that do not fit

over_same : (at k : ℕ) (b out : List ℕ) (r : Bool) → r ≡ leb (at + k) (length out) → r ≡ false → length b ≡ k → out ≡ put at b out
over_same at k b out r e q l = sym (put_over at b out (omega (arith, fits_no (length out) at k r e q)))

pub number_over : (at k v : ℕ) (out : List ℕ) (r : Bool) → r ≡ leb (at + k) (length out) → r ≡ false → out ≡ put at (le_bytes k v) out
number_over at k v out r e q = over_same at k (le_bytes k v) out r e q (length_le_bytes k v)

pub bytes_over : (at : ℕ) (b out : List ℕ) (r : Bool) → r ≡ leb (at + length b) (length out) → r ≡ false → out ≡ put at b out
bytes_over at b out r e q = over_same at (length b) b out r e q refl

-- ---- a size

size_bytes_short : (n : ℕ) → n < 255 → le_bytes 1 n ≡ size_bytes n
unfolding le_bytes
size_bytes_short n h = let e : n % 256 ≡ n = omega arith in rw (e, size_short n h)

size_bytes_long : (n : ℕ) → 255 ≤ n → le_bytes 1 255 ++ le_bytes 4 n ≡ size_bytes n
unfolding le_bytes
size_bytes_long n h = sym (size_long n h)

pub size_len_short : (n : ℕ) → n < 255 → 1 ≡ length (size_bytes n)
size_len_short n h = sym (length_le_bytes 1 n) ∙ ap length (size_bytes_short n h)

pub size_len_long : (n : ℕ) → 255 ≤ n → 5 ≡ length (size_bytes n)
size_len_long n h =
    omega (arith, length-append (le_bytes 1 255) (le_bytes 4 n), length_le_bytes 1 255, length_le_bytes 4 n) ∙ ap length (size_bytes_long n h)

-- a size of five bytes that fits is put in two parts; else nothing is
module _ (at n : ℕ) (out : List ℕ) (g : 255 ≤ n) (r : Bool) (e : r ≡ leb (at + 5) (length out)) where
  pub size_put_long : (mid : List ℕ) (last : List ℕ) → r ≡ true → mid ≡ put at (le_bytes 1 255) out → last ≡ put (at + 1) (le_bytes 4 n) mid
      → last ≡ put at (size_bytes n) out
  size_put_long mid last q m l =
      let h = fits_yes (length out) at 5 r e q in
      let a = length_le_bytes 1 255 in
      let b = length_le_bytes 4 n in
      l ∙ ap (λ (z : List ℕ). put (at + 1) (le_bytes 4 n) z) m
      ∙ put_put at (at + 1) (le_bytes 1 255) (le_bytes 4 n) out (omega arith) (omega arith)
      ∙ ap (λ (z : List ℕ). put at z out) (size_bytes_long n g)

  pub size_put_over : r ≡ false → out ≡ put at (size_bytes n) out
  size_put_over q = over_same at 5 (size_bytes n) out r e q (sym (size_len_long n g))

pub size_put_short : (at n : ℕ) (out last : List ℕ) → n < 255 → last ≡ put at (le_bytes 1 n) out → last ≡ put at (size_bytes n) out
size_put_short at n out last h e = e ∙ ap (λ (z : List ℕ). put at z out) (size_bytes_short n h)

-- ---- the part that is there

take_min : (n k : ℕ) (l : List ℕ) → k ≡ min n (length l) → take k l ≡ take n l
take_min n k l e = go (leb n (length l)) refl
  where
    go : (t : Bool) → leb n (length l) ≡ t → take k l ≡ take n l
    go true q = ap (λ (j : ℕ). take j l) (e ∙ min-eq_left (leb-true _ _ q))
    go false q =
        let h = leb-false n (length l) q in
        let g : k ≡ length l = e ∙ min-eq_right (omega arith) in
        take_all k l (omega arith) ∙ sym (take_all n l (omega arith))

pub part_put : (at a n k : ℕ) (from out last : List ℕ) → k ≡ min n (length from - a) → last ≡ put at (take (a + k - a) (drop a from)) out
    → last ≡ put at (take n (drop a from)) out
part_put at a n k from out last e q =
    let z : a + k - a ≡ k = omega arith in
    q ∙ ap (λ (b : List ℕ). put at b out) (ap (λ (j : ℕ). take j (drop a from)) z ∙ take_min n k (drop a from) (rw (length-drop a from) e))

pub part_none : (at a n : ℕ) (from out : List ℕ) → length from ≤ a → out ≡ put at (take n (drop a from)) out
part_none at a n from out h = sym (ap (λ (b : List ℕ). put at (take n b) out) (drop_of_length-le from h) ∙ ap (λ (b : List ℕ). put at b out) (take-nil n) ∙ put_none at out)
