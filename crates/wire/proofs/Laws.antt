-- Numbers by their bytes or their halves, and the cases of sizes, declared lengths and counted bytes by the bytes at the head. Assumes nothing.
--
--   short_is, int_is      two bytes, and two shorts, all inside; long_whole: two ints
--   long_is               two ints of the part that begins at the place
--   short_cut, int_cut    a number that the end cuts off
--   size_..               the cases of `size`
--   declared_..           the cases of `declared`
--   counted_..            the cases of a size and that many bytes; size_within: the size lies within the bytes at hand
use mathlib.Core.Path.{◌≡◌, sym, ◌∙◌}
use mathlib.Core.Bool.{Bool, false}
use mathlib.Core.List.{List}
use Prim.Native.Nat.{ℕ, ◌+◌, ◌-◌, ◌*◌, ◌^◌, ◌≤◌, ◌<◌}
use native.Mathlib.Omega.{arith}
use native.Mathlib.Nat.{add-zero}
use lib.ListN.{length, take, drop, get_or, length-drop}
use lib.Seq.{length-take-le}
use lib.Dec.{leb}
use borrow.Author.Tests.{le-leb, lt-leb, lt-ltb, le-ltb}
use Rattle.encoding.specs.Result.{Res, ok, bad, shift, after, ◌>>=◌, pure, chunk, at_first, item, judged, must, first_of}
use Rattle.encoding.proofs.ResultLaws.{held_took}
use Rattle.encoding.specs.Table.{at}
use Rattle.encoding.specs.Number.{negative, number, byte, size_form, size_tail, size, length_form, declared}
use Rattle.encoding.proofs.NumberLaws.{held_size}
use Rattle.encoding.specs.Types.{vsize}
use Rattle.encoding.specs.Optional.{extent}
use Rattle.std.specs.Prelude.{Result, Ok, Err}
use Rattle.wire.specs.declared.Refusal.{Refusal}
use Rattle.wire.specs.declared.Counted.{Counted}
use Rattle.wire.specs.Steps.{step_of, sized_of, bytes_of, refused, counted}
use Rattle.wire.specs.StepLaws.{sized_is}
use Rattle.wire.proofs.Room.{fits_no}
use Rattle.wire.specs.At.{at_byte, at_split, at_cut, at_rest}

-- ---- a number, by its bytes or its halves

module _ (s : List ℕ) (i a b : ℕ) where
  pub short_is : a ≡ get_or s i 0 → b ≡ get_or s (i + 1) 0 → a + 256 * b ≡ at s 2 i
  short_is e f = omega (arith, at_split s 1 1 i, at_byte s i, at_byte s (i + 1))

  pub int_is : a ≡ at s 2 i → b ≡ at s 2 (i + 2) → a + 65536 * b ≡ at s 4 i
  int_is e f = omega (arith, at_split s 2 2 i)

  pub long_whole : a ≡ at s 4 i → b ≡ at s 4 (i + 4) → a + 4294967296 * b ≡ at s 8 i
  long_whole e f = omega (arith, at_split s 4 4 i)

-- past the end
module _ (s : List ℕ) (i a : ℕ) (r : Bool) where
  pub short_cut : r ≡ leb (i + 2) (length s) → r ≡ false → a ≡ at s 1 i → a ≡ at s 2 i
  short_cut e q f = f ∙ sym (at_cut s 1 1 i (omega (arith, fits_no (length s) i 2 r e q)))

-- from the part that begins at i
module _ (s : List ℕ) (i a b : ℕ) where
  pub int_cut : (r : Bool) → r ≡ leb (i + 4) (length s) → r ≡ false
      → a ≡ at (take (length s - i) (drop i s)) 2 0 → b ≡ at (take (length s - i) (drop i s)) 1 2 → a + 65536 * b ≡ at s 4 i
  int_cut r e q f g =
      omega (arith, at_split s 2 2 i, at_cut s 1 1 (i + 2) (omega (arith, fits_no (length s) i 4 r e q)), rw add-zero at (at_rest s i 2 0), at_rest s i 1 2)

  pub long_is : a ≡ at (take (length s - i) (drop i s)) 4 0 → b ≡ at (take (length s - i) (drop i s)) 4 4 → a + 4294967296 * b ≡ at s 8 i
  long_is f g = omega (arith, at_split s 4 4 i, rw add-zero at (at_rest s i 4 0), at_rest s i 4 4)

-- ---- a size, by its first byte and the int after it

module _ (s : List ℕ) where
  pub size_none : length s < 1 → refused 4 0 ≡ sized_of (size s)
  unfolding size item at_first ◌>>=◌ after byte number chunk sized_of
  size_none h = rw (lt-leb 1 (length s) h)

  module _ (b : ℕ) (e : b ≡ at s 1 0) (h : 1 ≤ length s) where
    pub size_short : b < 255 → counted b 1 ≡ sized_of (size s)
    unfolding size item at_first ◌>>=◌ after byte number chunk size_tail pure shift sized_of at
    size_short l = rw (le-leb 1 (length s) h, ← e, lt-ltb b 255 l)

    pub size_cut : 255 ≤ b → length s < 5 → refused 4 0 ≡ sized_of (size s)
    unfolding size item at_first ◌>>=◌ after byte number chunk size_tail shift must judged sized_of at
    size_cut l m = rw (le-leb 1 (length s) h, ← e, le-ltb b 255 l, lt-leb 4 (length (drop 1 s)) (omega (arith, length-drop 1 s)))

    module _ (l : 255 ≤ b) (m : 5 ≤ length s) (n : ℕ) (f : n ≡ at s 4 1) where
      pub size_low : n < 255 → refused 7 0 ≡ sized_of (size s)
      unfolding size item at_first ◌>>=◌ after byte number chunk size_tail shift must judged size_form first_of sized_of at
      size_low g = rw (le-leb 1 (length s) h, ← e, le-ltb b 255 l, le-leb 4 (length (drop 1 s)) (omega (arith, length-drop 1 s)), ← f, lt-ltb n 255 g)

      pub size_high : 255 ≤ n → 2147483648 ≤ n → refused 7 0 ≡ sized_of (size s)
      unfolding size item at_first ◌>>=◌ after byte number chunk size_tail shift must judged size_form negative first_of sized_of at
      size_high g k = rw (le-leb 1 (length s) h, ← e, le-ltb b 255 l, le-leb 4 (length (drop 1 s)) (omega (arith, length-drop 1 s)), ← f, le-ltb n 255 g, le-leb (2 ^ 31) n k)

      pub size_long : 255 ≤ n → n < 2147483648 → counted n 5 ≡ sized_of (size s)
      unfolding size item at_first ◌>>=◌ after byte number chunk size_tail shift must judged size_form negative first_of sized_of at
      size_long g k = rw (le-leb 1 (length s) h, ← e, le-ltb b 255 l, le-leb 4 (length (drop 1 s)) (omega (arith, length-drop 1 s)), ← f, le-ltb n 255 g, lt-leb (2 ^ 31) n k)

-- ---- an int that declares a length

module _ (s : List ℕ) (least own : ℕ) where
  pub declared_none : length s < 4 → refused 4 0 ≡ step_of (declared least own s)
  unfolding declared item at_first ◌>>=◌ after number chunk must judged step_of
  declared_none h = rw (lt-leb 4 (length s) h)

  module _ (h : 4 ≤ length s) (n : ℕ) (e : n ≡ at s 4 0) where
    pub declared_low : n < least → refused 11 0 ≡ step_of (declared least own s)
    unfolding declared item at_first ◌>>=◌ after number chunk must judged length_form first_of step_of at
    declared_low l = rw (le-leb 4 (length s) h, ← e, lt-ltb n least l)

    pub declared_high : least ≤ n → 2147483648 ≤ n → refused 11 0 ≡ step_of (declared least own s)
    unfolding declared item at_first ◌>>=◌ after number chunk must judged length_form negative first_of step_of at
    declared_high l m = rw (le-leb 4 (length s) h, ← e, le-ltb n least l, le-leb (2 ^ 31) n m)

    module _ (l : least ≤ n) (m : n < 2147483648) (k : ℕ) (f : k ≡ n - own) where
      pub declared_cut : length s - 4 < k → refused 4 0 ≡ step_of (declared least own s)
      unfolding declared item at_first ◌>>=◌ after number chunk must judged length_form negative first_of shift step_of at
      declared_cut g = rw (le-leb 4 (length s) h, ← e, le-ltb n least l, lt-leb (2 ^ 31) n m, ← f, lt-leb k (length (drop 4 s)) (omega (arith, length-drop 4 s)))

      pub declared_whole : k ≤ length s - 4 → Ok (4 + k) ≡ step_of (declared least own s)
      unfolding declared item at_first ◌>>=◌ after number chunk must judged length_form negative first_of shift step_of at
      declared_whole g = rw (le-leb 4 (length s) h, ← e, le-ltb n least l, lt-leb (2 ^ 31) n m, ← f, le-leb k (length (drop 4 s)) (omega (arith, length-drop 4 s)))

-- ---- a size and that many bytes, by the size

module _ (s : List ℕ) (r : Result Counted Refusal) (e : r ≡ sized_of (size s)) where
  pub size_within : (x : Counted) → r ≡ Ok x → x.bytes ≤ length s
  size_within x q = held_took size held_size s (sized_is (size s) x (sym q ∙ e))

  -- a size is refused at its first byte
  pub counted_bad : (x : Refusal) → r ≡ Err x → Err x ≡ bytes_of (extent vsize s)
  unfolding extent size item at_first ◌>>=◌ after bytes_of sized_of
  counted_bad x q = go ((byte >>= size_tail) s) (sym q ∙ e)
    where
      go : (t : Res ℕ) → Err x ≡ sized_of (at_first t) → Err x ≡ bytes_of (at_first (after (at_first t) (λ n. chunk n (λ d. d)) s))
      go (ok n k) h = let z : ◌≡◌ {A = ℕ} 0 1 = cc in absurd (omega arith)
      go (bad c p) h = h

  module _ (x : Counted) (q : r ≡ Ok x) where
    pub counted_cut : length s - x.bytes < x.number → refused 4 0 ≡ bytes_of (extent vsize s)
    unfolding extent item at_first ◌>>=◌ after chunk shift bytes_of
    counted_cut h = rw (sized_is (size s) x (sym q ∙ e), lt-leb x.number (length (drop x.bytes s)) (omega (arith, length-drop x.bytes s)))

    pub counted_whole : x.number ≤ length s - x.bytes → counted x.number (x.bytes + x.number) ≡ bytes_of (extent vsize s)
    unfolding extent item at_first ◌>>=◌ after chunk shift bytes_of
    counted_whole h =
        let l : x.number ≤ length (drop x.bytes s) = omega (arith, length-drop x.bytes s) in
        rw (sized_is (size s) x (sym q ∙ e), le-leb x.number (length (drop x.bytes s)) l, length-take-le x.number (drop x.bytes s) l)
