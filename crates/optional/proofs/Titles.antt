-- A header's tag, read without an enum: it is the one that `front` reads. Assumes nothing.
--
--   long_two, long_six       a tag after the first byte, in one byte or in five
--   titled_short, titled_long    a header of one byte, and a longer one
use mathlib.Core.Path.{◌≡◌, refl, sym, ap, ◌∙◌}
use mathlib.Core.Bool.{true, false}
use mathlib.Core.List.{List}
use Prim.Native.Nat.{ℕ, ◌+◌, ◌-◌, ◌/◌, ◌%◌, ◌≤◌, ◌<◌}
use native.Mathlib.Omega.{arith}
use lib.ListN.{length, take, drop, length-drop}
use lib.Seq.{length-take-le}
use borrow.Author.Tests.{le-ltb}
use Rattle.encoding.specs.Table.{at}
use Rattle.wire.specs.At.{at_rest}
use Rattle.wire.proofs.Laws.{size_short, size_long}
use Rattle.optional.specs.Answers.{fronts, LongTag, Titled}
use Rattle.optional.proofs.Heads.{front_short, front_long}

module _ (s : List ℕ) (b : ℕ) (e : b ≡ at s 1 1) where
  -- the bytes after the first
  rest : List ℕ
  rest = take (length s - 1) (drop 1 s)

  rest_long : (n : ℕ) → n ≤ length s → n - 1 ≤ length rest
  unfolding rest
  rest_long n h = omega (arith, length-take-le (length s - 1) (drop 1 s) (omega (arith, length-drop 1 s)), length-drop 1 s)

  pub long_two : 30 ≤ b → b < 255 → LongTag s b 2
  unfolding rest
  long_two l h = record { least = l; size_is = λ m. size_short rest b (e ∙ sym (at_rest s 1 1 0)) (rest_long 2 m) h }

  pub long_six : 255 ≤ b → (tag : ℕ) → tag ≡ at s 4 2 → 255 ≤ tag → tag < 2147483648 → LongTag s tag 6
  unfolding rest
  long_six l tag f g h = record {
    least = omega arith;
    size_is = λ m. size_long rest b (e ∙ sym (at_rest s 1 1 0)) (omega (arith, rest_long 6 m)) l (rest_long 6 m) tag (f ∙ sym (at_rest s 1 4 1)) g h;
  }

module _ (s : List ℕ) (b : ℕ) (e : b ≡ at s 1 0) (t : ℕ) (et : t ≡ b / 8) (bits : ℕ) (eb : bits ≡ b % 8) where
  pub titled_short : t < 30 → Titled s t bits 1
  titled_short l = record { long = false; fine = refl; front_is = λ m. front_short s m b e t et (omega arith) bits eb (λ q. omega arith) }

  pub titled_long : 30 ≤ t → t ≤ 30 → (tag k n : ℕ) → (0 < n → (k ≡ bits) × LongTag s tag n) → 0 < n → Titled s tag k n
  titled_long l h tag k n L z = record {
    long = true;
    fine = le-ltb tag 30 (L z).1.least;
    front_is = λ m.
        let w : 1 + (n - 1) ≡ n = omega arith in
        ap (λ (x : ℕ). fronts true tag k x) (sym w)
        ∙ front_long s (omega arith) b e t et (omega arith) k ((L z).0 ∙ eb) (omega arith) _ ((L z).1.size_is m) _ refl;
  }
