-- Bits of headers and flags, from masks and shifts to the numbers of the definitions. Assumes nothing.
--
--   bit_set          a masked bit is there where its digit is 1
--   over_none        bits from the k-th on
--   header_masked    tag bits above type bits
--   flags_joined     the flags' bits, each by its worth
--   form_..          the type bits of a form's number, by its range
use mathlib.Core.Path.{◌≡◌, refl, ap, ◌∙◌}
use mathlib.Core.Bool.{Bool, true, false, not}
use Prim.Native.Nat.{ℕ, zero, suc, ◌+◌, ◌*◌, ◌/◌, ◌%◌, ◌^◌, ◌-◌, ◌≤◌, ◌<◌}
use native.Mathlib.Omega.{arith}
use native.Mathlib.Nat.{one-le-pow}
use lib.Dec.{eqb, ltb}
use lib.Bits.{bit_and, bit_or, and_mask, and_high, or_shifted, or_shifted_r, or_zero_r}
use borrow.Author.Tests.{ltb-true, ltb-false, lt-ltb, le-ltb, ne_eqb, eq-eqb}
use Rattle.encoding.specs.Result.{pick}
use Rattle.encoding.specs.Slice.{sliced, compact, is_sliced, worth, flag_bits}
use Rattle.wire.specs.Put.{header_bits, form_bits}

bit_test : (x p q : ℕ) → 0 < p → x < 2 → q ≡ x * p → not (eqb q 0) ≡ eqb x 1
bit_test zero p q h l e = let z : q ≡ 0 = omega arith in rw z
bit_test (suc zero) p q h l e = let z : q ≡ 0 → ⊥ = λ i. absurd (omega arith) in simp (ne_eqb _ _ z)
bit_test (suc (suc x)) p q h l e = absurd (omega arith)

pub bit_set : (n k : ℕ) → not (eqb (bit_and n (2 ^ (1 + k) - 2 ^ k)) 0) ≡ eqb (n / 2 ^ k % 2) 1
bit_set n k = bit_test (n / 2 ^ k % 2) (2 ^ k) _ (one-le-pow k 2 (omega arith)) (omega arith) (and_high n 1 k)

pub over_none : (n : ℕ) → not (eqb (n / 64) 0) ≡ ltb 63 n
over_none n = go (ltb 63 n) refl
  where
    go : (t : Bool) → ltb 63 n ≡ t → not (eqb (n / 64) 0) ≡ t
    go true e =
        let l = ltb-true 63 n e in
        let z : n / 64 ≡ 0 → ⊥ = λ i. absurd (omega arith) in
        simp (ne_eqb _ _ z)
    go false e = let l = ltb-false 63 n e in simp (eq-eqb (n / 64) 0 (omega arith))

pub header_masked : (t k : ℕ) → bit_or (bit_and t 31 * 8 % 2 ^ 64) (bit_and k 7) ≡ header_bits t k
unfolding header_bits
header_masked t k =
    let e : t % 32 * 8 % 2 ^ 64 ≡ t % 32 * 8 = omega arith in
    rw (and_mask t 5, and_mask k 3, e) (or_shifted (t % 32) 3 (k % 8) (omega arith))

-- one bit more
or_worth : (b : Bool) (k x : ℕ) → x < 2 ^ k → bit_or x (worth b (2 ^ k)) ≡ x + worth b (2 ^ k)
or_worth true k x h = let e : 1 * 2 ^ k ≡ 2 ^ k = omega arith in rw e at (or_shifted_r 1 k x h) ∙ omega arith
or_worth false k x h = or_zero_r x ∙ omega arith

worth_below : (b : Bool) (w : ℕ) → worth b w ≤ w
worth_below true w = omega arith
worth_below false w = omega arith

sliced_if : (b : Bool) → b ≡ is_sliced (pick b sliced compact)
sliced_if true = refl
sliced_if false = refl

joined : (id opt size last : Bool)
    → bit_or (bit_or (bit_or (worth id 1) (worth opt 4)) (worth size 16)) (worth last 32) ≡ flag_bits (pick size sliced compact) id opt last
unfolding flag_bits
joined id opt size last =
    let a = worth_below id 1 in
    let b = worth_below opt 4 in
    let c = worth_below size 16 in
    ap (λ (x : ℕ). bit_or (bit_or x (worth size 16)) (worth last 32)) (or_worth opt 2 (worth id 1) (omega arith))
    ∙ ap (λ (x : ℕ). bit_or x (worth last 32)) (or_worth size 4 (worth id 1 + worth opt 4) (omega arith))
    ∙ or_worth last 5 (worth id 1 + worth opt 4 + worth size 16) (omega arith)
    ∙ ap (λ (x : Bool). worth id 1 + worth opt 4 + worth x 16 + worth last 32) (sliced_if size)

pub flags_joined : (id opt size last : Bool) (a b c d : ℕ) → a ≡ worth id 1 → b ≡ worth opt 4 → c ≡ worth size 16 → d ≡ worth last 32
    → bit_or (bit_or (bit_or a b) c) d ≡ flag_bits (pick size sliced compact) id opt last
flags_joined id opt size last a b c d i o s l = rw (i, o, s, l) (joined id opt size last)

module _ (n : ℕ) where
  pub form_bare : n < 8 → n ≡ form_bits n
  unfolding form_bits
  form_bare h = rw (lt-ltb n 8 h)

  pub form_counted : 8 ≤ n → n < 10 → 5 ≡ form_bits n
  unfolding form_bits
  form_counted h l = rw (le-ltb n 8 h, lt-ltb n 10 l)

  pub form_sized : 10 ≤ n → 6 ≡ form_bits n
  unfolding form_bits
  form_sized h = rw (le-ltb n 8 (omega arith), le-ltb n 10 h)
