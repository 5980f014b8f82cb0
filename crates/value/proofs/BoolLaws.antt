-- Bools judged thirty-two and eight at a time. Assumes nothing.
--
--   aboves                    the bits above the lowest of each of k bytes; lows: none of them is set, so each byte is 0 or 1
--   bools_eight, bools_block  eight bytes by one long, thirty-two by four
--   bools_none, bools_turn, blocks_turn, eights_turn, bools_end   the loops over blocks and eights
--   bools_begin               bools that were judged together are read, and the others are left
use mathlib.Core.Path.{◌≡◌, refl, sym, ap, ap₂, ◌∙◌}
use mathlib.Core.Bool.{Bool, true, false, not}
use mathlib.Core.List.{List}
use Prim.Native.Nat.{ℕ, zero, suc, ◌+◌, ◌-◌, ◌*◌, ◌/◌, ◌%◌, ◌^◌, ◌≤◌, ◌<◌}
use native.Mathlib.Nat.{add-zero, zero-add}
use native.Mathlib.Omega.{arith}
use lib.ListN.{length, take, drop, get_or, length-drop}
use lib.Dec.{eqb}
use lib.Bits.{bit_and, bit_or, and_block, and_high}
use borrow.Author.Tests.{eqb-true, not-false}
use Rattle.encoding.specs.Result.{times}
use Rattle.encoding.specs.Number.{bool}
use Rattle.encoding.proofs.NumberLaws.{held_bool}
use Rattle.encoding.proofs.Utf8Laws.{below_or}
use Rattle.encoding.specs.Table.{at}
use Rattle.wire.specs.At.{at_more, at_byte, at_rest}
use Rattle.std.specs.Prelude.{Result, Ok}
use Rattle.wire.specs.declared.Refusal.{Refusal}
use Rattle.wire.specs.Steps.{step_of}
use Rattle.wire.specs.StepLaws.{rest_is, Left, turns_begin, turns_next}
use Rattle.text.proofs.Laws.{no_bits}
use Rattle.value.specs.Parts.{AreBools}
use Rattle.value.proofs.PlainLaws.{bool_whole}

-- ---- eight bytes by one long

-- the bits above the lowest of each of k bytes
abbrev pub aboves : ℕ → ℕ
aboves zero = 0
aboves (suc k) = 254 + 256 * aboves k

low_byte : (x : ℕ) → x < 256 → bit_and x 254 ≡ 0 → x < 2
low_byte x h e =
    let f : bit_and x 254 ≡ (x / 2 % 128) * 2 = and_high x 7 1 in
    let z : x / 2 % 128 ≡ 0 = omega arith in
    let q : x / 2 / 128 ≤ 0 = omega arith in
    omega arith

module _ (s : List ℕ) (bytes : (j : ℕ) → get_or s j 0 < 256) where
  lows : (k i : ℕ) → bit_and (at s k i) (aboves k) ≡ 0 → (j : ℕ) → i ≤ j → j < i + k → get_or s j 0 < 2
  lows zero i e j h l = absurd (omega arith)
  lows (suc k) i e j h l =
      let x : ℕ = get_or s i 0 in
      let v : ℕ = at s k (suc i) in
      let p : at s (suc k) i ≡ v * 2 ^ 8 + x = omega (arith, at_more s k i) in
      let q : aboves (suc k) ≡ aboves k * 2 ^ 8 + 254 = omega arith in
      let f : bit_and v (aboves k) * 2 ^ 8 + bit_and x 254 ≡ 0 = sym (ap₂ bit_and p q ∙ and_block 8 v (aboves k) x 254 (bytes i) (omega arith)) ∙ e in
      below_or i j (λ b. lows k (suc i) (omega arith) j (omega arith) (omega arith)) λ b.
      let y : i ≡ j = omega arith in rw y at (low_byte x (bytes i) (omega arith))

  pub bools_eight : (i x : ℕ) → i + 8 ≤ length s → x ≡ at s 8 i → eqb (bit_and x (aboves 8)) 0 ≡ true → AreBools s i 8
  bools_eight i x h e m = record { there = h; below = lows 8 i (ap (λ (y : ℕ). bit_and y (aboves 8)) (sym e) ∙ eqb-true _ _ m) }

  -- four longs, joined
  pub bools_block : (i a b c d : ℕ) → i + 32 ≤ length s → a ≡ at s 8 i → b ≡ at s 8 (i + 8) → c ≡ at s 8 (i + 16) → d ≡ at s 8 (i + 24)
      → eqb (bit_or (bit_or (bit_and a (aboves 8)) (bit_and b (aboves 8))) (bit_or (bit_and c (aboves 8)) (bit_and d (aboves 8)))) 0 ≡ true → AreBools s i 32
  bools_block i a b c d h ea eb ec ed m =
      let P = no_bits _ _ (eqb-true _ _ m) in
      let A = no_bits _ _ P.0 in
      let C = no_bits _ _ P.1 in
      let low : (p x : ℕ) → x ≡ at s 8 p → bit_and x (aboves 8) ≡ 0 → (j : ℕ) → p ≤ j → j < p + 8 → get_or s j 0 < 2 = λ p x e z. lows 8 p (ap (λ (y : ℕ). bit_and y (aboves 8)) (sym e) ∙ z) in
      record {
        there = h;
        below = λ j g l. below_or j (i + 16)
            (λ u. below_or j (i + 8) (λ v. low i a ea A.0 j g v) (λ v. low (i + 8) b eb A.1 j v (omega arith)))
            (λ u. below_or j (i + 24) (λ v. low (i + 16) c ec C.0 j u (omega arith)) (λ v. low (i + 24) d ed C.1 j v (omega arith)));
      }

-- ---- the loops over blocks and eights

module _ (s : List ℕ) where
  pub bools_none : AreBools s 0 0
  bools_none = record { there = omega arith; below = λ j h l. absurd (omega arith) }

  pub bools_turn : (i k : ℕ) → AreBools s 0 i → (r : Bool) → (r ≡ true → AreBools s i k) → r ≡ true → AreBools s 0 (i + k)
  bools_turn i k p r q t =
      record { there = omega (arith, (q t).there); below = λ j h l. below_or j i (λ b. p.below j h (omega arith)) (λ b. (q t).below j b (omega arith)) }

  pub bools_end : (i j : ℕ) → AreBools s 0 i → i ≡ j → AreBools s 0 j
  bools_end i j p e = rw e at p

  -- the same of k turns of a loop over blocks, and over eights that begin at i
  pub blocks_turn : (k : ℕ) → AreBools s 0 (32 * k) → (r : Bool) → (r ≡ true → AreBools s (32 * k) 32) → not r ≡ false → AreBools s 0 (32 * (k + 1))
  blocks_turn k p r q t = let z : 32 * (k + 1) ≡ 32 * k + 32 = omega arith in rw z (bools_turn (32 * k) 32 p r q (not-false r t))

  pub eights_turn : (i k : ℕ) → AreBools s 0 (i + 8 * k) → (r : Bool) → (r ≡ true → AreBools s (i + 8 * k) 8) → not r ≡ false → AreBools s 0 (i + 8 * (k + 1))
  eights_turn i k p r q t = let z : i + 8 * (k + 1) ≡ i + 8 * k + 8 = omega arith in rw z (bools_turn (i + 8 * k) 8 p r q (not-false r t))

  -- ---- those left

  bool_at : (i : ℕ) → i < length s → get_or s i 0 < 2 → Ok 1 ≡ step_of (bool (take (length s - i) (drop i s)))
  bool_at i h l =
      bool_whole _ (get_or s i 0) (sym (at_rest s i 1 0 ∙ ap (at s 1) (add-zero i) ∙ at_byte s i)) (rw rest_is (omega (arith, length-drop i s))) l

  bools_left : (whole : Result ℕ Refusal) (k left i : ℕ) → k ≤ left → Left s whole (times left bool) i → AreBools s i k → Left s whole (times (left - k) bool) (i + k)
  bools_left whole zero left i h inv p = let z : left - 0 ≡ left = omega arith in rw (z, add-zero) inv
  bools_left whole (suc k) left i h inv p =
      let z : left - suc k ≡ left - 1 - k = omega arith in
      let y : i + suc k ≡ i + 1 + k = omega arith in
      let first = bool_at i (omega (arith, p.there)) (p.below i (omega arith) (omega arith)) in
      rw (z, y) (bools_left whole k (left - 1) (i + 1) (omega arith) (turns_next bool held_bool s whole left i inv (omega arith) (Ok 1) first 1 refl)
      (record { there = omega (arith, p.there); below = λ j a b. p.below j (omega arith) (omega arith) }))

  pub bools_begin : (n k : ℕ) → k ≤ n → AreBools s 0 k → Left s (step_of (times n bool s)) (times (n - k) bool) k
  bools_begin n k h p = rw zero-add at (bools_left _ k n 0 h (turns_begin bool held_bool s n) p)
