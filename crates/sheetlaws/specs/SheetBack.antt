-- A sheet is written to its bytes and read back. Assumes nothing.
--
--   field_at       a number among bytes is read where it was put
--   bytes_back     the promise
use Rattle.std.specs.Prelude.{◌≡◌, refl, ◌||◌, List, [], ◌++◌, ℕ, ◌+◌, ◌*◌, ◌^◌, ◌≤◌, ◌<◌, length, take, drop, ltb}
use Rattle.std.proofs.Common.{sym, ap, ap₂, ◌∙◌, append_assoc, append-nil, arith, take_at, drop_at, le-ltb}
use Rattle.std.proofs.Math.ListN.{length-append}
use Rattle.encoding.specs.Number.{val, le_bytes}
use Rattle.encoding.proofs.NumberLaws.{length_le_bytes, val_le_bytes}
use Rattle.encoding.specs.Table.{at}
use Rattle.sums.specs.declared.Extreme.{Extreme}
use Rattle.sums.specs.declared.Extreme.TheVariants.{Absent, Is}
use Rattle.sums.specs.Sums.{ExtremeFits, mean}
use Rattle.sheetbytes.specs.SheetBytes.{extreme_at, sheet_at, wrong_mark, extreme_number, extreme_mark, mean_whole, mean_remainder, mean_mark, four, sheet_bytes}
use Rattle.sheetbytes.specs.SheetBytesLaws.{length_four}
use Rattle.sheetlaws.specs.SheetDemands.{BytesBack}

field_at : (s before after : List ℕ) (k n p : ℕ) → s ≡ before ++ (le_bytes k n ++ after) → length before ≡ p → n < 256 ^ k → at s k p ≡ n
unfolding at
field_at s before after k n p e l h =
    ap (λ (x : List ℕ). val (take k (drop p x))) e
    ∙ ap (λ (x : List ℕ). val (take k x)) (drop_at before (le_bytes k n ++ after) p l)
    ∙ ap val (take_at (le_bytes k n) after k (length_le_bytes k n))
    ∙ val_le_bytes k n h

-- each of four numbers of k bytes, among other bytes
module _ (x y : List ℕ) (k a b c d p : ℕ) (l : length x ≡ p) where
  first_of : a < 256 ^ k → at (x ++ four k a b c d ++ y) k p ≡ a
  unfolding four
  first_of h = field_at (x ++ four k a b c d ++ y) x (le_bytes k b ++ (le_bytes k c ++ (le_bytes k d ++ y))) k a p (simp append_assoc) l h

  second_of : b < 256 ^ k → at (x ++ four k a b c d ++ y) k (p + k) ≡ b
  unfolding four
  second_of h =
      field_at (x ++ four k a b c d ++ y) (x ++ le_bytes k a) (le_bytes k c ++ (le_bytes k d ++ y)) k b (p + k) (simp append_assoc)
      (omega (arith, length-append x (le_bytes k a), length_le_bytes k a)) h

  third_of : c < 256 ^ k → at (x ++ four k a b c d ++ y) k (p + 2 * k) ≡ c
  unfolding four
  third_of h =
      field_at (x ++ four k a b c d ++ y) (x ++ le_bytes k a ++ le_bytes k b) (le_bytes k d ++ y) k c (p + 2 * k) (simp append_assoc)
      (omega (arith, length-append (x ++ le_bytes k a) (le_bytes k b), length-append x (le_bytes k a), length_le_bytes k a, length_le_bytes k b)) h

  fourth_of : d < 256 ^ k → at (x ++ four k a b c d ++ y) k (p + 3 * k) ≡ d
  unfolding four
  fourth_of h =
      field_at (x ++ four k a b c d ++ y) (x ++ le_bytes k a ++ le_bytes k b ++ le_bytes k c) y k d (p + 3 * k) (simp append_assoc)
      (omega (arith, length-append (x ++ le_bytes k a ++ le_bytes k b) (le_bytes k c), length-append (x ++ le_bytes k a) (le_bytes k b), length-append x (le_bytes k a), length_le_bytes k a, length_le_bytes k b, length_le_bytes k c)) h

number_fits : (e : Extreme) → ExtremeFits e → extreme_number e < 256 ^ 4
unfolding extreme_number
number_fits Absent f = omega arith
number_fits (Is n) f = omega arith

mark_small : (e : Extreme) → extreme_mark e ≤ 1
unfolding extreme_mark
mark_small Absent = omega arith
mark_small (Is n) = omega arith

-- mark and number hold the extreme
extreme_again : (e : Extreme) → extreme_at (extreme_mark e) (extreme_number e) ≡ e
unfolding extreme_at extreme_mark extreme_number
extreme_again Absent = refl
extreme_again (Is n) = refl

pub bytes_back : BytesBack
unfolding sheet_bytes sheet_at wrong_mark
bytes_back s W =
    let A : List ℕ = four 8 s.carriers s.lacking s.refused s.sum in
    let B : List ℕ = four 4 (extreme_number s.smallest) (extreme_number s.largest) (mean_whole (mean s)) (mean_remainder (mean s)) in
    let C : List ℕ = four 1 (extreme_mark s.smallest) (extreme_mark s.largest) (mean_mark (mean s)) 0 in
    let la : length A ≡ 32 = length_four 8 s.carriers s.lacking s.refused s.sum in
    let lb : length B ≡ 16 = length_four 4 (extreme_number s.smallest) (extreme_number s.largest) (mean_whole (mean s)) (mean_remainder (mean s)) in
    let lc : length C ≡ 4 = length_four 1 (extreme_mark s.smallest) (extreme_mark s.largest) (mean_mark (mean s)) 0 in
    let lab : length (A ++ B) ≡ 48 = length-append A B ∙ omega arith in
    let front : A ++ B ++ C ≡ [] ++ A ++ (B ++ C) = append_assoc A B C in
    let last : A ++ B ++ C ≡ A ++ B ++ C ++ [] = sym (append-nil (A ++ B ++ C)) in
    let c₀ : at (A ++ B ++ C) 8 0 ≡ s.carriers = ap (λ (z : List ℕ). at z 8 0) front ∙ first_of [] (B ++ C) 8 s.carriers s.lacking s.refused s.sum 0 refl (omega (arith, W.carriers)) in
    let c₁ : at (A ++ B ++ C) 8 8 ≡ s.lacking = ap (λ (z : List ℕ). at z 8 8) front ∙ second_of [] (B ++ C) 8 s.carriers s.lacking s.refused s.sum 0 refl (omega (arith, W.lacking)) in
    let c₂ : at (A ++ B ++ C) 8 16 ≡ s.refused = ap (λ (z : List ℕ). at z 8 16) front ∙ third_of [] (B ++ C) 8 s.carriers s.lacking s.refused s.sum 0 refl (omega (arith, W.refused)) in
    let c₃ : at (A ++ B ++ C) 8 24 ≡ s.sum = ap (λ (z : List ℕ). at z 8 24) front ∙ fourth_of [] (B ++ C) 8 s.carriers s.lacking s.refused s.sum 0 refl (omega (arith, W.sum)) in
    let n₀ : at (A ++ B ++ C) 4 32 ≡ extreme_number s.smallest = first_of A C 4 (extreme_number s.smallest) (extreme_number s.largest) (mean_whole (mean s)) (mean_remainder (mean s)) 32 la (number_fits s.smallest W.smallest) in
    let n₁ : at (A ++ B ++ C) 4 36 ≡ extreme_number s.largest = second_of A C 4 (extreme_number s.smallest) (extreme_number s.largest) (mean_whole (mean s)) (mean_remainder (mean s)) 32 la (number_fits s.largest W.largest) in
    let m₀ : at (A ++ B ++ C) 1 48 ≡ extreme_mark s.smallest = ap (λ (z : List ℕ). at z 1 48) last ∙ first_of (A ++ B) [] 1 (extreme_mark s.smallest) (extreme_mark s.largest) (mean_mark (mean s)) 0 48 lab (omega (arith, mark_small s.smallest)) in
    let m₁ : at (A ++ B ++ C) 1 49 ≡ extreme_mark s.largest = ap (λ (z : List ℕ). at z 1 49) last ∙ second_of (A ++ B) [] 1 (extreme_mark s.smallest) (extreme_mark s.largest) (mean_mark (mean s)) 0 48 lab (omega (arith, mark_small s.largest)) in
    let e₀ : extreme_at (at (A ++ B ++ C) 1 48) (at (A ++ B ++ C) 4 32) ≡ s.smallest = ap₂ extreme_at m₀ n₀ ∙ extreme_again s.smallest in
    let e₁ : extreme_at (at (A ++ B ++ C) 1 49) (at (A ++ B ++ C) 4 36) ≡ s.largest = ap₂ extreme_at m₁ n₁ ∙ extreme_again s.largest in
    record {
      same =
          ap₂ (λ (i j : ℕ). record { carriers = i; lacking = j; refused = at (A ++ B ++ C) 8 16; smallest = extreme_at (at (A ++ B ++ C) 1 48) (at (A ++ B ++ C) 4 32); largest = extreme_at (at (A ++ B ++ C) 1 49) (at (A ++ B ++ C) 4 36); sum = at (A ++ B ++ C) 8 24 }) c₀ c₁
          ∙ ap₂ (λ (i j : ℕ). record { carriers = s.carriers; lacking = s.lacking; refused = i; smallest = extreme_at (at (A ++ B ++ C) 1 48) (at (A ++ B ++ C) 4 32); largest = extreme_at (at (A ++ B ++ C) 1 49) (at (A ++ B ++ C) 4 36); sum = j }) c₂ c₃
          ∙ ap₂ (λ (i j : Extreme). record { carriers = s.carriers; lacking = s.lacking; refused = s.refused; smallest = i; largest = j; sum = s.sum }) e₀ e₁;
      marks = ap₂ ◌||◌ (ap (ltb 1) m₀ ∙ le-ltb 1 (extreme_mark s.smallest) (mark_small s.smallest)) (ap (ltb 1) m₁ ∙ le-ltb 1 (extreme_mark s.largest) (mark_small s.largest));
      long = length-append (A ++ B) C ∙ omega arith;
    }
