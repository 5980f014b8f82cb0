-- Numbers at a place (`Table.at`), digit by digit. Assumes nothing.
--
--   at_more    the first byte, and 256 times the number of the rest
--   at_byte    one byte
--   at_split   the number of j bytes, and 256 ^ j times the number of those after them
--   at_cut     the first j bytes alone, where no more are there
--   at_rest    a number of the part that begins at a place
--   at_within  a number of a part that holds all of it
--   at_past    past the end it is 0
use Rattle.std.specs.Prelude.{◌≡◌, refl, List, [], ◌∷◌, ℕ, zero, suc, ◌+◌, ◌-◌, ◌*◌, ◌^◌, ◌≤◌, length, take, drop, get_or}
use Rattle.std.proofs.Common.{ap, ◌∙◌, add-zero, zero-add, mul_assoc, arith, drop_of_length-le, take-take, drop-drop}
use Rattle.std.proofs.Math.Nat.{pow-succ'}
use Rattle.std.proofs.Math.Seq.{take-nil}
use Rattle.encoding.specs.Table.{at}
use Rattle.encoding.specs.Number.{val}
use Rattle.wire.specs.StepLaws.{rest_is}

pub at_past : (s : List ℕ) (k i : ℕ) → length s ≤ i → at s k i ≡ 0
unfolding at val
at_past s k i h = rw (drop_of_length-le s h, take-nil {A = ℕ} k)

at_none : (s : List ℕ) (i : ℕ) → at s 0 i ≡ 0
unfolding at val
at_none s i = refl

pub at_more : (s : List ℕ) (k i : ℕ) → at s (suc k) i ≡ get_or s i 0 + 256 * at s k (suc i)
unfolding at val
at_more [] k zero = rw (take-nil {A = ℕ} k)
at_more [] k (suc i) = rw (take-nil {A = ℕ} k)
at_more (x ∷ s) k zero = refl
at_more (x ∷ s) k (suc i) = at_more s k i

pub at_byte : (s : List ℕ) (i : ℕ) → at s 1 i ≡ get_or s i 0
unfolding at val
at_byte s i = at_more s 0 i ∙ omega arith

pub at_split : (s : List ℕ) (j k i : ℕ) → at s (j + k) i ≡ at s j i + 256 ^ j * at s k (i + j)
at_split s zero k i = rw (at_none s i, add-zero i, zero-add k) (omega arith)
at_split s (suc j) k i =
    let n : suc j + k ≡ suc (j + k) = omega arith in
    let p : i + suc j ≡ suc i + j = omega arith in
    let m : 256 ^ suc j * at s k (suc i + j) ≡ 256 * (256 ^ j * at s k (suc i + j)) = rw (pow-succ' 256 j) (mul_assoc 256 (256 ^ j) (at s k (suc i + j))) in
    rw (n, p, m, at_more s (j + k) i, at_split s j k (suc i), at_more s j i) (omega arith)

-- what is past the end adds nothing
pub at_cut : (s : List ℕ) (j k i : ℕ) → length s ≤ i + j → at s (j + k) i ≡ at s j i
at_cut s j k i h = at_split s j k i ∙ rw (at_past s k (i + j) h) (omega arith)

pub at_rest : (s : List ℕ) (i k j : ℕ) → at (take (length s - i) (drop i s)) k j ≡ at s k (i + j)
unfolding at
at_rest s i k j = rw (rest_is s i, drop-drop j i s)

-- a part of a part lies in the whole
part_part : (s : List ℕ) (i k n : ℕ) → i + k ≤ n → take k (drop i (take n s)) ≡ take k (drop i s)
part_part s zero k n h = take-take k n s (omega arith)
part_part [] (suc i) k n h = rw (take-nil {A = ℕ} n)
part_part (x ∷ s) (suc i) k zero h = absurd (omega arith)
part_part (x ∷ s) (suc i) k (suc n) h = part_part s i k n (omega arith)

pub at_within : (s : List ℕ) (i n k j : ℕ) → j + k ≤ n → at (take n (drop i s)) k j ≡ at s k (i + j)
unfolding at
at_within s i n k j h = ap val (part_part (drop i s) j k n h) ∙ rw drop-drop
