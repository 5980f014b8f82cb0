-- Loops over row numbers: what is left to look at, after a turn and at the end. Assumes nothing.
--
--   range_more, range_none             the first of the numbers left
--   any_here, any_next, any_none       whether some number left passes a test
--   any_never                          none passes where each fails
--   any_past                           the first numbers, where each fails, are passed over
--   range_left, range_empty            the same where the numbers left are counted down
--   find_never, find_first             the first number that passes a test
use Prim.Native.Nat.{ℕ, zero, suc, ◌+◌, ◌-◌, ◌≤◌, ◌<◌}
use mathlib.Core.Path.{◌≡◌, refl, ap, ◌∙◌}
use mathlib.Core.Bool.{Bool, true, false}
use mathlib.Core.Option.{none, some}
use mathlib.Core.List.{[], ◌∷◌}
use lib.Dec.{eqb}
use borrow.Author.Tests.{eqb-true, eqb-false}
use native.Mathlib.Numerals.{add-one}
use native.Mathlib.Omega.{arith}
use Rattle.encoding.specs.Result.{pick}
use Rattle.encoding.specs.Table.{range, any, search as find}

pub range_more : (i n : ℕ) → i < n → range i (n - i) ≡ i ∷ range (i + 1) (n - (i + 1))
unfolding range
range_more i n h = let e : n - i ≡ suc (n - (i + 1)) = omega arith in rw (e, add-one)

pub range_none : (i n : ℕ) → n ≤ i → range i (n - i) ≡ []
unfolding range
range_none i n h = let e : n - i ≡ 0 = omega arith in rw e

-- counted down
pub range_left : (i left : ℕ) → 0 < left → range i left ≡ i ∷ range (i + 1) (left - 1)
unfolding range
range_left i left h = let e : left ≡ suc (left - 1) = omega arith in ap (range i) e ∙ rw add-one

pub range_empty : (i left : ℕ) → left ≤ 0 → range i left ≡ []
unfolding range
range_empty i left h = let e : left ≡ 0 = omega arith in rw e

module _ (f : ℕ → Bool) (i n : ℕ) where
  pub any_here : i < n → f i ≡ true → any f (range i (n - i)) ≡ true
  unfolding any
  any_here h e = rw (range_more i n h, e)

  pub any_next : i < n → f i ≡ false → any f (range i (n - i)) ≡ any f (range (i + 1) (n - (i + 1)))
  unfolding any
  any_next h e = rw (range_more i n h, e)

  pub any_none : n ≤ i → any f (range i (n - i)) ≡ false
  unfolding any
  any_none h = rw (range_none i n h)

pub any_never : (f : ℕ → Bool) (k i : ℕ) → ((r : ℕ) → i ≤ r → r < i + k → f r ≡ false) → any f (range i k) ≡ false
unfolding any range
any_never f zero i h = refl
any_never f (suc k) i h = rw (h i (omega arith) (omega arith), any_never f k (suc i) (λ r a b. h r (omega arith) (omega arith)))

pub any_past : (f : ℕ → Bool) (from t : ℕ) → from ≤ t → ((r : ℕ) → r < from → f r ≡ false) → any f (range 0 t) ≡ any f (range from (t - from))
any_past f zero t h fails = let z : t - 0 ≡ t = omega arith in rw z
any_past f (suc from) t h fails = any_past f from t (omega arith) (λ r l. fails r (omega arith)) ∙ rw add-one at (any_next f from t h (fails from (omega arith)))

pub find_never : (f : ℕ → Bool) (k i : ℕ) → ((r : ℕ) → i ≤ r → r < i + k → f r ≡ false) → find f (range i k) ≡ none
unfolding find range
find_never f zero i h = refl
find_never f (suc k) i h = rw (h i (omega arith) (omega arith), find_never f k (suc i) (λ r a b. h r (omega arith) (omega arith)))

pub find_first : (f : ℕ → Bool) (k i j : ℕ) → i ≤ j → j < i + k → f j ≡ true → ((r : ℕ) → i ≤ r → r < j → f r ≡ false) → find f (range i k) ≡ some j
unfolding find range
find_first f zero i j h l e fails = absurd (omega arith)
find_first f (suc k) i j h l e fails = go (eqb i j) refl (λ m. find_first f k (suc i) j m (omega arith) e (λ r a b. fails r (omega arith) b))
  where
    go : (b : Bool) → eqb i j ≡ b → (suc i ≤ j → find f (range (suc i) k) ≡ some j) → pick (f i) (some i) (find f (range (suc i) k)) ≡ some j
    go true q again = let z : i ≡ j = eqb-true i j q in rw (z, e)
    go false q again = let z = eqb-false i j q in rw (fails i (omega arith) (omega arith), again (omega arith))
