-- Whether bytes fit at a place. Assumes nothing.
--
--   fits_low, fits_else    the test in two steps, without a sum
--   fits_yes, fits_no      what follows from the test
use mathlib.Core.Path.{◌≡◌, refl, sym, ◌∙◌}
use mathlib.Core.Bool.{Bool, true, false}
use Prim.Native.Nat.{ℕ, ◌+◌, ◌-◌, ◌≤◌, ◌<◌}
use native.Mathlib.Omega.{arith}
use lib.Dec.{leb}
use borrow.Author.Tests.{leb-true, leb-false, le-leb, lt-leb}

pub fits_low : (n at k : ℕ) → n < k → false ≡ leb (at + k) n
fits_low n at k h = sym (lt-leb (at + k) n (omega arith))

pub fits_else : (n at k : ℕ) → k ≤ n → leb at (n - k) ≡ leb (at + k) n
fits_else n at k h = go (leb at (n - k)) refl
  where
    go : (t : Bool) → leb at (n - k) ≡ t → t ≡ leb (at + k) n
    go true e = let l = leb-true at (n - k) e in sym (le-leb (at + k) n (omega arith))
    go false e = let l = leb-false at (n - k) e in sym (lt-leb (at + k) n (omega arith))

module _ (n at k : ℕ) (r : Bool) (e : r ≡ leb (at + k) n) where
  pub fits_yes : r ≡ true → at + k ≤ n
  fits_yes q = leb-true (at + k) n (sym e ∙ q)

  pub fits_no : r ≡ false → n < at + k
  fits_no q = leb-false (at + k) n (sym e ∙ q)
