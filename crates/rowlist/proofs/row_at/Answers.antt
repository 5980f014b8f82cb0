-- Each number of the row is the int at its place, which fits 32 bits. Assumes nothing.
use mathlib.Core.Path.{◌≡◌}
use Prim.Native.Nat.{ℕ, ◌<◌}
use native.Mathlib.Omega.{arith}
use Rattle.encoding.specs.Write.{row_at}
use Rattle.reading.specs.Told.{low}
use Rattle.rowlist.specs.Records.{record_of}
use Rattle.rowlist.proofs.row_at.Goals as goal

-- the low 32 bits of an int are the int
whole : (r x n : ℕ) → r ≡ low x → (x ≡ n) × (x < 4294967296) → r ≡ n
whole r x n e h = omega (arith, e, h.0, h.1)

pub returns : goal.returns
unfolding record_of row_at
returns c = λ i. record {
  member = whole _ _ _ c.low.ensures c.int_at.ensures i;
  place = whole _ _ _ c.low-2.ensures c.int_at-2.ensures i;
  length = whole _ _ _ c.low-3.ensures c.int_at-3.ensures i;
}
