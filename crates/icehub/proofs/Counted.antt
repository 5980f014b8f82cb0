-- The numbers of the calls for many messages are those of the walk. Assumes nothing.
--
--   count_same    the number of answers
--   place_same    the place, whatever table, top and rows are
use mathlib.Core.Path.{◌≡◌, ap}
use mathlib.Core.List.{List}
use Prim.Native.Nat.{ℕ}
use Rattle.night.specs.declared.Walked.{Walked}
use Rattle.night.specs.Night.{stretches, stop_at, night}

pub count_same : (w v : Walked) → w ≡ v → w.answers ≡ v.answers
count_same w v e = ap (λ (x : Walked). x.answers) e

pub place_same : (T : List ℕ) (top : ℕ) (buffer : List ℕ) (space left r : ℕ) → r ≡ stop_at space (stretches buffer) → r ≡ (night T top buffer space left).place
unfolding night
place_same T top buffer space left r e = e
