-- The numbers that the exported calls give of a frost guard.
--
--   start_number set room i     number i of the answer to a start, so many bytes lent for the state: 0 refusal, 1 place, 2 fires
--   guard_number s m room i     number i of the answer to a report, so many bytes lent for the state after it
use Rattle.std.specs.Prelude.{List, ℕ, get_or}
use Rattle.frost.specs.Frost.{started, reported, told_numbers}

abbrev pub start_number : ℕ → ℕ → ℕ → ℕ
start_number set room i = get_or (told_numbers (started set room)) i 0

abbrev pub guard_number : List ℕ → List ℕ → ℕ → ℕ → ℕ
guard_number s m room i = get_or (told_numbers (reported s m room)) i 0
