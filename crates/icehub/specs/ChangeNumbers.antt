-- The numbers that the exported calls that set and remove a member give.
--
--   set_number T top m member b room i, remove_number T top m member room i   number i of the answer for an output of so many bytes: 0 refusal, 1 place, 2 length
use Rattle.std.specs.Prelude.{List, ℕ, get_or}
use Rattle.encoding.specs.Write.{writing_of, writing_numbers}
use Rattle.edit.specs.Change.{set, remove}

abbrev pub set_number : List ℕ → ℕ → List ℕ → ℕ → List ℕ → ℕ → ℕ → ℕ
set_number T top m member b room i = get_or (writing_numbers (writing_of (set T top m member b room))) i 0

abbrev pub remove_number : List ℕ → ℕ → List ℕ → ℕ → ℕ → ℕ → ℕ
remove_number T top m member room i = get_or (writing_numbers (writing_of (remove T top m member room))) i 0
