-- The numbers that the exported calls give.
--
--   read_number T top m bytes i    number i of the reader's answer with a lent list of so many bytes:
--                                 0 refusal, 1 place, 2 first known type, 3 format, 4 rows, 5 optionals skipped, 6 slices skipped
use Rattle.std.specs.Prelude.{List, ℕ, get_or}
use Rattle.encoding.specs.Message.{reading, reading_of, reading_numbers}

abbrev pub read_number : List ℕ → ℕ → List ℕ → ℕ → ℕ → ℕ
read_number T top m bytes i = get_or (reading_numbers (reading_of (reading T top m bytes))) i 0
