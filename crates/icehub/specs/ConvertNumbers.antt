-- The numbers that the converter's exported calls give.
--
--   convert_number T top m room i   number i of the converter's answer for an output of so many bytes: 0 refusal, 1 place, 2 length
use Rattle.std.specs.Prelude.{List, ℕ, get_or}
use Rattle.encoding.specs.Write.{writing_of, writing_numbers}
use Rattle.convert.specs.Convert.{converting}

abbrev pub convert_number : List ℕ → ℕ → List ℕ → ℕ → ℕ → ℕ
convert_number T top m room i = get_or (writing_numbers (writing_of (converting T top m room))) i 0
