-- The numbers that the writer's exported calls give.
--
--   write_number T type format count rows buffer room i  number i of the writer's answer for an output of so many bytes: 0 refusal, 1 place, 2 length
use Rattle.std.specs.Prelude.{List, ℕ, get_or}
use Rattle.encoding.specs.Write.{writing, writing_of, writing_numbers}

abbrev pub write_number : List ℕ → ℕ → ℕ → ℕ → List ℕ → List ℕ → ℕ → ℕ → ℕ
write_number T type format count rows buffer room i = get_or (writing_numbers (writing_of (writing T type format count rows buffer room))) i 0
