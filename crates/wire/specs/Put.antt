-- Bytes put at a place of a lent list, and the bits of an optional's header.
--
--   put at b out     out with the bytes b from `at` on, where all of them fit; else out as it is
--   header_bits t k   an optional's header byte of the tag bits t and the type bits k
--   form_bits n       the type bits of the form of number n: below 8 its own, 8 (own) and 9 (counted) are VSize, 10 (sized) FSize
use Rattle.std.specs.Prelude.{List, ◌++◌, ℕ, ◌+◌, ◌*◌, ◌%◌, length, take, drop, leb, ltb}
use Rattle.encoding.specs.Result.{pick}

unfoldable pub put : ℕ → List ℕ → List ℕ → List ℕ
put at b out = pick (leb (at + length b) (length out)) (take at out ++ b ++ drop (at + length b) out) out

-- five bits and three bits
unfoldable pub header_bits : ℕ → ℕ → ℕ
header_bits t k = t % 32 * 8 + k % 8

-- forms are numbered by `form_number` of `shapes`
unfoldable pub form_bits : ℕ → ℕ
form_bits n = pick (ltb n 8) n (pick (ltb n 10) 5 6)
