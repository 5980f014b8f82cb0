-- The bytes of an endpoint in the two parts in which the code puts them.
--
--   bit b            a bool as a byte
--   judged c         a refusal number as an answer, which is Ok where it is 0
--   needed_length     how many bytes an endpoint of a type takes that has a host of n bytes
--   head_bytes k n h  type, the encapsulation's size, version, host; the endpoint has n bytes
--   tail_bytes        port, timeout unless UDP, compress
--   layout           the two are the endpoint's bytes; needed_is: their length
use Rattle.std.specs.Prelude.{Bool, List, [], ◌∷◌, ◌++◌, ℕ, zero, suc, ◌+◌, ◌-◌, length, Result, Ok, Err}
use Rattle.encoding.specs.Result.{pick}
use Rattle.encoding.specs.Number.{le_bytes, size_bytes}
use Rattle.endpoint.specs.Endpoint.{timed, timeout_bytes}

abbrev pub bit : Bool → ℕ
bit b = pick b 1 0

unfoldable pub judged : ℕ → Result (Unit {0}) ℕ
judged zero = Ok tt
judged (suc c) = Err (suc c)

unfoldable pub needed_length : ℕ → ℕ → ℕ
needed_length k n = pick (timed k) 17 13 + length (size_bytes n) + n

unfoldable pub head_bytes : ℕ → ℕ → List ℕ → List ℕ
head_bytes k n h = le_bytes 2 k ++ le_bytes 4 (n - 2) ++ le_bytes 2 257 ++ size_bytes (length h) ++ h

unfoldable pub tail_bytes : ℕ → ℕ → ℕ → ℕ → List ℕ
tail_bytes k p t c = le_bytes 4 p ++ (timeout_bytes k t ++ (c ∷ []))
