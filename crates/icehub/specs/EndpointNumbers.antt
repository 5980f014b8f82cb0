-- The numbers that the exported calls give of endpoints.
--
--   open_number b room i              number i of the answer to opening, so many bytes lent for its numbers: 0 refusal, 1 place
--   endpoint_write_number .. room i    number i of the answer to writing for an output of so many bytes: 0 refusal, 1 place, 2 length
--   locate_number p n room i          number i of the answer to finding endpoint n of a proxy: 0 refusal, 1 place
use Rattle.std.specs.Prelude.{List, ℕ, get_or}
use Rattle.encoding.specs.Write.{writing_of, writing_numbers}
use Rattle.endpoint.specs.Endpoint.{open_endpoint, opened_of, opened_numbers, opened_within, endpoint_writing}
use Rattle.locate.specs.Locate.{locating, located_of, located_numbers, located_within}

abbrev pub open_number : List ℕ → ℕ → ℕ → ℕ
open_number b room i = get_or (opened_numbers (opened_within room (opened_of (open_endpoint b)))) i 0

abbrev pub endpoint_write_number : ℕ → List ℕ → ℕ → ℕ → ℕ → ℕ → ℕ → ℕ
endpoint_write_number k h p t c room i = get_or (writing_numbers (writing_of (endpoint_writing k h p t c room))) i 0

abbrev pub locate_number : List ℕ → ℕ → ℕ → ℕ → ℕ
locate_number p n room i = get_or (located_numbers (located_within room (located_of (locating n p)))) i 0
