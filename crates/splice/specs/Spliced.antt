-- A message with the bytes of one optional exchanged, in the numbers of a cut.
--
--   header_length, field_length, piece_length    lengths of a header, a length field, a new member
--   piece_of, marker_of, exchanged              the new member, the end marker, both
--   size_of c all n       how many of `all` bytes there are afterwards, the new member having n
--   flag_of, head_of, data_of, slice_middle, front_of    the slice's new flags; the parts before the exchange; all of them
--   spliced              the whole
--   Cuts, Shaped         the places of a cut, in order and within a message
use Rattle.std.specs.Prelude.{Bool, true, List, [], ◌∷◌, ◌++◌, ℕ, ◌+◌, ◌-◌, ◌≤◌, ◌<◌, length, take, drop, eqb, ltb}
use Rattle.encoding.specs.Result.{pick}
use Rattle.encoding.specs.Number.{le_bytes, size_bytes}
use Rattle.encoding.specs.Table.{at}
use Rattle.encoding.specs.Slice.{sliced, bit, flag_bits}
use Rattle.pieces.specs.Pieces.{optional_field}
use Rattle.edit.specs.Place.{list_spliced, slice_spliced}
use Rattle.splice.specs.declared.Cut.{Cut}

unfoldable pub header_length : ℕ → ℕ
header_length t = pick (ltb t 30) 1 (1 + length (size_bytes t))

unfoldable pub field_length : ℕ → ℕ → ℕ
field_length form n = pick (ltb form 9) 0 (pick (eqb form 9) (length (size_bytes n)) 4)

unfoldable pub piece_length : Bool → ℕ → ℕ → ℕ → ℕ
piece_length setting t form n = pick setting (header_length t + field_length form n + n) 0

unfoldable pub piece_of : Bool → ℕ → ℕ → List ℕ → List ℕ
piece_of setting t form b = pick setting (optional_field t form b) []

abbrev pub marker_of : Bool → List ℕ
marker_of q = pick q (255 ∷ []) []

unfoldable pub exchanged : Cut → List ℕ → List ℕ
exchanged c b = piece_of c.setting c.tag c.form b ++ marker_of c.marker

unfoldable pub size_of : Cut → ℕ → ℕ → ℕ
size_of c all n = all - (c.to - c.from) + piece_length c.setting c.tag c.form n + length (marker_of c.marker)

-- the slice's flags afterwards
unfoldable pub flag_of : Bool → ℕ → List ℕ → ℕ
flag_of flagged flags m = flag_bits sliced true flagged (bit (at m 1 flags) 32)

-- after the message's size, up to the slice's size
unfoldable pub head_of : Bool → ℕ → ℕ → List ℕ → List ℕ
head_of flagged flags size m = take (flags - 4) (drop 4 m) ++ (flag_of flagged flags m ∷ take (size - (flags + 1)) (drop (flags + 1) m))

-- the slice's size v, and what comes before the exchange
unfoldable pub data_of : ℕ → ℕ → ℕ → List ℕ → List ℕ
data_of size from v m = le_bytes 4 v ++ take (from - (size + 4)) (drop (size + 4) m)

unfoldable pub slice_middle : Cut → List ℕ → ℕ → List ℕ
slice_middle c m n = head_of c.flagged c.flags c.size m ++ data_of c.size c.from (size_of c (c.end - c.size) n) m

unfoldable pub front_of : Cut → List ℕ → ℕ → List ℕ
front_of c m n = le_bytes 4 (size_of c (length m) n) ++ pick (ltb 0 c.end) (slice_middle c m n) (take (c.from - 4) (drop 4 m))

unfoldable pub spliced : Cut → List ℕ → List ℕ → List ℕ
spliced c m b =
    pick (ltb 0 c.end) (slice_spliced c.flags c.size c.end c.from c.to (flag_of c.flagged c.flags m) (exchanged c b) m) (list_spliced c.from c.to (exchanged c b) m)

-- what goes is within `all` bytes
pub record Cuts (all : ℕ) (c : Cut) : Type 0 where
  pub order : c.from ≤ c.to
  pub fewer : c.to - c.from ≤ all
  pub few : all ≤ 65536

-- the places in a message of l bytes; those of a slice, if there is one
pub record Shaped (l : ℕ) (c : Cut) : Type 0 where
  pub begins : 4 ≤ c.from
  pub order : c.from ≤ c.to
  pub inside : c.to ≤ l
  pub few : l ≤ 65536
  pub flags_at_lem : 0 < c.end → 4 ≤ c.flags
  pub size_at_lem : 0 < c.end → c.flags + 1 ≤ c.size
  pub data_at : 0 < c.end → c.size + 4 ≤ c.from
  pub ends : 0 < c.end → c.to ≤ c.end
  pub end_at_lem : c.end ≤ l
