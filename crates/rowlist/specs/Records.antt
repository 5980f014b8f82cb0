-- The list as row records: a lent list of rows, each a record of three numbers.
--
--   record_of    a row as a record
--   records     rows of the row bytes, as records
--   blank       a row of zeros
--   overlay     a lent list after rows are put at its start
--   rows_of      the row count of an answer
use Rattle.std.specs.Prelude.{List, [], ◌∷◌, map, ℕ}
use Rattle.encoding.specs.declared.Reading.{Reading}
use Rattle.encoding.specs.declared.Reading.TheVariants.{Accepted, Refused}
use Rattle.encoding.specs.declared.Row.{Row}
use Rattle.encoding.specs.Table.{range}
use Rattle.encoding.specs.Message as Message
use Rattle.encoding.specs.Write.{row_at}

-- member row, place, length
unfoldable pub record_of : Message.Row → Row
record_of r = record { member = r.member; place = r.place; length = r.len }

-- n rows of the row bytes, from row k on
unfoldable pub records : List ℕ → ℕ → ℕ → List Row
records s k n = map record_of (map (row_at s) (range k n))

-- a row of zeros
abbrev pub blank : Row
blank = record { member = 0; place = 0; length = 0 }

-- the first elements are the rows, in order; every other element stays
unfoldable pub overlay : List Row → List Row → List Row
overlay [] ys = ys
overlay (x ∷ xs) [] = []
overlay (x ∷ xs) (y ∷ ys) = x ∷ overlay xs ys

-- the rows counted in an answer; none on a refusal
unfoldable pub rows_of : Reading → ℕ
rows_of (Accepted t f n o s) = n
rows_of (Refused n p) = 0
