-- Where a record's name lies, and whose it is.
--
--   name_start   the place of the name's first byte, or the table's end
--   is_named     a row is a record of a name
use Rattle.std.specs.Prelude.{ℕ, ◌+◌, Bool, ◌&&◌, List, length, leb}
use Rattle.encoding.specs.Result.{pick, same_bytes}
use Rattle.encoding.specs.Table.{names_at, field, kind, is_record, name_of}

unfoldable pub name_start : List ℕ → ℕ → ℕ
name_start T t = pick (leb (names_at T + field T t 3) (length T)) (names_at T + field T t 3) (length T)

abbrev pub is_named : List ℕ → List ℕ → ℕ → Bool
is_named T nm t = is_record (kind T t) && same_bytes nm (name_of T t)
