-- The numbers that the exported calls give of a table.
--
--   table_number T i    number i of the verdict on a table: 0 the rule's number, 1 its place
use Rattle.std.specs.Prelude.{List, ℕ, get_or}
use Rattle.encoding.specs.Table.{faults, table_verdict, verdict_numbers}

abbrev pub table_number : List ℕ → ℕ → ℕ
table_number T i = get_or (verdict_numbers (table_verdict (faults T))) i 0
