-- A row of a list as the code has it.
--
--   as_row    the row of three numbers
use Rattle.encoding.specs.Message.{Row}
use Rattle.wire.specs.declared.rows.RowNumbers.{RowNumbers}

abbrev pub as_row : RowNumbers → Row
as_row r = record { member = r.member; place = r.place; len = r.len }
