-- The member rows of a type row, looked up once.
--
--   Takes T t from stop   row t takes member rows `from` to `stop` - 1, by its fields a and b
use Rattle.std.specs.Prelude.{◌≡◌, List, ℕ, ◌+◌, ◌<◌}
use Rattle.encoding.specs.Table.{field}

pub record Takes (T : List ℕ) (t from stop : ℕ) : Type 0 where
  pub from_is : from ≡ field T t 0
  pub stop_is : stop ≡ field T t 0 + field T t 1
  pub from_small : from < 65536
  pub stop_small : stop < from + 65536
