-- What the pass knows of a type row that it lets pass.
--
--   RowPassed T t row n b x      row t and its member rows break no rule, and x is its shape; the rows before it take n member rows; b: one of them has its name
--   UnnamedPassed T t row n x    the same for every b: a row without a name
--   AlonePassed T t row x        the same for every n and b: a row that takes no member rows and has no name
--   StructPassed T t x           the members of struct row t break no rule, and x is its shape
--   PlainRows T o from k         each of the k member rows from `from` on, as one number, is a row below o that may be a part
use Rattle.std.specs.Prelude.{◌≡◌, Bool, false, List, ℕ, ◌+◌, ◌<◌, Ok}
use Rattle.encoding.specs.Table.{at, member_at, no_part}
use Rattle.table.specs.declared.TypeRow.{TypeRow}
use Rattle.rules.specs.Checks.{finding_of, broken_of, row_rules, owner_pass}
use Rattle.shapes.specs.Shapes.{shape_at}

pub record RowPassed (T : List ℕ) (t : ℕ) (row : TypeRow) (n : ℕ) (b : Bool) (x : ℕ) : Type 0 where
  pub rules : Ok tt ≡ broken_of (row_rules T t row n b)
  pub members : Ok tt ≡ finding_of (owner_pass T t)
  pub shape : x ≡ shape_at T t

pub record UnnamedPassed (T : List ℕ) (t : ℕ) (row : TypeRow) (n x : ℕ) : Type 0 where
  pub passed : (b : Bool) → RowPassed T t row n b x

pub record AlonePassed (T : List ℕ) (t : ℕ) (row : TypeRow) (x : ℕ) : Type 0 where
  pub passed : (n : ℕ) → UnnamedPassed T t row n x

pub record StructPassed (T : List ℕ) (t x : ℕ) : Type 0 where
  pub members : Ok tt ≡ finding_of (owner_pass T t)
  pub shape : x ≡ shape_at T t

pub record PlainRows (T : List ℕ) (o from k : ℕ) : Type 0 where
  pub plain : (j : ℕ) → j < k → no_part T o (at T 8 (member_at T (from + j))) ≡ false
