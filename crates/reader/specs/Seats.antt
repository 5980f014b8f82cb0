-- What is found of table and top once for many messages, and what is said of a message whose members may be any bytes.
--
--   Listed         the top is a parameter list that takes member rows `from` to `stop` - 1, and from row `bare` on none of them is required
--   Seated         what is found holds
--   PlainMembers   r - 1 rows were put, if r is above 0: they are those of the list from place 6 on, and all of it was read
--   PlainList      the same of the whole message
use Rattle.std.specs.Prelude.{◌≡◌, List, ℕ, ◌-◌, ◌<◌, length, drop}
use Rattle.encoding.specs.Result.{ok}
use Rattle.encoding.specs.Table.{kind, members_at}
use Rattle.encoding.specs.Optional.{Piece}
use Rattle.encoding.specs.Message.{Read, parameters, body, piece_rows, rows}
use Rattle.table.specs.Rows.{Whole}
use Rattle.table.specs.Tags.{first_required}
use Rattle.level.specs.Fill.{fill}
use Rattle.slices.specs.declared.Walk.TheVariants.{Done}
use Rattle.slices.specs.Walks.{list_walk, body_walk}
use Rattle.reader.specs.declared.Seat.{Seat}
use Rattle.reader.specs.OldUse.{OldUse}
use Rattle.reader.specs.Takes.{Takes}

pub record Listed (T : List ℕ) (top first from stop bare : ℕ) : Type 0 where
  pub is_list : kind T top ≡ 15
  pub first_is : first ≡ members_at T
  pub takes : Takes T top from stop
  pub inside : 0 < stop → Whole T stop
  pub none : first_required T bare (stop - bare) ≡ stop

pub record Seated (T : List ℕ) (top : ℕ) (s : Seat) : Type 0 where
  pub of_old : OldUse T top s.old
  pub of_list : (s.stop ≡ 0 → ⊥) → Listed T top s.first s.from s.stop s.bare

pub record PlainMembers (T : List ℕ) (top : ℕ) (m : List ℕ) (r : ℕ) (out last : List ℕ) : Type 0 where
  pub kept : length last ≡ length out
  pub says : 0 < r → Done top 1 (r - 1) 0 0 (length m) ≡ list_walk T top 6 (parameters T top (drop 6 m))
  pub gives : 0 < r → (ps : List Piece) (n : ℕ) → parameters T top (drop 6 m) ≡ ok ps n → last ≡ fill 0 (piece_rows T top 6 ps) out

pub record PlainList (T : List ℕ) (top : ℕ) (m : List ℕ) (r : ℕ) (out last : List ℕ) : Type 0 where
  pub kept : length last ≡ length out
  pub says : 0 < r → Done top 1 (r - 1) 0 0 (length m) ≡ body_walk T top (body T top m)
  pub gives : 0 < r → (d : Read) (n : ℕ) → body T top m ≡ ok d n → last ≡ fill 0 (rows T top d.format d.pieces) out
