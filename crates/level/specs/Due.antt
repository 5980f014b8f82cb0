-- What holds while an owner's required members are read: the answer and the list at the end follow from the rows that are left.
--
--   Later   the pieces still to come, if all are accepted, and what they make of the list as it is
--   Due     at member row m, before `end`: `pos` bytes were read, k rows are there, `next` is the first optional row so far
use Rattle.std.specs.Prelude.{◌≡◌, Bool, List, ℕ, ◌+◌, ◌-◌, ◌≤◌, ◌<◌, min, length, drop}
use Rattle.encoding.specs.Result.{ok, shift}
use Rattle.encoding.specs.Table.{field, range, trees, Member, requireds_in, required_members}
use Rattle.encoding.specs.Old.{members_as}
use Rattle.encoding.specs.Optional.{Piece, requireds}
use Rattle.encoding.specs.Message.{piece_rows}
use Rattle.table.specs.Tags.{first_optional, optional_start}
use Rattle.level.specs.Fill.{fill}
use Rattle.level.specs.Answers.{members_of}
use Rattle.level.specs.RequiredLaws.{Ahead}

pub record Later (T : List ℕ) (t at : ℕ) (s : List ℕ) (ms : List Member) (pos k : ℕ) (last out : List ℕ) : Type 0 where
  pub pieces : List Piece
  pub taken : ℕ
  pub read : requireds ms (drop pos s) ≡ ok pieces taken
  pub made : last ≡ fill k (piece_rows T t (at + pos) pieces) out

pub record Due (old : Bool) (T : List ℕ) (t at count : ℕ) (s out₀ : List ℕ) (m end pos k next : ℕ) (out : List ℕ) : Type 0 where
  pub seen : ℕ
  pub inside : pos ≤ length s
  pub within : m ≤ end
  pub few : end < 131072
  pub ends : end ≡ field T t 0 + field T t 1
  pub most : next ≤ end
  pub start : optional_start T t ≡ min next (first_optional T (field T t 0 + field T t 1) m (end - m))
  pub low : k + (end - m) < count + 65536
  pub same : length out ≡ length out₀
  pub ahead : Ahead T t seen (range m (end - m))
  pub says : members_of count (optional_start T t) (requireds (members_as old (required_members T t)) s) ≡ members_of k (optional_start T t) (shift pos (requireds (members_as old (requireds_in T (trees T) seen (range m (end - m)))) (drop pos s)))
  pub gives : (ps : List Piece) (n : ℕ) → requireds (members_as old (required_members T t)) s ≡ ok ps n
      → Later T t at s (members_as old (requireds_in T (trees T) seen (range m (end - m)))) pos k (fill count (piece_rows T t at ps) out₀) out
