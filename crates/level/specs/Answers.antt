-- What the code answers of the members of one owner.
--
--   reads n k i         required members that were read: n bytes, k rows, i where the optional ones begin
--   members_of k i r   required members that were read: the bytes taken, how many rows there are, k before them, and i, where the optional ones begin
--   Simple m left w   member row m is required, every string of w bytes is a value of its type, and as many are left
--   Logged m s n      member row m is required, and a value of its type takes the first n bytes of s
--   LastLog           the same for n above 0, no row from m + 1 to `end` is required, and row k was put for the member, whose value is at place `at`
--   Tagged end row k t    the look-up of tag k before row `end`, from `row` on, finds member `row` at once; its type has row t
--   Bare              n bytes, if there are any, are an optional of tag k and member `row` as the reader of optionals gives it
--   Headed            the same of one whose header has h bytes
--   bare_shape k       the shape of a type whose values are any bytes of type k, F1 to F8
--   row_or             a member's row, if there is one
--   piece_answer       what is answered of a piece that took n bytes
--   optional_answer    the next optional: a known one with its member row, its tag, where its bytes begin and the bytes taken; or a skipped one
use Rattle.std.specs.Prelude.{◌≡◌, Result, Ok, Some, false, List, [], ◌∷◌, ℕ, ◌+◌, ◌-◌, ◌*◌, ◌≤◌, ◌<◌, length, get_or}
use Rattle.std.proofs.Math.Option.{Option, none, some}
use Rattle.encoding.specs.Result.{Res, ok, bad}
use Rattle.encoding.specs.Table.{member_type, mark, ty_of, Member, lookup}
use Rattle.encoding.specs.Value.{value}
use Rattle.encoding.specs.Old.{type_as}
use Rattle.encoding.specs.Message.{row_bytes}
use Rattle.encoding.specs.Optional.{Piece, required, optional, skipped, next_optional}
use Rattle.wire.specs.declared.Refusal.{Refusal}
use Rattle.wire.specs.Steps.{step_of, refused}
use Rattle.wire.specs.Put.{put}
use Rattle.table.specs.Found.{member_found}
use Rattle.table.specs.Tags.{first_required, optional_from}
use Rattle.shapes.specs.Shapes.{shapes_of, width_in}
use Rattle.optional.specs.Answers.{type_row}
use Rattle.level.specs.declared.Members.{Members}
use Rattle.level.specs.declared.Optional.{Optional}
use Rattle.level.specs.declared.Optional.TheVariants.{Known, Skipped}

-- required members that were read, by the three numbers
abbrev pub reads : ℕ → ℕ → ℕ → Result Members Refusal
reads n k i = Ok (record { bytes = n; count = k; optional = i })

unfoldable pub members_of : ℕ → ℕ → Res (List Piece) → Result Members Refusal
members_of k i (ok ps n) = reads n (k + length ps) i
members_of k i (bad c p) = refused c p

pub record Simple (T : List ℕ) (m left w : ℕ) : Type 0 where
  pub mark_is : mark T m ≡ 0
  pub width_is : w ≡ width_in (shapes_of T) (type_row T m)
  pub there : w ≤ left

pub record Logged (T : List ℕ) (m : ℕ) (s : List ℕ) (n : ℕ) : Type 0 where
  pub mark_is : mark T m ≡ 0
  pub taken : Ok n ≡ step_of (value (type_as false (ty_of T (type_row T m))) s)

pub record LastLog (T : List ℕ) (m end : ℕ) (s : List ℕ) (at k n : ℕ) (out last : List ℕ) : Type 0 where
  pub none : n ≡ 0 → last ≡ out
  pub logged : (n ≡ 0 → ⊥) → Logged T m s n
  pub past : (n ≡ 0 → ⊥) → end ≡ first_required T (m + 1) (end - (m + 1))
  pub put_is : (n ≡ 0 → ⊥) → last ≡ put (12 * k) (row_bytes (record { member = m; place = at; len = n })) out

pub record Tagged (T : List ℕ) (end row k t : ℕ) : Type 0 where
  pub found : Some (record { member = row; of = member_type T row }) ≡ member_found T (lookup k (optional_from T end row))
  pub type_is : t ≡ type_row T row

unfoldable pub bare_shape : ℕ → ℕ
bare_shape k = get_or (11 ∷ 12 ∷ 14 ∷ 18 ∷ []) k 256

unfoldable pub row_or : Option Member → ℕ
row_or none = 0
row_or (some m) = m.row

unfoldable pub piece_answer : List Member → ℕ → Piece → Optional
piece_answer ms n (required i b) = Skipped i n
piece_answer ms n (optional k f b) = Known (row_or (lookup k ms)) k (n - length b) n
piece_answer ms n (skipped k f b) = Skipped k n

unfoldable pub optional_answer : List Member → Res (Piece × ℕ) → Result Optional Refusal
optional_answer ms (ok r n) = Ok (piece_answer ms n r.0)
optional_answer ms (bad c p) = refused c p

pub record Bare (T : List ℕ) (end row least : ℕ) (s : List ℕ) (k n : ℕ) : Type 0 where
  pub known : 0 < n → Ok (Known row k 1 n) ≡ optional_answer (optional_from T end row) (next_optional (optional_from T end row) least s)

pub record Headed (T : List ℕ) (end row least : ℕ) (s : List ℕ) (k h n : ℕ) : Type 0 where
  pub known : 0 < n → Ok (Known row k h n) ≡ optional_answer (optional_from T end row) (next_optional (optional_from T end row) least s)
