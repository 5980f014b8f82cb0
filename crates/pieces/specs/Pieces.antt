-- One member as it is put, in numbers.
--
--   header_field    an optional's header of a tag and type bits
--   length_field    the length field before so many bytes, by a form's number
--   optional_field  an optional of a tag, a form's number and bytes
--   Taken          the piece of a row, and the state after it
--   piece_at        row i as a member of the state's owner, if it is one
--   group          the pieces of that owner from row i on, at most k rows
--   RowIs          a row that is right: its piece and the cursor after it, its part being judged before or now
--   RowLaid        the same, and what is put of it; nothing where it is measured, so that the output is empty before and after
--   DuePut, MayPut what the code answers of a row as the required member that is due, and as an optional one
use Rattle.std.specs.Prelude.{◌≡◌, Bool, true, false, List, [], ◌∷◌, ◌++◌, ℕ, zero, suc, ◌+◌, ◌*◌, ◌≤◌, ◌<◌, length, eqb, ltb}
use Rattle.std.proofs.Math.Option.{Option, none, some}
use Rattle.std.specs.Prelude.{Result, Ok, Err, Some, None}
use Rattle.std.specs.Prelude as answer
use Rattle.encoding.specs.Result.{pick}
use Rattle.encoding.specs.Number.{le_bytes, size_bytes}
use Rattle.encoding.specs.Optional.{Piece, piece_bytes, is_optional}
use Rattle.encoding.specs.Write.{out, stop, State, Reached, reach, given, part_of, row_at}
use Rattle.wire.specs.Put.{form_bits}
use Rattle.pieces.specs.declared.Placed.{Placed}
use Rattle.pieces.specs.Cursors.{Cursor, due_at, may_at, state_of, Gone}
use Rattle.pieces.specs.Judged.{judged_row, Gives}
use Rattle.pieces.specs.Puts.{Puts}

unfoldable pub header_field : ℕ → ℕ → List ℕ
header_field t k = pick (ltb t 30) ((t * 8 + k) ∷ []) ((240 + k) ∷ size_bytes t)

unfoldable pub length_field : ℕ → ℕ → List ℕ
length_field form n = pick (ltb form 9) [] (pick (eqb form 9) (size_bytes n) (le_bytes 4 n))

unfoldable pub optional_field : ℕ → ℕ → List ℕ → List ℕ
optional_field t form b = header_field t (form_bits form) ++ length_field form (length b) ++ b

-- what is reached, if it is of the same owner
unfoldable pub here_of : ℕ → Option Reached → Option Reached
here_of o none = none
here_of o (some z) = pick (eqb o z.state.owner) (some z) none

pub record Taken : Type 0 where
  pub piece : Piece
  pub state : State

unfoldable pub taken_of : List ℕ → Option Reached → Option Taken
taken_of b none = none
taken_of b (some z) = some (record { piece = (given z b).piece; state = z.state })

unfoldable pub piece_at : List ℕ → List ℕ → List ℕ → State → ℕ → Option Taken
piece_at T rows buffer s i = taken_of (part_of buffer (row_at rows i)) (here_of s.owner (reach T (row_at rows i).member s))

unfoldable pub grown : Option Taken → (State → List Piece) → List Piece
grown none f = []
grown (some x) f = x.piece ∷ f x.state

unfoldable pub group : List ℕ → List ℕ → List ℕ → State → ℕ → ℕ → List Piece
group T rows buffer s i zero = []
group T rows buffer s i (suc k) = grown (piece_at T rows buffer s i) (λ (z : State). group T rows buffer z (suc i) k)

pub record RowIs (T : List ℕ) (old : Bool) (rows buffer : List ℕ) (judged : Bool) (from : Cursor) (i : ℕ) (c : Cursor) (piece : Piece) : Type 0 where
  pub is : piece_at T rows buffer (state_of T from) i ≡ some (record { piece = piece; state = state_of T c })
  pub right : Gives judged (judged_row T old rows buffer (state_of T from) i) (out (state_of T c))
  pub same : c.owner ≡ from.owner

pub record RowLaid (T : List ℕ) (old : Bool) (rows buffer : List ℕ) (judged : Bool) (from : Cursor) (i at : ℕ) (lent last : List ℕ) (c : Cursor) (end : ℕ) (optional : Bool) : Type 0 where
  pub piece : Piece
  pub gives : RowIs T old rows buffer judged from i c piece
  pub puts : Puts at (piece_bytes piece) lent last end
  pub flag : optional ≡ is_optional piece
  pub few : end ≤ at + 66000

abbrev pub DuePut : List ℕ → Bool → List ℕ → List ℕ → Bool → ℕ → ℕ → ℕ → ℕ → List ℕ → List ℕ → Result ℕ ℕ → Type 0
DuePut T old rows buffer judged o k i at lent last (Ok end) = RowLaid T old rows buffer judged (due_at o k) i at lent last (due_at o (k + 1)) end false
DuePut T old rows buffer judged o k i at lent last (Err n) = (judged_row T old rows buffer (state_of T (due_at o k)) i ≡ stop n i) × (0 < n)

abbrev pub MayPut : List ℕ → Bool → List ℕ → List ℕ → Bool → ℕ → ℕ → ℕ → ℕ → List ℕ → List ℕ → Result (answer.Option Placed) ℕ → Type 0
MayPut T old rows buffer judged o least i at lent last (Ok (Some x)) = RowLaid T old rows buffer judged (may_at T o least) i at lent last (may_at T o (x.tag + 1)) x.end true × (x.tag < 4294967296)
MayPut T old rows buffer judged o least i at lent last (Ok None) = Gone T (may_at T o least) (row_at rows i).member × (last ≡ lent)
MayPut T old rows buffer judged o least i at lent last (Err n) = (judged_row T old rows buffer (state_of T (may_at T o least)) i ≡ stop n i) × (0 < n)
