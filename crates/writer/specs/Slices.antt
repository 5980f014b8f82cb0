-- The members of an owner and its slice as they are put.
--
--   group_from, group_of     the pieces of an owner from row i on, of `count` rows, in the state of a cursor; from the owner's start
--   slice_of                its slice
--   slices_from             the slices of owners, one after another, from row i on
--   encoding_as             1.0 if old, else 1.1 sliced
--   IsOwner                an owner as the code looks it up
--   front_field, pair_field  all that comes before a slice's data: flags, type ID, size; in 1.0 type ID and size. front_of: by the encoding; flags_of: the flags alone, which 1.0 has not
--   end_mark                the end marker, after optionals
--   Grouping               what the loops over the rows of an owner keep; bytes of the buffer may wait to be put
--   RowsLaid, DataLaid, SliceLaid   what is put of an owner's rows, of its slice's data, of its slice, and what the code answers of it
--   Judges                 the owner's rows are right and that much is put; or the verdict is their refusal
--   RequiredsPut           the code's answer to the rows of required members: then the rows of optional ones are to come
--   RowsPut, DataPut, SlicePut      the code's answers; PartPut: of a parameter list or a slice
use Rattle.std.specs.Prelude.{◌≡◌, Bool, true, false, ◌||◌, List, [], ◌∷◌, ◌++◌, ℕ, ◌+◌, ◌-◌, ◌*◌, ◌≤◌, ◌<◌, length}
use Rattle.encoding.specs.Result.{pick, concat}
use Rattle.encoding.specs.Number.{le_bytes, string_bytes}
use Rattle.encoding.specs.Table.{field, name_of, base}
use Rattle.encoding.specs.Optional.{Piece, piece_bytes}
use Rattle.encoding.specs.Slice.{sliced, Slice, known, any_optional, data_bytes, flag_bits}
use Rattle.encoding.specs.Message.{Encoding, v10, v11}
use Rattle.encoding.specs.Write.{stop}
use Rattle.writer.specs.declared.Owner.{Owner}
use Rattle.writer.specs.declared.Laid.{Laid}
use Rattle.table.specs.Names.{name_start}
use Rattle.pieces.specs.Cursors.{Cursor, due_at, may_at, state_of}
use Rattle.pieces.specs.Judged.{verdict_from, verdict_above, Gives}
use Rattle.pieces.specs.Puts.{Puts, Leaves}
use Rattle.pieces.specs.Pieces.{group}

abbrev pub encoding_as : Bool → Encoding
encoding_as old = pick old v10 (v11 sliced)

abbrev pub group_from : List ℕ → List ℕ → List ℕ → ℕ → Cursor → ℕ → List Piece
group_from T rows buffer count c i = group T rows buffer (state_of T c) i (count - i)

abbrev pub group_of : List ℕ → List ℕ → List ℕ → ℕ → ℕ → ℕ → List Piece
group_of T rows buffer count o i = group_from T rows buffer count (due_at o 0) i

unfoldable pub slice_of : List ℕ → List ℕ → List ℕ → ℕ → ℕ → ℕ → Slice
slice_of T rows buffer count o i = known (name_of T o) (group_of T rows buffer count o i)

unfoldable pub slices_from : List ℕ → List ℕ → List ℕ → ℕ → ℕ → List ℕ → List Slice
slices_from T rows buffer count i [] = []
slices_from T rows buffer count i (t ∷ ts) =
    slice_of T rows buffer count t i ∷ slices_from T rows buffer count (i + length (group_of T rows buffer count t i)) ts

pub record IsOwner (T : List ℕ) (o : ℕ) (w : Owner) : Type 0 where
  pub a_is : w.a ≡ field T o 0
  pub b_is : w.b ≡ field T o 1
  pub up_is : w.up ≡ base T o
  pub name_is : w.name ≡ name_start T o
  pub long_is : w.long ≡ length (name_of T o)
  pub a_small : w.a < 65536
  pub b_small : w.b < 65536
  pub up_small : w.up ≤ o
  pub long_small : w.long < 65536

unfoldable pub front_field : List ℕ → ℕ → Bool → Bool → ℕ → List ℕ
front_field T o optionals last n = flag_bits sliced true optionals last ∷ (string_bytes (name_of T o) ++ le_bytes 4 (4 + n))

unfoldable pub pair_field : List ℕ → ℕ → ℕ → List ℕ
pair_field T o n = string_bytes (name_of T o) ++ le_bytes 4 (4 + n)

abbrev pub flags_of : Bool → Bool → Bool → List ℕ
flags_of old optionals last = pick old [] (flag_bits sliced true optionals last ∷ [])

unfoldable pub front_of : List ℕ → ℕ → Bool → Bool → Bool → ℕ → List ℕ
front_of T o old optionals last n = pick old (pair_field T o n) (front_field T o optionals last n)

-- the rows from i on, in the state of c, give the pieces still to be put, and the verdict
pub record Grouping (T : List ℕ) (old : Bool) (rows buffer : List ℕ) (judged : Bool) (count : ℕ) (s : Cursor) (first begin : ℕ) (out₀ waits : List ℕ) (c : Cursor) (at i : ℕ) (optionals : Bool) (out : List ℕ) : Type 0 where
  pub leaves : Leaves begin (concat piece_bytes (group_from T rows buffer count s first)) out₀ at (waits ++ concat piece_bytes (group_from T rows buffer count c i)) out
  pub left : i + length (group_from T rows buffer count c i) ≡ first + length (group_from T rows buffer count s first)
  pub flags : (optionals || any_optional (group_from T rows buffer count c i)) ≡ any_optional (group_from T rows buffer count s first)
  pub rest : Gives judged (verdict_from T old rows buffer count (state_of T s) first) (verdict_from T old rows buffer count (state_of T c) i)
  pub same : c.owner ≡ s.owner
  pub behind : first ≤ i
  pub within : i ≤ count
  pub few : at + length waits ≤ begin + 66000 * (i - first)

pub record RowsLaid (T : List ℕ) (old : Bool) (rows buffer : List ℕ) (judged : Bool) (count : ℕ) (c : Cursor) (i at : ℕ) (out last : List ℕ) (r : Laid) : Type 0 where
  pub puts : Puts at (concat piece_bytes (group_from T rows buffer count c i)) out last r.end
  pub next : r.row ≡ i + length (group_from T rows buffer count c i)
  pub flag : r.optionals ≡ any_optional (group_from T rows buffer count c i)
  pub within : r.row ≤ count
  pub rest : Gives judged (verdict_from T old rows buffer count (state_of T c) i) (verdict_above T old rows buffer count (base T c.owner) r.row)
  pub few : r.end ≤ at + 66000 * (r.row - i)

pub record DataLaid (T : List ℕ) (old : Bool) (rows buffer : List ℕ) (judged : Bool) (count o i at : ℕ) (out last : List ℕ) (r : Laid) : Type 0 where
  pub puts : Puts at (data_bytes (slice_of T rows buffer count o i)) out last r.end
  pub next : r.row ≡ i + length (group_of T rows buffer count o i)
  pub flag : r.optionals ≡ any_optional (group_of T rows buffer count o i)
  pub within : r.row ≤ count
  pub rest : Gives judged (verdict_from T old rows buffer count (state_of T (due_at o 0)) i) (verdict_above T old rows buffer count (base T o) r.row)
  pub few : r.end ≤ at + 66000 * (r.row - i) + 1

-- the slice's front and data
unfoldable pub slice_field : List ℕ → Bool → List ℕ → List ℕ → ℕ → Bool → ℕ → ℕ → List ℕ
slice_field T old rows buffer count last o i =
    front_of T o old (any_optional (group_of T rows buffer count o i)) last (length (data_bytes (slice_of T rows buffer count o i)))
    ++ data_bytes (slice_of T rows buffer count o i)

abbrev pub end_mark : Bool → List ℕ
end_mark optionals = pick optionals (255 ∷ []) []

pub record SliceLaid (T : List ℕ) (old : Bool) (rows buffer : List ℕ) (judged : Bool) (count : ℕ) (end : Bool) (o i at : ℕ) (out last : List ℕ) (r : Laid) : Type 0 where
  pub puts : Puts at (slice_field T old rows buffer count end o i) out last r.end
  pub next : r.row ≡ i + length (group_of T rows buffer count o i)
  pub within : r.row ≤ count
  pub rest : Gives judged (verdict_from T old rows buffer count (state_of T (due_at o 0)) i) (verdict_above T old rows buffer count (base T o) r.row)
  pub few : r.end ≤ at + 66000 * (r.row - i) + 66000

pub record Judges (T : List ℕ) (old : Bool) (rows buffer : List ℕ) (judged : Bool) (count : ℕ) (c : Cursor) (i : ℕ) (r : Laid) (Right : Type 0) : Type 0 where
  pub right : r.fault ≡ 0 → Right
  pub wrong : (r.fault ≡ 0 → ⊥) → Gives judged (verdict_from T old rows buffer count (state_of T c) i) (stop r.fault r.row)

abbrev pub RequiredsPut : List ℕ → Bool → List ℕ → List ℕ → Bool → ℕ → ℕ → ℕ → ℕ → List ℕ → List ℕ → Laid → Type 0
RequiredsPut T old rows buffer judged count o i at out last r =
    Judges T old rows buffer judged count (due_at o 0) i r (Grouping T old rows buffer judged count (due_at o 0) i at out [] (may_at T o 0) r.end r.row false last)

abbrev pub RowsPut : List ℕ → Bool → List ℕ → List ℕ → Bool → ℕ → Cursor → ℕ → ℕ → List ℕ → List ℕ → Laid → Type 0
RowsPut T old rows buffer judged count c i at out last r = Judges T old rows buffer judged count c i r (RowsLaid T old rows buffer judged count c i at out last r)

abbrev pub DataPut : List ℕ → Bool → List ℕ → List ℕ → Bool → ℕ → ℕ → ℕ → ℕ → List ℕ → List ℕ → Laid → Type 0
DataPut T old rows buffer judged count o i at out last r = Judges T old rows buffer judged count (due_at o 0) i r (DataLaid T old rows buffer judged count o i at out last r)

abbrev pub SlicePut : List ℕ → Bool → List ℕ → List ℕ → Bool → ℕ → Bool → ℕ → ℕ → ℕ → List ℕ → List ℕ → Laid → Type 0
SlicePut T old rows buffer judged count end o i at out last r = Judges T old rows buffer judged count (due_at o 0) i r (SliceLaid T old rows buffer judged count end o i at out last r)

-- the rows of a parameter list, which has neither front nor end marker, or a slice
abbrev pub PartPut : List ℕ → Bool → List ℕ → List ℕ → Bool → ℕ → Bool → Bool → ℕ → ℕ → ℕ → List ℕ → List ℕ → Laid → Type 0
PartPut T old rows buffer judged count true end o i at out last r = RowsPut T old rows buffer judged count (due_at o 0) i at out last r
PartPut T old rows buffer judged count false end o i at out last r = SlicePut T old rows buffer judged count end o i at out last r
