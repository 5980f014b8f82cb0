-- One optional of an accepted message set or removed (M-112). The message is read to pieces, one piece is put in or taken out, and the pieces are
-- encoded again: so tag order, optional flag, end marker and both sizes come out right, and all else keeps its bytes and order.
--
--   Target, or_further, target_in, target    an optional of the chain of a row: its owner and its member
--   piece_for             the piece of new bytes; none where the member is to be removed
--   put_piece             a piece put before others
--   among, edit_pieces    a piece put among those of one owner by its tag, in place of the one that has the tag
--   edit_slice, edit      the same in the slice that has the owner's name; in a message
--   lists                rows name a member
--   change_form           what is judged of a change after the reader's own refusals, in order
--   changed_at, changed_as the edit of a message of 1.1, or a refusal; of a message of any encoding
--   changed              the message with the edit made, however long, or a refusal
--   changing             the same, then 22; content is some bytes to set, none to remove
--   set, remove          the two calls
use Rattle.std.specs.Prelude.{Bool, false, ◌||◌, not, List, [], ◌∷◌, map, ℕ, length, eqb, ltb}
use Rattle.std.proofs.Math.Option.{Option, none, some}
use Rattle.encoding.specs.Result.{Res, ok, bad, pick, first_of, same_bytes}
use Rattle.encoding.specs.Types.{form_of}
use Rattle.encoding.specs.Value.{exact}
use Rattle.encoding.specs.Table.{Member, name_of, chain}
use Rattle.encoding.specs.Table
use Rattle.encoding.specs.Optional.{Piece, required, optional, skipped}
use Rattle.encoding.specs.Slice.{Format, is_sliced, Slice, known, passed}
use Rattle.encoding.specs.Message.{Pieces, list, exception, class, Encoding, v10, v11, Read, encode, encapsulate, limit, rules, Row, rows, first_known}
use Rattle.encoding.specs.Write.{Out, out, stop, next, stopped_first, optional_row, bounded}

-- ---- the member

-- an optional member and the row that owns it
pub record Target : Type 0 where
  pub owner : ℕ
  pub member : Member

-- the member as an optional of owner t; else what a further row gives
unfoldable pub or_further : ℕ → Option Target → Option Member → Option Target
or_further t further none = further
or_further t further (some m) = some (record { owner = t; member = m })

-- member row m as an optional of one of the rows
unfoldable pub target_in : List ℕ → ℕ → List ℕ → Option Target
target_in T m [] = none
target_in T m (t ∷ ts) = or_further t (target_in T m ts) (optional_row m 0 (Table.optional_members T t))

-- member row m as an optional of the chain of row t
unfoldable pub target : List ℕ → ℕ → ℕ → Option Target
target T t m = target_in T m (chain T t)

-- ---- the edit

-- the piece of new bytes, in the form of the member's type
unfoldable pub piece_for : Member → Option (List ℕ) → Option Piece
piece_for m none = none
piece_for m (some b) = some (optional m.key (form_of m.ty) b)

-- the piece, if there is one, before other pieces
unfoldable pub put_piece : Option Piece → List Piece → List Piece
put_piece none ps = ps
put_piece (some p) ps = p ∷ ps

-- the edit at an optional p of tag t: p is passed, replaced, or preceded by the new piece; ps are the pieces after p, rest is their edit
unfoldable pub among : ℕ → Option Piece → ℕ → Piece → List Piece → List Piece → List Piece
among k new t p ps rest = pick (ltb t k) (p ∷ rest) (put_piece new (pick (eqb t k) ps (p ∷ ps)))

-- the pieces of one owner, with the optional of tag k set or removed; a new one is put before the first optional, known or not, with a greater tag
unfoldable pub edit_pieces : ℕ → Option Piece → List Piece → List Piece
edit_pieces k new [] = put_piece new []
edit_pieces k new (required i b ∷ ps) = required i b ∷ edit_pieces k new ps
edit_pieces k new (optional t f b ∷ ps) = among k new t (optional t f b) ps (edit_pieces k new ps)
edit_pieces k new (skipped t f b ∷ ps) = among k new t (skipped t f b) ps (edit_pieces k new ps)

-- the edit of a slice: of its pieces if its name is nm; a skipped slice stays
unfoldable pub edit_slice : List ℕ → ℕ → Option Piece → Slice → Slice
edit_slice nm k new (known o ps) = known o (pick (same_bytes o nm) (edit_pieces k new ps) ps)
edit_slice nm k new (passed b id d) = passed b id d

-- the edit of a message: nm is the owner's name; a parameter list has one owner, so it needs no name
unfoldable pub edit : List ℕ → ℕ → Option Piece → Pieces → Pieces
edit nm k new (list ps) = list (edit_pieces k new ps)
edit nm k new (exception ss) = exception (map (edit_slice nm k new) ss)
edit nm k new (class ss) = class (map (edit_slice nm k new) ss)

-- ---- the calls

-- some row is of member m
unfoldable pub lists : ℕ → List Row → Bool
lists m [] = false
lists m (r ∷ rs) = eqb m r.member || lists m rs

-- 50: removing what isn't there; 51: compact record; then, in setting, 3 and 21 for the new bytes
unfoldable pub change_form : Member → Option (List ℕ) → Format → List Row → ℕ
change_form m none g rs = first_of ((50, not (lists m.row rs)) ∷ (51, not (is_sliced g)) ∷ [])
change_form m (some b) g rs = first_of ((51, not (is_sliced g)) ∷ (3, ltb limit (length b)) ∷ (21, not (exact m.ty b)) ∷ [])

-- 49 where the member is not an optional of the chain; else what `change_form` refuses, or the edited pieces encoded
unfoldable pub changed_at : List ℕ → ℕ → Format → Pieces → Option (List ℕ) → Option Target → Out (List ℕ)
changed_at T top g p content none = stop 49 0
changed_at T top g p content (some x) =
    next (stopped_first (change_form x.member content g (rows T top (v11 g) p))) λ _.
    out (encapsulate (v11 g) (encode (v11 g) (edit (name_of T x.owner) x.member.key (piece_for x.member content) p)))

-- a message of 1.0 has no optionals: 49 for every member
unfoldable pub changed_as : List ℕ → ℕ → ℕ → Option (List ℕ) → Encoding → Pieces → Out (List ℕ)
changed_as T top m content v10 p = stop 49 0
changed_as T top m content (v11 g) p = changed_at T top g p content (target T (first_known T top p) m)

-- the change after the reader's own refusals; no list is lent, so 19 is none of them
unfoldable pub changed : List ℕ → ℕ → ℕ → Option (List ℕ) → Res Read → Out (List ℕ)
changed T top m content (bad c p) = stop c p
changed T top m content (ok r n) = changed_as T top m content r.format r.pieces

-- the change, then 22 at the bytes needed
unfoldable pub changing : List ℕ → ℕ → List ℕ → ℕ → Option (List ℕ) → ℕ → Out (List ℕ)
changing T top message m content room = next (changed T top m content (rules T top message)) (bounded room)

-- the call that adds or replaces the member
unfoldable pub set : List ℕ → ℕ → List ℕ → ℕ → List ℕ → ℕ → Out (List ℕ)
set T top message m b room = changing T top message m (some b) room

-- the call that takes the member out
unfoldable pub remove : List ℕ → ℕ → List ℕ → ℕ → ℕ → Out (List ℕ)
remove T top message m room = changing T top message m none room
