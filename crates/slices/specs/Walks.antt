-- What the code answers of a walk over a message from a place on.
--
--   slice_walk      of the slices of a record
--   list_walk       of a parameter list; old_walk in encoding 1.0
--   pair_walk       of the pairs of an exception of 1.0, pair_rows their rows
--   marker_of       a class instance's marker byte; no byte before the slices of another kind
--   ended_walk      the same where a message ends at a place: 18 for bytes after it
--   read_walk       of what an encapsulation holds
--   body_walk       of a whole message: its first known type, format, rows, optionals and slices skipped, and its end; or a refusal
use Rattle.std.specs.Prelude.{ℕ, ◌+◌, List, length, eqb}
use Rattle.encoding.specs.Result.{Res, ok, bad, Parser, pick, pure, must}
use Rattle.encoding.specs.Number.{byte}
use Rattle.encoding.specs.Table.{chain}
use Rattle.encoding.specs.Optional.{Piece}
use Rattle.encoding.specs.Slice.{first, format_number, Slice, Chain}
use Rattle.encoding.specs.Message.{v10, v11, encoding_number, marker_form, Row, Read, piece_rows, slice_rows, first_in, first_known, rows, skipped_pieces, skipped_in, passed_in, optionals_skipped, slices_skipped}
use Rattle.slices.specs.declared.Walk.{Walk}
use Rattle.slices.specs.declared.Walk.TheVariants.{Done, Stop}

-- the rows of a chain of slices that begins at a place
unfoldable pub chain_rows : List ℕ → ℕ → Chain → List Row
chain_rows T at c = slice_rows T (v11 c.format) first at (chain T (first_in T c.list)) c.list

unfoldable pub slice_walk : List ℕ → ℕ → Res Chain → Walk
slice_walk T at (ok c n) =
    Done (first_in T c.list) (format_number c.format) (length (chain_rows T at c)) (skipped_in c.list) (passed_in c.list) (at + n)
slice_walk T at (bad c p) = Stop c (at + p)

unfoldable pub list_walk : List ℕ → ℕ → ℕ → Res (List Piece) → Walk
list_walk T top at (ok ps n) = Done top 1 (length (piece_rows T top at ps)) (skipped_pieces ps) 0 (at + n)
list_walk T top at (bad c p) = Stop c (at + p)

-- encoding 1.0: no optionals
unfoldable pub old_walk : List ℕ → ℕ → ℕ → Res (List Piece) → Walk
old_walk T top at (ok ps n) = Done top 2 (length (piece_rows T top at ps)) (skipped_pieces ps) 0 (at + n)
old_walk T top at (bad c p) = Stop c (at + p)

-- the rows of pairs that begin at a place
unfoldable pub pair_rows : List ℕ → ℕ → List Slice → List Row
pair_rows T at ss = slice_rows T v10 first at (chain T (first_in T ss)) ss

unfoldable pub pair_walk : List ℕ → ℕ → Res (List Slice) → Walk
pair_walk T at (ok ss n) = Done (first_in T ss) 2 (length (pair_rows T at ss)) (skipped_in ss) (passed_in ss) (at + n)
pair_walk T at (bad c p) = Stop c (at + p)

unfoldable pub marker_of : ℕ → Parser ℕ
marker_of k = pick (eqb k 14) (must marker_form byte) (pure 0)

-- no bytes after the record
unfoldable pub ended_walk : ℕ → Walk → Walk
ended_walk l (Done t g k o s e) = pick (eqb e l) (Done t g k o s e) (Stop 18 e)
ended_walk l (Stop c p) = Stop c p

-- what was read, with its end
unfoldable pub read_done : List ℕ → ℕ → Read → ℕ → Walk
read_done T top r e =
    Done (first_known T top r.pieces) (encoding_number r.format) (length (rows T top r.format r.pieces)) (optionals_skipped r.pieces) (slices_skipped r.pieces) e

-- contents that begin at a place
unfoldable pub read_walk : List ℕ → ℕ → ℕ → Res Read → Walk
read_walk T top at (ok r n) = read_done T top r (at + n)
read_walk T top at (bad c p) = Stop c (at + p)

unfoldable pub body_walk : List ℕ → ℕ → Res Read → Walk
body_walk T top (ok r n) = read_done T top r n
body_walk T top (bad c p) = Stop c p
