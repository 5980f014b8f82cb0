-- What is left of a walk: its answer and the lent list follow from what was counted so far and from the bytes ahead.
--
--   WalkEnd              how a walk ends: its answer with the lent list, or a refusal; answer_of the answer
--   Ends                 an answer and a lent list are those of an outcome
--   recall_to             14 is at the flags
--   owners, first_from    the rows whose slices are to come, and the first known type, from a stage on
--   onward               the walk over the slices ahead
--   left                 the outcome, by the slices ahead
--   optionals_from        the optionals ahead, their tags at least `least`
--   finish               the outcome, by the optionals ahead: `go` the way on, `refuse` a refusal, `due` whether one has to be there
--   recalling            a refusal inside a slice; stop_at of what comes n bytes on
--   closing              the outcome after a known slice's members: 11 for bytes left over, else by the slices ahead
--   amid                 the outcome inside a known slice
--   list_close, listing   the outcome at the end of a parameter list, and at its optionals
use Rattle.std.specs.Prelude.{Bool, true, false, ◌&&◌, not, List, [], ◌∷◌, ℕ, ◌+◌, ◌-◌, length, take, drop, eqb}
use Rattle.std.proofs.Math.Option.{Option}
use Rattle.encoding.specs.Result.{Res, ok, bad, Parser, pick, many, at_mark, at_end}
use Rattle.encoding.specs.Table.{Member, optional_members, base, chain, upward}
use Rattle.encoding.specs.Optional.{Piece, next_optional}
use Rattle.encoding.specs.Slice.{compact, sliced, format_number, Slice, Stage, seek, follow, stand_of, Chain, walk}
use Rattle.encoding.specs.Message.{v11, Row, piece_rows, slice_rows, first_in, skipped_pieces, skipped_in, passed_in}
use Rattle.level.specs.Fill.{fill}
use Rattle.wire.specs.declared.Refusal.{Refusal}
use Rattle.slices.specs.declared.Walk.{Walk}
use Rattle.slices.specs.declared.Walk.TheVariants.{Done, Stop}
use Rattle.slices.specs.Openings.{first_or}

pub data WalkEnd : Type 0 where
  listed : Walk → List ℕ → WalkEnd
  refused : ℕ → ℕ → WalkEnd

unfoldable pub answer_of : WalkEnd → Walk
answer_of (listed w out) = w
answer_of (refused c p) = Stop c p

-- an answer is the walk's, and so is the lent list where the walk accepts
pub data Ends : WalkEnd → Walk → List ℕ → Type 0 where
  accepted : {w : Walk} {out : List ℕ} → Ends (listed w out) w out
  stopped : {c p : ℕ} {out : List ℕ} → Ends (refused c p) (Stop c p) out

unfoldable pub recall_to : ℕ → ℕ → ℕ → ℕ
recall_to c flags p = pick (eqb c 14) flags p

-- ---- slices

unfoldable pub owners : List ℕ → Stage → List Slice → List ℕ
owners T (seek s) ss = chain T (first_in T ss)
owners T (follow g b) ss = upward (chain T) b

unfoldable pub first_from : List ℕ → Stage → ℕ → List Slice → ℕ
first_from T (seek s) k ss = first_in T ss
first_from T (follow g b) k ss = k

unfoldable pub onward : List ℕ → ℕ → Stage → Parser Chain
onward T top st xs = walk T top (length xs) st xs

-- the rows of the slices ahead
unfoldable pub rows_from : List ℕ → Stage → ℕ → Chain → List Row
rows_from T st at c = slice_rows T (v11 c.format) (stand_of st) at (owners T st c.list) c.list

-- k rows, o optionals and s slices skipped so far, and the first known type, if there is one yet
unfoldable pub left : List ℕ → Stage → (at k o s first : ℕ) → List ℕ → Res Chain → WalkEnd
left T st at k o s first out (ok c n) =
    listed
    (Done (first_from T st first c.list) (format_number c.format) (k + length (rows_from T st at c)) (o + skipped_in c.list) (s + passed_in c.list) (at + n))
    (fill k (rows_from T st at c) out)
left T st at k o s first out (bad c p) = refused c (at + p)

-- after the members of a slice, sliced or not, whose data lie between two places and whose base row + 1 is b
unfoldable pub closing : List ℕ → ℕ → List ℕ → Bool → (b s first from end : ℕ) → (at k o : ℕ) → List ℕ → WalkEnd
closing T top m z b s first from end at k o out =
    pick (z && not (eqb at end)) (refused 11 (from - 4))
    (left T (follow (pick z sliced compact) b) at k o s first out (onward T top (follow (pick z sliced compact) b) (drop at m)))

-- a refusal inside a slice whose flags are at a place
unfoldable pub recalling : ℕ → ℕ → ℕ → WalkEnd
recalling flags c p = refused c (recall_to c flags p)

-- a refusal of what comes n bytes on stops the walk
unfoldable pub stop_at : ℕ → ℕ → Refusal → Walk
stop_at flags n x = Stop x.number (recall_to x.number flags (n + x.place))

-- ---- optionals

unfoldable pub optionals_from : (List ℕ → Option ℕ) → List Member → ℕ → Parser (List Piece)
optionals_from stop ms least xs = many stop (next_optional ms) (length xs) least xs

unfoldable pub no_piece : List Piece → Bool
no_piece [] = true
no_piece (p ∷ ps) = false

unfoldable pub finish : List ℕ → ℕ → ((at k o : ℕ) → List ℕ → WalkEnd) → (ℕ → ℕ → WalkEnd) → Bool → (at k o : ℕ) → List ℕ → Res (List Piece) → WalkEnd
finish T t go refuse due at k o out (ok ps n) =
    pick (due && no_piece ps) (refuse 14 at)
    (go (at + n) (k + length (piece_rows T t at ps)) (o + skipped_pieces ps) (fill k (piece_rows T t at ps) out))
finish T t go refuse due at k o out (bad c p) = refuse c (at + p)

-- in a known slice of row t, at its optionals, where there may be more, or after its members
unfoldable pub amid : List ℕ → ℕ → List ℕ → Stage → (pos t : ℕ) → Bool → (from end s first : ℕ) → (at least k o : ℕ) → Bool → List ℕ → WalkEnd
amid T top m st pos t z from end s first at least k o more out =
    pick more
    (finish T t (closing T top m z (base T t) s (first_or st first t) from end) (recalling pos) (eqb least 0) at k o out
    (optionals_from at_mark (optional_members T t) least (take (end - at) (drop at m))))
    (closing T top m z (base T t) s (first_or st first t) from end at k o out)

unfoldable pub list_close : ℕ → (at k o : ℕ) → List ℕ → WalkEnd
list_close top at k o out = listed (Done top 1 k o 0 at) out

-- at the optionals of a parameter list
unfoldable pub listing : List ℕ → ℕ → List ℕ → (at least k o : ℕ) → List ℕ → WalkEnd
listing T top m at least k o out = finish T top (list_close top) refused false at k o out (optionals_from at_end (optional_members T top) least (drop at m))
