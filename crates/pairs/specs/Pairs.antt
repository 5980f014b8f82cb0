-- What the code answers of the pairs of an exception in encoding 1.0.
--
--   due_of            the stage of the walk: 0 where no pair was known yet, else the row + 1 whose pair is due
--   meant_of          what a type ID means, as the code answers it: the row of a known one
--   data_in, data_as, enter_as  what follows an ID, by what it means
--   open_by, opening  a pair up to its data: skipped whole, of a known row with the part that its data lie in, or a refusal
--   row_of            the row of a known pair
--   slice_turn, turn_of    what is answered of one pair, k rows before it; turn_rows the rows that it adds
--   first_by          the first known type after a pair of row t
--   onward           the walk over the pairs ahead
--   owners, first_from, rows_from   the rows whose pairs are to come, the first known type, and the rows ahead, from a stage on
--   left             the outcome, by the pairs ahead: k rows and s pairs skipped so far
use Rattle.std.specs.Prelude.{List, [], ℕ, zero, suc, ◌+◌, ◌-◌, length, drop, Result, Ok, Err, Option, Some, None}
use Rattle.encoding.specs.Result.{Res, ok, bad, Parser}
use Rattle.encoding.specs.Number.{declared, string}
use Rattle.encoding.specs.Table.{named, upward, chain}
use Rattle.encoding.specs.Slice.{Slice, known, passed, first, Meaning, skip, row, wrong}
use Rattle.encoding.specs.Old.{PairStage, any_pair, pair_of, pair_meaning, walk_pairs, pair_front}
use Rattle.encoding.specs.Message.{v10, Row, or_zero, piece_rows, slice_rows, first_in, skipped_in, passed_in}
use Rattle.level.specs.Fill.{fill}
use Rattle.wire.specs.declared.Refusal.{Refusal}
use Rattle.wire.specs.Steps.{refused as fault}
use Rattle.slices.specs.declared.Walk.TheVariants.{Done}
use Rattle.slices.specs.Left.{WalkEnd, listed, refused}
use Rattle.pairs.specs.declared.Opening.{Opening}
use Rattle.pairs.specs.declared.Opening.TheVariants.{Skip, Data}
use Rattle.pairs.specs.declared.Turn.{Turn}
use Rattle.pairs.specs.declared.Turn.TheVariants.{Passed, Known}

unfoldable pub due_of : ℕ → PairStage
due_of zero = any_pair
due_of (suc t) = pair_of (suc t)

-- the row, if there is one
unfoldable pub meant_of : Meaning → Result (Option ℕ) Refusal
meant_of skip = Ok None
meant_of (row t) = Ok (Some t)
meant_of (wrong n) = fault n 0

-- ---- a pair up to its data

-- after an ID of n bytes, by what it means and the declared data
unfoldable pub data_in : ℕ → Option ℕ → ℕ → Opening
data_in n None k = Skip (n + k)
data_in n (Some t) k = Data t (n + 4) (n + k)

unfoldable pub data_as : ℕ → Option ℕ → Res (List ℕ) → Result Opening Refusal
data_as n m (ok d k) = Ok (data_in n m k)
data_as n m (bad c p) = fault c (n + p)

unfoldable pub enter_as : ℕ → Result (Option ℕ) Refusal → Res (List ℕ) → Result Opening Refusal
enter_as n (Ok m) r = data_as n m r
enter_as n (Err x) r = Err x

unfoldable pub open_by : List ℕ → ℕ → PairStage → List ℕ → Res (List ℕ) → Result Opening Refusal
open_by T top d xs (ok nm n) = enter_as n (meant_of (pair_meaning T top d nm)) (declared 4 4 (drop n xs))
open_by T top d xs (bad c p) = fault c p

unfoldable pub opening : List ℕ → ℕ → PairStage → List ℕ → Result Opening Refusal
opening T top d xs = open_by T top d xs (string xs)

-- ---- one pair

unfoldable pub row_of : List ℕ → PairStage → List ℕ → ℕ
row_of T any_pair o = or_zero (named T o)
row_of T (pair_of b) o = b - 1

unfoldable pub slice_turn : List ℕ → PairStage → ℕ → ℕ → Slice → Turn
slice_turn T d k n (known o ps) = Known (row_of T d o) (k + length ps) n
slice_turn T d k n (passed b nm x) = Passed n

unfoldable pub turn_of : List ℕ → PairStage → ℕ → Res (Slice × PairStage) → Result Turn Refusal
turn_of T d k (ok r n) = Ok (slice_turn T d k n r.0)
turn_of T d k (bad c p) = fault c p

unfoldable pub turn_rows : List ℕ → PairStage → ℕ → Slice → List Row
turn_rows T d at (known o ps) = piece_rows T (row_of T d o) (at + length (pair_front (known o ps))) ps
turn_rows T d at (passed b nm x) = []

unfoldable pub first_by : PairStage → ℕ → ℕ → ℕ
first_by any_pair fst t = t
first_by (pair_of b) fst t = fst

-- ---- the pairs ahead

unfoldable pub onward : List ℕ → ℕ → PairStage → Parser (List Slice)
onward T top d xs = walk_pairs T top (length xs) d xs

unfoldable pub owners : List ℕ → PairStage → List Slice → List ℕ
owners T any_pair ss = chain T (first_in T ss)
owners T (pair_of b) ss = upward (chain T) b

unfoldable pub first_from : List ℕ → PairStage → ℕ → List Slice → ℕ
first_from T any_pair fst ss = first_in T ss
first_from T (pair_of b) fst ss = fst

unfoldable pub rows_from : List ℕ → PairStage → ℕ → List Slice → List Row
rows_from T d at ss = slice_rows T v10 first at (owners T d ss) ss

unfoldable pub left : List ℕ → PairStage → (at k s fst : ℕ) → List ℕ → Res (List Slice) → WalkEnd
left T d at k s fst out (ok ss n) =
    listed (Done (first_from T d fst ss) 2 (k + length (rows_from T d at ss)) (skipped_in ss) (s + passed_in ss) (at + n)) (fill k (rows_from T d at ss) out)
left T d at k s fst out (bad c p) = refused c (at + p)
