-- What judging the rows gives.
--
--   part_form       20 where a part lies outside the buffer, 21 where it isn't exactly a value of a type, else 0
--   state_from      the state after a row that was checked
--   judged_row      row i, judged in a state; here and below `old` says that the encoding is 1.0
--   verdict_of      whether every row is right
--   verdict_from    the verdict on row i and those after it, of `count` rows
--   verdict_above   the same where the rows go on with the owners above: from a base row + 1 on, or there is none
--   Accepted       it is no refusal
--   Gives          judging gives this; where the parts were judged before and are not judged again, if it is no refusal
use Rattle.std.specs.Prelude.{◌≡◌, Bool, true, List, map, ℕ, zero, suc, ◌+◌, ◌-◌, length, leb, ltb}
use Rattle.encoding.specs.Result.{pick}
use Rattle.encoding.specs.Types.{Ty}
use Rattle.encoding.specs.Value.{exact}
use Rattle.encoding.specs.Table.{range}
use Rattle.encoding.specs.Message.{Row}
use Rattle.encoding.specs.Write.{Out, out, stop, State, Reached, reach, Given, part_of, judge, judge_all, row_at}
use Rattle.pieces.specs.Cursors.{due_at, state_of}

unfoldable pub part_form : List ℕ → Row → Ty → ℕ
part_form buffer r t = pick (leb (r.place + r.len) (length buffer)) (pick (exact t (part_of buffer r)) 0 21) 20

unfoldable pub state_from : Out Reached → Out State
state_from (out z) = out z.state
state_from (stop n p) = stop n p

unfoldable pub judged_row : List ℕ → Bool → List ℕ → List ℕ → State → ℕ → Out State
judged_row T old rows buffer s i = state_from (judge old buffer i (row_at rows i) (reach T (row_at rows i).member s))

unfoldable pub verdict_of : Out (List Given) → Out (Unit {0})
verdict_of (out gs) = out tt
verdict_of (stop n p) = stop n p

unfoldable pub verdict_from : List ℕ → Bool → List ℕ → List ℕ → ℕ → State → ℕ → Out (Unit {0})
verdict_from T old rows buffer count s i = verdict_of (judge_all T old buffer s i (map (row_at rows) (range i (count - i))))

-- a row after the last owner is 20
unfoldable pub verdict_above : List ℕ → Bool → List ℕ → List ℕ → ℕ → ℕ → ℕ → Out (Unit {0})
verdict_above T old rows buffer count zero i = pick (ltb i count) (stop 20 i) (out tt)
verdict_above T old rows buffer count (suc t) i = verdict_from T old rows buffer count (state_of T (due_at t 0)) i

abbrev pub Accepted : {A : Type 0} → Out A → Type 0
Accepted (out a) = Unit {0}
Accepted (stop n p) = ⊥

abbrev pub Gives : {A : Type 0} → Bool → Out A → Out A → Type 0
Gives judged v w = (judged ≡ true → Accepted v) → v ≡ w
