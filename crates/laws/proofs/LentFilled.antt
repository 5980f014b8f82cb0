-- What a call leaves in the bytes lent to it: the rows or the message first, and the bytes after them as they were.
--
--   answer_filled, list_filled    the reader's list
--   output_filled                 the writer's output
use Rattle.std.specs.Prelude.{◌≡◌, refl, Bool, true, false, List, ℕ, ◌*◌, ◌≤◌, length, drop, leb}
use Rattle.std.proofs.Common.{arith, length-append, length-drop, take_at, drop_at, leb-true}
use Rattle.encoding.specs.Result.{Res, ok, bad, pick, concat}
use Rattle.encoding.specs.Number.{Bytes}
use Rattle.encoding.specs.Message.{Read, rules, row_bytes, Answer, refused, accepted, answer, room, within, reading, listed}
use Rattle.encoding.proofs.MessageLaws.{length_rows}
use Rattle.encoding.specs.Write.{output}
use Rattle.laws.specs.Demands.{All, end, ListAfter, ListFilled, OutputFilled}
use Rattle.laws.proofs.RowsBack.{SmallRow, rows_back, accepted_rows_small}
use Rattle.laws.proofs.MessageWritten.{writing_ok}

-- rows that fit a list and 32 bits
record RowsFit (a : Answer) (bytes : ℕ) : Type 0 where
  small : All SmallRow a.rows
  few : 12 * length a.rows ≤ bytes

answer_filled : (a : Answer) (lent : List ℕ) → RowsFit a (length lent) → ListAfter a.rows lent (listed a lent)
unfolding listed
answer_filled a lent F =
    let b : List ℕ = concat row_bytes a.rows in
    let l : length b ≡ 12 * length a.rows = length_rows a.rows in
    record {
      first = rows_back F.small (listed a lent) (drop (12 * length a.rows) lent) refl;
      rest = drop_at b (drop (12 * length a.rows) lent) (12 * length a.rows) l;
      long = omega (arith, F.few, length-append b (drop (12 * length a.rows) lent), length-drop (12 * length a.rows) lent);
    }

reading_fits : (T : List ℕ) (top : ℕ) (m : List ℕ) (bytes : ℕ) → Bytes m → RowsFit (reading T top m bytes) bytes
unfolding reading answer accepted refused within room
reading_fits T top m bytes y = go (rules T top m) refl
  where
    none : (n p : ℕ) → RowsFit (refused n p) bytes
    none n p = record { small = end; few = omega arith }

    judged : (a : Answer) (q : Bool) → leb (length a.rows) (room bytes) ≡ q → All SmallRow a.rows → RowsFit (pick q a (refused 19 (length a.rows))) bytes
    judged a true e S = record { small = S; few = omega (arith, leb-true (length a.rows) (room bytes) e) }
    judged a false e S = none 19 (length a.rows)

    go : (r : Res Read) → rules T top m ≡ r → RowsFit (within (room bytes) (answer T top r)) bytes
    go (ok r n) e = judged (accepted T top r) (leb (length (accepted T top r).rows) (room bytes)) refl (accepted_rows_small T top m r.format r.pieces n y e)
    go (bad c p) e = judged (refused c p) (leb (length (refused c p).rows) (room bytes)) refl end

pub list_filled : ListFilled
list_filled T top m lent y = answer_filled (reading T top m (length lent)) lent (reading_fits T top m (length lent) y)

pub output_filled : OutputFilled
unfolding output
output_filled T type format count rs buffer lent m h =
    let W = writing_ok T type format count rs buffer (length lent) h in
    (take_at m (drop (length m) lent) (length m) refl, drop_at m (drop (length m) lent) (length m) refl, omega (arith, W.fits, length-append m (drop (length m) lent), length-drop (length m) lent))
