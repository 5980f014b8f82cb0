-- The message that the rows make, as the code puts it.
--
--   version_of     the version as a number of two bytes
--   lead_of        what comes before the members or slices
--   parts_of       the members of a parameter list, or the slices of a record
--   contents_of    the data of the encapsulation
--   AllPut        every row is right and bytes are put; or the verdict is the rows' refusal
--   written       what follows the judgements before the rows: the message or a refusal
--   outcome_of     the answer as the code gives it
use Rattle.std.specs.Prelude.{Bool, List, [], ◌∷◌, ◌++◌, ℕ, length, eqb}
use Rattle.std.specs.Prelude.{Result, Ok, Err}
use Rattle.wire.specs.declared.Refusal.{Refusal}
use Rattle.wire.specs.Steps.{refused}
use Rattle.encoding.specs.Result.{pick, concat}
use Rattle.encoding.specs.Table.{kind, chain}
use Rattle.encoding.specs.Optional.{piece_bytes}
use Rattle.encoding.specs.Slice.{first}
use Rattle.encoding.specs.Message.{version10, version11, slices_bytes, lead, encode, encapsulate}
use Rattle.encoding.specs.Write.{Out, out, stop, next, begin, above, judge_all, gathered, bounded, rows_given}
use Rattle.pieces.specs.Cursors.{due_at, state_of}
use Rattle.pieces.specs.Judged.{verdict_from, Gives}
use Rattle.pieces.specs.Puts.{Puts}
use Rattle.writer.specs.Slices.{encoding_as, group_of, slices_from}

abbrev pub version_of : Bool → ℕ
version_of old = pick old version10 version11

-- of a type of kind k: the marker of a class instance, in 1.0 the header byte of an exception
unfoldable pub lead_of : ℕ → Bool → List ℕ
lead_of k old = pick (eqb k 15) [] (pick (eqb k 14) (1 ∷ []) (lead (encoding_as old)))

-- the members of a parameter list, or the slices of a record
unfoldable pub parts_of : List ℕ → Bool → Bool → List ℕ → List ℕ → ℕ → ℕ → List ℕ
parts_of T old list rows buffer count t =
    pick list (concat piece_bytes (group_of T rows buffer count t 0)) (slices_bytes (encoding_as old) first (slices_from T rows buffer count 0 (chain T t)))

-- a parameter list, a class instance after its marker, or an exception, in 1.0 after its header byte
unfoldable pub contents_of : List ℕ → Bool → List ℕ → List ℕ → ℕ → ℕ → List ℕ
contents_of T old rows buffer count type =
    pick (eqb (kind T type) 15) (concat piece_bytes (group_of T rows buffer count type 0))
    (pick (eqb (kind T type) 14) (1 ∷ slices_bytes (encoding_as old) first (slices_from T rows buffer count 0 (chain T type)))
    (lead (encoding_as old) ++ slices_bytes (encoding_as old) first (slices_from T rows buffer count 0 (chain T type))))

-- the rows are judged from the start of row t
abbrev pub AllPut : List ℕ → Bool → List ℕ → List ℕ → Bool → ℕ → ℕ → ℕ → List ℕ → List ℕ → List ℕ → Result ℕ Refusal → Type 0
AllPut T old rows buffer judged count t at b lent last (Ok n) = Gives judged (verdict_from T old rows buffer count (state_of T (due_at t 0)) 0) (out tt) × Puts at b lent last n
AllPut T old rows buffer judged count t at b lent last (Err x) = Gives judged (verdict_from T old rows buffer count (state_of T (due_at t 0)) 0) (stop x.number x.place)

-- row bytes, each row 20 then 21, then 22
unfoldable pub written : List ℕ → ℕ → Bool → ℕ → List ℕ → List ℕ → ℕ → Out (List ℕ)
written T type old count rows buffer room =
    next (rows_given count rows) λ rs.
    next (judge_all T old buffer (begin T type (above (chain T type))) 0 rs) λ gs.
    bounded room (encapsulate (encoding_as old) (encode (encoding_as old) (gathered T type gs)))

unfoldable pub outcome_of : Out (List ℕ) → Result ℕ Refusal
outcome_of (out m) = Ok (length m)
outcome_of (stop n p) = refused n p
