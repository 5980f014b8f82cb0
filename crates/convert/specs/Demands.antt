-- What is promised of the converter, each promise in full, to be read without its proof; `Promises` names the proof of each.
--
--   Converted        demand 2: what is converted is accepted under the same top as sliced, with the same first known type, the same members with the same bytes, and nothing skipped
--   ConvertWritten   it is what the writer makes of the record's own rows, 22 included
--   ConvertRefuses   when each refusal comes, and where: the reader's own, 47, 48, 22; no byte of the output changes then
--   ConvertNumbers   the numbers of the public calls are those of the converter's answer
--   ConvertFilled    a lent output after the call: the message first, the bytes after it as they were
use Rattle.std.specs.Prelude.{◌≡◌, List, [], ◌∷◌, ℕ, ◌≤◌, length, take, drop}
use Rattle.encoding.specs.Result.{ok, bad, concat}
use Rattle.encoding.specs.Number.{Bytes}
use Rattle.encoding.specs.Slice.{compact, sliced}
use Rattle.encoding.specs.Message.{Encoding, v11, Pieces, rules, rows, row_bytes, first_known, limit}
use Rattle.encoding.specs.Write.{out, stop, writing, output, writing_of, writing_numbers}
use Rattle.laws.specs.Demands.{read_as, Complete, SameMembers}
use Rattle.convert.specs.Convert.{converting}

-- an accepted compact record with nothing skipped, in these pieces
pub record Convertible (T : List ℕ) (top : ℕ) (m : List ℕ) (p : Pieces) : Type 0 where
  pub taken : ℕ
  pub accepted : rules T top m ≡ ok (read_as (v11 compact) p) taken
  pub complete : Complete p

-- what the rules make of o, the message to which a convertible record in these pieces is converted
pub record ConvertedTo (T : List ℕ) (top : ℕ) (m : List ℕ) (p : Pieces) (o : List ℕ) : Type 0 where
  pub pieces : Pieces
  pub taken : ℕ
  pub accepted : rules T top o ≡ ok (read_as (v11 sliced) pieces) taken
  pub of_type : first_known T top pieces ≡ first_known T top p
  pub complete : Complete pieces
  pub members : SameMembers m o (rows T top (v11 compact) p) (rows T top (v11 sliced) pieces)
  pub short : length o ≤ limit

-- Rules out a converter that gives its input back, and one that drops a member.
abbrev pub Converted : Type 0
Converted =
    (T : List ℕ) (top : ℕ) (m : List ℕ) (room : ℕ) (o : List ℕ) → Bytes m → converting T top m room ≡ out o
    → (p : Pieces) × Convertible T top m p × ConvertedTo T top m p o × (length o ≤ room)

-- what the writer makes in format 1 of the first known type, of the record's own rows, which point into it
abbrev pub ConvertWritten : Type 0
ConvertWritten =
    (T : List ℕ) (top : ℕ) (m : List ℕ) (room : ℕ) (p : Pieces) → Bytes m → Convertible T top m p
    → converting T top m room ≡ writing T (first_known T top p) 1 (length (rows T top (v11 compact) p)) (concat row_bytes (rows T top (v11 compact) p)) m room

-- a refusal, its number and its place: the reader's own but 19 (`ReaderRefuses` says which they are), then 47 and 48 at 0, then 22 at the bytes that the writer needs
pub data ConvertRefusal (T : List ℕ) (top : ℕ) (m : List ℕ) (room : ℕ) : ℕ → ℕ → Type 0 where
  by_reader : {n i : ℕ} → rules T top m ≡ bad n i → ConvertRefusal T top m room n i
  not_compact_lem : {e : Encoding} {p : Pieces} {n : ℕ} → rules T top m ≡ ok (read_as e p) n → (e ≡ v11 compact → ⊥) → ConvertRefusal T top m room 47 0
  skips : {p : Pieces} {n : ℕ} → rules T top m ≡ ok (read_as (v11 compact) p) n → (Complete p → ⊥) → ConvertRefusal T top m room 48 0
  no_room : {p : Pieces} {i : ℕ} → Convertible T top m p → writing T (first_known T top p) 1 (length (rows T top (v11 compact) p)) (concat row_bytes (rows T top (v11 compact) p)) m room ≡ stop 22 i
      → ConvertRefusal T top m room 22 i

-- Rules out 48 for a sliced record, a conversion of encoding 1.0, 22 before 48, and an output that changes on a refusal.
abbrev pub ConvertRefuses : Type 0
ConvertRefuses =
    (T : List ℕ) (top : ℕ) (m : List ℕ) (room n i : ℕ) → Bytes m
    → (converting T top m room ≡ stop n i → ConvertRefusal T top m room n i × ((lent : List ℕ) → output (converting T top m room) lent ≡ lent))
    × (ConvertRefusal T top m room n i → converting T top m room ≡ stop n i)

-- the three numbers: 0, 0 and the message's length, or the refusal's number, which is not 0, its place and 0
abbrev pub ConvertNumbers : Type 0
ConvertNumbers =
    (T : List ℕ) (top : ℕ) (m : List ℕ) (room : ℕ) → Bytes m
    → ((o : List ℕ) → converting T top m room ≡ out o → writing_numbers (writing_of (converting T top m room)) ≡ 0 ∷ 0 ∷ length o ∷ [])
    × ((n i : ℕ) → converting T top m room ≡ stop n i → (1 ≤ n) × (writing_numbers (writing_of (converting T top m room)) ≡ n ∷ i ∷ 0 ∷ []))

abbrev pub ConvertFilled : Type 0
ConvertFilled =
    (T : List ℕ) (top : ℕ) (m lent o : List ℕ) → Bytes m → converting T top m (length lent) ≡ out o
    → (take (length o) (output (out o) lent) ≡ o) × (drop (length o) (output (out o) lent) ≡ drop (length o) lent) × (length (output (out o) lent) ≡ length lent)
