-- What the code answers of a slice's flags and type ID.
--
--   stage_of          the stage of the walk over slices, as the definitions have it
--   id_text           a type ID if one is due, else no bytes
--   head_of           a head of flags and an ID
--   meaning_answer    what a head means: skip it, the slice of a known row, or a refusal
--   head_answer       the same of a head that was read, or the refusal of its reading
--   seek_heading      flags and an ID, 15 judged too, before the first known slice
--   follow_heading    flags and an ID after a known slice
--   heading          one of the two, by the stage
use Rattle.std.specs.Prelude.{Bool, ◌&&◌, not, ℕ, List, [], Result, Ok}
use Rattle.encoding.specs.Result.{Res, ok, bad, Parser, pick, pure}
use Rattle.encoding.specs.Number.{string}
use Rattle.encoding.specs.Table.{named}
use Rattle.encoding.specs.Slice.{compact, sliced, is_sliced, bit, format_of_flags, first, later, seek, follow, Head, Meaning, skip, row, wrong, is_none, seek_meaning, meaning}
use Rattle.encoding.specs.Slice
use Rattle.wire.specs.declared.Refusal.{Refusal}
use Rattle.wire.specs.Steps.{refused}
use Rattle.heads.specs.declared.Stage.{Stage}
use Rattle.heads.specs.declared.Stage.TheVariants.{First, Seeking, Following}
use Rattle.heads.specs.declared.Heading.{Heading}
use Rattle.heads.specs.declared.Heading.TheVariants.{Skip, Known}

unfoldable pub stage_of : Stage → Slice.Stage
stage_of First = seek first
stage_of Seeking = seek (later sliced)
stage_of (Following s b) = follow (pick s sliced compact) b

unfoldable pub id_text : Bool → Parser (List ℕ)
id_text d = pick d string (pure [])

abbrev pub head_of : ℕ → List ℕ → Head
head_of f nm = record { format = format_of_flags f; optionals = bit f 4; last = bit f 32; id = nm }

-- a slice to skip: the bytes taken; a known one: its row, its bit 2, whether it is sliced, the bytes taken
unfoldable pub meaning_answer : Head → ℕ → Meaning → Result Heading Refusal
meaning_answer h n skip = Ok (Skip n)
meaning_answer h n (row t) = Ok (Known t h.optionals (is_sliced h.format) n)
meaning_answer h n (wrong c) = refused c 0

unfoldable pub head_answer : List ℕ → ℕ → Slice.Stage → Res Head → Result Heading Refusal
head_answer T top st (ok h n) = meaning_answer h n (meaning T top st h)
head_answer T top st (bad c p) = refused c p

-- ---- flags and an ID that were read

-- 15 is at the ID, after the flags
unfoldable pub seek_heading : List ℕ → ℕ → ℕ → List ℕ → ℕ → Result Heading Refusal
seek_heading T top f nm n =
    pick (not (is_sliced (format_of_flags f)) && is_none (named T nm)) (refused 15 1)
    (meaning_answer (head_of f nm) n (seek_meaning T top (bit f 32) (named T nm)))

unfoldable pub follow_heading : List ℕ → Bool → ℕ → ℕ → List ℕ → ℕ → Result Heading Refusal
follow_heading T s b f nm n = meaning_answer (head_of f nm) n (meaning T 0 (follow (pick s sliced compact) b) (head_of f nm))

unfoldable pub heading : List ℕ → ℕ → Stage → ℕ → List ℕ → ℕ → Result Heading Refusal
heading T top First f nm n = seek_heading T top f nm n
heading T top Seeking f nm n = seek_heading T top f nm n
heading T top (Following s b) f nm n = follow_heading T s b f nm n
