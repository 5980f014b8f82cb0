-- What the code answers of the next slice, and of what comes next among its optionals.
--
--   opening        a slice up to its data: skipped whole, of a known row with the part that its data lie in, or a refusal
--   ended          the members of a known slice, read in the part from a to e
--   turn_of         the next optional, none at the end marker; or a refusal: 14 for a marker before any optional
--   first_or        the first known type after a slice of row t
use Rattle.std.specs.Prelude.{Bool, true, false, ◌&&◌, not, List, ℕ, ◌+◌, ◌-◌, length, drop, eqb, Result, Ok, Err, Some, None}
use Rattle.std.specs.Prelude.{Option as Answer}
use Rattle.std.proofs.Math.Option.{Option, none, some}
use Rattle.encoding.specs.Result.{Res, ok, bad, pick, must, at_mark}
use Rattle.encoding.specs.Number.{declared}
use Rattle.encoding.specs.Table.{Member}
use Rattle.encoding.specs.Optional.{Piece, next_optional}
use Rattle.encoding.specs.Slice.{Head, head, Stage, seek, follow, stand_of, meaning, id_form, meaning_form}
use Rattle.wire.specs.declared.Refusal.{Refusal}
use Rattle.wire.specs.Steps.{refused}
use Rattle.level.specs.declared.Optional.{Optional}
use Rattle.level.specs.Answers.{optional_answer}
use Rattle.heads.specs.declared.Heading.{Heading}
use Rattle.heads.specs.declared.Heading.TheVariants.{Skip as SkipHeading, Known as KnownHeading}
use Rattle.slices.specs.declared.Opening.{Opening}
use Rattle.slices.specs.declared.Opening.TheVariants.{Skip, Known}
use Rattle.heads.specs.Stages.{head_answer}

-- after n bytes of flags and ID, a skipped slice's declared data
unfoldable pub skip_opening : ℕ → Res (List ℕ) → Result Opening Refusal
skip_opening n (ok d k) = Ok (Skip (n + k))
skip_opening n (bad c p) = refused c (n + p)

-- those of a sliced one of row t
unfoldable pub part_opening : ℕ → Bool → ℕ → Res (List ℕ) → Result Opening Refusal
part_opening t o n (ok d k) = Ok (Known t o true (n + 4) (n + k))
part_opening t o n (bad c p) = refused c (n + p)

unfoldable pub head_opening : List ℕ → Result Heading Refusal → Result Opening Refusal
head_opening xs (Ok (SkipHeading n)) = skip_opening n (declared 4 4 (drop n xs))
head_opening xs (Ok (KnownHeading t o true n)) = part_opening t o n (declared 4 4 (drop n xs))
head_opening xs (Ok (KnownHeading t o false n)) = Ok (Known t o false n (length xs))
head_opening xs (Err x) = Err x

-- flags and ID, judged by what they mean
abbrev pub headed : List ℕ → ℕ → Stage → List ℕ → Res Head
headed T top st xs = must (λ h. meaning_form (meaning T top st h)) (head (stand_of st) (id_form T st)) xs

unfoldable pub opening : List ℕ → ℕ → Stage → List ℕ → Result Opening Refusal
opening T top st xs = head_opening xs (head_answer T top st (headed T top st xs))

-- members that were read in the part from a to e; where the slice is sliced, they use it up
unfoldable pub ended : Bool → ℕ → ℕ → Res (List Piece) → Res (List Piece)
ended z a e (ok ps n) = pick (z && not (eqb (a + n) e)) (bad 11 (a - 4)) (ok ps (a + n))
ended z a e (bad c p) = bad c (a + p)

-- ---- optionals

unfoldable pub turn_answer : Result Optional Refusal → Result (Answer Optional) Refusal
turn_answer (Ok o) = Ok (Some o)
turn_answer (Err x) = Err x

unfoldable pub turn_by : Option ℕ → ℕ → Result (Answer Optional) Refusal → Result (Answer Optional) Refusal
turn_by none least r = r
turn_by (some j) least r = pick (eqb least 0) (refused 14 0) (Ok None)

unfoldable pub turn_of : List Member → ℕ → List ℕ → Result (Answer Optional) Refusal
turn_of ms least xs = turn_by (at_mark xs) least (turn_answer (optional_answer ms (next_optional ms least xs)))

unfoldable pub first_or : Stage → ℕ → ℕ → ℕ
first_or (seek s) first t = t
first_or (follow g b) first t = first
