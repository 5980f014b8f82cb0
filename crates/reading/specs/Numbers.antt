-- The reader with lent bytes for its five numbers.
--
--   within_numbers k n a             22 at k where an answer needs k bytes for its numbers and n are lent; after every other refusal
--   reading_numbered T top m b n     the reader's answer with a lent list of b bytes and n bytes for its numbers
--   short_of r                       an answer where fewer than 20 bytes are lent
--   five_numbers t g n o s           first known type, format, rows, optionals skipped, slices skipped, 32 bits each
--   five_bytes r                     those of an accepted message; none of a refusal
--   with_numbers r lent              the bytes lent for the numbers after the call
--   FewSkipped w                    an accepted walk skips at most 65,536 optionals
use Rattle.std.specs.Prelude.{◌≡◌, ◌||◌, not, List, [], ◌++◌, ℕ, ◌≤◌, length, drop, eqb, leb}
use Rattle.encoding.specs.Result.{pick}
use Rattle.encoding.specs.Number.{le_bytes}
use Rattle.encoding.specs.Message.{Answer, refused, reading}
use Rattle.encoding.specs.declared.Reading.{Reading}
use Rattle.encoding.specs.declared.Reading.TheVariants.{Accepted, Refused}
use Rattle.slices.specs.declared.Walk.{Walk}
use Rattle.slices.specs.declared.Walk.TheVariants.{Done}

-- a refused message needs no bytes
unfoldable pub within_numbers : ℕ → ℕ → Answer → Answer
within_numbers k n a = pick (leb k n || not (eqb a.refusal 0)) a (refused 22 k)

unfoldable pub reading_numbered : List ℕ → ℕ → List ℕ → ℕ → ℕ → Answer
reading_numbered T top m b n = within_numbers 20 n (reading T top m b)

unfoldable pub short_of : Reading → Reading
short_of (Accepted t g n o s) = Refused 22 20
short_of (Refused c p) = Refused c p

unfoldable pub five_numbers : ℕ → ℕ → ℕ → ℕ → ℕ → List ℕ
five_numbers t g n o s = le_bytes 4 t ++ le_bytes 4 g ++ le_bytes 4 n ++ le_bytes 4 o ++ le_bytes 4 s

unfoldable pub five_bytes : Reading → List ℕ
five_bytes (Accepted t g n o s) = five_numbers t g n o s
five_bytes (Refused c p) = []

-- bytes beyond the numbers stay
unfoldable pub with_numbers : Reading → List ℕ → List ℕ
with_numbers r lent = five_bytes r ++ drop (length (five_bytes r)) lent

pub record FewSkipped (w : Walk) : Type 0 where
  pub few : (t g n o s e : ℕ) → w ≡ Done t g n o s e → o ≤ 65536
