-- What the reader's calls answer of a walk over a message.
--
--   Lent           what a walk is lent for the shapes
--   Walked         what the checks and the walk over a message give, and what the walk leaves in its list
--   Listed         the same, and what the reader leaves in the lent list
--   low x          the low 32 bits of a number
--   told_of k w     the answer of a walk where the list has room for k rows
--   row_count w     the rows of an accepted message, none of a refused one
--   with_rows       a lent list after the rows of a walk are copied into it from a list that begins with them, if they all fit
use Rattle.std.specs.Prelude.{◌≡◌, Bool, true, false, List, ℕ, ◌*◌, ◌/◌, ◌%◌, ◌^◌, length, take, replicate, leb}
use Rattle.encoding.specs.Result.{ok, pick}
use Rattle.encoding.specs.Number.{Bytes}
use Rattle.encoding.specs.Message.{Read, rules, rows, reading, listed}
use Rattle.encoding.specs.declared.Reading.{Reading}
use Rattle.encoding.specs.declared.Reading.TheVariants.{Accepted, Refused}
use Rattle.wire.specs.Put.{put}
use Rattle.shapes.specs.Shapes.{shapes_of}
use Rattle.level.specs.Fill.{fill}
use Rattle.slices.specs.Walks.{body_walk}
use Rattle.slices.specs.declared.Walk.{Walk}
use Rattle.slices.specs.declared.Walk.TheVariants.{Done, Stop}
use Rattle.prepare.specs.Preparing.{checks}
use Rattle.prepare.specs.declared.Prepared.TheVariants.{Ready}

-- the shapes, where it is known that the checks refuse nothing; else as many 10s
pub record Lent (T : List ℕ) (top l : ℕ) (ready : Bool) (shapes : List ℕ) : Type 0 where
  pub known : ready ≡ true → checks T top 1 l ≡ Ready
  pub given : ready ≡ true → shapes ≡ shapes_of T
  pub blank : ready ≡ false → shapes ≡ replicate 256 10

-- the list is left with the rows of an accepted message, those that fit
pub record Walked (T : List ℕ) (top : ℕ) (m : List ℕ) (w : Walk) (out last : List ℕ) : Type 0 where
  pub says : w ≡ body_walk T top (rules T top m)
  pub bytes : Bytes m
  pub kept : length last ≡ length out
  pub lays : (rd : Read) (n : ℕ) → rules T top m ≡ ok rd n → last ≡ fill 0 (rows T top rd.format rd.pieces) out

pub record Listed (T : List ℕ) (top : ℕ) (m : List ℕ) (w : Walk) (lent last : List ℕ) : Type 0 where
  pub says : w ≡ body_walk T top (rules T top m)
  pub bytes : Bytes m
  pub list : last ≡ listed (reading T top m (length lent)) lent

abbrev pub low : ℕ → ℕ
low x = x % 2 ^ 32

unfoldable pub told_of : ℕ → Walk → Reading
told_of k (Done t g n o s e) = pick (leb n k) (Accepted (low t) (low g) (low n) (low o) (low s)) (Refused 19 (low n))
told_of k (Stop c p) = Refused (low c) (low p)

unfoldable pub row_count : Walk → ℕ
row_count (Done t g n o s e) = n
row_count (Stop c p) = 0

unfoldable pub with_rows : Walk → List ℕ → List ℕ → List ℕ
with_rows w own lent = pick (leb (row_count w) (length lent / 12)) (put 0 (take (12 * row_count w) own) lent) lent
