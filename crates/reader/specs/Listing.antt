-- What holds while the optionals of a parameter list are read: the outcome follows from the optionals ahead.
--
--   Listing   at a place of message m: k rows are there, o optionals were skipped, tags are at least `least`, look-ups begin at member row `row`
use Rattle.std.specs.Prelude.{◌≡◌, List, ℕ, ◌+◌, ◌*◌, ◌^◌, ◌≤◌, ◌<◌, length}
use Rattle.table.specs.Tags.{Passed}
use Rattle.slices.specs.Left.{WalkEnd, listing}

pub record Listing (T : List ℕ) (top : ℕ) (m : List ℕ) (whole : WalkEnd) (stop at least row k o : ℕ) (out : List ℕ) : Type 0 where
  pub room : length m < 2 ^ 63
  pub bound : stop ≤ 131072
  pub inside : at ≤ length m
  pub few : 2 * k ≤ 131072 + at
  pub fewer : o ≤ at
  pub passed : Passed T top stop row least
  pub rest : whole ≡ listing T top m at least k o out
