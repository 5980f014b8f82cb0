-- Bytes laid by several puts, where all of them fit.
--
--   Puts      bytes b are laid at a place of `out`, which makes `last`; `end` is the place after them
--   Leaves    of bytes w to be laid, `rest` is still to be laid at a place of `out`
use Rattle.std.specs.Prelude.{◌≡◌, List, ℕ, ◌+◌, ◌≤◌, length}
use Rattle.wire.specs.Put.{put}

-- nothing is said of `last` where they do not fit
pub record Puts (at : ℕ) (b out last : List ℕ) (end : ℕ) : Type 0 where
  pub ends : end ≡ at + length b
  pub lays : at + length b ≤ length out → last ≡ put at b out

pub record Leaves (start : ℕ) (w first : List ℕ) (at : ℕ) (rest out : List ℕ) : Type 0 where
  pub ends : at + length rest ≡ start + length w
  pub same : start + length w ≤ length first → length out ≡ length first
  pub lays : start + length w ≤ length first → put start w first ≡ put at rest out
