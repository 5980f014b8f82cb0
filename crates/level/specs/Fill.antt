-- Rows in the lent list.
--
--   fill k rs out    out with the rows rs from row k on, those that fit
use Rattle.std.specs.Prelude.{List, [], ◌∷◌, ℕ, suc, ◌*◌}
use Rattle.encoding.specs.Message.{Row, row_bytes}
use Rattle.wire.specs.Put.{put}

unfoldable pub fill : ℕ → List Row → List ℕ → List ℕ
fill k [] out = out
fill k (r ∷ rs) out = fill (suc k) rs (put (12 * k) (row_bytes r) out)
