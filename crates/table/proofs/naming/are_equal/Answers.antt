-- The library compares the bytes in turn.
use mathlib.Core.Path.{◌∙◌}
use Rattle.table.proofs.Labels.{same_pointwise}
use Rattle.table.proofs.naming.are_equal.Goals as goal

pub returns : goal.returns
returns c = c.eq.ensures ∙ same_pointwise _ _
