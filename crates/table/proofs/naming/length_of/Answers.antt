-- The length, cut where the table ends.
use native.Mathlib.Omega.{arith}
use Rattle.table.proofs.Labels.{name_long, name_inside}
use Rattle.table.proofs.naming.length_of.Goals as goal

pub returns : goal.returns
returns c = (search name_long, search name_inside, omega arith)
