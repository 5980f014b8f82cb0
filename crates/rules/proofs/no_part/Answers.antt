-- By the row's number, then by its kind. Assumes nothing.
use native.Mathlib.Omega.{arith}
use Rattle.rules.proofs.Judging.{part_above, part_below}
use Rattle.rules.proofs.no_part.Goals as goal

pub returns-then-t-r : goal.returns-then-t-r
returns-then-t-r c = part_above _ _ _ (omega arith)

pub returns : goal.returns
returns c = search part_below
