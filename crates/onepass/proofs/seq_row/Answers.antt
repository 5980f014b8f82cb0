-- The rules of a sequence are tested in turn; its shape goes by its element. Assumes nothing.
use native.Mathlib.Omega.{arith}
use Rattle.onepass.proofs.Passing.{part_there, single_passed, other_passed}
use Rattle.onepass.proofs.seq_row.Goals as goal

pub kind_in-requires-clause-t_in_bounds : goal.kind_in-requires-clause-t_in_bounds
kind_in-requires-clause-t_in_bounds c = omega (arith, part_there _ _ _ _ c.no_part.ensures c.if-no_part.false)

pub returns-then-kind_in-le1 : goal.returns-then-kind_in-le1
returns-then-kind_in-le1 c = search single_passed

pub returns : goal.returns
returns c = search other_passed
