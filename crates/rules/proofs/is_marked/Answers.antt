-- By the first four bytes, then by the fifth; each element of the slice is below 256. Assumes nothing.
use native.Mathlib.Omega.{arith}
use Rattle.rules.proofs.Judging.{marked_other, marked_first, marked_second}
use Rattle.rules.proofs.is_marked.Goals as goal
use Rattle.rules.proofs.is_marked.Goals.{else-x-ne22300486, then-x-ne22300486+else-x-ne39077702}

pub returns-then-x-ne39077702 : goal.returns-then-x-ne39077702
returns-then-x-ne39077702 c = marked_other c.args.table.now (omega arith) (λ i. omega (arith, c.type_inv.table i)) _ c.int_at-x.ensures.0 c.if-x-ne22300486.true c.if-x-ne39077702.true

pub returns : goal.returns
returns c = elim c.if-x-ne22300486.branch [ then-x-ne22300486+else-x-ne39077702 w ↦ marked_second c.args.table.now (omega arith) (λ i. omega (arith, c.type_inv.table i)) _ c.int_at-x.ensures.0 _ c.byte_at.ensures.0 w.if-x-ne39077702.false | else-x-ne22300486 w ↦ marked_first c.args.table.now (omega arith) (λ i. omega (arith, c.type_inv.table i)) _ c.int_at-x.ensures.0 _ c.byte_at.ensures.0 w.if-x-ne22300486.false ]
