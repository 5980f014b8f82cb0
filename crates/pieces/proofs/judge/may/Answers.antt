-- The member is looked up, then the bytes are judged. Assumes nothing.
use mathlib.Core.Path.{refl}
use native.Mathlib.Omega.{arith}
use Rattle.pieces.proofs.Fields.{may_gone, may_tag, may_wrong, may_right, part_small}
use Rattle.pieces.proofs.judge.may.Goals as goal

pub returns-then-fault-ne0 : goal.returns-then-fault-ne0
returns-then-fault-ne0 c = (search may_wrong, omega arith)

pub overflow_add-result : goal.overflow_add-result
overflow_add-result c = omega (arith, c.requires.at_bound.0)

pub overflow_add-result-in-Some : goal.overflow_add-result-in-Some
overflow_add-result-in-Some c = omega (arith, c.requires.at_bound.0)

pub overflow_add-result-in-Some-2 : goal.overflow_add-result-in-Some-2
overflow_add-result-in-Some-2 c = omega (arith, c.requires.at_bound.0, part_small _ _ _ _ c.part_form-fault.ensures c.if-fault-ne0.false c.requires.at_bound.2)

pub returns-else-fault-ne0 : goal.returns-else-fault-ne0
returns-else-fault-ne0 c = (may_right _ _ _ _ _ _ c.row_in-row.ensures _ _ _ c.optional_at-f.ensures _ c.in-Some.is _ c.part_form-fault.ensures c.if-fault-ne0.false c.requires.at_bound.2 _ c.requires.shapes_value _ c.form.ensures _ _ _ c.header_len-h.ensures.0 c.header_len-h.ensures.1 c.length_len-l.ensures.0 c.length_len-l.ensures.1, may_tag _ _ _ _ _ c.optional_at-f.ensures _ c.in-Some.is)

pub returns-in-None : goal.returns-in-None
returns-in-None c = (search may_gone, refl)
