-- The invariants of the pass over type rows, of the pass over owners and of the array. Assumes nothing.
use native.Mathlib.Omega.{arith}
use Rattle.encoding.proofs.TableLaws.{rows_below}
use Rattle.onepass.proofs.Passing.{rows_begin, rows_basic, rows_next, rows_types, rows_owners, rows_shapes}
use Rattle.onepass.proofs.rows.Goals as goal

pub loop-t-init : goal.loop-t-init
loop-t-init c = (omega (arith, rows_below c.args.table.now), rows_begin _ _ (λ i. omega (arith, c.type_inv.table i)) _ c.requires.n_value.0 c.requires.shapes_value)

pub loop-t-preserved-then-is_basic : goal.loop-t-preserved-then-is_basic
loop-t-preserved-then-is_basic c = (omega arith, search rows_basic)

pub loop-t-preserved : goal.loop-t-preserved
loop-t-preserved c = (omega arith, search rows_next)

pub returns-clause-value : goal.returns-clause-value
returns-clause-value c = λ h. search rows_types

pub returns-clause-value_2 : goal.returns-clause-value_2
returns-clause-value_2 c = λ h. search rows_owners

pub returns-clause-shapes_after : goal.returns-clause-shapes_after
returns-clause-shapes_after c = λ h. search rows_shapes
