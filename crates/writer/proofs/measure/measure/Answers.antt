-- What comes before the members or slices, and these. Assumes nothing.
use native.Mathlib.Omega.{arith}
use Rattle.writer.proofs.Walks.{message_measured}
use mathlib.Core.Path.{ap}
use lib.Dec.{eqb}
use Prim.Native.Nat.{ℕ}
use Rattle.writer.proofs.measure.measure.Goals as goal

pub measure_parts-requires-clause-begin_value : goal.measure_parts-requires-clause-begin_value
measure_parts-requires-clause-begin_value c = c.requires.begin_value

pub measure_parts-requires-clause-shapes_value : goal.measure_parts-requires-clause-shapes_value
measure_parts-requires-clause-shapes_value c = c.requires.shapes_value

pub measure_parts-requires-clause-list_value : goal.measure_parts-requires-clause-list_value
measure_parts-requires-clause-list_value c = ap (λ (x : ℕ). eqb x 15) c.kind-k.ensures.0

pub measure_parts-requires-clause-start_bound : goal.measure_parts-requires-clause-start_bound
measure_parts-requires-clause-start_bound c = (omega (arith, c.lead_len-lead.ensures.1), c.requires.t_bound.0, c.requires.t_bound.1, c.requires.t_bound.2, c.requires.t_bound.3)

pub returns : goal.returns
returns c = message_measured _ _ _ _ _ _ _ c.kind-k.ensures.0 _ c.lead_len-lead.ensures.0 c.measure_parts.result c.measure_parts.ensures
