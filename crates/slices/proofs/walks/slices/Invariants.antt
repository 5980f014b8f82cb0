-- The loops' invariants: the outcome follows from the slices ahead and, inside a slice, together with the answer from the optionals ahead. Each measure is the bytes left. Assumes nothing.
use mathlib.Core.Path.{◌≡◌}
use lib.ListN.{length, drop}
use Prim.Native.Nat.{◌-◌}
use Rattle.encoding.specs.Slice.{first, seek, slices}
use Rattle.heads.specs.Stages.{stage_of}
use Rattle.slices.specs.Walks.{slice_walk}
use Rattle.slices.specs.Left.{left, amid, answer_of}
use Rattle.slices.proofs.Walking.{Outer, Inner}
use Rattle.slices.proofs.walks.slices.Given as goal

abbrev pub invariant-loop-more : goal.invariant-loop-more
invariant-loop-more l = (length l.out ≡ length l.initial.out)
    × (slice_walk l.table l.start (slices l.table l.top (drop l.start l.m))
    ≡ answer_of (amid l.table l.top l.m (stage_of l.stage) l.pos l.t l.sliced l.from l.end l.skipped l.first l.initial.at l.initial.least l.initial.count l.initial.optionals l.initial.more l.initial.out))
    × Inner l.table l.top l.m (amid l.table l.top l.m (stage_of l.stage) l.pos l.t l.sliced l.from l.end l.skipped l.first l.initial.at l.initial.least l.initial.count l.initial.optionals l.initial.more l.initial.out) l.stage l.pos l.t l.sliced l.from l.end l.skipped l.first l.stop l.at l.least l.row l.count l.optionals l.more l.out

abbrev pub decreases-loop-more : goal.decreases-loop-more
decreases-loop-more l = length l.m - l.at

abbrev pub invariant-slices : goal.invariant-slices
invariant-slices l = (length l.out ≡ length l.initial.out) × Outer l.table l.top l.m (left l.table (seek first) l.start 0 0 0 0 l.initial.out (slices l.table l.top (drop l.start l.m))) l.stage l.pos l.count l.optionals l.skipped l.first l.out

abbrev pub decreases-slices : goal.decreases-slices
decreases-slices l = length l.m - l.pos
