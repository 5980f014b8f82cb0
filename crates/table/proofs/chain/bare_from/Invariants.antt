-- The loop's invariant: i is the first required row from row `from` on, or `end`. The measure is the number of rows left. Assumes nothing.
use mathlib.Core.Path.{◌≡◌}
use Prim.Native.Nat.{◌-◌, ◌≤◌}
use Rattle.table.specs.Tags.{first_required}
use Rattle.table.proofs.chain.bare_from.Given as goal

abbrev pub invariant-loop-i : goal.invariant-loop-i
invariant-loop-i l = (l.i ≡ first_required l.table l.from (l.end - l.from)) × (l.from ≤ l.i) × (l.i ≤ l.end)

abbrev pub decreases-loop-i : goal.decreases-loop-i
decreases-loop-i l = l.end - l.from
