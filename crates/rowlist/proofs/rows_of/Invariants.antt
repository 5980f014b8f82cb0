-- The first i rows are laid over the list.
use Rattle.std.proofs.Common.{◌≡◌, ◌-◌, ◌≤◌}
use Rattle.rowlist.specs.Records.{records, overlay}
use Rattle.rowlist.proofs.rows_of.Given as goal

abbrev pub invariant-loop-i : goal.invariant-loop-i
invariant-loop-i l = record { laid : l.rows ≡ overlay (records l.bytes 0 l.i) l.fn.rows; least : l.i ≤ l.m }

abbrev pub decreases-loop-i : goal.decreases-loop-i
decreases-loop-i l = l.m - l.i
