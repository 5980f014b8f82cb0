-- The sum is cut at a million.
use Rattle.std.proofs.Common.{◌≤◌}
use Rattle.replay.proofs.nights.row_count.Given as goal

abbrev pub invariant-loop-i : goal.invariant-loop-i
invariant-loop-i l = l.rows ≤ 1000000
