-- The loop's invariant: the outcome follows from the pairs ahead. The measure is the bytes left. Assumes nothing.
use mathlib.Core.Path.{◌≡◌}
use lib.ListN.{length, drop}
use Prim.Native.Nat.{◌-◌}
use Rattle.encoding.specs.Old.{any_pair, id_pairs}
use Rattle.pairs.specs.Pairs.{left}
use Rattle.pairs.proofs.Walking.{Ahead}
use Rattle.pairs.proofs.walks.pairs.Given as goal

abbrev pub invariant-loop-turn : goal.invariant-loop-turn
invariant-loop-turn l = (length l.out ≡ length l.initial.out) × Ahead l.table l.top l.m (left l.table any_pair l.start 0 0 0 l.initial.out (id_pairs l.table l.top (drop l.start l.m))) l.due l.pos l.count l.skipped l.first l.out

abbrev pub decreases-loop-turn : goal.decreases-loop-turn
decreases-loop-turn l = length l.m - l.pos
