-- The loop's invariant: the optionals from the place at hand on decide the answer. The measure is the bytes left. Assumes nothing.
use Prim.Native.Nat.{suc, ◌-◌}
use lib.ListN.{length}
use Rattle.edit.specs.Place.{seek_tag}
use Rattle.seek.proofs.Seeking.{Tags}
use Rattle.seek.proofs.find_tag.Given as goal

abbrev pub invariant-loop-begin : goal.invariant-loop-begin
invariant-loop-begin l = Tags l.s l.tag (seek_tag l.tag (suc (length l.s)) 0 0 l.s) l.at l.least

abbrev pub decreases-loop-begin : goal.decreases-loop-begin
decreases-loop-begin l = length l.s - l.at
