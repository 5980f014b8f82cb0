-- What a value takes is compared with the length of its part. Assumes nothing.
use mathlib.Core.Bool.{false≢true}
use Prim.Native.Nat.{◌+◌, ◌≤◌}
use lib.ListN.{length}
use native.Mathlib.Omega.{arith}
use Rattle.pieces.proofs.Judges.{part_inside, quick_right}
use Rattle.pieces.proofs.judge.is_right.Goals as goal

pub overflow_add-e : goal.overflow_add-e
overflow_add-e c = let h : c.args.row.place + c.args.row.len ≤ length c.args.buffer.now = part_inside _ _ _ _ c.fits.ensures c.if-fits.true in omega arith

pub slice_bounds-quick_member-end : goal.slice_bounds-quick_member-end
slice_bounds-quick_member-end c = part_inside _ _ _ _ c.fits.ensures c.if-fits.true

pub returns-then-n-gt0 : goal.returns-then-n-gt0
returns-then-n-gt0 c = λ h. search quick_right

pub returns-else-n-gt0 : goal.returns-else-n-gt0
returns-else-n-gt0 c = λ h. absurd (false≢true h)

pub returns-else-fits : goal.returns-else-fits
returns-else-fits c = λ h. absurd (false≢true h)
