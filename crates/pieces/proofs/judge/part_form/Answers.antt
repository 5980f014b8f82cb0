-- The test of its place, then the reader's. Assumes nothing.
use Prim.Native.Nat.{◌+◌, ◌≤◌}
use lib.ListN.{length}
use native.Mathlib.Omega.{arith}
use Rattle.pieces.proofs.Judges.{part_inside, part_outside, part_right, part_wrong}
use Rattle.pieces.proofs.judge.part_form.Goals as goal

pub overflow_add-e : goal.overflow_add-e
overflow_add-e c = let h : c.args.row.place + c.args.row.len ≤ length c.args.buffer.now = part_inside _ _ _ _ c.fits.ensures c.if-fits.true in omega arith

pub slice_bounds-exact_value-end : goal.slice_bounds-exact_value-end
slice_bounds-exact_value-end c = part_inside _ _ _ _ c.fits.ensures c.if-fits.true

pub returns-then-exact_value : goal.returns-then-exact_value
returns-then-exact_value c = search part_right

pub returns-then-fits : goal.returns-then-fits
returns-then-fits c = search part_wrong

pub returns : goal.returns
returns c = search part_outside
