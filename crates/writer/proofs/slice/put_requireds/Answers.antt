-- The loop's invariant: so many member rows are passed, and the rows from the next on give the pieces still to be put, after the bytes that wait. Assumes nothing.
use borrow.Author.Rules.{rules}
use Prim.Native.Nat.{◌+◌, ◌≤◌}
use mathlib.Core.Path.{refl}
use native.Mathlib.Omega.{arith}
use lib.ListN.{length}
use Rattle.pieces.proofs.Judges.{part_inside}
use Rattle.writer.proofs.Groups.{grouping_begin, is_due, pass_over, pass_due, pass_other, pass_outside, run_more, run_anew, run_end}
use Rattle.writer.proofs.slice.put_requireds.Goals as goal

pub loop-k-init : goal.loop-k-init
loop-k-init c = (refl, omega arith, omega arith, grouping_begin _ _ _ _ _ _ _ _ _ _ c.requires.start_bound.1)

pub overflow_add-a : goal.overflow_add-a
overflow_add-a c = omega (arith, c.requires.a_value.2, c.requires.a_value.3)

pub mark_from-requires-clause-first_value : goal.mark_from-requires-clause-first_value
mark_from-requires-clause-first_value c = c.requires.first_value.0

pub mark_from-requires-clause-first_bound : goal.mark_from-requires-clause-first_bound
mark_from-requires-clause-first_bound c = (c.requires.first_value.1, omega (arith, c.requires.a_value.2, c.requires.a_value.3))

pub loop-k-preserved-then-mark_from-ne0 : goal.loop-k-preserved-then-mark_from-ne0
loop-k-preserved-then-mark_from-ne0 c = (c.loop-k.invariant.0, omega arith, c.loop-k.invariant.2, pass_over _ _ _ _ _ _ _ _ _ _ _ _ _ _ _ c.loop-k.invariant.3 _ _ _ c.requires.a_value.0 c.requires.a_value.1 c.loop-k-test.true c.mark_from.ensures c.if-mark_from-ne0.true)

pub returns-then-count-i : goal.returns-then-count-i
returns-then-count-i c = rw c.laid_of.ensures (pass_due _ _ _ _ _ _ _ _ _ _ _ _ _ _ _ c.loop-k.invariant.3 _ (is_due _ _ _ _ _ _ c.requires.a_value.0 c.requires.a_value.1 c.loop-k-test.true c.mark_from.ensures c.if-mark_from-ne0.false) _ c.if-count-i.true)

pub row_in-row-requires : goal.row_in-row-requires
row_in-row-requires c = omega (arith, c.if-count-i.false, c.requires.start_bound.2)

pub overflow_add-a-in-loop-k : goal.overflow_add-a-in-loop-k
overflow_add-a-in-loop-k c = omega (arith, c.requires.a_value.2, c.requires.a_value.3)

pub returns-then-row-a : goal.returns-then-row-a
returns-then-row-a c = rw c.laid_of-then-row-a.ensures (pass_other _ _ _ _ _ _ _ _ _ _ _ _ _ _ _ c.loop-k.invariant.3 _ (is_due _ _ _ _ _ _ c.requires.a_value.0 c.requires.a_value.1 c.loop-k-test.true c.mark_from.ensures c.if-mark_from-ne0.false) _ c.if-count-i.false _ c.row_in-row.ensures c.if-row-a.true)

pub returns-then-not-fits : goal.returns-then-not-fits
returns-then-not-fits c = rw c.laid_of-then-not-fits.ensures (pass_outside _ _ _ _ _ _ _ _ _ _ _ _ _ _ _ c.loop-k.invariant.3 _ (is_due _ _ _ _ _ _ c.requires.a_value.0 c.requires.a_value.1 c.loop-k-test.true c.mark_from.ensures c.if-mark_from-ne0.false) _ c.if-count-i.false _ c.row_in-row.ensures c.if-row-a.false _ c.fits.ensures c.if-not-fits.true)

pub overflow_add-place : goal.overflow_add-place
overflow_add-place c = omega (arith, c.loop-k.invariant.2)

pub overflow_add-len : goal.overflow_add-len
overflow_add-len c = let h : c.row_in-row.result.place + c.row_in-row.result.len ≤ length c.args.buffer.now = part_inside _ _ _ _ c.fits.ensures c.if-not-fits.false in omega (arith, c.loop-k.invariant.2, h, c.requires.start_bound.3)

pub overflow_add-i : goal.overflow_add-i
overflow_add-i c = omega (arith, c.if-count-i.false, c.requires.start_bound.2)

pub loop-k-preserved-then-row-place : goal.loop-k-preserved-then-row-place
loop-k-preserved-then-row-place c = let h : c.row_in-row.result.place + c.row_in-row.result.len ≤ length c.args.buffer.now = part_inside _ _ _ _ c.fits.ensures c.if-not-fits.false in (c.loop-k.invariant.0, omega (arith, c.loop-k-test.true), omega (arith, c.if-row-place.true, h, c.requires.start_bound.3), run_more _ _ _ _ _ _ _ _ _ c.loop-k.place c.loop-k.len _ _ _ _ c.loop-k.invariant.3 c.if-count-i.false _ c.row_in-row.ensures _ (is_due _ _ _ _ _ _ c.requires.a_value.0 c.requires.a_value.1 c.loop-k-test.true c.mark_from.ensures c.if-mark_from-ne0.false) c.if-row-a.false (omega (arith, h, c.requires.start_bound.3)) c.if-row-place.true)

pub put_content-at-requires : goal.put_content-at-requires
put_content-at-requires c = (omega (arith, c.loop-k.invariant.3.few, c.loop-k.invariant.3.within, c.requires.start_bound.0, c.requires.start_bound.2), c.requires.start_bound.3)

pub loop-k-preserved : goal.loop-k-preserved
loop-k-preserved c = let h : c.row_in-row.result.place + c.row_in-row.result.len ≤ length c.args.buffer.now = part_inside _ _ _ _ c.fits.ensures c.if-not-fits.false in (search rules, omega (arith, c.loop-k-test.true), omega (arith, h, c.requires.start_bound.3), run_anew _ _ _ _ _ _ _ _ _ c.loop-k.place c.loop-k.len _ _ _ _ c.loop-k.invariant.3 c.if-count-i.false _ c.row_in-row.ensures _ (is_due _ _ _ _ _ _ c.requires.a_value.0 c.requires.a_value.1 c.loop-k-test.true c.mark_from.ensures c.if-mark_from-ne0.false) c.if-row-a.false (omega (arith, h, c.requires.start_bound.3)) _ _ c.put_content-at.ensures.0)

pub put_content-end-requires : goal.put_content-end-requires
put_content-end-requires c = (omega (arith, c.loop-k.invariant.3.few, c.loop-k.invariant.3.within, c.requires.start_bound.0, c.requires.start_bound.2), c.requires.start_bound.3)

pub returns : goal.returns
returns c = rw c.laid_of-2.ensures (run_end _ _ _ _ _ _ _ _ _ c.loop-k.place c.loop-k.len _ _ _ _ c.loop-k.invariant.3 _ c.requires.a_value.1 (omega (arith, c.loop-k.invariant.1, c.loop-k-test.false)) _ _ c.put_content-end.ensures.0)
