-- The loop's invariant: the outcome follows from the optionals ahead. The measure is the bytes left. Assumes nothing.
use mathlib.Core.Path.{refl}
use native.Mathlib.Omega.{arith}
use borrow.Author.Rules.{rules}
use Rattle.slices.proofs.Endings.{put_keeps}
use Rattle.reader.proofs.Listing.{simple_place, simple_some, simple_count, simple_fits, simple_tag, simple_row, simple_less, simple_known}
use Rattle.reader.proofs.lists.quick.Goals as goal

pub loop-at-init : goal.loop-at-init
loop-at-init c = (refl, search rules)

pub slice_bounds-simple-count : goal.slice_bounds-simple-count
slice_bounds-simple-count c = omega arith

pub overflow_add-at : goal.overflow_add-at
overflow_add-at c = search simple_place

pub overflow_sub-n : goal.overflow_sub-n
overflow_sub-n c = search simple_some

pub overflow_add-count : goal.overflow_add-count
overflow_add-count c = search simple_count

pub overflow_add-at-in-loop-at : goal.overflow_add-at-in-loop-at
overflow_add-at-in-loop-at c = search simple_fits

pub overflow_add-least : goal.overflow_add-least
overflow_add-least c = search simple_tag

pub overflow_add-row : goal.overflow_add-row
overflow_add-row c = search simple_row

pub loop-at-smaller : goal.loop-at-smaller
loop-at-smaller c = search simple_less

pub loop-at-preserved : goal.loop-at-preserved
loop-at-preserved c = (search put_keeps, search (simple_known, c.simple-o.ensures))
