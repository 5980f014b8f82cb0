-- The loop's invariant (`Sums`): the sum so far and that of the members left make the whole sum. Assumes nothing.
use Rattle.agreeing.proofs.Cells.{sums_begin, sums_fit, sums_next, sums_end, place_fits, place_scaled, place_inside}
use borrow.Author.Rules.{rules}
use Rattle.agreeing.proofs.sum.Goals as goal

pub loop-i-init : goal.loop-i-init
loop-i-init c = search sums_begin

pub overflow_add-w : goal.overflow_add-w
overflow_add-w c = search (rules, place_fits)

pub offset_bounds-cells-base : goal.offset_bounds-cells-base
offset_bounds-cells-base c = search (rules, place_scaled)

pub bounds-cells-base : goal.bounds-cells-base
bounds-cells-base c = search place_inside

pub overflow_add-w-in-loop-i : goal.overflow_add-w-in-loop-i
overflow_add-w-in-loop-i c = search sums_fit

pub loop-i-preserved : goal.loop-i-preserved
loop-i-preserved c = search sums_next

pub returns : goal.returns
returns c = search sums_end
