-- The sum so far and the members left to look at decide the answer.
use borrow.Author.Rules.{rules}
use native.Mathlib.Omega.{arith}
use Rattle.shapes.proofs.Filling.{widths_begin, widths_past, widths_not, widths_next, widths_wide, widths_end}
use Rattle.shapes.proofs.struct_width.Goals as goal

pub loop-m-init : goal.loop-m-init
loop-m-init c = widths_begin _ _ _ _ (search rules) (omega arith) (omega arith) (omega arith)

pub returns-then-count-m : goal.returns-then-count-m
returns-then-count-m c = search (rules, widths_past)

pub returns-then-w-eq0 : goal.returns-then-w-eq0
returns-then-w-eq0 c = search (rules, widths_not)

pub loop-m-preserved : goal.loop-m-preserved
loop-m-preserved c =
    widths_next _ _ _ _ _ c.loop-m.invariant (omega arith) _ c.members-count.ensures.0 c.if-count-m.false _ c.requires.shaped c.requires.t_bound _ c.member_row_from.ensures.of_is _ c.width_below-w.ensures.0
    c.width_below-w.ensures.1 c.if-w-eq0.false _ (omega arith)

pub returns-then-sum-le237 : goal.returns-then-sum-le237
returns-then-sum-le237 c = search (rules, widths_end)

pub returns-else-sum-le237 : goal.returns-else-sum-le237
returns-else-sum-le237 c = search (rules, widths_wide)
