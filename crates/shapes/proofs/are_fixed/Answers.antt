-- The members left to look at decide the answer.
use borrow.Author.Rules.{rules}
use native.Mathlib.Omega.{arith}
use Rattle.shapes.proofs.Filling.{members_begin, members_past, members_not, members_next, members_end}
use Rattle.shapes.proofs.are_fixed.Goals as goal

pub loop-m-init : goal.loop-m-init
loop-m-init c = members_begin _ _ _ _ (search rules) (omega arith) (omega arith) (omega arith)

pub returns-then-count-m : goal.returns-then-count-m
returns-then-count-m c = search (rules, members_past)

pub returns-then-not-is_fixed : goal.returns-then-not-is_fixed
returns-then-not-is_fixed c = search (rules, members_not)

pub loop-m-preserved : goal.loop-m-preserved
loop-m-preserved c = members_next _ _ _ _ c.loop-m.invariant (omega arith) _ c.members-count.ensures.0 c.if-count-m.false _ c.member_row_from-of.ensures.of_is _ c.is_fixed.ensures c.if-not-is_fixed.false _ (omega arith)

pub returns : goal.returns
returns c = search (rules, members_end)
