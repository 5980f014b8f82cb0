-- The members left decide the answer, and the tags before are below `above`. Assumes nothing.
use native.Mathlib.Omega.{arith}
use borrow.Author.Rules.{rules}
use Rattle.std.proofs.Common.{refl}
use Rattle.rules.proofs.Judging.{owner_none, owner_begin, usual_fault, usual_next, owner_fault, owner_next, owner_end}
use Rattle.rules.proofs.owner.Goals as goal

pub returns-then-count-eq0 : goal.returns-then-count-eq0
returns-then-count-eq0 c = search owner_none

pub loop-m-init : goal.loop-m-init
loop-m-init c = (refl, owner_begin _ _ _ _ c.type_row_in-own.ensures c.share-count.ensures.0 (λ i. omega (arith, c.type_inv.table i)))

pub returns-then-no_part : goal.returns-then-no_part
returns-then-no_part c = search usual_fault

pub loop-m-preserved : goal.loop-m-preserved
loop-m-preserved c = (refl, search usual_next)

pub returns-in_err-placed : goal.returns-in_err-placed
returns-in_err-placed c = search (rules, owner_fault, c.in_err-placed.was)

pub loop-m-2-preserved : goal.loop-m-2-preserved
loop-m-2-preserved c = search (owner_next, c.in_ok-placed.was)

pub returns : goal.returns
returns c = search owner_end
