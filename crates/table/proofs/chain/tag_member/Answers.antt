-- The members left to look at decide the answer.
use borrow.Author.Rules.{rules}
use Rattle.table.proofs.Chains.{optionals_begin, optionals_required, optionals_here, optionals_other, optionals_end}
use Rattle.table.proofs.chain.tag_member.Goals as goal
use Rattle.table.proofs.chain.tag_member.Goals.{else-row-ne0-via-then-row-ne0+else-tag-row as other, else-row-ne0-via-else-row-ne0 as required}

pub loop-m-init : goal.loop-m-init
loop-m-init c = search optionals_begin

pub returns-then-tag-row : goal.returns-then-tag-row
returns-then-tag-row c = search (rules, optionals_here)

pub loop-m-preserved : goal.loop-m-preserved
loop-m-preserved c = elim c.else-row-ne0.branch [ other w ↦ search (rules, optionals_other, w) | required w ↦ search (rules, optionals_required, w) ]

pub returns : goal.returns
returns c = search (rules, optionals_end)
