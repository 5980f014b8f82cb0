-- The rows left to look at decide the answer.
use borrow.Author.Rules.{rules}
use Rattle.table.proofs.Chains.{passing_begin, passing_here, passing_required, passing_next, passing_end}
use Rattle.table.proofs.chain.behind.Goals as goal
use Rattle.table.proofs.chain.behind.Goals.{else-row-ne0-via-then-row-ne0+else-tag-row as next, else-row-ne0-via-else-row-ne0 as required}

pub loop-i-init : goal.loop-i-init
loop-i-init c = search passing_begin

pub returns-then-tag-row : goal.returns-then-tag-row
returns-then-tag-row c = search (rules, passing_here)

pub loop-i-preserved : goal.loop-i-preserved
loop-i-preserved c = elim c.else-row-ne0.branch [ next w ↦ search (rules, passing_next, w) | required w ↦ search (rules, passing_required, w) ]

pub returns : goal.returns
returns c = search (rules, passing_end)
