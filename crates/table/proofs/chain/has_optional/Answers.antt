-- The rows from the one looked at decide the answer.
use borrow.Author.Rules.{rules}
use Rattle.table.proofs.Chains.{searching_here, searching_next, searching_end}
use Rattle.table.proofs.chain.has_optional.Goals as goal

pub returns-then-mark_from-ne0 : goal.returns-then-mark_from-ne0
returns-then-mark_from-ne0 c = search (rules, searching_here)

pub loop-i-preserved : goal.loop-i-preserved
loop-i-preserved c = search (rules, searching_next)

pub returns : goal.returns
returns c = search (rules, searching_end)
