-- The row looked at has the same first required row as row m.
use borrow.Author.Rules.{rules}
use Rattle.table.proofs.Chains.{skipping_here, skipping_next, skipping_end}
use Rattle.table.proofs.chain.required_from.Goals as goal

pub returns-then-mark_from-eq0 : goal.returns-then-mark_from-eq0
returns-then-mark_from-eq0 c = (search (rules, skipping_here), search rules)

pub loop-i-preserved : goal.loop-i-preserved
loop-i-preserved c = search (rules, skipping_next)

pub returns : goal.returns
returns c = (search (rules, skipping_end), search rules)
