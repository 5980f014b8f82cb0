-- Rows are passed four at a time.
use borrow.Author.Rules.{rules}
use Rattle.table.proofs.Chains.{skipping_four}
use Rattle.table.proofs.chain.past_fours.Goals as goal

pub loop-k-preserved : goal.loop-k-preserved
loop-k-preserved c = search (rules, skipping_four)
