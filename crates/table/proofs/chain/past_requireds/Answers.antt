-- Rows are passed four at a time.
use borrow.Author.Rules.{rules}
use Rattle.table.proofs.Chains.{searching_four}
use Rattle.table.proofs.chain.past_requireds.Goals as goal

pub loop-k-preserved : goal.loop-k-preserved
loop-k-preserved c = search (rules, searching_four)
