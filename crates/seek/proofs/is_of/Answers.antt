-- By the two ends of the row's members.
use borrow.Author.Rules.{rules}
use Rattle.table.proofs.Chains.{takes_before, takes_is}
use Rattle.seek.proofs.is_of.Goals as goal

pub returns-then-row-m : goal.returns-then-row-m
returns-then-row-m c = search (rules, takes_is)

pub returns-else-row-m : goal.returns-else-row-m
returns-else-row-m c = search (rules, takes_before)
