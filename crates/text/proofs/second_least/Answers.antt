-- The least value by the first byte.
use borrow.Author.Rules.{rules}
use Rattle.text.proofs.Laws.{least_three, least_four, least_other}
use Rattle.text.proofs.second_least.Goals as goal

pub returns-then-a-eq224 : goal.returns-then-a-eq224
returns-then-a-eq224 c = search (rules, least_three, least_four, least_other)

pub returns-then-a-eq240 : goal.returns-then-a-eq240
returns-then-a-eq240 c = search (rules, least_three, least_four, least_other)

pub returns : goal.returns
returns c = search (rules, least_three, least_four, least_other)
