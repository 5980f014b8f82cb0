-- The greatest value by the first byte.
use borrow.Author.Rules.{rules}
use Rattle.text.proofs.Laws.{most_three, most_four, most_other}
use Rattle.text.proofs.second_most.Goals as goal

pub returns-then-a-eq237 : goal.returns-then-a-eq237
returns-then-a-eq237 c = search (rules, most_three, most_four, most_other)

pub returns-then-a-eq244 : goal.returns-then-a-eq244
returns-then-a-eq244 c = search (rules, most_three, most_four, most_other)

pub returns : goal.returns
returns c = search (rules, most_three, most_four, most_other)
