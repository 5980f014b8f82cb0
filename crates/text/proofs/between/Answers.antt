-- A byte that is there is compared with its bounds.
use borrow.Author.Rules.{rules}
use Rattle.text.proofs.Laws.{between_past, between_low, between_is}
use Rattle.text.proofs.between.Goals as goal

pub returns-then-least-b : goal.returns-then-least-b
returns-then-least-b c = search (rules, between_is, between_low, between_past)

pub returns-else-least-b : goal.returns-else-least-b
returns-else-least-b c = search (rules, between_is, between_low, between_past)

pub returns-else-i-s : goal.returns-else-i-s
returns-else-i-s c = search (rules, between_is, between_low, between_past)
