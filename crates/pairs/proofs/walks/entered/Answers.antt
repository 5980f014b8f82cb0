-- By what the ID means and by the declared length. Assumes nothing.
use borrow.Author.Rules.{rules}
use Rattle.slices.proofs.Steps.{declared_fits, size_fits}
use Rattle.pairs.proofs.Steps.{enter_skip, enter_data, enter_unread}
use Rattle.pairs.proofs.walks.entered.Goals as goal

pub later-requires : goal.later-requires
later-requires c = search (rules, declared_fits)

pub returns-in_err-end : goal.returns-in_err-end
returns-in_err-end c = search (rules, enter_unread, c.in_err-end.was)

pub returns-in-None : goal.returns-in-None
returns-in-None c = search (enter_skip, c.in_ok-end.was)

pub overflow_add-result : goal.overflow_add-result
overflow_add-result c = search (rules, size_fits, c.in_ok-end.was)

pub returns-in-Some : goal.returns-in-Some
returns-in-Some c = search (enter_data, c.in_ok-end.was)
