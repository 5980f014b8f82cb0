-- Each kind has its function. Assumes nothing.
use Rattle.onepass.proofs.Passing.{alone_passed, owner_passed}
use Rattle.onepass.proofs.row_shape.Goals as goal

pub returns-then-row-lt13 : goal.returns-then-row-lt13
returns-then-row-lt13 c = alone_passed _ _ _ _ _ _ c.alone_row.ensures

pub returns : goal.returns
returns c = owner_passed _ _ _ _ _ c.requires.t_bound c.requires.type_row _ c.owner_rules.ensures.value c.owner_rules.ensures.le_kind c.if-not-owner_rules.false _ c.members.ensures c.if-not-members.false
