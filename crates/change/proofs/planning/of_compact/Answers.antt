-- 50, else 51. Assumes nothing.
use Rattle.change.proofs.Plans.{compact_set, compact_listed, compact_none}
use Rattle.change.proofs.planning.of_compact.Goals as goal

pub returns-then-setting : goal.returns-then-setting
returns-then-setting c = search compact_set

pub returns-then-is_listed : goal.returns-then-is_listed
returns-then-is_listed c = search compact_listed

pub returns : goal.returns
returns c = search compact_none
