-- By the first four bytes of the row, then by the eight after them. Assumes nothing.
use Rattle.rules.proofs.Judging.{basic_rest, basic_other}
use Rattle.rules.proofs.is_basic.Goals as goal

pub returns-then-int_at-lt8 : goal.returns-then-int_at-lt8
returns-then-int_at-lt8 c = search basic_rest

pub returns : goal.returns
returns c = search basic_other
