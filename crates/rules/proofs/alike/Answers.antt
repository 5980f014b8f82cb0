-- The part whose name is looked for is the row's name. Assumes nothing.
use Rattle.rules.proofs.Judging.{alike_is, alike_none}
use Rattle.rules.proofs.alike.Goals as goal

pub returns-then-t-from : goal.returns-then-t-from
returns-then-t-from c = search alike_none

pub returns : goal.returns
returns c = search alike_is
