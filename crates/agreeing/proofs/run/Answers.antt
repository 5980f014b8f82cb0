-- The loop's invariant: the members agree exactly if those left do. Assumes nothing.
use Rattle.agreeing.proofs.Cells.{structs_begin, structs_end, structs_not, structs_next}
use Rattle.agreeing.proofs.run.Goals as goal

pub loop-i-init : goal.loop-i-init
loop-i-init c = search structs_begin

pub types-requires-clause-alike : goal.types-requires-clause-alike
types-requires-clause-alike c = c.requires.alike

pub returns-then-not-types : goal.returns-then-not-types
returns-then-not-types c = search structs_not

pub loop-i-preserved : goal.loop-i-preserved
loop-i-preserved c = search structs_next

pub returns : goal.returns
returns c = search structs_end
