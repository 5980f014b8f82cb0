-- A simple optional is what `next` gives. Assumes nothing.
use Rattle.slices.proofs.Steps.{next_simple}
use Rattle.slices.proofs.walks.quick_next.Goals as goal

pub returns-then-p-ne0 : goal.returns-then-p-ne0
returns-then-p-ne0 c = search next_simple
