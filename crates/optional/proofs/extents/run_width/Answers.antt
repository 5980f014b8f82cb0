-- The width at each number, and past the last.
use borrow.Author.Rules.{rules}
use Rattle.optional.proofs.Declared.{width_at, width_past}
use Rattle.optional.specs.Forms.{run_width}
use Rattle.optional.proofs.extents.run_width.Goals as goal

pub returns-in-0 : goal.returns-in-0
unfolding run_width
returns-in-0 c = search (rules, width_at 0, width_at 1, width_at 2, width_past)

pub returns-in-1 : goal.returns-in-1
unfolding run_width
returns-in-1 c = search (rules, width_at 0, width_at 1, width_at 2, width_past)

pub returns-in-2 : goal.returns-in-2
unfolding run_width
returns-in-2 c = search (rules, width_at 0, width_at 1, width_at 2, width_past)

pub returns-in_default : goal.returns-in_default
unfolding run_width
returns-in_default c = search (rules, width_at 0, width_at 1, width_at 2, width_past)
