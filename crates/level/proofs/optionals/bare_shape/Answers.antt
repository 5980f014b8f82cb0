-- A shape for each of the four type bits, and none for others.
use borrow.Author.Rules.{rules}
use Rattle.level.specs.Answers.{bare_shape}
use Rattle.level.proofs.Plain.{shape_at, shape_past}
use Rattle.level.proofs.optionals.bare_shape.Goals as goal

pub returns-in-0 : goal.returns-in-0
unfolding bare_shape
returns-in-0 c = search (rules, shape_at 0, shape_at 1, shape_at 2, shape_at 3, shape_past)

pub returns-in-1 : goal.returns-in-1
unfolding bare_shape
returns-in-1 c = search (rules, shape_at 0, shape_at 1, shape_at 2, shape_at 3, shape_past)

pub returns-in-2 : goal.returns-in-2
unfolding bare_shape
returns-in-2 c = search (rules, shape_at 0, shape_at 1, shape_at 2, shape_at 3, shape_past)

pub returns-in-3 : goal.returns-in-3
unfolding bare_shape
returns-in-3 c = search (rules, shape_at 0, shape_at 1, shape_at 2, shape_at 3, shape_past)

pub returns-in_default : goal.returns-in_default
unfolding bare_shape
returns-in_default c = search (rules, shape_at 0, shape_at 1, shape_at 2, shape_at 3, shape_past)
