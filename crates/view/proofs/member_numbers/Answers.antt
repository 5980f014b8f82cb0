-- The view's answer with the lent bytes, and its numbers put. Assumes nothing.
use Rattle.view.proofs.Numbering.{view_told, view_put}
use Rattle.view.proofs.member_numbers.Goals as goal

pub returns-clause-value : goal.returns-clause-value
returns-clause-value c = search view_told

pub returns-clause-numbers_after : goal.returns-clause-numbers_after
returns-clause-numbers_after c = search view_put
