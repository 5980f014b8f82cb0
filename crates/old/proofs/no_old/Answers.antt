-- Up the line, then down.
use mathlib.Core.Path.{◌∙◌}
use borrow.Author.Tests.{le-ltb}
use Rattle.old.proofs.Laws.{line_above, line_past, line_below}
use Rattle.old.proofs.no_old.Goals as goal

pub returns-then-above : goal.returns-then-above
returns-then-above c = c.if-above.true ∙ line_above _ _ _ c.types-n.ensures.0 _ c.above.ensures c.if-above.true

pub returns-then-top-n : goal.returns-then-top-n
returns-then-top-n c = search line_below

pub returns-else-top-n : goal.returns-else-top-n
returns-else-top-n c = le-ltb _ _ c.if-top-n.false ∙ line_past _ _ _ c.types-n.ensures.0 _ c.above.ensures c.if-above.false c.if-top-n.false
