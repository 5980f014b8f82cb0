-- By the table's lists. Assumes nothing.
use mathlib.Core.Path.{sym, ◌∙◌}
use Rattle.rules.proofs.Judging.{lists_without}
use Rattle.rules.proofs.allowed_pass.Goals as goal

pub allowed_rows-requires-clause-table_value : goal.allowed_rows-requires-clause-table_value
allowed_rows-requires-clause-table_value c = sym c.with_lists.ensures ∙ c.if-with_lists.true

pub returns : goal.returns
returns c = search lists_without
