-- The tests in turn.
use mathlib.Core.Path.{sym, ◌∙◌}
use borrow.Author.Tests.{leb-false}
use Rattle.table.proofs.Labels.{record_short, record_none}
use Rattle.table.proofs.naming.is_record_named.Goals as goal
use Rattle.table.proofs.naming.is_record_named.Goals.{then-is_record, else-is_record}

pub returns-else-name-field : goal.returns-else-name-field
returns-else-name-field c =
    c.if-name-field.false
    ∙ elim c.if-is_record.branch [
      | then-is_record w ↦ record_short _ _ _ _ c.kind.ensures.0 _ c.is_record.ensures w.if-is_record.true _ w.field.ensures.0 (leb-false _ _ (sym w.value-is ∙ c.if-name-field.false))
      | else-is_record w ↦ record_none _ _ _ _ c.kind.ensures.0 _ c.is_record.ensures w.if-is_record.false
    ]
