-- A record, its line, then optionals.
use mathlib.Core.Path.{sym, ◌∙◌}
use Rattle.old.proofs.Laws.{inherits_other, inherits_plain}
use Rattle.old.proofs.inherits.Goals as goal
use Rattle.old.proofs.inherits.Goals.{then-is_record, else-is_record}

pub returns-else-in_chain : goal.returns-else-in_chain
returns-else-in_chain c =
    c.if-in_chain.false
    ∙ elim c.if-is_record.branch [
      | then-is_record w ↦ inherits_other _ _ _ _ w.in_chain.ensures (sym w.value-is ∙ c.if-in_chain.false)
      | else-is_record w ↦ inherits_plain _ _ _ _ c.kind.ensures.0 _ c.is_record.ensures c.requires.top_lt_t w.if-is_record.false
    ]
