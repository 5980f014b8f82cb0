-- A record has the rules of `record_row`, a list its own; no other kind passes. Assumes nothing.
use Rattle.onepass.proofs.Passing.{record_rules_lem, list_rules}
use Rattle.onepass.proofs.owner_rules.Goals as goal

pub returns-then-is_record-clause-value : goal.returns-then-is_record-clause-value
returns-then-is_record-clause-value c = λ h. search (record_rules_lem, c.is_ok.ensures.value)

pub returns-clause-value : goal.returns-clause-value
returns-clause-value c = λ h. search list_rules
