-- The judgements in their order. Assumes nothing.
use borrow.Author.Rules.{rules}
use Rattle.heads.proofs.Headings.{flags_unused, flags_mixed, flags_id, flags_table, flags_form, flags_fine}
use Rattle.heads.proofs.flag_form.Goals as goal

pub returns-then-has_unused : goal.returns-then-has_unused
returns-then-has_unused c = search (rules, flags_unused, flags_mixed, flags_id, flags_table, flags_form, flags_fine)

pub returns-then-mixed : goal.returns-then-mixed
returns-then-mixed c = search (rules, flags_unused, flags_mixed, flags_id, flags_table, flags_form, flags_fine)

pub returns-then-due-id : goal.returns-then-due-id
returns-then-due-id c = search (rules, flags_unused, flags_mixed, flags_id, flags_table, flags_form, flags_fine)

pub returns-then-has_table : goal.returns-then-has_table
returns-then-has_table c = search (rules, flags_unused, flags_mixed, flags_id, flags_table, flags_form, flags_fine)

pub returns-then-id-gt1 : goal.returns-then-id-gt1
returns-then-id-gt1 c = search (rules, flags_unused, flags_mixed, flags_id, flags_table, flags_form, flags_fine)

pub returns : goal.returns
returns c = search (rules, flags_unused, flags_mixed, flags_id, flags_table, flags_form, flags_fine)
