-- By the shape of the row: any bytes, a string, a bool, an enum without a list, else what the quick readers take; 0 says nothing. Assumes nothing.
use borrow.Author.Rules.{rules}
use Rattle.value.proofs.CycleLaws.{row_wide}
use Rattle.value.proofs.QuickLaws.{quick_took, text_taken, bool_taken, enum_taken}
use Rattle.value.proofs.quick_member.Goals as goal

pub returns-then-w-s : goal.returns-then-w-s
returns-then-w-s c = search (rules, row_wide, text_taken, bool_taken, enum_taken, quick_took)

pub returns-then-is_text : goal.returns-then-is_text
returns-then-is_text c = search (rules, row_wide, text_taken, bool_taken, enum_taken, quick_took)

pub returns-then-is_bool : goal.returns-then-is_bool
returns-then-is_bool c = search (rules, row_wide, text_taken, bool_taken, enum_taken, quick_took)

pub returns-then-not-with_lists : goal.returns-then-not-with_lists
returns-then-not-with_lists c = search (rules, row_wide, text_taken, bool_taken, enum_taken, quick_took)
