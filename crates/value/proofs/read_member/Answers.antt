-- By the shape of the row: any bytes, a string, a bool, an enum without a list; else what is read quickly, or another value. Assumes nothing.
use borrow.Author.Rules.{rules}
use Rattle.value.proofs.CycleLaws.{row_wide, row_text, row_bool, row_enum, row_again}
use Rattle.value.proofs.QuickLaws.{quick_took}
use Rattle.value.proofs.read_member.Goals as goal

pub returns-then-w-s : goal.returns-then-w-s
returns-then-w-s c = search (rules, row_wide, row_text, row_bool, row_enum, quick_took, row_again)

pub returns-then-is_text : goal.returns-then-is_text
returns-then-is_text c = search (rules, row_wide, row_text, row_bool, row_enum, quick_took, row_again)

pub returns-then-is_bool : goal.returns-then-is_bool
returns-then-is_bool c = search (rules, row_wide, row_text, row_bool, row_enum, quick_took, row_again)

pub returns-then-not-with_lists : goal.returns-then-not-with_lists
returns-then-not-with_lists c = search (rules, row_wide, row_text, row_bool, row_enum, quick_took, row_again)

pub returns : goal.returns
returns c = search (rules, row_wide, row_text, row_bool, row_enum, quick_took, row_again)
