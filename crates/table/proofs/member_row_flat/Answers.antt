-- Each field is read at its place, where a byte past the end is 0.
use borrow.Author.Rules.{rules}
use Rattle.table.proofs.Places.{type_here, mark_here, member_spare_here, tag_here}
use Rattle.table.proofs.member_row_flat.Goals as goal

pub returns-then-table-member_at : goal.returns-then-table-member_at
returns-then-table-member_at c = search (rules, type_here, mark_here, member_spare_here, tag_here)
