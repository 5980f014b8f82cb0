-- A member's type is its row's tree; row 256 has none.
use borrow.Author.Rules.{rules}
use Rattle.table.proofs.Places.{member_row, no_member}
use Rattle.table.proofs.type_of_member.Goals as goal

pub returns-then-m-members : goal.returns-then-m-members
returns-then-m-members c = search (rules, member_row, no_member)

pub returns : goal.returns
returns c = search (rules, member_row, no_member)
