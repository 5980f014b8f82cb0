-- The header's tests in turn; all are of one class, so the length may be tested before the mark. Assumes nothing.
use borrow.Author.Rules.{rules}
use Rattle.rules.proofs.Judging.{five_there, header_short, header_mark, header_none, header_types, header_members, header_names, header_spare, header_entries, header_length, header_fine}
use Rattle.rules.proofs.header.Goals as goal

pub returns-then-table-begin : goal.returns-then-table-begin
returns-then-table-begin c = search header_short

pub is_marked-requires : goal.is_marked-requires
is_marked-requires c = search (rules, five_there)

pub returns-then-not-is_marked : goal.returns-then-not-is_marked
returns-then-not-is_marked c = search header_mark

pub returns-then-t-eq0 : goal.returns-then-t-eq0
returns-then-t-eq0 c = search header_none

pub returns-then-t-gt256 : goal.returns-then-t-gt256
returns-then-t-gt256 c = search header_types

pub returns-then-m-gt1024 : goal.returns-then-m-gt1024
returns-then-m-gt1024 c = search header_members

pub returns-then-n-gt8192 : goal.returns-then-n-gt8192
returns-then-n-gt8192 c = search header_names

pub returns-then-byte_at-ne0 : goal.returns-then-byte_at-ne0
returns-then-byte_at-ne0 c = search header_spare

pub returns-then-e-gt1024 : goal.returns-then-e-gt1024
returns-then-e-gt1024 c = search header_entries

pub returns-then-table-member_at : goal.returns-then-table-member_at
returns-then-table-member_at c = search header_length

pub returns : goal.returns
returns c = search header_fine
