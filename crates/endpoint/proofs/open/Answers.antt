-- 3 for too many bytes, then the endpoint.
use borrow.Author.Rules.{rules}
use Rattle.endpoint.proofs.Openings.{open_long, open_short}
use Rattle.endpoint.proofs.open.Goals as goal

pub returns-then-byte_count-gt65536 : goal.returns-then-byte_count-gt65536
returns-then-byte_count-gt65536 c = search (rules, open_long, open_short)

pub returns : goal.returns
returns c = search (rules, open_long, open_short)
