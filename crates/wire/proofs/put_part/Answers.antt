-- As much of the part as is there is put; where it begins past the end it is empty, and nothing is put.
use borrow.Author.Rules.{rules}
use Rattle.wire.proofs.Writes.{part_put, part_none}
use Rattle.wire.proofs.put_part.Goals as goal

pub returns-else-a-from : goal.returns-else-a-from
returns-else-a-from c = search (rules, part_put, part_none)
