-- By the record's field c, where it is no row above.
use borrow.Author.Rules.{rules}
use Rattle.table.proofs.Chains.{base_is, base_above, base_none}
use Rattle.table.proofs.chain.base_of.Goals as goal
use Rattle.table.proofs.chain.base_of.Goals.{else-is_record-via-then-is_record+else-row-t as above, else-is_record-via-else-is_record as none}

pub returns-then-row-t : goal.returns-then-row-t
returns-then-row-t c = search (rules, base_is)

pub returns : goal.returns
returns c = elim c.else-is_record.branch [ above w ↦ search (rules, base_above, w) | none w ↦ search (rules, base_none, w) ]
