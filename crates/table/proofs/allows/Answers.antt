-- Up to the greatest enumerator, or by a search in the row's list.
use Rattle.table.proofs.Searches.{allows_plain, allows_all, allows_listed}
use Rattle.table.proofs.allows.Goals as goal
use Rattle.table.proofs.allows.Goals.{else-with_lists, then-with_lists+else-row-g}

pub returns-then-row-g : goal.returns-then-row-g
returns-then-row-g c = search allows_listed

pub returns : goal.returns
returns c = elim c.if-with_lists.branch [ then-with_lists+else-row-g w ↦ search allows_all | else-with_lists w ↦ search allows_plain ]
