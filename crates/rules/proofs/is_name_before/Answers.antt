-- The rows left to look at decide the answer. Assumes nothing.
use Rattle.rules.proofs.Judging.{before_begin, before_plain, before_short, before_other, before_here, before_end}
use Rattle.rules.proofs.is_name_before.Goals as goal
use Rattle.rules.proofs.is_name_before.Goals.{then-is_record+then-name-row+else-is_named, then-is_record+else-name-row, else-is_record}

pub loop-r-init : goal.loop-r-init
loop-r-init c = search before_begin

pub returns-then-is_named : goal.returns-then-is_named
returns-then-is_named c = search before_here

pub loop-r-preserved : goal.loop-r-preserved
loop-r-preserved c = elim c.if-is_record.branch [ then-is_record+then-name-row+else-is_named w ↦ search before_other | then-is_record+else-name-row w ↦ search before_short | else-is_record w ↦ search before_plain ]

pub returns : goal.returns
returns c = search before_end
