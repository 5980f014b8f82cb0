-- The rows left decide the answer. Assumes nothing.
use Rattle.rules.proofs.Judging.{tags_begin, tags_here, tags_next, tags_end}
use Rattle.rules.proofs.is_tag_before.Goals as goal

pub loop-i-init : goal.loop-i-init
loop-i-init c = search tags_begin

pub returns-then-is_optional_of : goal.returns-then-is_optional_of
returns-then-is_optional_of c = search tags_here

pub loop-i-preserved : goal.loop-i-preserved
loop-i-preserved c = search tags_next

pub returns : goal.returns
returns c = search tags_end
