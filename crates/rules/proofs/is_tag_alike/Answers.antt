-- By the bound, then by the tags before. Assumes nothing.
use Rattle.rules.proofs.Judging.{alike_above, alike_below}
use Rattle.rules.proofs.is_tag_alike.Goals as goal

pub returns-then-above-tag : goal.returns-then-above-tag
returns-then-above-tag c = search alike_above

pub returns : goal.returns
returns c = search alike_below
