-- The loop's invariant: the differences of the tags from the index on make the rest of the list. Assumes nothing.
use Rattle.std.proofs.Common.{refl, rules}
use Rattle.listing.proofs.Walking.{tags_begin, tags_below, tags_step, tags_end}
use Rattle.listing.proofs.members.by_tags.Goals as goal

pub loop-g-init : goal.loop-g-init
loop-g-init c = (refl, search tags_begin)

pub tagged-i-requires-clause-t_bound : goal.tagged-i-requires-clause-t_bound
tagged-i-requires-clause-t_bound c = (search rules, search rules, search tags_below)

pub loop-g-preserved : goal.loop-g-preserved
loop-g-preserved c = (search rules, search tags_step)

pub returns : goal.returns
returns c = search tags_end
