-- The loop's invariant: the differences from rows a and b on make the rest of the list. The measure is the members left. Assumes nothing.
use Rattle.std.proofs.Common.{refl, rules, arith}
use Rattle.listing.specs.ListingLaws.{any_some, any_none}
use Rattle.listing.proofs.Walking.{walk_falls, walk_begin, walk_below, walk_step, walk_end}
use Rattle.listing.proofs.members.walk.Goals as goal

pub loop-a-init : goal.loop-a-init
loop-a-init c = (refl, omega arith, omega arith, search walk_begin)

pub member-i-requires-clause-t_bound : goal.member-i-requires-clause-t_bound
member-i-requires-clause-t_bound c = (search rules, search rules, search walk_below)

pub loop-a-smaller : goal.loop-a-smaller
loop-a-smaller c = search (walk_falls, any_some)

pub loop-a-preserved : goal.loop-a-preserved
loop-a-preserved c = (search rules, search rules, search rules, search (walk_step, any_some))

pub returns : goal.returns
returns c = search (walk_end, any_none)
