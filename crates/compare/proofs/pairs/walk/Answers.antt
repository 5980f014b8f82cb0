-- The loop's invariant: the differences from rows a and b on make the rest of the list. The measure is the parameter lists left. Assumes nothing.
use mathlib.Core.Path.{refl}
use Rattle.listing.specs.ListingLaws.{any_some, any_none}
use Rattle.compare.proofs.Pairing.{lists_falls, lists_step, lists_begin, lists_room, lists_end}
use borrow.Author.Rules.{rules}
use Rattle.compare.proofs.pairs.walk.Goals as goal

pub loop-a-init : goal.loop-a-init
loop-a-init c = (refl, search rules, search rules, search rules, search rules, search rules, search lists_begin)

pub pair-i-requires-clause-o_bound : goal.pair-i-requires-clause-o_bound
pair-i-requires-clause-o_bound c = (search rules, search rules, search rules, search rules, search rules)

pub pair-i-requires-clause-p_bound : goal.pair-i-requires-clause-p_bound
pair-i-requires-clause-p_bound c = search (lists_room, any_some)

pub loop-a-smaller : goal.loop-a-smaller
loop-a-smaller c = search (lists_falls, any_some)

pub loop-a-preserved : goal.loop-a-preserved
loop-a-preserved c = (search rules, search rules, search rules, search rules, search rules, search rules, search (lists_step, any_some))

pub returns-clause-listed : goal.returns-clause-listed
returns-clause-listed c = search (lists_end, any_none)
