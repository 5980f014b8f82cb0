-- The loop's invariant: the differences of the items from the index on make the rest of the list. Assumes nothing.
use Rattle.std.proofs.Common.{refl, rules}
use Rattle.encoding.proofs.RuleLaws.{types_most}
use Rattle.compare.proofs.Pairing.{slot_old, slot_inside, slot_new, slot_small, slots_begin, slots_room, slots_step, slots_end}
use Rattle.compare.proofs.pairs.records.Goals as goal

pub loop-k-init : goal.loop-k-init
loop-k-init c = (refl, search rules, search slots_begin)

pub item-i-requires-clause-k_bound : goal.item-i-requires-clause-k_bound
item-i-requires-clause-k_bound c = (search slot_small, search rules, search types_most)

pub item-i-requires-clause-few_members : goal.item-i-requires-clause-few_members
item-i-requires-clause-few_members c = (search slot_old, search slot_new)

pub item-i-requires-clause-k_bound_2 : goal.item-i-requires-clause-k_bound_2
item-i-requires-clause-k_bound_2 c = (search slot_inside, search slots_room)

pub loop-k-preserved : goal.loop-k-preserved
loop-k-preserved c = (search rules, search rules, search slots_step)

pub returns-clause-listed : goal.returns-clause-listed
returns-clause-listed c = search slots_end
