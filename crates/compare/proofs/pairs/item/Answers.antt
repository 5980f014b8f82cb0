-- By the table of the item. Assumes nothing.
use Rattle.std.proofs.Common.{rules, arith}
use Rattle.compare.proofs.Pairing.{few_none, item_old, item_new, item_room, item_listed, alone_few, alone_room, alone_listed}
use Rattle.compare.proofs.pairs.item.Goals as goal

pub pair-requires-clause-o_bound : goal.pair-requires-clause-o_bound
pair-requires-clause-o_bound c = (omega arith, omega arith, search rules, search item_old, search item_new)

pub pair-requires-clause-p_bound : goal.pair-requires-clause-p_bound
pair-requires-clause-p_bound c = search item_room

pub returns-then-k-c-clause-listed : goal.returns-then-k-c-clause-listed
returns-then-k-c-clause-listed c = search item_listed

pub pair-requires-2-clause-o_bound : goal.pair-requires-2-clause-o_bound
pair-requires-2-clause-o_bound c = (omega arith, omega arith, search rules, few_none c.args.old.now, search alone_few)

pub pair-requires-2-clause-p_bound : goal.pair-requires-2-clause-p_bound
pair-requires-2-clause-p_bound c = search alone_room

pub returns-clause-listed : goal.returns-clause-listed
returns-clause-listed c = search alone_listed
