-- Records, then parameter lists. Assumes nothing.
use Rattle.std.proofs.Common.{rules}
use Rattle.encoding.proofs.RuleLaws.{types_most}
use Rattle.compare.proofs.Pairing.{rest_are, all_first, all_second, all_listed, all_small}
use Rattle.compare.proofs.pairs.all.Goals as goal

pub order-s-requires-clause-bound : goal.order-s-requires-clause-bound
order-s-requires-clause-bound c = (search types_most, search types_most, search rules)

pub records-i-requires-clause-ordered_value : goal.records-i-requires-clause-ordered_value
records-i-requires-clause-ordered_value c = rest_are c.order-s.new.slots _ c.order-s.result c.order-s.ensures.2 c.order-s.ensures.0

pub records-i-requires-clause-ordered_bound : goal.records-i-requires-clause-ordered_bound
records-i-requires-clause-ordered_bound c =
    all_first _ _ c.requires.value.0 c.requires.value.1 _ (rest_are c.order-s.new.slots _ c.order-s.result c.order-s.ensures.2 c.order-s.ensures.0)

pub lists-requires-clause-bound : goal.lists-requires-clause-bound
lists-requires-clause-bound c =
    all_second _ _ c.requires.value.0 c.requires.value.1 _ (rest_are c.order-s.new.slots _ c.order-s.result c.order-s.ensures.2 c.order-s.ensures.0) _ _ _ c.records-i.ensures.listed

pub returns-clause-listed : goal.returns-clause-listed
returns-clause-listed c =
    all_listed _ _ c.requires.value.0 c.requires.value.1 _ (rest_are c.order-s.new.slots _ c.order-s.result c.order-s.ensures.2 c.order-s.ensures.0) _ _ _ c.records-i.ensures.listed _ _ c.lists.ensures

pub returns-clause-upper_bound : goal.returns-clause-upper_bound
returns-clause-upper_bound c =
    all_small _ _ c.requires.value.0 c.requires.value.1 _ (rest_are c.order-s.new.slots _ c.order-s.result c.order-s.ensures.2 c.order-s.ensures.0) _ _ _ c.records-i.ensures.listed _ _ c.lists.ensures
