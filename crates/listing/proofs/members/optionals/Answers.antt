-- The tags in order, then their differences. Assumes nothing.
use Rattle.listing.proofs.Walking.{optional_few, optional_listed}
use Rattle.listing.proofs.members.optionals.Goals as goal

pub by_tags-requires-clause-tags_bound : goal.by_tags-requires-clause-tags_bound
by_tags-requires-clause-tags_bound c =
    optional_few c.args.old.now c.args.new.now c.args.t c.args.u c.args.n c.args.list.now c.order-s.new.tags c.order-s.result c.order-s.ensures.2 c.order-s.ensures.0 c.requires.u_bound

pub returns-clause-listed : goal.returns-clause-listed
returns-clause-listed c =
    optional_listed c.args.old.now c.args.new.now c.args.t c.args.u c.args.n c.args.list.now c.order-s.new.tags c.order-s.result c.order-s.ensures.2 c.order-s.ensures.0 _ _ c.by_tags.ensures
