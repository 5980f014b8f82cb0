-- By which of the two are there. Assumes nothing.
use Rattle.listing.proofs.Walking.{pair_new, pair_old, pair_few, pair_both}
use Rattle.listing.proofs.owners.pair.Goals as goal

pub owners-requires-clause-u_bound : goal.owners-requires-clause-u_bound
owners-requires-clause-u_bound c = search pair_few

pub returns-in-Some-p-clause-listed : goal.returns-in-Some-p-clause-listed
returns-in-Some-p-clause-listed c = search pair_both

pub returns-in-None-p-clause-listed : goal.returns-in-None-p-clause-listed
returns-in-None-p-clause-listed c = search pair_old

pub returns-in-None-clause-listed : goal.returns-in-None-clause-listed
returns-in-None-clause-listed c = search pair_new
