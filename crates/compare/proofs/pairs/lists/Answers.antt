-- From the first parameter lists on. Assumes nothing.
use Rattle.compare.proofs.Pairing.{list_room, list_listed}
use Rattle.compare.proofs.pairs.lists.Goals as goal

pub walk-requires-clause-bound : goal.walk-requires-clause-bound
walk-requires-clause-bound c = search list_room

pub returns : goal.returns
returns c = search list_listed
