-- A difference only if they differ. Assumes nothing.
use Rattle.listing.proofs.Walking.{bases_same, bases_other}
use Rattle.listing.proofs.owners.bases.Goals as goal

pub returns-then-bases_differ : goal.returns-then-bases_differ
returns-then-bases_differ c = search bases_other

pub returns : goal.returns
returns c = search bases_same
