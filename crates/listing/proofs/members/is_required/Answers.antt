-- By its mark. Assumes nothing.
use Rattle.listing.proofs.Walking.{required_mark}
use Rattle.listing.proofs.members.is_required.Goals as goal

pub returns : goal.returns
returns c = search required_mark
