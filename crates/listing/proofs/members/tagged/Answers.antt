-- The members with the tag. Assumes nothing.
use Rattle.listing.proofs.Walking.{tag_listed}
use Rattle.listing.proofs.members.tagged.Goals as goal

pub returns : goal.returns
returns c = search tag_listed
