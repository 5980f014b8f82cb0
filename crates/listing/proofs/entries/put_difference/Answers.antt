-- Where there is room, it is put. Assumes nothing.
use Rattle.listing.proofs.Entering.{put_as, put_past}
use Rattle.listing.proofs.entries.put_difference.Goals as goal

pub returns-then-n-list : goal.returns-then-n-list
returns-then-n-list c = search put_as

pub returns : goal.returns
returns c = search put_past
