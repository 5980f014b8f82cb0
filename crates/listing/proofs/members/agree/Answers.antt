-- By which of the two are there. Assumes nothing.
use Rattle.listing.proofs.Walking.{agree_none, agree_one, agree_both}
use Rattle.listing.proofs.members.agree.Goals as goal

pub returns-in-Some-k : goal.returns-in-Some-k
returns-in-Some-k c = search agree_both

pub returns-in-None-k : goal.returns-in-None-k
returns-in-None-k c = search agree_one

pub returns-in-None : goal.returns-in-None
returns-in-None c = search agree_none
