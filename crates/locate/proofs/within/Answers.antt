-- 22 where the bytes lent are too few; a refusal stays.
use Rattle.locate.proofs.Locating.{near_few, near_given, near_refused}
use Rattle.locate.proofs.within.Goals as goal

pub returns-in-Refused : goal.returns-in-Refused
returns-in-Refused c = search near_refused

pub returns-then-room-lt12 : goal.returns-then-room-lt12
returns-then-room-lt12 c = search near_few

pub returns-else-room-lt12 : goal.returns-else-room-lt12
returns-else-room-lt12 c = search near_given
