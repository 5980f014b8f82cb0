-- 22 where the bytes lent are too few; a refusal stays.
use Rattle.endpoint.proofs.Openings.{within_few, within_given, within_refused}
use Rattle.endpoint.proofs.within.Goals as goal

pub returns-in-Refused : goal.returns-in-Refused
returns-in-Refused c = search within_refused

pub returns-then-room-lt28 : goal.returns-then-room-lt28
returns-then-room-lt28 c = search within_few

pub returns-else-room-lt28 : goal.returns-else-room-lt28
returns-else-room-lt28 c = search within_given
