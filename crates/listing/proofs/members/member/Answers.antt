-- A difference only if they disagree. Assumes nothing.
use Rattle.listing.proofs.Walking.{member_same, member_differs}
use Rattle.listing.proofs.members.member.Goals as goal

pub returns-then-agree : goal.returns-then-agree
returns-then-agree c = search member_same

pub returns : goal.returns
returns c = search member_differs
