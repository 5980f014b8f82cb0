-- The loop's invariant: the chain from the row at hand decides the answer. The measure is the row number, since a base is smaller.
use Rattle.seek.proofs.Seeking.{owner_required, owner_here, owner_end, owner_next}
use Rattle.seek.proofs.owner.Goals as goal

pub returns-then-member-eq0 : goal.returns-then-member-eq0
returns-then-member-eq0 c = search owner_required

pub returns-then-is_of : goal.returns-then-is_of
returns-then-is_of c = search owner_here

pub returns-then-b-eq0 : goal.returns-then-b-eq0
returns-then-b-eq0 c = search owner_end

pub loop-begin-preserved : goal.loop-begin-preserved
loop-begin-preserved c = search owner_next
