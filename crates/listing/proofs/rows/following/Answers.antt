-- No row has none after it. Assumes nothing.
use Rattle.listing.proofs.Walking.{follow_none, follow_next}
use Rattle.listing.proofs.rows.following.Goals as goal

pub returns-in-None-clause-row : goal.returns-in-None-clause-row
returns-in-None-clause-row g c = λ f h. follow_none f c.args.a c.args.end c.in-None.is

pub returns-in-Some-clause-row : goal.returns-in-Some-clause-row
returns-in-Some-clause-row g c = λ f h. follow_next f c.args.a c.args.end c.in-Some.r c.in-Some.is _ (c.first.ensures.row f h)
