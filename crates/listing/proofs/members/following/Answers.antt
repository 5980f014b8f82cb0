-- The rows that are required. Assumes nothing.
use Rattle.std.proofs.Common.{rules, arith}
use Rattle.listing.specs.Listing.{is_required}
use Rattle.listing.proofs.members.following.Goals as goal

pub returns : goal.returns
returns c = (c.following.ensures.row (is_required c.args.table.now) (λ i r l p. search rules), omega arith)
