-- From its first member row on. Assumes nothing.
use Rattle.std.proofs.Common.{rules, arith}
use Rattle.listing.specs.Listing.{is_required}
use Rattle.listing.proofs.Walking.{next_first}
use Rattle.listing.proofs.members.first_required.Goals as goal

pub returns : goal.returns
returns c = (
  next_first c.args.table.now c.args.t c.args.end _ _ c.field_a-m.ensures.0 (c.first.ensures.row (is_required c.args.table.now) (λ i r l p. search rules)),
  omega arith,
)
