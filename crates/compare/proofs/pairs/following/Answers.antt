-- The rows that are parameter lists. Assumes nothing.
use Rattle.std.proofs.Common.{rules, ◌≡◌, arith}
use Rattle.ordering.specs.Ordering.{row_number}
use Rattle.listing.specs.Listing.{is_list, follow_of}
use Rattle.compare.proofs.Pairing.{follow_few}
use Rattle.compare.proofs.pairs.following.Goals as goal

pub returns : goal.returns
returns c =
    let e : row_number c.following.result ≡ follow_of (is_list c.args.table.now) (row_number c.args.a) c.args.end =
    c.following.ensures.row (is_list c.args.table.now) (λ i r l p. search rules) in
    (e, omega arith, search (follow_few, e))
