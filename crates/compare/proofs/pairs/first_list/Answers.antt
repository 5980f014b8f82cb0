-- From row 0 on. Assumes nothing.
use Rattle.std.proofs.Common.{rules, ◌≡◌, arith}
use Rattle.ordering.specs.Ordering.{row_number}
use Rattle.listing.specs.Listing.{is_list, next_of}
use Rattle.listing.specs.ListingLaws.{next_found}
use Rattle.compare.proofs.Pairing.{first_few}
use Rattle.compare.proofs.pairs.first_list.Goals as goal

pub returns : goal.returns
returns c =
    let e : row_number c.first.result ≡ next_of (is_list c.args.table.now) 0 c.args.end =
    next_found (is_list c.args.table.now) 0 c.args.end _ (c.first.ensures.row (is_list c.args.table.now) (λ i r l p. search rules)) in
    (e, omega arith, first_few c.args.table.now c.requires.3 c.args.end c.requires.1 _ e)
