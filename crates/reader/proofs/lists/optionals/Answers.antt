-- The second loop begins where the first one ended. Assumes nothing.
use Rattle.reader.proofs.Listing.{listing_again, listing_ends}
use Rattle.reader.proofs.lists.optionals.Goals as goal

pub others-requires-clause-listing : goal.others-requires-clause-listing
others-requires-clause-listing c = listing_again c.quick-r.ensures.listing_2

pub returns-clause-ends : goal.returns-clause-ends
returns-clause-ends c = search listing_ends
