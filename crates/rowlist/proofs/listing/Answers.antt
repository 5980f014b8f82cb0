-- The reader gets as much of the list as there is room for, at most 1,024 rows; the rows are read back from their bytes. Assumes nothing.
use Rattle.rowlist.proofs.Filling.{part_length, listing_answer, listing_few, listing_rows}
use Rattle.rowlist.proofs.listing.Goals as goal

pub slice_bounds-read-end-2 : goal.slice_bounds-read-end-2
slice_bounds-read-end-2 c = search part_length

pub returns : goal.returns
returns c = (search listing_answer, (search listing_few, search listing_rows))
