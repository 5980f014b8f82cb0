-- The loop's invariant: the differences of the items from the index on make the rest of the list. Assumes nothing.
use Rattle.std.proofs.Common.{◌≡◌, length, drop}
use Rattle.listing.specs.Listing.{Listing}
use Rattle.compare.proofs.Pairing.{by_items}
use Rattle.compare.proofs.pairs.records.Given as goal

abbrev pub invariant-loop-k : goal.invariant-loop-k
invariant-loop-k l =
    (length l.list ≡ length l.initial.list)
    × (length l.tags ≡ 2048)
    × Listing (by_items l.old l.new l.ordered) l.n l.initial.list (by_items l.old l.new (drop l.k-index l.ordered)) l.i l.list
