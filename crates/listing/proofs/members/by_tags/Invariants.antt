-- The loop's invariant: the differences of the tags from the index on make the rest of the list. Assumes nothing.
use Rattle.std.proofs.Common.{◌≡◌, length, drop}
use Rattle.listing.specs.Listing.{Listing}
use Rattle.listing.proofs.Walking.{by_tags}
use Rattle.listing.proofs.members.by_tags.Given as goal

abbrev pub invariant-loop-g : goal.invariant-loop-g
invariant-loop-g l =
    (length l.list ≡ length l.initial.list)
    × Listing (by_tags l.old l.new l.t l.u l.n l.initial.list l.tags) l.n l.initial.list (by_tags l.old l.new l.t l.u l.n l.initial.list (drop l.g-index l.tags)) l.i l.list
