-- The loop's invariant: the differences from rows a and b on make the rest of the list. The measure is the members left. Assumes nothing.
use Rattle.std.proofs.Common.{◌+◌, ◌≤◌, ◌≡◌, length}
use Rattle.ordering.specs.Ordering.{row_number}
use Rattle.listing.specs.Listing.{Listing, is_required, left_of}
use Rattle.listing.proofs.Walking.{rows_from}
use Rattle.listing.proofs.members.walk.Given as goal

abbrev pub invariant-loop-a : goal.invariant-loop-a
invariant-loop-a l =
    (length l.list ≡ length l.initial.list)
    × (row_number l.a ≤ 131072)
    × (row_number l.b ≤ 131072)
    × Listing (rows_from l.old l.new l.t l.u l.end l.stop (row_number l.fn.m) (row_number l.fn.k)) l.n l.initial.list (rows_from l.old l.new l.t l.u l.end l.stop (row_number l.a) (row_number l.b)) l.i l.list

abbrev pub decreases-loop-a : goal.decreases-loop-a
decreases-loop-a l = length (left_of (is_required l.old) (row_number l.a) l.end) + length (left_of (is_required l.new) (row_number l.b) l.stop)
