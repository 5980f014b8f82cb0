-- The loop's invariant: the differences from rows a and b on make the rest of the list. The measure is the parameter lists left. Assumes nothing.
use Rattle.std.proofs.Common.{◌+◌, ◌≤◌, ◌≡◌, length}
use Rattle.encoding.specs.Table.{types}
use Rattle.ordering.specs.Ordering.{row_number}
use Rattle.listing.specs.Listing.{Listing, is_list, left_of, FewMembers}
use Rattle.compare.proofs.Pairing.{lists_from}
use Rattle.compare.proofs.pairs.walk.Given as goal

abbrev pub invariant-loop-a : goal.invariant-loop-a
invariant-loop-a l =
    (length l.list ≡ length l.initial.list)
    × (length l.tags ≡ 2048)
    × (row_number l.a ≤ 65536)
    × (row_number l.b ≤ 65536)
    × FewMembers l.old (row_number l.a)
    × FewMembers l.new (row_number l.b)
    × Listing (lists_from l.old l.new (row_number l.fn.m) (row_number l.fn.k)) l.n l.initial.list (lists_from l.old l.new (row_number l.a) (row_number l.b)) l.i l.list

abbrev pub decreases-loop-a : goal.decreases-loop-a
decreases-loop-a l = length (left_of (is_list l.old) (row_number l.a) (types l.old)) + length (left_of (is_list l.new) (row_number l.b) (types l.new))
