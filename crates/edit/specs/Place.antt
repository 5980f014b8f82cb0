-- Where the bytes of an edit are in a message, found without a look at values; and the message with these bytes exchanged.
--
--   Gap, gap             a place in the bytes up to another, and whether there are other optionals
--   closed               no optional follows
--   seek_at, seek_piece, seek_next, seek_tag k    where tag k is, or would be put, among optionals that end at the end or at byte 255
--   moved_by, after_required, gap_in T o k       the same among all members of owner o
--   Seat, size_read, id_read, seek_slice nm      the slice of a name, in slices with sizes: the places of its flags and of its size, and its end
--   flagged, has_marker, cut_end   of an exchange in a slice: whether optionals remain, whether its first brings an end marker, and the end of what goes
--   size_after            a length after the exchange
--   list_spliced          a parameter list with the bytes `from` up to `to` exchanged
--   slice_spliced         the same in a slice of a record, with its new flags and size
use Rattle.std.specs.Prelude.{Bool, true, ◌&&◌, ◌||◌, not, List, [], ◌∷◌, ◌++◌, ℕ, zero, suc, ◌+◌, ◌-◌, length, take, drop, eqb, ltb}
use Rattle.std.proofs.Math.Option.{Option, none, some}
use Rattle.encoding.specs.Result.{Res, ok, bad, pick, same_bytes}
use Rattle.encoding.specs.Number.{le_bytes, declared}
use Rattle.encoding.specs.Types.{vsize}
use Rattle.encoding.specs.Table.{required_members}
use Rattle.encoding.specs.Optional.{Piece, required, optional, skipped, extent, next_optional, requireds}

-- ---- among the members of an owner

-- from a place up to another, and whether there are other optionals
pub record Gap : Type 0 where
  pub from : ℕ
  pub to : ℕ
  pub others : Bool

-- a gap by its three parts
unfoldable pub gap : ℕ → ℕ → Bool → Gap
gap a b q = record { from = a; to = b; others = q }

-- no optional follows
unfoldable pub closed : List ℕ → Bool
closed [] = true
closed (x ∷ xs) = eqb x 255

-- the gap by an optional of tag t with n bytes, which is first in xs, the bytes from place `at` on: before it, at it, or further on
unfoldable pub seek_at : ℕ → ℕ → ℕ → List ℕ → ℕ → ℕ → Gap → Gap
seek_at k at least xs t n further =
    pick (ltb k t) (gap at at true) (pick (eqb k t) (gap at (at + n) (ltb 0 least || not (closed (drop n xs)))) further)

-- the gap by the next piece, read with no known members
unfoldable pub seek_piece : ℕ → ℕ → ℕ → List ℕ → Piece → ℕ → Gap → Gap
seek_piece k at least xs (required i b) n further = seek_at k at least xs i n further
seek_piece k at least xs (optional t f b) n further = gap at at true
seek_piece k at least xs (skipped t f b) n further = seek_at k at least xs t n further

-- the gap by the next optional as it is read; before it if it cannot be read
unfoldable pub seek_next : ℕ → ℕ → ℕ → List ℕ → Res (Piece × ℕ) → (ℕ → ℕ → Gap) → Gap
seek_next k at least xs (bad c p) further = gap at at true
seek_next k at least xs (ok r n) further = seek_piece k at least xs r.0 n (further r.1 n)

-- optionals xs from place `at` on, whose tags are at least `least`; the second number is fuel
unfoldable pub seek_tag : ℕ → ℕ → ℕ → ℕ → List ℕ → Gap
seek_tag k zero at least xs = gap at at true
seek_tag k (suc f) at least xs =
    pick (closed xs) (gap at at (ltb 0 least)) (seek_next k at least xs (next_optional [] least xs) (λ s n. seek_tag k f (at + n) s (drop n xs)))

-- a gap n bytes further on
unfoldable pub moved_by : ℕ → Gap → Gap
moved_by n g = gap (n + g.from) (n + g.to) g.others

-- the gap after the required members, as they are read
unfoldable pub after_required : ℕ → List ℕ → Res (List Piece) → Gap
after_required k xs (ok ps n) = moved_by n (seek_tag k (suc (length (drop n xs))) 0 0 (drop n xs))
after_required k xs (bad c p) = gap 0 0 true

-- where tag k is among the members of owner o, whose bytes are xs
unfoldable pub gap_in : List ℕ → ℕ → ℕ → List ℕ → Gap
gap_in T o k xs = after_required k xs (requireds (required_members T o) xs)

-- ---- the slice of a name

-- a slice: the places of its flags, of its size, and of its end
pub record Seat : Type 0 where
  pub flags : ℕ
  pub size : ℕ
  pub end : ℕ

-- the slice at place `at` if its name is nm, once its size is read; else a further one
unfoldable pub size_read : List ℕ → ℕ → ℕ → List ℕ → List ℕ → Res (List ℕ) → (ℕ → List ℕ → Option Seat) → Option Seat
size_read nm at size id ys (bad c p) further = none
size_read nm at size id ys (ok d l) further = pick (same_bytes id nm) (some (record { flags = at; size = size; end = size + l })) (further (size + l) (drop l ys))

-- the same, once its type ID is read
unfoldable pub id_read : List ℕ → ℕ → List ℕ → Res (List ℕ) → (ℕ → List ℕ → Option Seat) → Option Seat
id_read nm at ys (bad c p) further = none
id_read nm at ys (ok id k) further = size_read nm at (at + 1 + k) id (drop k ys) (declared 4 4 (drop k ys)) further

-- the slice of name nm in the slices xs from place `at` on, each with flags, a type ID and a size; the first number is fuel
unfoldable pub seek_slice : List ℕ → ℕ → ℕ → List ℕ → Option Seat
seek_slice nm zero at xs = none
seek_slice nm (suc f) at [] = none
seek_slice nm (suc f) at (x ∷ xs) = id_read nm at xs (extent vsize xs) (λ a ys. seek_slice nm f a ys)

-- ---- bytes exchanged

-- whether optionals remain after the exchange
unfoldable pub flagged : Bool → Gap → Bool
flagged setting g = setting || g.others

-- whether the new optional is the slice's first, which brings an end marker
unfoldable pub has_marker : Bool → Gap → Bool
has_marker setting g = setting && (eqb g.from g.to && not g.others)

-- the end of the bytes that go: with a slice's last optional its end marker goes too
unfoldable pub cut_end : Bool → Gap → ℕ
cut_end setting g = pick (flagged setting g) g.to (g.to + 1)

-- the length of n bytes once those from `from` up to `to` are exchanged for w
unfoldable pub size_after : ℕ → ℕ → ℕ → List ℕ → ℕ
size_after n from to w = n - (to - from) + length w

-- the message's new size, then its bytes up to `from`, then w, then its bytes from `to` on
unfoldable pub list_spliced : ℕ → ℕ → List ℕ → List ℕ → List ℕ
list_spliced from to w m = le_bytes 4 (size_after (length m) from to w) ++ (take (from - 4) (drop 4 m) ++ (w ++ drop to m))

-- the same, with flags `flag` at place `flags`, and the slice's new size at place `size`
unfoldable pub slice_spliced : ℕ → ℕ → ℕ → ℕ → ℕ → ℕ → List ℕ → List ℕ → List ℕ
slice_spliced flags size end from to flag w m =
    le_bytes 4 (size_after (length m) from to w) ++ (take (flags - 4) (drop 4 m) ++ (flag ∷ (take (size - (flags + 1)) (drop (flags + 1) m)
    ++ (le_bytes 4 (size_after (end - size) from to w) ++ (take (from - (size + 4)) (drop (size + 4) m) ++ (w ++ drop to m))))))
