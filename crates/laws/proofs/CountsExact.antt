-- Every member of a known slice is listed or counted as skipped, and every slice is known or counted as skipped.
-- Shown of pieces that conform: a required member and a known optional are found among their owner's members, so each has a row.
use Rattle.std.specs.Prelude.{◌≡◌, true}
use Rattle.std.proofs.Math.Path.{refl}
use Rattle.std.proofs.Math.Option.{Option, some}
use mathlib.Core.List.{List, [], ◌∷◌}
use Prim.Native.Nat.{ℕ, suc, ◌+◌}
use native.Mathlib.Omega.{arith}
use Rattle.std.proofs.Math.ListN.{length, length-append}
use Rattle.encoding.specs.Table.{Member, lookup, chain}
use Rattle.encoding.specs.Table
use Rattle.encoding.specs.Optional.{Piece, required, optional, skipped, is_skipped, front_bytes, content_bytes, piece_bytes}
use Rattle.encoding.specs.Slice.{Slice, known, passed, Stand, first, is_last, data_bytes}
use Rattle.encoding.specs.Old.{old_member, members_as}
use Rattle.encoding.specs.Message.{Pieces, list, exception, class, Encoding, v10, v11, front_as, later_as, Row, list_row, piece_member, piece_rows, slice_rows, or_zero, first_in, first_known, rows, skipped_pieces, skipped_in, passed_in, optionals_skipped, slices_skipped}
use Rattle.encoding.specs.Conform.{Level, Bare, OwnedAs, Follow, Slices, Conform}
use Rattle.laws.specs.Demands.{All, more, members_in, member_count, slice_count, known_count, Exact, ExactCounts}
use Rattle.laws.proofs.RowsExact.{Found, required_found}

-- a member that is found has its row
listed_one : {o : Option Member} {x : Member} (at : ℕ) (b : List ℕ) (rs : List Row) → o ≡ some x → length (list_row o at b rs) ≡ suc (length rs)
unfolding list_row
listed_one at b rs q = rw q

module _ (T : List ℕ) where
  pieces_counted : (t : ℕ) (ms : List Member) → All (Found (Table.required_members T t)) ms → (least : ℕ) (ps : List Piece)
      → Level ms (Table.optional_members T t) least ps → (at : ℕ) → length (piece_rows T t at ps) + skipped_pieces ps ≡ length ps
  unfolding piece_rows piece_member list_row content_bytes skipped_pieces is_skipped
  pieces_counted t [] F least [] L at = omega arith
  pieces_counted t [] F least (required i b ∷ ps) L at = absurd L
  pieces_counted t [] F least (optional k f b ∷ ps) (K, L) at =
      let one : length (piece_rows T t at (optional k f b ∷ ps)) ≡ suc (length (piece_rows T t (at + length (piece_bytes (optional k f b))) ps)) =
      listed_one (at + length (front_bytes (optional k f b))) b (piece_rows T t (at + length (piece_bytes (optional k f b))) ps) K.found in
      omega (arith, one, pieces_counted t [] F (suc k) ps L (at + length (piece_bytes (optional k f b))))
  pieces_counted t [] F least (skipped k f b ∷ ps) (U, L) at =
      let none : length (piece_rows T t at (skipped k f b ∷ ps)) ≡ length (piece_rows T t (at + length (piece_bytes (skipped k f b))) ps) = refl in
      omega (arith, pieces_counted t [] F (suc k) ps L (at + length (piece_bytes (skipped k f b))))
  pieces_counted t (x ∷ ms) F least [] L at = absurd L
  pieces_counted t (x ∷ ms) (more q F) least (required i b ∷ ps) (e, h, L) at =
      let f : lookup i (Table.required_members T t) ≡ some x = rw e q in
      let one : length (piece_rows T t at (required i b ∷ ps)) ≡ suc (length (piece_rows T t (at + length (piece_bytes (required i b))) ps)) =
      listed_one (at + length (front_bytes (required i b))) b (piece_rows T t (at + length (piece_bytes (required i b))) ps) f in
      omega (arith, one, pieces_counted t ms F least ps L (at + length (piece_bytes (required i b))))
  pieces_counted t (x ∷ ms) F least (optional k f b ∷ ps) L at = absurd L
  pieces_counted t (x ∷ ms) F least (skipped k f b ∷ ps) L at = absurd L

  -- in 1.0 there are required members alone
  bare_counted : (t : ℕ) (ms : List Member) → All (Found (Table.required_members T t)) ms → (ps : List Piece) → Bare (members_as true ms) ps → (at : ℕ)
      → length (piece_rows T t at ps) + skipped_pieces ps ≡ length ps
  unfolding piece_rows piece_member list_row content_bytes skipped_pieces is_skipped old_member
  bare_counted t [] F [] B at = omega arith
  bare_counted t [] F (p ∷ ps) B at = absurd B
  bare_counted t (x ∷ ms) F [] B at = absurd B
  bare_counted t (x ∷ ms) (more q F) (required i b ∷ ps) (e, h, B) at =
      let f : lookup i (Table.required_members T t) ≡ some x = rw e q in
      let one : length (piece_rows T t at (required i b ∷ ps)) ≡ suc (length (piece_rows T t (at + length (piece_bytes (required i b))) ps)) =
      listed_one (at + length (front_bytes (required i b))) b (piece_rows T t (at + length (piece_bytes (required i b))) ps) f in
      omega (arith, one, bare_counted t ms F ps B (at + length (piece_bytes (required i b))))
  bare_counted t (x ∷ ms) F (optional k f b ∷ ps) B at = absurd B
  bare_counted t (x ∷ ms) F (skipped k f b ∷ ps) B at = absurd B

  owned_counted : (f : Encoding) (t : ℕ) (ps : List Piece) → OwnedAs f T t ps → (at : ℕ) → length (piece_rows T t at ps) + skipped_pieces ps ≡ length ps
  owned_counted v10 t ps L at = bare_counted t (Table.required_members T t) (required_found T t) ps L at
  owned_counted (v11 g) t ps L at = pieces_counted t (Table.required_members T t) (required_found T t) 0 ps L at

  -- members of the slices of a chain
  follow_counted : (f : Encoding) (ts : List ℕ) (ss : List Slice) → Follow T f ts ss → (s : Stand) (at : ℕ)
      → (length (slice_rows T f s at ts ss) + skipped_in ss ≡ members_in ss) × (length ts + passed_in ss ≡ length ss)
  unfolding slice_rows skipped_in passed_in members_in
  follow_counted f [] [] F s at = (omega arith, omega arith)
  follow_counted f [] (sl ∷ ss) F s at = absurd F
  follow_counted f (t ∷ ts) [] F s at = absurd F
  follow_counted f (t ∷ ts) (known o ps ∷ ss) (e, L, F) s at =
      let d = at + length (front_as f s (is_last ss) (known o ps)) in
      let here = owned_counted f t ps L d in
      let rest = follow_counted f ts ss F (later_as f) (d + length (data_bytes (known o ps))) in
      let sum : length (slice_rows T f s at (t ∷ ts) (known o ps ∷ ss)) ≡ length (piece_rows T t d ps) + length (slice_rows T f (later_as f) (d + length (data_bytes (known o ps))) ts ss) =
      length-append (piece_rows T t d ps) (slice_rows T f (later_as f) (d + length (data_bytes (known o ps))) ts ss) in
      (omega (arith, here, rest.0), omega (arith, rest.1))
  follow_counted f (t ∷ ts) (passed b nm d ∷ ss) F s at = absurd F

  slices_counted : (top : ℕ) (f : Encoding) (ss : List Slice) → Slices T top f ss → (s : Stand) (at : ℕ)
      → (length (slice_rows T f s at (chain T (first_in T ss)) ss) + skipped_in ss ≡ members_in ss) × (length (chain T (first_in T ss)) + passed_in ss ≡ length ss)
  unfolding slice_rows first_in or_zero skipped_in passed_in members_in
  slices_counted top f [] C s at = absurd C
  slices_counted top f (known o ps ∷ ss) C s at = rw C.known (follow_counted f (chain T C.row) (known o ps ∷ ss) C.follow s at)
  slices_counted top f (passed b nm d ∷ ss) (P, C) s at =
      let rest = slices_counted top f ss C (later_as f) (at + length (front_as f s (is_last ss) (passed b nm d)) + length d) in
      (rest.0, omega (arith, rest.1))

  pub conform_counted : (top : ℕ) (f : Encoding) (p : Pieces) → Conform T top f p
      → (length (rows T top f p) + optionals_skipped p ≡ member_count p) × (known_count T top p + slices_skipped p ≡ slice_count p)
  unfolding rows first_known optionals_skipped slices_skipped member_count known_count slice_count
  conform_counted top (v11 g) (list ps) (k, i, L) = (owned_counted (v11 g) top ps L 6, omega arith)
  conform_counted top (v11 g) (exception ss) (k, C) = slices_counted top (v11 g) ss C first 6
  conform_counted top (v11 g) (class ss) (k, C) = slices_counted top (v11 g) ss C first 7
  conform_counted top v10 (list ps) (k, W, L) = (owned_counted v10 top ps L 6, omega arith)
  conform_counted top v10 (exception ss) (k, W, C) = slices_counted top v10 ss C first 7
  conform_counted top v10 (class ss) C = absurd C

pub exact_counts_from : Exact → ExactCounts
exact_counts_from E T top m f p n y h = conform_counted T top f p ((E T top m f p n y).0 h).0.conforms
