-- An accepted message has at most as many rows as its table has members, which are at most 1,024.
-- An owner lists each of its members at most once: required ones as declared, optionals by rising tag. The owners of a chain take member rows of their own.
--
--   piece_rows_most      the rows of one owner are at most the member rows that it takes
--   rows_members        the rows of pieces that conform are at most the members of the table
--   rows_most           so at most 1,024
use Rattle.std.specs.Prelude.{◌≡◌, Bool, true, false, eqb, leb}
use Rattle.std.proofs.Math.Path.{refl}
use Rattle.std.proofs.Common.{ap, subst, eqb-true, leb-true, le-leb}
use Rattle.std.proofs.Math.Option.{Option, none, some}
use mathlib.Core.List.{List, [], ◌∷◌}
use Prim.Native.Nat.{ℕ, zero, suc, ◌+◌, ◌≤◌, ◌<◌}
use native.Mathlib.Omega.{arith}
use Rattle.std.proofs.Math.ListN.{length, length-append}
use Rattle.std.proofs.lemmas.Bool.{lt-leb}
use Rattle.encoding.specs.Result.{pick}
use Rattle.encoding.proofs.ResultLaws.{some≢none}
use Rattle.encoding.specs.Table.{types, members, kind, field, owns, fine, faults, taken, Member, lookup, base, upward, chain}
use Rattle.encoding.specs.Table
use Rattle.encoding.proofs.RuleLaws.{own_sum, owns_record, named_ok, chain_node, AboveRecord, base_record, taken_rises, taken_next, taken_whole, members_most}
use Rattle.encoding.specs.Optional.{Piece, required, optional, skipped, front_bytes, content_bytes, piece_bytes}
use Rattle.encoding.specs.Slice.{Slice, known, passed, Stand, first, is_last, data_bytes}
use Rattle.encoding.specs.Old.{members_as}
use Rattle.encoding.specs.Message.{Pieces, list, exception, class, Encoding, v10, v11, front_as, later_as, Row, list_row, piece_member, piece_rows, slice_rows, or_zero, first_in, rows}
use Rattle.encoding.specs.Conform.{Level, Bare, OwnedAs, Follow, Slices, Conform}

-- ---- one owner

-- how many members have at least this tag
unfoldable above : ℕ → List Member → ℕ
above least [] = 0
above least (m ∷ ms) = pick (leb least m.key) 1 0 + above least ms

above_most : (least : ℕ) (ms : List Member) → above least ms ≤ length ms
unfolding above
above_most least [] = omega arith
above_most least (m ∷ ms) = go (leb least m.key) (above_most least ms)
  where
    go : (b : Bool) → above least ms ≤ length ms → pick b 1 0 + above least ms ≤ suc (length ms)
    go true h = omega arith
    go false h = omega arith

-- a greater least tag leaves no more
above_less : (least k : ℕ) → least ≤ k → (ms : List Member) → above k ms ≤ above least ms
unfolding above
above_less least k h [] = omega arith
above_less least k h (m ∷ ms) = go (leb k m.key) refl (above_less least k h ms)
  where
    go : (b : Bool) → leb k m.key ≡ b → above k ms ≤ above least ms → pick b 1 0 + above k ms ≤ pick (leb least m.key) 1 0 + above least ms
    go true e ih = rw (le-leb least m.key (omega (arith, leb-true k m.key e))) (omega arith)
    go false e ih = omega arith

-- a member that is found is not counted above its own tag
above_found : (least k : ℕ) → least ≤ k → (ms : List Member) {x : Member} → lookup k ms ≡ some x → suc (above (suc k) ms) ≤ above least ms
unfolding above lookup
above_found least k h [] e = absurd (some≢none e refl)
above_found least k h (m ∷ ms) {x} e = go (eqb k m.key) refl e (λ q. above_found least k h ms {x = x} q)
  where
    go : (b : Bool) → eqb k m.key ≡ b → pick b (some m) (lookup k ms) ≡ some x → (lookup k ms ≡ some x → suc (above (suc k) ms) ≤ above least ms)
        → suc (pick (leb (suc k) m.key) 1 0 + above (suc k) ms) ≤ pick (leb least m.key) 1 0 + above least ms
    go true q e ih =
        let z = eqb-true k m.key q in
        rw (lt-leb (suc k) m.key (omega arith), le-leb least m.key (omega arith)) (omega (arith, above_less least (suc k) (omega arith) ms))
    go false q e ih = more (leb (suc k) m.key) refl (ih e)
      where
        more : (b : Bool) → leb (suc k) m.key ≡ b → suc (above (suc k) ms) ≤ above least ms → suc (pick b 1 0 + above (suc k) ms) ≤ pick (leb least m.key) 1 0 + above least ms
        more true r i = rw (le-leb least m.key (omega (arith, leb-true (suc k) m.key r))) (omega arith)
        more false r i = omega arith

list_row_most : (o : Option Member) (at : ℕ) (b : List ℕ) (rs : List Row) → length (list_row o at b rs) ≤ suc (length rs)
unfolding list_row
list_row_most none at b rs = omega arith
list_row_most (some m) at b rs = omega arith

module _ (T : List ℕ) where
  level_most : (t : ℕ) (ms : List Member) (least : ℕ) (ps : List Piece) → Level ms (Table.optional_members T t) least ps → (at : ℕ)
      → length (piece_rows T t at ps) ≤ length ms + above least (Table.optional_members T t)
  unfolding piece_rows piece_member list_row content_bytes
  level_most t [] least [] L at = omega arith
  level_most t [] least (required i b ∷ ps) L at = absurd L
  level_most t [] least (optional k f b ∷ ps) (K, L) at =
      let one : length (piece_rows T t at (optional k f b ∷ ps)) ≤ suc (length (piece_rows T t (at + length (piece_bytes (optional k f b))) ps)) =
      list_row_most (lookup k (Table.optional_members T t)) (at + length (front_bytes (optional k f b))) b (piece_rows T t (at + length (piece_bytes (optional k f b))) ps) in
      omega (arith, above_found least k K.rises (Table.optional_members T t) K.found, level_most t [] (suc k) ps L (at + length (piece_bytes (optional k f b))))
  level_most t [] least (skipped k f b ∷ ps) (U, L) at =
      let none : length (piece_rows T t at (skipped k f b ∷ ps)) ≡ length (piece_rows T t (at + length (piece_bytes (skipped k f b))) ps) = refl in
      omega (arith, above_less least (suc k) (omega (arith, U.rises)) (Table.optional_members T t), level_most t [] (suc k) ps L (at + length (piece_bytes (skipped k f b))))
  level_most t (x ∷ ms) least [] L at = absurd L
  level_most t (x ∷ ms) least (required i b ∷ ps) (e, h, L) at =
      let one : length (piece_rows T t at (required i b ∷ ps)) ≤ suc (length (piece_rows T t (at + length (piece_bytes (required i b))) ps)) =
      list_row_most (lookup i (Table.required_members T t)) (at + length (front_bytes (required i b))) b (piece_rows T t (at + length (piece_bytes (required i b))) ps) in
      omega (arith, level_most t ms least ps L (at + length (piece_bytes (required i b))))
  level_most t (x ∷ ms) least (optional k f b ∷ ps) L at = absurd L
  level_most t (x ∷ ms) least (skipped k f b ∷ ps) L at = absurd L

  -- in 1.0 there are required members alone
  bare_most : (t : ℕ) (ms : List Member) (ps : List Piece) → Bare (members_as true ms) ps → (at : ℕ) → length (piece_rows T t at ps) ≤ length ms
  unfolding piece_rows piece_member list_row content_bytes
  bare_most t [] [] B at = omega arith
  bare_most t [] (p ∷ ps) B at = absurd B
  bare_most t (x ∷ ms) [] B at = absurd B
  bare_most t (x ∷ ms) (required i b ∷ ps) (e, h, B) at =
      let one : length (piece_rows T t at (required i b ∷ ps)) ≤ suc (length (piece_rows T t (at + length (piece_bytes (required i b))) ps)) =
      list_row_most (lookup i (Table.required_members T t)) (at + length (front_bytes (required i b))) b (piece_rows T t (at + length (piece_bytes (required i b))) ps) in
      omega (arith, bare_most t ms ps B (at + length (piece_bytes (required i b))))
  bare_most t (x ∷ ms) (optional k f b ∷ ps) B at = absurd B
  bare_most t (x ∷ ms) (skipped k f b ∷ ps) B at = absurd B

  pub piece_rows_most : (f : Encoding) (t : ℕ) (ps : List Piece) → OwnedAs f T t ps → (at : ℕ) → length (piece_rows T t at ps) ≤ field T t 1
  piece_rows_most v10 t ps L at = omega (arith, bare_most t (Table.required_members T t) ps L at, own_sum T t)
  piece_rows_most (v11 g) t ps L at = omega (arith, level_most t (Table.required_members T t) 0 ps L at, above_most 0 (Table.optional_members T t), own_sum T t)

-- ---- a chain, and a message

module _ (T : List ℕ) (right : faults T ≡ fine) where
  -- the slices of a record and its bases, one after another: the first number is fuel, since a base is smaller
  upward_most : (n b : ℕ) → b ≤ n → AboveRecord T b → (f : Encoding) (ss : List Slice) → Follow T f (upward (chain T) b) ss → (s : Stand) (at : ℕ)
      → length (slice_rows T f s at (upward (chain T) b) ss) ≤ taken T b
  unfolding upward slice_rows
  upward_most zero zero h R f [] F s at = omega arith
  upward_most zero zero h R f (sl ∷ ss) F s at = absurd F
  upward_most zero (suc r) h R f ss F s at = absurd (omega arith)
  upward_most (suc n) zero h R f [] F s at = omega arith
  upward_most (suc n) zero h R f (sl ∷ ss) F s at = absurd F
  upward_most (suc n) (suc r) h R f ss F s at =
      let B = base_record T right r R (base T r) refl in
      rw (chain_node T r) (go ss (subst (λ (ts : List ℕ). Follow T f ts ss) (chain_node T r) F)
      (λ ss F s at. omega (arith, upward_most n (base T r) (omega (arith, B.0)) B.1 f ss F s at, taken_rises T (base T r) r B.0)))
    where
      go : (ss : List Slice) → Follow T f (r ∷ upward (chain T) (base T r)) ss
          → ((ss : List Slice) → Follow T f (upward (chain T) (base T r)) ss → (s : Stand) (at : ℕ) → length (slice_rows T f s at (upward (chain T) (base T r)) ss) ≤ taken T r)
          → length (slice_rows T f s at (r ∷ upward (chain T) (base T r)) ss) ≤ taken T (suc r)
      go [] F ih = absurd F
      go (known o ps ∷ ss) (e, L, F) ih =
          let d = at + length (front_as f s (is_last ss) (known o ps)) in
          let rest = slice_rows T f (later_as f) (d + length (data_bytes (known o ps))) (upward (chain T) (base T r)) ss in
          let sum : length (slice_rows T f s at (r ∷ upward (chain T) (base T r)) (known o ps ∷ ss)) ≡ length (piece_rows T r d ps) + length rest = length-append (piece_rows T r d ps) rest in
          omega (arith, piece_rows_most T f r ps L d, ih ss F (later_as f) (d + length (data_bytes (known o ps))), taken_next T r (owns_record (kind T r) R.1))
      go (passed b nm d ∷ ss) F ih = absurd F

  slices_most : (top : ℕ) (f : Encoding) (ss : List Slice) → Slices T top f ss → (s : Stand) (at : ℕ) → length (slice_rows T f s at (chain T (first_in T ss)) ss) ≤ members T
  unfolding slice_rows first_in or_zero upward
  slices_most top f [] C s at = absurd C
  slices_most top f (known o ps ∷ ss) C s at =
      let N = named_ok T o C.row C.known in
      rw C.known (omega (
        arith,
        upward_most (suc C.row) (suc C.row) (omega arith) (N.0, N.1) f (known o ps ∷ ss) C.follow s at,
        taken_rises T (suc C.row) (types T) N.0,
        taken_whole T right,
      ))
  slices_most top f (passed b nm d ∷ ss) (P, C) s at = slices_most top f ss C (later_as f) _

  list_members : (top : ℕ) (f : Encoding) (ps : List Piece) → top < types T → kind T top ≡ 15 → OwnedAs f T top ps → length (piece_rows T top 6 ps) ≤ members T
  list_members top f ps l k L =
      let o : owns (kind T top) ≡ true = ap (λ (i : ℕ). owns i) k in
      omega (arith, piece_rows_most T f top ps L 6, taken_next T top o, taken_rises T (suc top) (types T) l, taken_whole T right)

  pub rows_members : (top : ℕ) (f : Encoding) (p : Pieces) → top < types T → Conform T top f p → length (rows T top f p) ≤ members T
  unfolding rows
  rows_members top (v11 g) (list ps) l (k, i, L) = list_members top (v11 g) ps l k L
  rows_members top (v11 g) (exception ss) l (k, C) = slices_most top (v11 g) ss C first 6
  rows_members top (v11 g) (class ss) l (k, C) = slices_most top (v11 g) ss C first 7
  rows_members top v10 (list ps) l (k, W, L) = list_members top v10 ps l k L
  rows_members top v10 (exception ss) l (k, W, C) = slices_most top v10 ss C first 7
  rows_members top v10 (class ss) l C = absurd C

  pub rows_most : (top : ℕ) (f : Encoding) (p : Pieces) → top < types T → Conform T top f p → length (rows T top f p) ≤ 1024
  rows_most top f p l C = omega (arith, rows_members top f p l C, members_most T right)
