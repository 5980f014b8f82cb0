-- Each row is of its piece: the message is the encoding of the pieces, so the content of a piece is where its row says.
--
--   level_listed, slices_listed   of the pieces of an owner; of slices
--   rows_listed, listed_rows      of a message: of pieces that conform; the promise
use Rattle.std.specs.Prelude.{◌≡◌, refl, true, ℕ, suc, ◌+◌}
use Rattle.std.proofs.Common.{sym, ap, ◌∙◌}
use Rattle.std.proofs.Math.Path.{subst}
use Rattle.std.proofs.Math.Option.{Option, some}
use mathlib.Core.List.{List, [], ◌∷◌}
use Rattle.std.proofs.Math.ListN.{length}
use Rattle.encoding.specs.Result.{concat}
use Rattle.encoding.specs.Table.{is_record, fine, faults, Member, lookup, name_of, named, chain}
use Rattle.encoding.specs.Table
use Rattle.encoding.proofs.RuleLaws.{named_ok, named_at}
use Rattle.encoding.specs.Optional.{Piece, required, optional, skipped, front_bytes, content_bytes, piece_bytes}
use Rattle.encoding.specs.Slice.{Slice, known, passed, Stand, first, data_bytes}
use Rattle.encoding.specs.Old.{old_member, members_as}
use Rattle.encoding.specs.Message.{Pieces, list, exception, class, Encoding, v10, v11, later_as, encode, encapsulate, list_row, piece_member, piece_rows, slice_rows, or_zero, first_in, rows, slices_bytes}
use Rattle.encoding.specs.Conform.{Level, Bare, OwnedAs, Follow, Slices, Conform}
use Rattle.laws.specs.Demands.{All, more, RowOf, ListedOf, a_required, an_optional, a_skipped, ListedIn, a_known, a_passed, Listed, ListedRows}
use Rattle.laws.proofs.RowsExact.{Stands, stands_first, stands_next, stands_there, stands_encapsulated, all_map, Found, required_found, content_stands, others_stand, data_stand, slices_stand}
use Rattle.laws.proofs.TableExact.{sound}
use Rattle.laws.proofs.MessageExact.{exact_message}
use Rattle.laws.proofs.PlanRules.{Rung, record_there, chain_rungs}

-- ---- the pieces of one owner

module _ (T m : List ℕ) where
  row_of : (d : Member) (at : ℕ) (b : List ℕ) → Stands m at b → RowOf m d b (record { member = d.row; place = at; len = length b })
  row_of d at b S = record { member = refl; bytes = stands_there b S; len = refl }

  level_listed : (t : ℕ) (ms : List Member) → All (Found (Table.required_members T t)) ms → (least : ℕ) (ps : List Piece)
      → Level ms (Table.optional_members T t) least ps → (at : ℕ) → Stands m at (concat piece_bytes ps) → ListedOf T m t ps (piece_rows T t at ps)
  unfolding piece_rows piece_member content_bytes list_row
  level_listed t [] F least [] L at S = ListedOf.none_left
  level_listed t [] F least (required i b ∷ ps) L at S = absurd L
  level_listed t [] F least (optional k f b ∷ ps) (K, L) at S =
      let p : Piece = optional k f b in
      subst (λ (o : Option Member). ListedOf T m t (p ∷ ps) (list_row o (at + length (front_bytes p)) b (piece_rows T t (at + length (piece_bytes p)) ps))) (sym K.found)
      (an_optional K.found (row_of K.member (at + length (front_bytes p)) b (content_stands T m p ps at S)) (level_listed t [] F (suc k) ps L (at + length (piece_bytes p)) (others_stand T m p ps at S)))
  level_listed t [] F least (skipped k f b ∷ ps) (U, L) at S =
      a_skipped (level_listed t [] F (suc k) ps L (at + length (piece_bytes (skipped k f b))) (others_stand T m (skipped k f b) ps at S))
  level_listed t (d ∷ ms) F least [] L at S = absurd L
  level_listed t (d ∷ ms) (more q F) least (required i b ∷ ps) (e, h, L) at S =
      let p : Piece = required i b in
      let found : lookup i (Table.required_members T t) ≡ some d = rw e q in
      subst (λ (o : Option Member). ListedOf T m t (p ∷ ps) (list_row o (at + length (front_bytes p)) b (piece_rows T t (at + length (piece_bytes p)) ps))) (sym found)
      (a_required found (row_of d (at + length (front_bytes p)) b (content_stands T m p ps at S)) (level_listed t ms F least ps L (at + length (piece_bytes p)) (others_stand T m p ps at S)))
  level_listed t (d ∷ ms) F least (optional k f b ∷ ps) L at S = absurd L
  level_listed t (d ∷ ms) F least (skipped k f b ∷ ps) L at S = absurd L

  -- in 1.0 there are required members alone
  bare_listed : (t : ℕ) (ms : List Member) → All (Found (Table.required_members T t)) ms → (ps : List Piece) → Bare (members_as true ms) ps → (at : ℕ) → Stands m at (concat piece_bytes ps)
      → ListedOf T m t ps (piece_rows T t at ps)
  unfolding piece_rows piece_member content_bytes list_row old_member
  bare_listed t [] F [] B at S = ListedOf.none_left
  bare_listed t [] F (p ∷ ps) B at S = absurd B
  bare_listed t (d ∷ ms) F [] B at S = absurd B
  bare_listed t (d ∷ ms) (more q F) (required i b ∷ ps) (e, h, B) at S =
      let p : Piece = required i b in
      let found : lookup i (Table.required_members T t) ≡ some d = rw e q in
      subst (λ (o : Option Member). ListedOf T m t (p ∷ ps) (list_row o (at + length (front_bytes p)) b (piece_rows T t (at + length (piece_bytes p)) ps))) (sym found)
      (a_required found (row_of d (at + length (front_bytes p)) b (content_stands T m p ps at S)) (bare_listed t ms F ps B (at + length (piece_bytes p)) (others_stand T m p ps at S)))
  bare_listed t (d ∷ ms) F (optional k f b ∷ ps) B at S = absurd B
  bare_listed t (d ∷ ms) F (skipped k f b ∷ ps) B at S = absurd B

  owned_listed : (f : Encoding) (t : ℕ) (ps : List Piece) → OwnedAs f T t ps → (at : ℕ) → Stands m at (concat piece_bytes ps) → ListedOf T m t ps (piece_rows T t at ps)
  owned_listed v10 t ps L at S = bare_listed t (Table.required_members T t) (required_found T t) ps L at S
  owned_listed (v11 g) t ps L at S = level_listed t (Table.required_members T t) (required_found T t) 0 ps L at S

  -- ---- slices

  -- of rows that are each the record of its name
  follow_listed : (f : Encoding) (ts : List ℕ) (ss : List Slice) → All (λ (t : ℕ). named T (name_of T t) ≡ some t) ts → Follow T f ts ss
      → (s : Stand) (at : ℕ) → Stands m at (slices_bytes f s ss) → ListedIn T m ss (slice_rows T f s at ts ss)
  unfolding slice_rows data_bytes
  follow_listed f [] [] N F s at S = ListedIn.none_left
  follow_listed f [] (sl ∷ ss) N F s at S = absurd F
  follow_listed f (t ∷ ts) [] N F s at S = absurd F
  follow_listed f (t ∷ ts) (known o ps ∷ ss) (more n N) (e, L, F) s at S =
      a_known (ap (named T) e ∙ n) (owned_listed f t ps L _ (stands_first (concat piece_bytes ps) _ (data_stand T m f s (known o ps) ss at S)))
      (follow_listed f ts ss N F (later_as f) _ (slices_stand T m f s (known o ps) ss at S))
  follow_listed f (t ∷ ts) (passed b nm d ∷ ss) N F s at S = absurd F

  slices_listed : (right : faults T ≡ fine) (top : ℕ) (f : Encoding) (ss : List Slice) → Slices T top f ss → (s : Stand) (at : ℕ) → Stands m at (slices_bytes f s ss)
      → ListedIn T m ss (slice_rows T f s at (chain T (first_in T ss)) ss)
  unfolding slice_rows first_in data_bytes or_zero
  slices_listed right top f [] C s at S = absurd C
  slices_listed right top f (known o ps ∷ ss) C s at S =
      let N = named_ok T o C.row C.known in
      rw C.known (follow_listed f (chain T C.row) (known o ps ∷ ss)
      (all_map (λ (r : ℕ) (R : Rung T right C.row r). named_at T right r R.below (ap (λ (k : ℕ). is_record k) R.alike ∙ N.1)) (chain_rungs T right C.row (record_there T C.row N.0 N.1)))
      C.follow s at S)
  slices_listed right top f (passed b nm d ∷ ss) (P, C) s at S = a_passed (slices_listed right top f ss C (later_as f) _ (slices_stand T m f s (passed b nm d) ss at S))

-- ---- a message

pub rows_listed : (T : List ℕ) → faults T ≡ fine → (top : ℕ) (f : Encoding) (p : Pieces) → Conform T top f p → Listed T (encapsulate f (encode f p)) top p (rows T top f p)
unfolding rows encode
rows_listed T right top (v11 g) (list ps) (k, i, L) = owned_listed T _ (v11 g) top ps L 6 (stands_encapsulated (v11 g) _)
rows_listed T right top (v11 g) (exception ss) (k, C) = slices_listed T _ right top (v11 g) ss C first 6 (stands_encapsulated (v11 g) _)
rows_listed T right top (v11 g) (class ss) (k, C) = slices_listed T _ right top (v11 g) ss C first 7 (stands_next (1 ∷ []) _ (stands_encapsulated (v11 g) _) 7 refl)
rows_listed T right top v10 (list ps) (k, W, L) = owned_listed T _ v10 top ps L 6 (stands_encapsulated v10 _)
rows_listed T right top v10 (exception ss) (k, W, C) = slices_listed T _ right top v10 ss C first 7 (stands_next (0 ∷ []) _ (stands_encapsulated v10 _) 7 refl)
rows_listed T right top v10 (class ss) C = absurd C

pub listed_rows : ListedRows
listed_rows T top m f p n y h =
    let F = ((exact_message T top m f p n y).0 h).0 in
    subst (λ (z : List ℕ). Listed T z top p (rows T top f p)) (sym F.encoded) (rows_listed T (sound T F.table) top f p F.conforms)
