-- The result under the hub's own table: read to the same pieces but one, and listed with the same members but one.
--
--   owner_pieces            the pieces of the owner's slice
--   held_else, tagged_held, held_here, held_there     what the edited pieces hold, of other members and of the member
--   lists_tagged            the member is listed exactly if the owner's pieces have its tag
--   carried_differs, still_read     how the lists differ
--   others_kept, changed_here       the promises
use Rattle.std.specs.Prelude.{◌≡◌, ℕ, ◌≤◌, length}
use Rattle.std.proofs.Math.Path.{refl, ap, subst}
use Rattle.std.proofs.Common.{sym, ◌∙◌, subst₂, arith}
use Rattle.std.proofs.Math.Bool.{not}
use Rattle.std.proofs.Math.Option.{Option, none, some}
use mathlib.Core.List.{List, [], map}
use Rattle.encoding.specs.Table.{fine, faults, name_of, named, chain}
use Rattle.encoding.specs.Table
use Rattle.encoding.specs.Optional.{Piece}
use Rattle.encoding.specs.Slice.{Format, Slice}
use Rattle.encoding.specs.Message.{Pieces, list, exception, class, v11, encode, encapsulate, limit, rows, first_in, first_known}
use Rattle.encoding.specs.Conform.{Owned, Slices, Conform}
use Rattle.laws.proofs.RowsListed.{rows_listed}
use Rattle.edit.specs.Change.{Target, piece_for, put_piece, edit_pieces, edit_slice, edit, lists, changing}
use Rattle.edit.specs.ChangeDemands.{has_tag, those, Change, Others, afterwards, DiffersIn, StillRead, ChangedHere}
use Rattle.edit.proofs.TargetLaws.{Aim}
use Rattle.edit.proofs.PieceLaws.{Sound, level_edit}
use Rattle.edit.proofs.EditLaws.{Apart, edit_apart, apart_slices, by_name, list_owner, conform_edit, same_edit, first_kept, passed_kept, optionals_kept}
use Rattle.edit.proofs.HeldLaws.{Held, piece_held, slice_held, all_held, row_held, Of, listed_held, rows_others, rows_there, some_of, lists_held, held_others, held_tagged, held_mine, slices_mine, slices_others}
use Rattle.edit.proofs.MadeLaws.{Carried, carried, bounded_ok, edited_by, carried_accepted}

module _ (T : List ℕ) (right : faults T ≡ fine) (top : ℕ) (f : Format) (m : ℕ) (x : Target) where
  abbrev nm : List ℕ
  nm = name_of T x.owner

  abbrev key : ℕ
  key = x.member.key

  abbrev row : ℕ
  row = x.member.row

  -- ---- the owner's slice

  -- the pieces of the owner, in a message that conforms
  unfoldable pub owner_pieces : (p : Pieces) → Conform T top (v11 f) p → Aim T (chain T (first_known T top p)) m x → List Piece
  unfolding first_known
  owner_pieces (list ps) C A = ps
  owner_pieces (exception ss) C A = (apart_slices T right top f x.owner (by_name T right top f m x ss C.1 A.within) ss C.1 A.within).pieces
  owner_pieces (class ss) C A = (apart_slices T right top f x.owner (by_name T right top f m x ss C.1 A.within) ss C.1 A.within).pieces

  module _ (c : Option (List ℕ)) where
    abbrev edited : Pieces → Pieces
    edited p = edit nm key (piece_for x.member c) p

    -- ---- what is held of other members

    pub held_else : (p : Pieces) → Conform T top (v11 f) p → Aim T (chain T (first_known T top p)) m x → those (λ (h : Held). not (Of row h)) (all_held T top (edited p)) ≡ those (λ (h : Held). not (Of row h)) (all_held T top p)
    unfolding all_held edit first_known
    held_else (list ps) C A =
        subst (λ (z : ℕ). those (λ (h : Held). not (Of row h)) (piece_held T z (edit_pieces key (piece_for x.member c) ps)) ≡ those (λ (h : Held). not (Of row h)) (piece_held T z ps))
        (list_owner T right top f m x C.0 A.within) (held_others T right x.owner A.owner_right x.member A.found c ps)
    held_else (exception ss) C A = slices_others T right x.owner A.owner_right x.member A.found (by_name T right top f m x ss C.1 A.within) c ss
    held_else (class ss) C A = slices_others T right x.owner A.owner_right x.member A.found (by_name T right top f m x ss C.1 A.within) c ss

  -- ---- what is held of the member

  -- of the pieces with the tag
  abbrev pub tagged_held : List Piece → List Held
  tagged_held ps = those (Of row) (piece_held T x.owner (those (has_tag key) ps))

  -- what a message holds of the member is what its owner's pieces with the tag hold
  pub held_here : (p : Pieces) (C : Conform T top (v11 f) p) (A : Aim T (chain T (first_known T top p)) m x) → those (Of row) (all_held T top p) ≡ tagged_held (owner_pieces p C A)
  unfolding all_held first_known owner_pieces
  held_here (list ps) C A =
      ap (λ (z : ℕ). those (Of row) (piece_held T z ps)) (sym (list_owner T right top f m x C.0 A.within)) ∙ held_tagged T right x.owner A.owner_right x.member A.found ps
  held_here (exception ss) C A =
      let n = by_name T right top f m x ss C.1 A.within in
      let P = apart_slices T right top f x.owner n ss C.1 A.within in
      slices_mine T right x.owner A.owner_right x.member A.found n ss P ∙ held_tagged T right x.owner A.owner_right x.member A.found P.pieces
  held_here (class ss) C A =
      let n = by_name T right top f m x ss C.1 A.within in
      let P = apart_slices T right top f x.owner n ss C.1 A.within in
      slices_mine T right x.owner A.owner_right x.member A.found n ss P ∙ held_tagged T right x.owner A.owner_right x.member A.found P.pieces

  pub owner_owned : (p : Pieces) (C : Conform T top (v11 f) p) (A : Aim T (chain T (first_known T top p)) m x) → Owned T x.owner (owner_pieces p C A)
  unfolding first_known owner_pieces
  owner_owned (list ps) C A = subst (λ (z : ℕ). Owned T z ps) (sym (list_owner T right top f m x C.0 A.within)) C.2
  owner_owned (exception ss) C A = (apart_slices T right top f x.owner (by_name T right top f m x ss C.1 A.within) ss C.1 A.within).right
  owner_owned (class ss) C A = (apart_slices T right top f x.owner (by_name T right top f m x ss C.1 A.within) ss C.1 A.within).right

  -- the same of the edited slices, where the edited slice is the one of this name
  slices_now : (c : Option (List ℕ)) (ss : List Slice) → Slices T top (v11 f) ss → Aim T (chain T (first_in T ss)) m x → (P : Apart (Owned T x.owner) nm ss)
      → those (Of row) (slice_held T (map (edit_slice nm key (piece_for x.member c)) ss)) ≡ those (Of row) (piece_held T x.owner (edit_pieces key (piece_for x.member c) P.pieces))
  slices_now c ss C A P =
      slices_mine T right x.owner A.owner_right x.member A.found (by_name T right top f m x ss C A.within) {P = λ _. Unit {0}} (map (edit_slice nm key (piece_for x.member c)) ss) (record {
        ahead = P.ahead;
        pieces = edit_pieces key (piece_for x.member c) P.pieces;
        behind = P.behind;
        spelt = edit_apart nm key (piece_for x.member c) ss P;
        unlike_ahead = P.unlike_ahead;
        unlike_behind = P.unlike_behind;
        right = tt;
      })

  held_now : (c : Option (List ℕ)) (p : Pieces) (C : Conform T top (v11 f) p) (A : Aim T (chain T (first_known T top p)) m x)
      → those (Of row) (all_held T top (edit nm key (piece_for x.member c) p)) ≡ those (Of row) (piece_held T x.owner (edit_pieces key (piece_for x.member c) (owner_pieces p C A)))
  unfolding all_held first_known owner_pieces edit
  held_now c (list ps) C A = ap (λ (z : ℕ). those (Of row) (piece_held T z (edit_pieces key (piece_for x.member c) ps))) (sym (list_owner T right top f m x C.0 A.within))
  held_now c (exception ss) C A = slices_now c ss C.1 A (apart_slices T right top f x.owner (by_name T right top f m x ss C.1 A.within) ss C.1 A.within)
  held_now c (class ss) C A = slices_now c ss C.1 A (apart_slices T right top f x.owner (by_name T right top f m x ss C.1 A.within) ss C.1 A.within)

  -- what the edited message holds of the member: the new bytes, or nothing
  pub held_there : (c : Option (List ℕ)) → Sound x.member c → (p : Pieces) (C : Conform T top (v11 f) p) (A : Aim T (chain T (first_known T top p)) m x)
      → map (λ (h : Held). h.1) (those (Of row) (all_held T top (edit nm key (piece_for x.member c) p))) ≡ afterwards c
  unfolding put_piece piece_for piece_held those
  held_there c S p C A =
      let os = Table.optional_members T x.owner in
      let L = level_edit os x.member A.found A.short c S (Table.required_members T x.owner) 0 (owner_pieces p C A) (omega arith) (owner_owned p C A) in
      ap (map (λ (h : Held). h.1)) (held_now c p C A ∙ held_tagged T right x.owner A.owner_right x.member A.found (edit_pieces key (piece_for x.member c) (owner_pieces p C A))
      ∙ ap (λ (z : List Piece). those (Of row) (piece_held T x.owner z)) L.1) ∙ go c
    where
      go : (c : Option (List ℕ)) → map (λ (h : Held). h.1) (those (Of row) (piece_held T x.owner (put_piece (piece_for x.member c) []))) ≡ afterwards c
      go none = refl
      go (some b) = ap (map (λ (h : Held). h.1)) (held_mine T right x.owner A.owner_right x.member A.found b)

  -- ---- rows

  abbrev message : Pieces → List ℕ
  message p = encapsulate (v11 f) (encode (v11 f) p)

  pub rows_held : (p : Pieces) → Conform T top (v11 f) p → map (row_held (message p)) (rows T top (v11 f) p) ≡ all_held T top p
  rows_held p C = listed_held T (message p) top p (rows T top (v11 f) p) (rows_listed T right top (v11 f) p C)

  -- the member is listed exactly if its owner's pieces have the tag
  pub lists_tagged : (p : Pieces) (C : Conform T top (v11 f) p) (A : Aim T (chain T (first_known T top p)) m x) → lists row (rows T top (v11 f) p) ≡ some_of (tagged_held (owner_pieces p C A))
  lists_tagged p C A = lists_held (message p) row (rows T top (v11 f) p) ∙ ap (λ (l : List Held). some_of (those (Of row) l)) (rows_held p C) ∙ ap some_of (held_here p C A)

  rows_differ : (c : Option (List ℕ)) → Sound x.member c → (p : Pieces) → Conform T top (v11 f) p → Aim T (chain T (first_known T top p)) m x
      → DiffersIn row c (message p) (message (edit nm key (piece_for x.member c) p)) (rows T top (v11 f) p) (rows T top (v11 f) (edit nm key (piece_for x.member c) p))
  rows_differ c S p C A =
      let q : Pieces = edit nm key (piece_for x.member c) p in
      let E = conform_edit T right top f m x p C A c S in
      record {
        others = rows_others (message p) (message q) row (rows T top (v11 f) p) (rows T top (v11 f) q)
            (ap (those (λ (h : Held). not (Of row h))) (rows_held p C) ∙ sym (held_else c p C A) ∙ ap (those (λ (h : Held). not (Of row h))) (sym (rows_held q E)));
        there = rows_there (message q) row (rows T top (v11 f) q) ∙ ap (λ (l : List Held). map (λ (h : Held). h.1) (those (Of row) l)) (rows_held q E) ∙ held_there c S p C A;
      }

-- ---- the promises

module _ (T : List ℕ) (top : ℕ) (m : List ℕ) (f : Format) (p : Pieces) (member : ℕ) (c : Option (List ℕ)) (m' : List ℕ) where
  carried_of : Change T top m f p member c m' → Carried T top m f p member c m'
  unfolding changing
  carried_of X = carried T top m f p member c m' X.taken X.bytes X.accepted (bounded_ok _ X.space m' X.made).0

  within_limit : Change T top m f p member c m' → length m' ≤ limit
  unfolding changing
  within_limit X = (bounded_ok _ X.space m' X.made).1

  pub carried_differs : (K : Carried T top m f p member c m') → DiffersIn member c m m' (rows T top (v11 f) p) (rows T top (v11 f) (edited_by T p c K.made.place))
  carried_differs K =
      let x = K.made.place in
      subst₂ (λ (a b : List ℕ). DiffersIn member c a b (rows T top (v11 f) p) (rows T top (v11 f) (edited_by T p c x))) (sym K.follows.encoded) (sym K.made.is)
      (subst (λ (n : ℕ). DiffersIn n c (encapsulate (v11 f) (encode (v11 f) p)) (encapsulate (v11 f) (encode (v11 f) (edited_by T p c x))) (rows T top (v11 f) p) (rows T top (v11 f) (edited_by T p c x))) K.aim.row
      (rows_differ T K.table top f member x c K.sound_one p K.follows.conforms K.aim))

  pub still_read : Carried T top m f p member c m' → length m' ≤ limit → StillRead T top m f p member c m'
  still_read K h =
      let x = K.made.place in
      record {
        pieces = edited_by T p c x;
        accepted = carried_accepted K h;
        type = first_kept T (name_of T x.owner) x.member.key (piece_for x.member c) top p;
        optionals = optionals_kept T K.table top f member x p K.follows.conforms K.aim c K.sound_one;
        slices = passed_kept T (name_of T x.owner) x.member.key (piece_for x.member c) p;
        differs = carried_differs K;
      }

pub others_kept : Others
others_kept T top m f p member c m' X =
    let K = carried_of T top m f p member c m' X in
    record {
      place = K.made.place;
      found = K.made.found;
      pieces = edited_by T p c K.made.place;
      accepted = carried_accepted K (within_limit T top m f p member c m' X);
      kept = same_edit T K.table top f member K.made.place p K.follows.conforms K.aim c K.sound_one;
    }

pub changed_here : ChangedHere
changed_here T top m f p member c m' X = still_read T top m f p member c m' (carried_of T top m f p member c m' X) (within_limit T top m f p member c m' X)
