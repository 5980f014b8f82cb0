-- What an old table makes of pieces is encoded as they are.
--
--   lose_piece_bytes                    of a piece
--   lose_slice_data, lose_slice_front    of a slice: its data; its flags, type ID and size
--   lose_slices_last, lose_slices_bytes  of slices
--   lose_bytes                         of a message
--   lose_passed                        the slices skipped are no fewer
use Rattle.std.specs.Prelude.{◌≡◌, Bool, true, ◌||◌, ℕ, ◌≤◌}
use Rattle.std.proofs.Math.Path.{refl, ap, ap₂}
use Rattle.std.proofs.Common.{sym, ◌∙◌, arith}
use Rattle.std.proofs.Math.Option.{Option, none, some}
use mathlib.Core.List.{List, [], ◌∷◌, ◌++◌, map, append_assoc}
use Rattle.encoding.specs.Result.{pick, concat}
use Rattle.encoding.specs.Types.{bits_of}
use Rattle.encoding.specs.Table.{named, Member, lookup}
use Rattle.encoding.specs.Table
use Rattle.encoding.specs.Optional.{Piece, required, optional, skipped, header_bytes, length_bytes, front_bytes, content_bytes, piece_bytes, is_optional}
use Rattle.encoding.specs.Slice.{Format, Slice, known, passed, Stand, first, later, any_optional, has_optionals, id_of, data_bytes, slice_front, is_last}
use Rattle.encoding.specs.Message.{Pieces, list, exception, class, v11, encode, passed_in, slices_skipped, slices_bytes}
use Rattle.laws.specs.Lose.{keep_or, lose_piece, lose_known, lose_slice, lose}

pub lose_piece_bytes : (ms : List Member) (p : Piece) → piece_bytes (lose_piece ms p) ≡ piece_bytes p
unfolding lose_piece keep_or piece_bytes front_bytes content_bytes
lose_piece_bytes ms (required i b) = refl
lose_piece_bytes ms (optional t f b) = go (lookup t ms)
  where
    go : (o : Option Member) → piece_bytes (keep_or t f b o) ≡ piece_bytes (optional t f b)
    go none = sym (append_assoc (header_bytes t (bits_of f)) (length_bytes f b) b)
    go (some m) = refl
lose_piece_bytes ms (skipped t k b) = refl

lose_piece_optional : (ms : List Member) (p : Piece) → is_optional (lose_piece ms p) ≡ is_optional p
unfolding lose_piece keep_or is_optional
lose_piece_optional ms (required i b) = refl
lose_piece_optional ms (optional t f b) = go (lookup t ms)
  where
    go : (o : Option Member) → is_optional (keep_or t f b o) ≡ true
    go none = refl
    go (some m) = refl
lose_piece_optional ms (skipped t k b) = refl

lose_pieces_bytes : (ms : List Member) (ps : List Piece) → concat piece_bytes (map (lose_piece ms) ps) ≡ concat piece_bytes ps
unfolding concat
lose_pieces_bytes ms [] = refl
lose_pieces_bytes ms (p ∷ ps) = ap₂ ◌++◌ (lose_piece_bytes ms p) (lose_pieces_bytes ms ps)

lose_pieces_optional : (ms : List Member) (ps : List Piece) → any_optional (map (lose_piece ms) ps) ≡ any_optional ps
unfolding any_optional
lose_pieces_optional ms [] = refl
lose_pieces_optional ms (p ∷ ps) = ap₂ ◌||◌ (lose_piece_optional ms p) (lose_pieces_optional ms ps)

module _ (old : List ℕ) where
  pub lose_slice_data : (sl : Slice) → data_bytes (lose_slice old sl) ≡ data_bytes sl
  unfolding lose_slice lose_known data_bytes
  lose_slice_data (known o ps) = go (named old o)
    where
      go : (n : Option ℕ) → data_bytes (lose_known old o ps n) ≡ data_bytes (known o ps)
      go none = refl
      go (some t) = ap₂ (λ (b : List ℕ) (q : Bool). b ++ pick q (255 ∷ []) []) (lose_pieces_bytes (Table.optional_members old t) ps) (lose_pieces_optional (Table.optional_members old t) ps)
  lose_slice_data (passed b nm d) = refl

  lose_slice_flag : (sl : Slice) → has_optionals (lose_slice old sl) ≡ has_optionals sl
  unfolding lose_slice lose_known has_optionals
  lose_slice_flag (known o ps) = go (named old o)
    where
      go : (n : Option ℕ) → has_optionals (lose_known old o ps n) ≡ any_optional ps
      go none = refl
      go (some t) = lose_pieces_optional (Table.optional_members old t) ps
  lose_slice_flag (passed b nm d) = refl

  lose_slice_id : (sl : Slice) → id_of (lose_slice old sl) ≡ id_of sl
  unfolding lose_slice lose_known id_of
  lose_slice_id (known o ps) = go (named old o)
    where
      go : (n : Option ℕ) → id_of (lose_known old o ps n) ≡ o
      go none = refl
      go (some t) = refl
  lose_slice_id (passed b nm d) = refl

  pub lose_slice_front : (g : Format) (s : Stand) (last : Bool) (sl : Slice) → slice_front g s last (lose_slice old sl) ≡ slice_front g s last sl
  unfolding slice_front
  lose_slice_front g s last sl = rw (lose_slice_flag sl, lose_slice_id sl, lose_slice_data sl)

  pub lose_slices_last : (ss : List Slice) → is_last (map (lose_slice old) ss) ≡ is_last ss
  unfolding is_last
  lose_slices_last [] = refl
  lose_slices_last (s ∷ ss) = refl

  pub lose_slices_bytes : (g : Format) (s : Stand) (ss : List Slice) → slices_bytes (v11 g) s (map (lose_slice old) ss) ≡ slices_bytes (v11 g) s ss
  unfolding slices_bytes
  lose_slices_bytes g s [] = refl
  lose_slices_bytes g s (sl ∷ ss) =
      ap₂ (λ (f d : List ℕ). f ++ d ++ slices_bytes (v11 g) (later g) (map (lose_slice old) ss)) (ap (λ (b : Bool). slice_front g s b (lose_slice old sl)) (lose_slices_last ss) ∙ lose_slice_front g s (is_last ss) sl) (lose_slice_data sl)
      ∙ ap (λ (w : List ℕ). slice_front g s (is_last ss) sl ++ data_bytes sl ++ w) (lose_slices_bytes g (later g) ss)

  pub lose_bytes : (top : ℕ) (g : Format) (p : Pieces) → encode (v11 g) (lose old top p) ≡ encode (v11 g) p
  unfolding encode lose
  lose_bytes top g (list ps) = lose_pieces_bytes (Table.optional_members old top) ps
  lose_bytes top g (exception ss) = lose_slices_bytes g first ss
  lose_bytes top g (class ss) = ap (λ (w : List ℕ). 1 ∷ w) (lose_slices_bytes g first ss)

-- what the new table skipped the old one skips
lose_slices_passed : (old : List ℕ) (ss : List Slice) → passed_in ss ≤ passed_in (map (lose_slice old) ss)
unfolding passed_in lose_slice lose_known
lose_slices_passed old [] = omega arith
lose_slices_passed old (known o ps ∷ ss) = go (named old o) (lose_slices_passed old ss)
  where
    go : (n : Option ℕ) → passed_in ss ≤ passed_in (map (lose_slice old) ss) → passed_in ss ≤ passed_in (lose_known old o ps n ∷ map (lose_slice old) ss)
    go none h = omega arith
    go (some t) h = h
lose_slices_passed old (passed b nm d ∷ ss) = let h = lose_slices_passed old ss in omega arith

pub lose_passed : (old : List ℕ) (top : ℕ) (p : Pieces) → slices_skipped p ≤ slices_skipped (lose old top p)
unfolding slices_skipped lose
lose_passed old top (list ps) = omega arith
lose_passed old top (exception ss) = lose_slices_passed old ss
lose_passed old top (class ss) = lose_slices_passed old ss
