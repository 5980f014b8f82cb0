-- The bytes of one optional exchanged: in a message by segments, and in the data of a slice by its pieces.
--
--   slice_segments, list_segments     the exchange in a message that is a list of segments
--   fresh_bytes, is_setting, mark       the new member's bytes; whether one is set; an end marker, if there is one
--   DataCut, cut_set, cut_removed     the data of a slice before and after an edit
--   gap_empty, bytes_cut, bytes_now   the gap is empty exactly if the tag is not there; the bytes before and after an edit
use Rattle.std.specs.Prelude.{◌≡◌, Bool, false, ◌&&◌, ◌||◌, not, eqb, ltb}
use Rattle.std.proofs.Math.Path.{refl, sym, ap, ap₂}
use Rattle.std.proofs.Common.{◌∙◌, true≢false, eqb-true, eq-eqb, ne_eqb}
use Rattle.std.proofs.Math.Bool.{true}
use Rattle.std.proofs.lemmas.Bool.{eqb-false}
use Rattle.std.proofs.Math.Option.{Option, none, some}
use mathlib.Core.List.{List, [], ◌∷◌, ◌++◌, append_assoc, append-nil}
use Prim.Native.Nat.{ℕ, suc, ◌+◌, ◌-◌}
use native.Mathlib.Omega.{arith}
use Rattle.std.proofs.Math.ListN.{length, take, drop, length-append}
use Rattle.std.proofs.Math.Seq.{take_at, drop_at}
use Rattle.encoding.specs.Result.{pick, concat}
use Rattle.encoding.specs.Number.{le_bytes}
use Rattle.encoding.specs.Types.{bits_of}
use Rattle.encoding.specs.Table.{Member}
use Rattle.encoding.specs.Optional.{Piece, required, optional, skipped, header_bytes, length_bytes, front_bytes, content_bytes, piece_bytes, is_optional}
use Rattle.encoding.specs.Slice.{known, any_optional, data_bytes}
use Rattle.encoding.specs.Conform.{Level}
use Rattle.edit.specs.Change.{put_piece, edit_pieces}
use Rattle.edit.specs.Place.{Gap, gap, flagged, has_marker, cut_end, size_after, list_spliced, slice_spliced}
use Rattle.edit.proofs.GapLaws.{before, here_at, behind, cut_spelt, cut_edit, cut_of, concat_append, header_some}

-- ---- segments

module _ (L A I Z D₁ D₂ E w m : List ℕ) (g flag flags size end from to : ℕ) where
  abbrev all : List ℕ
  all = L ++ (A ++ (g ∷ (I ++ (Z ++ (D₁ ++ (D₂ ++ E))))))

  -- up to the flags, up to the data, up to the end of the exchange
  abbrev p₁ : List ℕ
  p₁ = L ++ (A ++ (g ∷ []))

  abbrev p₂ : List ℕ
  p₂ = p₁ ++ (I ++ Z)

  abbrev p₃ : List ℕ
  p₃ = p₂ ++ (D₁ ++ D₂)

  spelt₁ : (y : List ℕ) → L ++ (A ++ (g ∷ y)) ≡ p₁ ++ y
  spelt₁ y = sym (append_assoc L (A ++ (g ∷ [])) y ∙ ap (λ (z : List ℕ). L ++ z) (append_assoc A (g ∷ []) y))

  spelt₂ : (y : List ℕ) → L ++ (A ++ (g ∷ (I ++ (Z ++ y)))) ≡ p₂ ++ y
  spelt₂ y = spelt₁ (I ++ (Z ++ y)) ∙ sym (append_assoc p₁ (I ++ Z) y ∙ ap (λ (z : List ℕ). p₁ ++ z) (append_assoc I Z y))

  spelt₃ : all ≡ p₃ ++ E
  spelt₃ = spelt₂ (D₁ ++ (D₂ ++ E)) ∙ sym (append_assoc p₂ (D₁ ++ D₂) E ∙ ap (λ (z : List ℕ). p₂ ++ z) (append_assoc D₁ D₂ E))

  pub slice_segments : m ≡ all → length L ≡ 4 → length Z ≡ 4 → flags ≡ 4 + length A → size ≡ flags + 1 + length I → from ≡ size + 4 + length D₁ → to ≡ from + length D₂
      → slice_spliced flags size end from to flag w m
      ≡ le_bytes 4 (length m - length D₂ + length w) ++ (A ++ (flag ∷ (I ++ (le_bytes 4 (end - size - length D₂ + length w) ++ (D₁ ++ (w ++ E))))))
  unfolding slice_spliced size_after
  slice_segments e l z f s a b =
      let n₁ : length p₁ ≡ flags + 1 = omega (arith, length-append L (A ++ (g ∷ [])), length-append A (g ∷ [])) in
      let n₂ : length p₂ ≡ size + 4 = omega (arith, n₁, length-append p₁ (I ++ Z), length-append I Z) in
      let n₃ : length p₃ ≡ to = omega (arith, n₂, length-append p₂ (D₁ ++ D₂), length-append D₁ D₂) in
      let t₁ : take (flags - 4) (drop 4 m) ≡ A = ap (λ (y : List ℕ). take (flags - 4) (drop 4 y)) e ∙ ap (take (flags - 4)) (drop_at L _ 4 l) ∙ take_at A _ (flags - 4) (omega arith) in
      let t₂ : take (size - (flags + 1)) (drop (flags + 1) m) ≡ I = ap (λ (y : List ℕ). take (size - (flags + 1)) (drop (flags + 1) y)) (e ∙ spelt₁ _) ∙ ap (take (size - (flags + 1))) (drop_at p₁ _ (flags + 1) n₁) ∙ take_at I _ (size - (flags + 1)) (omega arith) in
      let t₃ : take (from - (size + 4)) (drop (size + 4) m) ≡ D₁ = ap (λ (y : List ℕ). take (from - (size + 4)) (drop (size + 4) y)) (e ∙ spelt₂ _) ∙ ap (take (from - (size + 4))) (drop_at p₂ _ (size + 4) n₂) ∙ take_at D₁ _ (from - (size + 4)) (omega arith) in
      let t₄ : drop to m ≡ E = ap (drop to) (e ∙ spelt₃) ∙ drop_at p₃ E to n₃ in
      let d : to - from ≡ length D₂ = omega arith in
      rw (t₁, t₂, t₃, t₄, d) refl

module _ (L A D₂ E w m : List ℕ) (from to : ℕ) where
  pub list_segments : m ≡ L ++ (A ++ (D₂ ++ E)) → length L ≡ 4 → from ≡ 4 + length A → to ≡ from + length D₂ → list_spliced from to w m ≡ le_bytes 4 (length m - length D₂ + length w) ++ (A ++ (w ++ E))
  unfolding list_spliced size_after
  list_segments e l f b =
      let p : List ℕ = L ++ (A ++ D₂) in
      let s : m ≡ p ++ E = e ∙ sym (append_assoc L (A ++ D₂) E ∙ ap (λ (z : List ℕ). L ++ z) (append_assoc A D₂ E)) in
      let n : length p ≡ to = omega (arith, length-append L (A ++ D₂), length-append A D₂) in
      let t₁ : take (from - 4) (drop 4 m) ≡ A = ap (λ (y : List ℕ). take (from - 4) (drop 4 y)) e ∙ ap (take (from - 4)) (drop_at L _ 4 l) ∙ take_at A _ (from - 4) (omega arith) in
      let t₂ : drop to m ≡ E = ap (drop to) s ∙ drop_at p E to n in
      let d : to - from ≡ length D₂ = omega arith in
      rw (t₁, t₂, d) refl

-- ---- the data of a slice

-- the new member's bytes
abbrev pub fresh_bytes : Option Piece → List ℕ
fresh_bytes new = concat piece_bytes (put_piece new [])

fresh_put : (new : Option Piece) (ps : List Piece) → concat piece_bytes (put_piece new ps) ≡ fresh_bytes new ++ concat piece_bytes ps
unfolding put_piece concat
fresh_put none ps = refl
fresh_put (some p) ps = ap (λ (z : List ℕ). z ++ concat piece_bytes ps) (sym (append-nil (piece_bytes p)))

-- a member is set
unfoldable pub is_setting : Option Piece → Bool
is_setting none = false
is_setting (some p) = true

abbrev pub mark : Bool → List ℕ
mark q = pick q (255 ∷ []) []

-- what goes, and what stays after it
pub record DataCut (k : ℕ) (nm : List ℕ) (new : Option Piece) (ps : List Piece) (g : Gap) : Type 0 where
  pub gone : List ℕ
  pub stays : List ℕ
  pub old : data_bytes (known nm ps) ≡ concat piece_bytes (before k ps) ++ (gone ++ stays)
  pub now : data_bytes (known nm (edit_pieces k new ps)) ≡ concat piece_bytes (before k ps) ++ ((fresh_bytes new ++ mark (has_marker (is_setting new) g)) ++ stays)
  pub ends : length (concat piece_bytes (before k ps)) + length gone ≡ cut_end (is_setting new) g
  pub flags : any_optional (edit_pieces k new ps) ≡ flagged (is_setting new) g

any_append : (a b : List Piece) → any_optional (a ++ b) ≡ any_optional a || any_optional b
unfolding any_optional
any_append [] b = refl
any_append (p ∷ a) b = ap (λ (q : Bool). is_optional p || q) (any_append a b) ∙ go (is_optional p) (any_optional a) (any_optional b)
  where
    go : (x y z : Bool) → x || (y || z) ≡ (x || y) || z
    go true y z = refl
    go false y z = refl

or_yes : (q : Bool) → q || true ≡ true
or_yes true = refl
or_yes false = refl

level_none : (os : List Member) (least : ℕ) (ps : List Piece) → Level [] os least ps → any_optional ps ≡ false → ps ≡ []
unfolding any_optional is_optional
level_none os least [] L e = refl
level_none os least (required i b ∷ ps) L e = absurd L
level_none os least (optional t f b ∷ ps) L e = absurd (true≢false e)
level_none os least (skipped t f b ∷ ps) L e = absurd (true≢false e)

-- after the gap there are only optionals
behind_none : (k : ℕ) (ms os : List Member) (least : ℕ) (ps : List Piece) → Level ms os least ps → any_optional (behind k ps) ≡ false → behind k ps ≡ []
unfolding behind any_optional is_optional
behind_none k [] os least [] L e = refl
behind_none k [] os least (required i b ∷ ps) L e = absurd L
behind_none k [] os least (optional t f b ∷ ps) L e = go (ltb t k) (eqb t k) e (λ e. behind_none k [] os (suc t) ps L.1 e)
  where
    go : (x y : Bool) → any_optional (pick x (behind k ps) (pick y ps (optional t f b ∷ ps))) ≡ false → (any_optional (behind k ps) ≡ false → behind k ps ≡ []) → pick x (behind k ps) (pick y ps (optional t f b ∷ ps)) ≡ []
    go true y e ih = ih e
    go false true e ih = level_none os (suc t) ps L.1 e
    go false false e ih = absurd (true≢false e)
behind_none k [] os least (skipped t f b ∷ ps) L e = go (ltb t k) (eqb t k) e (λ e. behind_none k [] os (suc t) ps L.1 e)
  where
    go : (x y : Bool) → any_optional (pick x (behind k ps) (pick y ps (skipped t f b ∷ ps))) ≡ false → (any_optional (behind k ps) ≡ false → behind k ps ≡ []) → pick x (behind k ps) (pick y ps (skipped t f b ∷ ps)) ≡ []
    go true y e ih = ih e
    go false true e ih = level_none os (suc t) ps L.1 e
    go false false e ih = absurd (true≢false e)
behind_none k (m ∷ ms) os least [] L e = absurd L
behind_none k (m ∷ ms) os least (required i b ∷ ps) L e = behind_none k ms os least ps L.2 e
behind_none k (m ∷ ms) os least (optional t f b ∷ ps) L e = absurd L
behind_none k (m ∷ ms) os least (skipped t f b ∷ ps) L e = absurd L

-- at the gap there is at most one optional, which has bytes
here_some : (k : ℕ) (ps : List Piece) → eqb (length (concat piece_bytes (here_at k ps))) 0 ≡ not (any_optional (here_at k ps))
unfolding here_at any_optional is_optional concat piece_bytes front_bytes content_bytes
here_some k [] = refl
here_some k (required i b ∷ ps) = here_some k ps
here_some k (optional t f b ∷ ps) = go (ltb t k) (eqb t k) (here_some k ps)
  where
    go : (x y : Bool) → eqb (length (concat piece_bytes (here_at k ps))) 0 ≡ not (any_optional (here_at k ps))
        → eqb (length (concat piece_bytes (pick x (here_at k ps) (pick y (optional t f b ∷ []) [])))) 0 ≡ not (any_optional (pick x (here_at k ps) (pick y (optional t f b ∷ []) [])))
    go true y ih = ih
    go false true ih =
        ne_eqb (length (header_bytes t (bits_of f) ++ length_bytes f b ++ b ++ [])) 0 (λ e. omega (arith, header_some t (bits_of f), length-append (header_bytes t (bits_of f) ++ length_bytes f b ++ b) [], length-append (header_bytes t (bits_of f) ++ length_bytes f b) b, length-append (header_bytes t (bits_of f)) (length_bytes f b)))
    go false false ih = refl
here_some k (skipped t f b ∷ ps) = go (ltb t k) (eqb t k) (here_some k ps)
  where
    go : (x y : Bool) → eqb (length (concat piece_bytes (here_at k ps))) 0 ≡ not (any_optional (here_at k ps))
        → eqb (length (concat piece_bytes (pick x (here_at k ps) (pick y (skipped t f b ∷ []) [])))) 0 ≡ not (any_optional (pick x (here_at k ps) (pick y (skipped t f b ∷ []) [])))
    go true y ih = ih
    go false true ih = ne_eqb (length (header_bytes t f ++ b ++ [])) 0 (λ e. omega (arith, header_some t f, length-append (header_bytes t f ++ b) [], length-append (header_bytes t f) b))
    go false false ih = refl

here_none : (k : ℕ) (ps : List Piece) → any_optional (here_at k ps) ≡ false → concat piece_bytes (here_at k ps) ≡ []
here_none k ps e = empty (concat piece_bytes (here_at k ps)) (eqb-true (length (concat piece_bytes (here_at k ps))) 0 (here_some k ps ∙ ap not e))
  where
    empty : (l : List ℕ) → length l ≡ 0 → l ≡ []
    empty [] h = refl
    empty (x ∷ l) h = absurd (omega arith)

-- the gap is empty exactly if the tag is not there
pub gap_empty : (k : ℕ) (ps : List Piece) → eqb (cut_of k ps).from (cut_of k ps).to ≡ not (any_optional (here_at k ps))
unfolding gap
gap_empty k ps = go (eqb (length (concat piece_bytes (here_at k ps))) 0) refl ∙ here_some k ps
  where
    a : ℕ
    a = length (concat piece_bytes (before k ps))

    go : (q : Bool) → eqb (length (concat piece_bytes (here_at k ps))) 0 ≡ q → eqb a (a + length (concat piece_bytes (here_at k ps))) ≡ q
    go true e = eq-eqb a _ (omega (arith, eqb-true (length (concat piece_bytes (here_at k ps))) 0 e))
    go false e = ne_eqb a _ (λ z. eqb-false (length (concat piece_bytes (here_at k ps))) 0 e (omega arith))

module _ (k : ℕ) (ps : List Piece) where
  abbrev B : List ℕ
  B = concat piece_bytes (before k ps)

  abbrev H : List ℕ
  H = concat piece_bytes (here_at k ps)

  abbrev R : List ℕ
  R = concat piece_bytes (behind k ps)

  pub bytes_cut : concat piece_bytes ps ≡ B ++ (H ++ R)
  bytes_cut = ap (concat piece_bytes) (cut_spelt k ps) ∙ concat_append (before k ps) (here_at k ps ++ behind k ps) ∙ ap (λ (z : List ℕ). B ++ z) (concat_append (here_at k ps) (behind k ps))

  pub bytes_now : (new : Option Piece) → concat piece_bytes (edit_pieces k new ps) ≡ B ++ (fresh_bytes new ++ R)
  bytes_now new = ap (concat piece_bytes) (cut_edit k new ps) ∙ concat_append (before k ps) (put_piece new (behind k ps)) ∙ ap (λ (z : List ℕ). B ++ z) (fresh_put new (behind k ps))

  any_cut : any_optional ps ≡ any_optional (before k ps) || (any_optional (here_at k ps) || any_optional (behind k ps))
  any_cut = ap any_optional (cut_spelt k ps) ∙ any_append (before k ps) (here_at k ps ++ behind k ps) ∙ ap (λ (q : Bool). any_optional (before k ps) || q) (any_append (here_at k ps) (behind k ps))

  any_now : (new : Option Piece) → any_optional (edit_pieces k new ps) ≡ any_optional (before k ps) || any_optional (put_piece new (behind k ps))
  any_now new = ap any_optional (cut_edit k new ps) ∙ any_append (before k ps) (put_piece new (behind k ps))

module _ (k : ℕ) (nm : List ℕ) (ms os : List Member) (ps : List Piece) (L : Level ms os 0 ps) where
  -- the whole data from these
  data_old : (q : Bool) → any_optional ps ≡ q → data_bytes (known nm ps) ≡ (B k ps) ++ ((H k ps) ++ ((R k ps) ++ mark q))
  unfolding data_bytes
  data_old q e = ap₂ (λ (z : List ℕ) (w : Bool). z ++ mark w) (bytes_cut k ps) e ∙ append_assoc (B k ps) ((H k ps) ++ (R k ps)) (mark q) ∙ ap (λ (z : List ℕ). (B k ps) ++ z) (append_assoc (H k ps) (R k ps) (mark q))

  data_now : (new : Option Piece) (q : Bool) → any_optional (edit_pieces k new ps) ≡ q → data_bytes (known nm (edit_pieces k new ps)) ≡ (B k ps) ++ (fresh_bytes new ++ ((R k ps) ++ mark q))
  unfolding data_bytes
  data_now new q e = ap₂ (λ (z : List ℕ) (w : Bool). z ++ mark w) (bytes_now k ps new) e ∙ append_assoc (B k ps) (fresh_bytes new ++ (R k ps)) (mark q) ∙ ap (λ (z : List ℕ). (B k ps) ++ z) (append_assoc (fresh_bytes new) (R k ps) (mark q))

  none_behind : any_optional (behind k ps) ≡ false → (R k ps) ≡ []
  unfolding concat
  none_behind e = ap (concat piece_bytes) (behind_none k ms os 0 ps L e)

  -- setting
  pub cut_set : (p : Piece) → is_optional p ≡ true → DataCut k nm (some p) ps (cut_of k ps)
  unfolding is_setting flagged has_marker cut_end gap put_piece any_optional
  cut_set p o = go (any_optional (before k ps)) refl (any_optional (here_at k ps)) refl (any_optional (behind k ps)) refl
    where
      flags₁ : any_optional (edit_pieces k (some p) ps) ≡ true
      flags₁ = any_now k ps (some p) ∙ ap (λ (q : Bool). any_optional (before k ps) || (q || any_optional (behind k ps))) o ∙ or_yes (any_optional (before k ps))

      marker : (x y z : Bool) → any_optional (before k ps) ≡ x → any_optional (here_at k ps) ≡ y → any_optional (behind k ps) ≡ z
          → eqb (cut_of k ps).from (cut_of k ps).to && not (any_optional (before k ps) || any_optional (behind k ps)) ≡ not y && not (x || z)
      marker x y z a b c = ap₂ (λ (u v : Bool). u && not v) (gap_empty k ps ∙ ap not b) (ap₂ ◌||◌ a c)

      kept : (x y z : Bool) → any_optional (before k ps) ≡ x → any_optional (here_at k ps) ≡ y → any_optional (behind k ps) ≡ z → x || (y || z) ≡ true → not y && not (x || z) ≡ false → DataCut k nm (some p) ps (cut_of k ps)
      kept x y z a b c e n = record {
        gone = (H k ps);
        stays = (R k ps) ++ mark true;
        old = data_old true (any_cut k ps ∙ ap₂ ◌||◌ a (ap₂ ◌||◌ b c) ∙ e);
        now = data_now (some p) true flags₁ ∙ ap (λ (w : List ℕ). (B k ps) ++ (w ++ ((R k ps) ++ mark true))) (sym (ap (λ (q : Bool). fresh_bytes (some p) ++ mark q) (marker x y z a b c ∙ n) ∙ append-nil (fresh_bytes (some p))));
        ends = refl;
        flags = flags₁;
      }

      go : (x : Bool) → any_optional (before k ps) ≡ x → (y : Bool) → any_optional (here_at k ps) ≡ y → (z : Bool) → any_optional (behind k ps) ≡ z → DataCut k nm (some p) ps (cut_of k ps)
      go true a true b z c = kept true true z a b c refl refl
      go true a false b z c = kept true false z a b c refl refl
      go false a true b z c = kept false true z a b c refl refl
      go false a false b true c = kept false false true a b c refl refl
      go false a false b false c = record {
        gone = [];
        stays = [];
        old = data_old false (any_cut k ps ∙ ap₂ ◌||◌ a (ap₂ ◌||◌ b c)) ∙ ap₂ (λ (h r : List ℕ). (B k ps) ++ (h ++ (r ++ []))) (here_none k ps b) (none_behind c);
        now = data_now (some p) true flags₁ ∙ ap (λ (r : List ℕ). (B k ps) ++ (fresh_bytes (some p) ++ (r ++ mark true))) (none_behind c)
            ∙ ap (λ (w : List ℕ). (B k ps) ++ w) (ap (λ (q : Bool). fresh_bytes (some p) ++ mark q) (sym (marker false false false a b c)) ∙ sym (append-nil (fresh_bytes (some p) ++ mark (eqb (cut_of k ps).from (cut_of k ps).to && not (any_optional (before k ps) || any_optional (behind k ps))))));
        ends = omega (arith, ap length (here_none k ps b));
        flags = flags₁;
      }

  -- removing what is there
  pub cut_removed : any_optional (here_at k ps) ≡ true → DataCut k nm none ps (cut_of k ps)
  unfolding is_setting flagged has_marker cut_end gap put_piece concat
  cut_removed h = go (any_optional (before k ps) || any_optional (behind k ps)) refl
    where
      whole : any_optional ps ≡ true
      whole = any_cut k ps ∙ ap (λ (q : Bool). any_optional (before k ps) || (q || any_optional (behind k ps))) h ∙ or_yes (any_optional (before k ps))

      none_other : (x y : Bool) → x || y ≡ false → y ≡ false
      none_other true y e = absurd (true≢false e)
      none_other false y e = e

      go : (q : Bool) → any_optional (before k ps) || any_optional (behind k ps) ≡ q → DataCut k nm none ps (cut_of k ps)
      go true e = record {
        gone = (H k ps);
        stays = (R k ps) ++ mark true;
        old = data_old true whole;
        now = data_now none true (any_now k ps none ∙ e);
        ends = sym (ap (λ (w : Bool). pick w (length (B k ps) + length (H k ps)) (length (B k ps) + length (H k ps) + 1)) e);
        flags = any_now k ps none;
      }
      go false e =
          let r = none_behind (none_other (any_optional (before k ps)) (any_optional (behind k ps)) e) in
          record {
            gone = (H k ps) ++ mark true;
            stays = [];
            old = data_old true whole ∙ ap (λ (z : List ℕ). (B k ps) ++ ((H k ps) ++ (z ++ mark true))) r ∙ ap (λ (z : List ℕ). (B k ps) ++ z) (sym (append-nil ((H k ps) ++ mark true)));
            now = data_now none false (any_now k ps none ∙ e) ∙ ap (λ (z : List ℕ). (B k ps) ++ (z ++ [])) r;
            ends = omega (arith, length-append (H k ps) (mark true)) ∙ sym (ap (λ (w : Bool). pick w (length (B k ps) + length (H k ps)) (length (B k ps) + length (H k ps) + 1)) e);
            flags = any_now k ps none;
          }
