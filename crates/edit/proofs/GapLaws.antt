-- The place of a tag in the bytes of an owner's members is where the edit cuts its pieces.
--
--   before, here_at, behind   the pieces before those of tag k, the piece of tag k if it is there, and the pieces after it
--   cut_spelt, cut_edit      they are all the pieces; the edited pieces are those before, the new one, those after
--   Read                     an optional as the search reads it
--   cut_of, gap_owned         the gap that an edit cuts, in bytes; the search finds it
use Rattle.std.specs.Prelude.{◌≡◌, Bool, false, ◌||◌, not, drop, eqb, ltb}
use Rattle.std.proofs.Math.Path.{refl, ap, subst}
use Rattle.std.proofs.Common.{sym, ap₂, ◌∙◌, true≢false, arith, drop_at}
use Rattle.std.proofs.Math.Bool.{true}
use Rattle.std.proofs.Math.Option.{Option}
use mathlib.Core.List.{List, [], ◌∷◌, ◌++◌, append_assoc, append-nil}
use Prim.Native.Nat.{ℕ, zero, suc, ◌+◌, ◌*◌, ◌≤◌, ◌<◌}
use Rattle.std.proofs.Math.ListN.{length, length-append}
use borrow.Author.Tests.{eqb-true, eqb-false, eq-eqb, ne_eqb, ltb-true, ltb-false, lt-ltb, le-ltb}
use Rattle.encoding.specs.Result.{ok, pick, concat}
use Rattle.encoding.specs.Number.{Short, size_bytes}
use Rattle.encoding.specs.Types.{Ty, Form, Bits, bits, bits_of, form_of}
use Rattle.encoding.proofs.TypesLaws.{bits_below}
use Rattle.encoding.specs.Grammar.{IsValue, IsExtent, ListsRise}
use Rattle.encoding.proofs.ExactLaws.{extent_is}
use Rattle.encoding.proofs.OptionalFormLaws.{is_form}
use Rattle.encoding.proofs.OptionalLaws.{part_extent}
use Rattle.encoding.proofs.ListLaws.{MembersRise, found_rises, required_rise, optional_rise}
use Rattle.encoding.specs.Table.{fine, faults, Member, lookup}
use Rattle.encoding.specs.Table
use Rattle.encoding.specs.Optional.{Piece, required, optional, skipped, part, header_bytes, length_bytes, front_bytes, content_bytes, piece_bytes, is_optional, next_optional}
use Rattle.encoding.specs.Slice.{any_optional}
use Rattle.encoding.specs.Conform.{Known, Unknown, Level, Owned}
use Rattle.laws.proofs.OptionalExact.{part_written, unknown, optional_written, any_optional_append, Parts, level_parts}
use Rattle.edit.specs.Change.{put_piece, among, edit_pieces}
use Rattle.edit.specs.Place.{Gap, gap, closed, seek_at, seek_piece, seek_next, seek_tag, moved_by, after_required, gap_in}

-- ---- the pieces of an edit

module _ (k : ℕ) where
  -- the required pieces, and the optionals with a smaller tag
  unfoldable pub before : List Piece → List Piece
  before [] = []
  before (required i b ∷ ps) = required i b ∷ before ps
  before (optional t f b ∷ ps) = pick (ltb t k) (optional t f b ∷ before ps) []
  before (skipped t f b ∷ ps) = pick (ltb t k) (skipped t f b ∷ before ps) []

  -- the optional of the tag, if it is there
  unfoldable pub here_at : List Piece → List Piece
  here_at [] = []
  here_at (required i b ∷ ps) = here_at ps
  here_at (optional t f b ∷ ps) = pick (ltb t k) (here_at ps) (pick (eqb t k) (optional t f b ∷ []) [])
  here_at (skipped t f b ∷ ps) = pick (ltb t k) (here_at ps) (pick (eqb t k) (skipped t f b ∷ []) [])

  -- the optionals with a greater tag
  unfoldable pub behind : List Piece → List Piece
  behind [] = []
  behind (required i b ∷ ps) = behind ps
  behind (optional t f b ∷ ps) = pick (ltb t k) (behind ps) (pick (eqb t k) ps (optional t f b ∷ ps))
  behind (skipped t f b ∷ ps) = pick (ltb t k) (behind ps) (pick (eqb t k) ps (skipped t f b ∷ ps))

  pub cut_spelt : (ps : List Piece) → ps ≡ before ps ++ (here_at ps ++ behind ps)
  unfolding before here_at behind
  cut_spelt [] = refl
  cut_spelt (required i b ∷ ps) = ap (λ (l : List Piece). required i b ∷ l) (cut_spelt ps)
  cut_spelt (optional t f b ∷ ps) = go (ltb t k) (eqb t k) (cut_spelt ps)
    where
      p : Piece
      p = optional t f b

      go : (x y : Bool) → ps ≡ before ps ++ (here_at ps ++ behind ps) → p ∷ ps ≡ pick x (p ∷ before ps) [] ++ (pick x (here_at ps) (pick y (p ∷ []) []) ++ pick x (behind ps) (pick y ps (p ∷ ps)))
      go true y ih = ap (λ (l : List Piece). p ∷ l) ih
      go false true ih = refl
      go false false ih = refl
  cut_spelt (skipped t f b ∷ ps) = go (ltb t k) (eqb t k) (cut_spelt ps)
    where
      p : Piece
      p = skipped t f b

      go : (x y : Bool) → ps ≡ before ps ++ (here_at ps ++ behind ps) → p ∷ ps ≡ pick x (p ∷ before ps) [] ++ (pick x (here_at ps) (pick y (p ∷ []) []) ++ pick x (behind ps) (pick y ps (p ∷ ps)))
      go true y ih = ap (λ (l : List Piece). p ∷ l) ih
      go false true ih = refl
      go false false ih = refl

  pub cut_edit : (new : Option Piece) (ps : List Piece) → edit_pieces k new ps ≡ before ps ++ put_piece new (behind ps)
  unfolding before behind edit_pieces among
  cut_edit new [] = refl
  cut_edit new (required i b ∷ ps) = ap (λ (l : List Piece). required i b ∷ l) (cut_edit new ps)
  cut_edit new (optional t f b ∷ ps) = go (ltb t k) (eqb t k) (cut_edit new ps)
    where
      p : Piece
      p = optional t f b

      go : (x y : Bool) → edit_pieces k new ps ≡ before ps ++ put_piece new (behind ps)
          → pick x (p ∷ edit_pieces k new ps) (put_piece new (pick y ps (p ∷ ps))) ≡ pick x (p ∷ before ps) [] ++ put_piece new (pick x (behind ps) (pick y ps (p ∷ ps)))
      go true y ih = ap (λ (l : List Piece). p ∷ l) ih
      go false y ih = refl
  cut_edit new (skipped t f b ∷ ps) = go (ltb t k) (eqb t k) (cut_edit new ps)
    where
      p : Piece
      p = skipped t f b

      go : (x y : Bool) → edit_pieces k new ps ≡ before ps ++ put_piece new (behind ps)
          → pick x (p ∷ edit_pieces k new ps) (put_piece new (pick y ps (p ∷ ps))) ≡ pick x (p ∷ before ps) [] ++ put_piece new (pick x (behind ps) (pick y ps (p ∷ ps)))
      go true y ih = ap (λ (l : List Piece). p ∷ l) ih
      go false y ih = refl

pub gap_same : {a a' b b' : ℕ} {q q' : Bool} → a ≡ a' → b ≡ b' → q ≡ q' → gap a b q ≡ gap a' b' q'
gap_same {a} {a'} {b} {b'} {q} {q'} e f g = ap (λ (z : ℕ). gap z b q) e ∙ ap (λ (z : ℕ). gap a' z q) f ∙ ap (gap a' b') g

-- ---- a piece read without a look at its value

known_extent : (t : Ty) → ListsRise t → (b : List ℕ) → IsValue t b → Short (length b) → IsExtent (bits_of (form_of t)) (length_bytes (form_of t) b ++ b)
known_extent t R b w s =
    let E = part_extent (form_of t) (length_bytes (form_of t) b ++ b) (ap (part (form_of t)) (sym (append-nil (length_bytes (form_of t) b ++ b))) ∙ part_written t R b [] w s) in
    extent_is (bits_of (form_of t)) (length_bytes (form_of t) b ++ b) E.0 E.1

closed_header : (t : ℕ) (k : Bits) (r : List ℕ) → closed (header_bytes t k ++ r) ≡ false
unfolding closed header_bytes
closed_header t k r = go (ltb t 30) refl (bits_below k)
  where
    go : (q : Bool) → ltb t 30 ≡ q → bits k < 8 → closed (pick q ((t * 8 + bits k) ∷ []) ((240 + bits k) ∷ size_bytes t) ++ r) ≡ false
    go true e b = ne_eqb (t * 8 + bits k) 255 (omega (arith, ltb-true t 30 e))
    go false e b = ne_eqb (240 + bits k) 255 (omega arith)

-- of an optional, known or not: it does not end the optionals, and is read as a skipped one
pub record Read (least t : ℕ) (p : Piece) (r : List ℕ) : Type 0 where
  pub type : Bits
  pub bytes : List ℕ
  pub opens : closed (piece_bytes p ++ r) ≡ false
  pub reads : next_optional [] least (piece_bytes p ++ r) ≡ ok (skipped t type bytes, suc t) (length (piece_bytes p))

module _ (os : List Member) (rise : MembersRise os) where
  known_read : (least t : ℕ) (f : Form) (b r : List ℕ) → Known os least t f b → Read least t (optional t f b) r
  unfolding piece_bytes front_bytes content_bytes lookup
  known_read least t f b r K = record {
    type = bits_of f;
    bytes = length_bytes f b ++ b;
    opens = ap closed (append_assoc (header_bytes t (bits_of f) ++ length_bytes f b) b r ∙ append_assoc (header_bytes t (bits_of f)) (length_bytes f b) (b ++ r)) ∙ closed_header t (bits_of f) (length_bytes f b ++ (b ++ r));
    reads = subst (λ (z : List ℕ). next_optional [] least (z ++ r) ≡ ok (skipped t (bits_of f) (length_bytes f b ++ b), suc t) (length z)) (sym (append_assoc (header_bytes t (bits_of f)) (length_bytes f b) b))
        (optional_written {ms = []} tt (unknown (record {
          absent = refl;
          rises = K.rises;
          whole = subst (λ (g : Form). IsExtent (bits_of g) (length_bytes g b ++ b)) (is_form K.form) (known_extent K.member.ty (found_rises t os K.member rise K.found) b K.one K.length_short);
          tag_short = K.tag_short;
        })) r);
  }

  unknown_read : (least t : ℕ) (k : Bits) (b r : List ℕ) → Unknown os least t k b → Read least t (skipped t k b) r
  unfolding piece_bytes front_bytes content_bytes lookup
  unknown_read least t k b r U = record {
    type = k;
    bytes = b;
    opens = ap closed (append_assoc (header_bytes t k) b r) ∙ closed_header t k (b ++ r);
    reads = optional_written {ms = []} tt (unknown (record { absent = refl; rises = U.rises; whole = U.whole; tag_short = U.tag_short })) r;
  }

  -- ---- the place among optionals

  -- some optional follows, unless there are none
  rest_closed : (least : ℕ) (ps : List Piece) (r : List ℕ) → Level [] os least ps → closed r ≡ true → closed (concat piece_bytes ps ++ r) ≡ not (any_optional ps)
  unfolding concat any_optional is_optional
  rest_closed least [] r L e = e
  rest_closed least (required i b ∷ ps) r L e = absurd L
  rest_closed least (optional t f b ∷ ps) r L e = ap closed (append_assoc (piece_bytes (optional t f b)) (concat piece_bytes ps) r) ∙ (known_read least t f b (concat piece_bytes ps ++ r) L.0).opens
  rest_closed least (skipped t f b ∷ ps) r L e = ap closed (append_assoc (piece_bytes (skipped t f b)) (concat piece_bytes ps) r) ∙ (unknown_read least t f b (concat piece_bytes ps ++ r) L.0).opens

  or_none : (q : Bool) → q || (false || false) ≡ q
  or_none true = refl
  or_none false = refl

  or_yes : (q r : Bool) → r ≡ true → q || r ≡ true
  or_yes true r e = refl
  or_yes false r e = e

  or_assoc : (q r : Bool) → q || (false || r) ≡ q || r
  or_assoc true r = refl
  or_assoc false r = refl

  not_not : (q : Bool) → not (not q) ≡ q
  not_not true = refl
  not_not false = refl

  -- the gap that the search finds
  abbrev found : ℕ → ℕ → ℕ → List Piece → Gap
  found k at least ps =
      gap (at + length (concat piece_bytes (before k ps))) (at + length (concat piece_bytes (before k ps)) + length (concat piece_bytes (here_at k ps))) (ltb 0 least || (any_optional (before k ps) || any_optional (behind k ps)))

  -- the search at a piece of tag t, given what it finds in the pieces after it
  at_piece : (k at least t : ℕ) (p : Piece) (ps : List Piece) (r : List ℕ) → closed r ≡ true → Level [] os (suc t) ps → (R : Read least t p (concat piece_bytes ps ++ r)) → is_optional p ≡ true → (further : Gap)
      → (t < k → further ≡ found k (at + length (piece_bytes p)) (suc t) ps)
      → (x y : Bool) → ltb t k ≡ x → eqb t k ≡ y
      → seek_at k at least (piece_bytes p ++ (concat piece_bytes ps ++ r)) t (length (piece_bytes p)) further
      ≡ gap (at + length (concat piece_bytes (pick x (p ∷ before k ps) []))) (at + length (concat piece_bytes (pick x (p ∷ before k ps) [])) + length (concat piece_bytes (pick x (here_at k ps) (pick y (p ∷ []) []))))
      (ltb 0 least || (any_optional (pick x (p ∷ before k ps) []) || any_optional (pick x (behind k ps) (pick y ps (p ∷ ps)))))
  unfolding seek_at concat any_optional
  at_piece k at least t p ps r e L R o further ih true y l q =
      let h : t < k = ltb-true t k l in
      rw (le-ltb k t (omega arith), ne_eqb k t (λ z. omega arith)) (ih h ∙ same)
    where
      n₁ : length (piece_bytes p ++ concat piece_bytes (before k ps)) ≡ length (piece_bytes p) + length (concat piece_bytes (before k ps))
      n₁ = length-append (piece_bytes p) (concat piece_bytes (before k ps))

      same : found k (at + length (piece_bytes p)) (suc t) ps
          ≡ gap (at + length (piece_bytes p ++ concat piece_bytes (before k ps))) (at + length (piece_bytes p ++ concat piece_bytes (before k ps)) + length (concat piece_bytes (here_at k ps)))
          (ltb 0 least || ((is_optional p || any_optional (before k ps)) || any_optional (behind k ps)))
      same =
          gap_same (omega (arith, n₁)) (omega (arith, n₁))
          (ap (λ (w : Bool). w || (any_optional (before k ps) || any_optional (behind k ps))) (lt-ltb 0 (suc t) (omega arith)) ∙ sym (or_yes (ltb 0 least) _ (ap (λ (w : Bool). (w || any_optional (before k ps)) || any_optional (behind k ps)) o)))
  at_piece k at least t p ps r e L R o further ih false true l q =
      let s : t ≡ k = eqb-true t k q in
      rw (le-ltb k t (omega arith), eq-eqb k t (sym s))
      (gap_same (omega arith) (omega (arith, length-append (piece_bytes p) []))
      (ap (λ (w : Bool). ltb 0 least || not w) (ap closed (drop_at (piece_bytes p) (concat piece_bytes ps ++ r) (length (piece_bytes p)) refl) ∙ rest_closed (suc t) ps r L e) ∙ ap (λ (w : Bool). ltb 0 least || w) (not_not (any_optional ps))))
  at_piece k at least t p ps r e L R o further ih false false l q =
      let h : k < t = omega (arith, ltb-false t k l, eqb-false t k q) in
      rw (lt-ltb k t h) (gap_same (omega arith) (omega arith) (sym (or_yes (ltb 0 least) _ (ap (λ (w : Bool). w || any_optional ps) o))))

  seek_found : (k : ℕ) (ps : List Piece) (f at least : ℕ) (r : List ℕ) → length ps < f → closed r ≡ true → Level [] os least ps → seek_tag k f at least (concat piece_bytes ps ++ r) ≡ found k at least ps
  unfolding seek_tag seek_next seek_piece before here_at behind concat any_optional is_optional
  seek_found k [] zero at least r h e L = absurd (omega arith)
  seek_found k [] (suc f) at least r h e L = rw e (gap_same (omega arith) (omega arith) (sym (or_none (ltb 0 least))))
  seek_found k (required i b ∷ ps) f at least r h e L = absurd L
  seek_found k (optional t g b ∷ ps) zero at least r h e L = absurd (omega arith)
  seek_found k (optional t g b ∷ ps) (suc f) at least r h e L =
      let p : Piece = optional t g b in
      let R = known_read least t g b (concat piece_bytes ps ++ r) L.0 in
      ap (seek_tag k (suc f) at least) (append_assoc (piece_bytes p) (concat piece_bytes ps) r)
      ∙ ap (λ (w : Bool). pick w (gap at at (ltb 0 least)) (seek_next k at least (piece_bytes p ++ (concat piece_bytes ps ++ r)) (next_optional [] least (piece_bytes p ++ (concat piece_bytes ps ++ r))) (λ s n. seek_tag k f (at + n) s (drop n (piece_bytes p ++ (concat piece_bytes ps ++ r)))))) R.opens
      ∙ ap (λ w. seek_next k at least (piece_bytes p ++ (concat piece_bytes ps ++ r)) w (λ s n. seek_tag k f (at + n) s (drop n (piece_bytes p ++ (concat piece_bytes ps ++ r))))) R.reads
      ∙ at_piece k at least t p ps r e L.1 R refl _ (λ l. ap (seek_tag k f (at + length (piece_bytes p)) (suc t)) (drop_at (piece_bytes p) (concat piece_bytes ps ++ r) (length (piece_bytes p)) refl) ∙ seek_found k ps f (at + length (piece_bytes p)) (suc t) r (omega arith) e L.1) (ltb t k) (eqb t k) refl refl
  seek_found k (skipped t g b ∷ ps) zero at least r h e L = absurd (omega arith)
  seek_found k (skipped t g b ∷ ps) (suc f) at least r h e L =
      let p : Piece = skipped t g b in
      let R = unknown_read least t g b (concat piece_bytes ps ++ r) L.0 in
      ap (seek_tag k (suc f) at least) (append_assoc (piece_bytes p) (concat piece_bytes ps) r)
      ∙ ap (λ (w : Bool). pick w (gap at at (ltb 0 least)) (seek_next k at least (piece_bytes p ++ (concat piece_bytes ps ++ r)) (next_optional [] least (piece_bytes p ++ (concat piece_bytes ps ++ r))) (λ s n. seek_tag k f (at + n) s (drop n (piece_bytes p ++ (concat piece_bytes ps ++ r)))))) R.opens
      ∙ ap (λ w. seek_next k at least (piece_bytes p ++ (concat piece_bytes ps ++ r)) w (λ s n. seek_tag k f (at + n) s (drop n (piece_bytes p ++ (concat piece_bytes ps ++ r))))) R.reads
      ∙ at_piece k at least t p ps r e L.1 R refl _ (λ l. ap (seek_tag k f (at + length (piece_bytes p)) (suc t)) (drop_at (piece_bytes p) (concat piece_bytes ps ++ r) (length (piece_bytes p)) refl) ∙ seek_found k ps f (at + length (piece_bytes p)) (suc t) r (omega arith) e L.1) (ltb t k) (eqb t k) refl refl

-- ---- the place among all members

-- required pieces stay before
module _ (k : ℕ) (qs : List Piece) where
  before_front : (a : List Piece) → any_optional a ≡ false → before k (a ++ qs) ≡ a ++ before k qs
  unfolding before any_optional is_optional
  before_front [] h = refl
  before_front (required i b ∷ a) h = ap (λ (l : List Piece). required i b ∷ l) (before_front a h)
  before_front (optional t f b ∷ a) h = absurd (true≢false h)
  before_front (skipped t f b ∷ a) h = absurd (true≢false h)

  here_front : (a : List Piece) → any_optional a ≡ false → here_at k (a ++ qs) ≡ here_at k qs
  unfolding here_at any_optional is_optional
  here_front [] h = refl
  here_front (required i b ∷ a) h = here_front a h
  here_front (optional t f b ∷ a) h = absurd (true≢false h)
  here_front (skipped t f b ∷ a) h = absurd (true≢false h)

  behind_front : (a : List Piece) → any_optional a ≡ false → behind k (a ++ qs) ≡ behind k qs
  unfolding behind any_optional is_optional
  behind_front [] h = refl
  behind_front (required i b ∷ a) h = behind_front a h
  behind_front (optional t f b ∷ a) h = absurd (true≢false h)
  behind_front (skipped t f b ∷ a) h = absurd (true≢false h)

pub concat_append : (a b : List Piece) → concat piece_bytes (a ++ b) ≡ concat piece_bytes a ++ concat piece_bytes b
unfolding concat
concat_append [] b = refl
concat_append (x ∷ a) b = ap (λ (y : List ℕ). piece_bytes x ++ y) (concat_append a b) ∙ sym (append_assoc (piece_bytes x) (concat piece_bytes a) (concat piece_bytes b))

pub header_some : (t : ℕ) (k : Bits) → 1 ≤ length (header_bytes t k)
unfolding header_bytes
header_some t k = go (ltb t 30)
  where
    go : (q : Bool) → 1 ≤ length (pick q ((t * 8 + bits k) ∷ []) ((240 + bits k) ∷ size_bytes t))
    go true = omega arith
    go false = omega arith

-- pieces have bytes, so the bytes are enough fuel
pieces_some : (os : List Member) (least : ℕ) (ps : List Piece) → Level [] os least ps → length ps ≤ length (concat piece_bytes ps)
unfolding concat piece_bytes front_bytes content_bytes header_bytes
pieces_some os least [] L = omega arith
pieces_some os least (required i b ∷ ps) L = absurd L
pieces_some os least (optional t f b ∷ ps) L =
    omega (arith, pieces_some os (suc t) ps L.1, header_some t (bits_of f), length-append (piece_bytes (optional t f b)) (concat piece_bytes ps), length-append (header_bytes t (bits_of f) ++ length_bytes f b) b, length-append (header_bytes t (bits_of f)) (length_bytes f b))
pieces_some os least (skipped t k b ∷ ps) L =
    omega (arith, pieces_some os (suc t) ps L.1, header_some t k, length-append (piece_bytes (skipped t k b)) (concat piece_bytes ps), length-append (header_bytes t k) b)

-- what the edit of owner o's pieces cuts, in bytes
abbrev pub cut_of : ℕ → List Piece → Gap
cut_of k ps = gap (length (concat piece_bytes (before k ps))) (length (concat piece_bytes (before k ps)) + length (concat piece_bytes (here_at k ps))) (any_optional (before k ps) || any_optional (behind k ps))

pub gap_owned : (T : List ℕ) → faults T ≡ fine → (o k : ℕ) (ps : List Piece) (r : List ℕ) → Owned T o ps → closed r ≡ true → gap_in T o k (concat piece_bytes ps ++ r) ≡ cut_of k ps
unfolding gap_in after_required moved_by gap
gap_owned T right o k ps r L e = go (level_parts (Table.required_members T o) (Table.optional_members T o) (required_rise T right o) ps L)
  where
    joined : (a b : List Piece) → any_optional a ≡ false → moved_by (length (concat piece_bytes a)) (found (Table.optional_members T o) (optional_rise T right o) k 0 0 b) ≡ cut_of k (a ++ b)
    joined a b n =
        let e₁ : concat piece_bytes (before k (a ++ b)) ≡ concat piece_bytes a ++ concat piece_bytes (before k b) = ap (concat piece_bytes) (before_front k b a n) ∙ concat_append a (before k b) in
        let e₂ = here_front k b a n in
        let l = length-append (concat piece_bytes a) (concat piece_bytes (before k b)) in
        gap_same (omega (arith, ap length e₁, l)) (omega (arith, ap length e₁, l, ap (λ (z : List Piece). length (concat piece_bytes z)) e₂))
        (ap₂ (λ (x y : List Piece). any_optional x || any_optional y) refl (sym (behind_front k b a n)) ∙ ap (λ (q : Bool). q || any_optional (behind k (a ++ b))) (sym (ap any_optional (before_front k b a n) ∙ any_optional_append a (before k b) n)))

    go : Parts (Table.required_members T o) (Table.optional_members T o) ps → gap_in T o k (concat piece_bytes ps ++ r) ≡ cut_of k ps
    go P =
        let a : List Piece = P.front in
        let b : List Piece = P.back in
        let w : List ℕ = concat piece_bytes b ++ r in
        let spelt : concat piece_bytes ps ++ r ≡ concat piece_bytes a ++ w = ap (λ (l : List Piece). concat piece_bytes l ++ r) P.joined ∙ ap (λ (z : List ℕ). z ++ r) (concat_append a b) ∙ append_assoc (concat piece_bytes a) (concat piece_bytes b) r in
        let enough : length b < suc (length w) = omega (arith, pieces_some (Table.optional_members T o) 0 b P.rest, length-append (concat piece_bytes b) r) in
        ap (gap_in T o k) spelt
        ∙ ap (after_required k (concat piece_bytes a ++ w)) (P.read w)
        ∙ ap (λ (z : List ℕ). moved_by (length (concat piece_bytes a)) (seek_tag k (suc (length z)) 0 0 z)) (drop_at (concat piece_bytes a) w (length (concat piece_bytes a)) refl)
        ∙ ap (moved_by (length (concat piece_bytes a))) (seek_found (Table.optional_members T o) (optional_rise T right o) k b (suc (length w)) 0 0 r enough e P.rest)
        ∙ joined a b P.none
        ∙ ap (cut_of k) (sym P.joined)
