-- What rows that are judged right make: the pieces of each owner, and a slice for each row of the chain.
--
--   pieces_in                        the pieces given, one after another
--   judged_append, judged_split     slots one after another
--   judged_owner                    what is given has the owner of its slot
--   owns_all                        rows of one owner make its pieces
--   slices_own                      an owner's rows before those of smaller owners make the first slice
--   part_length, piece_content, piece_given, piece_member_lem   of the row that chooses a slot, and of its piece
use Rattle.std.specs.Prelude.{◌≡◌, Bool, ℕ, ◌+◌, ◌≤◌, ◌<◌, length, drop}
use Rattle.std.proofs.Math.Path.{refl, ap₂}
use Rattle.std.proofs.Common.{sym, ap, ◌∙◌, arith, length-drop, length-take-le, eq-eqb, ne_eqb}
use Rattle.std.proofs.Math.Bool.{true, false}
use Rattle.std.proofs.Math.Option.{some}
use mathlib.Core.List.{List, [], ◌∷◌, ◌++◌, map}
use Rattle.encoding.specs.Result.{pick}
use Rattle.encoding.specs.Types.{form_of}
use Rattle.encoding.specs.Table.{name_of, lookup}
use Rattle.encoding.specs.Table
use Rattle.encoding.specs.Optional.{Piece, required, optional, content_bytes, is_skipped}
use Rattle.encoding.specs.Slice.{Slice, known}
use Rattle.encoding.specs.Message.{Row, piece_member}
use Rattle.encoding.specs.Write.{Slot, Given, part_of, pieces_of, slices_of}
use Rattle.laws.specs.Demands.{All, end, more}
use Rattle.laws.proofs.PlanLaws.{given_of, Judged, over, taken, missed}
use Rattle.laws.proofs.PlanRules.{Fit, Falls}

abbrev pub pieces_in : List Given → List Piece
pieces_in gs = map (λ (g : Given). g.piece) gs

-- ---- slots one after another

pub judged_append : {old : Bool} {buffer : List ℕ} {ss ss' : List Slot} {rs rs' : List Row} {gs gs' : List Given} → Judged old buffer ss rs gs → Judged old buffer ss' rs' gs' → Judged old buffer (ss ++ ss') (rs ++ rs') (gs ++ gs')
judged_append over K = K
judged_append (taken e i x H) K = taken e i x (judged_append H K)
judged_append (missed d H) K = missed d (judged_append H K)

-- rows that choose from slots and from those after them
pub record Split (old : Bool) (buffer : List ℕ) (ss ss' : List Slot) (rs : List Row) (gs : List Given) : Type 0 where
  pub rows : List Row
  pub rows' : List Row
  pub gives : List Given
  pub gives' : List Given
  pub all_rows : rs ≡ rows ++ rows'
  pub all_gives : gs ≡ gives ++ gives'
  pub first : Judged old buffer ss rows gives
  pub second : Judged old buffer ss' rows' gives'

pub judged_split : {old : Bool} {buffer : List ℕ} (ss : List Slot) {ss' : List Slot} {rs : List Row} {gs : List Given} → Judged old buffer (ss ++ ss') rs gs → Split old buffer ss ss' rs gs
judged_split [] {rs = rs} {gs = gs} K = record { rows = []; rows' = rs; gives = []; gives' = gs; all_rows = refl; all_gives = refl; first = over; second = K }
judged_split {buffer} (s ∷ ss) (taken {r = r} e i x K) =
    let S = judged_split ss K in
    record {
      rows = r ∷ S.rows;
      rows' = S.rows';
      gives = given_of s (part_of buffer r) ∷ S.gives;
      gives' = S.gives';
      all_rows = ap (λ (l : List Row). r ∷ l) S.all_rows;
      all_gives = ap (λ (l : List Given). given_of s (part_of buffer r) ∷ l) S.all_gives;
      first = taken e i x S.first;
      second = S.second;
    }
judged_split (s ∷ ss) (missed d K) =
    let S = judged_split ss K in
    record { rows = S.rows; rows' = S.rows'; gives = S.gives; gives' = S.gives'; all_rows = S.all_rows; all_gives = S.all_gives; first = missed d S.first; second = S.second }

-- ---- by owners

pub judged_owner : (P : ℕ → Type 0) {old : Bool} {buffer : List ℕ} {ss : List Slot} {rs : List Row} {gs : List Given} → All (λ (s : Slot). P s.owner) ss → Judged old buffer ss rs gs → All (λ (g : Given). P g.owner) gs
unfolding given_of
judged_owner P end over = end
judged_owner P {buffer} (more {a} p L) (taken {r = r} e i x K) = more {a = given_of a (part_of buffer r)} p (judged_owner P L K)
judged_owner P (more p L) (missed d K) = judged_owner P L K

pub owns_all : {t : ℕ} {gs : List Given} → All (λ (g : Given). g.owner ≡ t) gs → pieces_of t gs ≡ pieces_in gs
unfolding pieces_of
owns_all end = refl
owns_all {t} (more {a} {l} e L) = rw (eq-eqb t a.owner (sym e), owns_all L)

none_owned : {t : ℕ} {gs : List Given} → All (λ (g : Given). g.owner < t) gs → pieces_of t gs ≡ []
unfolding pieces_of
none_owned end = refl
none_owned {t} (more {a} {l} e L) = rw (ne_eqb t a.owner (λ q. omega arith), none_owned L)

module _ {t : ℕ} where
  pieces_own : {gs hs : List Given} → All (λ (g : Given). g.owner ≡ t) gs → All (λ (g : Given). g.owner < t) hs → pieces_of t (gs ++ hs) ≡ pieces_in gs
  unfolding pieces_of
  pieces_own end H = none_owned H
  pieces_own (more {a} {l} e L) H = rw (eq-eqb t a.owner (sym e), pieces_own L H)

  pieces_other : (r : ℕ) → r < t → {gs : List Given} (hs : List Given) → All (λ (g : Given). g.owner ≡ t) gs → pieces_of r (gs ++ hs) ≡ pieces_of r hs
  unfolding pieces_of
  pieces_other r h hs end = refl
  pieces_other r h hs (more {a} e L) = rw (ne_eqb r a.owner (λ q. omega arith)) (pieces_other r h hs L)

  slices_other : (T : List ℕ) {ts : List ℕ} {gs : List Given} (hs : List Given) → All (Falls t) ts → All (λ (g : Given). g.owner ≡ t) gs → slices_of T (gs ++ hs) ts ≡ slices_of T hs ts
  unfolding slices_of
  slices_other T hs end G = refl
  slices_other T hs (more {a} h L) G = ap₂ (λ (ps : List Piece) (ss : List Slice). known (name_of T a) ps ∷ ss) (pieces_other a h hs G) (slices_other T hs L G)

  pub slices_own : (T : List ℕ) {ts : List ℕ} {gs hs : List Given} → All (Falls t) ts → All (λ (g : Given). g.owner ≡ t) gs → All (λ (g : Given). g.owner < t) hs
      → slices_of T (gs ++ hs) (t ∷ ts) ≡ known (name_of T t) (pieces_in gs) ∷ slices_of T hs ts
  unfolding slices_of
  slices_own T {hs = hs} F G H = ap₂ (λ (ps : List Piece) (ss : List Slice). known (name_of T t) ps ∷ ss) (pieces_own G H) (slices_other T hs F G)

-- ---- a row and its piece

pub part_length : (buffer : List ℕ) (r : Row) → r.place + r.len ≤ length buffer → length (part_of buffer r) ≡ r.len
unfolding part_of
part_length buffer r h = length-take-le r.len (drop r.place buffer) (omega (arith, length-drop r.place buffer))

module _ (s : Slot) (b : List ℕ) where
  pub piece_content : content_bytes (given_of s b).piece ≡ b
  unfolding given_of content_bytes
  piece_content = go s.due
    where
      go : (q : Bool) → content_bytes (pick q (required s.member.key b) (optional s.member.key (form_of s.member.ty) b)) ≡ b
      go true = refl
      go false = refl

  pub piece_given : is_skipped (given_of s b).piece ≡ false
  unfolding given_of is_skipped
  piece_given = go s.due
    where
      go : (q : Bool) → is_skipped (pick q (required s.member.key b) (optional s.member.key (form_of s.member.ty) b)) ≡ false
      go true = refl
      go false = refl

  pub piece_member_lem : (T : List ℕ) (t : ℕ) → Fit T s → s.owner ≡ t → piece_member T t (given_of s b).piece ≡ some s.member
  unfolding given_of piece_member
  piece_member_lem T t F e = go s.due (ap (λ (o : ℕ). lookup s.member.key (pick s.due (Table.required_members T o) (Table.optional_members T o))) (sym e) ∙ F.finds)
    where
      go : (q : Bool) → lookup s.member.key (pick q (Table.required_members T t) (Table.optional_members T t)) ≡ some s.member
          → piece_member T t (pick q (required s.member.key b) (optional s.member.key (form_of s.member.ty) b)) ≡ some s.member
      go true h = h
      go false h = h
