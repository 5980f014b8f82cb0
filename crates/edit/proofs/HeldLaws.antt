-- The rows of an edited message: each row is a piece's member and content, so lists differ only in the member that was edited.
--
--   Held, held, piece_held, own_held, slice_held, all_held     member row, bytes and length of each piece that has a member
--   row_held, listed_held                 the same of a row; the rows hold what the pieces hold
--   Of, rows_others, rows_there          entries of one member; rows that differ in one member only, by what they hold
--   some_of, lists_held                  a list names a member if some entry has it
--   held_others, slices_others           of edited pieces: the entries of other members stay
--   held_tagged, held_mine, held_apart, slices_mine     only the owner's piece with the tag has an entry of the member
use Rattle.std.specs.Prelude.{◌≡◌, Bool, not, ◌||◌, ℕ, ltb}
use Rattle.std.proofs.Math.Path.{refl, sym, ap, ap₂}
use Rattle.std.proofs.Common.{◌∙◌, arith, eqb-true, eq-eqb, ne_eqb}
use Rattle.std.proofs.Math.Bool.{true, false, true≢false}
use Rattle.std.proofs.Math.Option.{Option, none, some}
use mathlib.Core.List.{List, [], ◌∷◌, ◌++◌, map, append-nil, append_assoc}
use Rattle.std.proofs.Math.ListN.{length}
use Rattle.std.proofs.Math.Dec.{eqb}
use Rattle.std.proofs.lemmas.Bool.{eqb-false}
use Rattle.encoding.specs.Result.{pick, same_bytes}
use Rattle.encoding.proofs.ResultLaws.{same_bytes_ok}
use Rattle.encoding.specs.Types.{form_of}
use Rattle.encoding.specs.Table.{types, fine, faults, kind, field, mark, tag, is_record, Member, lookup, name_of, named, chain}
use Rattle.encoding.specs.Table
use Rattle.encoding.proofs.RuleLaws.{Own, required_own, optional_own, owns_record, rows_apart, named_ok}
use Rattle.encoding.specs.Optional.{Piece, required, optional, skipped, content_bytes}
use Rattle.encoding.specs.Slice.{Slice, known, passed, id_of}
use Rattle.encoding.specs.Message.{Pieces, list, exception, class, Row, piece_member}
use Rattle.encoding.specs.Write.{part_of}
use Rattle.laws.specs.Demands.{All, end, more, RowOf, ListedOf, none_left, a_required, an_optional, a_skipped, ListedIn, a_known, a_passed, Listed, SameMembers, no_members, same_member}
use Rattle.laws.specs.Demands
use Rattle.laws.proofs.OptionalNewer.{lookup_key}
use Rattle.laws.proofs.PlanRules.{Owner}
use Rattle.edit.specs.Change.{piece_for, put_piece, among, edit_pieces, edit_slice, lists}
use Rattle.edit.specs.ChangeDemands.{has_tag, those}
use Rattle.edit.proofs.EditLaws.{map_append, Unlike, Apart}

-- ---- what pieces and rows hold

-- an entry: member row, bytes, their length
abbrev pub Held : Type 0
Held = ℕ × List ℕ × ℕ

-- the entry of a piece before others, if the piece has a member
unfoldable pub held : Option Member → List ℕ → List Held → List Held
held none b l = l
held (some d) b l = (d.row, b, length b) ∷ l

-- the entries of pieces of owner t
unfoldable pub piece_held : List ℕ → ℕ → List Piece → List Held
piece_held T t [] = []
piece_held T t (p ∷ ps) = held (piece_member T t p) (content_bytes p) (piece_held T t ps)

-- the same of a slice's pieces, if its name is a record's
unfoldable pub own_held : List ℕ → List Piece → Option ℕ → List Held
own_held T ps none = []
own_held T ps (some t) = piece_held T t ps

-- the entries of slices; a skipped slice has none
unfoldable pub slice_held : List ℕ → List Slice → List Held
slice_held T [] = []
slice_held T (known o ps ∷ ss) = own_held T ps (named T o) ++ slice_held T ss
slice_held T (passed b id z ∷ ss) = slice_held T ss

-- the entries of a message
unfoldable pub all_held : List ℕ → ℕ → Pieces → List Held
all_held T top (list ps) = piece_held T top ps
all_held T top (exception ss) = slice_held T ss
all_held T top (class ss) = slice_held T ss

-- the entry of a row
abbrev pub row_held : List ℕ → Row → Held
row_held m r = (r.member, part_of m r, r.len)

module _ (T m : List ℕ) where
  row_held_lem : (d : Member) (b : List ℕ) (r : Row) → RowOf m d b r → row_held m r ≡ (d.row, b, length b)
  unfolding part_of
  row_held_lem d b r R =
      ap (λ (x : ℕ). (x, part_of m r, r.len)) R.member ∙ ap (λ (x : List ℕ). (d.row, x, r.len)) R.bytes ∙ ap (λ (x : ℕ). (d.row, b, x)) R.len

  pieces_listed : (t : ℕ) (ps : List Piece) (rs : List Row) → ListedOf T m t ps rs → map (row_held m) rs ≡ piece_held T t ps
  unfolding piece_held held piece_member content_bytes
  pieces_listed t _ _ none_left = refl
  pieces_listed t _ _ (a_required {i} {b} {ps} {d} {r} {rs} f R L) = ap₂ (λ (x : Held) (l : List Held). x ∷ l) (row_held_lem d b r R) (pieces_listed t ps rs L) ∙ sym (ap (λ (o : Option Member). held o b (piece_held T t ps)) f)
  pieces_listed t _ _ (an_optional {b = b} {ps = ps} {d = d} {r = r} {rs = rs} f R L) = ap₂ (λ (x : Held) (l : List Held). x ∷ l) (row_held_lem d b r R) (pieces_listed t ps rs L) ∙ sym (ap (λ (o : Option Member). held o b (piece_held T t ps)) f)
  pieces_listed t _ _ (a_skipped {ps = ps} {rs = rs} L) = pieces_listed t ps rs L

module _ (T m : List ℕ) where
  slices_listed : (ss : List Slice) (rs : List Row) → ListedIn T m ss rs → map (row_held m) rs ≡ slice_held T ss
  unfolding slice_held own_held
  slices_listed _ _ Demands.ListedIn.none_left = refl
  slices_listed _ _ (a_known {o} {ps} {ss} {t} {rs} {rs'} n L S) =
      map_append (row_held m) rs rs' ∙ ap₂ ◌++◌ (pieces_listed T m t ps rs L ∙ sym (ap (own_held T ps) n)) (slices_listed ss rs' S)
  slices_listed _ _ (a_passed {ss = ss} {rs = rs} S) = slices_listed ss rs S

  pub listed_held : (top : ℕ) (p : Pieces) (rs : List Row) → Listed T m top p rs → map (row_held m) rs ≡ all_held T top p
  unfolding all_held
  listed_held top (list ps) rs L = pieces_listed T m top ps rs L
  listed_held top (exception ss) rs L = slices_listed ss rs L
  listed_held top (class ss) rs L = slices_listed ss rs L

-- ---- rows by what they hold

-- an entry is of member n
abbrev pub Of : ℕ → Held → Bool
Of n h = eqb h.0 n

those_map : (m : List ℕ) (q : ℕ → Bool) (rs : List Row) → map (row_held m) (those (λ (r : Row). q r.member) rs) ≡ those (λ (h : Held). q h.0) (map (row_held m) rs)
unfolding those
those_map m q [] = refl
those_map m q (r ∷ rs) = go (q r.member) (those_map m q rs)
  where
    go : (b : Bool) → map (row_held m) (those (λ (r : Row). q r.member) rs) ≡ those (λ (h : Held). q h.0) (map (row_held m) rs)
        → map (row_held m) (pick b (r ∷ those (λ (r : Row). q r.member) rs) (those (λ (r : Row). q r.member) rs))
        ≡ pick b (row_held m r ∷ those (λ (h : Held). q h.0) (map (row_held m) rs)) (those (λ (h : Held). q h.0) (map (row_held m) rs))
    go true ih = ap (λ (l : List Held). row_held m r ∷ l) ih
    go false ih = ih

same_rows : (m m' : List ℕ) (rs rs' : List Row) → map (row_held m) rs ≡ map (row_held m') rs' → SameMembers m m' rs rs'
same_rows m m' [] [] e = no_members
same_rows m m' [] (r ∷ rs) e = let z : ◌≡◌ {A = ℕ} 0 1 = cc in absurd (omega arith)
same_rows m m' (r ∷ rs) [] e = let z : ◌≡◌ {A = ℕ} 0 1 = cc in absurd (omega arith)
same_rows m m' (r ∷ rs) (r' ∷ rs') e =
    let a : row_held m r ≡ row_held m' r' = cc in
    let l : map (row_held m) rs ≡ map (row_held m') rs' = cc in
    same_member (ap (λ (h : Held). h.0) a) (ap (λ (h : Held). h.1) a) (ap (λ (h : Held). h.2) a) (same_rows m m' rs rs' l)

-- two lists of rows that hold the same but for one member
pub rows_others : (m m' : List ℕ) (n : ℕ) (rs rs' : List Row) → those (λ (h : Held). not (Of n h)) (map (row_held m) rs) ≡ those (λ (h : Held). not (Of n h)) (map (row_held m') rs')
    → SameMembers m m' (those (λ (r : Row). not (eqb r.member n)) rs) (those (λ (r : Row). not (eqb r.member n)) rs')
rows_others m m' n rs rs' e =
    same_rows m m' _ _ (those_map m (λ (i : ℕ). not (eqb i n)) rs ∙ e ∙ sym (those_map m' (λ (i : ℕ). not (eqb i n)) rs'))

map_held : (m : List ℕ) (rs : List Row) → map (part_of m) rs ≡ map (λ (h : Held). h.1) (map (row_held m) rs)
map_held m [] = refl
map_held m (r ∷ rs) = ap (λ (l : List (List ℕ)). part_of m r ∷ l) (map_held m rs)

-- the bytes in the rows of a member are those in its entries
pub rows_there : (m : List ℕ) (n : ℕ) (rs : List Row) → map (part_of m) (those (λ (r : Row). eqb r.member n) rs) ≡ map (λ (h : Held). h.1) (those (Of n) (map (row_held m) rs))
rows_there m n rs = map_held m (those (λ (r : Row). eqb r.member n) rs) ∙ ap (map (λ (h : Held). h.1)) (those_map m (λ (i : ℕ). eqb i n) rs)

-- a list is not empty
unfoldable pub some_of : List Held → Bool
some_of [] = false
some_of (h ∷ l) = true

eqb_sym : (a b : ℕ) → eqb a b ≡ eqb b a
eqb_sym a b = go (eqb a b) refl
  where
    go : (q : Bool) → eqb a b ≡ q → q ≡ eqb b a
    go true e = sym (eq-eqb b a (sym (eqb-true a b e)))
    go false e = sym (ne_eqb b a (λ s. eqb-false a b e (sym s)))

pub lists_held : (m : List ℕ) (n : ℕ) (rs : List Row) → lists n rs ≡ some_of (those (Of n) (map (row_held m) rs))
unfolding lists those some_of
lists_held m n [] = refl
lists_held m n (r ∷ rs) = ap (λ (b : Bool). b || lists n rs) (eqb_sym n r.member) ∙ go (eqb r.member n) (lists_held m n rs)
  where
    go : (b : Bool) → lists n rs ≡ some_of (those (Of n) (map (row_held m) rs))
        → b || lists n rs ≡ some_of (pick b (row_held m r ∷ those (Of n) (map (row_held m) rs)) (those (Of n) (map (row_held m) rs)))
    go true ih = refl
    go false ih = ih

-- ---- the pieces of the owner

pub those_append : {A : Type 0} (q : A → Bool) (l k : List A) → those q (l ++ k) ≡ those q l ++ those q k
unfolding those
those_append q [] k = refl
those_append {A} q (a ∷ l) k = go (q a) (those_append q l k)
  where
    go : (b : Bool) → those q (l ++ k) ≡ those q l ++ those q k → pick b (a ∷ those q (l ++ k)) (those q (l ++ k)) ≡ pick b (a ∷ those q l) (those q l) ++ those q k
    go true ih = ap (λ (z : List A). a ∷ z) ih
    go false ih = ih

module _ (T : List ℕ) (right : faults T ≡ fine) (o : ℕ) (O : Owner T o) (d : Member) (found : lookup d.key (Table.optional_members T o) ≡ some d) where
  abbrev n : ℕ
  n = d.row

  abbrev k : ℕ
  k = d.key

  abbrev Else : Held → Bool
  Else h = not (Of n h)

  own : Own T (field T o 0) (field T o 1) false d
  own = optional_own T o k d found

  -- a member that is not listed as n
  other_member : (e : Member) → (e.row ≡ n → ⊥) → (b : List ℕ) (l : List Held) → those (Of n) (held (some e) b l) ≡ those (Of n) l
  unfolding held those
  other_member e u b l = rw (ne_eqb e.row n u)

  -- an entry that is there in both
  else_held : (w : Option Member) (b : List ℕ) (l l' : List Held) → those Else l ≡ those Else l' → those Else (held w b l) ≡ those Else (held w b l')
  unfolding held those
  else_held none b l l' e = e
  else_held (some x) b l l' e = ap (λ (z : List Held). pick (Else (x.row, b, length b)) ((x.row, b, length b) ∷ z) z) e

  -- the entry of the member itself
  else_mine : (b : List ℕ) (l : List Held) → those Else (held (lookup k (Table.optional_members T o)) b l) ≡ those Else l
  unfolding held those
  else_mine b l = ap (λ (w : Option Member). those Else (held w b l)) found ∙ ap (λ (q : Bool). pick (not q) ((n, b, length b) ∷ those Else l) (those Else l)) (eq-eqb n n refl)

  else_put : (c : Option (List ℕ)) (ps : List Piece) → those Else (piece_held T o (put_piece (piece_for d c) ps)) ≡ those Else (piece_held T o ps)
  unfolding put_piece piece_for piece_held piece_member content_bytes
  else_put none ps = refl
  else_put (some b) ps = else_mine b (piece_held T o ps)

  pub held_others : (c : Option (List ℕ)) (ps : List Piece) → those Else (piece_held T o (edit_pieces k (piece_for d c) ps)) ≡ those Else (piece_held T o ps)
  unfolding edit_pieces among piece_held piece_member content_bytes held
  held_others c [] = else_put c []
  held_others c (required i b ∷ ps) = else_held (lookup i (Table.required_members T o)) b _ _ (held_others c ps)
  held_others c (optional t f b ∷ ps) = go (ltb t k) (eqb t k) refl (held_others c ps)
    where
      go : (x y : Bool) → eqb t k ≡ y → those Else (piece_held T o (edit_pieces k (piece_for d c) ps)) ≡ those Else (piece_held T o ps)
          → those Else (piece_held T o (pick x (optional t f b ∷ edit_pieces k (piece_for d c) ps) (put_piece (piece_for d c) (pick y ps (optional t f b ∷ ps))))) ≡ those Else (piece_held T o (optional t f b ∷ ps))
      go true y e ih = else_held (lookup t (Table.optional_members T o)) b _ _ ih
      go false true e ih =
          else_put c ps ∙ sym (ap (λ (z : ℕ). those Else (held (lookup z (Table.optional_members T o)) b (piece_held T o ps))) (eqb-true t k e) ∙ else_mine b (piece_held T o ps))
      go false false e ih = else_put c (optional t f b ∷ ps)
  held_others c (skipped t f b ∷ ps) = go (ltb t k) (eqb t k) (held_others c ps)
    where
      go : (x y : Bool) → those Else (piece_held T o (edit_pieces k (piece_for d c) ps)) ≡ those Else (piece_held T o ps)
          → those Else (piece_held T o (pick x (skipped t f b ∷ edit_pieces k (piece_for d c) ps) (put_piece (piece_for d c) (pick y ps (skipped t f b ∷ ps))))) ≡ those Else (piece_held T o ps)
      go true y ih = ih
      go false true ih = else_put c ps
      go false false ih = else_put c (skipped t f b ∷ ps)

  -- only pieces with the tag are listed as n
  pub held_tagged : (ps : List Piece) → those (Of n) (piece_held T o ps) ≡ those (Of n) (piece_held T o (those (has_tag k) ps))
  unfolding piece_held piece_member content_bytes those has_tag held
  held_tagged [] = refl
  held_tagged (required i b ∷ ps) = go (lookup i (Table.required_members T o)) refl ∙ held_tagged ps
    where
      go : (w : Option Member) → lookup i (Table.required_members T o) ≡ w → those (Of n) (held w b (piece_held T o ps)) ≡ those (Of n) (piece_held T o ps)
      go none e = refl
      go (some x) e = other_member x (λ s. true≢false (sym (required_own T o i x e).marked ∙ ap (λ (z : ℕ). eqb (mark T z) 0) s ∙ own.marked)) b (piece_held T o ps)
  held_tagged (optional t f b ∷ ps) = go₂ (eqb t k) refl (held_tagged ps)
    where
      go : (t ≡ k → ⊥) → (w : Option Member) → lookup t (Table.optional_members T o) ≡ w → those (Of n) (held w b (piece_held T o ps)) ≡ those (Of n) (piece_held T o ps)
      go u none e = refl
      go u (some x) e =
          let X = optional_own T o t x e in
          other_member x (λ s. u (lookup_key t (Table.optional_members T o) x e ∙ X.tagged refl ∙ ap (tag T) s ∙ sym (own.tagged refl))) b (piece_held T o ps)

      both : (w : Option Member) → those (Of n) (piece_held T o ps) ≡ those (Of n) (piece_held T o (those (has_tag k) ps)) → those (Of n) (held w b (piece_held T o ps)) ≡ those (Of n) (held w b (piece_held T o (those (has_tag k) ps)))
      both none ih = ih
      both (some x) ih = ap (λ (z : List Held). pick (Of n (x.row, b, length b)) ((x.row, b, length b) ∷ z) z) ih

      go₂ : (y : Bool) → eqb t k ≡ y → those (Of n) (piece_held T o ps) ≡ those (Of n) (piece_held T o (those (has_tag k) ps))
          → those (Of n) (held (lookup t (Table.optional_members T o)) b (piece_held T o ps)) ≡ those (Of n) (piece_held T o (pick y (optional t f b ∷ those (has_tag k) ps) (those (has_tag k) ps)))
      go₂ true e ih = both (lookup t (Table.optional_members T o)) ih
      go₂ false e ih = go (eqb-false t k e) (lookup t (Table.optional_members T o)) refl ∙ ih
  held_tagged (skipped t f b ∷ ps) = go (eqb t k) (held_tagged ps)
    where
      go : (y : Bool) → those (Of n) (piece_held T o ps) ≡ those (Of n) (piece_held T o (those (has_tag k) ps))
          → those (Of n) (piece_held T o ps) ≡ those (Of n) (piece_held T o (pick y (skipped t f b ∷ those (has_tag k) ps) (those (has_tag k) ps)))
      go true ih = ih
      go false ih = ih

  -- the member's own entry
  pub held_mine : (b : List ℕ) → those (Of n) (piece_held T o (optional k (form_of d.ty) b ∷ [])) ≡ (n, b, length b) ∷ []
  unfolding piece_held piece_member content_bytes held those
  held_mine b = ap (λ (w : Option Member). those (Of n) (held w b [])) found ∙ ap (λ (q : Bool). pick q ((n, b, length b) ∷ []) []) (eq-eqb n n refl)

  -- of other owners nothing is listed as n
  pub held_apart : (t : ℕ) → Owner T t → (t ≡ o → ⊥) → (ps : List Piece) → those (Of n) (piece_held T t ps) ≡ []
  unfolding piece_held piece_member content_bytes held those
  held_apart t P u [] = refl
  held_apart t P u (required i b ∷ ps) = go (lookup i (Table.required_members T t)) refl ∙ held_apart t P u ps
    where
      go : (w : Option Member) → lookup i (Table.required_members T t) ≡ w → those (Of n) (held w b (piece_held T t ps)) ≡ those (Of n) (piece_held T t ps)
      go none e = refl
      go (some x) e =
          let X = required_own T t i x e in
          other_member x (λ s. u (rows_apart T right t o n P.below O.below P.own O.own (omega (arith, X.from, s)) (omega (arith, X.to, s)) own.from own.to)) b (piece_held T t ps)
  held_apart t P u (optional i f b ∷ ps) = go (lookup i (Table.optional_members T t)) refl ∙ held_apart t P u ps
    where
      go : (w : Option Member) → lookup i (Table.optional_members T t) ≡ w → those (Of n) (held w b (piece_held T t ps)) ≡ those (Of n) (piece_held T t ps)
      go none e = refl
      go (some x) e =
          let X = optional_own T t i x e in
          other_member x (λ s. u (rows_apart T right t o n P.below O.below P.own O.own (omega (arith, X.from, s)) (omega (arith, X.to, s)) own.from own.to)) b (piece_held T t ps)
  held_apart t P u (skipped i f b ∷ ps) = held_apart t P u ps

  -- ---- slices

  slices_apart : (ss : List Slice) → All (Unlike (name_of T o)) ss → those (Of n) (slice_held T ss) ≡ []
  unfolding slice_held own_held id_of those
  slices_apart _ end = refl
  slices_apart _ (more {a = known i ps} {l} u L) = those_append (Of n) (own_held T ps (named T i)) (slice_held T l) ∙ ap₂ ◌++◌ (go (named T i) refl) (slices_apart l L)
    where
      go : (w : Option ℕ) → named T i ≡ w → those (Of n) (own_held T ps w) ≡ []
      go none e = refl
      go (some t) e =
          let N = named_ok T i t e in
          held_apart t (record { below = N.0; own = owns_record (kind T t) N.1 }) (λ s. u (N.2 ∙ ap (name_of T) s)) ps
  slices_apart _ (more {a = passed b i z} {l} u L) = slices_apart l L

  slice_held_append : (a b : List Slice) → slice_held T (a ++ b) ≡ slice_held T a ++ slice_held T b
  unfolding slice_held
  slice_held_append [] b = refl
  slice_held_append (known i ps ∷ a) b = ap (λ (z : List Held). own_held T ps (named T i) ++ z) (slice_held_append a b) ∙ sym (append_assoc (own_held T ps (named T i)) (slice_held T a) (slice_held T b))
  slice_held_append (passed c i z ∷ a) b = slice_held_append a b

  -- of slices, just those of the owner's slice are listed as n
  pub slices_mine : named T (name_of T o) ≡ some o → {P : List Piece → Type 0} (ss : List Slice) (A : Apart P (name_of T o) ss) → those (Of n) (slice_held T ss) ≡ those (Of n) (piece_held T o A.pieces)
  unfolding slice_held own_held
  slices_mine e ss A =
      ap (λ (z : List Slice). those (Of n) (slice_held T z)) A.spelt
      ∙ ap (those (Of n)) (slice_held_append A.ahead (known (name_of T o) A.pieces ∷ A.behind))
      ∙ those_append (Of n) (slice_held T A.ahead) (slice_held T (known (name_of T o) A.pieces ∷ A.behind))
      ∙ ap₂ ◌++◌ (slices_apart A.ahead A.unlike_ahead)
      (those_append (Of n) (own_held T A.pieces (named T (name_of T o))) (slice_held T A.behind)
      ∙ ap₂ ◌++◌ (ap (λ (w : Option ℕ). those (Of n) (own_held T A.pieces w)) e) (slices_apart A.behind A.unlike_behind) ∙ append-nil (those (Of n) (piece_held T o A.pieces)))

  pub slices_others : named T (name_of T o) ≡ some o → (c : Option (List ℕ)) (ss : List Slice) → those Else (slice_held T (map (edit_slice (name_of T o) k (piece_for d c)) ss)) ≡ those Else (slice_held T ss)
  unfolding slice_held edit_slice own_held
  slices_others e c [] = refl
  slices_others e c (known i ps ∷ ss) =
      those_append Else (own_held T (pick (same_bytes i (name_of T o)) (edit_pieces k (piece_for d c) ps) ps) (named T i)) (slice_held T (map (edit_slice (name_of T o) k (piece_for d c)) ss))
      ∙ ap₂ ◌++◌ (go (same_bytes i (name_of T o)) refl) (slices_others e c ss) ∙ sym (those_append Else (own_held T ps (named T i)) (slice_held T ss))
    where
      go : (q : Bool) → same_bytes i (name_of T o) ≡ q → those Else (own_held T (pick q (edit_pieces k (piece_for d c) ps) ps) (named T i)) ≡ those Else (own_held T ps (named T i))
      go true s =
          let w : named T i ≡ some o = ap (named T) (same_bytes_ok i (name_of T o) s) ∙ e in
          ap (λ (z : Option ℕ). those Else (own_held T (edit_pieces k (piece_for d c) ps) z)) w ∙ held_others c ps ∙ sym (ap (λ (z : Option ℕ). those Else (own_held T ps z)) w)
      go false s = refl
  slices_others e c (passed b i z ∷ ss) = slices_others e c ss
