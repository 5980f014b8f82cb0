-- An edit of the pieces of one owner: they go on conforming, all pieces without the tag stay in their order, and of the tag there is the new piece, or none.
--
--   Sound            what may be set: exactly one value of the member's type, or nothing
--   level_edit       the edited pieces conform
--   same_pieces      what stays, and what is there
--   edit_there       setting the piece that is there changes nothing
--   edit_undone      a piece put where none was is taken out again
--   skips_kept       the optionals skipped are as many
use Rattle.std.proofs.Math.Path.{◌≡◌, refl, sym, ap}
use Rattle.std.proofs.Common.{◌∙◌, subst}
use Rattle.std.specs.Prelude.{Bool, not, ℕ, suc, ◌+◌, ◌≤◌, ◌<◌, length}
use Rattle.std.proofs.Math.Bool.{true, false}
use Rattle.std.proofs.Math.Option.{Option, none, some}
use mathlib.Core.List.{List, [], ◌∷◌}
use native.Mathlib.Omega.{arith}
use Rattle.std.proofs.Math.Dec.{eqb, ltb}
use borrow.Author.Tests.{eqb-true, eqb-false, eq-eqb, ne_eqb, ltb-true, ltb-false, le-ltb}
use Rattle.encoding.specs.Result.{pick}
use Rattle.encoding.proofs.ResultLaws.{some≢none}
use Rattle.encoding.specs.Number.{Short}
use Rattle.encoding.specs.Types.{Form, Bits, form_of}
use Rattle.encoding.specs.Grammar.{IsValue}
use Rattle.encoding.proofs.OptionalFormLaws.{form_has}
use Rattle.encoding.specs.Table.{Member, lookup}
use Rattle.encoding.specs.Optional.{Piece, required, optional, skipped, is_skipped}
use Rattle.encoding.specs.Message.{skipped_pieces}
use Rattle.encoding.specs.Conform.{Known, Unknown, Level}
use Rattle.edit.specs.Change.{piece_for, put_piece, among, edit_pieces}
use Rattle.edit.specs.ChangeDemands.{has_tag, those, SamePieces}

-- nothing, or one value
abbrev pub Sound : Member → Option (List ℕ) → Type 0
Sound d none = Unit {0}
Sound d (some b) = IsValue d.ty b × Short (length b)

-- ---- the least tag

level_lower : (os : List Member) (least l : ℕ) (ps : List Piece) → l ≤ least → Level [] os least ps → Level [] os l ps
level_lower os least l [] h L = tt
level_lower os least l (required i b ∷ ps) h L = absurd L
level_lower os least l (optional t f b ∷ ps) h L = (
  record { member = L.0.member; found = L.0.found; rises = omega (arith, L.0.rises); form = L.0.form; one = L.0.one; tag_short = L.0.tag_short; length_short = L.0.length_short },
  L.1,
)
level_lower os least l (skipped t k b ∷ ps) h L = (record { absent = L.0.absent; rises = omega (arith, L.0.rises); whole = L.0.whole; tag_short = L.0.tag_short }, L.1)

known_from : {os : List Member} {least t : ℕ} {f : Form} {b : List ℕ} → Known os least t f b → (l : ℕ) → l ≤ t → Known os l t f b
known_from K l h = record { member = K.member; found = K.found; rises = h; form = K.form; one = K.one; tag_short = K.tag_short; length_short = K.length_short }

unknown_from : {os : List Member} {least t : ℕ} {k : Bits} {b : List ℕ} → Unknown os least t k b → (l : ℕ) → l ≤ t → Unknown os l t k b
unknown_from U l h = record { absent = U.absent; rises = h; whole = U.whole; tag_short = U.tag_short }

-- ---- the pieces without the tag, and those with it

module _ (k : ℕ) where
  abbrev Other : Piece → Bool
  Other p = not (has_tag k p)

  others_put : (d : Member) → d.key ≡ k → (c : Option (List ℕ)) (ps : List Piece) → those Other (put_piece (piece_for d c) ps) ≡ those Other ps
  unfolding those put_piece piece_for has_tag
  others_put d e none ps = refl
  others_put d e (some b) ps = rw (eq-eqb d.key k e)

  -- at a piece of tag t
  others_among : (d : Member) → d.key ≡ k → (c : Option (List ℕ)) (t : ℕ) (p : Piece) (ps rest : List Piece) → has_tag k p ≡ eqb t k → those Other rest ≡ those Other ps
      → those Other (among k (piece_for d c) t p ps rest) ≡ those Other (p ∷ ps)
  unfolding among those
  others_among d e c t p ps rest tagged ih = go (ltb t k) (eqb t k) refl
    where
      go : (a b : Bool) → eqb t k ≡ b → those Other (pick a (p ∷ rest) (put_piece (piece_for d c) (pick b ps (p ∷ ps)))) ≡ those Other (p ∷ ps)
      go true b q = ap (λ (l : List Piece). pick (Other p) (p ∷ l) l) ih
      go false true q = others_put d e c ps ∙ sym (ap (λ (x : Bool). pick (not x) (p ∷ those Other ps) (those Other ps)) (tagged ∙ q))
      go false false q = others_put d e c (p ∷ ps)

  pub others_kept : (d : Member) → d.key ≡ k → (c : Option (List ℕ)) (ps : List Piece) → those Other (edit_pieces k (piece_for d c) ps) ≡ those Other ps
  unfolding edit_pieces those has_tag
  others_kept d e c [] = others_put d e c []
  others_kept d e c (required i b ∷ ps) = ap (λ (l : List Piece). required i b ∷ l) (others_kept d e c ps)
  others_kept d e c (optional t f b ∷ ps) = others_among d e c t (optional t f b) ps (edit_pieces k (piece_for d c) ps) refl (others_kept d e c ps)
  others_kept d e c (skipped t f b ∷ ps) = others_among d e c t (skipped t f b) ps (edit_pieces k (piece_for d c) ps) refl (others_kept d e c ps)

  -- no piece from a greater tag on has it
  pub none_tagged : (os : List Member) (least : ℕ) (ps : List Piece) → k < least → Level [] os least ps → those (has_tag k) ps ≡ []
  unfolding those has_tag
  none_tagged os least [] h L = refl
  none_tagged os least (required i b ∷ ps) h L = absurd L
  none_tagged os least (optional t f b ∷ ps) h L = rw (ne_eqb t k (λ e. omega (arith, L.0.rises))) (none_tagged os (suc t) ps (omega (arith, L.0.rises)) L.1)
  none_tagged os least (skipped t f b ∷ ps) h L = rw (ne_eqb t k (λ e. omega (arith, L.0.rises))) (none_tagged os (suc t) ps (omega (arith, L.0.rises)) L.1)

-- ---- an optional set or removed

module _ (os : List Member) (d : Member) (found : lookup d.key os ≡ some d) (short : Short d.key) (c : Option (List ℕ)) (S : Sound d c) where
  level_put : (least : ℕ) (ps : List Piece) → least ≤ d.key → Level [] os (suc d.key) ps → Level [] os least (put_piece (piece_for d c) ps)
  unfolding put_piece piece_for
  level_put least ps h L = go c S
    where
      go : (c : Option (List ℕ)) → Sound d c → Level [] os least (put_piece (piece_for d c) ps)
      go none S = level_lower os (suc d.key) least ps (omega arith) L
      go (some b) S = (record { member = d; found = found; rises = h; form = form_has d.ty; one = S.0; tag_short = short; length_short = S.1 }, L)

  tagged_put : (ps : List Piece) → those (has_tag d.key) ps ≡ [] → those (has_tag d.key) (put_piece (piece_for d c) ps) ≡ put_piece (piece_for d c) []
  unfolding put_piece piece_for those has_tag
  tagged_put ps e = go c
    where
      go : (c : Option (List ℕ)) → those (has_tag d.key) (put_piece (piece_for d c) ps) ≡ put_piece (piece_for d c) []
      go none = e
      go (some b) = rw (eq-eqb d.key d.key refl) (ap (λ (l : List Piece). optional d.key (form_of d.ty) b ∷ l) e)

  -- conforming pieces with one optional edited conform, and of the tag there is just the new piece
  abbrev Edited : List Member → ℕ → List Piece → Type 0
  Edited ms least ps = Level ms os least (edit_pieces d.key (piece_for d c) ps) × (those (has_tag d.key) (edit_pieces d.key (piece_for d c) ps) ≡ put_piece (piece_for d c) [])

  pub level_edit : (ms : List Member) (least : ℕ) (ps : List Piece) → least ≤ d.key → Level ms os least ps → Edited ms least ps
  unfolding edit_pieces among those has_tag
  level_edit [] least [] h L = (level_put least [] h tt, tagged_put [] refl)
  level_edit [] least (required i b ∷ ps) h L = absurd L
  level_edit [] least (optional t f b ∷ ps) h L = go (ltb t d.key) refl (eqb t d.key) refl (λ h. level_edit [] (suc t) ps h L.1)
    where
      p : Piece
      p = optional t f b

      go : (x : Bool) → ltb t d.key ≡ x → (y : Bool) → eqb t d.key ≡ y → (suc t ≤ d.key → Edited [] (suc t) ps)
          → (Level [] os least (pick x (p ∷ edit_pieces d.key (piece_for d c) ps) (put_piece (piece_for d c) (pick y ps (p ∷ ps)))))
          × (those (has_tag d.key) (pick x (p ∷ edit_pieces d.key (piece_for d c) ps) (put_piece (piece_for d c) (pick y ps (p ∷ ps)))) ≡ put_piece (piece_for d c) [])
      go true e y q ih =
          let l : t < d.key = ltb-true t d.key e in
          let I = ih (omega arith) in
          ((L.0, I.0), ap (λ (z : Bool). pick z (p ∷ those (has_tag d.key) (edit_pieces d.key (piece_for d c) ps)) (those (has_tag d.key) (edit_pieces d.key (piece_for d c) ps))) (ne_eqb t d.key (λ z. omega arith)) ∙ I.1)
      go false e true q ih =
          let s : t ≡ d.key = eqb-true t d.key q in
          let M : Level [] os (suc d.key) ps = subst (λ (z : ℕ). Level [] os (suc z) ps) s L.1 in
          (level_put least ps h M, tagged_put ps (none_tagged d.key os (suc d.key) ps (omega arith) M))
      go false e false q ih =
          let l : d.key ≤ t = ltb-false t d.key e in
          let l' : d.key < t = omega (arith, eqb-false t d.key q) in
          let M : Level [] os (suc d.key) (p ∷ ps) = (known_from L.0 (suc d.key) l', L.1) in
          (level_put least (p ∷ ps) h M, tagged_put (p ∷ ps) (none_tagged d.key os (suc d.key) (p ∷ ps) (omega arith) M))
  level_edit [] least (skipped t f b ∷ ps) h L = go (ltb t d.key) refl (eqb t d.key) refl (λ h. level_edit [] (suc t) ps h L.1)
    where
      p : Piece
      p = skipped t f b

      go : (x : Bool) → ltb t d.key ≡ x → (y : Bool) → eqb t d.key ≡ y → (suc t ≤ d.key → Edited [] (suc t) ps)
          → (Level [] os least (pick x (p ∷ edit_pieces d.key (piece_for d c) ps) (put_piece (piece_for d c) (pick y ps (p ∷ ps)))))
          × (those (has_tag d.key) (pick x (p ∷ edit_pieces d.key (piece_for d c) ps) (put_piece (piece_for d c) (pick y ps (p ∷ ps)))) ≡ put_piece (piece_for d c) [])
      go true e y q ih =
          let l : t < d.key = ltb-true t d.key e in
          let I = ih (omega arith) in
          ((L.0, I.0), ap (λ (z : Bool). pick z (p ∷ those (has_tag d.key) (edit_pieces d.key (piece_for d c) ps)) (those (has_tag d.key) (edit_pieces d.key (piece_for d c) ps))) (ne_eqb t d.key (λ z. omega arith)) ∙ I.1)
      go false e true q ih = absurd (some≢none found (ap (λ (z : ℕ). lookup z os) (sym (eqb-true t d.key q)) ∙ L.0.absent))
      go false e false q ih =
          let l : d.key ≤ t = ltb-false t d.key e in
          let l' : d.key < t = omega (arith, eqb-false t d.key q) in
          let M : Level [] os (suc d.key) (p ∷ ps) = (unknown_from L.0 (suc d.key) l', L.1) in
          (level_put least (p ∷ ps) h M, tagged_put (p ∷ ps) (none_tagged d.key os (suc d.key) (p ∷ ps) (omega arith) M))
  level_edit (m ∷ ms) least [] h L = absurd L
  level_edit (m ∷ ms) least (required i b ∷ ps) h L = let I = level_edit ms least ps h L.2 in ((L.0, L.1, I.0), I.1)
  level_edit (m ∷ ms) least (optional t f b ∷ ps) h L = absurd L
  level_edit (m ∷ ms) least (skipped t f b ∷ ps) h L = absurd L

  pub same_pieces : (ms : List Member) (ps : List Piece) → Level ms os 0 ps → SamePieces d.key (piece_for d c) ps (edit_pieces d.key (piece_for d c) ps)
  same_pieces ms ps L = record { others = sym (others_kept d.key d refl c ps); there = (level_edit ms 0 ps (omega arith) L).1 }

-- ---- edits that change nothing, and the optionals skipped

module _ (os : List Member) (d : Member) (found : lookup d.key os ≡ some d) where
  abbrev k : ℕ
  k = d.key

  -- the optionals skipped are as many: none of them has the tag
  skips_put : (c : Option (List ℕ)) (ps : List Piece) → skipped_pieces (put_piece (piece_for d c) ps) ≡ skipped_pieces ps
  unfolding put_piece piece_for skipped_pieces is_skipped
  skips_put none ps = refl
  skips_put (some b) ps = omega arith

  pub skips_kept : (c : Option (List ℕ)) (ms : List Member) (least : ℕ) (ps : List Piece) → Level ms os least ps → skipped_pieces (edit_pieces k (piece_for d c) ps) ≡ skipped_pieces ps
  unfolding edit_pieces among skipped_pieces is_skipped
  skips_kept c [] least [] L = skips_put c []
  skips_kept c [] least (required i b ∷ ps) L = absurd L
  skips_kept c [] least (optional t f b ∷ ps) L = go (ltb t k) (eqb t k) (skips_kept c [] (suc t) ps L.1)
    where
      go : (x y : Bool) → skipped_pieces (edit_pieces k (piece_for d c) ps) ≡ skipped_pieces ps
          → skipped_pieces (pick x (optional t f b ∷ edit_pieces k (piece_for d c) ps) (put_piece (piece_for d c) (pick y ps (optional t f b ∷ ps)))) ≡ 0 + skipped_pieces ps
      go true y ih = ap (λ (n : ℕ). 0 + n) ih
      go false true ih = omega (arith, skips_put c ps)
      go false false ih = skips_put c (optional t f b ∷ ps)
  skips_kept c [] least (skipped t f b ∷ ps) L = go (ltb t k) (eqb t k) refl (skips_kept c [] (suc t) ps L.1)
    where
      go : (x y : Bool) → eqb t k ≡ y → skipped_pieces (edit_pieces k (piece_for d c) ps) ≡ skipped_pieces ps
          → skipped_pieces (pick x (skipped t f b ∷ edit_pieces k (piece_for d c) ps) (put_piece (piece_for d c) (pick y ps (skipped t f b ∷ ps)))) ≡ 1 + skipped_pieces ps
      go true y q ih = ap (λ (n : ℕ). 1 + n) ih
      go false true q ih = absurd (some≢none found (ap (λ (z : ℕ). lookup z os) (sym (eqb-true t k q)) ∙ L.0.absent))
      go false false q ih = skips_put c (skipped t f b ∷ ps)
  skips_kept c (m ∷ ms) least [] L = absurd L
  skips_kept c (m ∷ ms) least (required i b ∷ ps) L = ap (λ (n : ℕ). 0 + n) (skips_kept c ms least ps L.2)
  skips_kept c (m ∷ ms) least (optional t f b ∷ ps) L = absurd L
  skips_kept c (m ∷ ms) least (skipped t f b ∷ ps) L = absurd L

  -- setting the piece that is there changes nothing
  pub edit_there : (b : List ℕ) (ms : List Member) (least : ℕ) (ps : List Piece) → Level ms os least ps → those (has_tag k) ps ≡ optional k (form_of d.ty) b ∷ []
      → edit_pieces k (piece_for d (some b)) ps ≡ ps
  unfolding edit_pieces among those has_tag put_piece piece_for
  edit_there b [] least [] L e = let z : ◌≡◌ {A = ℕ} 0 1 = cc in absurd (omega arith)
  edit_there b [] least (required i a ∷ ps) L e = absurd L
  edit_there b [] least (optional t f a ∷ ps) L e = go (ltb t k) refl (eqb t k) refl e (λ e. edit_there b [] (suc t) ps L.1 e)
    where
      go : (x : Bool) → ltb t k ≡ x → (y : Bool) → eqb t k ≡ y → pick y (optional t f a ∷ those (has_tag k) ps) (those (has_tag k) ps) ≡ optional k (form_of d.ty) b ∷ []
          → (those (has_tag k) ps ≡ optional k (form_of d.ty) b ∷ [] → edit_pieces k (piece_for d (some b)) ps ≡ ps)
          → pick x (optional t f a ∷ edit_pieces k (piece_for d (some b)) ps) (optional k (form_of d.ty) b ∷ pick y ps (optional t f a ∷ ps)) ≡ optional t f a ∷ ps
      go true l true q e ih = absurd (omega (arith, ltb-true t k l, eqb-true t k q))
      go true l false q e ih = ap (λ (z : List Piece). optional t f a ∷ z) (ih e)
      go false l true q e ih = let s : optional t f a ≡ optional k (form_of d.ty) b = cc in ap (λ (z : Piece). z ∷ ps) (sym s)
      go false l false q e ih =
          let g : k < t = omega (arith, ltb-false t k l, eqb-false t k q) in
          let n = none_tagged k os (suc t) ps (omega arith) L.1 in
          let w : [] ≡ optional k (form_of d.ty) b ∷ [] = sym n ∙ e in
          let z : ◌≡◌ {A = ℕ} 0 1 = cc in absurd (omega arith)
  edit_there b [] least (skipped t f a ∷ ps) L e = go (ltb t k) refl (eqb t k) refl e (λ e. edit_there b [] (suc t) ps L.1 e)
    where
      go : (x : Bool) → ltb t k ≡ x → (y : Bool) → eqb t k ≡ y → pick y (skipped t f a ∷ those (has_tag k) ps) (those (has_tag k) ps) ≡ optional k (form_of d.ty) b ∷ []
          → (those (has_tag k) ps ≡ optional k (form_of d.ty) b ∷ [] → edit_pieces k (piece_for d (some b)) ps ≡ ps)
          → pick x (skipped t f a ∷ edit_pieces k (piece_for d (some b)) ps) (optional k (form_of d.ty) b ∷ pick y ps (skipped t f a ∷ ps)) ≡ skipped t f a ∷ ps
      go x l true q e ih = absurd (some≢none found (ap (λ (z : ℕ). lookup z os) (sym (eqb-true t k q)) ∙ L.0.absent))
      go true l false q e ih = ap (λ (z : List Piece). skipped t f a ∷ z) (ih e)
      go false l false q e ih =
          let g : k < t = omega (arith, ltb-false t k l, eqb-false t k q) in
          let n = none_tagged k os (suc t) ps (omega arith) L.1 in
          let w : [] ≡ optional k (form_of d.ty) b ∷ [] = sym n ∙ e in
          let z : ◌≡◌ {A = ℕ} 0 1 = cc in absurd (omega arith)
  edit_there b (m ∷ ms) least [] L e = absurd L
  edit_there b (m ∷ ms) least (required i a ∷ ps) L e = ap (λ (z : List Piece). required i a ∷ z) (edit_there b ms least ps L.2 e)
  edit_there b (m ∷ ms) least (optional t f a ∷ ps) L e = absurd L
  edit_there b (m ∷ ms) least (skipped t f a ∷ ps) L e = absurd L

  -- a piece put where none was is taken out again
  pub edit_undone : (b : List ℕ) (ps : List Piece) → those (has_tag k) ps ≡ [] → edit_pieces k none (edit_pieces k (piece_for d (some b)) ps) ≡ ps
  unfolding edit_pieces among those has_tag put_piece piece_for
  edit_undone b [] e = rw (le-ltb k k (omega arith), eq-eqb k k refl) refl
  edit_undone b (required i a ∷ ps) e = ap (λ (z : List Piece). required i a ∷ z) (edit_undone b ps e)
  edit_undone b (optional t f a ∷ ps) e = go (ltb t k) refl (eqb t k) refl e (λ e. edit_undone b ps e)
    where
      go : (x : Bool) → ltb t k ≡ x → (y : Bool) → eqb t k ≡ y → pick y (optional t f a ∷ those (has_tag k) ps) (those (has_tag k) ps) ≡ []
          → (those (has_tag k) ps ≡ [] → edit_pieces k none (edit_pieces k (piece_for d (some b)) ps) ≡ ps)
          → edit_pieces k none (pick x (optional t f a ∷ edit_pieces k (piece_for d (some b)) ps) (optional k (form_of d.ty) b ∷ pick y ps (optional t f a ∷ ps))) ≡ optional t f a ∷ ps
      go x l true q e ih = let z : ◌≡◌ {A = ℕ} 0 1 = cc in absurd (omega arith)
      go true l false q e ih = rw l (ap (λ (z : List Piece). optional t f a ∷ z) (ih e))
      go false l false q e ih = rw (le-ltb k k (omega arith), eq-eqb k k refl) refl
  edit_undone b (skipped t f a ∷ ps) e = go (ltb t k) refl (eqb t k) refl e (λ e. edit_undone b ps e)
    where
      go : (x : Bool) → ltb t k ≡ x → (y : Bool) → eqb t k ≡ y → pick y (skipped t f a ∷ those (has_tag k) ps) (those (has_tag k) ps) ≡ []
          → (those (has_tag k) ps ≡ [] → edit_pieces k none (edit_pieces k (piece_for d (some b)) ps) ≡ ps)
          → edit_pieces k none (pick x (skipped t f a ∷ edit_pieces k (piece_for d (some b)) ps) (optional k (form_of d.ty) b ∷ pick y ps (skipped t f a ∷ ps))) ≡ skipped t f a ∷ ps
      go x l true q e ih = let z : ◌≡◌ {A = ℕ} 0 1 = cc in absurd (omega arith)
      go true l false q e ih = rw l (ap (λ (z : List Piece). skipped t f a ∷ z) (ih e))
      go false l false q e ih = rw (le-ltb k k (omega arith), eq-eqb k k refl) refl
