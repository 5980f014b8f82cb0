-- Members of matching owners: what a new owner's pieces are to an old one, which loses the optionals that it does not know.
--
--   lookup_key                      a member is found by its key
--   optionals_match                 an optional that the old owner knows is known to the new one, with the same type
--   Positions, required_positions   required members are numbered by their position
--   lookup_same                     required members of agreeing types are found alike
--   lose_all, owned_newer            pieces that conform to the new owner, without what the old one does not know, conform to the old one
use Rattle.std.specs.Prelude.{◌≡◌, Bool, true, false, ℕ, suc, length, eqb}
use Rattle.std.proofs.Math.Path.{refl, sym, ap, subst}
use Rattle.std.proofs.Common.{◌∙◌, eqb-true}
use Rattle.std.proofs.Math.Option.{Option, none, some}
use mathlib.Core.List.{List, [], ◌∷◌, ◌++◌, map, append-nil, head-eq_of_cons-eq, tail-eq_of_cons-eq, nil≢cons, cons≢nil}
use Rattle.encoding.specs.Result.{pick}
use Rattle.encoding.proofs.ResultLaws.{some≢none}
use Rattle.encoding.specs.Number.{Short}
use Rattle.encoding.specs.Types.{Ty, Bits, Form, bits_of, form_of}
use Rattle.encoding.specs.Grammar.{IsValue, IsExtent, ListsRise}
use Rattle.encoding.specs.Table.{Member, lookup, mark, requireds_in, fine, faults}
use Rattle.encoding.specs.Table
use Rattle.encoding.specs.Optional.{Piece, required, optional, skipped, part, length_bytes}
use Rattle.encoding.proofs.OptionalLaws.{part_extent}
use Rattle.encoding.specs.OptionalForm.{HasForm}
use Rattle.encoding.proofs.OptionalFormLaws.{is_form}
use Rattle.encoding.specs.Conform.{Known, Unknown, Level, Owned}
use Rattle.encoding.specs.Extends.{OptionalsMatch, OwnersMatch, type_of}
use Rattle.encoding.proofs.ListLaws.{MembersRise, found_rises, optional_rise}
use Rattle.encoding.proofs.ExactLaws.{extent_is}
use Rattle.laws.specs.Lose.{keep_or, lose_piece}
use Rattle.laws.proofs.OptionalExact.{part_written}

-- ---- members that match

pub lookup_key : (k : ℕ) (ms : List Member) (m : Member) → lookup k ms ≡ some m → k ≡ m.key
unfolding lookup
lookup_key k [] m h = absurd (some≢none h refl)
lookup_key k (a ∷ ms) m h = go (eqb k a.key) refl h (λ h. lookup_key k ms m h)
  where
    go : (b : Bool) → eqb k a.key ≡ b → pick b (some a) (lookup k ms) ≡ some m → (lookup k ms ≡ some m → k ≡ m.key) → k ≡ m.key
    go true e h ih = let s : a ≡ m = cc in eqb-true k a.key e ∙ ap (λ (x : Member). x.key) s
    go false e h ih = ih h

-- an optional that the old owner knows is known to the new one, with the same type
pub optionals_match : (k : ℕ) (ms ns : List Member) (m : Member) → OptionalsMatch ms ns → lookup k ms ≡ some m → type_of (lookup k ns) ≡ some m.ty
unfolding lookup
optionals_match k [] ns m M h = absurd (some≢none h refl)
optionals_match k (a ∷ ms) ns m M h = go (eqb k a.key) refl h (λ h. optionals_match k ms ns m M.1 h)
  where
    go : (b : Bool) → eqb k a.key ≡ b → pick b (some a) (lookup k ms) ≡ some m → (lookup k ms ≡ some m → type_of (lookup k ns) ≡ some m.ty) → type_of (lookup k ns) ≡ some m.ty
    go true e h ih =
        let s : a ≡ m = cc in
        ap (λ (i : ℕ). type_of (lookup i ns)) (eqb-true k a.key e) ∙ M.0 ∙ ap (λ (x : Member). some x.ty) s
    go false e h ih = ih h

-- members numbered from i on
abbrev pub Positions : ℕ → List Member → Type 0
Positions i [] = Unit {0}
Positions i (m ∷ ms) = (m.key ≡ i) × Positions (suc i) ms

pub required_positions : (T : List ℕ) (l : List Ty) (i : ℕ) (rs : List ℕ) → Positions i (requireds_in T l i rs)
unfolding requireds_in
required_positions T l i [] = tt
required_positions T l i (m ∷ rs) = go (eqb (mark T m) 0) (required_positions T l (suc i) rs) (required_positions T l i rs)
  where
    go : (b : Bool) → Positions (suc i) (requireds_in T l (suc i) rs) → Positions i (requireds_in T l i rs)
        → Positions i (pick b (record { row = m; key = i; ty = Table.member_ty T l m } ∷ requireds_in T l (suc i) rs) (requireds_in T l i rs))
    go true p q = (refl, p)
    go false p q = q

-- required members of agreeing types are found alike
pub lookup_same : (i k : ℕ) (ms ns : List Member) → Positions i ms → Positions i ns → map (λ (m : Member). m.ty) ms ≡ map (λ (m : Member). m.ty) ns
    → type_of (lookup k ms) ≡ type_of (lookup k ns)
unfolding lookup type_of
lookup_same i k [] [] p q e = refl
lookup_same i k [] (n ∷ ns) p q e = absurd (nil≢cons e)
lookup_same i k (m ∷ ms) [] p q e = absurd (cons≢nil e)
lookup_same i k (m ∷ ms) (n ∷ ns) p q e =
    ap (λ (x : ℕ). type_of (pick (eqb k x) (some m) (lookup k ms))) p.0 ∙ go (eqb k i) (lookup_same (suc i) k ms ns p.1 q.1 (tail-eq_of_cons-eq e))
    ∙ ap (λ (x : ℕ). type_of (pick (eqb k x) (some n) (lookup k ns))) (sym q.0)
  where
    go : (b : Bool) → type_of (lookup k ms) ≡ type_of (lookup k ns) → type_of (pick b (some m) (lookup k ms)) ≡ type_of (pick b (some n) (lookup k ns))
    go true ih = ap some (head-eq_of_cons-eq e)
    go false ih = ih

-- ---- what an old owner makes of an optional that it does not know

-- a known value, length field and all, is what its type in the header declares
known_extent : (t : Ty) → ListsRise t → (b : List ℕ) → IsValue t b → Short (length b) → IsExtent (bits_of (form_of t)) (length_bytes (form_of t) b ++ b)
known_extent t R b w s =
    let E = part_extent (form_of t) (length_bytes (form_of t) b ++ b) (ap (part (form_of t)) (sym (append-nil (length_bytes (form_of t) b ++ b))) ∙ part_written t R b [] w s) in
    extent_is (bits_of (form_of t)) (length_bytes (form_of t) b ++ b) E.0 E.1

module _ (ms ns : List Member) (match : OptionalsMatch ms ns) (rise : MembersRise ns) where
  -- what neither knows, and what only the new owner knows
  unknown_newer : (least k : ℕ) (f : Bits) (b : List ℕ) → Unknown ns least k f b → Unknown ms least k f b
  unfolding type_of
  unknown_newer least k f b U = record { absent = go (lookup k ms) refl; rises = U.rises; whole = U.whole; tag_short = U.tag_short }
    where
      go : (o : Option Member) → lookup k ms ≡ o → o ≡ none
      go none e = refl
      go (some m) e = absurd (some≢none (optionals_match k ms ns m match e) (ap type_of U.absent))

  lost_newer : (least k : ℕ) (f : Form) (b : List ℕ) → Known ns least k f b → lookup k ms ≡ none → Unknown ms least k (bits_of f) (length_bytes f b ++ b)
  lost_newer least k f b K z =
      record {
        absent = z;
        rises = K.rises;
        whole = subst (λ (g : Form). IsExtent (bits_of g) (length_bytes g b ++ b)) (is_form K.form) (known_extent K.member.ty (found_rises k ns K.member rise K.found) b K.one K.length_short);
        tag_short = K.tag_short;
      }

  -- what both know
  known_newer : (least k : ℕ) (f : Form) (b : List ℕ) → Known ns least k f b → (m : Member) → lookup k ms ≡ some m → Known ms least k f b
  unfolding type_of
  known_newer least k f b K m e =
      let s : some K.member.ty ≡ some m.ty = ap type_of (sym K.found) ∙ optionals_match k ms ns m match e in
      let y : K.member.ty ≡ m.ty = cc in
      record { member = m; found = e; rises = K.rises; form = subst (λ (t : Ty). HasForm t f) y K.form; one = subst (λ (t : Ty). IsValue t b) y K.one; tag_short = K.tag_short; length_short = K.length_short }

  -- ---- all members of an owner

  level_newer : (i : ℕ) (rs ss : List Member) → Positions i rs → Positions i ss → map (λ (m : Member). m.ty) rs ≡ map (λ (m : Member). m.ty) ss
      → (least : ℕ) (ps : List Piece) → Level ss ns least ps → Level rs ms least (map (lose_piece ms) ps)
  unfolding lose_piece keep_or
  level_newer i [] [] p q e least [] L = tt
  level_newer i [] [] p q e least (required j b ∷ ps) L = absurd L
  level_newer i [] [] p q e least (optional k f b ∷ ps) L = go (lookup k ms) refl (level_newer i [] [] p q e (suc k) ps L.1)
    where
      go : (o : Option Member) → lookup k ms ≡ o → Level [] ms (suc k) (map (lose_piece ms) ps) → Level [] ms least (keep_or k f b o ∷ map (lose_piece ms) ps)
      go none z ih = (lost_newer least k f b L.0 z, ih)
      go (some m) z ih = (known_newer least k f b L.0 m z, ih)
  level_newer i [] [] p q e least (skipped k f b ∷ ps) L = (unknown_newer least k f b L.0, level_newer i [] [] p q e (suc k) ps L.1)
  level_newer i [] (n ∷ ss) p q e least ps L = absurd (nil≢cons e)
  level_newer i (m ∷ rs) [] p q e least ps L = absurd (cons≢nil e)
  level_newer i (m ∷ rs) (n ∷ ss) p q e least [] L = absurd L
  level_newer i (m ∷ rs) (n ∷ ss) p q e least (required j b ∷ ps) L = (
    L.0 ∙ q.0 ∙ sym p.0,
    subst (λ (t : Ty). IsValue t b) (sym (head-eq_of_cons-eq e)) L.1,
    level_newer (suc i) rs ss p.1 q.1 (tail-eq_of_cons-eq e) least ps L.2,
  )
  level_newer i (m ∷ rs) (n ∷ ss) p q e least (optional k f b ∷ ps) L = absurd L
  level_newer i (m ∷ rs) (n ∷ ss) p q e least (skipped k f b ∷ ps) L = absurd L

-- what owner t of the old table makes of pieces
abbrev pub lose_all : List ℕ → ℕ → List Piece → List Piece
lose_all old t = map (lose_piece (Table.optional_members old t))

-- pieces of an owner are, to the owner that it matches, pieces too
pub owned_newer : (old new : List ℕ) → faults new ≡ fine → (t u : ℕ) → OwnersMatch old new t u → (ps : List Piece) → Owned new u ps → Owned old t (lose_all old t ps)
unfolding Table.required_members
owned_newer old new right t u M ps L =
    level_newer (Table.optional_members old t) (Table.optional_members new u) M.optional_ones (optional_rise new right u) 0 (Table.required_members old t) (Table.required_members new u)
    (required_positions old (Table.trees old) 0 (Table.own_rows old t)) (required_positions new (Table.trees new) 0 (Table.own_rows new u)) M.required_ones 0 ps L
