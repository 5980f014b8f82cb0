-- An edit of a message: its slice is found by its name, all others stay, and the pieces go on conforming.
--
--   Apart            one slice has the owner's name; what is before and after it
--   edit_apart       the edit of slices is the edit of that one
--   apart_slices     of slices that conform, under a chain that has the owner
--   slices_edit      the edited slices conform
--   conform_edit     so does the edited message; same_edit: all else stays
--   first_kept, optionals_kept, passed_kept     the first known type and the skips stay
use Rattle.std.specs.Prelude.{◌≡◌, Bool}
use Rattle.std.proofs.Math.Path.{refl, sym, ap, ap₂, subst}
use Rattle.std.proofs.Common.{◌∙◌, subst₂, arith}
use Rattle.std.proofs.Math.Bool.{true, false}
use Rattle.std.proofs.Math.Logic.{⊎_elim}
use Rattle.std.proofs.Math.Option.{Option, some}
use mathlib.Core.List.{List, [], ◌∷◌, ◌++◌, map}
use Prim.Native.Nat.{ℕ, suc, ◌+◌, ◌<◌}
use Rattle.encoding.specs.Result.{pick, same_bytes}
use Rattle.encoding.proofs.ResultLaws.{some≢none, same_bytes_ok, same_bytes_same}
use Rattle.encoding.specs.Table.{types, fine, faults, kind, is_record, Member, name_of, named, chain}
use Rattle.encoding.specs.Table
use Rattle.encoding.proofs.RuleLaws.{named_ok, named_at}
use Rattle.encoding.specs.Optional.{Piece}
use Rattle.encoding.specs.Slice.{Format, Slice, known, passed, id_of}
use Rattle.encoding.specs.Message.{Pieces, list, exception, class, v11, or_zero, first_in, first_known, skipped_pieces, skipped_in, passed_in, optionals_skipped, slices_skipped}
use Rattle.encoding.specs.Conform.{Owned, Follow, Slices, Conform}
use Rattle.laws.specs.Demands.{All, end, more, In, here, there}
use Rattle.laws.proofs.RowsExact.{all_map}
use Rattle.laws.proofs.PlanLaws.{Pairs, before}
use Rattle.laws.proofs.PlanRules.{Rung, Falls, record_there, list_chain, chain_rungs, chain_falls}
use Rattle.edit.specs.Change.{Target, piece_for, edit_pieces, edit_slice, edit}
use Rattle.edit.specs.ChangeDemands.{SamePieces, SameSlices, Same, a_list, an_exception, a_class}
use Rattle.edit.specs.ChangeDemands
use Rattle.edit.proofs.TargetLaws.{Aim, in_cases}
use Rattle.edit.proofs.PieceLaws.{Sound, level_edit, same_pieces, skips_kept}

-- ---- lists

pub map_append : {A B : Type 0} (f : A → B) (l k : List A) → map f (l ++ k) ≡ map f l ++ map f k
map_append f [] k = refl
map_append f (a ∷ l) k = ap (λ z. f a ∷ z) (map_append f l k)

-- ---- the slice with a name

-- another name
abbrev pub Unlike : List ℕ → Slice → Type 0
Unlike nm s = id_of s ≡ nm → ⊥

pub record Apart (P : List Piece → Type 0) (nm : List ℕ) (ss : List Slice) : Type 0 where
  pub ahead : List Slice
  pub pieces : List Piece
  pub behind : List Slice
  pub spelt : ss ≡ ahead ++ (known nm pieces ∷ behind)
  pub unlike_ahead : All (Unlike nm) ahead
  pub unlike_behind : All (Unlike nm) behind
  pub right : P pieces

module _ (nm : List ℕ) (k : ℕ) (new : Option Piece) where
  edit_unlike : (s : Slice) → Unlike nm s → edit_slice nm k new s ≡ s
  unfolding edit_slice id_of
  edit_unlike (known o ps) d = go (same_bytes o nm) refl
    where
      go : (b : Bool) → same_bytes o nm ≡ b → known o (pick b (edit_pieces k new ps) ps) ≡ known o ps
      go true e = absurd (d (same_bytes_ok o nm e))
      go false e = refl
  edit_unlike (passed b id z) d = refl

  edit_others : {ss : List Slice} → All (Unlike nm) ss → map (edit_slice nm k new) ss ≡ ss
  edit_others end = refl
  edit_others (more {a} {l} u L) = ap₂ ◌∷◌ (edit_unlike a u) (edit_others L)

  pub edit_apart : {P : List Piece → Type 0} (ss : List Slice) (A : Apart P nm ss) → map (edit_slice nm k new) ss ≡ A.ahead ++ (known nm (edit_pieces k new A.pieces) ∷ A.behind)
  unfolding edit_slice
  edit_apart ss A =
      ap (map (edit_slice nm k new)) A.spelt ∙ map_append (edit_slice nm k new) A.ahead (known nm A.pieces ∷ A.behind)
      ∙ ap₂ ◌++◌ (edit_others A.unlike_ahead) (ap₂ ◌∷◌ (ap (λ (b : Bool). known nm (pick b (edit_pieces k new A.pieces) A.pieces)) (same_bytes_same nm nm refl)) (edit_others A.unlike_behind))

  same_ahead : (a : List Slice) {ss ss' : List Slice} → SameSlices nm k new ss ss' → SameSlices nm k new (a ++ ss) (a ++ ss')
  same_ahead [] S = S
  same_ahead (s ∷ a) S = ChangeDemands.further (same_ahead a S)

  pub same_apart : {P : List Piece → Type 0} (ss : List Slice) (A : Apart P nm ss) → SamePieces k new A.pieces (edit_pieces k new A.pieces) → SameSlices nm k new ss (map (edit_slice nm k new) ss)
  same_apart ss A S = subst₂ (SameSlices nm k new) (sym A.spelt) (sym (edit_apart ss A)) (same_ahead A.ahead (ChangeDemands.here S))

-- ---- the owner's slice of slices that conform

module _ (T : List ℕ) (right : faults T ≡ fine) where
  -- records are found by their names
  abbrev pub ByName : ℕ → Type 0
  ByName t = named T (name_of T t) ≡ some t

  pub chain_names : (t : ℕ) → t < types T → is_record (kind T t) ≡ true → All ByName (chain T t)
  chain_names t l r = all_map (λ (u : ℕ) (R : Rung T right t u). named_at T right u R.below (ap (λ (k : ℕ). is_record k) R.alike ∙ r)) (chain_rungs T right t (record_there T t l r))

  one_name : (t o : ℕ) → ByName t → ByName o → name_of T t ≡ name_of T o → t ≡ o
  one_name t o e f q = let s : some t ≡ some o = sym e ∙ ap (named T) q ∙ f in cc

  follow_unlike : (g : Format) (o : ℕ) → ByName o → (ts : List ℕ) (ss : List Slice) → All ByName ts → All (λ (t : ℕ). t < o) ts → Follow T (v11 g) ts ss → All (Unlike (name_of T o)) ss
  unfolding id_of
  follow_unlike g o n [] [] N B F = end
  follow_unlike g o n [] (s ∷ ss) N B F = absurd F
  follow_unlike g o n (t ∷ ts) [] N B F = absurd F
  follow_unlike g o n (t ∷ ts) (known i ps ∷ ss) (more e N) (more l B) F =
      more {a = known i ps} (λ q. let s : t ≡ o = one_name t o e n (sym F.0 ∙ q) in omega arith) (follow_unlike g o n ts ss N B F.2)
  follow_unlike g o n (t ∷ ts) (passed b i z ∷ ss) N B F = absurd F

  apart_later : {P : List Piece → Type 0} {nm : List ℕ} {ss : List Slice} (s : Slice) → Unlike nm s → Apart P nm ss → Apart P nm (s ∷ ss)
  apart_later s u A = record {
    ahead = s ∷ A.ahead;
    pieces = A.pieces;
    behind = A.behind;
    spelt = ap (λ (z : List Slice). s ∷ z) A.spelt;
    unlike_ahead = more u A.unlike_ahead;
    unlike_behind = A.unlike_behind;
    right = A.right;
  }

  apart_follow : (g : Format) (o : ℕ) → ByName o → (ts : List ℕ) (ss : List Slice) → All ByName ts → Pairs Falls ts → In o ts → Follow T (v11 g) ts ss → Apart (Owned T o) (name_of T o) ss
  unfolding id_of
  apart_follow g o n [] ss N B i F = elim i [ ]
  apart_follow g o n (t ∷ ts) [] N B i F = absurd F
  apart_follow g o n (t ∷ ts) (known id ps ∷ ss) (more e N) (before b B) i F = ⊎_elim first (λ j. later j (apart_follow g o n ts ss N B j F.2)) (in_cases i)
    where
      first : o ≡ t → Apart (Owned T o) (name_of T o) (known id ps ∷ ss)
      first q = record {
        ahead = [];
        pieces = ps;
        behind = ss;
        spelt = ap (λ (z : List ℕ). known z ps ∷ ss) (F.0 ∙ ap (name_of T) (sym q));
        unlike_ahead = end;
        unlike_behind = follow_unlike g o n ts ss N (subst (λ (z : ℕ). All (λ (u : ℕ). u < z) ts) (sym q) b) F.2;
        right = subst (λ (z : ℕ). Owned T z ps) (sym q) F.1;
      }

      below : {l : List ℕ} → All (Falls t) l → In o l → o < t
      below end x8 = elim x8 [ ]
      below (more h H) here = h
      below (more h H) (there j) = below H j

      later : In o ts → Apart (Owned T o) (name_of T o) ss → Apart (Owned T o) (name_of T o) (known id ps ∷ ss)
      later j A = apart_later (known id ps) (λ q. let s : t ≡ o = one_name t o e n (sym F.0 ∙ q) in omega (arith, below b j)) A
  apart_follow g o n (t ∷ ts) (passed b id z ∷ ss) N B i F = absurd F

  pub apart_slices : (top : ℕ) (g : Format) (o : ℕ) → ByName o → (ss : List Slice) → Slices T top (v11 g) ss → In o (chain T (first_in T ss)) → Apart (Owned T o) (name_of T o) ss
  unfolding first_in or_zero id_of
  apart_slices top g o n [] C i = absurd C
  apart_slices top g o n (known id ps ∷ ss) C i =
      let N = named_ok T id C.row C.known in
      apart_follow g o n (chain T C.row) (known id ps ∷ ss) (chain_names C.row N.0 N.1) (chain_falls T right C.row (record_there T C.row N.0 N.1))
      (subst (λ (z : Option ℕ). In o (chain T (or_zero z))) C.known i) C.follow
  apart_slices top g o n (passed b id z ∷ ss) C i = apart_later (passed b id z) (λ q. some≢none (ap (named T) q ∙ n) C.0.unknown) (apart_slices top g o n ss C.1 i)

  -- ---- the edited slices conform

  module _ (o k : ℕ) (new : Option Piece) (n : ByName o) (owned : (ps : List Piece) → Owned T o ps → Owned T o (edit_pieces k new ps)) where
    follow_edit : (g : Format) (ts : List ℕ) (ss : List Slice) → All ByName ts → Follow T (v11 g) ts ss → Follow T (v11 g) ts (map (edit_slice (name_of T o) k new) ss)
    unfolding edit_slice
    follow_edit g [] [] N F = tt
    follow_edit g [] (s ∷ ss) N F = absurd F
    follow_edit g (t ∷ ts) [] N F = absurd F
    follow_edit g (t ∷ ts) (known id ps ∷ ss) (more e N) F = (F.0, go (same_bytes id (name_of T o)) refl, follow_edit g ts ss N F.2)
      where
        go : (b : Bool) → same_bytes id (name_of T o) ≡ b → Owned T t (pick b (edit_pieces k new ps) ps)
        go true q =
            let s : t ≡ o = one_name t o e n (sym F.0 ∙ same_bytes_ok id (name_of T o) q) in
            subst (λ (z : ℕ). Owned T z (edit_pieces k new ps)) (sym s) (owned ps (subst (λ (z : ℕ). Owned T z ps) s F.1))
        go false q = F.1
    follow_edit g (t ∷ ts) (passed b id z ∷ ss) N F = absurd F

    slices_edit : (top : ℕ) (g : Format) (ss : List Slice) → Slices T top (v11 g) ss → Slices T top (v11 g) (map (edit_slice (name_of T o) k new) ss)
    unfolding edit_slice
    slices_edit top g [] C = absurd C
    slices_edit top g (known id ps ∷ ss) C =
        let N = named_ok T id C.row C.known in
        record { row = C.row; known = C.known; descends = C.descends; follow = follow_edit g (chain T C.row) (known id ps ∷ ss) (chain_names C.row N.0 N.1) C.follow }
    slices_edit top g (passed b id z ∷ ss) C = (C.0, slices_edit top g ss C.1)

-- ---- the first known type and the skips stay

module _ (T nm : List ℕ) (k : ℕ) (new : Option Piece) where
  first_in_kept : (ss : List Slice) → first_in T (map (edit_slice nm k new) ss) ≡ first_in T ss
  unfolding first_in edit_slice
  first_in_kept [] = refl
  first_in_kept (known o ps ∷ ss) = refl
  first_in_kept (passed b id z ∷ ss) = first_in_kept ss

  pub first_kept : (top : ℕ) (p : Pieces) → first_known T top (edit nm k new p) ≡ first_known T top p
  unfolding first_known edit
  first_kept top (list ps) = refl
  first_kept top (exception ss) = first_in_kept ss
  first_kept top (class ss) = first_in_kept ss

  passed_in_kept : (ss : List Slice) → passed_in (map (edit_slice nm k new) ss) ≡ passed_in ss
  unfolding passed_in edit_slice
  passed_in_kept [] = refl
  passed_in_kept (known o ps ∷ ss) = passed_in_kept ss
  passed_in_kept (passed b id z ∷ ss) = ap suc (passed_in_kept ss)

  pub passed_kept : (p : Pieces) → slices_skipped (edit nm k new p) ≡ slices_skipped p
  unfolding slices_skipped edit
  passed_kept (list ps) = refl
  passed_kept (exception ss) = passed_in_kept ss
  passed_kept (class ss) = passed_in_kept ss

skipped_in_append : (l r : List Slice) → skipped_in (l ++ r) ≡ skipped_in l + skipped_in r
unfolding skipped_in
skipped_in_append [] r = omega arith
skipped_in_append (known o ps ∷ l) r = omega (arith, skipped_in_append l r)
skipped_in_append (passed b id z ∷ l) r = skipped_in_append l r

-- ---- a message

-- the row of the chain of a top's first known type is a record of that name, or the list itself
module _ (T : List ℕ) (right : faults T ≡ fine) (top : ℕ) (g : Format) (m : ℕ) (x : Target) where
  abbrev nm : List ℕ
  nm = name_of T x.owner

  -- the owner is a record, found by its name
  pub by_name : (ss : List Slice) → Slices T top (v11 g) ss → In x.owner (chain T (first_in T ss)) → named T nm ≡ some x.owner
  unfolding first_in or_zero
  by_name [] C i = absurd C
  by_name (known id ps ∷ ss) C i =
      let N = named_ok T id C.row C.known in
      pick_out (chain_names T right C.row N.0 N.1) (subst (λ (z : Option ℕ). In x.owner (chain T (or_zero z))) C.known i)
    where
      pick_out : {l : List ℕ} → All (ByName T right) l → In x.owner l → named T nm ≡ some x.owner
      pick_out end x7 = elim x7 [ ]
      pick_out (more e N) here = e
      pick_out (more e N) (there j) = pick_out N j
  by_name (passed b id z ∷ ss) C i = by_name ss C.1 i

  -- a parameter list owns its members
  pub list_owner : kind T top ≡ 15 → In x.owner (chain T top) → x.owner ≡ top
  list_owner k i = ⊎_elim (λ e. e) none_else (in_cases (subst (In x.owner) (list_chain T top k) i))
    where
      none_else : In x.owner [] → x.owner ≡ top
      none_else = elim [ ]

  module _ (p : Pieces) (C : Conform T top (v11 g) p) (A : Aim T (chain T (first_known T top p)) m x) (c : Option (List ℕ)) (S : Sound x.member c) where
    abbrev new : Option Piece
    new = piece_for x.member c

    abbrev key : ℕ
    key = x.member.key

    owned_edit : (ps : List Piece) → Owned T x.owner ps → Owned T x.owner (edit_pieces key new ps)
    owned_edit ps L = (level_edit (Table.optional_members T x.owner) x.member A.found A.short c S (Table.required_members T x.owner) 0 ps (omega arith) L).0

    owned_same : (ps : List Piece) → Owned T x.owner ps → SamePieces key new ps (edit_pieces key new ps)
    owned_same ps L = same_pieces (Table.optional_members T x.owner) x.member A.found A.short c S (Table.required_members T x.owner) ps L

    owned_skips : (ps : List Piece) → Owned T x.owner ps → skipped_pieces (edit_pieces key new ps) ≡ skipped_pieces ps
    owned_skips ps L = skips_kept (Table.optional_members T x.owner) x.member A.found c (Table.required_members T x.owner) 0 ps L

    slices_skips : (ss : List Slice) → Apart (Owned T x.owner) nm ss → skipped_in (map (edit_slice nm key new) ss) ≡ skipped_in ss
    unfolding skipped_in
    slices_skips ss P =
        ap skipped_in (edit_apart nm key new ss P) ∙ skipped_in_append P.ahead (known nm (edit_pieces key new P.pieces) ∷ P.behind)
        ∙ ap (λ (n : ℕ). skipped_in P.ahead + (n + skipped_in P.behind)) (owned_skips P.pieces P.right)
        ∙ sym (skipped_in_append P.ahead (known nm P.pieces ∷ P.behind)) ∙ ap skipped_in (sym P.spelt)

  pub conform_edit : (p : Pieces) → Conform T top (v11 g) p → Aim T (chain T (first_known T top p)) m x → (c : Option (List ℕ)) → Sound x.member c → Conform T top (v11 g) (edit nm x.member.key (piece_for x.member c) p)
  unfolding edit first_known
  conform_edit (list ps) C A c S =
      let q = list_owner C.0 A.within in
      (C.0, C.1, subst (λ (z : ℕ). Owned T z (edit_pieces x.member.key (piece_for x.member c) ps)) q (owned_edit (list ps) C A c S ps (subst (λ (z : ℕ). Owned T z ps) (sym q) C.2)))
  conform_edit (exception ss) C A c S = (C.0, slices_edit T right x.owner x.member.key (piece_for x.member c) (by_name ss C.1 A.within) (owned_edit (exception ss) C A c S) top g ss C.1)
  conform_edit (class ss) C A c S = (C.0, slices_edit T right x.owner x.member.key (piece_for x.member c) (by_name ss C.1 A.within) (owned_edit (class ss) C A c S) top g ss C.1)

  pub same_edit : (p : Pieces) → Conform T top (v11 g) p → Aim T (chain T (first_known T top p)) m x → (c : Option (List ℕ)) → Sound x.member c → Same nm x.member.key (piece_for x.member c) p (edit nm x.member.key (piece_for x.member c) p)
  unfolding edit first_known
  same_edit (list ps) C A c S =
      a_list (owned_same (list ps) C A c S ps (subst (λ (z : ℕ). Owned T z ps) (sym (list_owner C.0 A.within)) C.2))
  same_edit (exception ss) C A c S =
      let P = apart_slices T right top g x.owner (by_name ss C.1 A.within) ss C.1 A.within in
      an_exception (same_apart nm x.member.key (piece_for x.member c) ss P (owned_same (exception ss) C A c S P.pieces P.right))
  same_edit (class ss) C A c S =
      let P = apart_slices T right top g x.owner (by_name ss C.1 A.within) ss C.1 A.within in
      a_class (same_apart nm x.member.key (piece_for x.member c) ss P (owned_same (class ss) C A c S P.pieces P.right))

  pub optionals_kept : (p : Pieces) → Conform T top (v11 g) p → Aim T (chain T (first_known T top p)) m x → (c : Option (List ℕ)) → Sound x.member c
      → optionals_skipped (edit nm x.member.key (piece_for x.member c) p) ≡ optionals_skipped p
  unfolding optionals_skipped edit first_known
  optionals_kept (list ps) C A c S = owned_skips (list ps) C A c S ps (subst (λ (z : ℕ). Owned T z ps) (sym (list_owner C.0 A.within)) C.2)
  optionals_kept (exception ss) C A c S = slices_skips (exception ss) C A c S ss (apart_slices T right top g x.owner (by_name ss C.1 A.within) ss C.1 A.within)
  optionals_kept (class ss) C A c S = slices_skips (class ss) C A c S ss (apart_slices T right top g x.owner (by_name ss C.1 A.within) ss C.1 A.within)
