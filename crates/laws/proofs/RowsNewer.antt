-- The rows of a newer message under an old table: those of the members that it knows, at the same places.
--
--   Owners old new top top' t u                        t is the one owner of the old table that matches owner u of the new one
--   owner_there, match_own, counterpart_owner          the new owner of matching members takes the new member's row, and is the only one
--   pieces_kept                                        the rows of one owner
--   slices_kept                                        the rows of a chain
use Rattle.std.specs.Prelude.{◌≡◌, Bool, true, false, eqb}
use Rattle.std.proofs.Math.Path.{refl, ap, subst, subst₂}
use Rattle.std.proofs.Common.{sym, ap₂, ◌∙◌, true≢false, arith}
use Rattle.std.proofs.Math.Option.{Option, none, some}
use mathlib.Core.List.{List, [], ◌∷◌, ◌++◌, map}
use Prim.Native.Nat.{ℕ, zero, suc, ◌+◌, ◌<◌}
use Rattle.std.proofs.Math.ListN.{length}
use Rattle.encoding.proofs.ResultLaws.{some≢none}
use Rattle.encoding.specs.Table.{types, kind, is_record, owns, field, mark, tag, name_of, named, base, upward, chain, Member, lookup, trees, own_rows}
use Rattle.encoding.specs.Table
use Rattle.encoding.proofs.RuleLaws.{Own, required_own, optional_own, owns_record, named_ok, named_at, chain_node, rows_apart}
use Rattle.encoding.specs.Optional.{Piece, required, optional, skipped, front_bytes, content_bytes, piece_bytes}
use Rattle.encoding.specs.Slice.{Format, Slice, known, passed, Stand, later, any_optional, data_bytes, slice_front, is_last}
use Rattle.encoding.specs.Message.{v11, Row, list_row, piece_member, piece_rows, slice_rows, or_zero, first_in}
use Rattle.encoding.specs.Conform.{Follow, Slices}
use Rattle.encoding.specs.Extends.{OwnersMatch, Extends, SameOwner, as_records, as_tops, MembersMatch, both_required, both_optional, Counterpart, type_of}
use Rattle.laws.specs.Demands.{Kept, ended, kept, lost}
use Rattle.laws.specs.Lose.{keep_or, lose_piece, lose_known, lose_slice}
use Rattle.laws.proofs.OptionalNewer.{lookup_key, optionals_match, required_positions, lookup_same, lose_all}
use Rattle.laws.proofs.LoseLaws.{lose_piece_bytes, lose_slice_data, lose_slice_front, lose_slices_last}
use Rattle.laws.proofs.RecordNewer.{Bases, neither, both, bases_of, Standing, standing_base, record_list, Pair, new_record, pair_of, pair_only, pair_named, named_both}

-- ---- rows joined

kept_append : {old new : List ℕ} {top top' : ℕ} {a a' b b' : List Row} → Kept old new top top' a a' → Kept old new top top' b b' → Kept old new top top' (a ++ b) (a' ++ b')
kept_append ended k = k
kept_append (kept c p l j) k = kept c p l (kept_append j k)
kept_append (lost c j) k = lost c (kept_append j k)

-- ---- owners that match

-- t is the one owner of the old table that matches owner u of the new one
pub record Owners (old new : List ℕ) (top top' t u : ℕ) : Type 0 where
  pub match : OwnersMatch old new t u
  pub owners : SameOwner old new top top' t u
  pub inside : u < types new
  pub own : owns (kind new u) ≡ true
  pub only : (o : ℕ) → SameOwner old new top top' o u → o ≡ t

module _ (old new : List ℕ) (X : Extends old new) (top top' : ℕ) (top_there : top' < types new) where
  pub owner_there : {o o' : ℕ} → SameOwner old new top top' o o' → (o' < types new) × (owns (kind new o') ≡ true)
  owner_there {o' = o'} (as_records l S) = (S.inside, owns_record (kind new o') (new_record S))
  owner_there (as_tops e f k k') = (subst (λ (x : ℕ). x < types new) (sym f) top_there, rw k')

  pub match_own : {t u : ℕ} {m n : Member} → MembersMatch old new t u m n → (q : Bool) × Own new (field new u 0) (field new u 1) q n
  match_own {u = u} {m = m} {n = n} (both_required a b) = (true, required_own new u m.key n b)
  match_own {u = u} {m = m} {n = n} (both_optional a b) = (false, optional_own new u m.key n b)

  -- a counterpart of a member row is under the row's owner
  pub counterpart_owner : (u : ℕ) → u < types new → owns (kind new u) ≡ true → (q : Bool) (n : Member) → Own new (field new u 0) (field new u 1) q n
      → (m : ℕ) (C : Counterpart old new top top' m n.row) → C.owner' ≡ u
  counterpart_owner u l o q n O m C =
      let A = owner_there C.owners in
      let W = (match_own C.match).1 in
      rows_apart new X.new_right C.owner' u n.row A.0 l A.1 o (omega (arith, W.from, C.there)) (omega (arith, W.to, C.there)) O.from O.to

  -- a member of a record that the old table does not know has none
  lost_record : (u : ℕ) → u < types new → is_record (kind new u) ≡ true → named old (name_of new u) ≡ none
      → (q : Bool) (n : Member) → Own new (field new u 0) (field new u 1) q n → (m : ℕ) → Counterpart old new top top' m n.row → ⊥
  lost_record u l r z q n O m C =
      go (subst (SameOwner old new top top' C.owner) (counterpart_owner u l (owns_record (kind new u) r) q n O m C) C.owners)
    where
      go : SameOwner old new top top' C.owner u → ⊥
      go (as_records k S) = some≢none (pair_named old new X C.owner u (pair_of old new X C.owner u k S)) z
      go (as_tops e f k k') = record_list (kind new u) r k'

  -- nor has an optional whose tag the old owner does not know
  lost_optional : (t u : ℕ) → Owners old new top top' t u → (k : ℕ) (n : Member) → lookup k (Table.optional_members new u) ≡ some n → lookup k (Table.optional_members old t) ≡ none
      → (m : ℕ) → Counterpart old new top top' m n.row → ⊥
  lost_optional t u W k n e z m C = go C.match (counterpart_owner u W.inside W.own false n (optional_own new u k n e) m C)
    where
      O : Own new (field new u 0) (field new u 1) false n
      O = optional_own new u k n e

      go₂ : MembersMatch old new t u C.member C.member' → ⊥
      go₂ (both_required a b) =
          true≢false (sym (required_own new u C.member.key C.member' b).marked ∙ ap (λ (x : ℕ). eqb (mark new x) 0) C.there ∙ O.marked)
      go₂ (both_optional a b) =
          let same : C.member.key ≡ k =
          lookup_key C.member.key (Table.optional_members new u) C.member' b ∙ (optional_own new u C.member.key C.member' b).tagged refl
          ∙ ap (tag new) C.there ∙ sym (O.tagged refl) ∙ sym (lookup_key k (Table.optional_members new u) n e) in
          some≢none (ap (λ (x : ℕ). lookup x (Table.optional_members old t)) (sym same) ∙ a) z

      go : MembersMatch old new C.owner C.owner' C.member C.member' → C.owner' ≡ u → ⊥
      go M f =
          let o : C.owner ≡ t = W.only C.owner (subst (SameOwner old new top top' C.owner) f C.owners) in
          go₂ (subst₂ (λ (x y : ℕ). MembersMatch old new x y C.member C.member') o f M)

  -- ---- the rows of one owner

  module _ (t u : ℕ) (W : Owners old new top top' t u) where
    counterpart_required : (i : ℕ) (m n : Member) → lookup i (Table.required_members old t) ≡ some m → lookup i (Table.required_members new u) ≡ some n → Counterpart old new top top' m.row n.row
    counterpart_required i m n e f =
        let k = lookup_key i (Table.required_members old t) m e in
        record {
          owner = t;
          owner' = u;
          member = m;
          member' = n;
          owners = W.owners;
          match = both_required (ap (λ (x : ℕ). lookup x (Table.required_members old t)) (sym k) ∙ e) (ap (λ (x : ℕ). lookup x (Table.required_members new u)) (sym k) ∙ f);
          here = refl;
          there = refl;
        }

    counterpart_optional : (i : ℕ) (m n : Member) → lookup i (Table.optional_members old t) ≡ some m → lookup i (Table.optional_members new u) ≡ some n → Counterpart old new top top' m.row n.row
    counterpart_optional i m n e f =
        let k = lookup_key i (Table.optional_members old t) m e in
        record {
          owner = t;
          owner' = u;
          member = m;
          member' = n;
          owners = W.owners;
          match = both_optional (ap (λ (x : ℕ). lookup x (Table.optional_members old t)) (sym k) ∙ e) (ap (λ (x : ℕ). lookup x (Table.optional_members new u)) (sym k) ∙ f);
          here = refl;
          there = refl;
        }

    -- the row of one piece, before the others
    piece_kept : (p : Piece) (at : ℕ) (rs rs' : List Row) → Kept old new top top' rs rs'
        → Kept old new top top' (list_row (piece_member new u p) (at + length (front_bytes p)) (content_bytes p) rs)
        (list_row (piece_member old t (lose_piece (Table.optional_members old t) p)) (at + length (front_bytes (lose_piece (Table.optional_members old t) p))) (content_bytes (lose_piece (Table.optional_members old t) p)) rs')
    unfolding list_row piece_member lose_piece keep_or content_bytes type_of Table.required_members
    piece_kept (required i b) at rs rs' K = go (lookup i (Table.required_members old t)) refl (lookup i (Table.required_members new u)) refl
      where
        same : type_of (lookup i (Table.required_members old t)) ≡ type_of (lookup i (Table.required_members new u))
        same =
            lookup_same 0 i (Table.required_members old t) (Table.required_members new u) (required_positions old (trees old) 0 (own_rows old t)) (required_positions new (trees new) 0 (own_rows new u))
            W.match.required_ones

        front : ℕ
        front = at + length (front_bytes (required i b))

        go : (a : Option Member) → lookup i (Table.required_members old t) ≡ a → (c : Option Member) → lookup i (Table.required_members new u) ≡ c
            → Kept old new top top' (list_row c front b rs) (list_row a front b rs')
        go none e none f = K
        go none e (some n) f = absurd (some≢none (ap type_of f) (sym same ∙ ap type_of e))
        go (some m) e none f = absurd (some≢none (sym same ∙ ap type_of e) (ap type_of f))
        go (some m) e (some n) f = kept (counterpart_required i m n e f) refl refl K
    piece_kept (optional k f b) at rs rs' K = go (lookup k (Table.optional_members old t)) refl (lookup k (Table.optional_members new u)) refl
      where
        lose : Option Member → Piece
        lose o = keep_or k f b o

        go : (a : Option Member) → lookup k (Table.optional_members old t) ≡ a → (c : Option Member) → lookup k (Table.optional_members new u) ≡ c
            → Kept old new top top' (list_row c (at + length (front_bytes (optional k f b))) b rs) (list_row (piece_member old t (lose a)) (at + length (front_bytes (lose a))) (content_bytes (lose a)) rs')
        go none e none g = K
        go none e (some n) g = lost (lost_optional t u W k n g e) K
        go (some m) e none g = absurd (some≢none (optionals_match k (Table.optional_members old t) (Table.optional_members new u) m W.match.optional_ones e) (ap type_of g))
        go (some m) e (some n) g =
            subst (λ (o : Option Member). Kept old new top top' (list_row (some n) (at + length (front_bytes (optional k f b))) b rs) (list_row o (at + length (front_bytes (optional k f b))) b rs')) (sym e)
            (kept (counterpart_optional k m n e g) refl refl K)
    piece_kept (skipped k f b) at rs rs' K = K

    pub pieces_kept : (at : ℕ) (ps : List Piece) → Kept old new top top' (piece_rows new u at ps) (piece_rows old t at (lose_all old t ps))
    unfolding piece_rows
    pieces_kept at [] = ended
    pieces_kept at (p ∷ ps) =
        piece_kept p at _ _ (subst (λ (b : List ℕ). Kept old new top top' (piece_rows new u (at + length (piece_bytes p)) ps) (piece_rows old t (at + length b) (lose_all old t ps)))
        (sym (lose_piece_bytes (Table.optional_members old t) p)) (pieces_kept (at + length (piece_bytes p)) ps))

  -- of a record that the old table does not know no row is kept
  pieces_lost : (u : ℕ) → u < types new → is_record (kind new u) ≡ true → named old (name_of new u) ≡ none → (at : ℕ) (ps : List Piece) → Kept old new top top' (piece_rows new u at ps) []
  unfolding piece_rows list_row piece_member
  pieces_lost u l r z at [] = ended
  pieces_lost u l r z at (p ∷ ps) = go (piece_member new u p) (owned p) (pieces_lost u l r z (at + length (piece_bytes p)) ps)
    where
      owned : (p : Piece) (n : Member) → piece_member new u p ≡ some n → (q : Bool) × Own new (field new u 0) (field new u 1) q n
      owned (required i b) n e = (true, required_own new u i n e)
      owned (optional k f b) n e = (false, optional_own new u k n e)
      owned (skipped k f b) n e = absurd (some≢none e refl)

      go : (o : Option Member) → ((n : Member) → o ≡ some n → (q : Bool) × Own new (field new u 0) (field new u 1) q n)
          → Kept old new top top' (piece_rows new u (at + length (piece_bytes p)) ps) []
          → Kept old new top top' (list_row o (at + length (front_bytes p)) (content_bytes p) (piece_rows new u (at + length (piece_bytes p)) ps)) []
      go none own K = K
      go (some n) own K = let O = own n refl in lost (lost_record u l r z O.0 n O.1) K

  -- ---- the rows of a chain

  owners_of : (t u : ℕ) → Pair old new t u → Owners old new top top' t u
  owners_of t u P = record {
    match = P.owners;
    owners = as_records P.below P.same;
    inside = P.same.inside;
    own = owns_record (kind new u) (new_record P.same);
    only = only;
  }
    where
      only : (o : ℕ) → SameOwner old new top top' o u → o ≡ t
      only o (as_records l S) = pair_only old new X o t u l P.below S P.same
      only o (as_tops e f k k') = absurd (record_list (kind new u) (new_record P.same) k')

  -- the rows of slices of the new chain us, under the old chain ts
  abbrev Lists : Format → Stand → List ℕ → List ℕ → List Slice → Type 0
  Lists g s us ts ss = (at : ℕ) → Kept old new top top' (slice_rows new (v11 g) s at us ss) (slice_rows old (v11 g) s at ts (map (lose_slice old) ss))

  front_same : (g : Format) (s : Stand) (sl : Slice) (ss : List Slice) (sl' : Slice) → lose_slice old sl ≡ sl'
      → length (slice_front g s (is_last ss) sl) ≡ length (slice_front g s (is_last (map (lose_slice old) ss)) sl')
  front_same g s sl ss sl' e =
      sym (ap length (lose_slice_front old g s (is_last ss) sl)) ∙ ap₂ (λ (b : Bool) (x : Slice). length (slice_front g s b x)) (sym (lose_slices_last old ss)) e

  data_same : (sl sl' : Slice) → lose_slice old sl ≡ sl' → length (data_bytes sl) ≡ length (data_bytes sl')
  data_same sl sl' e = sym (ap length (lose_slice_data old sl)) ∙ ap (λ (x : Slice). length (data_bytes x)) e

  -- a slice of a record that both know
  known_kept : (t u : ℕ) → Owners old new top top' t u → (g : Format) (s : Stand) (us ts : List ℕ) (o : List ℕ) (ps : List Piece) (ss : List Slice) → named old o ≡ some t
      → Lists g (later g) us ts ss → Lists g s (u ∷ us) (t ∷ ts) (known o ps ∷ ss)
  unfolding slice_rows lose_slice lose_known
  known_kept t u W g s us ts o ps ss e rest at =
      let now : Slice = known o (lose_all old t ps) in
      let lose : lose_slice old (known o ps) ≡ now = ap (lose_known old o ps) e in
      let f : ℕ = length (slice_front g s (is_last ss) (known o ps)) in
      let w : ℕ = length (data_bytes (known o ps)) in
      subst (λ (sl : Slice). Kept old new top top' (slice_rows new (v11 g) s at (u ∷ us) (known o ps ∷ ss)) (slice_rows old (v11 g) s at (t ∷ ts) (sl ∷ map (lose_slice old) ss))) (sym lose)
      (subst₂ (λ (a b : ℕ). Kept old new top top' (piece_rows new u (at + f) ps ++ slice_rows new (v11 g) (later g) (at + f + w) us ss)
      (piece_rows old t (at + a) (lose_all old t ps) ++ slice_rows old (v11 g) (later g) (at + a + b) ts (map (lose_slice old) ss)))
      (front_same g s (known o ps) ss now lose) (data_same (known o ps) now lose)
      (kept_append (pieces_kept t u W (at + f) ps) (rest (at + f + w))))

  -- a slice of a record that the old table does not know
  unknown_kept : (u : ℕ) → u < types new → is_record (kind new u) ≡ true → (g : Format) (s : Stand) (us ts : List ℕ) (o : List ℕ) (ps : List Piece) (ss : List Slice)
      → o ≡ name_of new u → named old o ≡ none → Lists g (later g) us ts ss → Lists g s (u ∷ us) ts (known o ps ∷ ss)
  unfolding slice_rows lose_slice lose_known data_bytes
  unknown_kept u l r g s us ts o ps ss i e rest at =
      let d : List ℕ = data_bytes (known o ps) in
      let now : Slice = passed (any_optional ps) o d in
      let lose : lose_slice old (known o ps) ≡ now = ap (lose_known old o ps) e in
      let f : ℕ = length (slice_front g s (is_last ss) (known o ps)) in
      subst (λ (sl : Slice). Kept old new top top' (slice_rows new (v11 g) s at (u ∷ us) (known o ps ∷ ss)) (slice_rows old (v11 g) s at ts (sl ∷ map (lose_slice old) ss))) (sym lose)
      (subst (λ (a : ℕ). Kept old new top top' (piece_rows new u (at + f) ps ++ slice_rows new (v11 g) (later g) (at + f + length d) us ss)
      (slice_rows old (v11 g) (later g) (at + a + length d) ts (map (lose_slice old) ss)))
      (front_same g s (known o ps) ss now lose)
      (kept_append (pieces_lost u l r (ap (named old) (sym i) ∙ e) (at + f) ps) (rest (at + f + length d))))

  -- after a slice that both know
  follow_kept : (ss : List Slice) (g : Format) (s : Stand) {b c : ℕ} → Bases old new b c → Follow new (v11 g) (upward (chain new) c) ss → Lists g s (upward (chain new) c) (upward (chain old) b) ss
  unfolding upward slice_rows
  follow_kept [] g s B F = λ at. ended
  follow_kept (passed b nm d ∷ ss) g s neither F = absurd F
  follow_kept (passed b nm d ∷ ss) g s (both {u = u} P) F = absurd (subst (λ (l : List ℕ). Follow new (v11 g) l (passed b nm d ∷ ss)) (chain_node new u) F)
  follow_kept (known o ps ∷ ss) g s neither F = absurd F
  follow_kept (known o ps ∷ ss) g s (both {t = t} {u = u} P) F =
      let G = subst (λ (l : List ℕ). Follow new (v11 g) l (known o ps ∷ ss)) (chain_node new u) F in
      subst₂ (λ (us ts : List ℕ). Lists g s us ts (known o ps ∷ ss)) (sym (chain_node new u)) (sym (chain_node old t))
      (known_kept t u (owners_of t u P) g s (upward (chain new) (base new u)) (upward (chain old) (base old t)) o ps ss (ap (named old) G.0 ∙ pair_named old new X t u P)
      (follow_kept ss g (later g) (bases_of old new X t u P) G.2))

  -- where the old table seeks
  behind_kept : (ss : List Slice) (g : Format) (s : Stand) (c : ℕ) → Standing new c → Follow new (v11 g) (upward (chain new) c) ss
      → Lists g s (upward (chain new) c) (chain old (first_in old (map (lose_slice old) ss))) ss
  unfolding upward slice_rows lose_slice lose_known first_in or_zero
  behind_kept [] g s c S F = λ at. ended
  behind_kept (passed b nm d ∷ ss) g s zero S F = absurd F
  behind_kept (passed b nm d ∷ ss) g s (suc u) S F = absurd (subst (λ (l : List ℕ). Follow new (v11 g) l (passed b nm d ∷ ss)) (chain_node new u) F)
  behind_kept (known o ps ∷ ss) g s zero S F = absurd F
  behind_kept (known o ps ∷ ss) g s (suc u) S F =
      go (subst (λ (l : List ℕ). Follow new (v11 g) l (known o ps ∷ ss)) (chain_node new u) F) (named old o) refl (λ c R H. behind_kept ss g (later g) c R H)
    where
      head_of : Slice → ℕ
      head_of sl = first_in old (sl ∷ map (lose_slice old) ss)

      go : Follow new (v11 g) (u ∷ upward (chain new) (base new u)) (known o ps ∷ ss) → (n : Option ℕ) → named old o ≡ n
          → ((c : ℕ) → Standing new c → Follow new (v11 g) (upward (chain new) c) ss → Lists g (later g) (upward (chain new) c) (chain old (first_in old (map (lose_slice old) ss))) ss)
          → Lists g s (chain new u) (chain old (head_of (lose_slice old (known o ps)))) (known o ps ∷ ss)
      go G (some t) e ih =
          let first : head_of (lose_slice old (known o ps)) ≡ t = ap (λ (n : Option ℕ). head_of (lose_known old o ps n)) e ∙ ap or_zero e in
          let P = named_both old new X o t u e (ap (named new) G.0 ∙ named_at new X.new_right u S.0 S.1) in
          subst (λ (x : ℕ). Lists g s (chain new u) (chain old x) (known o ps ∷ ss)) (sym first) (follow_kept (known o ps ∷ ss) g s (both P) F)
      go G none e ih =
          let first : head_of (lose_slice old (known o ps)) ≡ first_in old (map (lose_slice old) ss) = ap (λ (n : Option ℕ). head_of (lose_known old o ps n)) e in
          subst₂ (λ (us : List ℕ) (x : ℕ). Lists g s us (chain old x) (known o ps ∷ ss)) (sym (chain_node new u)) (sym first)
          (unknown_kept u S.0 S.1 g s (upward (chain new) (base new u)) (chain old (first_in old (map (lose_slice old) ss))) o ps ss G.0 e
          (ih (base new u) (standing_base new X.new_right u S.0 S.1) G.2))

  pub slices_kept : (ss : List Slice) (g : Format) (s : Stand) → Slices new top' (v11 g) ss → (at : ℕ)
      → Kept old new top top' (slice_rows new (v11 g) s at (chain new (first_in new ss)) ss) (slice_rows old (v11 g) s at (chain old (first_in old (map (lose_slice old) ss))) (map (lose_slice old) ss))
  unfolding upward slice_rows lose_slice first_in or_zero
  slices_kept [] g s C = absurd C
  slices_kept (passed b nm d ∷ ss) g s C = λ at.
      subst (λ (a : ℕ). Kept old new top top' (slice_rows new (v11 g) (later g) (at + length (slice_front g s (is_last ss) (passed b nm d)) + length d) (chain new (first_in new ss)) ss)
      (slice_rows old (v11 g) (later g) (at + a + length d) (chain old (first_in old (map (lose_slice old) ss))) (map (lose_slice old) ss)))
      (front_same g s (passed b nm d) ss (passed b nm d) refl) (slices_kept ss g (later g) C.1 _)
  slices_kept (known o ps ∷ ss) g s C =
      let N = named_ok new o C.row C.known in
      subst (λ (u : ℕ). Lists g s (chain new u) (chain old (first_in old (map (lose_slice old) (known o ps ∷ ss)))) (known o ps ∷ ss)) (sym (ap or_zero C.known))
      (behind_kept (known o ps ∷ ss) g s (suc C.row) (N.0, N.1) C.follow)
