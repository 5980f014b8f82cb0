-- A change under the hub's table is the change under every table that extends it: what the hub's table does not know is skipped there, and skipped pieces keep
-- their tags and bytes, so the edit of what it reads is what it reads of the edit.
--
--   pieces_lose, slices_lose, edit_lose         an edit, and what an old table makes of pieces, in either order
--   Twin, twin_of, twin_only                    the new table's member that matches the hub's
--   changed_alike, changed_newer, changed_reading   the promises
use Rattle.std.specs.Prelude.{◌≡◌, Bool, ℕ, ◌≤◌, ◌<◌, length, eqb, ltb}
use Rattle.std.proofs.Math.Path.{refl, sym, ap, ap₂, subst}
use Rattle.std.proofs.Common.{◌∙◌, subst₂, true≢false, ⊎_elim, arith, le-leb}
use Rattle.std.proofs.Math.Bool.{true, false}
use Rattle.std.proofs.Math.Option.{Option, none, some}
use mathlib.Core.List.{List, [], ◌∷◌, ◌++◌, map}
use Rattle.encoding.specs.Result.{Res, ok, bad, pick, same_bytes}
use Rattle.encoding.proofs.ResultLaws.{ok≢bad, some≢none, same_bytes_ok}
use Rattle.encoding.specs.Types.{Ty, form_of}
use Rattle.encoding.specs.Value.{exact}
use Rattle.encoding.specs.Table.{types, kind, is_record, owns, mark, fine, faults, Member, lookup, name_of, named, chain}
use Rattle.encoding.specs.Table
use Rattle.encoding.proofs.RuleLaws.{owns_record, named_ok, named_at, required_own, optional_own}
use Rattle.encoding.specs.Optional.{Piece, required, optional, skipped}
use Rattle.encoding.specs.Slice.{Format, Slice, known, passed}
use Rattle.encoding.specs.Message.{Pieces, list, exception, class, v11, Read, encode, encapsulate, rules, Row, rows, first_in, or_zero, first_known, Answer, answer, accepted, within, room, reading}
use Rattle.encoding.proofs.MessageLaws.{top_there, length_encapsulate, rules_ok}
use Rattle.encoding.specs.Write.{Out, out, next, bounded}
use Rattle.encoding.specs.Conform.{Follow, Slices, Conform}
use Rattle.encoding.specs.Extends.{OwnersMatch, Extends, TopsMatch, as_records, as_lists, SameRecord, SameOwner, as_tops, MembersMatch, both_required, both_optional, Counterpart, type_of}
use Rattle.encoding.specs.Extends
use Rattle.laws.specs.Demands.{read_as, Follows, In, here, there, Kept, ended, kept, lost, Newer, Foreign}
use Rattle.laws.proofs.TableExact.{valid}
use Rattle.laws.proofs.MessageExact.{exact_message, rules_written}
use Rattle.laws.specs.Lose.{keep_or, lose_piece, lose_known, lose_slice, lose}
use Rattle.laws.proofs.LoseLaws.{lose_bytes}
use Rattle.laws.proofs.OptionalNewer.{lookup_key, optionals_match}
use Rattle.laws.proofs.RecordNewer.{record_list, new_record}
use Rattle.laws.proofs.MessageNewer.{conform_newer, rows_newer, newer_refused}
use Rattle.laws.proofs.PlanRules.{Owner, list_chain}
use Rattle.edit.specs.Change.{Target, target, piece_for, put_piece, among, edit_pieces, edit_slice, edit, change_form, changed, changing}
use Rattle.edit.specs.ChangeDemands.{DiffersIn, ChangedNewer, ChangedAlike, ChangedReading}
use Rattle.edit.proofs.TargetLaws.{Aim, in_cases, one_row, aim_target}
use Rattle.edit.proofs.EditLaws.{chain_names, apart_slices, by_name, list_owner}
use Rattle.edit.proofs.MadeLaws.{out≢stop, result_of, made_step, bounded_ok, bounded_step, Doing, form_step, first_there, Carried, carried}
use Rattle.edit.proofs.HereLaws.{still_read}
use Rattle.edit.proofs.AgainLaws.{lists_has, has_lists, all_at}

-- ---- an edit of pieces, and what an old owner makes of them

module _ (ms : List Member) (d : Member) (found : lookup d.key ms ≡ some d) (c : Option (List ℕ)) where
  abbrev k : ℕ
  k = d.key

  abbrev new : Option Piece
  new = piece_for d c

  put_lose : (ps : List Piece) → put_piece new (map (lose_piece ms) ps) ≡ map (lose_piece ms) (put_piece new ps)
  unfolding put_piece piece_for lose_piece keep_or
  put_lose ps = go c
    where
      go : (c : Option (List ℕ)) → put_piece (piece_for d c) (map (lose_piece ms) ps) ≡ map (lose_piece ms) (put_piece (piece_for d c) ps)
      go none = refl
      go (some b) = sym (ap (λ (w : Option Member). keep_or k (form_of d.ty) b w ∷ map (lose_piece ms) ps) found)

  -- at a piece of tag t
  among_lose : (t : ℕ) (p : Piece) (ps rest : List Piece) → edit_pieces k new (map (lose_piece ms) ps) ≡ map (lose_piece ms) rest
      → among k new t (lose_piece ms p) (map (lose_piece ms) ps) (edit_pieces k new (map (lose_piece ms) ps)) ≡ map (lose_piece ms) (among k new t p ps rest)
  unfolding among
  among_lose t p ps rest ih = go (ltb t k) (eqb t k)
    where
      go : (a b : Bool) → pick a (lose_piece ms p ∷ edit_pieces k new (map (lose_piece ms) ps)) (put_piece new (pick b (map (lose_piece ms) ps) (lose_piece ms p ∷ map (lose_piece ms) ps)))
          ≡ map (lose_piece ms) (pick a (p ∷ rest) (put_piece new (pick b ps (p ∷ ps))))
      go true b = ap (λ (l : List Piece). lose_piece ms p ∷ l) ih
      go false true = put_lose ps
      go false false = put_lose (p ∷ ps)

  pub pieces_lose : (ps : List Piece) → edit_pieces k new (map (lose_piece ms) ps) ≡ map (lose_piece ms) (edit_pieces k new ps)
  unfolding edit_pieces lose_piece keep_or
  pieces_lose [] = put_lose []
  pieces_lose (required i b ∷ ps) = ap (λ (l : List Piece). required i b ∷ l) (pieces_lose ps)
  pieces_lose (optional t f b ∷ ps) = go (lookup t ms) refl ∙ among_lose t (optional t f b) ps (edit_pieces k new ps) (pieces_lose ps)
    where
      go : (w : Option Member) → lookup t ms ≡ w → edit_pieces k new (keep_or t f b w ∷ map (lose_piece ms) ps) ≡ among k new t (keep_or t f b w) (map (lose_piece ms) ps) (edit_pieces k new (map (lose_piece ms) ps))
      go none e = refl
      go (some m) e = refl
  pieces_lose (skipped t f b ∷ ps) = among_lose t (skipped t f b) ps (edit_pieces k new ps) (pieces_lose ps)

-- the owner is the old top, or a record found by its name
abbrev pub Placed : List ℕ → ℕ → ℕ → Pieces → Type 0
Placed old o top (list ps) = o ≡ top
Placed old o top (exception ss) = named old (name_of old o) ≡ some o
Placed old o top (class ss) = named old (name_of old o) ≡ some o

module _ (old : List ℕ) (o : ℕ) (d : Member) (found : lookup d.key (Table.optional_members old o) ≡ some d) (c : Option (List ℕ)) where
  abbrev nm : List ℕ
  nm = name_of old o

  slice_lose : named old nm ≡ some o → (s : Slice) → edit_slice nm d.key (piece_for d c) (lose_slice old s) ≡ lose_slice old (edit_slice nm d.key (piece_for d c) s)
  unfolding edit_slice lose_slice lose_known
  slice_lose n (known i ps) = go (named old i) refl (same_bytes i nm) refl
    where
      go : (w : Option ℕ) → named old i ≡ w → (q : Bool) → same_bytes i nm ≡ q
          → edit_slice nm d.key (piece_for d c) (lose_known old i ps w) ≡ lose_known old i (pick q (edit_pieces d.key (piece_for d c) ps) ps) w
      go none e true q = absurd (some≢none (ap (named old) (same_bytes_ok i nm q) ∙ n) e)
      go none e false q = refl
      go (some t) e true q =
          let s : some o ≡ some t = sym n ∙ ap (named old) (sym (same_bytes_ok i nm q)) ∙ e in
          let r : o ≡ t = cc in
          ap (λ (b : Bool). known i (pick b (edit_pieces d.key (piece_for d c) (map (lose_piece (Table.optional_members old t)) ps)) (map (lose_piece (Table.optional_members old t)) ps))) q
          ∙ ap (known i) (pieces_lose (Table.optional_members old t) d (ap (λ (u : ℕ). lookup d.key (Table.optional_members old u)) (sym r) ∙ found) c ps)
      go (some t) e false q =
          ap (λ (b : Bool). known i (pick b (edit_pieces d.key (piece_for d c) (map (lose_piece (Table.optional_members old t)) ps)) (map (lose_piece (Table.optional_members old t)) ps))) q
  slice_lose n (passed b i z) = refl

  slices_lose : named old nm ≡ some o → (ss : List Slice) → map (edit_slice nm d.key (piece_for d c)) (map (lose_slice old) ss) ≡ map (lose_slice old) (map (edit_slice nm d.key (piece_for d c)) ss)
  slices_lose n [] = refl
  slices_lose n (s ∷ ss) = ap₂ ◌∷◌ (slice_lose n s) (slices_lose n ss)

  pub edit_lose : (top : ℕ) (p : Pieces) → Placed old o top p → edit nm d.key (piece_for d c) (lose old top p) ≡ lose old top (edit nm d.key (piece_for d c) p)
  unfolding edit lose
  edit_lose top (list ps) e = ap list (pieces_lose (Table.optional_members old top) d (ap (λ (u : ℕ). lookup d.key (Table.optional_members old u)) (sym e) ∙ found) c ps)
  edit_lose top (exception ss) n = ap exception (slices_lose n ss)
  edit_lose top (class ss) n = ap class (slices_lose n ss)

-- ---- slices that both tables know

in_middle : {A : Type 0} (l : List A) (a : A) (r : List A) → In a (l ++ (a ∷ r))
in_middle [] a r = here
in_middle (b ∷ l) a r = there (in_middle l a r)

lose_in : (old nm : List ℕ) (q : List Piece) (ss : List Slice) → In (known nm q) (map (lose_slice old) ss) → (ps : List Piece) × In (known nm ps) ss
unfolding lose_slice lose_known
lose_in old nm q [] j = elim j [ ]
lose_in old nm q (known i ps ∷ ss) j = ⊎_elim (λ e. first (named old i) e) (λ j. let R = lose_in old nm q ss j in (R.0, there R.1)) (in_cases j)
  where
    first : (w : Option ℕ) → known nm q ≡ lose_known old i ps w → (ps' : List Piece) × In (known nm ps') (known i ps ∷ ss)
    first none e = let z : ◌≡◌ {A = ℕ} 0 1 = cc in absurd (omega arith)
    first (some t) e = let s : i ≡ nm = cc in (ps, subst (λ (z : List ℕ). In (known nm ps) (known z ps ∷ ss)) (sym s) here)
lose_in old nm q (passed b i z ∷ ss) j = ⊎_elim (λ e. let y : ◌≡◌ {A = ℕ} 0 1 = cc in absurd (omega arith)) (λ j. let R = lose_in old nm q ss j in (R.0, there R.1)) (in_cases j)

some_one : {A : Type 0} {a b : A} → some a ≡ some b → a ≡ b
some_one e = cc

-- the row of a known slice is in the chain
follow_in : (g : Format) (T : List ℕ) (nm : List ℕ) (ps : List Piece) (ts : List ℕ) (ss : List Slice) → Follow T (v11 g) ts ss → In (known nm ps) ss → (t : ℕ) × In t ts × (nm ≡ name_of T t)
follow_in g T nm ps [] [] F j = elim j [ ]
follow_in g T nm ps (t ∷ ts) [] F j = elim F [ ]
follow_in g T nm ps [] (s ∷ ss) F j = absurd F
follow_in g T nm ps (t ∷ ts) (known i qs ∷ ss) F j =
    ⊎_elim (λ e. let s : nm ≡ i = cc in (t, here, s ∙ F.0)) (λ j. let R = follow_in g T nm ps ts ss F.2 j in (R.0, there R.1, R.2)) (in_cases j)
follow_in g T nm ps (t ∷ ts) (passed b i z ∷ ss) F j = absurd F

known_in : (T : List ℕ) → faults T ≡ fine → (top : ℕ) (g : Format) (nm : List ℕ) (ps : List Piece) (ss : List Slice) → Slices T top (v11 g) ss → In (known nm ps) ss
    → (t : ℕ) × In t (chain T (first_in T ss)) × (named T nm ≡ some t)
unfolding first_in or_zero
known_in T right top g nm ps [] C j = elim C [ ]
known_in T right top g nm ps (known i qs ∷ ss) C j =
    let N = named_ok T i C.row C.known in
    let R = follow_in g T nm ps (chain T C.row) (known i qs ∷ ss) C.follow j in
    (R.0, subst (λ (w : Option ℕ). In R.0 (chain T (or_zero w))) (sym C.known) R.1, ap (named T) R.2 ∙ all_at (chain_names T right C.row N.0 N.1) R.1)
known_in T right top g nm ps (passed b i z ∷ ss) C j = ⊎_elim (λ e. let y : ◌≡◌ {A = ℕ} 0 1 = cc in absurd (omega arith)) (λ j. known_in T right top g nm ps ss C.1 j) (in_cases j)

-- ---- the matching member

-- the edit of pieces p is the same by either owner's name: a parameter list asks for none
abbrev pub Alike : List ℕ → List ℕ → ℕ → ℕ → Pieces → Type 0
Alike old new o u (list ps) = Unit {0}
Alike old new o u (exception ss) = name_of new u ≡ name_of old o
Alike old new o u (class ss) = name_of new u ≡ name_of old o

-- the new table's owner and member that match an old target, in a message that the new table reads to p
pub record Twin (old new : List ℕ) (top top' : ℕ) (p : Pieces) (x : Target) : Type 0 where
  pub owner : ℕ
  pub member : Member
  pub owner_right : Owner new owner
  pub within : In owner (chain new (first_known new top' p))
  pub found : lookup x.member.key (Table.optional_members new owner) ≡ some member
  pub typed : member.ty ≡ x.member.ty
  pub same : SameOwner old new top top' x.owner owner
  pub placed : Placed old x.owner top p
  pub alike : Alike old new x.owner owner p
  pub only : (u : ℕ) → SameOwner old new top top' x.owner u → u ≡ owner

module _ (old new : List ℕ) (X : Extends old new) (top top' : ℕ) (f : Format) (n : ℕ) (x : Target) where
  -- the optional of the same tag
  match_optional : (u : ℕ) → OwnersMatch old new x.owner u → lookup x.member.key (Table.optional_members old x.owner) ≡ some x.member
      → (e : Member) × (lookup x.member.key (Table.optional_members new u) ≡ some e) × (e.ty ≡ x.member.ty)
  unfolding type_of
  match_optional u M found = go (lookup x.member.key (Table.optional_members new u)) refl (optionals_match x.member.key (Table.optional_members old x.owner) (Table.optional_members new u) x.member M.optional_ones found)
    where
      go : (w : Option Member) → lookup x.member.key (Table.optional_members new u) ≡ w → type_of w ≡ some x.member.ty
          → (e : Member) × (lookup x.member.key (Table.optional_members new u) ≡ some e) × (e.ty ≡ x.member.ty)
      go none e h = absurd (some≢none h refl)
      go (some d) e h = let s : d.ty ≡ x.member.ty = cc in (d, e, s)

  -- the new record of the owner's name is in the new chain: the slice that the old table knows by this name the new one knows by it too
  pub record RecordTwin (ss : List Slice) : Type 0 where
    pub row : ℕ
    pub row_right : Owner new row
    pub row_within : In row (chain new (first_in new ss))
    pub owners : OwnersMatch old new x.owner row
    pub record_same : SameRecord old new x.owner row
    pub old_below : x.owner < types old
    pub old_named : named old (name_of old x.owner) ≡ some x.owner
    pub new_named : named new (name_of old x.owner) ≡ some row

  record_twin : (ss : List Slice) → Slices new top' (v11 f) ss → Slices old top (v11 f) (map (lose_slice old) ss) → Aim old (chain old (first_in old (map (lose_slice old) ss))) n x → RecordTwin ss
  record_twin ss C D A =
      let nm : List ℕ = name_of old x.owner in
      let n₁ = by_name old X.old_right top f n x (map (lose_slice old) ss) D A.within in
      let N = named_ok old nm x.owner n₁ in
      let R = X.records x.owner N.0 N.1 in
      let P = apart_slices old X.old_right top f x.owner n₁ (map (lose_slice old) ss) D A.within in
      let j = lose_in old nm P.pieces ss (subst (In (known nm P.pieces)) (sym P.spelt) (in_middle P.ahead (known nm P.pieces) P.behind)) in
      let K = known_in new X.new_right top' f nm j.0 ss C j.1 in
      let n₂ : named new nm ≡ some R.row = ap (named new) R.same.names ∙ named_at new X.new_right R.row R.same.inside (new_record R.same) in
      record {
        row = R.row;
        row_right = record { below = R.same.inside; own = owns_record (kind new R.row) (new_record R.same) };
        row_within = subst (λ (z : ℕ). In z (chain new (first_in new ss))) (some_one (sym K.2 ∙ n₂)) K.1;
        owners = R.owners;
        record_same = R.same;
        old_below = N.0;
        old_named = n₁;
        new_named = n₂;
      }

  -- owners of one name are one
  record_only : (ss : List Slice) (R : RecordTwin ss) → (u : ℕ) → SameOwner old new top top' x.owner u → u ≡ R.row
  record_only ss R u (Extends.SameOwner.as_records l S) = some_one (sym (ap (named new) S.names ∙ named_at new X.new_right u S.inside (new_record S)) ∙ R.new_named)
  record_only ss R u (as_tops e q k k') = absurd (record_list (kind old x.owner) R.record_same.old_one k)

  pub twin_of : TopsMatch old new top top' → (p : Pieces) → Conform new top' (v11 f) p → Conform old top (v11 f) (lose old top p) → Aim old (chain old (first_known old top (lose old top p))) n x → Twin old new top top' p x
  unfolding lose first_known
  twin_of (as_records l S) (list ps) C D A = absurd (record_list (kind new top') (new_record S) C.0)
  twin_of (as_lists l l' k k' M) (list ps) C D A =
      let e = list_owner old X.old_right top f n x k A.within in
      let d = match_optional top' (subst (λ (z : ℕ). OwnersMatch old new z top') (sym e) M) A.found in
      record {
        owner = top';
        member = d.0;
        owner_right = record { below = l'; own = rw k' };
        within = subst (In top') (sym (list_chain new top' k')) here;
        found = d.1;
        typed = d.2;
        same = as_tops e refl (ap (kind old) e ∙ k) k';
        placed = e;
        alike = tt;
        only = λ u s. list_only (ap (kind old) e ∙ k) u s;
      }
    where
      list_only : kind old x.owner ≡ 15 → (u : ℕ) → SameOwner old new top top' x.owner u → u ≡ top'
      list_only q u (Extends.SameOwner.as_records l S) = absurd (record_list (kind old x.owner) S.old_one q)
      list_only q u (as_tops e g k k') = g
  twin_of M (exception ss) C D A =
      let R = record_twin ss C.1 D.1 A in
      let d = match_optional R.row R.owners A.found in
      record {
        owner = R.row;
        member = d.0;
        owner_right = R.row_right;
        within = R.row_within;
        found = d.1;
        typed = d.2;
        same = Extends.SameOwner.as_records R.old_below R.record_same;
        placed = R.old_named;
        alike = sym R.record_same.names;
        only = record_only ss R;
      }
  twin_of M (class ss) C D A =
      let R = record_twin ss C.1 D.1 A in
      let d = match_optional R.row R.owners A.found in
      record {
        owner = R.row;
        member = d.0;
        owner_right = R.row_right;
        within = R.row_within;
        found = d.1;
        typed = d.2;
        same = Extends.SameOwner.as_records R.old_below R.record_same;
        placed = R.old_named;
        alike = sym R.record_same.names;
        only = record_only ss R;
      }

  -- an old owner of members
  old_owner : {o u : ℕ} → top < types old → SameOwner old new top top' o u → Owner old o
  old_owner {o} t (Extends.SameOwner.as_records l S) = record { below = l; own = owns_record (kind old o) S.old_one }
  old_owner {o} t (as_tops e g k k') = record { below = subst (λ (z : ℕ). z < types old) (sym e) t; own = rw k }

  -- only the twin matches the member
  pub twin_only : top < types old → (ts : List ℕ) (A : Aim old ts n x) (p : Pieces) (W : Twin old new top top' p x) → (q : ℕ) → Counterpart old new top top' n q → q ≡ W.member.row
  twin_only t ts A p W q C = go C.match
    where
      go : MembersMatch old new C.owner C.owner' C.member C.member' → q ≡ W.member.row
      go (both_required a b) =
          absurd (true≢false (sym (required_own old C.owner C.member.key C.member a).marked ∙ ap (λ (z : ℕ). eqb (mark old z) 0) (C.here ∙ sym A.row) ∙ (optional_own old x.owner x.member.key x.member A.found).marked))
      go (both_optional a b) =
          let e = one_row old X.old_right x.owner C.owner A.owner_right (old_owner t C.owners) x.member.key C.member.key x.member C.member A.found a (C.here ∙ sym A.row) in
          let o : C.owner ≡ x.owner = ap (λ (z : Target). z.owner) e in
          let k : C.member.key ≡ x.member.key = ap (λ (z : Target). z.member.key) e in
          let u : C.owner' ≡ W.owner = W.only C.owner' (subst (λ (z : ℕ). SameOwner old new top top' z C.owner') o C.owners) in
          let s : some C.member' ≡ some W.member = sym b ∙ ap₂ (λ (i z : ℕ). lookup i (Table.optional_members new z)) k u ∙ W.found in
          let y : C.member' ≡ W.member = cc in
          sym C.there ∙ ap (λ (z : Member). z.row) y

  pub twin_matches : (ts : List ℕ) (A : Aim old ts n x) (p : Pieces) (W : Twin old new top top' p x) → Counterpart old new top top' n W.member.row
  twin_matches ts A p W = record {
    owner = x.owner;
    owner' = W.owner;
    member = x.member;
    member' = W.member;
    owners = W.same;
    match = both_optional A.found W.found;
    here = A.row;
    there = refl;
  }

-- ---- the promises

-- the member that is kept has a row that matches
module _ (old new : List ℕ) (top top' : ℕ) where
  kept_has : {rs rs' : List Row} → Kept old new top top' rs rs' → (r : Row) → In r rs' → (q : Row) × In q rs × Counterpart old new top top' r.member q.member
  kept_has ended r i = elim i [ ]
  kept_has (kept {r = a} {r' = b} C p l K) r i =
      ⊎_elim (λ e. (a, here, subst (λ (z : Row). Counterpart old new top top' z.member a.member) (sym e) C)) (λ j. let R = kept_has K r j in (R.0, there R.1, R.2)) (in_cases i)
  kept_has (lost C K) r i = let R = kept_has K r i in (R.0, there R.1, R.2)

changed_accepted : (T : List ℕ) (top : ℕ) (m : List ℕ) (n : ℕ) (c : Option (List ℕ)) (m' : List ℕ) → changed T top n c (rules T top m) ≡ out m' → (r : Read) × (k : ℕ) × (rules T top m ≡ ok r k)
unfolding changed
changed_accepted T top m n c m' h = go (rules T top m) refl h
  where
    go : (r : Res Read) → rules T top m ≡ r → changed T top n c r ≡ out m' → (r : Read) × (k : ℕ) × (rules T top m ≡ ok r k)
    go (ok r k) e h = (r, k, e)
    go (bad a b) e h = absurd (out≢stop h refl)

module _ (old new : List ℕ) (top top' : ℕ) (m : List ℕ) (f : Format) (p : Pieces) (n : ℕ) (c : Option (List ℕ)) (m' : List ℕ)
    (N : Newer old new top top' m f p) (made : changed old top n c (rules old top m) ≡ out m') where
  by_new : Follows new top' m (v11 f) p
  by_new = ((exact_message new top' m (v11 f) p N.taken N.bytes).0 N.accepted).0

  -- what the old table accepts is not foreign to it
  fits : (place : ℕ) → Foreign old f p place → ⊥
  fits place F = let R = changed_accepted old top m n c m' made in ok≢bad R.2 (newer_refused old new top top' m f p N place F)

  by_old : Follows old top m (v11 f) (lose old top p)
  by_old =
      let R = changed_accepted old top m n c m' made in
      let E = by_new in
      record {
        table = valid old N.extends.old_right;
        top_there = (rules_ok old top m R.2).top_right;
        short = E.short;
        conforms = conform_newer old new N.extends top top' N.tops f p E.conforms (omega (arith, ap length E.encoded ∙ length_encapsulate (v11 f) (encode (v11 f) p), E.short)) fits;
        encoded = E.encoded ∙ ap (encapsulate (v11 f)) (sym (lose_bytes old top f p));
      }

  pub old_carried : Carried old top m f (lose old top p) n c m'
  old_carried = carried old top m f (lose old top p) n c m' (length m) N.bytes (rules_written old top m (v11 f) (lose old top p) by_old) made

  pub twin : Twin old new top top' p old_carried.made.place
  twin = twin_of old new N.extends top top' f n old_carried.made.place N.tops p by_new.conforms by_old.conforms old_carried.aim

  new_target : Target
  new_target = record { owner = twin.owner; member = twin.member }

  new_key : twin.member.key ≡ old_carried.made.place.member.key
  new_key = sym (lookup_key old_carried.made.place.member.key (Table.optional_members new twin.owner) twin.member twin.found)

  new_found : target new (first_known new top' p) twin.member.row ≡ some new_target
  unfolding new_target
  new_found =
      aim_target new N.extends.new_right (first_known new top' p) (first_there new top' f by_new.top_there p by_new.conforms) twin.owner old_carried.made.place.member.key twin.member twin.owner_right twin.within twin.found

  -- the same edit by either name
  same_name : (q : Pieces) → (o u k : ℕ) → Alike old new o u q → (w : Option Piece) → edit (name_of new u) k w q ≡ edit (name_of old o) k w q
  unfolding edit
  same_name (list ps) o u k a w = refl
  same_name (exception ss) o u k a w = ap (λ (z : List ℕ). exception (map (edit_slice z k w) ss)) a
  same_name (class ss) o u k a w = ap (λ (z : List ℕ). class (map (edit_slice z k w) ss)) a

  same_piece : (d e : Member) → d.key ≡ e.key → d.ty ≡ e.ty → piece_for d c ≡ piece_for e c
  unfolding piece_for
  same_piece d e k t = go c
    where
      go : (c : Option (List ℕ)) → piece_for d c ≡ piece_for e c
      go none = refl
      go (some b) = ap₂ (λ (i : ℕ) (z : Ty). some (optional i (form_of z) b)) k t

  same_result : m' ≡ result_of new f p c new_target
  unfolding new_target
  same_result =
      let x = old_carried.made.place in
      old_carried.made.is ∙ ap (λ (q : Pieces). encapsulate (v11 f) (encode (v11 f) q)) (edit_lose old x.owner x.member old_carried.aim.found c top p twin.placed)
      ∙ ap (encapsulate (v11 f)) (lose_bytes old top f (edit (name_of old x.owner) x.member.key (piece_for x.member c) p))
      ∙ ap (λ (q : Pieces). encapsulate (v11 f) (encode (v11 f) q)) (sym (same_name p x.owner twin.owner x.member.key twin.alike (piece_for x.member c)))
      ∙ ap₂ (λ (k : ℕ) (w : Option Piece). encapsulate (v11 f) (encode (v11 f) (edit (name_of new twin.owner) k w p))) (sym new_key) (sym (same_piece twin.member x.member new_key twin.typed))

  new_doing : Doing twin.member c (rows new top' (v11 f) p)
  new_doing = go c old_carried.doing
    where
      go : (c : Option (List ℕ)) → Doing old_carried.made.place.member c (rows old top (v11 f) (lose old top p)) → Doing twin.member c (rows new top' (v11 f) p)
      go none D =
          let H = lists_has old_carried.made.place.member.row (rows old top (v11 f) (lose old top p)) D in
          let R = kept_has old new top top' (rows_newer old new N.extends top top' N.tops (top_there new top' by_new.top_there).0 f p by_new.conforms) H.listed H.there in
          let e = twin_only old new N.extends top top' f n old_carried.made.place (top_there old top by_old.top_there).0 _ old_carried.aim p twin R.0.member
          (subst (λ (z : ℕ). Counterpart old new top top' z R.0.member) (H.of_member ∙ old_carried.aim.row) R.2) in
          has_lists twin.member.row (rows new top' (v11 f) p) (record { listed = R.0; there = R.1; of_member = e })
      go (some b) D = (D.0, subst (λ (t : Ty). exact t b ≡ true) (sym twin.typed) D.1)

  pub new_made : changed new top' twin.member.row c (rules new top' m) ≡ out m'
  unfolding new_target
  new_made =
      ap (changed new top' twin.member.row c) N.accepted
      ∙ made_step new top' f p twin.member.row c N.taken new_target new_found (ap (λ (g : Format). change_form twin.member c g (rows new top' (v11 f) p)) old_carried.sliced_one ∙ form_step twin.member c (rows new top' (v11 f) p) new_doing)
      ∙ ap out (sym same_result)

  pub new_carried : Carried new top' m f p twin.member.row c m'
  new_carried = carried new top' m f p twin.member.row c m' N.taken N.bytes N.accepted new_made

  pub twin_match : Counterpart old new top top' n twin.member.row
  twin_match = twin_matches old new N.extends top top' f n old_carried.made.place _ old_carried.aim p twin

  pub twin_is : (q : ℕ) → Counterpart old new top top' n q → q ≡ twin.member.row
  twin_is q C = twin_only old new N.extends top top' f n old_carried.made.place (top_there old top by_old.top_there).0 _ old_carried.aim p twin q C

pub changed_alike : ChangedAlike
unfolding changing next
changed_alike old new top top' m f p n n' c space m' N C fresh h =
    let B = bounded_ok (changed old top n c (rules old top m)) space m' h in
    ap (λ (z : ℕ). next (changed new top' z c (rules new top' m)) (bounded space)) (twin_is old new top top' m f p n c m' N B.0 n' C)
    ∙ ap (λ (z : Out (List ℕ)). next z (bounded space)) (new_made old new top top' m f p n c m' N B.0) ∙ bounded_step space m' B.1 B.2

pub changed_newer : ChangedNewer
unfolding changing
changed_newer old new top top' m f p n c m' N H =
    let B = bounded_ok (changed old top n c (rules old top m)) H.space m' H.made in
    record {
      member' = (twin old new top top' m f p n c m' N B.0).member.row;
      matches = twin_match old new top top' m f p n c m' N B.0;
      read = still_read new top' m f p _ c m' (new_carried old new top top' m f p n c m' N B.0) B.1;
    }

-- the reader's answer, where the lent list has room
reading_room : (T : List ℕ) (top : ℕ) (m : List ℕ) (lent : ℕ) → length (answer T top (rules T top m)).rows ≤ room lent → reading T top m lent ≡ answer T top (rules T top m)
unfolding reading within
reading_room T top m lent h = rw (le-leb (length (answer T top (rules T top m)).rows) (room lent) h)

pub changed_reading : ChangedReading
unfolding answer accepted
changed_reading old new top top' m f p n c m' N H lent lent' h h' =
    let S = changed_newer old new top top' m f p n c m' N H in
    let e : reading new top' m lent ≡ answer new top' (ok (read_as (v11 f) p) N.taken) = reading_room new top' m lent h ∙ ap (answer new top') N.accepted in
    let e' : reading new top' m' lent' ≡ answer new top' (ok (read_as (v11 f) S.read.pieces) (length m')) = reading_room new top' m' lent' h' ∙ ap (answer new top') S.read.accepted in
    record {
      member' = S.member';
      matches = S.matches;
      refusal = ap (λ (a : Answer). a.refusal) e';
      type = ap (λ (a : Answer). a.type) e' ∙ S.read.type ∙ sym (ap (λ (a : Answer). a.type) e);
      format = ap (λ (a : Answer). a.format) e' ∙ sym (ap (λ (a : Answer). a.format) e);
      optionals = ap (λ (a : Answer). a.optionals) e' ∙ S.read.optionals ∙ sym (ap (λ (a : Answer). a.optionals) e);
      slices = ap (λ (a : Answer). a.slices) e' ∙ S.read.slices ∙ sym (ap (λ (a : Answer). a.slices) e);
      differs = subst₂ (λ (a a' : Answer). DiffersIn S.member' c m m' a.rows a'.rows) (sym e) (sym e') S.read.differs;
    }
