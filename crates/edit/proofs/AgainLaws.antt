-- Changes that change nothing, what each refusal says, and the numbers and bytes that the calls give.
--
--   has_lists, lists_has     a list has a row of a member
--   One, tagged_one          an owner's pieces have at most one with the member's tag, in the form of its type
--   edit_same, edit_twice    an edit that keeps the owner's pieces keeps the message; two edits are one after another
--   row_target               a listed optional is found
--   set_again, set_undone, change_refused, old_change, change_made, change_too_long, change_told, change_filled     the promises
use Rattle.std.specs.Prelude.{◌≡◌, Bool, not, ◌||◌, ◌&&◌, ◌⊎◌, length, take, drop, leb, ltb}
use Rattle.std.proofs.Math.Path.{refl, sym, ap, ap₂}
use Rattle.std.proofs.Common.{◌∙◌, subst, subst₂, true≢false, arith, length-append, length-drop, take_at, drop_at}
use Rattle.std.proofs.Math.Bool.{true, false}
use Rattle.std.proofs.lemmas.Bool.{false≢true}
use Rattle.std.proofs.Math.Logic.{inl, inr, ⊎_elim}
use Rattle.std.proofs.Math.Option.{Option, none, some}
use mathlib.Core.List.{List, [], ◌∷◌, ◌++◌, map}
use Prim.Native.Nat.{ℕ, zero, suc, ◌≤◌}
use Rattle.std.proofs.Math.Dec.{eqb}
use borrow.Author.Tests.{eqb-true, eq-eqb, leb-true, le-leb, ltb-true, ltb-false}
use Rattle.encoding.specs.Result.{Res, ok, bad, pick, first_of}
use Rattle.encoding.proofs.ResultLaws.{some≢none}
use Rattle.encoding.specs.Number.{Bytes}
use Rattle.encoding.specs.Types.{Form, form_of}
use Rattle.encoding.proofs.OptionalFormLaws.{is_form}
use Rattle.encoding.specs.Grammar.{IsValue}
use Rattle.encoding.proofs.ExactLaws.{is_exact}
use Rattle.encoding.proofs.ListLaws.{member_rises}
use Rattle.encoding.specs.Value.{exact}
use Rattle.encoding.specs.Table.{fine, faults, mark, Member, member_ty, trees, lookup, name_of, chain}
use Rattle.encoding.specs.Table
use Rattle.encoding.specs.Optional.{Piece, required, optional, skipped}
use Rattle.encoding.specs.Slice.{Format, compact, sliced, is_sliced, Slice, known}
use Rattle.encoding.specs.Message.{Pieces, list, exception, class, Encoding, v10, v11, Read, encode, encapsulate, no_top, limit, rules, Row, rows, first_known}
use Rattle.encoding.specs.Write.{Out, out, stop, next, stopped_first, bounded, part_of, output, writing_of, writing_numbers, plan, Slot}
use Rattle.encoding.specs.Conform.{Level, Conform}
use Rattle.laws.specs.Demands.{read_as, All, end, more, In, here, there, Follows}
use Rattle.laws.proofs.TableExact.{sound}
use Rattle.laws.proofs.MessageExact.{exact_message, exact_rows}
use Rattle.laws.proofs.GatherLaws.{part_length}
use Rattle.laws.proofs.Refusals.{refusal_numbered, rules_refused}
use Rattle.laws.proofs.PlanRules.{Fit, plan_fit, plan_owner, all_with}
use Rattle.laws.proofs.RowsExact.{all_map}
use Rattle.laws.proofs.RowsRight.{rows_right, chosen_among}
use Rattle.edit.specs.Change.{Target, target, piece_for, edit_pieces, edit_slice, edit, lists, change_form, changed_at, changed_as, changed, changing}
use Rattle.edit.specs.ChangeDemands.{has_tag, those, Has, SetAgain, SetUndone, OldChange, Chosen, RefusedAt, the_reader's, not_optional, of_old, not_there, compact_record, over_limit, not_of_type, too_long_lem, ChangeRefused, Doable, ChangeMade, ChangeTooLong, ChangeTold, ChangeFilled}
use Rattle.edit.proofs.TargetLaws.{Aim, target_aim, aim_target, aim_chain, chain_found}
use Rattle.edit.proofs.PieceLaws.{none_tagged, edit_there, edit_undone}
use Rattle.edit.proofs.EditLaws.{Apart, edit_apart, apart_slices, by_name, first_kept}
use Rattle.edit.proofs.HeldLaws.{Held, row_held, Of, piece_held, some_of, held_mine}
use Rattle.edit.proofs.MadeLaws.{out≢stop, result_of, made_step, bounded_ok, bounded_step, Doing, form_step, first_there, carried, edited_by, carried_accepted}
use Rattle.edit.proofs.HereLaws.{owner_pieces, owner_owned, tagged_held, held_here, rows_held, lists_tagged, carried_differs}

-- ---- rows of a member

pub lists_has : (n : ℕ) (rs : List Row) → lists n rs ≡ true → Has n rs
unfolding lists
lists_has n [] h = absurd (false≢true h)
lists_has n (r ∷ rs) h = go (eqb n r.member) refl h (λ h. lists_has n rs h)
  where
    go : (b : Bool) → eqb n r.member ≡ b → b || lists n rs ≡ true → (lists n rs ≡ true → Has n rs) → Has n (r ∷ rs)
    go true e h ih = record { listed = r; there = here; of_member = sym (eqb-true n r.member e) }
    go false e h ih = let H = ih h in record { listed = H.listed; there = there H.there; of_member = H.of_member }

or_true : (q : Bool) {r : Bool} → r ≡ true → q || r ≡ true
or_true true h = refl
or_true false h = h

in_lists : (n : ℕ) (r : Row) {rs : List Row} → r.member ≡ n → In r rs → lists n rs ≡ true
unfolding lists
in_lists n r e here = rw (eq-eqb n r.member (sym e))
in_lists n r e (there {b} i) = or_true (eqb n b.member) (in_lists n r e i)

pub has_lists : (n : ℕ) (rs : List Row) → Has n rs → lists n rs ≡ true
has_lists n rs H = in_lists n H.listed H.of_member H.there

not_listed : (n : ℕ) (rs : List Row) → (Has n rs → ⊥) → lists n rs ≡ false
not_listed n rs u = go (lists n rs) refl
  where
    go : (b : Bool) → lists n rs ≡ b → b ≡ false
    go true e = absurd (u (lists_has n rs e))
    go false e = refl

-- ---- the pieces with the member's tag

module _ (os : List Member) (d : Member) (found : lookup d.key os ≡ some d) where
  abbrev k : ℕ
  k = d.key

  -- none, or one in the form of its type
  abbrev pub One : List Piece → Type 0
  One ps = (those (has_tag k) ps ≡ []) ⊎ ((b : List ℕ) × (those (has_tag k) ps ≡ optional k (form_of d.ty) b ∷ []))

  pub tagged_one : (ms : List Member) (least : ℕ) (ps : List Piece) → Level ms os least ps → One ps
  unfolding those has_tag
  tagged_one [] least [] L = inl refl
  tagged_one [] least (required i b ∷ ps) L = absurd L
  tagged_one [] least (optional t f b ∷ ps) L = go (eqb t k) refl (tagged_one [] (suc t) ps L.1)
    where
      go : (q : Bool) → eqb t k ≡ q → One ps → (pick q (optional t f b ∷ those (has_tag k) ps) (those (has_tag k) ps) ≡ []) ⊎ ((a : List ℕ) × (pick q (optional t f b ∷ those (has_tag k) ps) (those (has_tag k) ps) ≡ optional k (form_of d.ty) a ∷ []))
      go true e ih =
          let s : t ≡ k = eqb-true t k e in
          let z : some L.0.member ≡ some d = sym L.0.found ∙ ap (λ (i : ℕ). lookup i os) s ∙ found in
          let y : L.0.member ≡ d = cc in
          let w : f ≡ form_of d.ty = sym (is_form L.0.form) ∙ ap (λ (x : Member). form_of x.ty) y in
          inr (b, ap₂ (λ (i : ℕ) (g : Form). optional i g b ∷ those (has_tag k) ps) s w ∙ ap (λ (l : List Piece). optional k (form_of d.ty) b ∷ l) (none_tagged k os (suc t) ps (omega arith) L.1))
      go false e ih = ih
  tagged_one [] least (skipped t f b ∷ ps) L = go (eqb t k) refl (tagged_one [] (suc t) ps L.1)
    where
      go : (q : Bool) → eqb t k ≡ q → One ps → (pick q (skipped t f b ∷ those (has_tag k) ps) (those (has_tag k) ps) ≡ []) ⊎ ((a : List ℕ) × (pick q (skipped t f b ∷ those (has_tag k) ps) (those (has_tag k) ps) ≡ optional k (form_of d.ty) a ∷ []))
      go true e ih = absurd (some≢none found (ap (λ (i : ℕ). lookup i os) (sym (eqb-true t k e)) ∙ L.0.absent))
      go false e ih = ih
  tagged_one (m ∷ ms) least [] L = absurd L
  tagged_one (m ∷ ms) least (required i b ∷ ps) L = tagged_one ms least ps L.2
  tagged_one (m ∷ ms) least (optional t f b ∷ ps) L = absurd L
  tagged_one (m ∷ ms) least (skipped t f b ∷ ps) L = absurd L

-- ---- edits of a message by those of the owner's pieces

module _ (T : List ℕ) (right : faults T ≡ fine) (top : ℕ) (f : Format) (m : ℕ) (x : Target) where
  abbrev nm : List ℕ
  nm = name_of T x.owner

  abbrev key : ℕ
  key = x.member.key

  slices_same : (new : Option Piece) {P : List Piece → Type 0} (ss : List Slice) (A : Apart P nm ss) → edit_pieces key new A.pieces ≡ A.pieces → map (edit_slice nm key new) ss ≡ ss
  slices_same new ss A e = edit_apart nm key new ss A ∙ ap (λ (ps : List Piece). A.ahead ++ (known nm ps ∷ A.behind)) e ∙ sym A.spelt

  pub edit_same : (new : Option Piece) (p : Pieces) (C : Conform T top (v11 f) p) (A : Aim T (chain T (first_known T top p)) m x) → edit_pieces key new (owner_pieces T right top f m x p C A) ≡ owner_pieces T right top f m x p C A
      → edit nm key new p ≡ p
  unfolding edit owner_pieces first_known
  edit_same new (list ps) C A e = ap list e
  edit_same new (exception ss) C A e = ap exception (slices_same new ss (apart_slices T right top f x.owner (by_name T right top f m x ss C.1 A.within) ss C.1 A.within) e)
  edit_same new (class ss) C A e = ap class (slices_same new ss (apart_slices T right top f x.owner (by_name T right top f m x ss C.1 A.within) ss C.1 A.within) e)

  slices_twice : (new old : Option Piece) {P : List Piece → Type 0} (ss : List Slice) (A : Apart P nm ss) → edit_pieces key old (edit_pieces key new A.pieces) ≡ A.pieces
      → map (edit_slice nm key old) (map (edit_slice nm key new) ss) ≡ ss
  slices_twice new old ss A e =
      edit_apart nm key old {P = λ _. Unit {0}} (map (edit_slice nm key new) ss)
      (record { ahead = A.ahead; pieces = edit_pieces key new A.pieces; behind = A.behind; spelt = edit_apart nm key new ss A; unlike_ahead = A.unlike_ahead; unlike_behind = A.unlike_behind; right = tt })
      ∙ ap (λ (ps : List Piece). A.ahead ++ (known nm ps ∷ A.behind)) e ∙ sym A.spelt

  pub edit_twice : (new old : Option Piece) (p : Pieces) (C : Conform T top (v11 f) p) (A : Aim T (chain T (first_known T top p)) m x)
      → edit_pieces key old (edit_pieces key new (owner_pieces T right top f m x p C A)) ≡ owner_pieces T right top f m x p C A → edit nm key old (edit nm key new p) ≡ p
  unfolding edit owner_pieces first_known
  edit_twice new old (list ps) C A e = ap list e
  edit_twice new old (exception ss) C A e = ap exception (slices_twice new old ss (apart_slices T right top f x.owner (by_name T right top f m x ss C.1 A.within) ss C.1 A.within) e)
  edit_twice new old (class ss) C A e = ap class (slices_twice new old ss (apart_slices T right top f x.owner (by_name T right top f m x ss C.1 A.within) ss C.1 A.within) e)

-- ---- a listed optional

all_in : {A : Type 0} (l : List A) → All (λ (a : A). In a l) l
all_in [] = end
all_in (a ∷ l) = more here (all_map (λ _ i. there i) (all_in l))

pub all_at : {A : Type 0} {P : A → Type 0} {l : List A} {a : A} → All P l → In a l → P a
all_at {A = A} {P = P} {a = a} end x3 = elim x3 [ ]
all_at (more p L) here = p
all_at (more p L) (there i) = all_at L i

module _ (T : List ℕ) (top : ℕ) (m : List ℕ) (f : Format) (p : Pieces) (n : ℕ) (y : Bytes m) (h : rules T top m ≡ ok (read_as (v11 f) p) n) where
  follows : Follows T top m (v11 f) p
  follows = ((exact_message T top m (v11 f) p n y).0 h).0

  right : faults T ≡ fine
  right = sound T follows.table

  top_right : no_top T (first_known T top p) ≡ false
  top_right = first_there T top f follows.top_there p follows.conforms

  pub row_target : (r : Row) → In r (rows T top (v11 f) p) → mark T r.member ≡ 1 → (x : Target) × (target T (first_known T top p) r.member ≡ some x)
  unfolding plan
  row_target r i marked =
      let first : ℕ = first_known T top p in
      let slots = all_with {S = λ (s : Slot). Fit T s × In s.owner (chain T first)} (λ (s : Slot) (F : Fit T s) (j : In s.owner (chain T first)). (F, j)) (plan_fit T right first top_right) (plan_owner T (λ (o : ℕ). In o (chain T first)) (chain T first) (all_in (chain T first))) in
      let R = all_at (chosen_among slots (rows_right T top m (v11 f) p n y h).order) i in
      go R.0 R.1.0 R.1.1 R.2
    where
      go : (s : Slot) → Fit T s → In s.owner (chain T (first_known T top p)) → r.member ≡ s.member.row → (x : Target) × (target T (first_known T top p) r.member ≡ some x)
      go s F j e =
          let due : s.due ≡ false = sym F.place.marked ∙ ap (λ (q : ℕ). eqb (mark T q) 0) (sym e) ∙ ap (λ (q : ℕ). eqb q 0) marked in
          let found : lookup s.member.key (Table.optional_members T s.owner) ≡ some s.member =
          ap (λ (q : Bool). lookup s.member.key (pick q (Table.required_members T s.owner) (Table.optional_members T s.owner))) (sym due) ∙ F.finds in
          (record { owner = s.owner; member = s.member }, ap (target T (first_known T top p)) e ∙ aim_target T right (first_known T top p) top_right s.owner s.member.key s.member F.owner_right j found)

-- ---- what a row holds is what its piece holds

in_those : {A : Type 0} (q : A → Bool) {a : A} {l : List A} → In a l → q a ≡ true → In a (those q l)
unfolding those
in_those q {a} (here {l}) e = subst (λ (b : Bool). In a (pick b (a ∷ those q l) (those q l))) (sym e) here
in_those q {a} (there {b} {l} i) e = go (q b) (in_those q i e)
  where
    go : (c : Bool) → In a (those q l) → In a (pick c (b ∷ those q l) (those q l))
    go true j = there j
    go false j = j

in_map : {A B : Type 0} (g : A → B) {a : A} {l : List A} → In a l → In (g a) (map g l)
in_map g here = here
in_map g (there i) = there (in_map g i)

only_one : {A : Type 0} {a b : A} → In a (b ∷ []) → a ≡ b
only_one {A = A} {a = a} {b = b} (there x3) = elim x3 [ ]
only_one here = refl

-- ---- setting the bytes that are there

module _ (T : List ℕ) (right : faults T ≡ fine) (top : ℕ) (f : Format) (n : ℕ) (x : Target) (p : Pieces) (C : Conform T top (v11 f) p) (A : Aim T (chain T (first_known T top p)) n x) where
  abbrev os : List Member
  os = Table.optional_members T x.owner

  abbrev owned : List Piece
  owned = owner_pieces T right top f n x p C A

  one_owned : One os x.member A.found owned
  one_owned = tagged_one os x.member A.found (Table.required_members T x.owner) 0 owned (owner_owned T right top f n x p C A)

  -- the member's piece has the bytes of its row
  pub piece_there : (r : Row) → In r (rows T top (v11 f) p) → r.member ≡ x.member.row → those (has_tag x.member.key) owned ≡ optional x.member.key (form_of x.member.ty) (part_of (encapsulate (v11 f) (encode (v11 f) p)) r) ∷ []
  unfolding piece_held those
  piece_there r i e = ⊎_elim missing has one_owned
    where
      m : List ℕ
      m = encapsulate (v11 f) (encode (v11 f) p)

      inside : In (row_held m r) (tagged_held T right top f n x owned)
      inside =
          subst (In (row_held m r)) (ap (those (Of x.member.row)) (rows_held T right top f n x p C) ∙ held_here T right top f n x p C A)
          (in_those (Of x.member.row) (in_map (row_held m) i) (eq-eqb r.member x.member.row e))

      missing : those (has_tag x.member.key) owned ≡ [] → those (has_tag x.member.key) owned ≡ optional x.member.key (form_of x.member.ty) (part_of m r) ∷ []
      missing z = absurd (nothing (subst (λ (l : List Piece). In (row_held m r) (those (Of x.member.row) (piece_held T x.owner l))) z inside))
        where
          nothing : In (row_held m r) [] → ⊥
          nothing = elim [ ]

      has : (b : List ℕ) × (those (has_tag x.member.key) owned ≡ optional x.member.key (form_of x.member.ty) b ∷ []) → those (has_tag x.member.key) owned ≡ optional x.member.key (form_of x.member.ty) (part_of m r) ∷ []
      has w =
          let j : In (row_held m r) ((x.member.row, w.0, length w.0) ∷ []) =
          subst (In (row_held m r)) (ap (λ (l : List Piece). those (Of x.member.row) (piece_held T x.owner l)) w.1 ∙ held_mine T right x.owner A.owner_right x.member A.found w.0) inside in
          let s : part_of m r ≡ w.0 = ap (λ (h : Held). h.1) (only_one j) in
          w.1 ∙ ap (λ (b : List ℕ). optional x.member.key (form_of x.member.ty) b ∷ []) (sym s)

  pub again : (r : Row) → In r (rows T top (v11 f) p) → r.member ≡ x.member.row → edit (name_of T x.owner) x.member.key (piece_for x.member (some (part_of (encapsulate (v11 f) (encode (v11 f) p)) r))) p ≡ p
  again r i e =
      edit_same T right top f n x (piece_for x.member (some (part_of (encapsulate (v11 f) (encode (v11 f) p)) r))) p C A
      (edit_there os x.member A.found (part_of (encapsulate (v11 f) (encode (v11 f) p)) r) (Table.required_members T x.owner) 0 owned (owner_owned T right top f n x p C A) (piece_there r i e))

  -- where the member is not listed its owner's pieces do not have its tag
  pub undone : (b : List ℕ) → lists x.member.row (rows T top (v11 f) p) ≡ false → edit (name_of T x.owner) x.member.key none (edit (name_of T x.owner) x.member.key (piece_for x.member (some b)) p) ≡ p
  unfolding some_of
  undone b z = edit_twice T right top f n x (piece_for x.member (some b)) none p C A (edit_undone os x.member A.found b owned (⊎_elim (λ e. e) has one_owned))
    where
      has : (a : List ℕ) × (those (has_tag x.member.key) owned ≡ optional x.member.key (form_of x.member.ty) a ∷ []) → those (has_tag x.member.key) owned ≡ []
      has w =
          absurd (false≢true (sym z ∙ lists_tagged T right top f n x p C A
          ∙ ap some_of (ap (λ (l : List Piece). those (Of x.member.row) (piece_held T x.owner l)) w.1 ∙ held_mine T right x.owner A.owner_right x.member A.found w.0)))

-- rows with some bytes of a member list it
there_lists : (n : ℕ) (m : List ℕ) (rs : List Row) (b : List ℕ) → map (part_of m) (those (λ (r : Row). eqb r.member n) rs) ≡ b ∷ [] → lists n rs ≡ true
unfolding those lists
there_lists n m [] b e = let z : ◌≡◌ {A = ℕ} 0 1 = cc in absurd (omega arith)
there_lists n m (r ∷ rs) b e = go (eqb r.member n) refl e (λ e. there_lists n m rs b e)
  where
    go : (q : Bool) → eqb r.member n ≡ q → map (part_of m) (pick q (r ∷ those (λ (r : Row). eqb r.member n) rs) (those (λ (r : Row). eqb r.member n) rs)) ≡ b ∷ []
        → (map (part_of m) (those (λ (r : Row). eqb r.member n) rs) ≡ b ∷ [] → lists n rs ≡ true) → eqb n r.member || lists n rs ≡ true
    go true q e ih = rw (eq-eqb n r.member (sym (eqb-true r.member n q)))
    go false q e ih = or_true (eqb n r.member) (ih e)

-- ---- the promises

pub set_again : SetAgain
unfolding changing next part_of
set_again T top m p n r space y h i marked fits =
    let F = follows T top m sliced p n y h in
    let R = right T top m sliced p n y h in
    let X = row_target T top m sliced p n y h r i marked in
    let x = X.0 in
    let A = target_aim T R (first_known T top p) r.member (top_right T top m sliced p n y h) x X.1 in
    let E = all_at (exact_rows T top m (v11 sliced) p n y h) i in
    let d : Doing x.member (some (part_of m r)) (rows T top (v11 sliced) p) =
    (omega (arith, part_length m r E.inside, E.inside, F.short), subst (λ t. exact t (part_of m r) ≡ true) (sym A.typed) (is_exact _ (member_rises T R r.member) (part_of m r) E.one)) in
    let s = made_step T top sliced p r.member (some (part_of m r)) n x X.1 (form_step x.member (some (part_of m r)) (rows T top (v11 sliced) p) d) in
    let e : part_of m r ≡ part_of (encapsulate (v11 sliced) (encode (v11 sliced) p)) r = ap (λ (z : List ℕ). part_of z r) F.encoded in
    let w : result_of T sliced p (some (part_of m r)) x ≡ m =
    ap (λ (b : List ℕ). result_of T sliced p (some b) x) e ∙ ap (λ (q : Pieces). encapsulate (v11 sliced) (encode (v11 sliced) q)) (again T R top sliced r.member x p F.conforms A r i (sym A.row)) ∙ sym F.encoded in
    ap (λ (z : Res Read). next (changed T top r.member (some (part_of m r)) z) (bounded space)) h ∙ ap (λ (z : Out (List ℕ)). next z (bounded space)) (s ∙ ap out w) ∙ bounded_step space m F.short fits

pub set_undone : SetUndone
unfolding changing next piece_for
set_undone T top m f p member b m' space X u fits =
    let h = X.accepted in
    let B = bounded_ok _ X.space m' X.made in
    let K = carried T top m f p member (some b) m' X.taken X.bytes h B.0 in
    let x = K.made.place in
    let q : Pieces = edited_by T p (some b) x in
    let a : rules T top m' ≡ ok (read_as (v11 f) q) (length m') = carried_accepted K B.1 in
    let t : target T (first_known T top q) member ≡ some x = ap (λ (z : ℕ). target T z member) (first_kept T (name_of T x.owner) x.member.key (piece_for x.member (some b)) top p) ∙ K.made.found in
    let l : lists x.member.row (rows T top (v11 f) q) ≡ true = ap (λ (z : ℕ). lists z (rows T top (v11 f) q)) K.aim.row ∙ there_lists member m' (rows T top (v11 f) q) b (carried_differs T top m f p member (some b) m' K).there in
    let s = made_step T top f q member none (length m') x t (ap (λ (g : Format). change_form x.member none g (rows T top (v11 f) q)) K.sliced_one ∙ form_step x.member none (rows T top (v11 f) q) l) in
    let e = undone T K.table top f member x p K.follows.conforms K.aim b (ap (λ (z : ℕ). lists z (rows T top (v11 f) p)) K.aim.row ∙ not_listed member (rows T top (v11 f) p) u) in
    let w : result_of T f q none x ≡ m = ap (λ (z : Pieces). encapsulate (v11 f) (encode (v11 f) z)) e ∙ sym K.follows.encoded in
    ap (λ (z : Res Read). next (changed T top member none z) (bounded space)) a ∙ ap (λ (z : Out (List ℕ)). next z (bounded space)) (s ∙ ap out w) ∙ bounded_step space m K.follows.short fits

-- 50, 51, 3 and 21, of a member that is found
module _ (T : List ℕ) (top : ℕ) (m : List ℕ) (member : ℕ) (space : ℕ) (f : Format) (p : Pieces) (x : Target) (c : Option (List ℕ)) where
  form_refused : faults T ≡ fine → Chosen T top m member f p → Aim T (chain T (first_known T top p)) member x → (n : ℕ) → change_form x.member c f (rows T top (v11 f) p) ≡ suc n → RefusedAt T top m member c space (suc n) 0
  unfolding change_form first_of
  form_refused right H A n e = go c refl f refl e
    where
      listed : lists x.member.row (rows T top (v11 f) p) ≡ lists member (rows T top (v11 f) p)
      listed = ap (λ (z : ℕ). lists z (rows T top (v11 f) p)) A.row

      none_of : lists x.member.row (rows T top (v11 f) p) ≡ false → Has member (rows T top (v11 f) p) → ⊥
      none_of z h = true≢false (sym (has_lists member (rows T top (v11 f) p) h) ∙ sym listed ∙ z)

      value_of : (b : List ℕ) → exact x.member.ty b ≡ false → IsValue (member_ty T (trees T) member) b → ⊥
      value_of b z v = true≢false (sym (is_exact _ (member_rises T right member) b v) ∙ ap (λ t. exact t b) (sym A.typed) ∙ z)

      at : (k : ℕ) → RefusedAt T top m member c space k 0 → k ≡ suc n → RefusedAt T top m member c space (suc n) 0
      at k r q = subst (λ (z : ℕ). RefusedAt T top m member c space z 0) q r

      go₃ : (b : List ℕ) → c ≡ some b → f ≡ sliced → (u : Bool) → ltb limit (length b) ≡ u → (v : Bool) → exact x.member.ty b ≡ v → pick u 3 (pick (not v) 21 0) ≡ suc n → RefusedAt T top m member c space (suc n) 0
      go₃ b q g true u v w e = at 3 (over_limit (subst (λ (z : Format). Chosen T top m member z p) g H) q (ltb-true limit (length b) u)) e
      go₃ b q g false u true w e = absurd (omega arith)
      go₃ b q g false u false w e = at 21 (not_of_type (subst (λ (z : Format). Chosen T top m member z p) g H) q (ltb-false limit (length b) u) (value_of b w)) e

      go₂ : c ≡ none → (g : Format) → f ≡ g → (u : Bool) → lists x.member.row (rows T top (v11 f) p) ≡ u → pick (not u) 50 (pick (not (is_sliced g)) 51 0) ≡ suc n → RefusedAt T top m member c space (suc n) 0
      go₂ q g s false u e = at 50 (not_there H q (none_of u)) e
      go₂ q compact s true u e =
          at 51 (compact_record (subst (λ (z : Format). Chosen T top m member z p) s H) (λ _. subst (λ (z : Format). Has member (rows T top (v11 z) p)) s (lists_has member (rows T top (v11 f) p) (sym listed ∙ u)))) e
      go₂ q sliced s true u e = absurd (omega arith)

      go : (o : Option (List ℕ)) → c ≡ o → (g : Format) → f ≡ g → change_form x.member o g (rows T top (v11 f) p) ≡ suc n → RefusedAt T top m member c space (suc n) 0
      go none q g s e = go₂ q g s (lists x.member.row (rows T top (v11 f) p)) refl e
      go (some b) q compact s e = at 51 (compact_record (subst (λ (z : Format). Chosen T top m member z p) s H) (λ z. absurd (some≢none q z))) e
      go (some b) q sliced s e = go₃ b q s (ltb limit (length b)) refl (exact x.member.ty b) refl e

pub change_refused : ChangeRefused
unfolding changing changed changed_as changed_at next stopped_first bounded
change_refused T top m member c space n p y h = go (rules T top m) refl (changed T top member c (rules T top m)) refl h
  where
    go₄ : (m' : List ℕ) → changed T top member c (rules T top m) ≡ out m' → (q : Bool) → leb (length m') limit && leb (length m') space ≡ q → pick q (out m') (stop 22 (length m')) ≡ stop n p → RefusedAt T top m member c space n p
    go₄ m' e true q h = absurd (out≢stop refl h)
    go₄ m' e false q h =
        let a : 22 ≡ n = cc in
        let b : length m' ≡ p = cc in
        subst₂ (RefusedAt T top m member c space) a b (too_long_lem e (λ w. true≢false (sym (rw (le-leb (length m') limit w.0, le-leb (length m') space w.1)) ∙ q)))

    go₃ : (f : Format) (ps : Pieces) (k : ℕ) → rules T top m ≡ ok (read_as (v11 f) ps) k → (x : Target) → target T (first_known T top ps) member ≡ some x → (w : ℕ) → change_form x.member c f (rows T top (v11 f) ps) ≡ w
        → next (stopped_first w) (λ _. out (result_of T f ps c x)) ≡ stop n p → RefusedAt T top m member c space n p
    go₃ f ps k e x t zero w h = absurd (out≢stop refl h)
    go₃ f ps k e x t (suc w) z h =
        let R = right T top m f ps k y e in
        let A = target_aim T R (first_known T top ps) member (top_right T top m f ps k y e) x t in
        let a : suc w ≡ n = cc in
        let b : 0 ≡ p = cc in
        subst₂ (RefusedAt T top m member c space) a b
        (form_refused T top m member space f ps x c R (record { taken = k; accepted = e; of_chain_lem = aim_chain T R (first_known T top ps) member x A }) A w z)

    go₂ : (f : Format) (ps : Pieces) (k : ℕ) → rules T top m ≡ ok (read_as (v11 f) ps) k → (t : Option Target) → target T (first_known T top ps) member ≡ t → changed_at T top f ps c t ≡ stop n p → RefusedAt T top m member c space n p
    go₂ f ps k e none t h =
        let a : 49 ≡ n = cc in
        let b : 0 ≡ p = cc in
        subst₂ (RefusedAt T top m member c space) a b (not_optional e (chain_found T (right T top m f ps k y e) (first_known T top ps) member t))
    go₂ f ps k e (some x) t h = go₃ f ps k e x t (change_form x.member c f (rows T top (v11 f) ps)) refl h

    go₅ : (e : Encoding) (ps : Pieces) (k : ℕ) → rules T top m ≡ ok (read_as e ps) k → changed_as T top member c e ps ≡ stop n p → RefusedAt T top m member c space n p
    go₅ v10 ps k e h =
        let a : 49 ≡ n = cc in
        let b : 0 ≡ p = cc in
        subst₂ (RefusedAt T top m member c space) a b (of_old e)
    go₅ (v11 f) ps k e h = go₂ f ps k e (target T (first_known T top ps) member) refl h

    go₁ : (r : Res Read) → rules T top m ≡ r → changed T top member c r ≡ stop n p → RefusedAt T top m member c space n p
    go₁ (bad a b) e h = the_reader's (e ∙ (let u : a ≡ n = cc in let v : b ≡ p = cc in ap₂ bad u v))
    go₁ (ok r k) e h = go₅ r.format r.pieces k e h

    go : (r : Res Read) → rules T top m ≡ r → (o : Out (List ℕ)) → changed T top member c (rules T top m) ≡ o → next o (bounded space) ≡ stop n p → RefusedAt T top m member c space n p
    go r e (out m') z h = go₄ m' z (leb (length m') limit && leb (length m') space) refl h
    go r e (stop a b) z h = go₁ r e (ap (changed T top member c) (sym e) ∙ z ∙ h)

pub old_change : OldChange
unfolding changing changed changed_as next
old_change T top m p n member c space h = ap (λ (r : Res Read). next (changed T top member c r) (bounded space)) h

pub change_made : ChangeMade
change_made T top m p member c y H D = go (target T (first_known T top p) member) refl
  where
    k : ℕ
    k = H.taken

    go : (t : Option Target) → target T (first_known T top p) member ≡ t → (m' : List ℕ) × (changed T top member c (rules T top m) ≡ out m')
    go none t = absurd (chain_found T (right T top m sliced p k y H.accepted) (first_known T top p) member t H.of_chain_lem)
    go (some x) t =
        let R = right T top m sliced p k y H.accepted in
        let A = target_aim T R (first_known T top p) member (top_right T top m sliced p k y H.accepted) x t in
        (result_of T sliced p c x, ap (changed T top member c) H.accepted ∙ made_step T top sliced p member c k x t (form_step x.member c (rows T top (v11 sliced) p) (doing R A c D)))
      where
        doing : faults T ≡ fine → Aim T (chain T (first_known T top p)) member x → (c : Option (List ℕ)) → Doable T member c (rows T top (v11 sliced) p) → Doing x.member c (rows T top (v11 sliced) p)
        doing R A none D = ap (λ (z : ℕ). lists z (rows T top (v11 sliced) p)) A.row ∙ has_lists member (rows T top (v11 sliced) p) D
        doing R A (some b) D = (D.0, subst (λ t. exact t b ≡ true) (sym A.typed) (is_exact _ (member_rises T R member) b D.1))

pub change_too_long : ChangeTooLong
unfolding changing next bounded
change_too_long T top m member c m' space e = (λ w. ap (λ (z : Out (List ℕ)). next z (bounded space)) e ∙ bounded_step space m' w.0 w.1, λ u. ap (λ (z : Out (List ℕ)). next z (bounded space)) e ∙ go u (leb (length m') limit) refl (leb (length m') space) refl)
  where
    go : ((length m' ≤ limit) × (length m' ≤ space) → ⊥) → (a : Bool) → leb (length m') limit ≡ a → (b : Bool) → leb (length m') space ≡ b → pick (a && b) (out m') (stop 22 (length m')) ≡ stop 22 (length m')
    go u true p true q = absurd (u (leb-true (length m') limit p, leb-true (length m') space q))
    go u true p false q = refl
    go u false p b q = refl

pub change_told : ChangeTold
unfolding writing_numbers writing_of
change_told T top m member c space y = ((λ m' h. ap (λ (w : Out (List ℕ)). writing_numbers (writing_of w)) h), λ n p h. (number n p (change_refused T top m member c space n p y h), ap (λ (w : Out (List ℕ)). writing_numbers (writing_of w)) h))
  where
    number : (n p : ℕ) → RefusedAt T top m member c space n p → 1 ≤ n
    number n p (the_reader's e) = (refusal_numbered (rules_refused T top m e)).some_number
    number n p (not_optional e z) = omega arith
    number n p (of_old e) = omega arith
    number n p (not_there H e z) = omega arith
    number n p (compact_record H z) = omega arith
    number n p (over_limit H e z) = omega arith
    number n p (not_of_type H e z w) = omega arith
    number n p (too_long_lem e z) = omega arith

pub change_filled : ChangeFilled
unfolding changing output
change_filled T top m member c lent = (filled, λ n p h. refl)
  where
    filled : (m' : List ℕ) → changing T top m member c (length lent) ≡ out m'
        → (take (length m') (output (out m') lent) ≡ m') × (drop (length m') (output (out m') lent) ≡ drop (length m') lent) × (length (output (out m') lent) ≡ length lent)
    filled m' h =
        let F : length m' ≤ length lent = (bounded_ok (changed T top member c (rules T top m)) (length lent) m' h).2 in
        (take_at m' (drop (length m') lent) (length m') refl, drop_at m' (drop (length m') lent) (length m') refl, omega (arith, length-append m' (drop (length m') lent), length-drop (length m') lent))
