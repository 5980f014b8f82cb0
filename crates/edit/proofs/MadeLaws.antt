-- A change of an accepted message that is not refused: what it makes, and that the result follows the rules.
--
--   result_of, Made, made_ok, made_step   what `changed` gives is the encoding of the edited pieces; its member is found, and nothing is refused
--   bounded_ok, bounded_step             the result fits
--   Doing, form_ok, form_step            what 50, 51, 3 and 21 let pass
--   first_there                          the first known type is a top
--   sound_of                             new bytes are one value of the member's type
--   Carried, carried, edited_by, carried_conforms, carried_accepted    the result follows the rules, with the edited pieces
use Rattle.std.specs.Prelude.{◌≡◌, Bool, not, ◌&&◌, length, ltb}
use Rattle.std.proofs.Math.Path.{refl, ap}
use Rattle.std.proofs.Common.{sym, ◌∙◌, subst, true≢false, arith}
use Rattle.std.proofs.Math.Bool.{true, false}
use Rattle.std.proofs.Math.Option.{Option, none, some}
use mathlib.Core.List.{List, [], ◌∷◌}
use Prim.Native.Nat.{ℕ, zero, suc, ◌≤◌}
use Rattle.std.proofs.Math.Dec.{leb}
use borrow.Author.Tests.{leb-true, le-leb, ltb-false, le-ltb, not-false}
use Rattle.encoding.specs.Result.{ok, pick, first_of}
use Rattle.encoding.proofs.ResultLaws.{first_of_ok, both_true}
use Rattle.encoding.specs.Number.{Bytes}
use Rattle.encoding.specs.Grammar.{ListsRise}
use Rattle.encoding.proofs.ExactLaws.{exact_is}
use Rattle.encoding.proofs.ListLaws.{member_rises}
use Rattle.encoding.specs.Value.{exact}
use Rattle.encoding.specs.Table.{fine, faults, Member, name_of, chain}
use Rattle.encoding.proofs.RuleLaws.{named_ok}
use Rattle.encoding.specs.Slice.{Format, compact, sliced, is_sliced, Slice, known, passed}
use Rattle.encoding.specs.Message.{Pieces, list, exception, class, v11, encode, encapsulate, no_top, limit, rules, Row, rows, or_zero, first_in, first_known}
use Rattle.encoding.specs.Write.{Out, out, stop, next, stopped_first, bounded}
use Rattle.encoding.specs.Conform.{Slices, Conform}
use Rattle.laws.specs.Demands.{read_as, Follows}
use Rattle.laws.proofs.TableExact.{sound}
use Rattle.laws.proofs.MessageExact.{exact_message, rules_written}
use Rattle.laws.proofs.PlanRules.{record_there}
use Rattle.edit.specs.Change.{Target, target, piece_for, edit, lists, change_form, changed_at, changed_as, changed}
use Rattle.edit.proofs.TargetLaws.{Aim, target_aim}
use Rattle.edit.proofs.PieceLaws.{Sound}
use Rattle.edit.proofs.EditLaws.{conform_edit}

-- an answer is no refusal
pub out≢stop : {A : Type 0} {o : Out A} {a : A} {n p : ℕ} → o ≡ out a → o ≡ stop n p → ⊥
out≢stop e f = let z : ◌≡◌ {A = ℕ} 0 1 = cc in omega arith

-- ---- what is made

-- the result of a change of pieces p in format f
abbrev pub result_of : List ℕ → Format → Pieces → Option (List ℕ) → Target → List ℕ
result_of T f p c x = encapsulate (v11 f) (encode (v11 f) (edit (name_of T x.owner) x.member.key (piece_for x.member c) p))

-- what is known of what `changed` gives
pub record Made (T : List ℕ) (top : ℕ) (f : Format) (p : Pieces) (member : ℕ) (c : Option (List ℕ)) (m' : List ℕ) : Type 0 where
  pub place : Target
  pub found : target T (first_known T top p) member ≡ some place
  pub form : change_form place.member c f (rows T top (v11 f) p) ≡ 0
  pub is : m' ≡ result_of T f p c place

module _ (T : List ℕ) (top : ℕ) (f : Format) (p : Pieces) (member : ℕ) (c : Option (List ℕ)) (n : ℕ) where
  pub made_ok : (m' : List ℕ) → changed T top member c (ok (read_as (v11 f) p) n) ≡ out m' → Made T top f p member c m'
  unfolding changed changed_as changed_at next stopped_first
  made_ok m' h = go (target T (first_known T top p) member) refl h
    where
      go₂ : (x : Target) → target T (first_known T top p) member ≡ some x → (w : ℕ) → change_form x.member c f (rows T top (v11 f) p) ≡ w
          → next (stopped_first w) (λ _. out (result_of T f p c x)) ≡ out m' → Made T top f p member c m'
      go₂ x e zero z h = record { place = x; found = e; form = z; is = cc }
      go₂ x e (suc w) z h = absurd (out≢stop h refl)

      go : (o : Option Target) → target T (first_known T top p) member ≡ o → changed_at T top f p c o ≡ out m' → Made T top f p member c m'
      go none e h = absurd (out≢stop h refl)
      go (some x) e h = go₂ x e (change_form x.member c f (rows T top (v11 f) p)) refl h

  pub made_step : (x : Target) → target T (first_known T top p) member ≡ some x → change_form x.member c f (rows T top (v11 f) p) ≡ 0 → changed T top member c (ok (read_as (v11 f) p) n) ≡ out (result_of T f p c x)
  unfolding changed changed_as changed_at next stopped_first
  made_step x e z = ap (changed_at T top f p c) e ∙ ap (λ (w : ℕ). next (stopped_first w) (λ _. out (result_of T f p c x))) z

-- ---- 22

module _ (o : Out (List ℕ)) (room : ℕ) where
  pub bounded_ok : (m' : List ℕ) → next o (bounded room) ≡ out m' → (o ≡ out m') × (length m' ≤ limit) × (length m' ≤ room)
  unfolding next bounded
  bounded_ok m' h = go o refl h
    where
      go₂ : (m : List ℕ) → (q : Bool) → leb (length m) limit && leb (length m) room ≡ q → pick q (out m) (stop 22 (length m)) ≡ out m' → (m ≡ m') × (length m ≤ limit) × (length m ≤ room)
      go₂ m true e h =
          let b = both_true (leb (length m) limit) (leb (length m) room) e in
          let s : m ≡ m' = cc in
          (s, leb-true (length m) limit b.0, leb-true (length m) room b.1)
      go₂ m false e h = absurd (out≢stop h refl)

      go : (u : Out (List ℕ)) → o ≡ u → next u (bounded room) ≡ out m' → (o ≡ out m') × (length m' ≤ limit) × (length m' ≤ room)
      go (out m) e h = let B = go₂ m (leb (length m) limit && leb (length m) room) refl h in (e ∙ ap out B.0, subst (λ (z : List ℕ). length z ≤ limit) B.0 B.1, subst (λ (z : List ℕ). length z ≤ room) B.0 B.2)
      go (stop n p) e h = absurd (out≢stop h refl)

-- a result within the limit and the room is given
pub bounded_step : (room : ℕ) (m' : List ℕ) → length m' ≤ limit → length m' ≤ room → bounded room m' ≡ out m'
unfolding bounded
bounded_step room m' a b = rw (le-leb (length m') limit a, le-leb (length m') room b)

-- ---- 50, 51, 3 and 21

-- what can be set or removed
abbrev pub Doing : Member → Option (List ℕ) → List Row → Type 0
Doing d none rs = lists d.row rs ≡ true
Doing d (some b) rs = (length b ≤ limit) × (exact d.ty b ≡ true)

sliced_ok : (f : Format) → not (is_sliced f) ≡ false → f ≡ sliced
sliced_ok compact e = absurd (true≢false e)
sliced_ok sliced e = refl

pub form_ok : (d : Member) (c : Option (List ℕ)) (f : Format) (rs : List Row) → change_form d c f rs ≡ 0 → (f ≡ sliced) × Doing d c rs
unfolding change_form
form_ok d none f rs h =
    let a = first_of_ok 49 (not (lists d.row rs)) _ h in
    let b = first_of_ok 50 (not (is_sliced f)) _ a.1 in
    (sliced_ok f b.0, not-false _ a.0)
form_ok d (some z) f rs h =
    let a = first_of_ok 50 (not (is_sliced f)) _ h in
    let b = first_of_ok 2 (ltb limit (length z)) _ a.1 in
    let e = first_of_ok 20 (not (exact d.ty z)) _ b.1 in
    (sliced_ok f a.0, (ltb-false limit (length z) b.0, not-false _ e.0))

pub form_step : (d : Member) (c : Option (List ℕ)) (rs : List Row) → Doing d c rs → change_form d c sliced rs ≡ 0
unfolding change_form first_of
form_step d none rs h = rw h
form_step d (some b) rs h = rw (le-ltb limit (length b) h.0, h.1)

-- ---- the first known type

module _ (T : List ℕ) (top : ℕ) (f : Format) where
  slices_there : (ss : List Slice) → Slices T top (v11 f) ss → no_top T (first_in T ss) ≡ false
  unfolding first_in or_zero
  slices_there [] C = absurd C
  slices_there (known o ps ∷ ss) C =
      let N = named_ok T o C.row C.known in
      ap (λ (z : Option ℕ). no_top T (or_zero z)) C.known ∙ record_there T C.row N.0 N.1
  slices_there (passed b i z ∷ ss) C = slices_there ss C.1

  pub first_there : no_top T top ≡ false → (p : Pieces) → Conform T top (v11 f) p → no_top T (first_known T top p) ≡ false
  unfolding first_known
  first_there h (list ps) C = h
  first_there h (exception ss) C = slices_there ss C.1
  first_there h (class ss) C = slices_there ss C.1

-- ---- the result

-- new bytes are one value of the member's type
pub sound_of : (T : List ℕ) → faults T ≡ fine → {ts : List ℕ} {m : ℕ} {x : Target} → Aim T ts m x → (c : Option (List ℕ)) (rs : List Row) → Doing x.member c rs → Sound x.member c
sound_of T right A none rs D = tt
sound_of T right {m = m} A (some b) rs D = (exact_is _ (subst ListsRise (sym A.typed) (member_rises T right m)) b D.1, omega (arith, D.0))

-- what is known of a change that is made
pub record Carried (T : List ℕ) (top : ℕ) (m : List ℕ) (f : Format) (p : Pieces) (member : ℕ) (c : Option (List ℕ)) (m' : List ℕ) : Type 0 where
  pub table : faults T ≡ fine
  pub follows : Follows T top m (v11 f) p
  pub made : Made T top f p member c m'
  pub aim : Aim T (chain T (first_known T top p)) member made.place
  pub doing : Doing made.place.member c (rows T top (v11 f) p)
  pub sound_one : Sound made.place.member c
  pub sliced_one : f ≡ sliced

pub carried : (T : List ℕ) (top : ℕ) (m : List ℕ) (f : Format) (p : Pieces) (member : ℕ) (c : Option (List ℕ)) (m' : List ℕ) (n : ℕ)
    → Bytes m → rules T top m ≡ ok (read_as (v11 f) p) n → changed T top member c (rules T top m) ≡ out m' → Carried T top m f p member c m'
carried T top m f p member c m' n y h k =
    let F = ((exact_message T top m (v11 f) p n y).0 h).0 in
    let right = sound T F.table in
    let M = made_ok T top f p member c n m' (ap (changed T top member c) (sym h) ∙ k) in
    let A = target_aim T right (first_known T top p) member (first_there T top f F.top_there p F.conforms) M.place M.found in
    let D = form_ok M.place.member c f (rows T top (v11 f) p) M.form in
    record { table = right; follows = F; made = M; aim = A; doing = D.1; sound_one = sound_of T right A c (rows T top (v11 f) p) D.1; sliced_one = D.0 }

-- the pieces of the result
abbrev pub edited_by : List ℕ → Pieces → Option (List ℕ) → Target → Pieces
edited_by T p c x = edit (name_of T x.owner) x.member.key (piece_for x.member c) p

pub carried_conforms : {T : List ℕ} {top : ℕ} {m : List ℕ} {f : Format} {p : Pieces} {member : ℕ} {c : Option (List ℕ)} {m' : List ℕ} → (K : Carried T top m f p member c m')
    → Conform T top (v11 f) (edited_by T p c K.made.place)
carried_conforms {T} {top} {m} {f} {p} {member} {c} K = conform_edit T K.table top f member K.made.place p K.follows.conforms K.aim c K.sound_one

pub carried_accepted : {T : List ℕ} {top : ℕ} {m : List ℕ} {f : Format} {p : Pieces} {member : ℕ} {c : Option (List ℕ)} {m' : List ℕ} → (K : Carried T top m f p member c m') → length m' ≤ limit
    → rules T top m' ≡ ok (read_as (v11 f) (edited_by T p c K.made.place)) (length m')
carried_accepted {T} {top} {m} {f} {p} {member} {c} {m'} K h =
    rules_written T top m' (v11 f) (edited_by T p c K.made.place)
    (record { table = K.follows.table; top_there = K.follows.top_there; short = h; conforms = carried_conforms K; encoded = K.made.is })
