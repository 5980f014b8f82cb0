-- Where 20 and 21 come: the rows that pass leave the slots to come, and a right list is one that chooses from these.
--
--   Rightly ss rs            rows choose from slots and lie in the buffer
--   Passes ss qs ss'         rows that pass one after another, and the slots to come after them
--   passes_right, _rest      a list is right after them exactly if they and the list together are right
--   Stops                    what stops at once, with 20 or 21
--   stopped, stops_at        judging stops exactly where rows that pass are followed by one that stops
--   judging_twenty           20 is at the first row with which no right list begins
--   judging_twenty_one        21 is at the first row whose bytes aren't exactly its type's
--   judging_number           the rows give no other refusal
--   judging_right            a right list whose rows have their types' bytes is judged right, and no other
use Rattle.std.proofs.Math.Path.{◌≡◌, refl}
use Rattle.std.proofs.Common.{sym, ap, ◌∙◌, subst, subst₂, true≢false, inl, inr, ⊎_elim, add-zero, arith, length-append, take-append-drop, length-take-le, take-suc, drop-cons, take_at, leb-true, leb-false, le-leb, eq-eqb, ne_eqb}
use Rattle.std.specs.Prelude.{Bool, ◌⊎◌, ℕ, zero, suc, ◌+◌, ◌≤◌, ◌<◌, length, take, drop, get_or, eqb, leb}
use Rattle.std.proofs.Math.Bool.{true, false}
use Rattle.std.proofs.Math.Option.{Option, none, some}
use mathlib.Core.List.{List, [], ◌∷◌, ◌++◌, append-nil, append_assoc}
use Rattle.std.proofs.lemmas.List.{get_or_at}
use Rattle.encoding.specs.Result.{pick}
use Rattle.encoding.proofs.ResultLaws.{some≢none}
use Rattle.encoding.specs.Types.{Ty}
use Rattle.encoding.specs.Value.{exact}
use Rattle.encoding.specs.Grammar.{IsValue, ListsRise}
use Rattle.encoding.specs.Table.{fine, faults, member_ty, trees}
use Rattle.encoding.specs.Old.{type_as}
use Rattle.encoding.proofs.OldLaws.{rises_as}
use Rattle.encoding.specs.Message.{Row, no_top}
use Rattle.encoding.specs.Write.{Right, Slot, plan, Chosen, chosen, left, RowsWithin, Out, out, stop, next, Given, part_of, prepend}
use Rattle.encoding.specs.Write
use Rattle.encoding.proofs.ExactLaws.{exact_is, is_exact}
use Rattle.laws.specs.Demands.{All, end, more, BeginsRight, RowFits, NoneRight, at_row, at_count, TwentyOne}
use Rattle.laws.proofs.PlanLaws.{Pairs, before, Spot, find, find_left, find_down, find_member, any_due, given_of, judge_slot, judge_slots, SlotsDiffer, out≢stop, Fitting, judge_slot_step, missed_all, Judged, over, taken, missed, judged_ok, judged_chosen, judged_within, first_among}
use Rattle.laws.proofs.PlanRules.{Fit, fit_rises, plan_fit, plan_differ, judging, judging_slots}

pairs_tail : {A : Type 0} {R : A → A → Type 0} {a : A} {l : List A} → Pairs R (a ∷ l) → Pairs R l
pairs_tail (before p P) = P

all_tail : {A : Type 0} {P : A → Type 0} {a : A} {l : List A} → All P (a ∷ l) → All P l
all_tail (more p L) = L

all_head : {A : Type 0} {P : A → Type 0} {a : A} {l : List A} → All P (a ∷ l) → P a
all_head (more p L) = p

-- what is no value is judged so
not_exact : (t : Ty) → ListsRise t → (b : List ℕ) → (IsValue t b → ⊥) → exact t b ≡ false
not_exact t R b n = go (exact t b) refl
  where
    go : (q : Bool) → exact t b ≡ q → exact t b ≡ false
    go true e = absurd (n (exact_is t R b e))
    go false e = e

-- ---- lists that choose from slots

pub record Rightly (buffer : List ℕ) (ss : List Slot) (rs : List Row) : Type 0 where
  pub order : Chosen ss rs
  pub within : RowsWithin (length buffer) rs

-- some list is right
pub record Some (buffer : List ℕ) (ss : List Slot) : Type 0 where
  pub rows : List Row
  pub right : Rightly buffer ss rows

some_right : (buffer : List ℕ) (ss : List Slot) → Some buffer ss
some_right buffer [] = record { rows = []; right = record { order = Write.end; within = tt } }
some_right buffer (s ∷ ss) =
    let S = some_right buffer ss in
    record { rows = record { member = s.member.row; place = 0; len = 0 } ∷ S.rows; right = record { order = chosen refl S.right.order; within = (omega arith, S.right.within) } }

-- what a slot that a row chooses leaves to come
record Leaves (ss : List Slot) (r : Row) (rs : List Row) : Type 0 where
  spot : Spot
  found : find r.member ss ≡ some spot
  order : Chosen spot.rest rs

chosen_leaves : {ss : List Slot} {r : Row} {rs : List Row} → Pairs SlotsDiffer ss → Chosen ss (r ∷ rs) → Leaves ss r rs
unfolding find
chosen_leaves {r = r} P (chosen {s} {ss} e C) = record { spot = record { slot = s; rest = ss }; found = rw (eq-eqb r.member s.member.row e); order = C }
chosen_leaves {r = r} (before D P) (left {s} {ss} d C) =
    let F = first_among D C in
    let L = chosen_leaves P C in
    record { spot = L.spot; found = rw (ne_eqb r.member s.member.row (λ e. F.1 (sym e ∙ F.2)), d) L.found; order = L.order }

chosen_none : {ss : List Slot} → Chosen ss [] → any_due ss ≡ false
unfolding any_due
chosen_none Write.end = refl
chosen_none (left d C) = rw d (chosen_none C)

module _ (buffer : List ℕ) (r : Row) (ss : List Slot) (z : Spot) (found : find r.member ss ≡ some z) (inside : r.place + r.len ≤ length buffer) where
  rightly_more : {rs : List Row} → Rightly buffer z.rest rs → Rightly buffer ss (r ∷ rs)
  rightly_more {rs} R = record {
    order = find_left (λ (ss : List Slot). Chosen ss (r ∷ rs)) r.member (λ s ss d C. left d C) ss z found (chosen (find_member r.member ss found) R.order);
    within = (inside, R.within);
  }

  rightly_less : {rs : List Row} → Pairs SlotsDiffer ss → Rightly buffer ss (r ∷ rs) → Rightly buffer z.rest rs
  rightly_less {rs} P R =
      let L = chosen_leaves P R.order in
      let x : L.spot ≡ z = cc in
      record { order = subst (λ (y : Spot). Chosen y.rest rs) x L.order; within = R.within.1 }

-- ---- rows that pass

next_stop : {A B : Type 0} (o : Out A) (f : A → B) {n p : ℕ} → next o (λ (a : A). out (f a)) ≡ stop n p → o ≡ stop n p
unfolding next
next_stop (out a) f h = absurd (out≢stop refl h)
next_stop (stop n p) f h = cc

module _ (T : List ℕ) (format : ℕ) (buffer : List ℕ) where
  -- slots that differ, each with its member, under a table that breaks no rule
  record Tidy (ss : List Slot) : Type 0 where
    right : faults T ≡ fine
    differ : Pairs SlotsDiffer ss
    fit : All (Fit T) ss

  tidy_tail : (s : Slot) (ss : List Slot) → Tidy (s ∷ ss) → Tidy ss
  tidy_tail s ss Y = record { right = Y.right; differ = pairs_tail Y.differ; fit = all_tail Y.fit }

  tidy_found : (r : Row) (ss : List Slot) (z : Spot) → find r.member ss ≡ some z → Tidy ss → Tidy (z.slot ∷ z.rest)
  tidy_found r ss z e Y = find_down Tidy r.member tidy_tail ss z e Y

  data Passes : List Slot → List Row → List Slot → Type 0 where
    here : {ss : List Slot} → Passes ss [] ss
    on : {ss ss' : List Slot} {r : Row} {qs : List Row} (z : Spot) → Fitting (eqb format 2) buffer r (find r.member ss) z → Passes z.rest qs ss' → Passes ss (r ∷ qs) ss'

  passes_right : {ss ss' : List Slot} {qs rs : List Row} → Passes ss qs ss' → Rightly buffer ss' rs → Rightly buffer ss (qs ++ rs)
  passes_right here R = R
  passes_right (on {ss} {r = r} z F P) R = rightly_more buffer r ss z F.found F.inside (passes_right P R)

  passes_rest : {ss ss' : List Slot} {qs rs : List Row} → Tidy ss → Passes ss qs ss' → Rightly buffer ss (qs ++ rs) → Rightly buffer ss' rs
  passes_rest Y here R = R
  passes_rest Y (on {ss} {r = r} z F P) R =
      passes_rest (tidy_tail z.slot z.rest (tidy_found r ss z F.found Y)) P (rightly_less buffer r ss z F.found F.inside Y.differ R)

  passes_tidy : {ss ss' : List Slot} {qs : List Row} → Tidy ss → Passes ss qs ss' → Tidy ss'
  passes_tidy Y here = Y
  passes_tidy Y (on {ss} {r = r} z F P) = passes_tidy (tidy_tail z.slot z.rest (tidy_found r ss z F.found Y)) P

  -- the type of the slot that a row chooses is its member's
  spot_type : (r : Row) (ss : List Slot) (z : Spot) → find r.member ss ≡ some z → Tidy ss → z.slot.member.ty ≡ member_ty T (trees T) r.member
  spot_type r ss z e Y = (all_head (tidy_found r ss z e Y).fit).typed ∙ ap (member_ty T (trees T)) (sym (find_member r.member ss e))

  spot_rises : (r : Row) (ss : List Slot) (z : Spot) → find r.member ss ≡ some z → Tidy ss → ListsRise z.slot.member.ty
  spot_rises r ss z e Y = fit_rises T Y.right z.slot (all_head (tidy_found r ss z e Y).fit)

  passes_fit : {ss ss' : List Slot} {qs : List Row} → Tidy ss → Passes ss qs ss' → All (RowFits T format buffer) qs
  passes_fit Y here = end
  passes_fit Y (on {ss} {r = r} z F P) =
      more {a = r} (subst (λ (t : Ty). IsValue (type_as (eqb format 2) t) (part_of buffer r)) (spot_type r ss z F.found Y) (exact_is (type_as (eqb format 2) z.slot.member.ty) (rises_as (eqb format 2) z.slot.member.ty (spot_rises r ss z F.found Y)) (part_of buffer r) F.one)) (passes_fit (tidy_tail z.slot z.rest (tidy_found r ss z F.found Y)) P)

  -- the rows that a right list begins with pass where they have their types' bytes
  right_passes : {ss : List Slot} (qs rs : List Row) → Tidy ss → Rightly buffer ss (qs ++ rs) → All (RowFits T format buffer) qs → (ss' : List Slot) × Passes ss qs ss'
  right_passes {ss} [] rs Y R A = (ss, here)
  right_passes {ss} (r ∷ qs) rs Y R (more f A) =
      let L = chosen_leaves Y.differ R.order in
      let z : Spot = L.spot in
      let F : Fitting (eqb format 2) buffer r (find r.member ss) z = record { found = L.found; inside = R.within.0; one = is_exact (type_as (eqb format 2) z.slot.member.ty) (rises_as (eqb format 2) z.slot.member.ty (spot_rises r ss z L.found Y)) (part_of buffer r) (subst (λ (t : Ty). IsValue (type_as (eqb format 2) t) (part_of buffer r)) (sym (spot_type r ss z L.found Y)) f) } in
      let I = right_passes {ss = z.rest} qs rs (tidy_tail z.slot z.rest (tidy_found r ss z L.found Y)) (rightly_less buffer r ss z L.found R.within.0 Y.differ R) A in
      (I.0, on z F I.1)

  -- ---- what stops

  -- 20 for true, 21 for false
  data Stops : Bool → List Slot → List Row → Type 0 where
    missing : {ss : List Slot} → any_due ss ≡ true → Stops true ss []
    wrong : {ss : List Slot} {r : Row} {rs : List Row} → ((x : List Row) → Rightly buffer ss (r ∷ x) → ⊥) → Stops true ss (r ∷ rs)
    misfit : {ss : List Slot} {r : Row} {rs : List Row} (z : Spot) → find r.member ss ≡ some z → r.place + r.len ≤ length buffer → exact (type_as (eqb format 2) z.slot.member.ty) (part_of buffer r) ≡ false → Stops false ss (r ∷ rs)

  abbrev number : Bool → ℕ
  number b = pick b 20 21

  record Stopped (n p k : ℕ) (ss : List Slot) (rs : List Row) : Type 0 where
    passed : List Row
    behind : List Row
    slots : List Slot
    which : Bool
    split : rs ≡ passed ++ behind
    passes : Passes ss passed slots
    stops : Stops which slots behind
    is_number : n ≡ number which
    is_place : p ≡ k + length passed

  stopped_here : {n p k : ℕ} {ss : List Slot} {rs : List Row} (b : Bool) → Stops b ss rs → ◌≡◌ {A = Out (List Given)} (stop (number b) k) (stop n p) → Stopped n p k ss rs
  stopped_here {n} {p} {k} {ss} {rs} b S e =
      record { passed = []; behind = rs; slots = ss; which = b; split = refl; passes = here; stops = S; is_number = cc; is_place = let q : k ≡ p = cc in omega arith }

  stopped : (rs : List Row) (ss : List Slot) (k : ℕ) {n p : ℕ} → Tidy ss → judge_slots (eqb format 2) buffer ss k rs ≡ stop n p → Stopped n p k ss rs
  unfolding judge_slots judge_slot next prepend
  stopped [] ss k {n} {p} Y h = go (any_due ss) refl h
    where
      go : (q : Bool) → any_due ss ≡ q → ◌≡◌ {A = Out (List Given)} (pick q (stop 20 k) (out [])) (stop n p) → Stopped n p k ss []
      go true e h = stopped_here true (missing e) h
      go false e h = absurd (out≢stop refl h)
  stopped (r ∷ rs) ss k {n} {p} Y h = go (find r.member ss) refl h (λ z Y h. stopped rs z.rest (suc k) Y h)
    where
      then : Spot → Out (List Given)
      then z = next (judge_slots (eqb format 2) buffer z.rest (suc k) rs) (prepend (given_of z.slot (part_of buffer r)))

      go₂ : (z : Spot) → find r.member ss ≡ some z → (a : Bool) → leb (r.place + r.len) (length buffer) ≡ a → (b : Bool) → exact (type_as (eqb format 2) z.slot.member.ty) (part_of buffer r) ≡ b
          → next (pick a (pick b (out z) (stop 21 k)) (stop 20 k)) then ≡ stop n p → ((z : Spot) → Tidy z.rest → judge_slots (eqb format 2) buffer z.rest (suc k) rs ≡ stop n p → Stopped n p (suc k) z.rest rs) → Stopped n p k ss (r ∷ rs)
      go₂ z e true f true g h ih =
          let I = ih z (tidy_tail z.slot z.rest (tidy_found r ss z e Y)) (next_stop (judge_slots (eqb format 2) buffer z.rest (suc k) rs) (λ (gs : List Given). given_of z.slot (part_of buffer r) ∷ gs) h) in
          record {
            passed = r ∷ I.passed;
            behind = I.behind;
            slots = I.slots;
            which = I.which;
            split = ap (λ (l : List Row). r ∷ l) I.split;
            passes = on z (record { found = e; inside = leb-true (r.place + r.len) (length buffer) f; one = g }) I.passes;
            stops = I.stops;
            is_number = I.is_number;
            is_place = omega (arith, I.is_place);
          }
      go₂ z e true f false g h ih = stopped_here false (misfit z e (leb-true (r.place + r.len) (length buffer) f) g) h
      go₂ z e false f b g h ih = stopped_here true (wrong (λ x R. omega (arith, leb-false (r.place + r.len) (length buffer) f, R.within.0))) h

      go : (f : Option Spot) → find r.member ss ≡ f → next (judge_slot (eqb format 2) buffer k r f) then ≡ stop n p → ((z : Spot) → Tidy z.rest → judge_slots (eqb format 2) buffer z.rest (suc k) rs ≡ stop n p → Stopped n p (suc k) z.rest rs) → Stopped n p k ss (r ∷ rs)
      go none e h ih = stopped_here true (wrong (λ x R. some≢none (chosen_leaves Y.differ R.order).found e)) h
      go (some z) e h ih = go₂ z e (leb (r.place + r.len) (length buffer)) refl (exact (type_as (eqb format 2) z.slot.member.ty) (part_of buffer r)) refl h ih

  stops_at : {b : Bool} {ss ss' : List Slot} {qs rs : List Row} → Passes ss qs ss' → Stops b ss' rs → (k : ℕ) → judge_slots (eqb format 2) buffer ss k (qs ++ rs) ≡ stop (number b) (k + length qs)
  unfolding judge_slots judge_slot next prepend
  stops_at here (missing {ss} e) k = rw (e, add-zero)
  stops_at here (wrong {ss} {r} {rs} never) k = go (find r.member ss) refl
    where
      then : Spot → Out (List Given)
      then z = next (judge_slots (eqb format 2) buffer z.rest (suc k) rs) (prepend (given_of z.slot (part_of buffer r)))

      go : (f : Option Spot) → find r.member ss ≡ f → next (judge_slot (eqb format 2) buffer k r f) then ≡ stop 20 (k + 0)
      go none e = rw add-zero
      go (some z) e = go₂ (leb (r.place + r.len) (length buffer)) refl
        where
          go₂ : (a : Bool) → leb (r.place + r.len) (length buffer) ≡ a → next (pick a (pick (exact (type_as (eqb format 2) z.slot.member.ty) (part_of buffer r)) (out z) (stop 21 k)) (stop 20 k)) then ≡ stop 20 (k + 0)
          go₂ true f = absurd (never (some_right buffer z.rest).rows (rightly_more buffer r ss z e (leb-true (r.place + r.len) (length buffer) f) (some_right buffer z.rest).right))
          go₂ false f = rw add-zero
  stops_at here (misfit {r = r} z e i x) k = rw (e, le-leb (r.place + r.len) (length buffer) i, x, add-zero)
  stops_at {b} (on {r = r} {qs = qs} z F P) S k =
      let e : suc k + length qs ≡ k + suc (length qs) = omega arith in
      rw (judge_slot_step (eqb format 2) buffer r k _ F) (rw (stops_at P S (suc k)) (ap (stop (number b)) e))

  -- ---- 20 and 21

  module _ (type : ℕ) (Y : Tidy (plan T type)) where
    begins : (qs rs : List Row) → Rightly buffer (plan T type) (qs ++ rs) → BeginsRight T type buffer qs
    begins qs rs R = record { others = rs; right = record { order = R.order; within = R.within } }

    -- with one row more
    begins_more : (qs : List Row) (r : Row) (rs : List Row) → Rightly buffer (plan T type) (qs ++ (r ∷ rs)) → BeginsRight T type buffer (qs ++ (r ∷ []))
    begins_more qs r rs R = begins (qs ++ (r ∷ [])) rs (subst (Rightly buffer (plan T type)) (sym (append_assoc qs (r ∷ []) rs)) R)

    begun_more : (qs : List Row) (r : Row) (B : BeginsRight T type buffer (qs ++ (r ∷ []))) → Rightly buffer (plan T type) (qs ++ (r ∷ B.others))
    begun_more qs r B = subst (Rightly buffer (plan T type)) (append_assoc qs (r ∷ []) B.others) (record { order = B.right.order; within = B.right.within })

    begins_passed : {qs : List Row} {ss : List Slot} → Passes (plan T type) qs ss → BeginsRight T type buffer qs
    begins_passed {qs} {ss} P = begins qs (some_right buffer ss).rows (passes_right P (some_right buffer ss).right)

    take_passed : (qs : List Row) (r : Row) (rs : List Row) → take (suc (length qs)) (qs ++ (r ∷ rs)) ≡ qs ++ (r ∷ [])
    take_passed qs r rs = ap (take (suc (length qs))) (sym (append_assoc qs (r ∷ []) rs)) ∙ take_at (qs ++ (r ∷ [])) rs (suc (length qs)) (omega (arith, length-append qs (r ∷ [])))

    twenty_at : (qs rs : List Row) (ss : List Slot) → Passes (plan T type) qs ss → Stops true ss rs → NoneRight T type format buffer (qs ++ rs) (length qs)
    twenty_at qs [] ss P (missing e) =
        subst (λ (l : List Row). NoneRight T type format buffer l (length qs)) (sym (append-nil qs))
        (at_count refl (begins_passed P) (λ R. true≢false (sym e ∙ chosen_none (passes_rest Y P (subst (Rightly buffer (plan T type)) (sym (append-nil qs)) (record { order = R.order; within = R.within }))).order)) (passes_fit Y P))
    twenty_at qs (r ∷ rs) ss P (wrong never) =
        let t : take (length qs) (qs ++ (r ∷ rs)) ≡ qs = take_at qs (r ∷ rs) (length qs) refl in
        at_row (omega (arith, length-append qs (r ∷ rs))) (subst (BeginsRight T type buffer) (sym t) (begins_passed P))
        (λ B. let C = subst (BeginsRight T type buffer) (take_passed qs r rs) B in never C.others (passes_rest Y P (begun_more qs r C)))
        (subst (All (RowFits T format buffer)) (sym t) (passes_fit Y P))

    abbrev nothing : Row
    nothing = record { member = 0; place = 0; len = 0 }

    twenty_one_at : (qs rs : List Row) (ss : List Slot) → Passes (plan T type) qs ss → Stops false ss rs → TwentyOne T type format buffer (qs ++ rs) (length qs)
    twenty_one_at qs [] ss P s = elim s [ ]
    twenty_one_at qs (r ∷ rs) ss P (misfit z e i x) =
        let t : take (length qs) (qs ++ (r ∷ rs)) ≡ qs = take_at qs (r ∷ rs) (length qs) refl in
        let g : get_or (qs ++ (r ∷ rs)) (length qs) nothing ≡ r = get_or_at qs r rs nothing (length qs) refl in
        let S = some_right buffer z.rest in
        record {
          inside = omega (arith, length-append qs (r ∷ rs));
          begins = subst (BeginsRight T type buffer) (sym (take_passed qs r rs)) (begins_more qs r S.rows (passes_right P (rightly_more buffer r ss z e i S.right)));
          before = subst (All (RowFits T format buffer)) (sym t) (passes_fit Y P);
          misfit = λ w. true≢false (sym (is_exact (type_as (eqb format 2) z.slot.member.ty) (rises_as (eqb format 2) z.slot.member.ty (spot_rises r ss z e (passes_tidy Y P))) (part_of buffer r)
              (subst (λ (t : Ty). IsValue (type_as (eqb format 2) t) (part_of buffer r)) (sym (spot_type r ss z e (passes_tidy Y P))) (subst (RowFits T format buffer) g w))) ∙ x);
        }

    -- judging stops at row i where the rows before it pass
    stops_row : (b : Bool) (rs : List Row) (i : ℕ) {ss : List Slot} → i < length rs → Passes (plan T type) (take i rs) ss → Stops b ss (get_or rs i nothing ∷ drop (suc i) rs)
        → judge_slots (eqb format 2) buffer (plan T type) 0 rs ≡ stop (number b) i
    stops_row b rs i l P S =
        let e : 0 + length (take i rs) ≡ i = omega (arith, length-take-le i rs (omega arith)) in
        ap (judge_slots (eqb format 2) buffer (plan T type) 0) (sym (ap (λ (l : List Row). take i rs ++ l) (sym (drop-cons rs i nothing l)) ∙ take-append-drop i rs))
        ∙ stops_at P S 0 ∙ ap (stop (number b)) e

    twenty_stops : (rs : List Row) (i : ℕ) → NoneRight T type format buffer rs i → judge_slots (eqb format 2) buffer (plan T type) 0 rs ≡ stop 20 i
    twenty_stops rs i (at_row l B never A) =
        let P = right_passes (take i rs) B.others Y (record { order = B.right.order; within = B.right.within }) A in
        let r : Row = get_or rs i nothing in
        stops_row true rs i l P.1 (wrong (λ x R. never (subst (BeginsRight T type buffer) (sym (take-suc rs i nothing l)) (begins_more (take i rs) r x (passes_right P.1 R)))))
    twenty_stops rs i (at_count e B never A) =
        let f : 0 + length rs ≡ i = omega arith in
        let P = right_passes rs B.others Y (record { order = B.right.order; within = B.right.within }) A in
        ap (judge_slots (eqb format 2) buffer (plan T type) 0) (sym (append-nil rs)) ∙ stops_at P.1 (missing (due P.0 P.1 (any_due P.0) refl)) 0 ∙ ap (stop 20) f
      where
        due : (ss : List Slot) → Passes (plan T type) rs ss → (q : Bool) → any_due ss ≡ q → any_due ss ≡ true
        due ss P true f = f
        due ss P false f =
            let R = subst (Rightly buffer (plan T type)) (append-nil rs) (passes_right P (record { order = judged_chosen (missed_all {old = eqb format 2} {buffer = buffer} ss f); within = tt })) in
            absurd (never (record { order = R.order; within = R.within }))

    twenty_one_stops : (rs : List Row) (i : ℕ) → TwentyOne T type format buffer rs i → judge_slots (eqb format 2) buffer (plan T type) 0 rs ≡ stop 21 i
    twenty_one_stops rs i W =
        let r : Row = get_or rs i nothing in
        let B = subst (BeginsRight T type buffer) (take-suc rs i nothing W.inside) W.begins in
        let R = begun_more (take i rs) r B in
        let P = right_passes (take i rs) (r ∷ B.others) Y R W.before in
        let Q = passes_rest Y P.1 R in
        let L = chosen_leaves (passes_tidy Y P.1).differ Q.order in
        stops_row false rs i W.inside P.1
        (misfit L.spot L.found Q.within.0 (not_exact (type_as (eqb format 2) L.spot.slot.member.ty) (rises_as (eqb format 2) L.spot.slot.member.ty (spot_rises r P.0 L.spot L.found (passes_tidy Y P.1))) (part_of buffer r)
        (λ w. W.misfit (subst (λ (t : Ty). IsValue (type_as (eqb format 2) t) (part_of buffer r)) (spot_type r P.0 L.spot L.found (passes_tidy Y P.1)) w))))

module _ (T : List ℕ) (type format : ℕ) (buffer : List ℕ) (rs : List Row) (i : ℕ) (right : faults T ≡ fine) (there : no_top T type ≡ false) where
  tidy_plan : Tidy T format buffer (plan T type)
  tidy_plan = record { right = right; differ = plan_differ T right type there; fit = plan_fit T right type there }

  -- what holds where judging stops with a number
  stopped_as : (b : Bool) (Q : List Row → ℕ → Type 0)
      → ((qs rs : List Row) (ss : List Slot) → Passes T format buffer (plan T type) qs ss → Stops T format buffer b ss rs → Q (qs ++ rs) (length qs))
      → judging T type (eqb format 2) buffer rs ≡ stop (number T format buffer b) i → Q rs i
  stopped_as b Q f h = go (stopped T format buffer rs (plan T type) 0 tidy_plan (sym (judging_slots T right type there (eqb format 2) buffer rs) ∙ h))
    where
      same : (b c : Bool) → number T format buffer b ≡ number T format buffer c → c ≡ b
      same true true e = refl
      same true false e = absurd (omega arith)
      same false true e = absurd (omega arith)
      same false false e = refl

      go : Stopped T format buffer (number T format buffer b) i 0 (plan T type) rs → Q rs i
      go S =
          let place : length S.passed ≡ i = omega (arith, S.is_place) in
          subst₂ Q (sym S.split) place (f S.passed S.behind S.slots S.passes (subst (λ (c : Bool). Stops T format buffer c S.slots S.behind) (same b S.which S.is_number) S.stops))

  pub judging_twenty : (judging T type (eqb format 2) buffer rs ≡ stop 20 i → NoneRight T type format buffer rs i) × (NoneRight T type format buffer rs i → judging T type (eqb format 2) buffer rs ≡ stop 20 i)
  judging_twenty = (
    stopped_as true (NoneRight T type format buffer) (twenty_at T format buffer type tidy_plan),
    λ W. judging_slots T right type there (eqb format 2) buffer rs ∙ twenty_stops T format buffer type tidy_plan rs i W,
  )

  pub judging_twenty_one : (judging T type (eqb format 2) buffer rs ≡ stop 21 i → TwentyOne T type format buffer rs i) × (TwentyOne T type format buffer rs i → judging T type (eqb format 2) buffer rs ≡ stop 21 i)
  judging_twenty_one = (
    stopped_as false (TwentyOne T type format buffer) (twenty_one_at T format buffer type tidy_plan),
    λ W. judging_slots T right type there (eqb format 2) buffer rs ∙ twenty_one_stops T format buffer type tidy_plan rs i W,
  )

  pub judging_number : (n : ℕ) → judging T type (eqb format 2) buffer rs ≡ stop n i → (n ≡ 20) ⊎ (n ≡ 21)
  judging_number n e =
      let S = stopped T format buffer rs (plan T type) 0 tidy_plan (sym (judging_slots T right type there (eqb format 2) buffer rs) ∙ e) in
      go S.which S.is_number
    where
      go : (b : Bool) → n ≡ number T format buffer b → (n ≡ 20) ⊎ (n ≡ 21)
      go true q = inl q
      go false q = inr q

-- ---- a right list is judged right

-- the row at a place of a list has what all have
all_at : {P : Row → Type 0} {rs : List Row} (d : Row) → All P rs → (i : ℕ) → i < length rs → P (get_or rs i d)
all_at d end i l = absurd (omega arith)
all_at d (more p A) zero l = p
all_at d (more p A) (suc i) l = all_at d A i (omega arith)

module _ (T : List ℕ) (type format : ℕ) (buffer : List ℕ) (rs : List Row) (R : Right T type buffer rs) (A : All (RowFits T format buffer) rs) where
  no_twenty : (i : ℕ) → NoneRight T type format buffer rs i → ⊥
  no_twenty i (at_row l B never F) =
      never (record { others = drop (suc i) rs; right = subst (Right T type buffer) (sym (take-append-drop (suc i) rs)) R })
  no_twenty i (at_count e B never F) = never R

  no_twenty_one : (i : ℕ) → TwentyOne T type format buffer rs i → ⊥
  no_twenty_one i W = W.misfit (all_at (record { member = 0; place = 0; len = 0 }) A i W.inside)

module _ (T : List ℕ) (type format : ℕ) (buffer : List ℕ) (rs : List Row) (right : faults T ≡ fine) (there : no_top T type ≡ false) where
  pub judging_right : Right T type buffer rs → All (RowFits T format buffer) rs → (gs : List Given) × (judging T type (eqb format 2) buffer rs ≡ out gs)
  judging_right R A = go (judging T type (eqb format 2) buffer rs) refl
    where
      go : (o : Out (List Given)) → judging T type (eqb format 2) buffer rs ≡ o → (gs : List Given) × (judging T type (eqb format 2) buffer rs ≡ out gs)
      go (out gs) e = (gs, e)
      go (stop n i) e =
          absurd (⊎_elim
          (λ q. no_twenty T type format buffer rs R A i ((judging_twenty T type format buffer rs i right there).0 (e ∙ ap (λ (k : ℕ). stop k i) q)))
          (λ q. no_twenty_one T type format buffer rs R A i ((judging_twenty_one T type format buffer rs i right there).0 (e ∙ ap (λ (k : ℕ). stop k i) q)))
          (judging_number T type format buffer rs i right there n e))

  pub right_judging : {gs : List Given} → judging T type (eqb format 2) buffer rs ≡ out gs → Right T type buffer rs × All (RowFits T format buffer) rs
  right_judging h =
      let K = judged_ok (eqb format 2) buffer rs (plan T type) 0 (sym (judging_slots T right type there (eqb format 2) buffer rs) ∙ h) in
      (record { order = judged_chosen K; within = judged_within K }, judged_fit (plan_fit T right type there) K)
    where
      judged_fit : {ss : List Slot} {rs : List Row} {gs : List Given} → All (Fit T) ss → Judged (eqb format 2) buffer ss rs gs → All (RowFits T format buffer) rs
      judged_fit end over = end
      judged_fit (more {a = s} f F) (taken {r = r} e i x K) =
          more {a = r} (subst (λ (t : Ty). IsValue (type_as (eqb format 2) t) (part_of buffer r)) (f.typed ∙ ap (member_ty T (trees T)) (sym e)) (exact_is (type_as (eqb format 2) s.member.ty) (rises_as (eqb format 2) s.member.ty (fit_rises T right s f)) (part_of buffer r) x)) (judged_fit F K)
      judged_fit (more f F) (missed d K) = judged_fit F K
