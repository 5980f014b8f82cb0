-- One report from any state, the refusals of a report, and the states that are given: `frost_report`, `frost_refuses`, `frost_state`, `state_given` of FrostDemands.
-- The idea: the judgement of a message (`frost_judges`) bounds its numbers; 36 bytes hold three rows, so 19 never comes.
-- Assumes nothing.
use Rattle.std.specs.Prelude.{◌≡◌, Bool, true, false, ◌&&◌, List, [], ◌∷◌, ◌++◌, ℕ, ◌^◌, ◌≤◌, ◌<◌, length, take, drop, eqb, ltb}
use Rattle.std.proofs.Math.Path.{refl, ap, subst}
use Rattle.std.proofs.Common.{sym, ◌∙◌, true≢false, take_at, eqb-true, leb-false, ltb-true, ltb-false}
use Rattle.std.proofs.Math.Option.{Option, none, some}
use native.Mathlib.Omega.{arith}
use Rattle.std.proofs.lemmas.Bool.{eqb-false}
use Rattle.encoding.specs.Result.{pick}
use Rattle.encoding.proofs.ResultLaws.{either_false, some≢none}
use Rattle.encoding.specs.Number.{Bytes, val, negative}
use Rattle.encoding.specs.Table.{at, members}
use Rattle.encoding.proofs.Cases.{computed}
use Rattle.laws.specs.Demands.{ReaderRefusal, by_rules, short_list}
use Rattle.laws.proofs.Refusals.{refusal_numbered}
use Rattle.laws.proofs.Promised.{promises}
use Rattle.frost.specs.Frost.{guard_table, Guard, start, present, lone_start, bad_state, Report, Heard, refuse, heard, report_of, judged_report, cold_at, or_now, freeze, Told, told, report, state_bytes, state_of, marked, no_state, bounded, started, reported_from, reported, stored}
use Rattle.frost.specs.FrostDemands.{Lower, Judged, by_reader, incomplete, tick_negative, tick_lower, delay_negative, in_order, Freezes, goes_on, begins, thaws, Obeys, OneReport, FrostReport, ReportRefusal, of_reader, of_tick, of_delay, of_field, of_state, FrostRefuses, Keeps, FrostState, NotAfter, InTurn, none_yet, taken, Under, Sound, StateGiven}
use Rattle.frost.proofs.FrostLaws.{heard≢refuse, freeze_cold, freeze_warm, frozen_began, began_frozen, guard_of, Held, held_step, held_under, held_lone, long_present, int_present, none_of_four, guard_sound, guard_start, taken_turn, fires_true, fires_at_lem, state_kept}
use Rattle.frost.proofs.FrostJudged.{frost_judges, bounded_wide, stored_next}

-- ---- what is judged

heard_same : {a b : Report} → heard a ≡ heard b → a ≡ b
heard_same e = cc

refuse_number : {a b n p : ℕ} → refuse n p ≡ refuse a b → n ≡ a
refuse_number e = cc

refuse_place : {a b n p : ℕ} → refuse n p ≡ refuse a b → p ≡ b
refuse_place e = cc

zero_52 : ◌≡◌ {A = ℕ} 0 52 → ⊥
zero_52 e = omega arith

-- an accepted report has no negative number, and its tick is not before the last
record InOrder (last : Option ℕ) (r : Report) : Type 0 where
  long : r.tick < 2 ^ 63
  later : NotAfter last r.tick
  int : r.delay < 2 ^ 31

not_after : (last : Option ℕ) (t : ℕ) → (Lower t last → ⊥) → NotAfter last t
not_after none t n = tt
not_after (some s) t n = go (ltb t s) refl
  where
    go : (b : Bool) → ltb t s ≡ b → s ≤ t
    go true e = absurd (n (record { than = s; there = refl; lower = ltb-true t s e }))
    go false e = ltb-false t s e

heard_order : (last : Option ℕ) (m : List ℕ) (x : Heard) → Judged last m x → (r : Report) → x ≡ heard r → InOrder last r
heard_order last m x (by_reader h) r e = absurd (heard≢refuse e refl)
heard_order last m x (incomplete a n) r e = absurd (heard≢refuse e refl)
heard_order last m x (tick_negative f h) r e = absurd (heard≢refuse e refl)
heard_order last m x (tick_lower f h l) r e = absurd (heard≢refuse e refl)
heard_order last m x (delay_negative f h l n) r e = absurd (heard≢refuse e refl)
heard_order last m x (in_order {r = q} f h l n) r e =
    subst (InOrder last) (heard_same e) (record { long = h; later = not_after last q.tick l; int = n })

-- a refusal of a message is the reader's own, 42, 40 or 41; so its number is neither 0 nor 52
record Refuses (m : List ℕ) (n p : ℕ) : Type 0 where
  is : ReportRefusal m n p
  some_number : n ≡ 0 → ⊥
  other : n ≡ 52 → ⊥

three_members : members guard_table ≡ 3
unfolding computed guard_table
three_members = refl

reader_refuses : (m : List ℕ) (n p : ℕ) → Bytes m → ReaderRefusal guard_table 3 m 36 n p → Refuses m n p
reader_refuses m n p y (by_rules r) =
    let k = refusal_numbered r in
    record { is = of_reader r; some_number = λ e. omega (arith, k.some_number); other = λ e. omega (arith, k.known_number) }
reader_refuses m n p y (short_list e l) = absurd (omega (arith, (promises.once guard_table 3 m _ _ _ y e).1, three_members))

refused_by : (last : Option ℕ) (m : List ℕ) (x : Heard) → Bytes m → Judged last m x → (n p : ℕ) → x ≡ refuse n p → Refuses m n p
refused_by last m x y (by_reader h) n p e =
    rw (refuse_number (sym e), refuse_place (sym e)) (reader_refuses m _ _ y (promises.refuses guard_table 3 m 36 h).0)
refused_by last m x y (incomplete a k) n p e = rw (refuse_number (sym e), refuse_place (sym e)) (record { is = of_field; some_number = λ z. omega arith; other = λ z. omega arith })
refused_by last m x y (tick_negative f h) n p e = rw (refuse_number (sym e), refuse_place (sym e)) (record { is = of_tick; some_number = λ z. omega arith; other = λ z. omega arith })
refused_by last m x y (tick_lower f h l) n p e = rw (refuse_number (sym e), refuse_place (sym e)) (record { is = of_tick; some_number = λ z. omega arith; other = λ z. omega arith })
refused_by last m x y (delay_negative f h l k) n p e = rw (refuse_number (sym e), refuse_place (sym e)) (record { is = of_delay; some_number = λ z. omega arith; other = λ z. omega arith })
refused_by last m x y (in_order f h l k) n p e = absurd (heard≢refuse refl e)

-- ---- one report

lone_held : (t s : Option ℕ) → lone_start t s ≡ false → Held t s
unfolding lone_start
lone_held t none e = tt
lone_held none (some s) e = absurd (true≢false e)
lone_held (some t) (some s) e = ltb-false t s e

freezes_so : (set : ℕ) (o : Option ℕ) (r : Report) → Freezes set o r (freeze set o r)
unfolding or_now
freezes_so set o r = go (cold_at set r) refl o refl
  where
    go : (b : Bool) → cold_at set r ≡ b → (q : Option ℕ) → o ≡ q → Freezes set o r (freeze set o r)
    go true c none e = subst (λ (x : Option ℕ). Freezes set o r x) (sym (freeze_cold set o r c ∙ ap (λ (x : Option ℕ). some (or_now r.tick x)) e)) (begins c e)
    go true c (some s) e = subst (λ (x : Option ℕ). Freezes set o r x) (sym (freeze_cold set o r c ∙ ap (λ (x : Option ℕ). some (or_now r.tick x)) e)) (goes_on c e)
    go false c q e = subst (λ (x : Option ℕ). Freezes set o r x) (sym (freeze_warm set o r c)) (thaws c)

module _ (g : Guard) (s : bad_state g ≡ false) where
  -- no number is negative, and a start has a tick at or after it
  parts : (present (negative 8) g.tick ≡ false) × (present (negative 8) g.start ≡ false) × (present (negative 4) g.delay ≡ false) × (lone_start g.tick g.start ≡ false)
  unfolding bad_state
  parts =
      let a = either_false (present (negative 8) g.tick) _ s in
      let b = either_false (present (negative 8) g.start) _ a.1 in
      let c = either_false (present (negative 4) g.delay) _ b.1 in
      (a.0, b.0, c.0, c.1)

  report_told : (m : List ℕ) → report g m ≡ told g (judged_report g.tick (report_of m))
  unfolding report
  report_told m = rw s

  held_after : (r : Report) → InOrder g.tick r → Held (some r.tick) (freeze g.set g.start r)
  held_after r o = go (cold_at g.set r) refl
    where
      go : (b : Bool) → cold_at g.set r ≡ b → Held (some r.tick) (freeze g.set g.start r)
      go true c = rw (freeze_cold g.set g.start r c) (held_step g.tick g.start r.tick (lone_held g.tick g.start parts.3) o.later)
      go false c = rw (freeze_warm g.set g.start r c) tt

  obeys : (r : Report) → InOrder g.tick r → Obeys g r (told g (heard r))
  unfolding told bad_state
  obeys r o = record {
    refusal_none = refl;
    place_none = refl;
    set_kept = refl;
    tick_new = refl;
    delay_new = refl;
    freezes = freezes_so g.set g.start r;
    fires = λ e. let f = fires_true (freeze g.set g.start r) r e in record { begin = f.0; runs = f.1; long_enough = f.2 };
    waits = λ w. fires_at_lem (freeze g.set g.start r) r w.begin w.runs w.long_enough;
    sound =
        none_of_four _ _ _ _ (long_present (some r.tick) o.long)
        (long_present (freeze g.set g.start r) (held_under (some r.tick) (freeze g.set g.start r) (2 ^ 63) (held_after r o) o.long))
        (int_present (some r.delay) o.int) (held_lone (some r.tick) (freeze g.set g.start r) (held_after r o));
  }

  one_report : (m : List ℕ) → OneReport g m
  unfolding told
  one_report m = record {
    accepted = λ r e. subst (Obeys g r) (sym (report_told m ∙ ap (told g) e)) (obeys r (heard_order g.tick m _ (frost_judges g.tick m) r e));
    refused = λ n p e. let q = report_told m ∙ ap (told g) e in (ap (λ (t : Told). t.refusal) q, ap (λ (t : Told). t.place) q);
  }

  -- a state without a fault is never refused by 52
  not_52 : (m : List ℕ) → Bytes m → (report g m).refusal ≡ 52 → ⊥
  unfolding told
  not_52 m y e = go (judged_report g.tick (report_of m)) refl
    where
      go : (x : Heard) → judged_report g.tick (report_of m) ≡ x → ⊥
      go (heard r) w = let z = ((one_report m).accepted r w).refusal_none in omega arith
      go (refuse n p) w = (refused_by g.tick m _ y (frost_judges g.tick m) n p w).other (sym ((one_report m).refused n p w).0 ∙ e)

pub frost_report : FrostReport
frost_report g m s = one_report g s m

pub frost_refuses : FrostRefuses
unfolding report told
frost_refuses g m y n = go (bad_state g) refl
  where
    go : (b : Bool) → bad_state g ≡ b → ReportRefusal m (report g m).refusal (report g m).place
    go true w = rw w of_state
    go false w = by (judged_report g.tick (report_of m)) refl
      where
        by : (x : Heard) → judged_report g.tick (report_of m) ≡ x → ReportRefusal m (report g m).refusal (report g m).place
        by (heard r) e = absurd (n ((one_report g w m).accepted r e).refusal_none)
        by (refuse k p) e =
            let q = (one_report g w m).refused k p e in
            rw (q.0, q.1) (refused_by g.tick m _ y (frost_judges g.tick m) k p e).is

pub frost_state : FrostState
frost_state set ms = rw (guard_start set ms) (keeps (taken [] ms) (taken_turn [] ms none_yet))
  where
    keeps : (h : List Report) → InTurn h → Keeps set h (guard_of set h)
    keeps h t = record {
      set_point = refl;
      last = refl;
      delay = refl;
      running = λ s. (λ e. frozen_began set h s e, λ b. began_frozen set h s b);
      sound = guard_sound set h t;
      taken_on = not_52 (guard_of set h) (guard_sound set h t);
    }

-- ---- states that are given

long_under : (o : Option ℕ) → present (negative 8) o ≡ false → Under (2 ^ 64) o
unfolding present negative
long_under none e = tt
long_under (some n) e = let l = leb-false (2 ^ 63) n e in omega arith

int_under : (o : Option ℕ) → present (negative 4) o ≡ false → Under (2 ^ 32) o
unfolding present negative
int_under none e = tt
int_under (some n) e = let l = leb-false (2 ^ 31) n e in omega arith

bounded_52 : (n : ℕ) (t : Told) → (bounded n t).refusal ≡ 52 → t.refusal ≡ 52
unfolding bounded
bounded_52 n t e = go (eqb t.refusal 0 && ltb n 32) e
  where
    go : (b : Bool) → (pick b (record { refusal = 22; place = 32; fires = false; guard = t.guard }) t).refusal ≡ 52 → t.refusal ≡ 52
    go true h = absurd (omega arith)
    go false h = h

bounded_zero : (n : ℕ) (t : Told) → (bounded n t).refusal ≡ 0 → (t.refusal ≡ 0) × (32 ≤ n)
unfolding bounded
bounded_zero n t e = go (eqb t.refusal 0) refl (ltb n 32) refl e
  where
    go : (a : Bool) → eqb t.refusal 0 ≡ a → (b : Bool) → ltb n 32 ≡ b → (pick (a && b) (record { refusal = 22; place = 32; fires = false; guard = t.guard }) t).refusal ≡ 0
        → (t.refusal ≡ 0) × (32 ≤ n)
    go true p true q h = absurd (omega arith)
    go true p false q h = (eqb-true _ _ p, ltb-false n 32 q)
    go false p b q h = absurd (eqb-false _ _ p h)

sound_bytes : (g : Guard) (lent : List ℕ) → g.set < 2 ^ 16 → bad_state g ≡ false → Sound (take 32 (state_bytes g ++ drop 32 lent))
unfolding reported reported_from
sound_bytes g lent l s =
    let p = parts g s in
    let k = state_kept g l (long_under g.tick p.0) (long_under g.start p.1) (int_under g.delay p.2) in
    subst Sound (sym (take_at (state_bytes g) (drop 32 lent) 32 k.0))
    (record {
      guard = g;
      is = k.1;
      sound = s;
      taken_on = λ m y n e. not_52 g s m y (bounded_52 n (report g m) (sym (ap (λ (o : Option Guard). (reported_from o m n).refusal) k.1) ∙ e));
    })

at_two : (b : List ℕ) → Bytes b → at b 2 0 < 2 ^ 16
unfolding at val
at_two [] y = omega arith
at_two (x ∷ []) y = omega (arith, y.0)
at_two (x ∷ z ∷ l) y = omega (arith, y.0, y.1.0)

abbrev set_or : ℕ → Option Guard → ℕ
set_or n none = n
set_or n (some g) = g.set

state_set : (b : List ℕ) (g : Guard) → state_of b ≡ some g → g.set ≡ at b 2 0
unfolding state_of
state_set b g e = go (no_state b) e
  where
    go : (q : Bool) → pick q none (some (record { set = at b 2 0; tick = marked (at b 1 2) (at b 8 8); start = marked (at b 1 3) (at b 8 16); delay = marked (at b 1 4) (at b 4 24) })) ≡ some g → g.set ≡ at b 2 0
    go true h = absurd (some≢none h refl)
    go false h = ap (set_or 0) (sym h)

-- an accepted report gives a state that 52 does not refuse, with its set point
accepted_sound : (g : Guard) (m : List ℕ) → Bytes m → (report g m).refusal ≡ 0 → (bad_state (report g m).guard ≡ false) × ((report g m).guard.set ≡ g.set)
unfolding report told
accepted_sound g m y e = go (bad_state g) refl
  where
    go : (b : Bool) → bad_state g ≡ b → (bad_state (report g m).guard ≡ false) × ((report g m).guard.set ≡ g.set)
    go true w = absurd (zero_52 (sym e ∙ rw w))
    go false w = by (judged_report g.tick (report_of m)) refl
      where
        by : (x : Heard) → judged_report g.tick (report_of m) ≡ x → (bad_state (report g m).guard ≡ false) × ((report g m).guard.set ≡ g.set)
        by (heard r) q = let o = (one_report g w m).accepted r q in (o.sound, o.set_kept)
        by (refuse k p) q = absurd ((refused_by g.tick m _ y (frost_judges g.tick m) k p q).some_number (sym ((one_report g w m).refused k p q).0 ∙ e))

pub state_given : StateGiven
unfolding started start reported reported_from bad_state present lone_start told
state_given = record {
  by_start = λ set lent l h.
      subst Sound (sym (ap (take 32) (ap (λ (t : Told). stored t lent) (bounded_wide (length lent) (first set) h) ∙ stored_next (first set) lent h refl)))
      (sound_bytes (start set) lent l refl);
  by_report = λ b m lent y z e. go b m lent y z (state_of b) refl e;
}
  where
    first : ℕ → Told
    first set = record { refusal = 0; place = 0; fires = false; guard = start set }

    go : (b m lent : List ℕ) → Bytes b → Bytes m → (o : Option Guard) → state_of b ≡ o → (reported_from o m (length lent)).refusal ≡ 0 → Sound (take 32 (stored (reported_from o m (length lent)) lent))
    go b m lent y z none w e = absurd (zero_52 (sym e))
    go b m lent y z (some g) w e =
        let f = bounded_zero (length lent) (report g m) e in
        let a = accepted_sound g m z f.0 in
        subst Sound (sym (ap (take 32) (ap (λ (t : Told). stored t lent) (bounded_wide (length lent) (report g m) f.1) ∙ stored_next (report g m) lent f.1 f.0)))
        (sound_bytes (report g m).guard lent (omega (arith, a.1, state_set b g w, at_two b y)) a.0)
