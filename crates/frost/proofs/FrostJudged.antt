-- How a message and a state are judged, the founder's story, and the calls on bytes: `frost_judges`, `state_judged`, `founders_story`, `largest_long`, `bytes_report`, `bytes_refused`, `frost_told` of FrostDemands.
-- The idea: each test of a definition gives one case; the story is computed.
-- Assumes nothing.
use Rattle.std.specs.Prelude.{◌≡◌, Bool, ◌||◌, not, List, ◌++◌, ℕ, ◌^◌, ◌≤◌, ◌<◌, length, drop, eqb}
use Rattle.std.proofs.Math.Path.{refl}
use Rattle.std.proofs.Common.{ap, ◌∙◌, arith, eqb-true, leb-true, leb-false, ltb-true, ltb-false, le-leb, lt-ltb, le-ltb, eq-eqb, ne_eqb}
use Rattle.std.proofs.Math.Bool.{true, false}
use Rattle.std.proofs.lemmas.Bool.{false≢true, eqb-false}
use Rattle.std.proofs.Math.Option.{Option, none, some}
use Rattle.std.proofs.Math.Dec.{leb, ltb}
use Rattle.encoding.specs.Result.{first_of}
use Rattle.encoding.proofs.ResultLaws.{some≢none}
use Rattle.encoding.specs.Number.{negative}
use Rattle.encoding.specs.Table.{at}
use Rattle.encoding.specs.Message.{reading}
use Rattle.encoding.specs.Write.{part_of}
use Rattle.encoding.proofs.Cases.{computed}
use Rattle.frost.specs.Frost.{guard_table, raised, at_or_below, millis, Guard, start, present, lone_start, bad_state, Report, heard, member_value, complete, answered, report_of, report_form, judged_report, cold_at, or_now, freeze, fires_at, Told, told, report, state_bytes, bounded, reported_from, reported, stored, state_of, no_state, told_numbers, fires_number}
use Rattle.frost.specs.FrostDemands.{Lower, Fields, Judged, by_reader, incomplete, tick_negative, tick_lower, delay_negative, in_order, FrostJudges, StateFault, negative_tick, negative_start, negative_delay, start_alone, start_later, StateJudged, guard_after, cold_report, early, late, day49, FoundersStory, last_tick, LargestLong, BytesReport, NoState, other_length, tick_mark, start_mark, delay_mark, BytesRefused, FrostTold}
use Rattle.frost.proofs.FrostLaws.{some_same, state_kept}

-- ---- a message

-- a tick is lower than the last one, or not
lower_of : (t : ℕ) (o : Option ℕ) → present (λ s. ltb t s) o ≡ true → Lower t o
unfolding present
lower_of t none e = absurd (false≢true e)
lower_of t (some s) e = record { than = s; there = refl; lower = ltb-true t s e }

not_lower : (t : ℕ) (o : Option ℕ) → present (λ s. ltb t s) o ≡ false → Lower t o → ⊥
unfolding present
not_lower t none e l = some≢none l.there refl
not_lower t (some s) e l = let h = ltb-false t s e in let q = some_same {o = some s} refl l.there in omega (arith, l.lower)

-- all three fields, or 42
module _ (last : Option ℕ) (m : List ℕ) (a : (reading guard_table 3 m 36).refusal ≡ 0) where
  judged_fields : (r : Report) → Fields m r → Judged last m (judged_report last (heard r))
  unfolding judged_report report_form first_of negative
  judged_fields r f = go (leb (2 ^ 63) r.tick) refl (present (λ s. ltb r.tick s) last) refl (leb (2 ^ 31) r.delay) refl
    where
      go : (x : Bool) → leb (2 ^ 63) r.tick ≡ x → (y : Bool) → present (λ s. ltb r.tick s) last ≡ y → (z : Bool) → leb (2 ^ 31) r.delay ≡ z → Judged last m (judged_report last (heard r))
      go true p y q z w = rw p (tick_negative f (leb-true (2 ^ 63) r.tick p))
      go false p true q z w = rw (p, q) (tick_lower f (leb-false (2 ^ 63) r.tick p) (lower_of r.tick last q))
      go false p false q true w = rw (p, q, w) (delay_negative f (leb-false (2 ^ 63) r.tick p) (not_lower r.tick last q) (leb-true (2 ^ 31) r.delay w))
      go false p false q false w = rw (p, q, w) (in_order f (leb-false (2 ^ 63) r.tick p) (not_lower r.tick last q) (leb-false (2 ^ 31) r.delay w))

  judged_complete : (x y z : Option ℕ) → member_value m 0 (reading guard_table 3 m 36).rows ≡ x → member_value m 1 (reading guard_table 3 m 36).rows ≡ y → member_value m 2 (reading guard_table 3 m 36).rows ≡ z
      → Judged last m (judged_report last (complete x y z))
  unfolding complete judged_report
  judged_complete none y z e f g = incomplete a (λ r h. some≢none h.reading_is e)
  judged_complete (some r) none z e f g = incomplete a (λ q h. some≢none h.tick_is f)
  judged_complete (some r) (some t) none e f g = incomplete a (λ q h. some≢none h.delay_is g)
  judged_complete (some r) (some t) (some d) e f g =
      judged_fields (record { reading = r; tick = t; delay = d }) (record { accepted = a; reading_is = e; tick_is = f; delay_is = g })

pub frost_judges : FrostJudges
unfolding report_of answered judged_report
frost_judges last m = go (eqb (reading guard_table 3 m 36).refusal 0) refl
  where
    go : (b : Bool) → eqb (reading guard_table 3 m 36).refusal 0 ≡ b → Judged last m (judged_report last (report_of m))
    go true w = rw w (judged_complete last m (eqb-true _ _ w) _ _ _ refl refl refl)
    go false w = rw w (by_reader (eqb-false _ _ w))

-- ---- a state

-- a number that is there passes a test
present_at : (f : ℕ → Bool) (o : Option ℕ) (n : ℕ) → o ≡ some n → f n ≡ true → present f o ≡ true
unfolding present
present_at f o n e h = rw e h

lone_later : (t s : Option ℕ) (x y : ℕ) → s ≡ some y → t ≡ some x → x < y → lone_start t s ≡ true
unfolding lone_start
lone_later t s x y e f l = rw (e, f) (lt-ltb x y l)

lone_none : (t s : Option ℕ) (y : ℕ) → s ≡ some y → t ≡ none → lone_start t s ≡ true
unfolding lone_start
lone_none t s y e f = rw (e, f)

or_left : (a b : Bool) → a ≡ true → a || b ≡ true
or_left a b e = rw e

or_right : (a b : Bool) → b ≡ true → a || b ≡ true
or_right true b e = refl
or_right false b e = e

bad_of : (g : Guard) → StateFault g → bad_state g ≡ true
unfolding bad_state negative
bad_of g (negative_tick {t = t} e h) = or_left _ _ (present_at (negative 8) g.tick t e (le-leb (2 ^ 63) t h))
bad_of g (negative_start {s = s} e h) = or_right (present (negative 8) g.tick) _ (or_left _ _ (present_at (negative 8) g.start s e (le-leb (2 ^ 63) s h)))
bad_of g (negative_delay {d = d} e h) = or_right (present (negative 8) g.tick) _ (or_right (present (negative 8) g.start) _ (or_left _ _ (present_at (negative 4) g.delay d e (le-leb (2 ^ 31) d h))))
bad_of g (start_alone {s = s} e h) = or_right (present (negative 8) g.tick) _ (or_right (present (negative 8) g.start) _ (or_right (present (negative 4) g.delay) _ (lone_none g.tick g.start s e h)))
bad_of g (start_later {t = t} {s = s} e f h) = or_right (present (negative 8) g.tick) _ (or_right (present (negative 8) g.start) _ (or_right (present (negative 4) g.delay) _ (lone_later g.tick g.start t s e f h)))

fault_long : (o : Option ℕ) → present (negative 8) o ≡ true → (n : ℕ) × (o ≡ some n) × (2 ^ 63 ≤ n)
unfolding present negative
fault_long none e = absurd (false≢true e)
fault_long (some n) e = (n, refl, leb-true (2 ^ 63) n e)

fault_int : (o : Option ℕ) → present (negative 4) o ≡ true → (n : ℕ) × (o ≡ some n) × (2 ^ 31 ≤ n)
unfolding present negative
fault_int none e = absurd (false≢true e)
fault_int (some n) e = (n, refl, leb-true (2 ^ 31) n e)

fault_lone : (g : Guard) (t s : Option ℕ) → g.tick ≡ t → g.start ≡ s → lone_start t s ≡ true → StateFault g
unfolding lone_start
fault_lone g t none p q e = absurd (false≢true e)
fault_lone g none (some s) p q e = start_alone q p
fault_lone g (some t) (some s) p q e = start_later q p (ltb-true t s e)

fault_of : (g : Guard) → bad_state g ≡ true → StateFault g
unfolding bad_state
fault_of g e = go (present (negative 8) g.tick) refl (present (negative 8) g.start) refl (present (negative 4) g.delay) refl e
  where
    go : (a : Bool) → present (negative 8) g.tick ≡ a → (b : Bool) → present (negative 8) g.start ≡ b → (c : Bool) → present (negative 4) g.delay ≡ c
        → a || (b || (c || lone_start g.tick g.start)) ≡ true → StateFault g
    go true p b q c r e = let f = fault_long g.tick p in negative_tick f.1 f.2
    go false p true q c r e = let f = fault_long g.start q in negative_start f.1 f.2
    go false p false q true r e = let f = fault_int g.delay r in negative_delay f.1 f.2
    go false p false q false r e = fault_lone g g.tick g.start refl refl e

pub state_judged : StateJudged
unfolding report told
state_judged g m = record {
  bad = λ f. let e = bad_of g f in (rw e, rw e);
  good = λ n. go (bad_state g) refl n;
}
  where
    go : (b : Bool) → bad_state g ≡ b → (StateFault g → ⊥) → bad_state g ≡ false
    go true w n = absurd (n (fault_of g w))
    go false w n = w

-- ---- day 49

pub founders_story : FoundersStory
unfolding computed part_of guard_table raised at_or_below millis start present lone_start bad_state member_value complete answered report_of report_form judged_report cold_at or_now freeze fires_at told report guard_after cold_report early late day49
founders_story = record { begins = refl; waits_on = refl; fires_on_time = refl }

pub largest_long : LargestLong
unfolding computed part_of guard_table raised at_or_below millis present lone_start bad_state member_value complete answered report_of report_form judged_report cold_at or_now freeze fires_at told report last_tick
largest_long = record { fires = refl; waits = refl }

-- ---- bytes

pub bounded_wide : (n : ℕ) (t : Told) → 32 ≤ n → bounded n t ≡ t
unfolding bounded
bounded_wide n t h = go (eqb t.refusal 0) refl
  where
    go : (b : Bool) → eqb t.refusal 0 ≡ b → bounded n t ≡ t
    go true w = rw (w, le-ltb n 32 h)
    go false w = rw w

bounded_short : (n : ℕ) (t : Told) → n < 32 → t.refusal ≡ 0 → ((bounded n t).refusal ≡ 22) × ((bounded n t).place ≡ 32)
unfolding bounded
bounded_short n t h e = let z = eq-eqb t.refusal 0 e in (rw (z, lt-ltb n 32 h), rw (z, lt-ltb n 32 h))

pub stored_next : (t : Told) (lent : List ℕ) → 32 ≤ length lent → t.refusal ≡ 0 → stored t lent ≡ state_bytes t.guard ++ drop 32 lent
unfolding stored
stored_next t lent h e = rw (eq-eqb t.refusal 0 e, le-leb 32 (length lent) h)

stored_kept : (t : Told) (lent : List ℕ) → (t.refusal ≡ 0 → ⊥) → stored t lent ≡ lent
unfolding stored
stored_kept t lent n = rw (ne_eqb t.refusal 0 n)

pub bytes_report : BytesReport
unfolding reported reported_from
bytes_report g m lent s a b c = record {
  answers = λ h. from ∙ bounded_wide (length lent) (report g m) h;
  short = λ h e. let z = bounded_short (length lent) (report g m) h e in (ap (λ (t : Told). t.refusal) from ∙ z.0, ap (λ (t : Told). t.place) from ∙ z.1);
  next = λ h e. let w = from ∙ bounded_wide (length lent) (report g m) h in ap (λ (t : Told). stored t lent) w ∙ stored_next (report g m) lent h e;
  stays = λ n. stored_kept (reported (state_bytes g) m (length lent)) lent n;
}
  where
    from : reported (state_bytes g) m (length lent) ≡ bounded (length lent) (report g m)
    from = ap (λ (o : Option Guard). reported_from o m (length lent)) (state_kept g s a b c).1

no_state_lem : (b : List ℕ) → NoState b → no_state b ≡ true
unfolding no_state
no_state_lem b (other_length h) = rw (ne_eqb (length b) 32 h)
no_state_lem b (tick_mark h) = or_right (not (eqb (length b) 32)) _ (or_left _ _ (lt-ltb 1 (at b 1 2) h))
no_state_lem b (start_mark h) = or_right (not (eqb (length b) 32)) _ (or_right (ltb 1 (at b 1 2)) _ (or_left _ _ (lt-ltb 1 (at b 1 3) h)))
no_state_lem b (delay_mark h) = or_right (not (eqb (length b) 32)) _ (or_right (ltb 1 (at b 1 2)) _ (or_right (ltb 1 (at b 1 3)) _ (lt-ltb 1 (at b 1 4) h)))

pub bytes_refused : BytesRefused
unfolding reported reported_from state_of told
bytes_refused b m n h = let e = no_state_lem b h in (rw e, rw e)

pub frost_told : FrostTold
unfolding told_numbers fires_number
frost_told t = record { refusal_is = refl; place_is = refl; one = λ e. rw e; zero = λ e. rw e }
