-- The frost guard answers as the rule by history says: `frost_history`, `frost_refused`, `frost_numbers`, `signed_order`, `state_kept` of FrostDemands.
-- The idea: after the history h the guard is `guard_of set h`, whose start is `frozen set h`; this is the start that `Began` describes.
-- Assumes nothing.
use Rattle.std.specs.Prelude.{◌≡◌, refl, Bool, true, false, ◌||◌, List, [], ◌∷◌, ◌++◌, ℕ, ◌+◌, ◌*◌, ◌%◌, ◌^◌, ◌≤◌, ◌<◌, eqb, ltb}
use Rattle.std.proofs.Common.{sym, ap, ◌∙◌, true≢false, arith, eqb-true, leb-true, leb-false, ltb-false, le-leb, le-ltb}
use Rattle.std.proofs.lemmas.Bool.{false≢true, lt-leb}
use Rattle.std.proofs.Math.Option.{Option, none, some}
use Rattle.encoding.specs.Result.{pick}
use Rattle.encoding.proofs.ResultLaws.{some≢none, first_of_ok}
use Rattle.encoding.specs.Number.{negative, val, le_bytes}
use Rattle.encoding.proofs.NumberLaws.{val_le_bytes}
use Rattle.encoding.specs.Table.{at}
use Rattle.frost.specs.Frost.{mark_of, or_none, marked, no_state, state_bytes, state_of, raised, at_or_below, millis, Guard, start, present, lone_start, bad_state, Report, Heard, refuse, heard, report_of, report_form, judged_report, cold_at, or_now, freeze, fires_at, Told, told, report}
use Rattle.frost.specs.FrostDemands.{latest_tick, latest_delay, judged_after, remember, taken, AllCold, no_more, one_more, Warm, nothing_yet, ended, Began, Fires, Answers, refused, fires, waits, guard_after, FrostHistory, FrostRefused, NotAfter, InTurn, none_yet, one_later, FrostNumbers, Under, SignedOrder, StateKept}

-- ---- the start of the freeze, computed from a history

unfoldable pub frozen : ℕ → List Report → Option ℕ
frozen set [] = none
frozen set (r ∷ h) = freeze set (frozen set h) r

pub heard≢refuse : {x : Heard} {r : Report} {n p : ℕ} → x ≡ heard r → x ≡ refuse n p → ⊥
heard≢refuse e h = let z : ◌≡◌ {A = ℕ} 0 1 = cc in omega arith

pub some_same : {o : Option ℕ} {a b : ℕ} → o ≡ some a → o ≡ some b → a ≡ b
some_same e h = cc

-- a cold report goes on with the freeze or starts it; a warm one ends it
pub freeze_cold : (set : ℕ) (o : Option ℕ) (r : Report) → cold_at set r ≡ true → freeze set o r ≡ some (or_now r.tick o)
unfolding freeze
freeze_cold set o r e = rw e

pub freeze_warm : (set : ℕ) (o : Option ℕ) (r : Report) → cold_at set r ≡ false → freeze set o r ≡ none
unfolding freeze
freeze_warm set o r e = rw e

frozen_warm : (set : ℕ) (h : List Report) → frozen set h ≡ none → Warm set h
unfolding frozen
frozen_warm set [] e = nothing_yet
frozen_warm set (r ∷ h) e = go (cold_at set r) refl
  where
    go : (b : Bool) → cold_at set r ≡ b → Warm set (r ∷ h)
    go true c = absurd (some≢none (freeze_cold set (frozen set h) r c) e)
    go false c = ended c

warm_frozen : (set : ℕ) (h : List Report) → Warm set h → frozen set h ≡ none
unfolding frozen
warm_frozen set h nothing_yet = refl
warm_frozen set h (ended {r = r} {h = l} c) = freeze_warm set (frozen set l) r c

pub frozen_began : (set : ℕ) (h : List Report) (s : ℕ) → frozen set h ≡ some s → Began set h s
unfolding frozen or_now
frozen_began set [] s e = absurd (some≢none e refl)
frozen_began set (r ∷ h) s e = go (cold_at set r) refl (frozen set h) refl (λ q w. frozen_began set h q w)
  where
    longer : (q : ℕ) → cold_at set r ≡ true → q ≡ s → Began set h q → Began set (r ∷ h) s
    longer q c same b = record {
      since = r ∷ b.since;
      first = b.first;
      older = b.older;
      whole = ap (λ (l : List Report). r ∷ l) b.whole;
      cold = one_more c b.cold;
      cold_first = b.cold_first;
      before = b.before;
      at = b.at ∙ same;
    }

    go : (b : Bool) → cold_at set r ≡ b → (o : Option ℕ) → frozen set h ≡ o → ((q : ℕ) → frozen set h ≡ some q → Began set h q) → Began set (r ∷ h) s
    go false c o w ih = absurd (some≢none e (freeze_warm set (frozen set h) r c))
    go true c none w ih =
        record {
          since = [];
          first = r;
          older = h;
          whole = refl;
          cold = no_more;
          cold_first = c;
          before = frozen_warm set h w;
          at = some_same (freeze_cold set (frozen set h) r c ∙ ap (λ (o : Option ℕ). some (or_now r.tick o)) w) e;
        }
    go true c (some q) w ih =
        longer q c (some_same (freeze_cold set (frozen set h) r c ∙ ap (λ (o : Option ℕ). some (or_now r.tick o)) w) e) (ih q w)

began_parts : (set s : ℕ) (since older : List Report) (first : Report) → AllCold set since → cold_at set first ≡ true → Warm set older → first.tick ≡ s
    → frozen set (since ++ (first ∷ older)) ≡ some s
unfolding frozen or_now
began_parts set s [] older first no_more c w e =
    freeze_cold set (frozen set older) first c ∙ ap (λ (o : Option ℕ). some (or_now first.tick o)) (warm_frozen set older w) ∙ ap some e
began_parts set s (r ∷ since) older first (one_more a as') c w e =
    freeze_cold set (frozen set (since ++ (first ∷ older))) r a ∙ ap (λ (o : Option ℕ). some (or_now r.tick o)) (began_parts set s since older first as' c w e)

pub began_frozen : (set : ℕ) (h : List Report) (s : ℕ) → Began set h s → frozen set h ≡ some s
began_frozen set h s b = ap (frozen set) b.whole ∙ began_parts set s b.since b.older b.first b.cold b.cold_first b.before b.at

-- ---- the guard of a history

abbrev pub guard_of : ℕ → List Report → Guard
guard_of set h = record { set = set; tick = latest_tick h; start = frozen set h; delay = latest_delay h }

-- a start, if there is one, has a tick at or after it
abbrev pub Held : Option ℕ → Option ℕ → Type 0
Held t none = Unit {0}
Held none (some s) = ⊥
Held (some t) (some s) = s ≤ t

pub held_step : (t₀ s₀ : Option ℕ) (t : ℕ) → Held t₀ s₀ → NotAfter t₀ t → or_now t s₀ ≤ t
unfolding or_now
held_step t₀ none t k n = omega arith
held_step none (some s) t k n = absurd k
held_step (some u) (some s) t k n = omega arith

pub held_under : (t s : Option ℕ) (k : ℕ) → Held t s → Under k t → Under k s
held_under t none k w u = tt
held_under none (some s) k w u = absurd w
held_under (some t) (some s) k w u = omega arith

pub held_lone : (t s : Option ℕ) → Held t s → lone_start t s ≡ false
unfolding lone_start
held_lone t none w = refl
held_lone none (some s) w = absurd w
held_lone (some t) (some s) w = le-ltb t s w

frozen_held : (set : ℕ) (h : List Report) → InTurn h → Held (latest_tick h) (frozen set h)
unfolding frozen latest_tick
frozen_held set h none_yet = tt
frozen_held set h (one_later {r = r} {h = l} a b n t) = go (cold_at set r) refl (frozen_held set l t)
  where
    go : (c : Bool) → cold_at set r ≡ c → Held (latest_tick l) (frozen set l) → Held (some r.tick) (freeze set (frozen set l) r)
    go true c k = rw (freeze_cold set (frozen set l) r c) (held_step (latest_tick l) (frozen set l) r.tick k n)
    go false c k = rw (freeze_warm set (frozen set l) r c) tt

tick_under : (h : List Report) → InTurn h → Under (2 ^ 63) (latest_tick h)
unfolding latest_tick
tick_under h none_yet = tt
tick_under h (one_later a b n t) = a

delay_under : (h : List Report) → InTurn h → Under (2 ^ 31) (latest_delay h)
unfolding latest_delay
delay_under h none_yet = tt
delay_under h (one_later a b n t) = b

pub long_present : (o : Option ℕ) → Under (2 ^ 63) o → present (negative 8) o ≡ false
unfolding present negative
long_present none u = refl
long_present (some n) u = lt-leb (2 ^ 63) n u

pub int_present : (o : Option ℕ) → Under (2 ^ 31) o → present (negative 4) o ≡ false
unfolding present negative
int_present none u = refl
int_present (some n) u = lt-leb (2 ^ 31) n u

pub none_of_four : (a b c d : Bool) → a ≡ false → b ≡ false → c ≡ false → d ≡ false → a || (b || (c || d)) ≡ false
none_of_four a b c d p q r s = rw (p, q, r, s)

-- 52 does not refuse it
pub guard_sound : (set : ℕ) (h : List Report) → InTurn h → bad_state (guard_of set h) ≡ false
unfolding bad_state
guard_sound set h t =
    none_of_four _ _ _ _ (long_present (latest_tick h) (tick_under h t))
    (long_present (frozen set h) (held_under (latest_tick h) (frozen set h) (2 ^ 63) (frozen_held set h t) (tick_under h t)))
    (int_present (latest_delay h) (delay_under h t)) (held_lone (latest_tick h) (frozen set h) (frozen_held set h t))

-- ---- one report

report_after : (set : ℕ) (h : List Report) (m : List ℕ) → InTurn h → report (guard_of set h) m ≡ told (guard_of set h) (judged_after h m)
unfolding report
report_after set h m t = rw (guard_sound set h t)

judged_heard : (last : Option ℕ) (x : Heard) (r : Report) → judged_report last x ≡ heard r → report_form last r ≡ 0
unfolding judged_report
judged_heard last (refuse n p) r e = absurd (heard≢refuse e refl)
judged_heard last (heard q) r e = go (eqb (report_form last q) 0) refl e
  where
    heard_same : {x : Heard} {a b : Report} → x ≡ heard a → x ≡ heard b → a ≡ b
    heard_same u v = cc

    go : (b : Bool) → eqb (report_form last q) 0 ≡ b → pick b (heard q) (refuse (report_form last q) 0) ≡ heard r → report_form last r ≡ 0
    go true t w = ap (report_form last) (sym (heard_same {x = heard q} refl w)) ∙ eqb-true (report_form last q) 0 t
    go false t w = absurd (heard≢refuse w refl)

not_after : (last : Option ℕ) (t : ℕ) → present (λ s. ltb t s) last ≡ false → NotAfter last t
unfolding present
not_after none t e = tt
not_after (some s) t e = ltb-false t s e

heard_turn : (h : List Report) (r : Report) → report_form (latest_tick h) r ≡ 0 → InTurn h → InTurn (r ∷ h)
unfolding report_form negative
heard_turn h r e t =
    let a = first_of_ok 39 _ _ e in
    let b = first_of_ok 39 _ _ a.1 in
    let c = first_of_ok 40 _ _ b.1 in
    one_later (leb-false (2 ^ 63) r.tick a.0) (leb-false (2 ^ 31) r.delay c.0) (not_after (latest_tick h) r.tick b.0) t

remember_turn : (h : List Report) (m : List ℕ) → InTurn h → InTurn (remember h (judged_after h m))
unfolding remember
remember_turn h m t = go (judged_after h m) refl
  where
    go : (x : Heard) → judged_after h m ≡ x → InTurn (remember h x)
    go (refuse n p) e = t
    go (heard r) e = heard_turn h r (judged_heard (latest_tick h) (report_of m) r e) t

told_guard : (set : ℕ) (h : List Report) (x : Heard) → (told (guard_of set h) x).guard ≡ guard_of set (remember h x)
unfolding told remember frozen latest_tick latest_delay
told_guard set h (refuse n p) = refl
told_guard set h (heard r) = refl

-- ---- sequences

pub taken_turn : (h : List Report) (ms : List (List ℕ)) → InTurn h → InTurn (taken h ms)
unfolding taken
taken_turn h [] t = t
taken_turn h (m ∷ ms) t = taken_turn (remember h (judged_after h m)) ms (remember_turn h m t)

guard_after_lem : (set : ℕ) (h : List Report) (ms : List (List ℕ)) → InTurn h → guard_after (guard_of set h) ms ≡ guard_of set (taken h ms)
unfolding taken guard_after
guard_after_lem set h [] t = refl
guard_after_lem set h (m ∷ ms) t =
    ap (λ (g : Guard). guard_after g ms) (ap (λ (a : Told). a.guard) (report_after set h m t) ∙ told_guard set h (judged_after h m))
    ∙ guard_after_lem set (remember h (judged_after h m)) ms (remember_turn h m t)

pub guard_start : (set : ℕ) (ms : List (List ℕ)) → guard_after (start set) ms ≡ guard_of set (taken [] ms)
unfolding start frozen latest_tick latest_delay
guard_start set ms = guard_after_lem set [] ms none_yet

-- ---- the answer

pub fires_true : (o : Option ℕ) (r : Report) → fires_at o r ≡ true → (s : ℕ) × (o ≡ some s) × (s + 1000 * r.delay ≤ r.tick)
unfolding fires_at present millis
fires_true none r e = absurd (false≢true e)
fires_true (some s) r e = (s, refl, leb-true (s + 1000 * r.delay) r.tick e)

pub fires_at_lem : (o : Option ℕ) (r : Report) (s : ℕ) → o ≡ some s → s + 1000 * r.delay ≤ r.tick → fires_at o r ≡ true
unfolding fires_at present millis
fires_at_lem o r s e w = rw e (le-leb (s + 1000 * r.delay) r.tick w)

answers : (set : ℕ) (h : List Report) (m : List ℕ) (x : Heard) → judged_after h m ≡ x → Answers set h m (told (guard_of set h) x)
unfolding told freeze frozen
answers set h m (refuse n p) e = refused e refl refl refl
answers set h m (heard r) e = go (fires_at (freeze set (frozen set h) r) r) refl
  where
    go : (b : Bool) → fires_at (freeze set (frozen set h) r) r ≡ b → Answers set h m (told (guard_of set h) (heard r))
    go true w =
        let f = fires_true (freeze set (frozen set h) r) r w in
        fires e refl refl w (record { begin = f.0; began = frozen_began set (r ∷ h) f.0 f.1; waited = f.2 })
    go false w =
        waits e refl refl w (λ (f : Fires set r h). true≢false (sym (fires_at_lem (freeze set (frozen set h) r) r f.begin (began_frozen set (r ∷ h) f.begin f.began) f.waited) ∙ w))

-- ---- the promises

pub frost_history : FrostHistory
frost_history set ms m =
    rw (guard_start set ms, report_after set (taken [] ms) m (taken_turn [] ms none_yet))
    (answers set (taken [] ms) m (judged_after (taken [] ms) m) refl)

pub frost_numbers : FrostNumbers
frost_numbers ms = taken_turn [] ms none_yet

told_refused : (g : Guard) (x : Heard) → ((told g x).refusal ≡ 0 → ⊥) → ((told g x).guard ≡ g) × ((told g x).fires ≡ false)
unfolding told
told_refused g (refuse n p) e = (refl, refl)
told_refused g (heard r) e = absurd (e refl)

pub frost_refused : FrostRefused
unfolding report
frost_refused g m e = told_refused g _ e

-- ---- the order of readings

pub signed_order : SignedOrder
unfolding cold_at at_or_below raised
signed_order set r l m = record {
  both_positive = λ p q. (λ e. down r.reading set p q (leb-true _ _ e), λ h. le-leb _ _ (down_back r.reading set p q h));
  both_negative = λ p q. (λ e. up r.reading set p q m l (leb-true _ _ e), λ h. le-leb _ _ (up_back r.reading set p q m l h));
  reading_negative = λ p q. le-leb _ _ (low r.reading set p q m);
  set_negative = λ p q. lt-leb _ _ (high r.reading set p q l);
}
  where
    low : (x y : ℕ) → 32768 ≤ x → y < 32768 → x < 65536 → (x + 32768) % 65536 ≤ (y + 32768) % 65536
    low x y p q l = omega arith

    high : (x y : ℕ) → x < 32768 → 32768 ≤ y → y < 65536 → (y + 32768) % 65536 < (x + 32768) % 65536
    high x y p q m = omega arith

    up : (x y : ℕ) → 32768 ≤ x → 32768 ≤ y → x < 65536 → y < 65536 → (x + 32768) % 65536 ≤ (y + 32768) % 65536 → x ≤ y
    up x y p q l m h = omega arith

    up_back : (x y : ℕ) → 32768 ≤ x → 32768 ≤ y → x < 65536 → y < 65536 → x ≤ y → (x + 32768) % 65536 ≤ (y + 32768) % 65536
    up_back x y p q l m h = omega arith

    down : (x y : ℕ) → x < 32768 → y < 32768 → (x + 32768) % 65536 ≤ (y + 32768) % 65536 → x ≤ y
    down x y p q h = omega arith

    down_back : (x y : ℕ) → x < 32768 → y < 32768 → x ≤ y → (x + 32768) % 65536 ≤ (y + 32768) % 65536
    down_back x y p q h = omega arith

-- ---- the state as bytes

mark_most : (o : Option ℕ) → ltb 1 (mark_of o + 256 * 0) ≡ false
unfolding mark_of
mark_most none = refl
mark_most (some n) = refl

long_back : (o : Option ℕ) → Under (2 ^ 64) o → marked (mark_of o + 256 * 0) (val (le_bytes 8 (or_none o))) ≡ o
unfolding mark_of marked or_none
long_back none u = refl
long_back (some n) u = ap some (val_le_bytes 8 n (omega arith))

int_back : (o : Option ℕ) → Under (2 ^ 32) o → marked (mark_of o + 256 * 0) (val (le_bytes 4 (or_none o))) ≡ o
unfolding mark_of marked or_none
int_back none u = refl
int_back (some n) u = ap some (val_le_bytes 4 n (omega arith))

pub state_kept : StateKept
unfolding state_bytes le_bytes state_of no_state at val
state_kept g s a b c = (
  refl,
  rw (mark_most g.tick, mark_most g.start, mark_most g.delay)
      (ap some (same (val_le_bytes 2 g.set (omega (arith, s))) (long_back g.tick a) (long_back g.start b) (int_back g.delay c))),
)
  where
    same : {x : ℕ} {t u d : Option ℕ} → x ≡ g.set → t ≡ g.tick → u ≡ g.start → d ≡ g.delay → ◌≡◌ {A = Guard} (record { set = x; tick = t; start = u; delay = d }) g
    same e f h k = rw (e, f, h, k)
