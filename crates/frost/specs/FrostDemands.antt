-- What is promised of the frost guard, each promise in full, to be read without its proof. `FrostPromises` names the proof of each.
-- The rule is stated by history: by the accepted reports, the latest first, without any state.
--
--   FrostTable        the table is P2's of document 01, and breaks no rule
--   FrostJudges       how a message is judged: the reader's own refusals, 42, 40, 41, or a report
--   StateJudged       what 52 means
--   FrostReport       one report, from any state that 52 does not refuse: what is kept after it, and whether the timer fires
--   FrostRefuses      the refusals of a report: those of the reader but 19, and 40, 41, 42, 52 at 0
--   taken h ms        the history h after the messages ms: the accepted reports, the latest first
--   Began set h s     a freeze runs after the reports h, and began at the tick s: the earliest of the cold reports since the last warm one
--   Fires set r h     the timer fires with the report r after the history h
--   Answers           what the rule says of a message after a history
--   FrostHistory      any sequence of messages from the start is answered as this rule says
--   FrostState        what the guard keeps is what the history says; the next report is not refused by 52
--   FrostRefused      a refused report leaves the state
--   FrostNumbers      ticks and delays of accepted reports are not negative, and ticks never fall
--   FoundersStory     day 49, with its numbers: a freeze before 2^32 milliseconds, and the report at 2^32
--   LargestLong       the timer fires at the largest long, where the delay is the largest int
--   StateKept         the state is read back from its 32 bytes
--   BytesReport       the calls on 32 bytes answer as those on the state
--   BytesRefused      bytes of another length or with another mark are refused by 52
--   FrostTold         the numbers of the calls are those of the answer
--   StateGiven        32 bytes that a start or an accepted report gives are never refused by 52
--   SignedOrder       a reading is cold exactly if it is at most the set point, as signed shorts
use Rattle.std.specs.Prelude.{◌≡◌, true, false, List, [], ◌∷◌, ◌++◌, ℕ, ◌+◌, ◌*◌, ◌^◌, ◌≤◌, ◌<◌, length, take, drop, get_or}
use Rattle.std.proofs.Math.Option.{Option, none, some}
use Rattle.encoding.specs.Number.{Bytes}
use Rattle.encoding.specs.Table.{at, faults, fine}
use Rattle.encoding.proofs.Cases.{table2}
use Rattle.encoding.specs.Message.{reading}
use Rattle.laws.specs.Demands.{Refusal}
use Rattle.frost.specs.Frost.{guard_table, Guard, start, bad_state, Report, Heard, refuse, heard, member_value, report_of, judged_report, cold_at, Told, report, state_bytes, state_of, started, reported, stored, told_numbers}

-- ---- the table, and what is judged

-- the table is fixed, so both are computed once
pub record FrostTable : Type 0 where
  pub is_p2 : guard_table ≡ table2
  pub sound : faults guard_table ≡ fine

-- t is lower than the number that is there
pub record Lower (t : ℕ) (o : Option ℕ) : Type 0 where
  pub than : ℕ
  pub there : o ≡ some than
  pub lower : t < than

-- the message is accepted, and reading, tick and delay are the values of its members 0, 1 and 2
pub record Fields (m : List ℕ) (r : Report) : Type 0 where
  pub accepted : (reading guard_table 3 m 36).refusal ≡ 0
  pub reading_is : member_value m 0 (reading guard_table 3 m 36).rows ≡ some r.reading
  pub tick_is : member_value m 1 (reading guard_table 3 m 36).rows ≡ some r.tick
  pub delay_is : member_value m 2 (reading guard_table 3 m 36).rows ≡ some r.delay

-- how a message is judged after the last tick, in this order
pub data Judged (last : Option ℕ) (m : List ℕ) : Heard → Type 0 where
  by_reader : ((reading guard_table 3 m 36).refusal ≡ 0 → ⊥) → Judged last m (refuse (reading guard_table 3 m 36).refusal (reading guard_table 3 m 36).place)
  incomplete : (reading guard_table 3 m 36).refusal ≡ 0 → ((r : Report) → Fields m r → ⊥) → Judged last m (refuse 42 0)
  tick_negative : {r : Report} → Fields m r → 2 ^ 63 ≤ r.tick → Judged last m (refuse 40 0)
  tick_lower : {r : Report} → Fields m r → r.tick < 2 ^ 63 → Lower r.tick last → Judged last m (refuse 40 0)
  delay_negative : {r : Report} → Fields m r → r.tick < 2 ^ 63 → (Lower r.tick last → ⊥) → 2 ^ 31 ≤ r.delay → Judged last m (refuse 41 0)
  in_order : {r : Report} → Fields m r → r.tick < 2 ^ 63 → (Lower r.tick last → ⊥) → r.delay < 2 ^ 31 → Judged last m (heard r)

-- Rules out a missing delay that is taken from the state, an equal tick that is refused, and another order of the refusals.
abbrev pub FrostJudges : Type 0
FrostJudges = (last : Option ℕ) (m : List ℕ) → Judged last m (judged_report last (report_of m))

-- what is wrong with a state
pub data StateFault (g : Guard) : Type 0 where
  negative_tick : {t : ℕ} → g.tick ≡ some t → 2 ^ 63 ≤ t → StateFault g
  negative_start : {s : ℕ} → g.start ≡ some s → 2 ^ 63 ≤ s → StateFault g
  negative_delay : {d : ℕ} → g.delay ≡ some d → 2 ^ 31 ≤ d → StateFault g
  start_alone : {s : ℕ} → g.start ≡ some s → g.tick ≡ none → StateFault g
  start_later : {t s : ℕ} → g.start ≡ some s → g.tick ≡ some t → t < s → StateFault g

-- 52 comes before every other refusal, and exactly for a state with a fault
pub record Stated (g : Guard) (m : List ℕ) : Type 0 where
  pub bad : StateFault g → ((report g m).refusal ≡ 52) × ((report g m).place ≡ 0)
  pub good : (StateFault g → ⊥) → bad_state g ≡ false

abbrev pub StateJudged : Type 0
StateJudged = (g : Guard) (m : List ℕ) → Stated g m

-- ---- one report

-- a freeze runs, and the report's tick minus the start is at least a thousand times the report's delay
pub record Waited (running : Option ℕ) (r : Report) : Type 0 where
  pub begin : ℕ
  pub runs : running ≡ some begin
  pub long_enough : begin + 1000 * r.delay ≤ r.tick

-- the start of the freeze after a report: a cold one goes on with the freeze that runs, or begins one at its tick; a warm one ends it
pub data Freezes (set : ℕ) (before : Option ℕ) (r : Report) : Option ℕ → Type 0 where
  goes_on : {s : ℕ} → cold_at set r ≡ true → before ≡ some s → Freezes set before r (some s)
  begins : cold_at set r ≡ true → before ≡ none → Freezes set before r (some r.tick)
  thaws : cold_at set r ≡ false → Freezes set before r none

-- what an accepted report does
pub record Obeys (g : Guard) (r : Report) (t : Told) : Type 0 where
  pub refusal_none : t.refusal ≡ 0
  pub place_none : t.place ≡ 0
  pub set_kept : t.guard.set ≡ g.set
  pub tick_new : t.guard.tick ≡ some r.tick
  pub delay_new : t.guard.delay ≡ some r.delay
  pub freezes : Freezes g.set g.start r t.guard.start
  pub fires : t.fires ≡ true → Waited t.guard.start r
  pub waits : Waited t.guard.start r → t.fires ≡ true
  pub sound : bad_state t.guard ≡ false

pub record OneReport (g : Guard) (m : List ℕ) : Type 0 where
  pub accepted : (r : Report) → judged_report g.tick (report_of m) ≡ heard r → Obeys g r (report g m)
  pub refused : (n p : ℕ) → judged_report g.tick (report_of m) ≡ refuse n p → ((report g m).refusal ≡ n) × ((report g m).place ≡ p)

-- Rules out a delay that is taken from the state, and a start that moves with each cold report.
abbrev pub FrostReport : Type 0
FrostReport = (g : Guard) (m : List ℕ) → bad_state g ≡ false → OneReport g m

-- the refusals of a report
pub data ReportRefusal (m : List ℕ) : ℕ → ℕ → Type 0 where
  of_reader : {n p : ℕ} → Refusal guard_table 3 m n p → ReportRefusal m n p
  of_tick : ReportRefusal m 40 0
  of_delay : ReportRefusal m 41 0
  of_field : ReportRefusal m 42 0
  of_state : ReportRefusal m 52 0

abbrev pub FrostRefuses : Type 0
FrostRefuses = (g : Guard) (m : List ℕ) → Bytes m → ((report g m).refusal ≡ 0 → ⊥) → ReportRefusal m (report g m).refusal (report g m).place

-- ---- the rule, by history

-- the tick of the latest report
unfoldable pub latest_tick : List Report → Option ℕ
latest_tick [] = none
latest_tick (r ∷ h) = some r.tick

unfoldable pub latest_delay : List Report → Option ℕ
latest_delay [] = none
latest_delay (r ∷ h) = some r.delay

-- a message after a history: the reader's own refusals, 42, 40 against the latest report's tick, 41; or a report
abbrev pub judged_after : List Report → List ℕ → Heard
judged_after h m = judged_report (latest_tick h) (report_of m)

-- the history after one more message: an accepted report is put first, a refused one leaves it as it is
unfoldable pub remember : List Report → Heard → List Report
remember h (refuse n p) = h
remember h (heard r) = r ∷ h

-- the accepted reports of messages after a history
unfoldable pub taken : List Report → List (List ℕ) → List Report
taken h [] = h
taken h (m ∷ ms) = taken (remember h (judged_after h m)) ms

-- every report is cold
pub data AllCold (set : ℕ) : List Report → Type 0 where
  no_more : AllCold set []
  one_more : {r : Report} {h : List Report} → cold_at set r ≡ true → AllCold set h → AllCold set (r ∷ h)

-- there is no report, or the latest is warm
pub data Warm (set : ℕ) : List Report → Type 0 where
  nothing_yet : Warm set []
  ended : {r : Report} {h : List Report} → cold_at set r ≡ false → Warm set (r ∷ h)

-- a freeze runs after a history and began at s: the history is cold reports back to one whose tick is s, and the report before that is warm, if there is one
pub record Began (set : ℕ) (h : List Report) (s : ℕ) : Type 0 where
  pub since : List Report
  pub first : Report
  pub older : List Report
  pub whole : h ≡ since ++ (first ∷ older)
  pub cold : AllCold set since
  pub cold_first : cold_at set first ≡ true
  pub before : Warm set older
  pub at : first.tick ≡ s

-- a freeze runs after the report r, and its tick minus the start is at least a thousand times its delay
pub record Fires (set : ℕ) (r : Report) (h : List Report) : Type 0 where
  pub begin : ℕ
  pub began : Began set (r ∷ h) begin
  pub waited : begin + 1000 * r.delay ≤ r.tick

-- what the rule says of a message after a history
pub data Answers (set : ℕ) (h : List Report) (m : List ℕ) (t : Told) : Type 0 where
  refused : {n p : ℕ} → judged_after h m ≡ refuse n p → t.refusal ≡ n → t.place ≡ p → t.fires ≡ false → Answers set h m t
  fires : {r : Report} → judged_after h m ≡ heard r → t.refusal ≡ 0 → t.place ≡ 0 → t.fires ≡ true → Fires set r h → Answers set h m t
  waits : {r : Report} → judged_after h m ≡ heard r → t.refusal ≡ 0 → t.place ≡ 0 → t.fires ≡ false → (Fires set r h → ⊥) → Answers set h m t

-- ---- the guard

-- the guard after messages
unfoldable pub guard_after : Guard → List (List ℕ) → Guard
guard_after g [] = g
guard_after g (m ∷ ms) = guard_after (report g m).guard ms

-- After any sequence of messages, the guard, which keeps four numbers, answers one more as the history says.
-- Rules out a guard that forgets the start of a freeze, that starts it anew with each cold report, or that uses an older delay.
abbrev pub FrostHistory : Type 0
FrostHistory = (set : ℕ) (ms : List (List ℕ)) (m : List ℕ) → Answers set (taken [] ms) m (report (guard_after (start set) ms) m)

-- what is kept after messages
pub record Keeps (set : ℕ) (h : List Report) (g : Guard) : Type 0 where
  pub set_point : g.set ≡ set
  pub last : g.tick ≡ latest_tick h
  pub delay : g.delay ≡ latest_delay h
  pub running : (s : ℕ) → (g.start ≡ some s → Began set h s) × (Began set h s → g.start ≡ some s)
  pub sound : bad_state g ≡ false
  pub taken_on : (m : List ℕ) → Bytes m → (report g m).refusal ≡ 52 → ⊥

abbrev pub FrostState : Type 0
FrostState = (set : ℕ) (ms : List (List ℕ)) → Keeps set (taken [] ms) (guard_after (start set) ms)

-- a refused report leaves any state, also one that 52 refuses, and the timer does not fire
abbrev pub FrostRefused : Type 0
FrostRefused = (g : Guard) (m : List ℕ) → ((report g m).refusal ≡ 0 → ⊥) → ((report g m).guard ≡ g) × ((report g m).fires ≡ false)

-- the tick that is there, if any, is not after t
abbrev pub NotAfter : Option ℕ → ℕ → Type 0
NotAfter none t = Unit {0}
NotAfter (some s) t = s ≤ t

-- the reports of a history, the latest first: ticks never fall, and no number is negative
pub data InTurn : List Report → Type 0 where
  none_yet : InTurn []
  one_later : {r : Report} {h : List Report} → r.tick < 2 ^ 63 → r.delay < 2 ^ 31 → NotAfter (latest_tick h) r.tick → InTurn h → InTurn (r ∷ h)

abbrev pub FrostNumbers : Type 0
FrostNumbers = (ms : List (List ℕ)) → InTurn (taken [] ms)

-- ---- day 49

-- a report of reading -500 and a delay of 1,800 seconds, at a tick of eight bytes
unfoldable pub cold_report : List ℕ → List ℕ
cold_report tick = 0x16 ∷ 0 ∷ 0 ∷ 0 ∷ 1 ∷ 1 ∷ 0x0C ∷ 0xFE ∷ 0x3B ∷ (tick ++ (0x42 ∷ 8 ∷ 7 ∷ 0 ∷ 0 ∷ []))

-- half an hour before 2^32 milliseconds, one millisecond before, and 2^32 itself: case P2
unfoldable pub early : List ℕ
early = cold_report (0xC0 ∷ 0x88 ∷ 0xE4 ∷ 0xFF ∷ 0 ∷ 0 ∷ 0 ∷ 0 ∷ [])

unfoldable pub late : List ℕ
late = cold_report (0xFF ∷ 0xFF ∷ 0xFF ∷ 0xFF ∷ 0 ∷ 0 ∷ 0 ∷ 0 ∷ [])

unfoldable pub day49 : List ℕ
day49 = cold_report (0 ∷ 0 ∷ 0 ∷ 0 ∷ 1 ∷ 0 ∷ 0 ∷ 0 ∷ [])

-- A freeze begins half an hour before 2^32 milliseconds. One millisecond before 2^32 the timer waits; at 2^32 it fires.
-- Rules out a tick of four bytes: it would fall back to 0 at 2^32, and the timer would not fire.
pub record FoundersStory : Type 0 where
  pub begins :
      report (start 0) early
      ≡ record { refusal = 0; place = 0; fires = false; guard = record { set = 0; tick = some 4293167296; start = some 4293167296; delay = some 1800 } }
  pub waits_on :
      report (guard_after (start 0) (early ∷ [])) late
      ≡ record { refusal = 0; place = 0; fires = false; guard = record { set = 0; tick = some 4294967295; start = some 4293167296; delay = some 1800 } }
  pub fires_on_time :
      report (guard_after (start 0) (early ∷ late ∷ [])) day49
      ≡ record { refusal = 0; place = 0; fires = true; guard = record { set = 0; tick = some 4294967296; start = some 4293167296; delay = some 1800 } }

-- a report of reading 0 and a delay of 2^31 - 1 seconds, at the tick 2^63 - 1
unfoldable pub last_tick : List ℕ
last_tick = 0x16 ∷ 0 ∷ 0 ∷ 0 ∷ 1 ∷ 1 ∷ 0 ∷ 0 ∷ 0x3B ∷ 0xFF ∷ 0xFF ∷ 0xFF ∷ 0xFF ∷ 0xFF ∷ 0xFF ∷ 0xFF ∷ 0x7F ∷ 0x42 ∷ 0xFF ∷ 0xFF ∷ 0xFF ∷ 0x7F ∷ []

-- The largest delay has just passed at the largest long: the timer fires. If the freeze began a millisecond later, the timer waits.
-- Rules out a sum of start and delay that wraps.
pub record LargestLong : Type 0 where
  pub fires :
      report (record { set = 0; tick = some 9223369889371128807; start = some 9223369889371128807; delay = some 0 }) last_tick
      ≡ record { refusal = 0; place = 0; fires = true; guard = record { set = 0; tick = some 9223372036854775807; start = some 9223369889371128807; delay = some 2147483647 } }
  pub waits :
      report (record { set = 0; tick = some 9223369889371128808; start = some 9223369889371128808; delay = some 0 }) last_tick
      ≡ record { refusal = 0; place = 0; fires = false; guard = record { set = 0; tick = some 9223372036854775807; start = some 9223369889371128808; delay = some 2147483647 } }

-- ---- bytes and order

-- the number that is there, if any, is below k
abbrev pub Under : ℕ → Option ℕ → Type 0
Under k none = Unit {0}
Under k (some n) = n < k

-- a guard whose numbers fit their widths is read back from its 32 bytes
abbrev pub StateKept : Type 0
StateKept =
    (g : Guard) → g.set < 2 ^ 16 → Under (2 ^ 64) g.tick → Under (2 ^ 64) g.start → Under (2 ^ 32) g.delay
    → (length (state_bytes g) ≡ 32) × (state_of (state_bytes g) ≡ some g)

-- a report on the 32 bytes of a guard is answered as one on the guard, and the state after it is put at the start of the lent bytes; fewer than 32 lent bytes are refused by 22 at 32, last
pub record Kept (g : Guard) (m lent : List ℕ) : Type 0 where
  pub answers : 32 ≤ length lent → reported (state_bytes g) m (length lent) ≡ report g m
  pub short : length lent < 32 → (report g m).refusal ≡ 0 → ((reported (state_bytes g) m (length lent)).refusal ≡ 22) × ((reported (state_bytes g) m (length lent)).place ≡ 32)
  pub next : 32 ≤ length lent → (report g m).refusal ≡ 0 → stored (reported (state_bytes g) m (length lent)) lent ≡ state_bytes (report g m).guard ++ drop 32 lent
  pub stays : ((reported (state_bytes g) m (length lent)).refusal ≡ 0 → ⊥) → stored (reported (state_bytes g) m (length lent)) lent ≡ lent

abbrev pub BytesReport : Type 0
BytesReport =
    (g : Guard) (m lent : List ℕ) → g.set < 2 ^ 16 → Under (2 ^ 64) g.tick → Under (2 ^ 64) g.start → Under (2 ^ 32) g.delay → Kept g m lent

-- bytes that are no state: another length, or a mark of tick, start or delay that is neither 0 nor 1
pub data NoState (b : List ℕ) : Type 0 where
  other_length : (length b ≡ 32 → ⊥) → NoState b
  tick_mark : 1 < at b 1 2 → NoState b
  start_mark : 1 < at b 1 3 → NoState b
  delay_mark : 1 < at b 1 4 → NoState b

-- 52 comes before the message and the room are judged
abbrev pub BytesRefused : Type 0
BytesRefused = (b m : List ℕ) (n : ℕ) → NoState b → ((reported b m n).refusal ≡ 52) × ((reported b m n).place ≡ 0)

-- refusal, place, and 1 if the timer fires
pub record ToldAs (t : Told) (r p f : ℕ) : Type 0 where
  pub refusal_is : r ≡ t.refusal
  pub place_is : p ≡ t.place
  pub one : t.fires ≡ true → f ≡ 1
  pub zero : t.fires ≡ false → f ≡ 0

abbrev pub FrostTold : Type 0
FrostTold = (t : Told) → ToldAs t (get_or (told_numbers t) 0 0) (get_or (told_numbers t) 1 0) (get_or (told_numbers t) 2 0)

-- bytes that are a state that 52 does not refuse
pub record Sound (b : List ℕ) : Type 0 where
  pub guard : Guard
  pub is : state_of b ≡ some guard
  pub sound : bad_state guard ≡ false
  pub taken_on : (m : List ℕ) → Bytes m → (n : ℕ) → (reported b m n).refusal ≡ 52 → ⊥

-- the first 32 lent bytes after a start, and after an accepted report on any bytes
pub record StateGiven : Type 0 where
  pub by_start : (set : ℕ) (lent : List ℕ) → set < 2 ^ 16 → 32 ≤ length lent → Sound (take 32 (stored (started set (length lent)) lent))
  pub by_report : (b m lent : List ℕ) → Bytes b → Bytes m → (reported b m (length lent)).refusal ≡ 0 → Sound (take 32 (stored (reported b m (length lent)) lent))

-- the order of signed numbers, over their patterns: as plain numbers where both have the same sign; else the negative one is lower
pub record Signed (set : ℕ) (r : Report) : Type 0 where
  pub both_positive : r.reading < 2 ^ 15 → set < 2 ^ 15 → (cold_at set r ≡ true → r.reading ≤ set) × (r.reading ≤ set → cold_at set r ≡ true)
  pub both_negative : 2 ^ 15 ≤ r.reading → 2 ^ 15 ≤ set → (cold_at set r ≡ true → r.reading ≤ set) × (r.reading ≤ set → cold_at set r ≡ true)
  pub reading_negative : 2 ^ 15 ≤ r.reading → set < 2 ^ 15 → cold_at set r ≡ true
  pub set_negative : r.reading < 2 ^ 15 → 2 ^ 15 ≤ set → cold_at set r ≡ false

abbrev pub SignedOrder : Type 0
SignedOrder = (set : ℕ) (r : Report) → set < 2 ^ 16 → r.reading < 2 ^ 16 → Signed set r
