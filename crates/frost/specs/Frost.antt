-- The frost guard: a layer over the reader.
--
--   guard_table            the table of its reports, P2's of document 01
--   raised, at_or_below     the order of signed numbers of k bytes, by their patterns
--   millis                a delay of whole seconds in milliseconds: the one conversion
--   Guard, start          what is kept between reports; the guard at the start, with a set point
--   present               a number that is there passes a test
--   lone_start             a start and no tick at or after it
--   bad_state              what 52 judges
--   Report, Heard         reading, tick and delay of a message; a report or a refusal
--   member_value           the value of a member in the rows of a message
--   complete              a report of three fields, or 42
--   answered, report_of    the report in a message under the table; or a refusal: the reader's own, then 42
--   report_form            what 40 and 41 judge, against the last tick
--   judged_report          a report so judged
--   cold_at                a reading at or below the set point
--   or_now, freeze         the start of the freeze after a cold report; after any report
--   fires_at               the timer fires
--   Told, told, report    the answer: its type, to a judged report, to a message
--   mark_of, or_none        the mark and the number written for a number that may be absent
--   marked                the number read back by its mark
--   state_bytes, state_of   the state as 32 bytes, and back
--   no_state               bytes that are no state
--   bounded               22, last
--   started, reported, reported_from   the calls on states as bytes
--   stored                the lent bytes after them
--   told_numbers, fires_number   the numbers of an answer
use Rattle.std.specs.Prelude.{Bool, true, false, ◌&&◌, ◌||◌, not, List, [], ◌∷◌, ◌++◌, ℕ, ◌+◌, ◌-◌, ◌*◌, ◌%◌, ◌^◌, length, drop, eqb, leb, ltb}
use Rattle.std.proofs.Math.Option.{Option, none, some}
use Rattle.encoding.specs.Result.{pick, first_of}
use Rattle.encoding.specs.Number.{val, le_bytes, negative}
use Rattle.encoding.specs.Table.{at}
use Rattle.encoding.specs.Message.{Row, Answer, reading}
use Rattle.encoding.specs.Write.{part_of}

-- ---- the table

-- a list of a short, an optional(7) long and an optional(8) int: reading, tick, delay; its row is 3
unfoldable pub guard_table : List ℕ
guard_table =
    70 ∷ 71 ∷ 84 ∷ 1 ∷ 0 ∷ 4 ∷ 0 ∷ 3 ∷ 0 ∷ 0 ∷ 0 ∷ 0
    ∷ 2 ∷ 0 ∷ 0 ∷ 0 ∷ 0 ∷ 0 ∷ 0 ∷ 0 ∷ 0 ∷ 0 ∷ 0 ∷ 0
    ∷ 4 ∷ 0 ∷ 0 ∷ 0 ∷ 0 ∷ 0 ∷ 0 ∷ 0 ∷ 0 ∷ 0 ∷ 0 ∷ 0
    ∷ 3 ∷ 0 ∷ 0 ∷ 0 ∷ 0 ∷ 0 ∷ 0 ∷ 0 ∷ 0 ∷ 0 ∷ 0 ∷ 0
    ∷ 15 ∷ 0 ∷ 0 ∷ 0 ∷ 3 ∷ 0 ∷ 0 ∷ 0 ∷ 0 ∷ 0 ∷ 0 ∷ 0
    ∷ 0 ∷ 0 ∷ 0 ∷ 0 ∷ 0 ∷ 0 ∷ 0 ∷ 0
    ∷ 1 ∷ 0 ∷ 1 ∷ 0 ∷ 7 ∷ 0 ∷ 0 ∷ 0
    ∷ 2 ∷ 0 ∷ 1 ∷ 0 ∷ 8 ∷ 0 ∷ 0 ∷ 0 ∷ []

-- ---- numbers

-- a pattern of k bytes moved so that plain order is the order of signed numbers: the least number becomes 0
unfoldable pub raised : ℕ → ℕ → ℕ
raised k n = (n + 2 ^ (8 * k - 1)) % 2 ^ (8 * k)

-- a is at most b, as signed numbers of k bytes
unfoldable pub at_or_below : ℕ → ℕ → ℕ → Bool
at_or_below k a b = leb (raised k a) (raised k b)

-- ticks are milliseconds and delays are whole seconds; the two are never added without this
unfoldable pub millis : ℕ → ℕ
millis seconds = 1000 * seconds

-- ---- the guard

-- set point (a short's pattern), last tick and start of the freeze (milliseconds), delay (seconds)
pub record Guard : Type 0 where
  pub set : ℕ
  pub tick : Option ℕ
  pub start : Option ℕ
  pub delay : Option ℕ

-- no tick, freeze or delay yet
unfoldable pub start : ℕ → Guard
start set = record { set = set; tick = none; start = none; delay = none }

-- a number that is there passes a test
unfoldable pub present : (ℕ → Bool) → Option ℕ → Bool
present f none = false
present f (some n) = f n

-- a start and no tick at or after it
unfoldable pub lone_start : Option ℕ → Option ℕ → Bool
lone_start tick none = false
lone_start none (some s) = true
lone_start (some t) (some s) = ltb t s

-- 52: a negative tick, start or delay, or a start and no tick at or after it
unfoldable pub bad_state : Guard → Bool
bad_state g =
    present (negative 8) g.tick
    || (present (negative 8) g.start
    || (present (negative 4) g.delay
    || lone_start g.tick g.start))

-- ---- a report

-- reading (a short's pattern), tick (a long's), delay (an int's)
pub record Report : Type 0 where
  pub reading : ℕ
  pub tick : ℕ
  pub delay : ℕ

-- the value of the first row of member k
unfoldable pub member_value : List ℕ → ℕ → List Row → Option ℕ
member_value m k [] = none
member_value m k (r ∷ rs) = let later = member_value m k rs in pick (eqb r.member k) (some (val (part_of m r))) later

-- what is heard of a message: a refusal, or a report
pub data Heard : Type 0 where
  refuse : (number place : ℕ) → Heard
  heard : Report → Heard

-- 42 if a field is missing
unfoldable pub complete : Option ℕ → Option ℕ → Option ℕ → Heard
complete (some r) (some t) (some d) = heard (record { reading = r; tick = t; delay = d })
complete none t d = refuse 42 0
complete (some r) none d = refuse 42 0
complete (some r) (some t) none = refuse 42 0

-- the report of a reader's answer: members 0, 1 and 2 are reading, tick and delay
unfoldable pub answered : List ℕ → Answer → Heard
answered m a =
    pick (eqb a.refusal 0)
    (complete (member_value m 0 a.rows) (member_value m 1 a.rows) (member_value m 2 a.rows))
    (refuse a.refusal a.place)

-- 36 bytes hold three rows
unfoldable pub report_of : List ℕ → Heard
report_of m = answered m (reading guard_table 3 m 36)

-- 40: the tick is negative or lower than the last, 41: the delay is negative
unfoldable pub report_form : Option ℕ → Report → ℕ
report_form last r = first_of ((40, negative 8 r.tick) ∷ (40, present (λ t. ltb r.tick t) last) ∷ (41, negative 4 r.delay) ∷ [])

-- a report judged against the last tick
unfoldable pub judged_report : Option ℕ → Heard → Heard
judged_report last (refuse n p) = refuse n p
judged_report last (heard r) = pick (eqb (report_form last r) 0) (heard r) (refuse (report_form last r) 0)

-- ---- the answer

-- a reading at or below the set point
unfoldable pub cold_at : ℕ → Report → Bool
cold_at set r = at_or_below 2 r.reading set

-- a freeze that runs goes on; else it starts at the tick
unfoldable pub or_now : ℕ → Option ℕ → ℕ
or_now tick none = tick
or_now tick (some s) = s

-- the start of the freeze after a report: a cold one starts a freeze if none runs, a warm one ends it
unfoldable pub freeze : ℕ → Option ℕ → Report → Option ℕ
freeze set running r = pick (cold_at set r) (some (or_now r.tick running)) none

-- a freeze runs, and the tick minus its start is at least a thousand times the delay
unfoldable pub fires_at : Option ℕ → Report → Bool
fires_at running r = present (λ s. leb (s + millis r.delay) r.tick) running

-- the answer to a report
pub record Told : Type 0 where
  pub refusal : ℕ
  pub place : ℕ
  pub fires : Bool
  pub guard : Guard

-- on a refusal the state stays
unfoldable pub told : Guard → Heard → Told
told g (refuse n p) = record { refusal = n; place = p; fires = false; guard = g }
told g (heard r) =
    let running = freeze g.set g.start r in
    record {
      refusal = 0;
      place = 0;
      fires = fires_at running r;
      guard = record { set = g.set; tick = some r.tick; start = running; delay = some r.delay };
    }

-- the refusals in order: 52, the reader's own, 42, 40, 41
unfoldable pub report : Guard → List ℕ → Told
report g m = told g (pick (bad_state g) (refuse 52 0) (judged_report g.tick (report_of m)))

-- ---- the state as bytes

-- 1 where there is a number
unfoldable pub mark_of : Option ℕ → ℕ
mark_of none = 0
mark_of (some n) = 1

-- what is absent is written as 0
unfoldable pub or_none : Option ℕ → ℕ
or_none none = 0
or_none (some n) = n

-- set point (2), marks of tick, start, delay, three zero bytes, tick (8), start (8), delay (4), four zero bytes
unfoldable pub state_bytes : Guard → List ℕ
state_bytes g =
    le_bytes 2 g.set ++ (mark_of g.tick ∷ mark_of g.start ∷ mark_of g.delay ∷ 0 ∷ 0 ∷ 0 ∷ [])
    ++ le_bytes 8 (or_none g.tick) ++ le_bytes 8 (or_none g.start) ++ le_bytes 4 (or_none g.delay) ++ (0 ∷ 0 ∷ 0 ∷ 0 ∷ [])

-- a number that a mark says is there
unfoldable pub marked : ℕ → ℕ → Option ℕ
marked mark n = pick (eqb mark 0) none (some n)

-- a length other than 32, or a mark above 1; the zero bytes and the bytes of absent numbers are not judged
unfoldable pub no_state : List ℕ → Bool
no_state b = not (eqb (length b) 32) || (ltb 1 (at b 1 2) || (ltb 1 (at b 1 3) || ltb 1 (at b 1 4)))

unfoldable pub state_of : List ℕ → Option Guard
state_of b =
    pick (no_state b) none
    (some (record { set = at b 2 0; tick = marked (at b 1 2) (at b 8 8); start = marked (at b 1 3) (at b 8 16); delay = marked (at b 1 4) (at b 4 24) }))

-- 22 at 32 if fewer than 32 bytes are lent for the state, after every other refusal
unfoldable pub bounded : ℕ → Told → Told
bounded n t =
    pick (eqb t.refusal 0 && ltb n 32) (record { refusal = 22; place = 32; fires = false; guard = t.guard }) t

-- the start, with n bytes lent
unfoldable pub started : ℕ → ℕ → Told
started set n = bounded n (record { refusal = 0; place = 0; fires = false; guard = start set })

-- bytes that are no state are refused by 52
unfoldable pub reported_from : Option Guard → List ℕ → ℕ → Told
reported_from none m n = told (start 0) (refuse 52 0)
reported_from (some g) m n = bounded n (report g m)

-- a report on a state as bytes, with n bytes lent for the state after it
unfoldable pub reported : List ℕ → List ℕ → ℕ → Told
reported state m n = reported_from (state_of state) m n

-- the lent bytes after the call: the state, then the bytes beyond it as they were; on a refusal all stay
unfoldable pub stored : Told → List ℕ → List ℕ
stored t lent = pick (eqb t.refusal 0 && leb 32 (length lent)) (state_bytes t.guard ++ drop 32 lent) lent

-- a bool as a number
unfoldable pub fires_number : Bool → ℕ
fires_number b = pick b 1 0

-- refusal, place, 1 if the timer fires
unfoldable pub told_numbers : Told → List ℕ
told_numbers t = t.refusal ∷ t.place ∷ fires_number t.fires ∷ []
