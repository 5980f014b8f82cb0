-- What the code's types hold, as the definitions have it.
--
--   tick_in, delay_in, guard_in, told_in    a tick, a delay, a guard, an answer
--   said_in, heard_in                    a report; what a message says
--   form_of n                            what is wrong with a report, as the code answers: nothing for 0, else refusal n at 0
--   judged_by g m                        what is heard of a message by a guard: 52, a refusal of the message, 40, 41, or a report
--   report_in r t d                      a report of three numbers
--   numbers_at m r t d                   the report whose numbers are at three places of a message
--   fields_at m rows                     the report in three listed rows of a message
--   lower_than t s                       a tick is lower than another
use Rattle.std.specs.Prelude.{Bool, List, ℕ, eqb, ltb, Option, Some, None, Result, Ok, Err}
use Rattle.std.proofs.Math.Option as Math
use Rattle.encoding.specs.Result.{pick}
use Rattle.encoding.specs.Table.{at}
use Rattle.encoding.specs.Write.{row_at}
use Rattle.frost.specs.declared.Millis.{Millis}
use Rattle.frost.specs.declared.Seconds.{Seconds}
use Rattle.frost.specs.declared.Guard
use Rattle.frost.specs.declared.Told
use Rattle.frost.specs.declared.Said
use Rattle.frost.specs.declared.Refusal
use Rattle.frost.specs.Frost

abbrev pub tick_in : Option Millis → Math.Option ℕ
tick_in None = Math.none
tick_in (Some m) = Math.some m.0

abbrev pub delay_in : Option Seconds → Math.Option ℕ
delay_in None = Math.none
delay_in (Some s) = Math.some s.0

abbrev pub guard_in : Guard.Guard → Frost.Guard
guard_in g = record { set = g.set; tick = tick_in g.tick; start = tick_in g.start; delay = delay_in g.delay }

abbrev pub told_in : Told.Told → Frost.Told
told_in t = record { refusal = t.refusal; place = t.place; fires = t.fires; guard = guard_in t.guard }

abbrev pub report_in : ℕ → ℕ → ℕ → Frost.Report
report_in r t d = record { reading = r; tick = t; delay = d }

abbrev pub said_in : Said.Said → Frost.Report
said_in r = report_in r.reading r.tick.0 r.delay.0

abbrev pub heard_in : Result Said.Said Refusal.Refusal → Frost.Heard
heard_in (Ok r) = Frost.heard (said_in r)
heard_in (Err x) = Frost.refuse x.number x.place

abbrev pub form_of : ℕ → Result (Unit {0}) Refusal.Refusal
form_of n = pick (eqb n 0) (Ok tt) (Err (record { number = n; place = 0 }))

abbrev pub judged_by : Frost.Guard → List ℕ → Frost.Heard
judged_by g m = pick (Frost.bad_state g) (Frost.refuse 52 0) (Frost.judged_report g.tick (Frost.report_of m))

abbrev pub numbers_at : List ℕ → ℕ → ℕ → ℕ → Frost.Heard
numbers_at m r t d = Frost.heard (report_in (at m 2 r) (at m 8 t) (at m 4 d))

unfoldable pub fields_at : List ℕ → List ℕ → Frost.Heard
fields_at m rows = numbers_at m (row_at rows 0).place (row_at rows 1).place (row_at rows 2).place

abbrev pub lower_than : ℕ → ℕ → Bool
lower_than t s = ltb t s
