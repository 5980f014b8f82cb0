-- Bursts of at most 340 bytes: the check of a plan, and a planner.
--
--   Waiting, Entry          a waiting message: its length and cabin; an entry of a plan: a message's number and a burst's
--   waitings, entries       what a lent list of numbers holds; half a pair does not count
--   most                    340, the most bytes of a burst
--   message_at, length_of, cabin_of   message m, its length and its cabin; 0 past the end
--   any_entry, stands_in m es   some entry passes a test; some entry is of message m
--   bytes_in ws b es         the bytes of burst b among entries
--   follows, overtakes      burst b may follow entries; a message of the same cabin and a greater number comes before
--   broken_by ws before e    entry e breaks a rule with the entries before it
--   first_broken             the number of the first entry that does
--   any_missing, missing     some number of a list, some message is in no entry
--   verdict, judge, checking   the check: sound, or the place of 46; of messages and entries, of two lent lists
--   too_long                 the first message over 340 bytes
--   fill, plan              the planner
--   entry_room n             the entries that a lent list of n numbers holds
--   Plan, plan_within, planning   the planner's answer by the length of the lent list: 45, then 19
--   entry_numbers, plan_listed    the lent list after the call
--   planned_of               the answer as the code gives it
--   checked_numbers, planned_numbers    the numbers of an answer
use Rattle.std.specs.Prelude.{ℕ, suc, ◌+◌, ◌-◌, ◌*◌, ◌/◌, Bool, false, not, ◌&&◌, ◌||◌, leb, List, [], ◌∷◌, ◌++◌, length, drop, ◌==◌, nat_eq, nat_le, nat_lt, slice_index_or, Option, Some, None}
use Rattle.encoding.specs.Result.{pick}
use Rattle.encoding.specs.Table.{range}
use Rattle.bursts.specs.declared.Checked.{Checked}
use Rattle.bursts.specs.declared.Checked.TheVariants.{Sound, Breaks}
use Rattle.bursts.specs.declared.Planned.{Planned}
use Rattle.bursts.specs.declared.Planned.TheVariants.{Made, Unplanned}

-- ---- messages and entries

-- a waiting message
pub record Waiting : Type 0 where
  pub bytes : ℕ
  pub cabin : ℕ

-- an entry of a plan
pub record Entry : Type 0 where
  pub message : ℕ
  pub burst : ℕ

-- length and cabin, pair after pair; half a pair does not count
unfoldable pub waitings : List ℕ → List Waiting
waitings [] = []
waitings (a ∷ []) = []
waitings (a ∷ b ∷ l) = record { bytes = a; cabin = b } ∷ waitings l

-- message number and burst number, pair after pair; half a pair does not count
unfoldable pub entries : List ℕ → List Entry
entries [] = []
entries (a ∷ []) = []
entries (a ∷ b ∷ l) = record { message = a; burst = b } ∷ entries l

-- the most bytes of a burst
abbrev pub most : ℕ
most = 340

-- message m; length and cabin are 0 past the end
unfoldable pub message_at : List Waiting → ℕ → Waiting
message_at ws m = slice_index_or ws m (record { bytes = 0; cabin = 0 })

unfoldable pub length_of : List Waiting → ℕ → ℕ
length_of ws m = (message_at ws m).bytes

unfoldable pub cabin_of : List Waiting → ℕ → ℕ
cabin_of ws m = (message_at ws m).cabin

-- ---- the check

-- some entry passes a test
unfoldable pub any_entry : (Entry → Bool) → List Entry → Bool
any_entry f [] = false
any_entry f (e ∷ es) = f e || any_entry f es

-- message m is in an entry
unfoldable pub stands_in : ℕ → List Entry → Bool
stands_in m es = any_entry (λ e. nat_eq e.message m) es

-- the bytes of burst b among entries
unfoldable pub bytes_in : List Waiting → ℕ → List Entry → ℕ
bytes_in ws b [] = 0
bytes_in ws b (e ∷ es) = pick (e.burst == b) (length_of ws e.message) 0 + bytes_in ws b es

-- burst b may follow entries: 0 if there are none, else the last one's burst or one more
unfoldable pub follows : List Entry → ℕ → Bool
follows [] b = b == 0
follows (e ∷ []) b = b == e.burst || b == suc e.burst
follows (e ∷ d ∷ es) b = follows (d ∷ es) b

-- an entry before is of m's cabin and a greater message number
unfoldable pub overtakes : List Waiting → List Entry → ℕ → Bool
overtakes ws before m = any_entry (λ e. (cabin_of ws e.message == cabin_of ws m) && nat_lt m e.message) before

-- entry e breaks a rule with the entries before it
unfoldable pub broken_by : List Waiting → List Entry → Entry → Bool
broken_by ws before e =
    nat_le (length ws) e.message
    || (stands_in e.message before
    || (not (follows before e.burst)
    || (nat_lt most (bytes_in ws e.burst before + length_of ws e.message)
    || overtakes ws before e.message)))

-- the number of the first entry that breaks a rule with those before it; `before` has i entries
unfoldable pub first_broken : List Waiting → ℕ → List Entry → List Entry → Option ℕ
first_broken ws i before [] = None
first_broken ws i before (e ∷ es) =
    let later = first_broken ws (suc i) (before ++ (e ∷ [])) es in
    pick (broken_by ws before e) (Some i) later

-- some number of a list is in no entry
unfoldable pub any_missing : List Entry → List ℕ → Bool
any_missing es [] = false
any_missing es (m ∷ ms) = not (stands_in m es) || any_missing es ms

-- some message is in no entry
unfoldable pub missing : List Waiting → List Entry → Bool
missing ws es = any_missing es (range 0 (length ws))

-- 46 at an entry, or at the number of entries if only messages are missing
unfoldable pub verdict : List Waiting → List Entry → Option ℕ → Checked
verdict ws es (Some i) = Breaks i
verdict ws es None = pick (missing ws es) (Breaks (length es)) Sound

-- the check of messages and entries
unfoldable pub judge : List Waiting → List Entry → Checked
judge ws es = verdict ws es (first_broken ws 0 [] es)

-- the check of two lent lists
unfoldable pub checking : List ℕ → List ℕ → Checked
checking ms es = judge (waitings ms) (entries es)

-- ---- the planner

-- the number of the first message over 340 bytes, counted from i
unfoldable pub too_long : ℕ → List Waiting → Option ℕ
too_long i [] = None
too_long i (w ∷ ws) = let later = too_long (suc i) ws in pick (nat_lt most w.bytes) (Some i) later

-- messages in turn from number i on, with `left` bytes left in burst b: a new burst only if the next does not fit
unfoldable pub fill : ℕ → ℕ → ℕ → List Waiting → List Entry
fill i b left [] = []
fill i b left (w ∷ ws) =
    let fits = leb w.bytes left in
    let next = pick fits b (suc b) in
    record { message = i; burst = next } ∷ fill (suc i) next (pick fits left most - w.bytes) ws

-- the plan of messages
unfoldable pub plan : List Waiting → List Entry
plan ws = fill 0 0 most ws

-- the planner's answer: a plan, or a refusal
pub data Plan : Type 0 where
  plan_of : List Entry → Plan
  no_plan : (number place : ℕ) → Plan

-- the entries that a lent list of `numbers` numbers holds
unfoldable pub entry_room : ℕ → ℕ
entry_room numbers = numbers / 2

-- 45 at the first message that is too long, then 19 at the number of messages
unfoldable pub plan_within : List Waiting → ℕ → Option ℕ → Plan
plan_within ws k (Some i) = no_plan 45 i
plan_within ws k None = pick (nat_le (length ws) k) (plan_of (plan ws)) (no_plan 19 (length ws))

-- the planner's answer to a list of messages, with a lent list of `lent` numbers
unfoldable pub planning : List ℕ → ℕ → Plan
planning ms lent = plan_within (waitings ms) (entry_room lent) (too_long 0 (waitings ms))

-- entries as numbers, two each
unfoldable pub entry_numbers : List Entry → List ℕ
entry_numbers [] = []
entry_numbers (e ∷ es) = e.message ∷ e.burst ∷ entry_numbers es

-- the lent list after the call: numbers beyond the entries stay, and on a refusal all stay
unfoldable pub plan_listed : Plan → List ℕ → List ℕ
plan_listed (plan_of es) lent = entry_numbers es ++ drop (2 * length es) lent
plan_listed (no_plan n p) lent = lent

-- the answer as the code gives it
unfoldable pub planned_of : Plan → Planned
planned_of (plan_of es) = Made (length es)
planned_of (no_plan n p) = Unplanned n p

-- ---- the numbers of an answer

-- of the check: the refusal, or 0, and its place
unfoldable pub checked_numbers : Checked → List ℕ
checked_numbers Sound = 0 ∷ 0 ∷ []
checked_numbers (Breaks i) = 46 ∷ i ∷ []

-- of the planner: the refusal, or 0, its place, and the number of entries
unfoldable pub planned_numbers : Planned → List ℕ
planned_numbers (Made n) = 0 ∷ 0 ∷ n ∷ []
planned_numbers (Unplanned c p) = c ∷ p ∷ 0 ∷ []
