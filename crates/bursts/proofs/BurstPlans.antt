-- What the planner makes is a plan and passes the check, and where it refuses: `plan_passes`, `plan_refused`, `plan_lent`, `plan_thrifty` of BurstDemands.
-- The idea: while the planner fills, the entries so far are begun, message k is in entry k, and the last burst has as many bytes left as it counts.
-- Assumes nothing.
use Rattle.std.specs.Prelude.{◌≡◌, ℕ, zero, suc, ◌+◌, ◌-◌, ◌*◌, ◌/◌, ◌<◌, ◌≤◌, Bool, true, false, ltb, leb, List, [], ◌∷◌, ◌++◌, length, take, drop, ◌≢◌, nat_le, nat_lt, slice_index_or, Option, Some, None, refl}
use Rattle.std.proofs.Common.{sym, ap, ◌∙◌, subst, append_assoc, append-nil, arith, length-append, length-drop, drop_at, take_at, leb-true, leb-false, ltb-false, lt-ltb, le-ltb, le-leb}
use Rattle.std.proofs.Math.Seq.{get_or-append_seam, take-append_seam}
use Rattle.std.proofs.lemmas.List.{take-append-le}
use Rattle.std.proofs.lemmas.Bool.{lt-leb}
use Rattle.std.proofs.lemmas.Option.{none-some}
use Rattle.bursts.specs.Bursts.{Waiting, Entry, most, message_at, length_of, bytes_in, waitings, entries, judge, checking, checked_numbers, too_long, fill, plan, Plan, plan_of, no_plan, entry_room, plan_within, planning, planned_of, planned_numbers, entry_numbers, plan_listed}
use Rattle.bursts.specs.BurstDemands.{entry_at, Or, one, other, Begun, ProperPlan, PlanPasses, FirstLong, NoneLong, PlanRefused, PlanListed, PlanThrifty}
use Rattle.bursts.proofs.PairLaws.{waitings_count}
use Rattle.bursts.proofs.BurstLaws.{Fits, Spot, inner, last, spot, bytes_append, bytes_one, bytes_other, begun_snoc, begun_empty, judge_checked}

-- ---- filling

-- a new burst is opened only if the next message does not fit
abbrev pub Full : List Waiting → List Entry → Type 0
Full ws es = (k : ℕ) → suc k < length es → (entry_at es (suc k)).burst ≡ suc (entry_at es k).burst → most < bytes_in ws (entry_at es k).burst (take (suc k) es) + length_of ws (suc k)

-- the entries so far: i messages are taken, and the last burst b has `left` bytes left
record Filling (ws : List Waiting) (before : List Entry) (i b left : ℕ) : Type 0 where
  count : length before ≡ i
  turn : (k : ℕ) → k < length before → (entry_at before k).message ≡ k
  begun : Begun ws before
  latest : (k : ℕ) → suc k ≡ length before → (entry_at before k).burst ≡ b
  start : length before ≡ 0 → b ≡ 0
  bytes : bytes_in ws b before + left ≡ most
  above : (c : ℕ) → b < c → bytes_in ws c before ≡ 0
  full : Full ws before

abbrev put : ℕ → ℕ → Entry
put i n = record { message = i; burst = n }

-- one more entry, of message i in burst n
filling_next : (ws : List Waiting) (before : List Entry) (i b left n left' : ℕ) → Filling ws before i b left → Fits ws before (put i n) → b ≤ n → (n ≡ suc b → most < bytes_in ws b before + length_of ws i)
    → bytes_in ws n before + length_of ws i + left' ≡ most → Filling ws (before ++ (put i n ∷ [])) (suc i) n left'
filling_next ws before i b left n left' f t l o h = record {
  full = λ k q. full_at k (spot before (put i n) k (omega (arith, q))) (spot before (put i n) (suc k) q);
  count = longer;
  turn = λ k q. turn_at k (spot before (put i n) k q);
  begun = begun_snoc ws before (put i n) f.begun t;
  latest = λ k q. latest_at k (spot before (put i n) k (omega (arith, q))) q;
  start = λ z. absurd (omega (arith, z, longer));
  bytes = omega (arith, bytes_append ws n before (put i n ∷ []), bytes_one ws (put i n), h);
  above = λ c g. omega (arith, bytes_append ws c before (put i n ∷ []), bytes_other ws c (put i n) (λ q. differ c g q), f.above c (omega (arith, g, l)));
}
  where
    longer : length (before ++ (put i n ∷ [])) ≡ suc i
    longer = omega (arith, length-append before (put i n ∷ []), f.count)

    differ : (c : ℕ) → n < c → n ≢ c
    differ c g q = omega arith

    full_at : (k : ℕ) → Spot before (put i n) k → Spot before (put i n) (suc k) → (entry_at (before ++ (put i n ∷ [])) (suc k)).burst ≡ suc (entry_at (before ++ (put i n ∷ [])) k).burst
        → most < bytes_in ws (entry_at (before ++ (put i n ∷ [])) k).burst (take (suc k) (before ++ (put i n ∷ []))) + length_of ws (suc k)
    full_at k (inner q w) (inner q' w') = rw (w, w', take-append-le (suc k) before (put i n ∷ []) (omega arith)) (f.full k q')
    full_at k (inner q w) (last q' w') =
        rw (w, w', f.latest k q', ap (λ (x : ℕ). take x (before ++ (put i n ∷ []))) q' ∙ take-append_seam before (put i n ∷ []), q' ∙ f.count) o
    full_at k (last q w) (inner q' w') = absurd (omega arith)
    full_at k (last q w) (last q' w') = absurd (omega arith)

    turn_at : (k : ℕ) → Spot before (put i n) k → (entry_at (before ++ (put i n ∷ [])) k).message ≡ k
    turn_at k (inner q w) = rw w (f.turn k q)
    turn_at k (last q w) = rw w (omega (arith, q, f.count))

    latest_at : (k : ℕ) → Spot before (put i n) k → suc k ≡ length (before ++ (put i n ∷ [])) → (entry_at (before ++ (put i n ∷ [])) k).burst ≡ n
    latest_at k (inner q w) z = absurd (omega (arith, q, z, length-append before (put i n ∷ [])))
    latest_at k (last q w) z = rw w

-- the entry of message i in burst b or the next breaks no rule, if its bytes fit
filling_fits : (ws : List Waiting) (before : List Entry) (i b left n : ℕ) → Filling ws before i b left → i < length ws → Or (n ≡ b) (n ≡ suc b)
    → (length before ≡ 0 → n ≡ 0) → bytes_in ws n before + length_of ws i ≤ most → Fits ws before (put i n)
filling_fits ws before i b left n f k o z s = record {
  known = k;
  new = λ j l w. new_at j l w;
  starts = z;
  steps = λ j l. steps_at j l o;
  sum = s;
  order = λ j l w. order_at j l;
}
  where
    new_at : (j : ℕ) → j < length before → (entry_at before j).message ≢ i
    new_at j l w = let q = f.turn j l in omega (arith, f.count)

    order_at : (j : ℕ) → j < length before → (entry_at before j).message ≤ i
    order_at j l = let q = f.turn j l in omega (arith, f.count)

    steps_at : (j : ℕ) → suc j ≡ length before → Or (n ≡ b) (n ≡ suc b) → Or (n ≡ (entry_at before j).burst) (n ≡ suc (entry_at before j).burst)
    steps_at j l (one e) = one (e ∙ sym (f.latest j l))
    steps_at j l (other e) = other (e ∙ ap suc (sym (f.latest j l)))

fill_fits : (i b left : ℕ) (w : Waiting) (ws : List Waiting) → nat_le w.bytes left ≡ true → fill i b left (w ∷ ws) ≡ put i b ∷ fill (suc i) b (left - w.bytes) ws
unfolding fill
fill_fits i b left w ws e = rw e

fill_opens : (i b left : ℕ) (w : Waiting) (ws : List Waiting) → nat_le w.bytes left ≡ false → fill i b left (w ∷ ws) ≡ put i (suc b) ∷ fill (suc i) (suc b) (most - w.bytes) ws
unfolding fill
fill_opens i b left w ws e = rw e

-- the entries when all messages are taken
pub record Filled (ws : List Waiting) (es : List Entry) : Type 0 where
  pub begun : Begun ws es
  pub turn : (k : ℕ) → k < length es → (entry_at es k).message ≡ k
  pub count : length es ≡ length ws
  pub full : Full ws es

fill_filled : (ws done rest : List Waiting) (before : List Entry) (i b left : ℕ) → ws ≡ done ++ rest → i ≡ length done → NoneLong ws → Filling ws before i b left
    → Filled ws (before ++ fill i b left rest)
unfolding fill length_of message_at bytes_in
fill_filled ws done [] before i b left e z none' f =
    subst (λ (l : List Entry). Filled ws l) (sym (append-nil before))
    (record { begun = f.begun; turn = f.turn; full = f.full; count = f.count ∙ z ∙ sym (ap length (e ∙ append-nil done)) })
fill_filled ws done (w ∷ rest) before i b left e z none' f =
    go (nat_le w.bytes left) refl
    (λ b' left' g. fill_filled ws (done ++ (w ∷ [])) rest (before ++ (put i b' ∷ [])) (suc i) b' left' (e ∙ sym (append_assoc done (w ∷ []) rest)) (omega (arith, z, length-append done (w ∷ []))) none' g)
  where
    inside : i < length ws
    inside = let q = ap length e in omega (arith, q, z, length-append done (w ∷ rest))

    long : length_of ws i ≡ w.bytes
    long = ap (λ (x : Waiting). x.bytes) (ap (λ (l : List Waiting). slice_index_or l i (record { bytes = 0; cabin = 0 })) e ∙ ap (λ (k : ℕ). slice_index_or (done ++ (w ∷ rest)) k (record { bytes = 0; cabin = 0 })) z ∙ get_or-append_seam done w rest (record { bytes = 0; cabin = 0 }))

    go : (t : Bool) → nat_le w.bytes left ≡ t
        → ((b' left' : ℕ) → Filling ws (before ++ (put i b' ∷ [])) (suc i) b' left' → Filled ws (before ++ (put i b' ∷ []) ++ fill (suc i) b' left' rest))
        → Filled ws (before ++ fill i b left (w ∷ rest))
    go true t ih =
        let small = leb-true w.bytes left t in
        let fit = filling_fits ws before i b left b f inside (one refl) f.start (omega (arith, f.bytes, long, small)) in
        subst (λ (l : List Entry). Filled ws l) (append_assoc before (put i b ∷ []) (fill (suc i) b (left - w.bytes) rest) ∙ ap (λ (l : List Entry). before ++ l) (sym (fill_fits i b left w rest t)))
        (ih b (left - w.bytes) (filling_next ws before i b left b (left - w.bytes) f fit (omega arith) (λ q. absurd (omega (arith, q))) (omega (arith, f.bytes, long, small))))
    go false t ih =
        let full = leb-false w.bytes left t in
        let short = none' i inside in
        let nothing = f.above (suc b) (omega arith) in
        let fit = filling_fits ws before i b left (suc b) f inside (other refl) (λ y. absurd (nonempty y full)) (omega (arith, nothing, short)) in
        subst (λ (l : List Entry). Filled ws l) (append_assoc before (put i (suc b) ∷ []) (fill (suc i) (suc b) (most - w.bytes) rest) ∙ ap (λ (l : List Entry). before ++ l) (sym (fill_opens i b left w rest t)))
        (ih (suc b) (most - w.bytes) (filling_next ws before i b left (suc b) (most - w.bytes) f fit (omega arith) (λ q. omega (arith, f.bytes, long, full)) (omega (arith, nothing, long, short))))
      where
        no_bytes : (es : List Entry) → length es ≡ 0 → bytes_in ws b es ≡ 0
        no_bytes [] q = refl
        no_bytes (x ∷ es) q = absurd (omega arith)

        nonempty : length before ≡ 0 → left < w.bytes → ⊥
        nonempty y full = omega (arith, no_bytes before y, f.bytes, none' i inside, long, full)

-- ---- the plan

plan_filled : (ws : List Waiting) → NoneLong ws → Filled ws (plan ws)
unfolding plan bytes_in
plan_filled ws n = fill_filled ws [] ws [] 0 0 most refl refl n (record {
  count = refl;
  turn = λ k q. absurd (omega (arith, q));
  begun = begun_empty ws;
  latest = λ k q. absurd (omega (arith, q));
  start = λ z. refl;
  bytes = refl;
  above = λ c g. refl;
  full = λ k q. absurd (omega (arith, q));
})

pub plan_proper : (ws : List Waiting) → NoneLong ws → ProperPlan ws (plan ws)
plan_proper ws n =
    let f = plan_filled ws n in
    record { begun = f.begun; all = λ m k. record { at = m; inside = omega (arith, k, f.count); here = f.turn m (omega (arith, k, f.count)) } }

-- ---- 45 and 19

long_none : (i : ℕ) (ws : List Waiting) → too_long i ws ≡ None → NoneLong ws
unfolding too_long length_of message_at
long_none i [] h = λ j k. absurd (omega (arith, k))
long_none i (w ∷ ws) h = go (nat_lt most w.bytes) refl (λ u. long_none (suc i) ws u)
  where
    at : ltb most w.bytes ≡ false → ((j : ℕ) → j < length ws → length_of ws j ≤ most) → (j : ℕ) → j < length (w ∷ ws) → length_of (w ∷ ws) j ≤ most
    at t ih zero k = ltb-false most w.bytes t
    at t ih (suc j) k = ih j (omega arith)

    go : (t : Bool) → nat_lt most w.bytes ≡ t → (too_long (suc i) ws ≡ None → (j : ℕ) → j < length ws → length_of ws j ≤ most) → (j : ℕ) → j < length (w ∷ ws) → length_of (w ∷ ws) j ≤ most
    go true t ih = absurd (none-some i (sym h ∙ rw t))
    go false t ih = at t (ih (rw t at h))

none_long : (i : ℕ) (ws : List Waiting) → NoneLong ws → too_long i ws ≡ None
unfolding too_long length_of message_at
none_long i [] n = refl
none_long i (w ∷ ws) n = rw (le-ltb most w.bytes (n 0 (omega arith))) (none_long (suc i) ws (λ j k. n (suc j) (omega (arith, k))))

first_long : (i : ℕ) (ws : List Waiting) (k : ℕ) → FirstLong ws k → too_long i ws ≡ Some (i + k)
unfolding too_long length_of message_at
first_long i [] k f = absurd (omega (arith, f.inside))
first_long i (w ∷ ws) zero f = rw (lt-ltb most w.bytes f.long) (ap Some (omega arith))
first_long i (w ∷ ws) (suc k) f =
    rw (le-ltb most w.bytes (f.before 0 (omega arith)))
    (first_long (suc i) ws k (record { inside = omega (arith, f.inside); long = f.long; before = λ j l. f.before (suc j) (omega (arith, l)) }) ∙ ap Some (omega arith))

pub plan_refused : PlanRefused
unfolding planning plan_within entry_room planned_of planned_numbers
plan_refused ms lent = record {
  long = λ i f. ap told (ap (plan_within (waitings ms) (entry_room lent)) (first_long 0 (waitings ms) i f ∙ ap Some (plain i)));
  short = λ n l. ap told (ap (plan_within (waitings ms) (entry_room lent)) (none_long 0 (waitings ms) n) ∙ few (omega (arith, l, waitings_count ms))) ∙ ap (λ (k : ℕ). 19 ∷ k ∷ 0 ∷ []) (waitings_count ms);
  made = λ n l. ap (plan_within (waitings ms) (entry_room lent)) (none_long 0 (waitings ms) n) ∙ enough (omega (arith, l, waitings_count ms));
  numbers = λ n l. ap told (ap (plan_within (waitings ms) (entry_room lent)) (none_long 0 (waitings ms) n) ∙ enough (omega (arith, l, waitings_count ms))) ∙ ap (λ (k : ℕ). 0 ∷ 0 ∷ k ∷ []) ((plan_filled (waitings ms) n).count ∙ waitings_count ms);
}
  where
    told : Plan → List ℕ
    told p = planned_numbers (planned_of p)

    plain : (i : ℕ) → 0 + i ≡ i
    plain i = omega arith

    few : entry_room lent < length (waitings ms) → plan_within (waitings ms) (entry_room lent) None ≡ no_plan 19 (length (waitings ms))
    few l = rw (lt-leb (length (waitings ms)) (entry_room lent) l)

    enough : length (waitings ms) ≤ entry_room lent → plan_within (waitings ms) (entry_room lent) None ≡ plan_of (plan (waitings ms))
    enough l = rw (le-leb (length (waitings ms)) (entry_room lent) l)

-- ---- what is planned passes

entries_numbers : (es : List Entry) → entries (entry_numbers es) ≡ es
unfolding entries entry_numbers
entries_numbers [] = refl
entries_numbers (e ∷ es) = ap {B = List Entry} (λ l. e ∷ l) (entries_numbers es)

plan_same : {p : Plan} {a b : List Entry} → p ≡ plan_of a → p ≡ plan_of b → a ≡ b
plan_same e h = cc

plan≢no_plan : {p : Plan} {a : List Entry} {n k : ℕ} → p ≡ plan_of a → p ≢ no_plan n k
plan≢no_plan e h = let z : ◌≡◌ {A = ℕ} 0 1 = cc in omega arith

planned_is : (ws : List Waiting) (k : ℕ) (es : List Entry) → plan_within ws k (too_long 0 ws) ≡ plan_of es → ProperPlan ws es
unfolding plan_within
planned_is ws k es h = go (too_long 0 ws) refl (nat_le (length ws) k) refl
  where
    go : (o : Option ℕ) → too_long 0 ws ≡ o → (t : Bool) → nat_le (length ws) k ≡ t → ProperPlan ws es
    go (Some i) w t q = absurd (plan≢no_plan h (ap (plan_within ws k) w))
    go None w true q = subst (λ (l : List Entry). ProperPlan ws l) (plan_same (ap (plan_within ws k) w ∙ enough q) h) (plan_proper ws (long_none 0 ws w))
      where
        enough : leb (length ws) k ≡ true → plan_within ws k None ≡ plan_of (plan ws)
        enough q = rw q
    go None w false q = absurd (plan≢no_plan h (ap (plan_within ws k) w ∙ few q))
      where
        few : leb (length ws) k ≡ false → plan_within ws k None ≡ no_plan 19 (length ws)
        few q = rw q

pub plan_passes : PlanPasses
unfolding planning checking checked_numbers
plan_passes ms lent es h =
    let p = planned_is (waitings ms) (entry_room lent) es h in
    (p, ap checked_numbers (ap (judge (waitings ms)) (entries_numbers es) ∙ (judge_checked (waitings ms) es).1 p))

-- ---- the lent list

numbers_length : (es : List Entry) → length (entry_numbers es) ≡ 2 * length es
unfolding entry_numbers
numbers_length [] = refl
numbers_length (e ∷ es) = omega (arith, numbers_length es)

planned_room : (ms : List ℕ) (lent : ℕ) (es : List Entry) → planning ms lent ≡ plan_of es → 2 * length es ≤ lent
unfolding planning plan_within entry_room
planned_room ms lent es h = go (too_long 0 (waitings ms)) refl (nat_le (length (waitings ms)) (lent / 2)) refl
  where
    go : (o : Option ℕ) → too_long 0 (waitings ms) ≡ o → (t : Bool) → nat_le (length (waitings ms)) (lent / 2) ≡ t → 2 * length es ≤ lent
    go (Some i) w t q = absurd (plan≢no_plan h (ap (plan_within (waitings ms) (lent / 2)) w))
    go None w false q = absurd (plan≢no_plan h (ap (plan_within (waitings ms) (lent / 2)) w ∙ few q))
      where
        few : leb (length (waitings ms)) (lent / 2) ≡ false → plan_within (waitings ms) (lent / 2) None ≡ no_plan 19 (length (waitings ms))
        few q = rw q
    go None w true q =
        let same = plan_same (ap (plan_within (waitings ms) (lent / 2)) w ∙ enough q) h in
        let count = ap length same in
        let f = (plan_filled (waitings ms) (long_none 0 (waitings ms) w)).count in
        omega (arith, count, f, leb-true (length (waitings ms)) (lent / 2) q)
      where
        enough : leb (length (waitings ms)) (lent / 2) ≡ true → plan_within (waitings ms) (lent / 2) None ≡ plan_of (plan (waitings ms))
        enough q = rw q

pub plan_lent : PlanListed
unfolding plan_listed
plan_lent ms lent = record {
  given = λ es h. ap (λ (p : Plan). entries (take (2 * length es) (plan_listed p lent))) h ∙ ap entries (take_at (entry_numbers es) (drop (2 * length es) lent) (2 * length es) (numbers_length es)) ∙ entries_numbers es;
  beyond = λ es h. ap (λ (p : Plan). drop (2 * length es) (plan_listed p lent)) h ∙ drop_at (entry_numbers es) (drop (2 * length es) lent) (2 * length es) (numbers_length es);
  kept = stays_long (planning ms (length lent)) refl;
  stays = λ n p h. ap (λ (x : Plan). plan_listed x lent) h;
}
  where
    stays_long : (x : Plan) → planning ms (length lent) ≡ x → length (plan_listed (planning ms (length lent)) lent) ≡ length lent
    stays_long (no_plan n p) h = ap (λ (x : Plan). length (plan_listed x lent)) h
    stays_long (plan_of es) h =
        ap (λ (x : Plan). length (plan_listed x lent)) h
        ∙ omega (arith, planned_room ms (length lent) es h, length-append (entry_numbers es) (drop (2 * length es) lent), numbers_length es, length-drop (2 * length es) lent)

pub plan_thrifty : PlanThrifty
plan_thrifty ws n = let f = plan_filled ws n in record { in_turn = f.turn; full = f.full }
