-- The check accepts exactly the plans, and 46 is where `BurstDemands` says: `judge_checked`, `judge_placed`.
-- The idea: entries stay begun with one more exactly if that one breaks no rule with those before it (`begun_snoc`, `begun_fits`).
-- Assumes nothing.
use Rattle.std.specs.Prelude.{◌≡◌, ℕ, zero, suc, ◌+◌, ◌<◌, ◌≤◌, Bool, true, false, not, ◌&&◌, ◌||◌, List, [], ◌∷◌, ◌++◌, length, take, drop, ◌==◌, ◌≢◌, nat_eq, nat_le, nat_lt, Option, Some, None, refl}
use Rattle.std.proofs.Common.{sym, ap, ◌∙◌, subst, true≢false, append_assoc, append-nil, arith, length-append, take-append-drop, take-suc, eqb-true, leb-false, ltb-true, ltb-false, le-ltb, eq-eqb, ne_eqb}
use Rattle.std.proofs.lemmas.Bool.{false≢true, eqb-false, not-false, lt-leb}
use Rattle.std.proofs.lemmas.Option.{none-some}
use Rattle.std.proofs.Math.ListN.{get_or-append}
use Rattle.std.proofs.Math.Seq.{take-append_seam, get_or-append_seam}
use Rattle.encoding.specs.Result.{pick}
use Rattle.encoding.proofs.ResultLaws.{both_true, either_false}
use Rattle.encoding.specs.Table.{range}
use Rattle.bursts.specs.declared.Checked.{Checked}
use Rattle.bursts.specs.declared.Checked.TheVariants.{Sound, Breaks}
use Rattle.bursts.specs.Bursts.{Waiting, Entry, most, length_of, cabin_of, any_entry, stands_in, bytes_in, follows, overtakes, broken_by, first_broken, any_missing, missing, verdict, judge}
use Rattle.bursts.specs.BurstDemands.{no_entry, entry_at, Or, one, other, Begun, Stands, ProperPlan, FortySix, at_entry, at_count}

-- ---- some entry

or_right : (a b : Bool) → b ≡ true → a || b ≡ true
or_right true b e = refl
or_right false b e = e

pub any_found : (f : Entry → Bool) (es : List Entry) → any_entry f es ≡ true → (i : ℕ) × (i < length es) × (f (entry_at es i) ≡ true)
unfolding any_entry
any_found f [] e = absurd (false≢true e)
any_found f (x ∷ es) e = go (f x) refl e (λ w. any_found f es w)
  where
    go : (b : Bool) → f x ≡ b → b || any_entry f es ≡ true → (any_entry f es ≡ true → (i : ℕ) × (i < length es) × (f (entry_at es i) ≡ true))
        → (i : ℕ) × (i < length (x ∷ es)) × (f (entry_at (x ∷ es) i) ≡ true)
    go true w e ih = (0, omega arith, w)
    go false w e ih = let r = ih e in (suc r.0, omega (arith, r.1), r.2)

pub any_at : (f : Entry → Bool) (es : List Entry) (i : ℕ) → i < length es → f (entry_at es i) ≡ true → any_entry f es ≡ true
unfolding any_entry
any_at f [] i h w = absurd (omega arith)
any_at f (x ∷ es) zero h w = rw w
any_at f (x ∷ es) (suc i) h w = or_right (f x) (any_entry f es) (any_at f es i (omega arith) w)

pub any_none : (f : Entry → Bool) (es : List Entry) → any_entry f es ≡ false → (i : ℕ) → i < length es → f (entry_at es i) ≡ false
any_none f es e i h = go (f (entry_at es i)) refl
  where
    go : (b : Bool) → f (entry_at es i) ≡ b → f (entry_at es i) ≡ false
    go true w = absurd (true≢false (sym (any_at f es i h w) ∙ e))
    go false w = w

pub none_any : (f : Entry → Bool) (es : List Entry) → ((i : ℕ) → i < length es → f (entry_at es i) ≢ true) → any_entry f es ≡ false
none_any f es n = go (any_entry f es) refl
  where
    go : (b : Bool) → any_entry f es ≡ b → any_entry f es ≡ false
    go true w = let r = any_found f es w in absurd (n r.0 r.1 r.2)
    go false w = w

pub stands_of : (es : List Entry) (m : ℕ) → stands_in m es ≡ true → Stands es m
unfolding stands_in
stands_of es m e =
    let r = any_found (λ x. nat_eq x.message m) es e in
    record { at = r.0; inside = r.1; here = eqb-true (entry_at es r.0).message m r.2 }

pub of_stands : (es : List Entry) (m : ℕ) → Stands es m → stands_in m es ≡ true
unfolding stands_in
of_stands es m s = any_at (λ x. nat_eq x.message m) es s.at s.inside (eq-eqb (entry_at es s.at).message m s.here)

-- ---- bytes and bursts

pub bytes_append : (ws : List Waiting) (b : ℕ) (xs ys : List Entry) → bytes_in ws b (xs ++ ys) ≡ bytes_in ws b xs + bytes_in ws b ys
unfolding bytes_in
bytes_append ws b [] ys = omega arith
bytes_append ws b (x ∷ xs) ys = omega (arith, bytes_append ws b xs ys)

pub bytes_one : (ws : List Waiting) (e : Entry) → bytes_in ws e.burst (e ∷ []) ≡ length_of ws e.message
unfolding bytes_in
bytes_one ws e = rw (eq-eqb e.burst e.burst refl) (omega arith)

pub bytes_other : (ws : List Waiting) (b : ℕ) (e : Entry) → (e.burst ≢ b) → bytes_in ws b (e ∷ []) ≡ 0
unfolding bytes_in
bytes_other ws b e n = rw (ne_eqb e.burst b n) (omega arith)

follows_at : (es : List Entry) (i b : ℕ) → suc i ≡ length es → follows es b ≡ (b == (entry_at es i).burst || b == suc (entry_at es i).burst)
unfolding follows
follows_at [] i b h = absurd (omega arith)
follows_at (e ∷ []) zero b h = refl
follows_at (e ∷ []) (suc i) b h = absurd (omega arith)
follows_at (e ∷ d ∷ es) zero b h = absurd (omega arith)
follows_at (e ∷ d ∷ es) (suc i) b h = follows_at (d ∷ es) i b (omega arith)

follows_none : (es : List Entry) (b : ℕ) → length es ≡ 0 → follows es b ≡ (b == 0)
unfolding follows
follows_none [] b h = refl
follows_none (e ∷ es) b h = absurd (omega arith)

or_of : (a b c : ℕ) → (a == b || a == c) ≡ true → Or (a ≡ b) (a ≡ c)
or_of a b c e = go (a == b) refl e
  where
    go : (t : Bool) → (a == b) ≡ t → t || (a == c) ≡ true → Or (a ≡ b) (a ≡ c)
    go true w e = one (eqb-true a b w)
    go false w e = other (eqb-true a c e)

of_or : (a b c : ℕ) → Or (a ≡ b) (a ≡ c) → (a == b || a == c) ≡ true
of_or a b c (one e) = rw (eq-eqb a b e)
of_or a b c (other e) = or_right (a == b) (a == c) (eq-eqb a c e)

-- ---- one more entry

-- entry e breaks no rule with the entries before it: no test of `broken_by` applies
pub record Fits (ws : List Waiting) (before : List Entry) (e : Entry) : Type 0 where
  pub known : e.message < length ws
  pub new : (i : ℕ) → i < length before → (entry_at before i).message ≢ e.message
  pub starts : length before ≡ 0 → e.burst ≡ 0
  pub steps : (i : ℕ) → suc i ≡ length before → Or (e.burst ≡ (entry_at before i).burst) (e.burst ≡ suc (entry_at before i).burst)
  pub sum : bytes_in ws e.burst before + length_of ws e.message ≤ most
  pub order : (i : ℕ) → i < length before → cabin_of ws (entry_at before i).message ≡ cabin_of ws e.message → (entry_at before i).message ≤ e.message

pub fits_of : (ws : List Waiting) (before : List Entry) (e : Entry) → broken_by ws before e ≡ false → Fits ws before e
unfolding broken_by stands_in overtakes
fits_of ws before e h =
    let a = either_false (nat_le (length ws) e.message) _ h in
    let b = either_false (stands_in e.message before) _ a.1 in
    let c = either_false (not (follows before e.burst)) _ b.1 in
    let d = either_false (nat_lt most (bytes_in ws e.burst before + length_of ws e.message)) _ c.1 in
    let f = not-false (follows before e.burst) c.0 in
    record {
      known = leb-false (length ws) e.message a.0;
      new = λ i k. eqb-false (entry_at before i).message e.message (any_none (λ x. nat_eq x.message e.message) before b.0 i k);
      starts = λ z. eqb-true e.burst 0 (sym (follows_none before e.burst z) ∙ f);
      steps = λ i k. or_of e.burst (entry_at before i).burst (suc (entry_at before i).burst) (sym (follows_at before i e.burst k) ∙ f);
      sum = ltb-false most (bytes_in ws e.burst before + length_of ws e.message) d.0;
      order = λ i k same. in_order i (any_none (λ x. (cabin_of ws x.message == cabin_of ws e.message) && nat_lt e.message x.message) before d.1 i k) same;
    }
  where
    in_order : (i : ℕ) → (cabin_of ws (entry_at before i).message == cabin_of ws e.message && nat_lt e.message (entry_at before i).message) ≡ false
        → cabin_of ws (entry_at before i).message ≡ cabin_of ws e.message → (entry_at before i).message ≤ e.message
    in_order i w same = ltb-false e.message (entry_at before i).message (rw (eq-eqb _ _ same) at w)

pub of_fits : (ws : List Waiting) (before : List Entry) (e : Entry) → Fits ws before e → broken_by ws before e ≡ false
unfolding broken_by stands_in overtakes
of_fits ws before e f =
    rw (
      lt-leb (length ws) e.message f.known,
      none_any (λ x. nat_eq x.message e.message) before (λ i k w. f.new i k (eqb-true (entry_at before i).message e.message w)),
      going (length before) refl,
      le-ltb most (bytes_in ws e.burst before + length_of ws e.message) f.sum,
    )
    (none_any (λ x. (cabin_of ws x.message == cabin_of ws e.message) && nat_lt e.message x.message) before overtaken)
  where
    going : (n : ℕ) → length before ≡ n → follows before e.burst ≡ true
    going zero z = follows_none before e.burst z ∙ eq-eqb e.burst 0 (f.starts z)
    going (suc i) z = follows_at before i e.burst (sym z) ∙ of_or e.burst (entry_at before i).burst (suc (entry_at before i).burst) (f.steps i (sym z))

    overtaken : (i : ℕ) → i < length before → (cabin_of ws (entry_at before i).message == cabin_of ws e.message && nat_lt e.message (entry_at before i).message) ≢ true
    overtaken i k w =
        let b = both_true (cabin_of ws (entry_at before i).message == cabin_of ws e.message) _ w in
        let g = f.order i k (eqb-true _ _ b.0) in
        let l = ltb-true e.message (entry_at before i).message b.1 in
        omega arith

-- ---- entries one by one

-- the first entries of begun ones are begun
pub begun_front : (ws : List Waiting) (xs ys : List Entry) → Begun ws (xs ++ ys) → Begun ws xs
begun_front ws xs ys b = record {
  known = λ i k. rw (here i k) at (b.known i (wide i k));
  once = λ i j l k e. b.once i j l (wide j k) (ap (λ (x : Entry). x.message) (here i (omega (arith, l, k))) ∙ e ∙ sym (ap (λ (x : Entry). x.message) (here j k)));
  first = λ k. rw (here 0 k) at (b.first (wide 0 k));
  next = λ i k. rw (here i (omega (arith, k)), here (suc i) k) at (b.next i (wide (suc i) k));
  sums = λ c. omega (arith, b.sums c, bytes_append ws c xs ys);
  order = λ i j l k. rw (here i (omega (arith, l, k)), here j k) at (b.order i j l (wide j k));
}
  where
    wide : (i : ℕ) → i < length xs → i < length (xs ++ ys)
    wide i k = omega (arith, length-append xs ys)

    here : (i : ℕ) → i < length xs → entry_at (xs ++ ys) i ≡ entry_at xs i
    here i k = get_or-append xs ys no_entry i k

-- place i of xs and one entry more: inside xs, or the last
pub data Spot (xs : List Entry) (e : Entry) (i : ℕ) : Type 0 where
  inner : i < length xs → entry_at (xs ++ (e ∷ [])) i ≡ entry_at xs i → Spot xs e i
  last : i ≡ length xs → entry_at (xs ++ (e ∷ [])) i ≡ e → Spot xs e i

pub spot : (xs : List Entry) (e : Entry) (i : ℕ) → i < length (xs ++ (e ∷ [])) → Spot xs e i
spot xs e i k = go (nat_lt i (length xs)) refl
  where
    go : (b : Bool) → nat_lt i (length xs) ≡ b → Spot xs e i
    go true w = inner (ltb-true i (length xs) w) (get_or-append xs (e ∷ []) no_entry i (ltb-true i (length xs) w))
    go false w =
        let z : i ≡ length xs = omega (arith, ltb-false i (length xs) w, length-append xs (e ∷ []), k) in
        last z (ap (entry_at (xs ++ (e ∷ []))) z ∙ get_or-append_seam xs e [] no_entry)

pub begun_snoc : (ws : List Waiting) (xs : List Entry) (e : Entry) → Begun ws xs → Fits ws xs e → Begun ws (xs ++ (e ∷ []))
begun_snoc ws xs e b f = record {
  known = λ i k. known_at i (spot xs e i k);
  once = λ i j l k. once_at i j l (spot xs e i (omega (arith, l, k))) (spot xs e j k);
  first = λ k. first_at (spot xs e 0 k);
  next = λ i k. next_at i (spot xs e i (omega (arith, k))) (spot xs e (suc i) k);
  sums = λ c. sums_at c (e.burst == c) refl;
  order = λ i j l k. order_at i j l (spot xs e i (omega (arith, l, k))) (spot xs e j k);
}
  where
    all : List Entry
    all = xs ++ (e ∷ [])

    known_at : (i : ℕ) → Spot xs e i → (entry_at (xs ++ (e ∷ [])) i).message < length ws
    known_at i (inner k w) = rw w (b.known i k)
    known_at i (last k w) = rw w f.known

    once_at : (i j : ℕ) → i < j → Spot xs e i → Spot xs e j → (entry_at (xs ++ (e ∷ [])) i).message ≢ (entry_at (xs ++ (e ∷ [])) j).message
    once_at i j l (inner k w) (inner k' w') = rw (w, w') (b.once i j l k')
    once_at i j l (inner k w) (last k' w') = rw (w, w') (f.new i k)
    once_at i j l (last k w) (inner k' w') = absurd (omega arith)
    once_at i j l (last k w) (last k' w') = absurd (omega arith)

    first_at : Spot xs e 0 → (entry_at (xs ++ (e ∷ [])) 0).burst ≡ 0
    first_at (inner k w) = rw w (b.first k)
    first_at (last k w) = rw w (f.starts (sym k))

    next_at : (i : ℕ) → Spot xs e i → Spot xs e (suc i)
        → Or ((entry_at (xs ++ (e ∷ [])) (suc i)).burst ≡ (entry_at (xs ++ (e ∷ [])) i).burst) ((entry_at (xs ++ (e ∷ [])) (suc i)).burst ≡ suc (entry_at (xs ++ (e ∷ [])) i).burst)
    next_at i (inner k w) (inner k' w') = rw (w, w') (b.next i k')
    next_at i (inner k w) (last k' w') = rw (w, w') (f.steps i k')
    next_at i (last k w) (inner k' w') = absurd (omega arith)
    next_at i (last k w) (last k' w') = absurd (omega arith)

    sums_at : (c : ℕ) (t : Bool) → (e.burst == c) ≡ t → bytes_in ws c (xs ++ (e ∷ [])) ≤ most
    sums_at c true w =
        let z = eqb-true e.burst c w in
        rw (← z) (omega (arith, bytes_append ws e.burst xs (e ∷ []), bytes_one ws e, f.sum))
    sums_at c false w = omega (arith, bytes_append ws c xs (e ∷ []), bytes_other ws c e (eqb-false e.burst c w), b.sums c)

    order_at : (i j : ℕ) → i < j → Spot xs e i → Spot xs e j
        → cabin_of ws (entry_at (xs ++ (e ∷ [])) i).message ≡ cabin_of ws (entry_at (xs ++ (e ∷ [])) j).message → (entry_at (xs ++ (e ∷ [])) i).message < (entry_at (xs ++ (e ∷ [])) j).message
    order_at i j l (inner k w) (inner k' w') = rw (w, w') (b.order i j l k')
    order_at i j l (inner k w) (last k' w') = rw (w, w') (λ same. let n = f.new i k in let o = f.order i k same in strict (entry_at xs i).message e.message n o)
      where
        strict : (x y : ℕ) → (x ≢ y) → x ≤ y → x < y
        strict x y n o = omega arith
    order_at i j l (last k w) (inner k' w') = absurd (omega arith)
    order_at i j l (last k w) (last k' w') = absurd (omega arith)

begun_fits : (ws : List Waiting) (xs : List Entry) (e : Entry) → Begun ws (xs ++ (e ∷ [])) → Fits ws xs e
begun_fits ws xs e b = record {
  known = rw end at (b.known (length xs) there);
  new = λ i k q. b.once i (length xs) k there (ap (λ (x : Entry). x.message) (here i k) ∙ q ∙ sym (ap (λ (x : Entry). x.message) end));
  starts = λ z. sym (ap (λ (x : Entry). x.burst) (ap (entry_at (xs ++ (e ∷ []))) (sym z) ∙ end)) ∙ b.first (omega (arith, there));
  steps = λ i k. steps_at i k;
  sum = omega (arith, bytes_append ws e.burst xs (e ∷ []), bytes_one ws e, b.sums e.burst);
  order = λ i k same. order_at i k same;
}
  where
    there : length xs < length (xs ++ (e ∷ []))
    there = omega (arith, length-append xs (e ∷ []))

    end : entry_at (xs ++ (e ∷ [])) (length xs) ≡ e
    end = get_or-append_seam xs e [] no_entry

    here : (i : ℕ) → i < length xs → entry_at (xs ++ (e ∷ [])) i ≡ entry_at xs i
    here i k = get_or-append xs (e ∷ []) no_entry i k

    steps_at : (i : ℕ) → suc i ≡ length xs → Or (e.burst ≡ (entry_at xs i).burst) (e.burst ≡ suc (entry_at xs i).burst)
    steps_at i k = rw (here i (omega arith), ap (entry_at (xs ++ (e ∷ []))) k ∙ end) at (b.next i (omega (arith, there)))

    order_at : (i : ℕ) → i < length xs → cabin_of ws (entry_at xs i).message ≡ cabin_of ws e.message → (entry_at xs i).message ≤ e.message
    order_at i k same =
        let o : cabin_of ws (entry_at xs i).message ≡ cabin_of ws e.message → (entry_at xs i).message < e.message = rw (here i k, end) at (b.order i (length xs) k there) in
        let l = o same in
        omega arith

-- ---- the first entry that breaks a rule

some_same : {o : Option ℕ} {a b : ℕ} → o ≡ Some a → o ≡ Some b → a ≡ b
some_same e h = cc

pub broken_step : (ws : List Waiting) (i : ℕ) (before : List Entry) (e : Entry) (es : List Entry) → broken_by ws before e ≡ false
    → first_broken ws i before (e ∷ es) ≡ first_broken ws (suc i) (before ++ (e ∷ [])) es
unfolding first_broken
broken_step ws i before e es w = rw w

pub broken_here : (ws : List Waiting) (i : ℕ) (before : List Entry) (e : Entry) (es : List Entry) → broken_by ws before e ≡ true
    → first_broken ws i before (e ∷ es) ≡ Some i
unfolding first_broken
broken_here ws i before e es w = rw w

-- if no entry breaks a rule, all are begun
none_begun : (ws : List Waiting) (i : ℕ) (before es : List Entry) → first_broken ws i before es ≡ None → Begun ws before → Begun ws (before ++ es)
none_begun ws i before [] h b = rw (append-nil before) b
none_begun ws i before (e ∷ es) h b = go (broken_by ws before e) refl (λ u v. none_begun ws (suc i) (before ++ (e ∷ [])) es u v)
  where
    go : (t : Bool) → broken_by ws before e ≡ t
        → (first_broken ws (suc i) (before ++ (e ∷ [])) es ≡ None → Begun ws (before ++ (e ∷ [])) → Begun ws (before ++ (e ∷ []) ++ es)) → Begun ws (before ++ (e ∷ es))
    go true w ih = absurd (none-some i (sym h ∙ broken_here ws i before e es w))
    go false w ih =
        subst (λ (l : List Entry). Begun ws l) (append_assoc before (e ∷ []) es)
        (ih (sym (broken_step ws i before e es w) ∙ h) (begun_snoc ws before e b (fits_of ws before e w)))

-- the first k entries are begun, and with one more they are not
record Stops (ws : List Waiting) (es : List Entry) (k : ℕ) : Type 0 where
  inside : k < length es
  so_far : Begun ws (take k es)
  no_further : Begun ws (take (suc k) es) → ⊥

some_stops : (ws : List Waiting) (i k : ℕ) (before es : List Entry) → i ≡ length before → first_broken ws i before es ≡ Some k → Begun ws before → Stops ws (before ++ es) k
unfolding first_broken
some_stops ws i k before [] z h b = absurd (none-some k h)
some_stops ws i k before (e ∷ es) z h b = go (broken_by ws before e) refl (λ u v w. some_stops ws (suc i) k (before ++ (e ∷ [])) es u v w)
  where
    here : k ≡ length before → broken_by ws before e ≡ true → Stops ws (before ++ (e ∷ es)) k
    here q w =
        let inside : k < length (before ++ (e ∷ es)) = omega (arith, length-append before (e ∷ es)) in
        let front : take k (before ++ (e ∷ es)) ≡ before = ap (λ (n : ℕ). take n (before ++ (e ∷ es))) q ∙ take-append_seam before (e ∷ es) in
        let entry : entry_at (before ++ (e ∷ es)) k ≡ e = ap (entry_at (before ++ (e ∷ es))) q ∙ get_or-append_seam before e es no_entry in
        let more : take (suc k) (before ++ (e ∷ es)) ≡ before ++ (e ∷ []) = take-suc (before ++ (e ∷ es)) k no_entry inside ∙ ap (λ (l : List Entry). l ++ (entry_at (before ++ (e ∷ es)) k ∷ [])) front ∙ ap (λ (x : Entry). before ++ (x ∷ [])) entry in
        record {
          inside = inside;
          so_far = subst (λ (l : List Entry). Begun ws l) (sym front) b;
          no_further = λ g. true≢false (sym w ∙ of_fits ws before e (begun_fits ws before e (subst (λ (l : List Entry). Begun ws l) more g)));
        }

    go : (t : Bool) → broken_by ws before e ≡ t
        → (suc i ≡ length (before ++ (e ∷ [])) → first_broken ws (suc i) (before ++ (e ∷ [])) es ≡ Some k → Begun ws (before ++ (e ∷ [])) → Stops ws (before ++ (e ∷ []) ++ es) k)
        → Stops ws (before ++ (e ∷ es)) k
    go true w ih = here (some_same h (broken_here ws i before e es w) ∙ z) w
    go false w ih =
        subst (λ (l : List Entry). Stops ws l k) (append_assoc before (e ∷ []) es)
        (ih (omega (arith, length-append before (e ∷ []))) (sym (broken_step ws i before e es w) ∙ h) (begun_snoc ws before e b (fits_of ws before e w)))

-- an empty list is begun
pub begun_empty : (ws : List Waiting) → Begun ws []
unfolding bytes_in
begun_empty ws = record {
  known = λ i k. absurd (omega (arith, k));
  once = λ i j l k e. omega (arith, k);
  first = λ k. absurd (omega (arith, k));
  next = λ i k. absurd (omega (arith, k));
  sums = λ b. omega arith;
  order = λ i j l k e. absurd (omega (arith, k));
}

begun_take : (ws : List Waiting) (k : ℕ) (es : List Entry) → Begun ws es → Begun ws (take k es)
begun_take ws k es b = begun_front ws (take k es) (drop k es) (subst (λ (l : List Entry). Begun ws l) (sym (take-append-drop k es)) b)

take_take : {A : Type 0} (j k : ℕ) (l : List A) → j ≤ k → take j (take k l) ≡ take j l
take_take zero k l h = refl
take_take (suc j) zero l h = absurd (omega arith)
take_take (suc j) (suc k) [] h = refl
take_take {A} (suc j) (suc k) (x ∷ l) h = ap {B = List A} (λ r. x ∷ r) (take_take j k l (omega arith))

-- entries stop at one place only
stops_once : (ws : List Waiting) (es : List Entry) (j k : ℕ) → Stops ws es j → Stops ws es k → j < k → ⊥
stops_once ws es j k s t l = s.no_further (subst (λ (x : List Entry). Begun ws x) (take_take (suc j) k es l) (begun_take ws (suc j) (take k es) t.so_far))

stops_same : (ws : List Waiting) (es : List Entry) (j k : ℕ) → Stops ws es j → Stops ws es k → j ≡ k
stops_same ws es j k s t = go (nat_lt j k) refl (nat_lt k j) refl
  where
    go : (a : Bool) → nat_lt j k ≡ a → (b : Bool) → nat_lt k j ≡ b → j ≡ k
    go true w b v = absurd (stops_once ws es j k s t (ltb-true j k w))
    go false w true v = absurd (stops_once ws es k j t s (ltb-true k j v))
    go false w false v = omega (arith, ltb-false j k w, ltb-false k j v)

-- ---- messages that are missing

pub missing_none : (es : List Entry) (i k m : ℕ) → any_missing es (range i k) ≡ false → i ≤ m → m < i + k → stands_in m es ≡ true
unfolding any_missing range
missing_none es i zero m h a b = absurd (omega arith)
missing_none es i (suc k) m h a b = go (i == m) refl (either_false (not (stands_in i es)) _ h) (λ u v w. missing_none es (suc i) k m u v w)
  where
    go : (t : Bool) → (i == m) ≡ t → (not (stands_in i es) ≡ false) × (any_missing es (range (suc i) k) ≡ false)
        → (any_missing es (range (suc i) k) ≡ false → suc i ≤ m → m < suc i + k → stands_in m es ≡ true) → stands_in m es ≡ true
    go true w p ih = ap (λ (n : ℕ). stands_in n es) (sym (eqb-true i m w)) ∙ not-false (stands_in i es) p.0
    go false w p ih = let n = eqb-false i m w in ih p.1 (away i m n a) (omega arith)
      where
        away : (x y : ℕ) → (x ≢ y) → x ≤ y → suc x ≤ y
        away x y n l = omega arith

pub missing_some : (es : List Entry) (i k : ℕ) → any_missing es (range i k) ≡ true → (m : ℕ) × (m < i + k) × (stands_in m es ≡ false)
unfolding any_missing range
missing_some es i zero h = absurd (false≢true h)
missing_some es i (suc k) h = go (stands_in i es) refl h (λ u. missing_some es (suc i) k u)
  where
    go : (t : Bool) → stands_in i es ≡ t → not t || any_missing es (range (suc i) k) ≡ true
        → (any_missing es (range (suc i) k) ≡ true → (m : ℕ) × (m < suc i + k) × (stands_in m es ≡ false)) → (m : ℕ) × (m < i + suc k) × (stands_in m es ≡ false)
    go true w e ih = let r = ih e in (r.0, omega (arith, r.1), r.2)
    go false w e ih = (i, omega arith, w)

-- ---- the check

breaks_same : {c : Checked} {i j : ℕ} → c ≡ Breaks i → c ≡ Breaks j → i ≡ j
breaks_same e h = cc

sound≢breaks : {c : Checked} {i : ℕ} → c ≡ Sound → c ≢ Breaks i
sound≢breaks e h = let z : ◌≡◌ {A = ℕ} 0 1 = cc in omega arith

-- what the check has found
data Verdict (ws : List Waiting) (es : List Entry) : Type 0 where
  stopped : (k : ℕ) → Stops ws es k → judge ws es ≡ Breaks k → Verdict ws es
  lacking : Begun ws es → (m : ℕ) → m < length ws → (Stands es m → ⊥) → judge ws es ≡ Breaks (length es) → Verdict ws es
  proper : ProperPlan ws es → judge ws es ≡ Sound → Verdict ws es

verdict_of : (ws : List Waiting) (es : List Entry) → Verdict ws es
unfolding judge verdict missing
verdict_of ws es = go (first_broken ws 0 [] es) refl
  where
    whole : Begun ws es → (t : Bool) → missing ws es ≡ t → judge ws es ≡ pick t (Breaks (length es)) Sound → Verdict ws es
    whole b true w q =
        let r = missing_some es 0 (length ws) w in
        lacking b r.0 (omega (arith, r.1)) (λ s. true≢false (sym (of_stands es r.0 s) ∙ r.2)) q
    whole b false w q = proper (record { begun = b; all = λ m k. stands_of es m (missing_none es 0 (length ws) m w (omega arith) (omega (arith, k))) }) q

    go : (o : Option ℕ) → first_broken ws 0 [] es ≡ o → Verdict ws es
    go (Some k) w = stopped k (some_stops ws 0 k [] es refl w (begun_empty ws)) (ap (verdict ws es) w)
    go None w = whole (none_begun ws 0 [] es w (begun_empty ws)) (missing ws es) refl (ap (verdict ws es) w)

pub judge_checked : (ws : List Waiting) (es : List Entry) → (judge ws es ≡ Sound → ProperPlan ws es) × (ProperPlan ws es → judge ws es ≡ Sound)
judge_checked ws es = (accepted (verdict_of ws es), taken (verdict_of ws es))
  where
    accepted : Verdict ws es → judge ws es ≡ Sound → ProperPlan ws es
    accepted (stopped k s q) e = absurd (sound≢breaks e q)
    accepted (lacking b m l n q) e = absurd (sound≢breaks e q)
    accepted (proper p q) e = p

    taken : Verdict ws es → ProperPlan ws es → judge ws es ≡ Sound
    taken (stopped k s q) p = absurd (s.no_further (begun_take ws (suc k) es p.begun))
    taken (lacking b m l n q) p = absurd (n (p.all m l))
    taken (proper p' q) p = q

pub judge_placed : (ws : List Waiting) (es : List Entry) (i : ℕ) → (judge ws es ≡ Breaks i → FortySix ws es i) × (FortySix ws es i → judge ws es ≡ Breaks i)
judge_placed ws es i = (told (verdict_of ws es), placed (verdict_of ws es))
  where
    told : Verdict ws es → judge ws es ≡ Breaks i → FortySix ws es i
    told (stopped k s q) e = subst (λ (n : ℕ). FortySix ws es n) (breaks_same q e) (at_entry s.inside s.so_far s.no_further)
    told (lacking b m l n q) e = at_count (breaks_same e q) b m l n
    told (proper p q) e = absurd (sound≢breaks q e)

    placed : Verdict ws es → FortySix ws es i → judge ws es ≡ Breaks i
    placed (stopped k s q) (at_entry a b c) = q ∙ ap Breaks (stops_same ws es k i s (record { inside = a; so_far = b; no_further = c }))
    placed (stopped k s q) (at_count a b m l n) = absurd (s.no_further (begun_take ws (suc k) es b))
    placed (lacking b m l n q) (at_entry a b' c) = absurd (c (begun_take ws (suc i) es b))
    placed (lacking b m l n q) (at_count a b' m' l' n') = q ∙ ap Breaks (sym a)
    placed (proper p q) (at_entry a b c) = absurd (c (begun_take ws (suc i) es p.begun))
    placed (proper p q) (at_count a b m l n) = absurd (n (p.all m l))
