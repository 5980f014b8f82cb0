-- The plan of a type, and rows that choose from it: judging rows is a walk over the slots that are still to come.
--
--   Pairs R l                      R holds of every two of a list, the earlier first; all_mapped, pairs_mapped, _append, _with
--   RowsDiffer, KeysDiffer, KeysRise   of two members; all_rising, rises_rising, differ_rising: of members by rising tag
--   from least l                   of members by rising tag, those whose tag is at least `least`; from_zero: all of them
--   Spot, find m ss                the slot of member row m with no due slot before it, and the slots after it
--   find_left, find_down           what holds of the slots from the one found on, and of all of them
--   find_member, optional_spot     the slot found is the row's; the slot of a known optional whose tag may come
--   Ordered T t                    the optionals of an owner differ in row and in tag
--   future T s                     the slots that are still to come in state s
--   any_due, given_of                a slot is due; what a row that chooses a slot gives
--   judge_slot, judge_slots          the judgement of rows by the slots to come; judge_slots_lem: it is the one by states
--   out≢stop, next_ok              what lets pass does not stop; one judgement after another lets pass
--   Fitting, judge_slot_step        a row that chooses a slot, lies in the buffer and has its type's bytes
--   Judged                         rows that are judged right, with what they give; judged_ok, judged_step: those that judge_slots lets pass
--   SlotsDiffer                    no two slots have one member row
--   find_judged, missed_all        rows from the slot found on; no row, where none is due
--   judged_chosen, first_among     rows that are judged right choose their slots; the first row's slot is one of them
use Rattle.std.specs.Prelude.{◌≡◌, Bool, ◌&&◌, length, eqb}
use Rattle.std.proofs.Math.Path.{refl, sym, ap, ap₂, subst}
use Rattle.std.proofs.Common.{◌∙◌, arith}
use Rattle.std.proofs.Math.Bool.{true, false, ◌||◌}
use Rattle.std.proofs.Math.Option.{Option, none, some}
use mathlib.Core.List.{List, [], ◌∷◌, ◌++◌, map, append-nil}
use Prim.Native.Nat.{ℕ, suc, ◌+◌, ◌≤◌, ◌<◌}
use Rattle.std.proofs.Math.Dec.{leb}
use borrow.Author.Tests.{leb-true, leb-false, eqb-true, le-leb, lt-leb, eq-eqb, ne_eqb}
use Rattle.encoding.specs.Result.{pick}
use Rattle.encoding.proofs.ResultLaws.{some≢none, both_true, either_false}
use Rattle.encoding.specs.Types.{form_of}
use Rattle.encoding.specs.Value.{exact}
use Rattle.encoding.specs.Table.{Member, lookup, required_members, optional_members, any}
use Rattle.encoding.specs.Optional
use Rattle.encoding.specs.Message.{Row}
use Rattle.encoding.specs.Write
use Rattle.encoding.specs.Old.{type_as, any_of}
use Rattle.encoding.specs.Write.{Slot, Chosen, chosen, left, RowsWithin, insert, rising, slot, slots, plan_of, Out, out, stop, next, State, Reached, reach_due, optional_row, or_above, entered, reach_may, reach, still_due, Given, given, part_of, judge, prepend, judge_all}
use Rattle.laws.specs.Demands.{All, end, more}
use Rattle.laws.proofs.RowsExact.{all_append, all_map, lookup_all}

-- ---- every two of a list

pub data Pairs {A : Type 0} (R : A → A → Type 0) : List A → Type 0 where
  alone : Pairs R []
  before : {a : A} {l : List A} → All (R a) l → Pairs R l → Pairs R (a ∷ l)

pub all_mapped : {A B : Type 0} {P : B → Type 0} (f : A → B) {l : List A} → All (λ (a : A). P (f a)) l → All P (map f l)
all_mapped f end = end
all_mapped f (more p L) = more p (all_mapped f L)

pub pairs_mapped : {A B : Type 0} {R : B → B → Type 0} (f : A → B) {l : List A} → Pairs (λ (a b : A). R (f a) (f b)) l → Pairs R (map f l)
pairs_mapped f alone = alone
pairs_mapped f (before p L) = before (all_mapped f p) (pairs_mapped f L)

pub pairs_append : {A : Type 0} {R : A → A → Type 0} {l k : List A} → Pairs R l → Pairs R k → All (λ (a : A). All (R a) k) l → Pairs R (l ++ k)
pairs_append alone K C = K
pairs_append (before p L) K (more c C) = before (all_append p c) (pairs_append L K C)

-- what two elements with a property each have
pub pairs_with : {A : Type 0} {P : A → Type 0} {R S : A → A → Type 0} {l : List A} → ((a b : A) → P a → P b → R a b → S a b) → All P l → Pairs R l → Pairs S l
pairs_with f end alone = alone
pairs_with {A} {P} {R} {S} f (more {a} p L) (before r K) = before (go L r) (pairs_with f L K)
  where
    go : {l : List A} → All P l → All (R a) l → All (S a) l
    go end end = end
    go (more {a = b} q L) (more s K) = more (f a b p q s) (go L K)

-- ---- members by rising tag

abbrev pub RowsDiffer : Member → Member → Type 0
RowsDiffer a b = a.row ≡ b.row → ⊥

abbrev pub KeysDiffer : Member → Member → Type 0
KeysDiffer a b = a.key ≡ b.key → ⊥

abbrev pub KeysRise : Member → Member → Type 0
KeysRise a b = a.key < b.key

all_insert : {P : Member → Type 0} (m : Member) {ms : List Member} → P m → All P ms → All P (insert m ms)
unfolding insert
all_insert m p end = more p end
all_insert {P} m p (more {a} {l} q L) = go (leb m.key a.key) (all_insert m p L)
  where
    go : (b : Bool) → All P (insert m l) → All P (pick b (m ∷ a ∷ l) (a ∷ insert m l))
    go true K = more p (more q L)
    go false K = more q K

pub all_rising : {P : Member → Type 0} {ms : List Member} → All P ms → All P (rising ms)
unfolding rising
all_rising end = end
all_rising (more {a} p L) = all_insert a p (all_rising L)

rises_insert : (m : Member) {ms : List Member} → All (KeysDiffer m) ms → Pairs KeysRise ms → Pairs KeysRise (insert m ms)
unfolding insert
rises_insert m end alone = before end alone
rises_insert m (more {a} {l} d D) (before r R) = go (leb m.key a.key) refl (rises_insert m D R)
  where
    go : (b : Bool) → leb m.key a.key ≡ b → Pairs KeysRise (insert m l) → Pairs KeysRise (pick b (m ∷ a ∷ l) (a ∷ insert m l))
    go true e K =
        let h : m.key ≤ a.key = leb-true m.key a.key e in
        let g : m.key < a.key = omega (arith, d) in
        before {a = m} (more g (all_map (λ (x : Member) (y : KeysRise a x). omega arith) r)) (before r R)
    go false e K = before (all_insert m (leb-false m.key a.key e) r) K

pub rises_rising : {ms : List Member} → Pairs KeysDiffer ms → Pairs KeysRise (rising ms)
unfolding rising
rises_rising alone = alone
rises_rising (before {a} d D) = rises_insert a (all_rising d) (rises_rising D)

differ_insert : (m : Member) {ms : List Member} → All (RowsDiffer m) ms → Pairs RowsDiffer ms → Pairs RowsDiffer (insert m ms)
unfolding insert
differ_insert m end alone = before end alone
differ_insert m (more {a} {l} d D) (before r R) = go (leb m.key a.key) (differ_insert m D R)
  where
    go : (b : Bool) → Pairs RowsDiffer (insert m l) → Pairs RowsDiffer (pick b (m ∷ a ∷ l) (a ∷ insert m l))
    go true K = before (more d D) (before r R)
    go false K = before (all_insert m (λ e. d (sym e)) r) K

pub differ_rising : {ms : List Member} → Pairs RowsDiffer ms → Pairs RowsDiffer (rising ms)
unfolding rising
differ_rising alone = alone
differ_rising (before {a} d D) = differ_insert a (all_rising d) (differ_rising D)

-- ---- an optional by its row

optional_row_all : {P : Member → Type 0} (m least : ℕ) {ms : List Member} {d : Member} → All P ms → optional_row m least ms ≡ some d → P d
unfolding optional_row
optional_row_all m least end h = absurd (some≢none h refl)
optional_row_all {P} m least {d = d} (more {a} {l} p L) h = go (eqb m a.row && leb least a.key) h (λ h. optional_row_all m least L h)
  where
    go : (b : Bool) → pick b (some a) (optional_row m least l) ≡ some d → (optional_row m least l ≡ some d → P d) → P d
    go true h ih = let e : a ≡ d = cc in subst P e p
    go false h ih = ih h

-- rows differ, so the order in which they are looked at does not matter
module _ (m least : ℕ) where
  abbrev test : Member → Bool
  test d = eqb m d.row && leb least d.key

  row_swap : (a b : Member) (o : Option Member) → RowsDiffer a b → pick (test b) (some b) (pick (test a) (some a) o) ≡ pick (test a) (some a) (pick (test b) (some b) o)
  row_swap a b o d = go (test a) refl (test b) refl
    where
      go : (p : Bool) → test a ≡ p → (q : Bool) → test b ≡ q → pick q (some b) (pick p (some a) o) ≡ pick p (some a) (pick q (some b) o)
      go true e true f =
          absurd (d (sym (eqb-true m a.row (both_true (eqb m a.row) (leb least a.key) e).0) ∙ eqb-true m b.row (both_true (eqb m b.row) (leb least b.key) f).0))
      go true e false f = refl
      go false e q f = refl

  row_insert : (a : Member) {ms : List Member} → All (RowsDiffer a) ms → optional_row m least (insert a ms) ≡ optional_row m least (a ∷ ms)
  unfolding optional_row insert
  row_insert a end = refl
  row_insert a (more {a = b} {l} d D) = go (leb a.key b.key) (row_insert a D)
    where
      go : (q : Bool) → optional_row m least (insert a l) ≡ optional_row m least (a ∷ l) → optional_row m least (pick q (a ∷ b ∷ l) (b ∷ insert a l)) ≡ optional_row m least (a ∷ b ∷ l)
      go true ih = refl
      go false ih = ap (λ (o : Option Member). pick (test b) (some b) o) ih ∙ row_swap a b (optional_row m least l) d

  row_rising : {ms : List Member} → Pairs RowsDiffer ms → optional_row m least (rising ms) ≡ optional_row m least ms
  unfolding optional_row rising
  row_rising alone = refl
  row_rising (before {a} {l} d D) = row_insert a (all_rising d) ∙ ap (λ (o : Option Member). pick (test a) (some a) o) (row_rising D)

-- the optional of a tag is found by its row
row_found : (k least : ℕ) {ms : List Member} {d : Member} → Pairs RowsDiffer ms → lookup k ms ≡ some d → least ≤ k → optional_row d.row least ms ≡ some d
unfolding optional_row lookup
row_found k least alone h l = absurd (some≢none h refl)
row_found k least {d = d} (before {a} {l} D P) h i = go (eqb k a.key) refl h (λ h. row_found k least P h i)
  where
    go : (q : Bool) → eqb k a.key ≡ q → pick q (some a) (lookup k l) ≡ some d → (lookup k l ≡ some d → optional_row d.row least l ≡ some d)
        → pick (eqb d.row a.row && leb least a.key) (some a) (optional_row d.row least l) ≡ some d
    go true e h ih =
        let s : a ≡ d = cc in
        rw (eq-eqb d.row a.row (ap (λ (x : Member). x.row) (sym s)), le-leb least a.key (omega (arith, eqb-true k a.key e))) (ap some s)
    go false e h ih = rw (ne_eqb d.row a.row (λ q. lookup_all k D h (sym q))) (ih h)

-- those whose tag is at least `least`
unfoldable pub from : ℕ → List Member → List Member
from least [] = []
from least (d ∷ ds) = pick (leb least d.key) (d ∷ ds) (from least ds)

from_all : {least : ℕ} {ds : List Member} → All (λ (e : Member). least ≤ e.key) ds → from least ds ≡ ds
unfolding from
from_all end = refl
from_all {least} (more {a} p L) = rw (le-leb least a.key p)

pub from_zero : (ds : List Member) → from 0 ds ≡ ds
unfolding from
from_zero [] = refl
from_zero (d ∷ ds) = rw (le-leb 0 d.key (omega arith))

-- ---- the next slot

-- a slot, and those after it
pub record Spot : Type 0 where
  pub slot : Slot
  pub rest : List Slot

-- the slot of member row m with no due slot before it
unfoldable pub find : ℕ → List Slot → Option Spot
find m [] = none
find m (s ∷ ss) = pick (eqb m s.member.row) (some (record { slot = s; rest = ss })) (pick s.due none (find m ss))

-- an optional of the owner, or what is found after its slots
unfoldable or_rest : ℕ → List Member → List Slot → Option Spot → Option Member → Option Spot
or_rest o l rest f none = f
or_rest o l rest f (some d) = some (record { slot = slot o false d; rest = map (slot o false) (from (suc d.key) l) ++ rest })

optional_find : (o m least : ℕ) (l : List Member) (rest : List Slot) → Pairs KeysRise l
    → find m (map (slot o false) (from least l) ++ rest) ≡ or_rest o l rest (find m rest) (optional_row m least l)
unfolding find from optional_row or_rest slot
optional_find o m least [] rest R = refl
optional_find o m least (d ∷ ds) rest (before r R) =
    go (leb least d.key) refl (optional_find o m least ds rest R)
  where
    later : (e : Option Member) → optional_row m least ds ≡ e → or_rest o ds rest (find m rest) e ≡ or_rest o (d ∷ ds) rest (find m rest) e
    later none q = refl
    later (some x) q =
        let h : d.key < x.key = optional_row_all m least r q in
        rw (lt-leb (suc x.key) d.key (omega arith)) refl

    behind : from (suc d.key) (d ∷ ds) ≡ ds
    behind = rw (lt-leb (suc d.key) d.key (omega arith)) (from_all r)

    reach : leb least d.key ≡ true → {x : ℕ} → d.key < x → least ≤ x
    reach e y = omega (arith, leb-true least d.key e)

    Rest : Type 0
    Rest = find m (map (slot o false) (from least ds) ++ rest) ≡ or_rest o ds rest (find m rest) (optional_row m least ds)

    found : leb least d.key ≡ true → Rest → (b : Bool)
        → pick b (some (record { slot = slot o false d; rest = map (slot o false) ds ++ rest })) (find m (map (slot o false) ds ++ rest))
        ≡ or_rest o (d ∷ ds) rest (find m rest) (pick (b && true) (some d) (optional_row m least ds))
    found e ih true = ap (λ (l : List Member). some (record { slot = slot o false d; rest = map (slot o false) l ++ rest })) (sym behind)
    found e ih false =
        ap (λ (l : List Member). find m (map (slot o false) l ++ rest)) (sym (from_all (all_map (λ (x : Member) (y : KeysRise d x). reach e y) r)))
        ∙ ih ∙ later (optional_row m least ds) refl

    passed : Rest → (b : Bool) → find m (map (slot o false) (from least ds) ++ rest) ≡ or_rest o (d ∷ ds) rest (find m rest) (pick (b && false) (some d) (optional_row m least ds))
    passed ih true = ih ∙ later (optional_row m least ds) refl
    passed ih false = ih ∙ later (optional_row m least ds) refl

    go : (a : Bool) → leb least d.key ≡ a → Rest
        → find m (map (slot o false) (pick a (d ∷ ds) (from least ds)) ++ rest) ≡ or_rest o (d ∷ ds) rest (find m rest) (pick (eqb m d.row && a) (some d) (optional_row m least ds))
    go true e ih = found e ih (eqb m d.row)
    go false e ih = passed ih (eqb m d.row)

-- the slot of a known optional whose tag may come
pub optional_spot : (o k least : ℕ) {ms : List Member} {d : Member} → Pairs RowsDiffer ms → Pairs KeysRise (rising ms) → lookup k ms ≡ some d → least ≤ k
    → find d.row (map (slot o false) (from least (rising ms))) ≡ some (record { slot = slot o false d; rest = map (slot o false) (from (suc d.key) (rising ms)) })
unfolding or_rest
optional_spot o k least {ms} {d} P R h l =
    ap (find d.row) (sym (append-nil (map (slot o false) (from least (rising ms)))))
    ∙ optional_find o d.row least (rising ms) [] R
    ∙ ap (or_rest o (rising ms) [] (find d.row [])) (row_rising d.row least P ∙ row_found k least P h l)
    ∙ ap (λ (ss : List Slot). some (record { slot = slot o false d; rest = ss })) (append-nil (map (slot o false) (from (suc d.key) (rising ms))))

-- ---- what is still to come

unfoldable pub least_of : List Member → ℕ → ℕ
least_of [] least = least
least_of (d ∷ ds) least = 0

pub least_zero : (ds : List Member) → least_of ds 0 ≡ 0
unfolding least_of
least_zero [] = refl
least_zero (d ∷ ds) = refl

-- required members still due, the owner's optionals of tags that may come, the slots of the owners above
unfoldable pub future : List ℕ → State → List Slot
future T s =
    map (slot s.owner true) s.due ++ map (slot s.owner false) (from (least_of s.due s.least) (rising (optional_members T s.owner))) ++ plan_of T s.above

-- what a row reaches, as the slot that it chooses and those after it
unfoldable spot : List ℕ → Reached → Spot
spot T z = record { slot = slot z.state.owner z.required_one z.member; rest = future T z.state }

module _ (T : List ℕ) where
  -- the optionals of an owner differ in row, and in tag
  pub record Ordered (t : ℕ) : Type 0 where
    pub rows : Pairs RowsDiffer (optional_members T t)
    pub keys : Pairs KeysRise (rising (optional_members T t))

  -- neither slot nor member, or both, and the owners to come are still right
  data Same : Option Spot → Option Reached → Type 0 where
    neither : Same none none
    both : (z : Reached) → All Ordered (z.state.owner ∷ z.state.above) → Same (some (spot T z)) (some z)

  due_same : (m o : ℕ) (ts : List ℕ) (d : Member) (ds : List Member) → All Ordered (o ∷ ts)
      → Same (find m (map (slot o true) (d ∷ ds) ++ map (slot o false) (from 0 (rising (optional_members T o))) ++ plan_of T ts)) (reach_due o ts m d ds)
  unfolding find reach_due slot spot future
  due_same m o ts d ds O = go (eqb m d.row)
    where
      behind : ℕ → List Slot
      behind n = map (slot o true) ds ++ map (slot o false) (from n (rising (optional_members T o))) ++ plan_of T ts

      state : State
      state = record { owner = o; due = ds; least = 0; above = ts }

      go : (b : Bool) → Same (pick b (some (record { slot = slot o true d; rest = behind 0 })) none) (pick b (some (record { member = d; required_one = true; state = state })) none)
      go true = subst (λ (n : ℕ). Same (some (record { slot = slot o true d; rest = behind n })) (some (record { member = d; required_one = true; state = state }))) (least_zero ds) (both _ O)
      go false = neither

  -- an optional of the owner, or what comes after its slots
  or_same : (m o least : ℕ) (ts : List ℕ) (r : Option Reached) → All Ordered (o ∷ ts) → Same (find m (plan_of T ts)) r
      → Same (find m (map (slot o false) (from least (rising (optional_members T o))) ++ plan_of T ts)) (or_above o ts r (optional_row m least (optional_members T o)))
  unfolding or_rest or_above spot future least_of
  or_same m o least ts r (more x O) S =
      subst (λ (f : Option Spot). Same f (or_above o ts r (optional_row m least (optional_members T o))))
      (sym (optional_find o m least (rising (optional_members T o)) (plan_of T ts) x.keys ∙ ap (or_rest o (rising (optional_members T o)) (plan_of T ts) (find m (plan_of T ts))) (row_rising m least x.rows)))
      (go (optional_row m least (optional_members T o)))
    where
      go : (d : Option Member) → Same (or_rest o (rising (optional_members T o)) (plan_of T ts) (find m (plan_of T ts)) d) (or_above o ts r d)
      go none = S
      go (some d) = both _ (more x O)

  may_same : (m o least : ℕ) (ts : List ℕ) → All Ordered (o ∷ ts)
      → Same (find m (map (slot o false) (from least (rising (optional_members T o))) ++ plan_of T ts)) (reach_may T m o least ts)
  unfolding reach_may find plan_of entered slots
  may_same m o least [] O = or_same m o least [] none O neither
  may_same m o least (t ∷ ts) (more x O) = or_same m o least (t ∷ ts) _ (more x O) (go (required_members T t) (may_same m t 0 ts O))
    where
      go : (ds : List Member) → Same (find m (map (slot t false) (from 0 (rising (optional_members T t))) ++ plan_of T ts)) (reach_may T m t 0 ts)
          → Same (find m (map (slot t true) ds ++ map (slot t false) (rising (optional_members T t)) ++ plan_of T ts)) (entered t ts m (reach_may T m t 0 ts) ds)
      go [] ih = subst (λ (l : List Member). Same (find m (map (slot t false) l ++ plan_of T ts)) (reach_may T m t 0 ts)) (from_zero (rising (optional_members T t))) ih
      go (d ∷ ds) ih =
          subst (λ (l : List Member). Same (find m (map (slot t true) (d ∷ ds) ++ map (slot t false) l ++ plan_of T ts)) (reach_due t ts m d ds)) (from_zero (rising (optional_members T t)))
          (due_same m t ts d ds O)

  reach_same : (m : ℕ) (s : State) → All Ordered (s.owner ∷ s.above) → Same (find m (future T s)) (reach T m s)
  unfolding future reach entered least_of
  reach_same m s O = go s.due
    where
      go : (ds : List Member)
          → Same (find m (map (slot s.owner true) ds ++ map (slot s.owner false) (from (least_of ds s.least) (rising (optional_members T s.owner))) ++ plan_of T s.above))
          (entered s.owner s.above m (reach_may T m s.owner s.least s.above) ds)
      go [] = may_same m s.owner s.least s.above O
      go (d ∷ ds) = due_same m s.owner s.above d ds O

-- ---- judging by slots

-- a slot is due
unfoldable pub any_due : List Slot → Bool
any_due [] = false
any_due (s ∷ ss) = s.due || any_due ss

-- what a row that chooses a slot gives
unfoldable pub given_of : Slot → List ℕ → Given
given_of s b = record {
  owner = s.owner;
  piece = pick s.due (Optional.required s.member.key b) (Optional.optional s.member.key (form_of s.member.ty) b);
}

-- 20 where the row chooses no slot or lies outside, then 21
unfoldable pub judge_slot : Bool → List ℕ → ℕ → Row → Option Spot → Out Spot
judge_slot old buffer i r none = stop 20 i
judge_slot old buffer i r (some z) =
    pick (leb (r.place + r.len) (length buffer))
    (pick (exact (type_as old z.slot.member.ty) (part_of buffer r)) (out z) (stop 21 i))
    (stop 20 i)

unfoldable pub judge_slots : Bool → List ℕ → List Slot → ℕ → List Row → Out (List Given)
judge_slots old buffer ss i [] = pick (any_due ss) (stop 20 i) (out [])
judge_slots old buffer ss i (r ∷ rs) =
    next (judge_slot old buffer i r (find r.member ss)) λ (z : Spot).
    next (judge_slots old buffer z.rest (suc i) rs) (prepend (given_of z.slot (part_of buffer r)))

module _ (T : List ℕ) where
  due_append : (a b : List Slot) → any_due (a ++ b) ≡ any_due a || any_due b
  unfolding any_due
  due_append [] b = refl
  due_append (s ∷ a) b = ap (λ (q : Bool). s.due || q) (due_append a b) ∙ go s.due
    where
      go : (p : Bool) → p || (any_due a || any_due b) ≡ p || any_due a || any_due b
      go true = refl
      go false = refl

  due_required : (t : ℕ) (ms os : List Member) → any_due (map (slot t true) ms ++ map (slot t false) os) ≡ any_of ms
  unfolding any_due any_of slot
  due_required t [] [] = refl
  due_required t [] (o ∷ os) = due_required t [] os
  due_required t (m ∷ ms) os = refl

  due_plan : (ts : List ℕ) → any_due (plan_of T ts) ≡ any (λ t. any_of (required_members T t)) ts
  unfolding plan_of slots any any_due
  due_plan [] = refl
  due_plan (t ∷ ts) = due_append (slots T t) (plan_of T ts) ∙ ap₂ ◌||◌ (due_required t (required_members T t) (rising (optional_members T t))) (due_plan ts)

  due_future : (s : State) → still_due T s ≡ any_due (future T s)
  unfolding still_due future
  due_future s =
      let os : List Member = from (least_of s.due s.least) (rising (optional_members T s.owner)) in
      sym (due_append (map (slot s.owner true) s.due ++ map (slot s.owner false) os) (plan_of T s.above) ∙ ap₂ ◌||◌ (due_required s.owner s.due os) (due_plan s.above))

  pub judge_slots_lem : (old : Bool) (buffer : List ℕ) (rs : List Row) (i : ℕ) (s : State) → All (Ordered T) (s.owner ∷ s.above) → judge_all T old buffer s i rs ≡ judge_slots old buffer (future T s) i rs
  unfolding judge_all judge_slots judge judge_slot given given_of next spot slot
  judge_slots_lem old buffer [] i s O = ap (λ (q : Bool). pick q (stop 20 i) (out [])) (due_future s)
  judge_slots_lem old buffer (r ∷ rs) i s O = go (reach_same T r.member s O) (λ s O. judge_slots_lem old buffer rs (suc i) s O)
    where
      b : List ℕ
      b = part_of buffer r

      go : {f : Option Spot} {z : Option Reached} → Same T f z
          → ((s : State) → All (Ordered T) (s.owner ∷ s.above) → judge_all T old buffer s (suc i) rs ≡ judge_slots old buffer (future T s) (suc i) rs)
          → next (judge old buffer i r z) (λ (z : Reached). next (judge_all T old buffer z.state (suc i) rs) (prepend (given z b)))
          ≡ next (judge_slot old buffer i r f) (λ (z : Spot). next (judge_slots old buffer z.rest (suc i) rs) (prepend (given_of z.slot b)))
      go neither ih = refl
      go (both z O) ih = go₂ (leb (r.place + r.len) (length buffer)) (exact (type_as old z.member.ty) b)
        where
          go₂ : (p q : Bool)
              → next (pick p (pick q (out z) (stop 21 i)) (stop 20 i)) (λ (z : Reached). next (judge_all T old buffer z.state (suc i) rs) (prepend (given z b)))
              ≡ next (pick p (pick q (out (spot T z)) (stop 21 i)) (stop 20 i)) (λ (z : Spot). next (judge_slots old buffer z.rest (suc i) rs) (prepend (given_of z.slot b)))
          go₂ true true = ap (λ (o : Out (List Given)). next o (prepend (given z b))) (ih z.state O)
          go₂ true false = refl
          go₂ false q = refl

-- ---- rows that are judged right

-- rows choose slots in order, leave out none that is due, lie in the buffer and have their types' bytes; with what they give
pub data Judged (old : Bool) (buffer : List ℕ) : List Slot → List Row → List Given → Type 0 where
  over : Judged old buffer [] [] []
  taken : {s : Slot} {ss : List Slot} {r : Row} {rs : List Row} {gs : List Given} → r.member ≡ s.member.row → r.place + r.len ≤ length buffer
      → exact (type_as old s.member.ty) (part_of buffer r) ≡ true → Judged old buffer ss rs gs → Judged old buffer (s ∷ ss) (r ∷ rs) (given_of s (part_of buffer r) ∷ gs)
  missed : {s : Slot} {ss : List Slot} {rs : List Row} {gs : List Given} → s.due ≡ false → Judged old buffer ss rs gs → Judged old buffer (s ∷ ss) rs gs

-- no two slots have one member row
abbrev pub SlotsDiffer : Slot → Slot → Type 0
SlotsDiffer a b = a.member.row ≡ b.member.row → ⊥

pub out≢stop : {A : Type 0} {o : Out A} {a : A} {n p : ℕ} → o ≡ out a → o ≡ stop n p → ⊥
out≢stop e h = let z : ◌≡◌ {A = ℕ} 0 1 = cc in omega arith

module _ {A B : Type 0} (o : Out A) (f : A → Out B) where
  pub next_ok : {b : B} → next o f ≡ out b → (a : A) × (o ≡ out a) × (f a ≡ out b)
  unfolding next
  next_ok {b} h = go o refl h
    where
      go : (x : Out A) → o ≡ x → next x f ≡ out b → (a : A) × (o ≡ out a) × (f a ≡ out b)
      go (out a) e h = (a, e, h)
      go (stop n p) e h = absurd (out≢stop h refl)

module _ (old : Bool) (buffer : List ℕ) (r : Row) where
  pub record Fitting (f : Option Spot) (z : Spot) : Type 0 where
    pub found : f ≡ some z
    pub inside : r.place + r.len ≤ length buffer
    pub one : exact (type_as old z.slot.member.ty) (part_of buffer r) ≡ true

  judge_slot_ok : (i : ℕ) (f : Option Spot) {z : Spot} → judge_slot old buffer i r f ≡ out z → Fitting f z
  unfolding judge_slot
  judge_slot_ok i none h = absurd (out≢stop h refl)
  judge_slot_ok i (some x) {z} h = go (leb (r.place + r.len) (length buffer)) refl (exact (type_as old x.slot.member.ty) (part_of buffer r)) refl h
    where
      go : (p : Bool) → leb (r.place + r.len) (length buffer) ≡ p → (q : Bool) → exact (type_as old x.slot.member.ty) (part_of buffer r) ≡ q
          → pick p (pick q (out x) (stop 21 i)) (stop 20 i) ≡ out z → Fitting (some x) z
      go true e true g h =
          let s : x ≡ z = cc in
          record { found = ap some s; inside = leb-true (r.place + r.len) (length buffer) e; one = subst (λ (y : Spot). exact (type_as old y.slot.member.ty) (part_of buffer r) ≡ true) s g }
      go true e false g h = absurd (out≢stop h refl)
      go false e q g h = absurd (out≢stop h refl)

  pub judge_slot_step : (i : ℕ) (f : Option Spot) {z : Spot} → Fitting f z → judge_slot old buffer i r f ≡ out z
  unfolding judge_slot
  judge_slot_step i f F = rw (F.found, le-leb (r.place + r.len) (length buffer) F.inside, F.one)

-- a slot that is found: those before it are not due
module _ (Q : List Slot → Type 0) (m : ℕ) where
  pub find_left : ((s : Slot) (ss : List Slot) → s.due ≡ false → Q ss → Q (s ∷ ss)) → (ss : List Slot) (z : Spot) → find m ss ≡ some z → Q (z.slot ∷ z.rest) → Q ss
  unfolding find
  find_left f [] z e q = absurd (some≢none e refl)
  find_left f (s ∷ ss) z e q = go (eqb m s.member.row) s.due refl e (λ e. find_left f ss z e q)
    where
      go : (p d : Bool) → s.due ≡ d → pick p (some (record { slot = s; rest = ss })) (pick d none (find m ss)) ≡ some z → (find m ss ≡ some z → Q ss) → Q (s ∷ ss)
      go true d h e ih =
          let x : record { slot = s; rest = ss } ≡ z = cc in
          subst (λ (y : Spot). Q (y.slot ∷ y.rest)) (sym x) q
      go false true h e ih = absurd (some≢none e refl)
      go false false h e ih = f s ss h (ih e)

  pub find_down : ((s : Slot) (ss : List Slot) → Q (s ∷ ss) → Q ss) → (ss : List Slot) (z : Spot) → find m ss ≡ some z → Q ss → Q (z.slot ∷ z.rest)
  unfolding find
  find_down f [] z e q = absurd (some≢none e refl)
  find_down f (s ∷ ss) z e q = go (eqb m s.member.row) s.due e (λ e. find_down f ss z e (f s ss q))
    where
      go : (p d : Bool) → pick p (some (record { slot = s; rest = ss })) (pick d none (find m ss)) ≡ some z → (find m ss ≡ some z → Q (z.slot ∷ z.rest)) → Q (z.slot ∷ z.rest)
      go true d e ih =
          let x : record { slot = s; rest = ss } ≡ z = cc in
          subst (λ (y : Spot). Q (y.slot ∷ y.rest)) x q
      go false true e ih = absurd (some≢none e refl)
      go false false e ih = ih e

pub find_judged : {old : Bool} {buffer : List ℕ} {r : Row} {rs : List Row} {gs : List Given} (ss : List Slot) (z : Spot) → find r.member ss ≡ some z → Judged old buffer (z.slot ∷ z.rest) (r ∷ rs) gs → Judged old buffer ss (r ∷ rs) gs
find_judged {old} {buffer} {r} {rs} {gs} ss z e K = find_left (λ (ss : List Slot). Judged old buffer ss (r ∷ rs) gs) r.member (λ s ss d K. missed d K) ss z e K

-- rows that are judged right choose their slots
pub judged_chosen : {old : Bool} {buffer : List ℕ} {ss : List Slot} {rs : List Row} {gs : List Given} → Judged old buffer ss rs gs → Chosen ss rs
judged_chosen over = Write.end
judged_chosen (taken e i x K) = chosen e (judged_chosen K)
judged_chosen (missed d K) = left d (judged_chosen K)

pub judged_within : {old : Bool} {buffer : List ℕ} {ss : List Slot} {rs : List Row} {gs : List Given} → Judged old buffer ss rs gs → RowsWithin (length buffer) rs
judged_within over = tt
judged_within (taken e i x K) = (i, judged_within K)
judged_within (missed d K) = judged_within K

pub missed_all : {old : Bool} {buffer : List ℕ} (ss : List Slot) → any_due ss ≡ false → Judged old buffer ss [] []
unfolding any_due
missed_all [] e = over
missed_all (s ∷ ss) e = let d = either_false s.due (any_due ss) e in missed d.0 (missed_all ss d.1)

pub find_member : (m : ℕ) (ss : List Slot) {z : Spot} → find m ss ≡ some z → m ≡ z.slot.member.row
unfolding find
find_member m [] e = absurd (some≢none e refl)
find_member m (s ∷ ss) {z} e = go (eqb m s.member.row) refl s.due e (λ e. find_member m ss e)
  where
    go : (p : Bool) → eqb m s.member.row ≡ p → (q : Bool) → pick p (some (record { slot = s; rest = ss })) (pick q none (find m ss)) ≡ some z
        → (find m ss ≡ some z → m ≡ z.slot.member.row) → m ≡ z.slot.member.row
    go true f q e ih =
        let x : record { slot = s; rest = ss } ≡ z = cc in
        eqb-true m s.member.row f ∙ ap (λ (y : Spot). y.slot.member.row) x
    go false f true e ih = absurd (some≢none e refl)
    go false f false e ih = ih e

pub judged_ok : (old : Bool) (buffer : List ℕ) (rs : List Row) (ss : List Slot) (i : ℕ) {gs : List Given} → judge_slots old buffer ss i rs ≡ out gs → Judged old buffer ss rs gs
unfolding judge_slots prepend
judged_ok old buffer [] ss i {gs} h = go (any_due ss) refl h
  where
    go : (q : Bool) → any_due ss ≡ q → pick q (stop 20 i) (out []) ≡ out gs → Judged old buffer ss [] gs
    go true e h = absurd (out≢stop h refl)
    go false e h = let x : [] ≡ gs = cc in subst (Judged old buffer ss []) x (missed_all ss e)
judged_ok old buffer (r ∷ rs) ss i {gs} h =
    let A = next_ok (judge_slot old buffer i r (find r.member ss)) _ h in
    let z : Spot = A.0 in
    let F = judge_slot_ok old buffer r i (find r.member ss) A.1 in
    let B = next_ok (judge_slots old buffer z.rest (suc i) rs) _ A.2 in
    let x : given_of z.slot (part_of buffer r) ∷ B.0 ≡ gs = cc in
    subst (Judged old buffer ss (r ∷ rs)) x
    (find_judged ss z F.found (taken (find_member r.member ss F.found) F.inside F.one (judged_ok old buffer rs z.rest (suc i) B.1)))

-- the slot of the first row is among the slots
pub first_among : {P : Slot → Type 0} {ss : List Slot} {r : Row} {rs : List Row} → All P ss → Chosen ss (r ∷ rs) → (s : Slot) × P s × (r.member ≡ s.member.row)
first_among end c = elim c [ ]
first_among (more {a} p L) (chosen e C) = (a, p, e)
first_among (more p L) (left d C) = first_among L C

pub judged_step : {old : Bool} {buffer : List ℕ} {ss : List Slot} {rs : List Row} {gs : List Given} (i : ℕ) → Pairs SlotsDiffer ss → Judged old buffer ss rs gs → judge_slots old buffer ss i rs ≡ out gs
unfolding judge_slots any_due find next prepend
judged_step i alone over = refl
judged_step {old} {buffer} i (before D P) (taken {s} {ss} {r} e b x K) =
    rw (eq-eqb r.member s.member.row e, judge_slot_step old buffer r i _ {z = record { slot = s; rest = ss }} (record { found = refl; inside = b; one = x })) (rw (judged_step (suc i) P K))
judged_step i (before D P) (missed {s} {ss} {rs = []} d K) = ap (λ (q : Bool). pick (q || any_due ss) (stop 20 i) (out [])) d ∙ judged_step i P K
judged_step i (before D P) (missed {s} {ss} {rs = r ∷ rs} d K) =
    let F = first_among D (judged_chosen K) in
    rw (ne_eqb r.member s.member.row (λ e. F.1 (sym e ∙ F.2)), d) (judged_step i P K)
