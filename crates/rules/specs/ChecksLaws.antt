-- The rules as the code takes them are those of the definitions.
--
--   allowed_rules_lem  in a table with lists, the rules of a list by its row find what the definition's find
--   row_rules_lem      the rules of a type row, taken by its kind, find what the row's rules find
--   owners_pass_lem    where the type rows, the lists and the sum are fine, the member rows owner by owner are the member rows in order
--   or_assoc       the first fault of three passes
--   table_length   where the header is fine, the table is as long as it says
--   owners_there   where the type rows, the lists and the sum are fine, the member rows of each owner are all there
use Prim.Native.Nat.{ℕ, zero, suc, ◌+◌, ◌-◌, ◌*◌, ◌≤◌, ◌<◌}
use Rattle.std.specs.Prelude.{◌≡◌, Bool, ◌&&◌, not, length, drop, eqb}
use Rattle.std.proofs.Math.Path.{refl, sym, ap, ap₂}
use Rattle.std.proofs.Common.{◌∙◌, eq-or-lt_of_le, add-zero}
use Rattle.std.proofs.Math.Bool.{true, false}
use Rattle.std.proofs.Math.Logic.{⊎_elim}
use mathlib.Core.List.{List, [], ◌∷◌, ◌++◌}
use native.Mathlib.Omega.{arith}
use Rattle.std.proofs.Math.ListN.{drop_of_length-le}
use borrow.Author.Tests.{eqb-true, eqb-false, not-false, lt-leb, le-leb, lt-ltb}
use Rattle.encoding.specs.Result.{pick, first_of}
use Rattle.encoding.specs.Number.{negative}
use Rattle.encoding.specs.Table.{with_lists, types, members, entries, row_at, member_at, entries_at, greatest, entries_of, kind, field, mark, tag, owns, range, any, used, no_base, alike, taken_by, taken, takes, has_list, entries_taken, allowed_rules, owner_of, tag_alike, type_rules, member_rules, header_tests, header_rules, sum_rules, fault_at, Fault, fine, fault, or_else, pass}
use Rattle.encoding.proofs.RuleLaws.{header_test}
use Rattle.table.specs.Rows.{type_row_of}
use Rattle.rules.specs.Checks.{is_set_from, no_base_of, enum_rules, struct_rules, seq_rules, dict_rules, record_rules, list_rules, kind_rules, row_rules, share, allowed_rules_by, type_pass, allowed_pass, rows_pass, member_pass, is_tag_before, required_rules, optional_rules, member_rules_by, member_rules_of, owner_pass, owners_pass, OwnersThere}

-- ---- a type row by its kind

-- a number is another or its test fails
either : {P : Type 0} (k n : ℕ) → (k ≡ n → P) → (eqb k n ≡ false → P) → P
either {P} k n y z = go (eqb k n) refl
  where
    go : (b : Bool) → eqb k n ≡ b → P
    go true e = y (eqb-true _ _ e)
    go false e = z e

module _ (T : List ℕ) (t : ℕ) where
  -- the base judged by the row's own kind
  no_base_lem : (b : ℕ) → no_base_of T t (kind T t) b ≡ no_base T t b
  unfolding no_base_of no_base
  no_base_lem zero = refl
  no_base_lem (suc r) = refl

  -- the fields as a list, or by their numbers
  set_from : (i : ℕ) → is_set_from (type_row_of T t) i ≡ any (λ i. not (eqb (field T t i) 0)) (range i (5 - i))
  unfolding is_set_from any range
  set_from zero = refl
  set_from (suc zero) = refl
  set_from (suc (suc zero)) = refl
  set_from (suc (suc (suc zero))) = refl
  set_from (suc (suc (suc (suc zero)))) = refl
  set_from (suc (suc (suc (suc (suc i))))) = let z : 5 - suc (suc (suc (suc (suc i)))) ≡ 0 = omega arith in rw (z, drop_of_length-le {A = ℕ} [] {i = i} (omega arith))

  kind_rules_lem : first_of (kind_rules T t (type_row_of T t) (taken T t) (alike T t)) ≡ first_of (drop 3 (type_rules T t))
  unfolding first_of type_rules greatest kind_rules enum_rules struct_rules seq_rules dict_rules record_rules list_rules
  kind_rules_lem =
      rw (no_base_lem (field T t 2)) (
      either (kind T t) 8 (λ e. rw e) (λ e8.
      either (kind T t) 9 (λ e. rw e) (λ e9.
      either (kind T t) 10 (λ e. rw e) (λ e10.
      either (kind T t) 11 (λ e. rw e) (λ e11.
      either (kind T t) 13 (λ e. rw e) (λ e13.
      either (kind T t) 14 (λ e. rw e) (λ e14.
      either (kind T t) 15 (λ e. rw e) (λ e15. rw (e8, e9, e10, e11, e13, e14, e15)))))))))

  pub row_rules_lem : first_of (row_rules T t (type_row_of T t) (taken T t) (alike T t)) ≡ first_of (type_rules T t)
  unfolding first_of row_rules type_rules
  row_rules_lem = rw (set_from (used T (kind T t)), kind_rules_lem)

-- ---- a list by its row

pub allowed_rules_lem : (T : List ℕ) → with_lists T ≡ true → (t : ℕ) → first_of (allowed_rules_by T (entries T) (type_row_of T t) (entries_taken T t)) ≡ first_of (allowed_rules T t)
unfolding first_of allowed_rules_by allowed_rules has_list greatest entries_of
allowed_rules_lem T lists t = rw lists (either (kind T t) 8 (λ e. rw e) (λ e. rw e))

-- ---- a member row by its mark

module _ (T : List ℕ) (m : ℕ) where
  member_rules_lem : first_of (member_rules_of T (owner_of T m (types T)) m) ≡ first_of (member_rules T m)
  unfolding first_of member_rules_of member_rules_by member_rules required_rules optional_rules is_tag_before tag_alike negative
  member_rules_lem =
      either (mark T m) 0
      (λ e. either (tag T m) 0 (λ q. rw (e, q)) (λ q. rw (e, q)))
      (λ e. either (mark T m) 1 (λ q. rw q) (λ q. let l : 1 < mark T m = omega (arith, eqb-false, eqb-false) in rw (e, lt-ltb _ _ l)))

-- ---- passes

pub or_assoc : (a b c : Fault) → or_else (or_else a b) c ≡ or_else a (or_else b c)
unfolding or_else
or_assoc fine b c = refl
or_assoc (fault k p) b c = refl

or_fine : (a b : Fault) → or_else a b ≡ fine → (a ≡ fine) × (b ≡ fine)
unfolding or_else
or_fine fine b e = (refl, e)
or_fine (fault k p) b e = let z : ◌≡◌ {A = ℕ} 0 1 = cc in absurd (omega arith)

at_fine : (p c : ℕ) → fault_at p c ≡ fine → c ≡ 0
unfolding fault_at
at_fine p zero e = refl
at_fine p (suc c) e = let z : ◌≡◌ {A = ℕ} 0 1 = cc in absurd (omega arith)

module _ (place : ℕ → ℕ) where
  pass_append : (f : ℕ → List (ℕ × Bool)) (a b : List ℕ) → pass place f (a ++ b) ≡ or_else (pass place f a) (pass place f b)
  unfolding pass or_else
  pass_append f [] b = refl
  pass_append f (r ∷ a) b = ap (or_else (fault_at (place r) (first_of (f r)))) (pass_append f a b) ∙ sym (or_assoc (fault_at (place r) (first_of (f r))) (pass place f a) (pass place f b))

  pass_same : (f g : ℕ → List (ℕ × Bool)) (k i : ℕ) → ((r : ℕ) → i ≤ r → r < i + k → first_of (f r) ≡ first_of (g r)) → pass place f (range i k) ≡ pass place g (range i k)
  unfolding pass range
  pass_same f g zero i h = refl
  pass_same f g (suc k) i h = rw (h i (omega arith) (omega arith), pass_same f g k (suc i) (λ r a b. h r (omega arith) (omega arith)))

  -- a pass that finds nothing finds nothing at any row
  pass_fine : (f : ℕ → List (ℕ × Bool)) (k i : ℕ) → pass place f (range i k) ≡ fine → (r : ℕ) → i ≤ r → r < i + k → first_of (f r) ≡ 0
  unfolding pass range
  pass_fine f zero i e r a b = absurd (omega arith)
  pass_fine f (suc k) i e r a b =
      let o = or_fine (fault_at (place i) (first_of (f i))) (pass place f (range (suc i) k)) e in
      ⊎_elim
      (λ q. ap (λ (z : ℕ). first_of (f z)) (sym q) ∙ at_fine (place i) (first_of (f i)) o.0)
      (λ q. pass_fine f k (suc i) o.1 r q (omega arith))
      (eq-or-lt_of_le a)

range_append : (a b i : ℕ) → range i (a + b) ≡ range i a ++ range (i + a) b
unfolding range
range_append zero b i = let z : i ≡ i + 0 = omega arith in let y : 0 + b ≡ b = omega arith in rw y (ap (λ (j : ℕ). range j b) z)
range_append (suc a) b i =
    let y : suc a + b ≡ suc (a + b) = omega arith in
    let z : suc i + a ≡ i + suc a = omega arith in
    rw y (ap (λ (l : List ℕ). i ∷ l) (range_append a b (suc i) ∙ ap (λ (j : ℕ). range (suc i) a ++ range j b) z))

-- ---- owners

first_none : (c : ℕ) (b : Bool) (l : List (ℕ × Bool)) → 0 < c → first_of ((c, b) ∷ l) ≡ 0 → (b ≡ false) × (first_of l ≡ 0)
unfolding first_of
first_none c true l h e = absurd (omega arith)
first_none c false l h e = (refl, e)

-- the rule of class 35
first_taken : (T : List ℕ) (t : ℕ) → first_of (type_rules T t) ≡ 0 → owns (kind T t) ≡ true → field T t 0 ≡ taken T t
unfolding type_rules
first_taken T t e o =
    let a = first_none 32 _ _ (omega arith) e in
    let b = first_none 32 _ _ (omega arith) a.1 in
    let c = first_none 33 _ _ (omega arith) b.1 in
    let d = first_none 34 _ _ (omega arith) c.1 in
    let f = first_none 34 _ _ (omega arith) d.1 in
    let g = first_none 34 _ _ (omega arith) f.1 in
    let h = first_none 35 (owns (kind T t) && not (eqb (field T t 0) (taken T t))) _ (omega arith) g.1 in
    own (not-false _ (ap (λ (z : Bool). z && not (eqb (field T t 0) (taken T t))) (sym o) ∙ h.0))
  where
    own : eqb (field T t 0) (taken T t) ≡ true → field T t 0 ≡ taken T t
    own q = eqb-true _ _ q

-- each owner begins where the rows before it end
Turns : List ℕ → Type 0
Turns T = (t : ℕ) → t < types T → owns (kind T t) ≡ true → field T t 0 ≡ taken T t

turns : (T : List ℕ) → type_pass T ≡ fine → Turns T
unfolding type_pass Turns
turns T e t h o = first_taken T t (pass_fine (row_at T) (type_rules T) (types T) 0 e t (omega arith) (omega arith)) o

module _ (T : List ℕ) where
  taken_more : (n : ℕ) → taken T (suc n) ≡ taken T n + share (type_row_of T n)
  unfolding taken taken_by share
  taken_more n = refl

  share_own : (o : ℕ) → owns (kind T o) ≡ true → share (type_row_of T o) ≡ field T o 1
  unfolding share
  share_own o e = rw e

  taken_rises : (d o : ℕ) → taken T o ≤ taken T (o + d)
  taken_rises zero o = rw add-zero (omega arith)
  taken_rises (suc d) o = let z : o + suc d ≡ suc (o + d) = omega arith in rw z (omega (arith, taken_more (o + d), taken_rises d o))

  taken_least : (o n : ℕ) → o ≤ n → taken T o ≤ taken T n
  taken_least o n h = let z : o + (n - o) ≡ n = omega arith in rw z at (taken_rises (n - o) o)

  module _ (begin : Turns T) (m o : ℕ) (own : owns (kind T o) ≡ true) (ho : o < types T) (low : taken T o ≤ m) (high : m < taken T o + share (type_row_of T o)) where
    takes_own : takes T o m ≡ true
    unfolding takes Turns
    takes_own =
        let z = begin o ho own in
        let l : field T o 0 ≤ m = omega arith in
        let k : m < field T o 0 + field T o 1 = omega (arith, share_own o own) in
        rw (le-leb _ _ l, lt-ltb _ _ k)

    takes_later : (n : ℕ) → o < n → n < types T → owns (kind T n) && takes T n m ≡ false
    unfolding takes Turns
    takes_later n l h = go (owns (kind T n)) refl
      where
        go : (b : Bool) → owns (kind T n) ≡ b → b && takes T n m ≡ false
        go false e = refl
        go true e =
            let q : m < field T n 0 = omega (arith, begin n h e, taken_least (suc o) n l, taken_more o) in
            rw (lt-leb _ _ q)

    owner_is : (n : ℕ) → o < n → n ≤ types T → owner_of T m n ≡ o
    unfolding owner_of
    owner_is zero l h = absurd (omega arith)
    owner_is (suc n) l h = ⊎_elim
        (λ q. rw (← q, own, takes_own))
        (λ q. rw (takes_later n q h) (owner_is n q (omega arith)))
        (eq-or-lt_of_le {n = o} {m = n} (omega arith))

  module _ (begin : Turns T) where
    owner_pass_lem : (o : ℕ) → o < types T → owner_pass T o ≡ pass (member_at T) (member_rules T) (range (taken T o) (share (type_row_of T o)))
    unfolding owner_pass share Turns pass range
    owner_pass_lem o h = go (owns (kind T o)) refl
      where
        same : owns (kind T o) ≡ true → (m : ℕ) → taken T o ≤ m → m < taken T o + share (type_row_of T o) → first_of (member_rules_of T o m) ≡ first_of (member_rules T m)
        same e m a b = ap (λ (z : ℕ). first_of (member_rules_of T z m)) (sym (owner_is begin m o e h a b (types T) h (omega arith))) ∙ member_rules_lem T m

        go : (b : Bool) → owns (kind T o) ≡ b → pass (member_at T) (member_rules_of T o) (range (field T o 0) (pick b (field T o 1) 0)) ≡ pass (member_at T) (member_rules T) (range (taken T o) (pick b (field T o 1) 0))
        go false e = refl
        go true e = rw (begin o h e) (pass_same (member_at T) (member_rules_of T o) (member_rules T) (field T o 1) (taken T o) (λ m a b. same e m a (omega (arith, share_own o e))))

    owners_from : (d o : ℕ) → o + d ≡ types T → owners_pass T (range o d) ≡ pass (member_at T) (member_rules T) (range (taken T o) (taken T (types T) - taken T o))
    unfolding owners_pass range pass
    owners_from zero o e =
        let z : o ≡ types T = omega arith in
        let y : taken T (types T) - taken T o ≡ 0 = omega (arith, ap (taken T) z) in
        rw y
    owners_from (suc d) o e =
        let y : taken T (types T) - taken T o ≡ share (type_row_of T o) + (taken T (types T) - taken T (suc o)) = omega (arith, taken_more o, taken_least (suc o) (types T) (omega arith)) in
        ap₂ or_else (owner_pass_lem o (omega arith)) (owners_from d (suc o) (omega arith))
        ∙ sym (rw (y, range_append) (pass_append (member_at T) (member_rules T) (range (taken T o) (share (type_row_of T o))) _ ∙ ap (λ (z : ℕ). or_else (pass (member_at T) (member_rules T) (range (taken T o) (share (type_row_of T o)))) (pass (member_at T) (member_rules T) (range z (taken T (types T) - taken T (suc o))))) (sym (taken_more o))))

sum_fine : (T : List ℕ) → sum_rules T ≡ fine → taken T (types T) ≡ members T
unfolding sum_rules
sum_fine T e = go (eqb (taken T (types T)) (members T)) refl (at_fine 0 _ e)
  where
    go : (b : Bool) → eqb (taken T (types T)) (members T) ≡ b → ◌≡◌ {A = ℕ} (pick b 0 35) 0 → taken T (types T) ≡ members T
    go true q z = eqb-true _ _ q
    go false q z = absurd (omega arith)

pub table_length : (T : List ℕ) → header_rules T ≡ fine → length T ≡ entries_at T + 4 * entries T
unfolding header_tests
table_length T e = eqb-true _ _ (not-false _ (header_test T e 8))

rows_fine : (T : List ℕ) → rows_pass T ≡ fine → (type_pass T ≡ fine) × (sum_rules T ≡ fine)
unfolding rows_pass
rows_fine T e = let f = or_fine (type_pass T) _ e in (f.0, (or_fine (allowed_pass T) (sum_rules T) f.1).1)

pub owners_pass_lem : (T : List ℕ) → rows_pass T ≡ fine → owners_pass T (range 0 (types T)) ≡ member_pass T
unfolding member_pass taken taken_by
owners_pass_lem T e =
    let f = rows_fine T e in
    let s = sum_fine T f.1 in
    owners_from T (turns T f.0) (types T) 0 (omega arith) ∙ ap (λ (z : ℕ). pass (member_at T) (member_rules T) (range 0 z)) (omega arith)

pub owners_there : (T : List ℕ) → rows_pass T ≡ fine → OwnersThere T
unfolding share Turns
owners_there T f = record { owners = λ o h. record { there = go o h (owns (kind T o)) refl } }
  where
    p : (type_pass T ≡ fine) × (sum_rules T ≡ fine)
    p = rows_fine T f

    go : (o : ℕ) → o < types T → (b : Bool) → owns (kind T o) ≡ b → 0 < pick b (field T o 1) 0 → field T o 0 + pick b (field T o 1) 0 ≤ members T
    go o h true q s = omega (arith, turns T p.0 o h q, share_own T o q, taken_more T o, taken_least T (suc o) (types T) h, sum_fine T p.1)
    go o h false q s = absurd (omega arith)
