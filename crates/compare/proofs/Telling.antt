-- The answer of comparing two tables. Assumes nothing.
--
--   top_..         2
--   told_..        19, or all differences
--   sound_..       tables that break no rule; broken_.. those that do
use Prim.Native.Nat.{ℕ, ◌+◌, ◌/◌, ◌≤◌, ◌<◌}
use mathlib.Core.Path.{◌≡◌, refl, sym, ap, ◌∙◌}
use mathlib.Core.Bool.{Bool, true, false, ◌||◌}
use mathlib.Core.List.{List}
use native.Mathlib.Omega.{arith}
use lib.ListN.{length}
use lib.Dec.{leb, ltb}
use borrow.Author.Tests.{leb-true, le-leb, lt-leb}
use mir.Val.{bool_byte}
use Rattle.encoding.specs.Result.{pick}
use Rattle.encoding.specs.Table.{types, kind, Fault, fine, fault, faults, rule_number}
use Rattle.encoding.proofs.RuleLaws.{fault_place}
use Rattle.encoding.specs.Message.{no_top}
use Rattle.encoding.proofs.MessageLaws.{top_there}
use Rattle.laws.proofs.TableFault.{fault_class}
use Rattle.rules.specs.Checks.{finding_of}
use Rattle.std.specs.Prelude.{Result, Ok, Err}
use Rattle.wire.specs.declared.Refusal.{Refusal}
use Rattle.differences.specs.declared.Compared.{Compared}
use Rattle.differences.specs.Compare.{Comparison, incomparable, no_tops, differences, extending, compared_within, after_both, difference_room, comparing, differences_listed}
use Rattle.listing.specs.Listing.{enter, Listed}
use Rattle.listing.specs.ListingLaws.{enter_listed}
use Rattle.compare.specs.Compared.{compared_of, whole_of}

abbrev four : (n p c e : ℕ) → Compared
four n p c e = record { refusal = n; place = p; count = c; extends = e }

-- ---- the tops

module _ (T : List ℕ) (top n : ℕ) (e : n ≡ types T) where
  pub top_beyond : n ≤ top → true ≡ no_top T top
  unfolding no_top
  top_beyond h = rw (le-leb (types T) top (omega arith))

  pub top_kind : top < n → (k : ℕ) → k ≡ kind T top → ltb k 13 ≡ no_top T top
  unfolding no_top
  top_kind h k ek = rw (lt-leb (types T) top (omega arith), ek)

pub top_inside : (T : List ℕ) (top : ℕ) (b : Bool) → b ≡ no_top T top → b ≡ false → top < types T
top_inside T top b e q = (top_there T top (sym e ∙ q)).0

-- ---- a refusal

refused_are : (n p : ℕ) → four n p 0 0 ≡ compared_of (incomparable n p)
unfolding compared_of incomparable
refused_are n p = refl

refused_list : (n p : ℕ) (out : List ℕ) → out ≡ enter 0 (incomparable n p).found out
unfolding enter incomparable
refused_list n p out = refl

-- ---- all differences

module _ (S T : List ℕ) (t u bytes : ℕ) (out : List ℕ) (one other : List ℕ) (n : ℕ) (A : Listed (differences S T) 0 one other n) where
  count_is : length (differences S T) ≡ n
  count_is = omega (arith, A.count)

  module _ (h : bytes / 20 < n) where
    short_is : whole_of S t T u bytes ≡ incomparable 19 n
    unfolding whole_of compared_within difference_room
    short_is = rw (count_is, lt-leb n (bytes / 20) h)

    pub told_short : (r : Compared) → r ≡ four 19 n 0 0 → r ≡ compared_of (whole_of S t T u bytes)
    told_short r e = e ∙ refused_are 19 n ∙ ap compared_of (sym short_is)

    pub told_kept : out ≡ enter 0 (whole_of S t T u bytes).found out
    told_kept = refused_list 19 n out ∙ ap (λ (c : Comparison). enter 0 c.found out) (sym short_is)

  module _ (h : n ≤ bytes / 20) where
    all_is : whole_of S t T u bytes ≡ record { refusal = 0; place = 0; found = differences S T; extends = extending S T t u }
    unfolding whole_of compared_within difference_room
    all_is = rw (count_is, le-leb n (bytes / 20) h)

    bit_is : (b : Bool) (e : ℕ) → e ≡ bool_byte b → e ≡ pick b 1 0
    bit_is true e q = q
    bit_is false e q = q

    pub told_all : (b : Bool) → b ≡ extending S T t u → (e : ℕ) → e ≡ bool_byte b → four 0 0 n e ≡ compared_of (whole_of S t T u bytes)
    unfolding compared_of
    told_all b eb e ee = rw (all_is, count_is, bit_is b e ee, eb)

    pub told_list : (last : List ℕ) (r : ℕ) → Listed (differences S T) 0 out last r → last ≡ enter 0 (whole_of S t T u bytes).found out
    told_list last r B = B.list ∙ sym (rw all_is)

-- ---- tables that break no rule

module _ (S T : List ℕ) (fs : faults S ≡ fine) (ft : faults T ≡ fine) (t u bytes : ℕ) (out : List ℕ) (a : Bool) (ea : a ≡ no_top S t) where
  sound_step : (b : Bool) → b ≡ no_top T u → comparing S t T u bytes ≡ after_both fine fine (a || b) (whole_of S t T u bytes)
  unfolding comparing whole_of no_tops
  sound_step b eb = rw (fs, ft, ← ea, ← eb)

  old_is : a ≡ true → comparing S t T u bytes ≡ incomparable 2 0
  unfolding after_both
  old_is q = sound_step (no_top T u) refl ∙ rw q

  pub sound_old : a ≡ true → (r : Compared) → r ≡ four 2 0 0 0 → r ≡ compared_of (comparing S t T u bytes)
  sound_old q r e = e ∙ refused_are 2 0 ∙ ap compared_of (sym (old_is q))

  pub kept_old : a ≡ true → out ≡ enter 0 (comparing S t T u bytes).found out
  kept_old q = refused_list 2 0 out ∙ ap (λ (c : Comparison). enter 0 c.found out) (sym (old_is q))

  module _ (q : a ≡ false) (b : Bool) (eb : b ≡ no_top T u) where
    new_is : b ≡ true → comparing S t T u bytes ≡ incomparable 2 0
    unfolding after_both
    new_is p = sound_step b eb ∙ rw (q, p)

    pub sound_new : b ≡ true → (r : Compared) → r ≡ four 2 0 0 0 → r ≡ compared_of (comparing S t T u bytes)
    sound_new p r e = e ∙ refused_are 2 0 ∙ ap compared_of (sym (new_is p))

    pub kept_new : b ≡ true → out ≡ enter 0 (comparing S t T u bytes).found out
    kept_new p = refused_list 2 0 out ∙ ap (λ (c : Comparison). enter 0 c.found out) (sym (new_is p))

    whole_is : b ≡ false → comparing S t T u bytes ≡ whole_of S t T u bytes
    unfolding after_both
    whole_is p = sound_step b eb ∙ rw (q, p)

    pub sound_whole : b ≡ false → (c : Compared) → c ≡ compared_of (whole_of S t T u bytes) → c ≡ compared_of (comparing S t T u bytes)
    sound_whole p c e = e ∙ ap compared_of (sym (whole_is p))

    pub listed_whole : b ≡ false → (last : List ℕ) → last ≡ enter 0 (whole_of S t T u bytes).found out → last ≡ enter 0 (comparing S t T u bytes).found out
    listed_whole p last e = e ∙ ap (λ (c : Comparison). enter 0 c.found out) (sym (whole_is p))

-- ---- the lent list

-- an answer has no more differences than its list has room for
fits : (old : List ℕ) (t : ℕ) (new : List ℕ) (u bytes : ℕ) → length (comparing old t new u bytes).found ≤ bytes / 20
unfolding comparing difference_room compared_within after_both incomparable
fits old t new u bytes = go (faults old) (faults new) (no_tops old new t u)
  where
    whole : Comparison
    whole = record { refusal = 0; place = 0; found = differences old new; extends = extending old new t u }

    within : (b : Bool) → leb (length (differences old new)) (bytes / 20) ≡ b → length (pick b whole (incomparable 19 (length (differences old new)))).found ≤ bytes / 20
    within true e = leb-true _ _ e
    within false e = omega arith

    go : (f g : Fault) (b : Bool) → length (after_both f g b (compared_within (bytes / 20) whole)).found ≤ bytes / 20
    go fine fine true = omega arith
    go fine fine false = within (leb (length (differences old new)) (bytes / 20)) refl
    go fine (fault n p) b = omega arith
    go (fault n p) g b = omega arith

pub list_filled : (old : List ℕ) (t : ℕ) (new : List ℕ) (u bytes : ℕ) (out last : List ℕ) → bytes ≡ length out → last ≡ enter 0 (comparing old t new u bytes).found out
    → last ≡ differences_listed (comparing old t new u (length out)) out
unfolding differences_listed
list_filled old t new u bytes out last e q =
    q ∙ ap (λ (n : ℕ). enter 0 (comparing old t new u n).found out) e
    ∙ enter_listed (comparing old t new u (length out)).found out (omega (arith, fits old t new u (length out)))

pub same_answer : (old : List ℕ) (t : ℕ) (new : List ℕ) (u bytes n : ℕ) → bytes ≡ n → (c : Compared) → c ≡ compared_of (comparing old t new u bytes) → c ≡ compared_of (comparing old t new u n)
same_answer old t new u bytes n e c q = q ∙ ap (λ (x : ℕ). compared_of (comparing old t new u x)) e

-- ---- tables that break a rule

module _ (T : List ℕ) (f : Result Unit Refusal) (ef : f ≡ finding_of (faults T)) where
  pub found_fine : (v : Unit) → f ≡ Ok v → faults T ≡ fine
  unfolding finding_of
  found_fine v q = go (faults T) (sym q ∙ ef)
    where
      go : (g : Fault) → Ok v ≡ finding_of g → g ≡ fine
      go fine h = refl
      go (fault c p) h = let z : ◌≡◌ {A = ℕ} 0 1 = cc in absurd (omega arith)

  module _ (x : Refusal) (q : f ≡ Err x) where
    abbrev c : ℕ
    c = x.number

    abbrev p : ℕ
    p = x.place

    found : faults T ≡ fault c p
    unfolding finding_of
    found = go (faults T) (sym q ∙ ef)
      where
        go : (g : Fault) → Err x ≡ finding_of g → g ≡ fault c p
        go fine h = let z : ◌≡◌ {A = ℕ} 0 1 = cc in absurd (omega arith)
        go (fault d b) h = let z : x ≡ record { number = d; place = b } = cc in rw z refl

    pub number_fits : c < 4294967296
    number_fits = omega (arith, (fault_class T c p found).1)

    pub place_fits : p < 4294967296
    place_fits = omega (arith, fault_place T c p found)

    pub moved_fits : p + 1000000 < 4294967296
    moved_fits = omega (arith, fault_place T c p found)

    pub moved_adds : p + 1000000 < 18446744073709551616
    moved_adds = omega (arith, fault_place T c p found)

    module _ (t : ℕ) (N : List ℕ) (u bytes : ℕ) (out : List ℕ) where
      first_is : comparing T t N u bytes ≡ incomparable c p
      unfolding comparing after_both rule_number
      first_is = rw found

      pub broken_old : (r : Compared) → r ≡ four c p 0 0 → r ≡ compared_of (comparing T t N u bytes)
      broken_old r e = e ∙ refused_are c p ∙ ap compared_of (sym first_is)

      pub broken_kept : out ≡ enter 0 (comparing T t N u bytes).found out
      broken_kept = refused_list c p out ∙ ap (λ (x : Comparison). enter 0 x.found out) (sym first_is)

    module _ (t : ℕ) (S : List ℕ) (fs : faults S ≡ fine) (u bytes : ℕ) (out : List ℕ) where
      second_is : comparing S t T u bytes ≡ incomparable c (p + 1000000)
      unfolding comparing after_both rule_number
      second_is = rw (fs, found)

      pub broken_new : (r : Compared) → r ≡ four c (p + 1000000) 0 0 → r ≡ compared_of (comparing S t T u bytes)
      broken_new r e = e ∙ refused_are c (p + 1000000) ∙ ap compared_of (sym second_is)

      pub broken_new_kept : out ≡ enter 0 (comparing S t T u bytes).found out
      broken_new_kept = refused_list c (p + 1000000) out ∙ ap (λ (x : Comparison). enter 0 x.found out) (sym second_is)
