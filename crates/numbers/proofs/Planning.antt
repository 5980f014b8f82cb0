-- The numbers of the check of a plan and of the planner, case by case. Assumes nothing.
--
--   accepted_.., broken_..     those of the check
--   made_.., unplanned_..      those of the planner
--   check_same, plan_same      equal answers have the same numbers
use mathlib.Core.Path.{◌≡◌, sym, ap, ◌∙◌}
use Prim.Native.Nat.{ℕ}
use lib.ListN.{get_or}
use Rattle.bursts.specs.Bursts.{checked_numbers, planned_numbers}
use Rattle.bursts.specs.declared.Checked.{Checked}
use Rattle.bursts.specs.declared.Checked.TheVariants.{Sound, Breaks}
use Rattle.bursts.specs.declared.Planned.{Planned}
use Rattle.bursts.specs.declared.Planned.TheVariants.{Made, Unplanned}

-- number i of an answer
abbrev check_of : ℕ → Checked → ℕ
check_of i c = get_or (checked_numbers c) i 0

abbrev plan_of : ℕ → Planned → ℕ
plan_of i p = get_or (planned_numbers p) i 0

module _ (c : Checked) (e : c ≡ Sound) where
  pub accepted_number : 0 ≡ get_or (checked_numbers c) 0 0
  unfolding checked_numbers
  accepted_number = sym (ap (check_of 0) e)

  pub accepted_place : 0 ≡ get_or (checked_numbers c) 1 0
  unfolding checked_numbers
  accepted_place = sym (ap (check_of 1) e)

module _ (c : Checked) (p : ℕ) (e : c ≡ Breaks p) where
  pub broken_number : 46 ≡ get_or (checked_numbers c) 0 0
  unfolding checked_numbers
  broken_number = sym (ap (check_of 0) e)

  pub broken_place : p ≡ get_or (checked_numbers c) 1 0
  unfolding checked_numbers
  broken_place = sym (ap (check_of 1) e)

module _ (p : Planned) (n : ℕ) (e : p ≡ Made n) where
  pub made_number : 0 ≡ get_or (planned_numbers p) 0 0
  unfolding planned_numbers
  made_number = sym (ap (plan_of 0) e)

  pub made_place : 0 ≡ get_or (planned_numbers p) 1 0
  unfolding planned_numbers
  made_place = sym (ap (plan_of 1) e)

module _ (p : Planned) (c q : ℕ) (e : p ≡ Unplanned c q) where
  pub unplanned_number : c ≡ get_or (planned_numbers p) 0 0
  unfolding planned_numbers
  unplanned_number = sym (ap (plan_of 0) e)

  pub unplanned_place : q ≡ get_or (planned_numbers p) 1 0
  unfolding planned_numbers
  unplanned_place = sym (ap (plan_of 1) e)

pub check_same : (a b : Checked) → a ≡ b → (r i : ℕ) → r ≡ get_or (checked_numbers a) i 0 → r ≡ get_or (checked_numbers b) i 0
check_same a b e r i h = h ∙ ap (check_of i) e

pub plan_same : (a b : Planned) → a ≡ b → (r i : ℕ) → r ≡ get_or (planned_numbers a) i 0 → r ≡ get_or (planned_numbers b) i 0
plan_same a b e r i h = h ∙ ap (plan_of i) e
