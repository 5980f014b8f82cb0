-- The numbers that the exported calls give of burst plans.
--
--   check_number ms ns i    number i of the check of a plan: 0 the refusal, 1 its place
--   plan_number ms room i   number i of the planner's answer with a lent list of so many numbers: 0 the refusal, 1 its place
use Rattle.std.specs.Prelude.{List, ℕ, get_or}
use Rattle.bursts.specs.Bursts.{checking, checked_numbers, planning, planned_of, planned_numbers}

abbrev pub check_number : List ℕ → List ℕ → ℕ → ℕ
check_number ms ns i = get_or (checked_numbers (checking ms ns)) i 0

abbrev pub plan_number : List ℕ → ℕ → ℕ → ℕ
plan_number ms room i = get_or (planned_numbers (planned_of (planning ms room))) i 0
