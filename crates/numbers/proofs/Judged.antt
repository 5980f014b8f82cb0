-- The numbers of a verdict, case by case. Assumes nothing.
--
--   sound_rule, sound_place      those of a table that breaks no rule
--   broken_rule, broken_place    those of a broken rule
--   rule_same, place_same        equal verdicts have the same numbers
use mathlib.Core.Path.{◌≡◌, sym, ap, ◌∙◌}
use Prim.Native.Nat.{ℕ}
use lib.ListN.{get_or}
use Rattle.encoding.specs.Table.{verdict_numbers}
use Rattle.encoding.specs.declared.Verdict.{Verdict}
use Rattle.encoding.specs.declared.Verdict.TheVariants.{Sound, Broken}

-- number i of a verdict
abbrev number_of : ℕ → Verdict → ℕ
number_of i v = get_or (verdict_numbers v) i 0

module _ (v : Verdict) (e : v ≡ Sound) where
  pub sound_rule : 0 ≡ get_or (verdict_numbers v) 0 0
  unfolding verdict_numbers
  sound_rule = sym (ap (number_of 0) e)

  pub sound_place : 0 ≡ get_or (verdict_numbers v) 1 0
  unfolding verdict_numbers
  sound_place = sym (ap (number_of 1) e)

module _ (v : Verdict) (c p : ℕ) (e : v ≡ Broken c p) where
  pub broken_rule : c ≡ get_or (verdict_numbers v) 0 0
  unfolding verdict_numbers
  broken_rule = sym (ap (number_of 0) e)

  pub broken_place : p ≡ get_or (verdict_numbers v) 1 0
  unfolding verdict_numbers
  broken_place = sym (ap (number_of 1) e)

module _ (v w : Verdict) (e : v ≡ w) (r : ℕ) where
  pub rule_same : r ≡ get_or (verdict_numbers v) 0 0 → r ≡ get_or (verdict_numbers w) 0 0
  rule_same h = h ∙ ap (number_of 0) e

  pub place_same : r ≡ get_or (verdict_numbers v) 1 0 → r ≡ get_or (verdict_numbers w) 1 0
  place_same h = h ∙ ap (number_of 1) e
