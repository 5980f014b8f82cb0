-- What was found of a table, as a verdict. Assumes nothing.
--
--   number_fits, place_fits    number and place of a broken rule fit 32 bits
--   told_sound, told_broken    the verdict, case by case
use mathlib.Core.Path.{◌≡◌, refl, sym, ◌∙◌}
use mathlib.Core.List.{List}
use Prim.Native.Nat.{ℕ, ◌<◌}
use native.Mathlib.Omega.{arith}
use Rattle.encoding.specs.Table.{Fault, fine, fault, faults, rule_number, table_verdict}
use Rattle.encoding.proofs.RuleLaws.{fault_place}
use Rattle.encoding.specs.declared.Verdict.TheVariants.{Sound, Broken}
use Rattle.laws.proofs.TableFault.{fault_class}
use Rattle.rules.specs.Checks.{finding_of}
use Rattle.std.specs.Prelude.{Result, Ok, Err}
use Rattle.wire.specs.declared.Refusal.{Refusal}

module _ (T : List ℕ) (f : Result Unit Refusal) (ef : f ≡ finding_of (faults T)) where
  pub told_sound : (u : Unit) → f ≡ Ok u → Sound ≡ table_verdict (faults T)
  unfolding finding_of table_verdict
  told_sound u q = go (faults T) (sym q ∙ ef)
    where
      go : (g : Fault) → Ok u ≡ finding_of g → Sound ≡ table_verdict g
      go fine h = refl
      go (fault c p) h = let z : ◌≡◌ {A = ℕ} 0 1 = cc in absurd (omega arith)

  module _ (x : Refusal) (q : f ≡ Err x) where
    found : faults T ≡ fault x.number x.place
    unfolding finding_of
    found = go (faults T) (sym q ∙ ef)
      where
        go : (g : Fault) → Err x ≡ finding_of g → g ≡ fault x.number x.place
        go fine h = let z : ◌≡◌ {A = ℕ} 0 1 = cc in absurd (omega arith)
        go (fault d p) h = let e : x ≡ record { number = d; place = p } = cc in rw e refl

    pub number_fits : x.number < 4294967296
    number_fits = omega (arith, (fault_class T x.number x.place found).1)

    pub place_fits : x.place < 4294967296
    place_fits = omega (arith, fault_place T x.number x.place found)

    pub told_broken : Broken x.number x.place ≡ table_verdict (faults T)
    unfolding table_verdict rule_number
    told_broken = rw (found, table_verdict)
