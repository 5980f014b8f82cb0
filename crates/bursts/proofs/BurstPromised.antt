-- Each promise of `BurstPromises` joined to its proof.
use Rattle.std.specs.Prelude.{◌≡◌, ℕ, zero, suc, ◌≤◌, Bool, true, false, [], ◌∷◌, nat_le, refl}
use Rattle.std.proofs.Common.{ap, arith, leb-true, leb-false}
use Rattle.bursts.specs.declared.Checked.{Checked}
use Rattle.bursts.specs.declared.Checked.TheVariants.{Sound, Breaks}
use Rattle.bursts.specs.Bursts.{waitings, entries, judge, checking, checked_numbers}
use Rattle.bursts.specs.BurstDemands.{entry_at, Or, one, other, PairsRead, PlanChecked, PlanPlaced, Used, NoEmptyBurst}
use Rattle.bursts.proofs.PairLaws.{waitings_count, entries_count, length_at, cabin_at, message_at_lem, burst_at}
use Rattle.bursts.proofs.BurstLaws.{judge_checked, judge_placed}
use Rattle.bursts.proofs.BurstPlans.{plan_passes, plan_refused, plan_thrifty, plan_lent}
use Rattle.bursts.specs.BurstPromises.{BurstPromises}

pairs_read : PairsRead
pairs_read ns = record {
  messages = waitings_count ns;
  entered = entries_count ns;
  bytes = length_at ns;
  cabin = cabin_at ns;
  message = message_at_lem ns;
  burst = burst_at ns;
}

-- the numbers tell the two answers apart
sound_told : (c : Checked) → checked_numbers c ≡ 0 ∷ 0 ∷ [] → c ≡ Sound
unfolding checked_numbers
sound_told Sound e = refl
sound_told (Breaks i) e = let z : ◌≡◌ {A = ℕ} 46 0 = cc in absurd (omega arith)

breaks_told : (c : Checked) (i : ℕ) → checked_numbers c ≡ 46 ∷ i ∷ [] → c ≡ Breaks i
unfolding checked_numbers
breaks_told Sound i e = let z : ◌≡◌ {A = ℕ} 46 0 = cc in absurd (omega arith)
breaks_told (Breaks j) i e = let z : j ≡ i = cc in ap Breaks z

plan_checked : PlanChecked
unfolding checking checked_numbers
plan_checked ms ns =
    (λ e. (judge_checked (waitings ms) (entries ns)).0 (sound_told (judge (waitings ms) (entries ns)) e), λ p. ap checked_numbers ((judge_checked (waitings ms) (entries ns)).1 p))

plan_placed : PlanPlaced
unfolding checking checked_numbers
plan_placed ms ns i =
    (λ e. (judge_placed (waitings ms) (entries ns) i).0 (breaks_told (judge (waitings ms) (entries ns)) i e), λ f. ap checked_numbers ((judge_placed (waitings ms) (entries ns) i).1 f))

-- going back from an entry, the burst number falls by at most one
no_empty_burst : NoEmptyBurst
no_empty_burst ws es g zero b h l = record { at = 0; by = omega arith; here = let z = g.first h in omega arith }
no_empty_burst ws es g (suc i) b h l = go (g.next i h) (λ k. no_empty_burst ws es g i b (omega arith) k)
  where
    before : Used es b i → Used es b (suc i)
    before u = record { at = u.at; by = let k = u.by in omega arith; here = u.here }

    near : (x y : ℕ) → b ≤ x → x ≡ suc y → (b ≤ y → Used es b (suc i)) → (x ≡ b → Used es b (suc i)) → Used es b (suc i)
    near x y l e less same = pick_one (nat_le b y) refl
      where
        pick_one : (t : Bool) → nat_le b y ≡ t → Used es b (suc i)
        pick_one true w = less (leb-true b y w)
        pick_one false w = let k = leb-false b y w in same (omega arith)

    go : Or ((entry_at es (suc i)).burst ≡ (entry_at es i).burst) ((entry_at es (suc i)).burst ≡ suc (entry_at es i).burst) → (b ≤ (entry_at es i).burst → Used es b i) → Used es b (suc i)
    go (one e) ih = before (ih (omega arith))
    go (other e) ih = near (entry_at es (suc i)).burst (entry_at es i).burst l e (λ k. before (ih k)) (λ q. record { at = suc i; by = omega arith; here = q })

pub promises : BurstPromises
promises = record {
  pairs = pairs_read;
  checked = plan_checked;
  placed = plan_placed;
  empty = no_empty_burst;
  passes = plan_passes;
  refused = plan_refused;
  thrifty = plan_thrifty;
  listed = plan_lent;
}
