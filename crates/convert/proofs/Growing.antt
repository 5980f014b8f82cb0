-- The bytes that the sliced form needs, and what is planned of a walk. Assumes nothing.
--
--   Growing, growing_..     the loop over the bases of a row
--   narrow_first, _len      the first known type of a walk, and the message's length
--   plan_..                 what is planned, case by case
use mathlib.Core.Path.{◌≡◌, sym, ap, ◌∙◌, subst}
use mathlib.Core.List.{List}
use Prim.Native.Nat.{ℕ, suc, ◌+◌, ◌-◌, ◌*◌, ◌≤◌, ◌<◌}
use native.Mathlib.Omega.{arith}
use lib.ListN.{length}
use borrow.Author.Tests.{eq-eqb, ne_eqb, le-leb, lt-leb}
use Rattle.encoding.specs.Number.{string_bytes}
use Rattle.encoding.specs.Table.{name_of, base, upward, chain}
use Rattle.encoding.proofs.TableLaws.{chain_row}
use Rattle.slices.specs.declared.Walk.{Walk}
use Rattle.slices.specs.declared.Walk.TheVariants.{Done, Stop}
use Rattle.convert.specs.declared.Plan.TheVariants.{Fits, Stopped}
use Rattle.convert.specs.Reslice.{growth, later_growth}
use Rattle.convert.specs.Plans.{Narrow, fitting, plan_of}

-- ---- the bytes needed

-- the bases of row o are still to be counted
pub record Growing (T : List ℕ) (t n o : ℕ) : Type 0 where
  pub sum : n + later_growth T (upward (chain T) (base T o)) ≡ growth T (chain T t)
  pub below : o ≤ t
  pub few : n ≤ 4 + 65544 * (t - o)

pub growing_begin : (T : List ℕ) (t : ℕ) → Growing T t 4 t
unfolding growth
growing_begin T t = record { sum = sym (ap (growth T) (chain_row T t)); below = omega arith; few = omega arith }

module _ (T : List ℕ) (t n o : ℕ) (G : Growing T t n o) (up : ℕ) (e : up ≡ base T o) where
  pub growing_end : up ≡ 0 → n ≡ growth T (chain T t)
  unfolding upward later_growth
  growing_end z = let s : n + later_growth T (upward (chain T) 0) ≡ growth T (chain T t) = rw (sym e ∙ z) at G.sum in omega arith

  pub growing_few : t < 65536 → n ≤ 4295491588
  growing_few h = omega (arith, G.few)

  pub growing_next : (up ≡ 0 → ⊥) → up ≤ o → (k : ℕ) → k ≡ length (string_bytes (name_of T (up - 1))) → k ≤ 65540 → Growing T t (n + (4 + k)) (up - 1)
  unfolding upward later_growth
  growing_next z h k ek l =
      let q : base T o ≡ suc (up - 1) = omega (arith, z, e) in
      let s : n + later_growth T (chain T (up - 1)) ≡ growth T (chain T t) = rw q at G.sum in
      let r : later_growth T (chain T (up - 1)) ≡ 4 + length (string_bytes (name_of T (up - 1))) + later_growth T (upward (chain T) (base T (up - 1))) = ap (later_growth T) (chain_row T (up - 1)) in
      record { sum = omega arith; below = omega (arith, G.below, z); few = omega (arith, G.few, G.below, z) }

-- ---- the plan

module _ (len : ℕ) (w : Walk) (t g n o s e : ℕ) (q : w ≡ Done t g n o s e) (N : Narrow len w) where
  pub narrow_first : t < 65536
  unfolding Narrow
  narrow_first = (subst (Narrow len) q N).0

  pub narrow_len : len ≤ 65536
  unfolding Narrow
  narrow_len = (subst (Narrow len) q N).1

module _ (T : List ℕ) (len room : ℕ) (w : Walk) where
  pub plan_stop : (c p : ℕ) → w ≡ Stop c p → Stopped c p ≡ plan_of T len room w
  unfolding plan_of
  plan_stop c p e = sym (ap (plan_of T len room) e)

  module _ (t g n o s e : ℕ) (q : w ≡ Done t g n o s e) where
    pub plan_sliced : (g ≡ 0 → ⊥) → Stopped 47 0 ≡ plan_of T len room w
    unfolding plan_of
    plan_sliced f = sym (ap (plan_of T len room) q ∙ rw (ne_eqb g 0 f))

    module _ (f : g ≡ 0) where
      pub plan_optionals : (o ≡ 0 → ⊥) → Stopped 48 0 ≡ plan_of T len room w
      unfolding plan_of
      plan_optionals h = sym (ap (plan_of T len room) q ∙ rw (eq-eqb g 0 f, ne_eqb (o + s) 0 (λ x. h (omega arith))))

      pub plan_slices : (s ≡ 0 → ⊥) → Stopped 48 0 ≡ plan_of T len room w
      unfolding plan_of
      plan_slices h = sym (ap (plan_of T len room) q ∙ rw (eq-eqb g 0 f, ne_eqb (o + s) 0 (λ x. h (omega arith))))

      module _ (ho : o ≡ 0) (hs : s ≡ 0) (k : ℕ) (ek : k ≡ growth T (chain T t)) where
        fits : plan_of T len room w ≡ fitting room t n (len + k)
        unfolding plan_of
        fits = let z : o + s ≡ 0 = omega arith in ap (plan_of T len room) q ∙ rw (eq-eqb g 0 f, eq-eqb (o + s) 0 z, ek)

        pub plan_over : 65536 < len + k → Stopped 22 (len + k) ≡ plan_of T len room w
        unfolding fitting
        plan_over h = sym (fits ∙ rw (lt-leb (len + k) 65536 h))

        pub plan_room : len + k ≤ 65536 → room < len + k → Stopped 22 (len + k) ≡ plan_of T len room w
        unfolding fitting
        plan_room l h = sym (fits ∙ rw (le-leb (len + k) 65536 l, lt-leb (len + k) room h))

        pub plan_fits : len + k ≤ 65536 → len + k ≤ room → Fits t n (len + k) ≡ plan_of T len room w
        unfolding fitting
        plan_fits l h = sym (fits ∙ rw (le-leb (len + k) 65536 l, le-leb (len + k) room h))
