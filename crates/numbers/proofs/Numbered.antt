-- The numbers of the writer's answer, case by case. Assumes nothing.
--
--   length_number, written_rest                   those of a message written; the others are 0
--   number_number, place_number, rejected_rest    those of a refusal
--   same_number                                   equal answers have the same numbers
use mathlib.Core.Path.{◌≡◌, refl, sym, ap, ap₂, ◌∙◌}
use Prim.Native.Nat.{ℕ, zero, suc}
use lib.ListN.{get_or}
use Rattle.encoding.specs.Write.{writing_numbers}
use Rattle.encoding.specs.declared.Writing.{Writing}
use Rattle.encoding.specs.declared.Writing.TheVariants.{Written, Rejected}

-- number i of an answer
abbrev number_of : Writing → ℕ → ℕ
number_of a i = get_or (writing_numbers a) i 0

module _ (a : Writing) (n : ℕ) (e : a ≡ Written n) (i : ℕ) where
  pub length_number : i ≡ 2 → n ≡ get_or (writing_numbers a) i 0
  unfolding writing_numbers
  length_number q = sym (ap₂ number_of e q)

  pub written_rest : (i ≡ 2 → ⊥) → 0 ≡ get_or (writing_numbers a) i 0
  unfolding writing_numbers
  written_rest = go i
    where
      go : (j : ℕ) → (j ≡ 2 → ⊥) → 0 ≡ get_or (writing_numbers a) j 0
      go zero h = sym (ap (λ (x : Writing). number_of x 0) e)
      go (suc zero) h = sym (ap (λ (x : Writing). number_of x 1) e)
      go (suc (suc zero)) h = absurd (h refl)
      go (suc (suc (suc j))) h = sym (ap (λ (x : Writing). number_of x (suc (suc (suc j)))) e)

module _ (a : Writing) (c p : ℕ) (e : a ≡ Rejected c p) (i : ℕ) where
  pub number_number : i ≡ 0 → c ≡ get_or (writing_numbers a) i 0
  unfolding writing_numbers
  number_number q = sym (ap₂ number_of e q)

  pub place_number : i ≡ 1 → p ≡ get_or (writing_numbers a) i 0
  unfolding writing_numbers
  place_number q = sym (ap₂ number_of e q)

  pub rejected_rest : (i ≡ 0 → ⊥) → (i ≡ 1 → ⊥) → 0 ≡ get_or (writing_numbers a) i 0
  unfolding writing_numbers
  rejected_rest = go i
    where
      go : (j : ℕ) → (j ≡ 0 → ⊥) → (j ≡ 1 → ⊥) → 0 ≡ get_or (writing_numbers a) j 0
      go zero h k = absurd (h refl)
      go (suc zero) h k = absurd (k refl)
      go (suc (suc zero)) h k = sym (ap (λ (x : Writing). number_of x 2) e)
      go (suc (suc (suc j))) h k = sym (ap (λ (x : Writing). number_of x (suc (suc (suc j)))) e)

pub same_number : (a b : Writing) → a ≡ b → (i r : ℕ) → r ≡ get_or (writing_numbers a) i 0 → r ≡ get_or (writing_numbers b) i 0
same_number a b e i r q = q ∙ ap (λ (x : Writing). number_of x i) e
