-- The numbers of an answer, case by case. Assumes nothing.
--
--   type_number .. slices_number, accepted_rest    those of an accepted message; the others are 0
--   refusal_number, place_number, refused_rest     those of a refused one
--   number_same                                    equal answers have the same numbers
use mathlib.Core.Path.{◌≡◌, refl, sym, ap, ap₂, ◌∙◌}
use Prim.Native.Nat.{ℕ, zero, suc}
use lib.ListN.{get_or}
use Rattle.encoding.specs.Message.{reading_numbers}
use Rattle.encoding.specs.declared.Reading.{Reading}
use Rattle.encoding.specs.declared.Reading.TheVariants.{Accepted, Refused}

-- number i of an answer
abbrev number_of : Reading → ℕ → ℕ
number_of a i = get_or (reading_numbers a) i 0

module _ (a : Reading) (t g n o s : ℕ) (e : a ≡ Accepted t g n o s) (i : ℕ) where
  pub type_number : i ≡ 2 → t ≡ get_or (reading_numbers a) i 0
  unfolding reading_numbers
  type_number q = sym (ap₂ number_of e q)

  pub format_number : i ≡ 3 → g ≡ get_or (reading_numbers a) i 0
  unfolding reading_numbers
  format_number q = sym (ap₂ number_of e q)

  pub count_number : i ≡ 4 → n ≡ get_or (reading_numbers a) i 0
  unfolding reading_numbers
  count_number q = sym (ap₂ number_of e q)

  pub optionals_number : i ≡ 5 → o ≡ get_or (reading_numbers a) i 0
  unfolding reading_numbers
  optionals_number q = sym (ap₂ number_of e q)

  pub slices_number : i ≡ 6 → s ≡ get_or (reading_numbers a) i 0
  unfolding reading_numbers
  slices_number q = sym (ap₂ number_of e q)

  pub accepted_rest : (i ≡ 2 → ⊥) → (i ≡ 3 → ⊥) → (i ≡ 4 → ⊥) → (i ≡ 5 → ⊥) → (i ≡ 6 → ⊥) → 0 ≡ get_or (reading_numbers a) i 0
  unfolding reading_numbers
  accepted_rest = go i
    where
      go : (j : ℕ) → (j ≡ 2 → ⊥) → (j ≡ 3 → ⊥) → (j ≡ 4 → ⊥) → (j ≡ 5 → ⊥) → (j ≡ 6 → ⊥) → 0 ≡ get_or (reading_numbers a) j 0
      go zero h₂ h₃ h₄ h₅ h₆ = sym (ap (λ (x : Reading). number_of x 0) e)
      go (suc zero) h₂ h₃ h₄ h₅ h₆ = sym (ap (λ (x : Reading). number_of x 1) e)
      go (suc (suc zero)) h₂ h₃ h₄ h₅ h₆ = absurd (h₂ refl)
      go (suc (suc (suc zero))) h₂ h₃ h₄ h₅ h₆ = absurd (h₃ refl)
      go (suc (suc (suc (suc zero)))) h₂ h₃ h₄ h₅ h₆ = absurd (h₄ refl)
      go (suc (suc (suc (suc (suc zero))))) h₂ h₃ h₄ h₅ h₆ = absurd (h₅ refl)
      go (suc (suc (suc (suc (suc (suc zero)))))) h₂ h₃ h₄ h₅ h₆ = absurd (h₆ refl)
      go (suc (suc (suc (suc (suc (suc (suc j))))))) h₂ h₃ h₄ h₅ h₆ = sym (ap (λ (x : Reading). number_of x (suc (suc (suc (suc (suc (suc (suc j)))))))) e)

module _ (a : Reading) (c p : ℕ) (e : a ≡ Refused c p) (i : ℕ) where
  pub refusal_number : i ≡ 0 → c ≡ get_or (reading_numbers a) i 0
  unfolding reading_numbers
  refusal_number q = sym (ap₂ number_of e q)

  pub place_number : i ≡ 1 → p ≡ get_or (reading_numbers a) i 0
  unfolding reading_numbers
  place_number q = sym (ap₂ number_of e q)

  pub refused_rest : (i ≡ 0 → ⊥) → (i ≡ 1 → ⊥) → 0 ≡ get_or (reading_numbers a) i 0
  unfolding reading_numbers
  refused_rest = go i
    where
      zeros : (j : ℕ) → ◌≡◌ {A = ℕ} 0 (number_of (Refused 0 0) j)
      zeros zero = refl
      zeros (suc zero) = refl
      zeros (suc (suc zero)) = refl
      zeros (suc (suc (suc zero))) = refl
      zeros (suc (suc (suc (suc zero)))) = refl
      zeros (suc (suc (suc (suc (suc zero))))) = refl
      zeros (suc (suc (suc (suc (suc (suc zero)))))) = refl
      zeros (suc (suc (suc (suc (suc (suc (suc j))))))) = refl

      go : (j : ℕ) → (j ≡ 0 → ⊥) → (j ≡ 1 → ⊥) → 0 ≡ get_or (reading_numbers a) j 0
      go zero h₀ h₁ = absurd (h₀ refl)
      go (suc zero) h₀ h₁ = absurd (h₁ refl)
      go (suc (suc j)) h₀ h₁ = zeros (suc (suc j)) ∙ sym (ap (λ (x : Reading). number_of x (suc (suc j))) e)

pub number_same : (a b : Reading) → a ≡ b → (r i : ℕ) → r ≡ get_or (reading_numbers a) i 0 → r ≡ get_or (reading_numbers b) i 0
number_same a b e r i h = h ∙ ap (λ (x : Reading). number_of x i) e
