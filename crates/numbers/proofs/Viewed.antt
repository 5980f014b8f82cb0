-- The number of the view's answer, case by case. Assumes nothing.
--
--   part_number, fallback_number, nothing_number   0 where nothing is refused
--   refused_number                                 the refusal's own
--   same_view                                      equal answers have the same number
use mathlib.Core.Path.{◌≡◌, sym, ap, ◌∙◌}
use Prim.Native.Nat.{ℕ}
use Rattle.view.specs.declared.View.{View}
use Rattle.view.specs.declared.View.TheVariants.{Part, Fallback, Nothing, Refused}
use Rattle.numbers.specs.ViewNumber.{view_number}

module _ (v : View) where
  pub part_number : (p l : ℕ) → v ≡ Part p l → 0 ≡ view_number v
  unfolding view_number
  part_number p l e = sym (ap view_number e)

  pub fallback_number : v ≡ Fallback → 0 ≡ view_number v
  unfolding view_number
  fallback_number e = sym (ap view_number e)

  pub nothing_number : v ≡ Nothing → 0 ≡ view_number v
  unfolding view_number
  nothing_number e = sym (ap view_number e)

  pub refused_number : (c p : ℕ) → v ≡ Refused c p → c ≡ view_number v
  unfolding view_number
  refused_number c p e = sym (ap view_number e)

pub same_view : (v w : View) → v ≡ w → (r : ℕ) → r ≡ view_number v → r ≡ view_number w
same_view v w e r h = h ∙ ap view_number e
