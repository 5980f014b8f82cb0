-- The number that the member view's call gives: 0 or the refusal.
use Rattle.std.specs.Prelude.{ℕ}
use Rattle.view.specs.declared.View.{View}
use Rattle.view.specs.declared.View.TheVariants.{Part, Fallback, Nothing, Refused}

unfoldable pub view_number : View → ℕ
view_number (Part p l) = 0
view_number Fallback = 0
view_number Nothing = 0
view_number (Refused c p) = c
