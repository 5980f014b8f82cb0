-- The place of the sheet's refusal hangs on table and top alone. Assumes nothing.
--
--   sheet_place_same    whatever buffer, member and sheet are
use mathlib.Core.Path.{◌≡◌, sym, ◌∙◌}
use mathlib.Core.List.{List}
use Prim.Native.Nat.{ℕ}
use Rattle.prepare.specs.Preparing.{checks}
use Rattle.sheet.specs.Sheet.{add_bytes, place_of}
use Rattle.sheet.specs.SheetLaws.{bytes_place}

pub sheet_place_same : (T : List ℕ) (top : ℕ) (buffer : List ℕ) (member : ℕ) (lent : List ℕ) (r : ℕ) → r ≡ place_of (checks T top 1 0) → r ≡ (add_bytes T top buffer member lent).place
sheet_place_same T top buffer member lent r e = e ∙ sym (bytes_place T top buffer member lent)
