-- The part of the buffer that a row gives. Assumes nothing.
--
--   part_past, part_whole, part_cut    how many bytes of the part lie in the buffer
use mathlib.Core.Path.{◌≡◌, sym, ◌∙◌}
use mathlib.Core.List.{List}
use Prim.Native.Nat.{ℕ, ◌-◌, ◌≤◌, ◌<◌, min}
use native.Mathlib.Omega.{arith}
use native.Mathlib.Nat.{min-eq_left, min-eq_right}
use lib.ListN.{length, take, drop, length-take, length-drop}

module _ (buffer : List ℕ) (place len : ℕ) where
  part_min : length (take len (drop place buffer)) ≡ min len (length buffer - place)
  part_min = simp (length-take, length-drop)

  pub part_past : length buffer ≤ place → 0 ≡ length (take len (drop place buffer))
  part_past h = let z : length buffer - place ≡ 0 = omega arith in sym (part_min ∙ min-eq_right (omega arith) ∙ z)

  pub part_whole : len ≤ length buffer - place → len ≡ length (take len (drop place buffer))
  part_whole h = sym (part_min ∙ min-eq_left h)

  pub part_cut : length buffer - place < len → length buffer - place ≡ length (take len (drop place buffer))
  part_cut h = sym (part_min ∙ min-eq_right (omega arith))
