-- The bytes of as many items as a size says do not wrap: a size is below 2 ^ 31, an item has fewer than 256 bytes. Assumes nothing.
--
--   items_fits          the bytes of the items
--   sized_items_fits    the size and the items
use mathlib.Core.Path.{◌≡◌, sym, ◌∙◌}
use mathlib.Core.List.{List}
use Prim.Native.Nat.{ℕ, ◌+◌, ◌*◌, ◌^◌, ◌≤◌, ◌<◌}
use native.Mathlib.Nat.{mul-le-mul_right}
use native.Mathlib.Omega.{arith}
use lib.ListN.{length}
use mir.Syntax.{w64}
use mir.Val.{Fits}
use Rattle.encoding.specs.Number.{size}
use Rattle.encoding.proofs.NumberLaws.{held_size}
use Rattle.std.specs.Prelude.{Result, Ok}
use Rattle.wire.specs.declared.Counted.{Counted}
use Rattle.wire.specs.declared.Refusal.{Refusal}
use Rattle.wire.specs.Steps.{sized_of}
use Rattle.wire.specs.StepLaws.{sized_is, sized_held}
use Rattle.wire.specs.SizeLaws.{size_below}

module _ (s : List ℕ) (r : Result Counted Refusal) (e : r ≡ sized_of (size s)) (x : Counted) (q : r ≡ Ok x) (w : ℕ) (h : w < 256) where
  items_below : x.number * w < 2 ^ 39
  items_below =
      let l = size_below s (sized_is (size s) x (sym q ∙ e)) in
      let most : x.number * w ≤ 2 ^ 31 * w = mul-le-mul_right w (omega arith) in
      omega arith

  pub items_fits : Fits w64 (x.number * w)
  items_fits = record { fits = omega (arith, items_below) }

  pub sized_items_fits : length s * 1 < 2 ^ 63 → Fits w64 (x.bytes + x.number * w)
  sized_items_fits b = record { fits = omega (arith, items_below, sized_held size held_size s r e x q) }
