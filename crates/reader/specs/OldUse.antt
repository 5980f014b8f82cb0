-- What a caller that walks more than once knows of encoding 1.0.
--
--   OldUse T top u   u is 1 only where 1.0 can be used with table and top, 2 only where it cannot
use Rattle.std.specs.Prelude.{◌≡◌, true, false, List, ℕ}
use Rattle.encoding.specs.Old.{no_old}

-- every other number, 0 above all, says nothing: 26 is then judged for the message
pub record OldUse (T : List ℕ) (top u : ℕ) : Type 0 where
  pub can : u ≡ 1 → no_old T top ≡ false
  pub cannot : u ≡ 2 → no_old T top ≡ true
