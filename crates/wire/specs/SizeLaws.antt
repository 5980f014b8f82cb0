-- A size that was read is below 2 ^ 31: one byte, or an int that isn't negative. Assumes nothing.
--
--   size_below    that
use Rattle.std.specs.Prelude.{◌≡◌, refl, Bool, true, false, List, ℕ, ◌^◌, ◌<◌, drop, ltb}
use Rattle.std.proofs.Common.{arith, ltb-true}
use Rattle.encoding.specs.Result.{ok, pick, ◌>>=◌, pure, must}
use Rattle.encoding.proofs.ResultLaws.{bind_ok, pure_ok, item_ok, must_ok}
use Rattle.encoding.specs.Number.{number, byte, size_form, size_tail, size}
use Rattle.encoding.proofs.NumberLaws.{size_form_ok}

-- by its first byte
tail_below : (x : ℕ) (xs : List ℕ) {n k : ℕ} → size_tail x xs ≡ ok n k → n < 2 ^ 31
unfolding size_tail
tail_below x xs {n} {k} h = go (ltb x 255) refl h
  where
    go : (b : Bool) → ltb x 255 ≡ b → pick b (pure x) (must size_form (number 4)) xs ≡ ok n k → n < 2 ^ 31
    go true e h = let P = pure_ok x xs h in omega (arith, ltb-true x 255 e, P.0)
    go false e h = (size_form_ok n (must_ok (number 4) xs size_form h).1).1

pub size_below : (s : List ℕ) {n k : ℕ} → size s ≡ ok n k → n < 2 ^ 31
unfolding size
size_below s h =
    let B = bind_ok byte size_tail s (item_ok (byte >>= size_tail) s h) in
    tail_below B.fst (drop B.n s) B.next
