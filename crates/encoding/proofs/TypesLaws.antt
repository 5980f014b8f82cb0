-- The laws of an optional's type and its three bits.
--
--   bits_below               they are below 8
--   bits_back, bits_there    a type is that of its bits; bits below 8 are those of their type
use Rattle.std.specs.Prelude.{◌≡◌, refl, ℕ, zero, suc, ◌<◌}
use Rattle.std.proofs.Common.{arith}
use Rattle.encoding.specs.Types.{Bits, f1, f2, f4, f8, size, vsize, fsize, class, bits, bits_at}

pub bits_below : (k : Bits) → bits k < 8
bits_below f1 = omega arith
bits_below f2 = omega arith
bits_below f4 = omega arith
bits_below f8 = omega arith
bits_below size = omega arith
bits_below vsize = omega arith
bits_below fsize = omega arith
bits_below class = omega arith

pub bits_back : (k : Bits) → bits_at (bits k) ≡ k
bits_back f1 = refl
bits_back f2 = refl
bits_back f4 = refl
bits_back f8 = refl
bits_back size = refl
bits_back vsize = refl
bits_back fsize = refl
bits_back class = refl

pub bits_there : (n : ℕ) → n < 8 → bits (bits_at n) ≡ n
bits_there zero h = refl
bits_there (suc zero) h = refl
bits_there (suc (suc zero)) h = refl
bits_there (suc (suc (suc zero))) h = refl
bits_there (suc (suc (suc (suc zero)))) h = refl
bits_there (suc (suc (suc (suc (suc zero))))) h = refl
bits_there (suc (suc (suc (suc (suc (suc zero)))))) h = refl
bits_there (suc (suc (suc (suc (suc (suc (suc zero))))))) h = refl
bits_there (suc (suc (suc (suc (suc (suc (suc (suc n)))))))) h = absurd (omega arith)
