-- A fact for each kind of type row is a fact for every number. Assumes nothing.
use Prim.Native.Nat.{ℕ, zero, suc, ◌<◌}
use native.Mathlib.Omega.{arith}

-- kinds 0 to 12 one by one, and all greater numbers at once
pub by_kind : (P : ℕ → Type 0) → P 0 → P 1 → P 2 → P 3 → P 4 → P 5 → P 6 → P 7 → P 8 → P 9 → P 10 → P 11 → P 12 → ((n : ℕ) → 12 < n → P n) → (k : ℕ) → P k
by_kind P a b c d e f g h i j k l m o zero = a
by_kind P a b c d e f g h i j k l m o (suc zero) = b
by_kind P a b c d e f g h i j k l m o (suc (suc zero)) = c
by_kind P a b c d e f g h i j k l m o (suc (suc (suc zero))) = d
by_kind P a b c d e f g h i j k l m o (suc (suc (suc (suc zero)))) = e
by_kind P a b c d e f g h i j k l m o (suc (suc (suc (suc (suc zero))))) = f
by_kind P a b c d e f g h i j k l m o (suc (suc (suc (suc (suc (suc zero)))))) = g
by_kind P a b c d e f g h i j k l m o (suc (suc (suc (suc (suc (suc (suc zero))))))) = h
by_kind P a b c d e f g h i j k l m o (suc (suc (suc (suc (suc (suc (suc (suc zero)))))))) = i
by_kind P a b c d e f g h i j k l m o (suc (suc (suc (suc (suc (suc (suc (suc (suc zero))))))))) = j
by_kind P a b c d e f g h i j k l m o (suc (suc (suc (suc (suc (suc (suc (suc (suc (suc zero)))))))))) = k
by_kind P a b c d e f g h i j k l m o (suc (suc (suc (suc (suc (suc (suc (suc (suc (suc (suc zero))))))))))) = l
by_kind P a b c d e f g h i j k l m o (suc (suc (suc (suc (suc (suc (suc (suc (suc (suc (suc (suc zero)))))))))))) = m
by_kind P a b c d e f g h i j k l m o (suc (suc (suc (suc (suc (suc (suc (suc (suc (suc (suc (suc (suc n))))))))))))) = o _ (omega arith)
