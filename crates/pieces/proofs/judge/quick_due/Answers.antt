-- The member is compared, then the bytes are judged; nothing is said of a row that is told to be wrong. Assumes nothing.
use mathlib.Core.Path.{◌≡◌, refl}
use Prim.Native.Nat.{ℕ}
use native.Mathlib.Omega.{arith}
use Rattle.pieces.proofs.Fields.{due_quick, part_small}
use Rattle.pieces.proofs.judge.quick_due.Goals as goal

pub returns-then-row-m : goal.returns-then-row-m
returns-then-row-m c = λ end q. let z : ◌≡◌ {A = ℕ} 0 1 = cc in absurd (omega arith)

pub overflow_add-result : goal.overflow_add-result
overflow_add-result c = omega (arith, part_small _ _ _ 0 (c.is_right.ensures c.if-is_right.true) refl c.requires.at_bound.2)

pub returns-then-is_right : goal.returns-then-is_right
returns-then-is_right c = λ end q. search due_quick

pub returns : goal.returns
returns c = λ end q. let z : ◌≡◌ {A = ℕ} 0 1 = cc in absurd (omega arith)
