-- A row put as its three numbers, and read from its bytes. Assumes nothing.
--
--   numbers_put              the three numbers, put one after another into 12 bytes, are the row's bytes
--   row_put, row_over        a row that fits replaces its 12 bytes; one that doesn't changes nothing
--   numbers_read, row_read   a row's numbers, read from the whole list, and from the row's own 12 bytes
use mathlib.Core.Path.{◌≡◌, sym, ap, ◌∙◌}
use mathlib.Core.List.{List, ◌++◌, append_assoc, append-nil}
use Prim.Native.Nat.{ℕ, ◌+◌, ◌-◌, ◌*◌, ◌/◌, ◌≤◌, ◌<◌}
use native.Mathlib.Omega.{arith}
use native.Mathlib.Nat.{add-zero}
use lib.ListN.{length, take, drop, length-append, drop_of_length-le}
use lib.Seq.{drop-drop}
use borrow.Rule.Slice.PartMut.{put_mid}
use Rattle.encoding.specs.Number.{le_bytes}
use Rattle.encoding.proofs.NumberLaws.{length_le_bytes}
use Rattle.encoding.specs.Table.{at}
use Rattle.encoding.specs.Message.{Row, row_bytes}
use Rattle.encoding.proofs.MessageLaws.{length_row}
use Rattle.encoding.specs.Write.{row_at}
use Rattle.wire.specs.At.{at_within}
use Rattle.wire.specs.Put.{put}
use Rattle.wire.specs.PutLaws.{put_put, put_front, put_fits, put_over}

pub numbers_put : (m p l : ℕ) (row a b c : List ℕ) → length row ≡ 12 → a ≡ put 0 (le_bytes 4 m) row → b ≡ put 4 (le_bytes 4 p) a → c ≡ put 8 (le_bytes 4 l) b
    → c ≡ row_bytes (record { member = m; place = p; len = l })
unfolding row_bytes
numbers_put m p l row a b c h ea eb ec =
    let r : Row = record { member = m; place = p; len = l } in
    let lm = length_le_bytes 4 m in
    let lp = length_le_bytes 4 p in
    let ll = length_le_bytes 4 l in
    let two = length-append (le_bytes 4 m) (le_bytes 4 p) in
    let n = length_row r in
    ec
    ∙ ap (λ (z : List ℕ). put 8 (le_bytes 4 l) z) (eb ∙ ap (λ (z : List ℕ). put 4 (le_bytes 4 p) z) ea ∙ put_put 0 4 (le_bytes 4 m) (le_bytes 4 p) row (omega arith) (omega arith))
    ∙ put_put 0 8 (le_bytes 4 m ++ le_bytes 4 p) (le_bytes 4 l) row (omega arith) (omega arith)
    ∙ put_front (row_bytes r) row (omega arith)
    ∙ ap (λ (z : List ℕ). row_bytes r ++ z) (drop_of_length-le row {i = length (row_bytes r)} (omega arith)) ∙ append-nil (row_bytes r)

pub row_put : (k : ℕ) (r : Row) (out last : List ℕ) → k < length out / 12 → last ≡ row_bytes r → put_mid (12 * k) (12 * k + 12 - 12 * k) out last ≡ put (12 * k) (row_bytes r) out
row_put k r out last h q =
    let n = length_row r in
    let e : 12 * k + (12 * k + 12 - 12 * k) ≡ 12 * k + length (row_bytes r) = omega arith in
    let d : drop (12 * k + 12 - 12 * k) (drop (12 * k) out) ≡ drop (12 * k + length (row_bytes r)) out = drop-drop (12 * k + 12 - 12 * k) (12 * k) out ∙ ap (λ (i : ℕ). drop i out) e in
    ap (λ (z : List ℕ). take (12 * k) out ++ (z ++ drop (12 * k + 12 - 12 * k) (drop (12 * k) out))) q
    ∙ ap (λ (z : List ℕ). take (12 * k) out ++ (row_bytes r ++ z)) d
    ∙ sym (append_assoc (take (12 * k) out) (row_bytes r) (drop (12 * k + length (row_bytes r)) out))
    ∙ sym (put_fits (12 * k) (row_bytes r) out (omega arith))

pub row_over : (k : ℕ) (r : Row) (out : List ℕ) → length out / 12 ≤ k → out ≡ put (12 * k) (row_bytes r) out
row_over k r out h = sym (put_over (12 * k) (row_bytes r) out (omega (arith, length_row r)))

-- ---- a row's numbers

module _ (rows : List ℕ) (i m p n : ℕ) where
  pub numbers_read : m ≡ at rows 4 (12 * i) → p ≡ at rows 4 (12 * i + 4) → n ≡ at rows 4 (12 * i + 8) → record { member = m; place = p; len = n } ≡ row_at rows i
  unfolding row_at
  numbers_read em ep en = rw (em, ep, en)

  -- of the row's own 12 bytes
  row_part : (k : ℕ) → k + 4 ≤ 12 → at (take (12 * i + 12 - 12 * i) (drop (12 * i) rows)) 4 k ≡ at rows 4 (12 * i + k)
  row_part k h = at_within rows (12 * i) (12 * i + 12 - 12 * i) 4 k (omega arith)

  pub row_read : m ≡ at (take (12 * i + 12 - 12 * i) (drop (12 * i) rows)) 4 0 → p ≡ at (take (12 * i + 12 - 12 * i) (drop (12 * i) rows)) 4 4
      → n ≡ at (take (12 * i + 12 - 12 * i) (drop (12 * i) rows)) 4 8 → record { member = m; place = p; len = n } ≡ row_at rows i
  row_read em ep en = numbers_read (em ∙ row_part 0 (omega arith) ∙ rw add-zero) (ep ∙ row_part 4 (omega arith)) (en ∙ row_part 8 (omega arith))
