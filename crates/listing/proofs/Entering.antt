-- One difference in the lent list. Assumes nothing.
--
--   five_put                      five numbers put one after another
--   entry_put                     a difference in its own bytes of the list
--   put_here, put_as, put_past    listed where there is room, and where there is none
use mathlib.Core.Path.{◌≡◌, sym, ap, ◌∙◌}
use mathlib.Core.List.{List, [], ◌∷◌, ◌++◌, append_assoc, append-nil}
use Prim.Native.Nat.{ℕ, ◌+◌, ◌-◌, ◌*◌, ◌/◌, ◌≤◌}
use native.Mathlib.Omega.{arith}
use lib.ListN.{length, take, drop, length-append, drop_of_length-le}
use lib.Seq.{drop-drop}
use borrow.Rule.Slice.PartMut.{put_mid}
use Rattle.encoding.specs.Number.{le_bytes}
use Rattle.encoding.proofs.NumberLaws.{length_le_bytes}
use Rattle.wire.specs.Put.{put}
use Rattle.wire.specs.PutLaws.{put_put, put_front, put_fits, put_over}
use Rattle.differences.specs.Compare.{Difference, difference_bytes}
use Rattle.listing.specs.Listing.{Listed}
use Rattle.listing.specs.ListingLaws.{length_difference, listed_one}

abbrev five_of : (w o p m k : ℕ) → Difference
five_of w o p m k = record { what = w; owner = o; owner' = p; member = m; member' = k }

module _ (w o p m k : ℕ) (lent a b c d z : List ℕ) (h : length lent ≡ 20) where
  pub five_put : a ≡ put 0 (le_bytes 4 w) lent → b ≡ put 4 (le_bytes 4 o) a → c ≡ put 8 (le_bytes 4 p) b → d ≡ put 12 (le_bytes 4 m) c → z ≡ put 16 (le_bytes 4 k) d
      → z ≡ difference_bytes (five_of w o p m k)
  unfolding difference_bytes
  five_put ea eb ec ed ez =
      let w4 = length_le_bytes 4 w in
      let o4 = length_le_bytes 4 o in
      let p4 = length_le_bytes 4 p in
      let m4 = length_le_bytes 4 m in
      let k4 = length_le_bytes 4 k in
      let lo = length-append (le_bytes 4 w) (le_bytes 4 o) in
      let lp = length-append (le_bytes 4 w ++ le_bytes 4 o) (le_bytes 4 p) in
      let lm = length-append (le_bytes 4 w ++ le_bytes 4 o ++ le_bytes 4 p) (le_bytes 4 m) in
      let lk = length-append (le_bytes 4 w ++ le_bytes 4 o ++ le_bytes 4 p ++ le_bytes 4 m) (le_bytes 4 k) in
      let sb : b ≡ put 0 (le_bytes 4 w ++ le_bytes 4 o) lent = eb ∙ ap (put 4 (le_bytes 4 o)) ea ∙ put_put 0 4 (le_bytes 4 w) (le_bytes 4 o) lent (omega arith) (omega arith) in
      let sc : c ≡ put 0 (le_bytes 4 w ++ le_bytes 4 o ++ le_bytes 4 p) lent =
      ec ∙ ap (put 8 (le_bytes 4 p)) sb ∙ put_put 0 8 (le_bytes 4 w ++ le_bytes 4 o) (le_bytes 4 p) lent (omega arith) (omega arith) in
      let sd : d ≡ put 0 (le_bytes 4 w ++ le_bytes 4 o ++ le_bytes 4 p ++ le_bytes 4 m) lent =
      ed ∙ ap (put 12 (le_bytes 4 m)) sc ∙ put_put 0 12 (le_bytes 4 w ++ le_bytes 4 o ++ le_bytes 4 p) (le_bytes 4 m) lent (omega arith) (omega arith) in
      let all : List ℕ = le_bytes 4 w ++ le_bytes 4 o ++ le_bytes 4 p ++ le_bytes 4 m ++ le_bytes 4 k in
      let sz : z ≡ put 0 all lent =
      ez ∙ ap (put 16 (le_bytes 4 k)) sd ∙ put_put 0 16 (le_bytes 4 w ++ le_bytes 4 o ++ le_bytes 4 p ++ le_bytes 4 m) (le_bytes 4 k) lent (omega arith) (omega arith) in
      sz ∙ put_front all lent (omega arith) ∙ ap (λ (y : List ℕ). all ++ y) (drop_of_length-le lent {i = length all} (omega arith)) ∙ append-nil all

pub entry_put : (x : Difference) (i : ℕ) (out last : List ℕ) → 20 * i + 20 ≤ length out → last ≡ difference_bytes x
    → put_mid (20 * i) (20 * i + 20 - 20 * i) out last ≡ put (20 * i) (difference_bytes x) out
entry_put x i out last h q =
    let n = length_difference x in
    let e : 20 * i + (20 * i + 20 - 20 * i) ≡ 20 * i + length (difference_bytes x) = omega (arith, n) in
    let d : drop (20 * i + 20 - 20 * i) (drop (20 * i) out) ≡ drop (20 * i + length (difference_bytes x)) out = drop-drop (20 * i + 20 - 20 * i) (20 * i) out ∙ ap (λ (j : ℕ). drop j out) e in
    ap (λ (z : List ℕ). take (20 * i) out ++ (z ++ drop (20 * i + 20 - 20 * i) (drop (20 * i) out))) q
    ∙ ap (λ (z : List ℕ). take (20 * i) out ++ (difference_bytes x ++ z)) d
    ∙ sym (append_assoc (take (20 * i) out) (difference_bytes x) (drop (20 * i + length (difference_bytes x)) out))
    ∙ sym (put_fits (20 * i) (difference_bytes x) out (omega (arith, n)))

module _ (x : Difference) (n : ℕ) (out : List ℕ) where
  pub put_here : (last : List ℕ) → last ≡ put (20 * n) (difference_bytes x) out → Listed (x ∷ []) n out last (n + 1)
  put_here last e = listed_one n out x last e

  pub put_past : length out / 20 ≤ n → Listed (x ∷ []) n out out (n + 1)
  put_past h = listed_one n out x out (sym (put_over (20 * n) (difference_bytes x) out (omega (arith, length_difference x))))

pub put_as : (w v o p m k n : ℕ) (out last : List ℕ) → w ≡ v → last ≡ put (20 * n) (difference_bytes (five_of w o p m k)) out → Listed (five_of v o p m k ∷ []) n out last (n + 1)
put_as w v o p m k n out last e h = put_here (five_of v o p m k) n out last (rw e at h)
