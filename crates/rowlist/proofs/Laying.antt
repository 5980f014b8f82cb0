-- Laws of the definitions of `specs/Records.antt` that the proofs cite. Pure lists and numbers.
--
--   overlay_start    nothing is laid over it
--   overlay_next     row i stored over a list with i rows laid over it: i + 1 rows laid over it
--   told_accepted, told_refused   the row count of an answer, case by case
--   filled           rows past the list's end are lost, so as many as there is room for are enough
use mathlib.Core.Path.{◌≡◌, refl, sym, ◌∙◌, ap}
use mathlib.Core.Bool.{Bool, true, false}
use mathlib.Core.List.{List, [], ◌∷◌}
use Prim.Native.Nat.{ℕ, zero, suc, ◌+◌, ◌<◌, ◌≤◌, min}
use native.Mathlib.Nat.{not-suc-le-zero, le_of_suc-le-suc, add-zero}
use native.Mathlib.Omega.{arith}
use lib.ListN.{length, set}
use lib.Dec.{leb}
use borrow.Author.Tests.{leb-true, leb-false}
use Rattle.encoding.specs.declared.Row.{Row}
use Rattle.encoding.specs.declared.Reading.{Reading}
use Rattle.encoding.specs.declared.Reading.TheVariants.{Accepted, Refused}
use Rattle.encoding.specs.Table.{range}
use Rattle.encoding.specs.Write.{row_at}
use Rattle.rowlist.specs.Records.{record_of, records, overlay, rows_of}

pub overlay_start : (s : List ℕ) (ys : List Row) → ys ≡ overlay (records s 0 0) ys
unfolding overlay records range
overlay_start s ys = refl

next_from : (s : List ℕ) (ys : List Row) (k i : ℕ) → i < length ys → set (overlay (records s k i) ys) i (record_of (row_at s (k + i))) ≡ overlay (records s k (suc i)) ys
unfolding overlay records range
next_from s [] k i l = absurd (not-suc-le-zero l)
next_from s (y ∷ ys) k zero l = ap (λ (j : ℕ). record_of (row_at s j) ∷ ys) (add-zero k)
next_from s (y ∷ ys) k (suc i) l =
    ap (λ (j : ℕ). record_of (row_at s k) ∷ set (overlay (records s (suc k) i) ys) i (record_of (row_at s j))) (omega arith)
    ∙ ap (λ (zs : List Row). record_of (row_at s k) ∷ zs) (next_from s ys (suc k) i (le_of_suc-le-suc l))

pub overlay_next : (s : List ℕ) (ys : List Row) (i : ℕ) → i < length ys → set (overlay (records s 0 i) ys) i (record_of (row_at s i)) ≡ overlay (records s 0 (suc i)) ys
overlay_next s ys i l = ap (λ (j : ℕ). set (overlay (records s 0 i) ys) i (record_of (row_at s j))) (omega arith) ∙ next_from s ys 0 i l

overlay_cut : (s : List ℕ) (ys : List Row) (k m : ℕ) → length ys ≤ m → overlay (records s k (length ys)) ys ≡ overlay (records s k m) ys
unfolding overlay records range
overlay_cut s [] k zero l = refl
overlay_cut s [] k (suc m) l = refl
overlay_cut s (y ∷ ys) k zero l = absurd (not-suc-le-zero l)
overlay_cut s (y ∷ ys) k (suc m) l = ap (λ (zs : List Row). record_of (row_at s k) ∷ zs) (overlay_cut s ys (suc k) m (le_of_suc-le-suc l))

pub filled : (s : List ℕ) (ys : List Row) (k m : ℕ) → m ≡ min k (length ys) → overlay (records s 0 m) ys ≡ overlay (records s 0 k) ys
filled s ys k m e = go (leb k (length ys)) refl
  where
    go : (t : Bool) → leb k (length ys) ≡ t → overlay (records s 0 m) ys ≡ overlay (records s 0 k) ys
    go true h = ap (λ (j : ℕ). overlay (records s 0 j) ys) (omega (arith, e, leb-true k (length ys) h))
    go false h = ap (λ (j : ℕ). overlay (records s 0 j) ys) (omega (arith, e, leb-false k (length ys) h)) ∙ overlay_cut s ys 0 k (omega (arith, leb-false k (length ys) h))

pub told_accepted : (a : Reading) (t f n o s : ℕ) → a ≡ Accepted t f n o s → n ≡ rows_of a
unfolding rows_of
told_accepted a t f n o s e = sym (ap rows_of e)

pub told_refused : (a : Reading) (n p : ℕ) → a ≡ Refused n p → 0 ≡ rows_of a
unfolding rows_of
told_refused a n p e = sym (ap rows_of e)
