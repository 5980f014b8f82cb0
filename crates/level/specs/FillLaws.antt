-- Laws of `Fill.fill`. Assumes nothing.
--
--   fill_length    the list keeps its length
--   fill_append    rows after rows
--   fill_listed    where all rows fit: their bytes one after another, and the rest as it was
--   Covered i k    a list differs from another in rows i to k - 1 at most: rows that are put over them make both the same
--   covered_none, covered_next    no row; one row more
use Rattle.std.specs.Prelude.{◌≡◌, refl, Bool, true, false, List, [], ◌∷◌, ◌++◌, ℕ, suc, ◌+◌, ◌*◌, ◌≤◌, ◌<◌, length, take, drop, set, eqb, leb}
use Rattle.std.proofs.Common.{sym, ap, ◌∙◌, add-zero, arith, set-set, eqb-true, leb-true, leb-false}
use Rattle.std.proofs.lemmas.List.Edits.{sets}
use Rattle.std.proofs.lemmas.List.{set_comm}
use Rattle.std.proofs.lemmas.Bool.{eqb-false}
use Rattle.encoding.specs.Result.{concat}
use Rattle.encoding.specs.Message.{Row, row_bytes}
use Rattle.encoding.proofs.MessageLaws.{length_row, length_rows}
use Rattle.wire.specs.Put.{put}
use Rattle.wire.specs.PutLaws.{put_length, put_none, put_put, put_fits, put_over, put_sets}
use Rattle.level.specs.Fill.{fill}

pub fill_length : (rs : List Row) (k : ℕ) (out : List ℕ) → length (fill k rs out) ≡ length out
unfolding fill
fill_length [] k out = refl
fill_length (r ∷ rs) k out = fill_length rs (suc k) _ ∙ put_length (12 * k) (row_bytes r) out

pub fill_append : (rs qs : List Row) (k : ℕ) (out : List ℕ) → fill k (rs ++ qs) out ≡ fill (k + length rs) qs (fill k rs out)
unfolding fill
fill_append [] qs k out = ap (λ (i : ℕ). fill i qs out) (sym (add-zero k))
fill_append (r ∷ rs) qs k out =
    fill_append rs qs (suc k) _ ∙ ap (λ (i : ℕ). fill i qs (fill (suc k) rs (put (12 * k) (row_bytes r) out))) (omega arith)

fill_put : (rs : List Row) (k : ℕ) (out : List ℕ) → 12 * (k + length rs) ≤ length out → fill k rs out ≡ put (12 * k) (concat row_bytes rs) out
unfolding fill concat
fill_put [] k out h = sym (put_none (12 * k) out)
fill_put (r ∷ rs) k out h =
    let l = put_length (12 * k) (row_bytes r) out in
    fill_put rs (suc k) (put (12 * k) (row_bytes r) out) (omega arith)
    ∙ put_put (12 * k) (12 * suc k) (row_bytes r) (concat row_bytes rs) out (omega (arith, length_row r)) (omega (arith, length_row r, length_rows rs))

pub fill_listed : (rs : List Row) (k : ℕ) (out : List ℕ) → 12 * (k + length rs) ≤ length out
    → fill k rs out ≡ take (12 * k) out ++ concat row_bytes rs ++ drop (12 * (k + length rs)) out
fill_listed rs k out h =
    let e : 12 * k + length (concat row_bytes rs) ≡ 12 * (k + length rs) = omega (arith, length_rows rs) in
    fill_put rs k out h ∙ put_fits (12 * k) (concat row_bytes rs) out (omega arith) ∙ ap (λ (i : ℕ). take (12 * k) out ++ concat row_bytes rs ++ drop i out) e

-- ---- rows put over rows

-- a store before other stores
set_before : (b l : List ℕ) (at i a : ℕ) → i < at → set (sets l at b) i a ≡ sets (set l i a) at b
set_before [] l at i a h = refl
set_before (x ∷ b) l at i a h = set_before b (set l at x) (suc at) i a (omega arith) ∙ ap (λ (z : List ℕ). sets z (suc at) b) (set_comm l at i x a (λ e. omega arith))

sets_again : (b c l : List ℕ) (at : ℕ) → length b ≡ length c → sets (sets l at c) at b ≡ sets l at b
sets_again [] [] l at e = refl
sets_again [] (y ∷ c) l at e = absurd (omega arith)
sets_again (x ∷ b) [] l at e = absurd (omega arith)
sets_again (x ∷ b) (y ∷ c) l at e =
    ap (λ (z : List ℕ). sets z (suc at) b) (set_before c (set l at y) (suc at) at x (omega arith) ∙ ap (λ (z : List ℕ). sets z (suc at) c) (set-set l at y x))
    ∙ sets_again b c (set l at x) (suc at) (omega arith)

sets_apart : (b c l : List ℕ) (at p : ℕ) → at + length b ≤ p → sets (sets l p c) at b ≡ sets (sets l at b) p c
sets_apart [] c l at p h = refl
sets_apart (x ∷ b) c l at p h =
    ap (λ (z : List ℕ). sets z (suc at) b) (set_before c l p at x (omega arith)) ∙ sets_apart b c (set l at x) (suc at) p (omega arith)

put_again : (at : ℕ) (b c out : List ℕ) → length b ≡ length c → put at b (put at c out) ≡ put at b out
put_again at b c out e = go (leb (at + length b) (length out)) refl
  where
    go : (t : Bool) → leb (at + length b) (length out) ≡ t → put at b (put at c out) ≡ put at b out
    go true q =
        let h = leb-true (at + length b) (length out) q in
        put_sets at b (put at c out) (omega (arith, put_length at c out)) ∙ ap (λ (z : List ℕ). sets z at b) (put_sets at c out (omega arith))
        ∙ sets_again b c out at e ∙ sym (put_sets at b out h)
    go false q = let h = leb-false (at + length b) (length out) q in ap (put at b) (put_over at c out (omega arith))

put_apart : (at p : ℕ) (b c out : List ℕ) → at + length b ≤ p → put at b (put p c out) ≡ put p c (put at b out)
put_apart at p b c out l = go (leb (at + length b) (length out)) refl (leb (p + length c) (length out)) refl
  where
    go : (t : Bool) → leb (at + length b) (length out) ≡ t → (u : Bool) → leb (p + length c) (length out) ≡ u → put at b (put p c out) ≡ put p c (put at b out)
    go true q true r =
        let h = leb-true (at + length b) (length out) q in
        let k = leb-true (p + length c) (length out) r in
        put_sets at b (put p c out) (omega (arith, put_length p c out)) ∙ ap (λ (z : List ℕ). sets z at b) (put_sets p c out k)
        ∙ sets_apart b c out at p l
        ∙ sym (put_sets p c (put at b out) (omega (arith, put_length at b out)) ∙ ap (λ (z : List ℕ). sets z p c) (put_sets at b out h))
    go t q false r =
        let k = leb-false (p + length c) (length out) r in
        ap (put at b) (put_over p c out k) ∙ sym (put_over p c (put at b out) (omega (arith, put_length at b out)))
    go false q true r =
        let h = leb-false (at + length b) (length out) q in
        put_over at b (put p c out) (omega (arith, put_length p c out)) ∙ sym (ap (put p c) (put_over at b out h))

fill_over : (rs : List Row) (i k : ℕ) (b out : List ℕ) → length b ≡ 12 → i ≤ k → k < i + length rs → fill i rs (put (12 * k) b out) ≡ fill i rs out
unfolding fill
fill_over [] i k b out e h l = absurd (omega arith)
fill_over (r ∷ rs) i k b out e h l = go (eqb i k) refl (fill_over rs (suc i) k b (put (12 * i) (row_bytes r) out) e)
  where
    go : (t : Bool) → eqb i k ≡ t → (suc i ≤ k → k < suc i + length rs → fill (suc i) rs (put (12 * k) b (put (12 * i) (row_bytes r) out)) ≡ fill (suc i) rs (put (12 * i) (row_bytes r) out))
        → fill (suc i) rs (put (12 * i) (row_bytes r) (put (12 * k) b out)) ≡ fill (suc i) rs (put (12 * i) (row_bytes r) out)
    go true q again = ap (fill (suc i) rs) (rw (← eqb-true i k q) (put_again (12 * i) (row_bytes r) b out (length_row r ∙ sym e)))
    go false q again =
        let d = eqb-false i k q in
        ap (fill (suc i) rs) (put_apart (12 * i) (12 * k) (row_bytes r) b out (omega (arith, length_row r, d))) ∙ again (omega (arith, d)) (omega arith)

pub record Covered (i k : ℕ) (out out₀ : List ℕ) : Type 0 where
  pub begun : i ≤ k
  pub over : (rs : List Row) → k ≤ i + length rs → fill i rs out ≡ fill i rs out₀

pub covered_none : (i : ℕ) (out : List ℕ) → Covered i i out out
covered_none i out = record { begun = omega arith; over = λ rs h. refl }

pub covered_next : (i k : ℕ) (out out₀ : List ℕ) → Covered i k out out₀ → (m place len : ℕ) (o : List ℕ) → o ≡ put (12 * k) (row_bytes (record { member = m; place = place; len = len })) out
    → Covered i (k + 1) o out₀
covered_next i k out out₀ C m place len o e = record {
  begun = omega (arith, C.begun);
  over = λ rs h. ap (fill i rs) e ∙ fill_over rs i k _ out (length_row _) C.begun (omega arith) ∙ C.over rs (omega arith);
}
