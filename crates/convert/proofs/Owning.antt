-- The loop over the rows of an owner. Assumes nothing.
--
--   end_none, end_last   where some rows end
--   Owning, owning_..    what the loop keeps: the rows from k on give the end and the count
use mathlib.Core.Path.{◌≡◌, refl, sym, ap, ◌∙◌}
use mathlib.Core.Bool.{true, false}
use mathlib.Core.List.{List, [], ◌∷◌, map}
use Prim.Native.Nat.{ℕ, ◌+◌, ◌-◌, ◌*◌, ◌≤◌, ◌<◌}
use native.Mathlib.Omega.{arith}
use borrow.Author.Tests.{eq-eqb, ne_eqb, le-leb, lt-leb, le-ltb, lt-ltb}
use Rattle.encoding.specs.Table.{at, field, takes}
use Rattle.encoding.specs.Write.{row_at}
use Rattle.table.proofs.Ranges.{range_more, range_none}
use Rattle.table.specs.Rows.{IsTypeRow}
use Rattle.table.specs.declared.TypeRow.{TypeRow}
use Rattle.convert.specs.Reslice.{own_end, own_count}
use Rattle.convert.specs.Plans.{rows_from, end_at, OwnRows}

-- ---- the end of some rows

module _ (list : List ℕ) (i k start : ℕ) where
  pub end_none : k ≡ i → start ≡ end_at list i k start
  unfolding end_at
  end_none q = rw (eq-eqb k i q)

  pub end_last : (k ≡ i → ⊥) → (p l : ℕ) → p ≡ at list 4 (12 * (k - 1) + 4) → l ≡ at list 4 (12 * (k - 1) + 8) → p + l ≡ end_at list i k start
  unfolding end_at
  end_last q p l ep el = rw (ne_eqb k i q, ep, el)

  end_next : i ≤ k → end_at list i (k + 1) start ≡ at list 4 (12 * k + 4) + at list 4 (12 * k + 8)
  unfolding end_at
  end_next h =
      let z : k + 1 - 1 ≡ k = omega arith in
      rw (ne_eqb (k + 1) i (λ q. omega arith), z)

-- ---- the loop

pub record Owning (T list : List ℕ) (n i o start k : ℕ) : Type 0 where
  pub inside : k ≤ n
  pub behind : i ≤ k
  pub ends : own_end T o start (rows_from list i n) ≡ own_end T o (end_at list i k start) (rows_from list k n)
  pub counts : i + own_count T o (rows_from list i n) ≡ k + own_count T o (rows_from list k n)

pub owning_begin : (T list : List ℕ) (n i o start : ℕ) → i ≤ n → Owning T list n i o start i
owning_begin T list n i o start h =
    record { inside = h; behind = omega arith; ends = ap (λ (e : ℕ). own_end T o e (rows_from list i n)) (end_none list i i start refl); counts = refl }

module _ (T list : List ℕ) (n i o start k : ℕ) (O : Owning T list n i o start k) where
  -- no row of the owner is left
  module _ (e : ℕ) (ee : e ≡ end_at list i k start) (small : e ≤ 8589934592) where
    done : own_end T o (end_at list i k start) (rows_from list k n) ≡ end_at list i k start → own_count T o (rows_from list k n) ≡ 0 → OwnRows T list n i o start (record { end = e; row = k })
    done a b = record { ends = ee ∙ sym (O.ends ∙ a); next = omega (arith, O.counts); within = O.inside; small = small }

    pub owning_end : n ≤ k → OwnRows T list n i o start (record { end = e; row = k })
    unfolding own_end own_count
    owning_end h =
        let z : rows_from list k n ≡ [] = ap (map (row_at list)) (range_none k n h) in
        done (ap (own_end T o (end_at list i k start)) z) (ap (own_count T o) z)

  module _ (h : k < n) where
    more : rows_from list k n ≡ row_at list k ∷ rows_from list (k + 1) n
    more = ap (map (row_at list)) (range_more k n h)

    other : takes T o (row_at list k).member ≡ false → (e : ℕ) → e ≡ end_at list i k start → e ≤ 8589934592 → OwnRows T list n i o start (record { end = e; row = k })
    unfolding own_end own_count
    other f e ee small = done e ee small (ap (own_end T o (end_at list i k start)) more ∙ rw f) (ap (own_count T o) more ∙ rw f)

    module _ (r : TypeRow) (R : IsTypeRow T o r) (m : ℕ) (em : m ≡ at list 4 (12 * k)) where
      pub owning_before : m < r.a → (e : ℕ) → e ≡ end_at list i k start → e ≤ 8589934592 → OwnRows T list n i o start (record { end = e; row = k })
      unfolding takes row_at
      owning_before l = let b : at list 4 (12 * k) < field T o 0 = omega (arith, R.a_is) in other (rw (lt-leb (field T o 0) (at list 4 (12 * k)) b))

      module _ (a : r.a ≤ m) where
        first : field T o 0 ≤ at list 4 (12 * k)
        first = omega (arith, R.a_is)

        pub owning_past : r.a + r.b ≤ m → (e : ℕ) → e ≡ end_at list i k start → e ≤ 8589934592 → OwnRows T list n i o start (record { end = e; row = k })
        unfolding takes row_at
        owning_past l =
            let b : field T o 0 + field T o 1 ≤ at list 4 (12 * k) = omega (arith, R.a_is, R.b_is) in
            other (rw (le-leb (field T o 0) (at list 4 (12 * k)) first, le-ltb (at list 4 (12 * k)) (field T o 0 + field T o 1) b))

        pub owning_next : m < r.a + r.b → Owning T list n i o start (k + 1)
        unfolding takes row_at own_end own_count
        owning_next b =
            let c : at list 4 (12 * k) < field T o 0 + field T o 1 = omega (arith, R.a_is, R.b_is) in
            let t : takes T o (at list 4 (12 * k)) ≡ true = rw (le-leb (field T o 0) (at list 4 (12 * k)) first, lt-ltb (at list 4 (12 * k)) (field T o 0 + field T o 1) c) in
            record {
              inside = omega arith;
              behind = omega (arith, O.behind);
              ends = O.ends ∙ ap (own_end T o (end_at list i k start)) more ∙ rw (t, end_next list i k start O.behind);
              counts = omega (arith, O.counts, ap (own_count T o) more ∙ counted t);
            }
          where
            counted : takes T o (at list 4 (12 * k)) ≡ true → own_count T o (row_at list k ∷ rows_from list (k + 1) n) ≡ 1 + own_count T o (rows_from list (k + 1) n)
            counted t = rw t (omega arith)
