-- The slices of a record one after another. Assumes nothing.
--
--   end_marked, end_plain       where a slice's data end
--   slice_moved, part_small     one slice, and its end
--   Moving, moving_..           the loop over the slices of a chain
--   record_put                  size, version and marker before them
--   first_class, first_other    where the first slice begins
use mathlib.Core.Path.{◌≡◌, refl, sym, ap, ap₂, ◌∙◌}
use mathlib.Core.Bool.{Bool, true, false}
use mathlib.Core.List.{List, ◌∷◌, ◌++◌, map}
use Prim.Native.Nat.{ℕ, zero, suc, ◌+◌, ◌-◌, ◌*◌, ◌≤◌, ◌<◌, min}
use native.Mathlib.Nat.{add-zero}
use native.Mathlib.Omega.{arith}
use lib.ListN.{length, take, drop, length-take, length-drop}
use lib.Dec.{eqb}
use borrow.Author.Tests.{eq-eqb, ne_eqb}
use Rattle.encoding.specs.Result.{pick}
use Rattle.encoding.specs.Number.{le_bytes, string_bytes}
use Rattle.encoding.specs.Table.{at, kind, name_of, base, upward, chain}
use Rattle.encoding.proofs.TableLaws.{chain_row}
use Rattle.encoding.specs.Slice.{bit}
use Rattle.encoding.specs.Write.{row_at}
use Rattle.table.proofs.Ranges.{range_more}
use Rattle.wire.specs.Put.{put}
use Rattle.pieces.specs.Puts.{Puts, Leaves}
use Rattle.pieces.specs.PutsLaws.{puts_one, puts_is, puts_number, puts_then, leaves_begin, leaves_next, leaves_end}
use Rattle.writer.specs.Slices.{front_field}
use Rattle.convert.specs.declared.Ended.{Ended}
use Rattle.convert.specs.declared.Moved.{Moved}
use Rattle.convert.specs.Reslice.{own_count, flagged, data_end, front, reslice, none_above, reslices, resliced}
use Rattle.convert.specs.Plans.{rows_from, OwnRows, SliceMoved}

-- ---- small functions

pub end_marked : (e l : ℕ) (b : Bool) → b ≡ true → (r : ℕ) → r ≡ min (e + 1) l → r ≡ min (e + pick b 1 0) l
end_marked e l b q r h = rw q h

pub end_plain : (e l : ℕ) (b : Bool) → b ≡ false → (r : ℕ) → r ≡ min e l → r ≡ min (e + pick b 1 0) l
end_plain e l b q r h = rw (q, add-zero) h

module _ (T : List ℕ) (t k : ℕ) (ek : k ≡ kind T t) where
  pub first_class : k ≡ 14 → 7 ≡ 6 + pick (eqb (kind T t) 14) 1 0
  first_class z = rw (eq-eqb (kind T t) 14 (sym ek ∙ z))

  pub first_other : (k ≡ 14 → ⊥) → 6 ≡ 6 + pick (eqb (kind T t) 14) 1 0
  first_other z = rw (ne_eqb (kind T t) 14 (λ h. z (ek ∙ h)))

-- ---- one slice

module _ (T m list : List ℕ) (n i o : ℕ) (end : Bool) (at₁ n₁ to : ℕ) (out mid last : List ℕ) (f : ℕ) (ef : f ≡ at m 1 at₁) (b : Bool) (eb : b ≡ bit f 4)
    (r : Ended) (R : OwnRows T list n i o (at₁ + n₁) r) (e : ℕ) (ee : e ≡ min (r.end + pick b 1 0) (length m)) (k : ℕ) (ek : k ≡ e - (at₁ + n₁)) where
  flagged_is : flagged m at₁ ≡ b
  flagged_is = sym (eb ∙ ap (λ (x : ℕ). bit x 4) ef)

  end_is : data_end T m o at₁ (at₁ + n₁) (rows_from list i n) ≡ e
  unfolding data_end
  end_is = rw (flagged_is, ← R.ends) (sym ee)

  part_long : length (take k (drop (at₁ + n₁) m)) ≡ k
  part_long = omega (arith, length-take k (drop (at₁ + n₁) m), length-drop (at₁ + n₁) m)

  pub slice_moved : length m ≤ 65536 → (a : ℕ) → Puts to (front_field T o b end k) out mid a → a ≤ to + 65545 → last ≡ put a (take k (drop (at₁ + n₁) m)) mid
      → SliceMoved T m list n i o end at₁ n₁ out last to (record { row = r.row; at = e; to = a + k })
  unfolding reslice front front_field
  slice_moved s a p w q = record {
    puts = puts_is to _ _ out last (a + k) (sym (rw (end_is, ← ek, flagged_is)))
        (puts_then to _ out mid a p (take k (drop (at₁ + n₁) m)) last (a + k) (puts_one a _ mid last (a + k) q (omega (arith, part_long))));
    ends = sym end_is;
    next = R.next;
    within = R.within;
    small = omega arith;
    few = omega arith;
  }

-- where a slice ends fits 64 bits
pub part_small : (to a x l e d k : ℕ) → to ≤ 576460752303423488 → a ≤ to + 65545 → e ≡ min x l → k ≡ e - d → l ≤ 65536 → a + k < 18446744073709551616
part_small to a x l e d k h i j p q = omega arith

-- ---- the slices of a chain

drop_rows : (list : List ℕ) (n i k : ℕ) → i + k ≤ n → drop k (rows_from list i n) ≡ rows_from list (i + k) n
drop_rows list n i zero h = ap (λ (j : ℕ). rows_from list j n) (sym (add-zero i))
drop_rows list n i (suc k) h =
    let e : rows_from list i n ≡ row_at list i ∷ rows_from list (i + 1) n = ap (map (row_at list)) (range_more i n (omega arith)) in
    let j : i + 1 + k ≡ i + suc k = omega arith in
    ap (drop (suc k)) e ∙ drop_rows list n (i + 1) k (omega arith) ∙ ap (λ (x : ℕ). rows_from list x n) j

none_is : (T : List ℕ) (up : ℕ) → none_above (upward (chain T) up) ≡ eqb up 0
unfolding none_above upward
none_is T zero = refl
none_is T (suc r) = ap none_above (chain_row T r) ∙ sym (ne_eqb (suc r) 0 (λ q. omega arith))

-- the slices from that of owner o on are still to be put
pub record Moving (T m list : List ℕ) (n t begin : ℕ) (lent : List ℕ) (o i p to k : ℕ) (mid : List ℕ) : Type 0 where
  pub leaves : Leaves begin (reslices T m begin (1 + length (string_bytes (name_of T t))) (chain T t) (rows_from list 0 n)) lent to (reslices T m p k (chain T o) (rows_from list i n)) mid
  pub within : i ≤ n
  pub below : o ≤ t
  pub placed : p ≤ 65536
  pub short : k ≤ 65541
  pub few : to ≤ begin + 131200 * (t - o)

pub moving_begin : (T m list : List ℕ) (n t begin : ℕ) (lent : List ℕ) (k : ℕ) → begin ≤ 7 → k ≡ length (string_bytes (name_of T t)) → k ≤ 65540
    → Moving T m list n t begin lent t 0 begin begin (1 + k) lent
moving_begin T m list n t begin lent k h e l = record {
  leaves = rw e (leaves_begin begin _ lent);
  within = omega arith;
  below = omega arith;
  placed = omega arith;
  short = omega arith;
  few = omega arith;
}

module _ (T m list : List ℕ) (n t begin : ℕ) (lent : List ℕ) (o i p to k : ℕ) (mid : List ℕ) (M : Moving T m list n t begin lent o i p to k mid) (up : ℕ) (e : up ≡ base T o)
    (last : List ℕ) (r : Moved) (S : SliceMoved T m list n i o (eqb up 0) p k mid last to r) where
  -- the slices after that of owner o
  rest_is : reslices T m p k (chain T o) (rows_from list i n) ≡ reslice T m o (eqb up 0) p k (rows_from list i n) ++ reslices T m r.at 1 (upward (chain T) up) (rows_from list r.row n)
  unfolding reslices
  rest_is =
      ap (λ (l : List ℕ). reslices T m p k l (rows_from list i n)) (chain_row T o)
      ∙ ap₂ (λ (b c : List ℕ). b ++ c)
      (ap (λ (b : Bool). reslice T m o b p k (rows_from list i n)) (none_is T (base T o) ∙ ap (λ (x : ℕ). eqb x 0) (sym e)))
      (rw (← e, ← S.ends, S.next) (ap (reslices T m r.at 1 (upward (chain T) up)) (drop_rows list n i (own_count T o (rows_from list i n)) (omega (arith, S.next, S.within)))))

  left : Leaves begin (reslices T m begin (1 + length (string_bytes (name_of T t))) (chain T t) (rows_from list 0 n)) lent r.to (reslices T m r.at 1 (upward (chain T) up) (rows_from list r.row n)) last
  left = leaves_next begin _ lent to _ mid M.leaves (reslice T m o (eqb up 0) p k (rows_from list i n)) _ last r.to rest_is S.puts

  pub moving_end : up ≡ 0 → Puts begin (reslices T m begin (1 + length (string_bytes (name_of T t))) (chain T t) (rows_from list 0 n)) lent last r.to
  unfolding reslices upward
  moving_end z = leaves_end begin _ lent r.to _ last left (rw z)

  pub moving_next : (up ≡ 0 → ⊥) → up ≤ o → Moving T m list n t begin lent (up - 1) r.row r.at r.to 1 last
  unfolding upward
  moving_next z h =
      let q : up ≡ suc (up - 1) = omega (arith, z) in
      record {
        leaves = rw q at left;
        within = S.within;
        below = omega (arith, M.below, z);
        placed = S.small;
        short = omega arith;
        few = omega (arith, M.few, M.below, S.few, z);
      }

-- ---- the whole message

pub record_put : (T m list : List ℕ) (n t p size : ℕ) (lent two three last : List ℕ) (r : ℕ) → 4 ≤ p → p ≤ length m → two ≡ put 0 (le_bytes 4 size) lent → three ≡ put 4 (take (p - 4) (drop 4 m)) two
    → Puts p (reslices T m p (1 + length (string_bytes (name_of T t))) (chain T t) (rows_from list 0 n)) three last r
    → length (resliced T m t p size (rows_from list 0 n)) ≤ length lent → last ≡ put 0 (resliced T m t p size (rows_from list 0 n)) lent
unfolding resliced
record_put T m list n t p size lent two three last r a l e f q =
    let k : length (take (p - 4) (drop 4 m)) ≡ p - 4 = omega (arith, length-take (p - 4) (drop 4 m), length-drop 4 m) in
    let A : Puts 0 (le_bytes 4 size) lent two 4 = puts_number 4 size 0 lent two e in
    let B : Puts 4 (take (p - 4) (drop 4 m)) two three p = puts_one 4 _ two three p f (omega arith) in
    let W = puts_then 0 _ lent three p (puts_then 0 _ lent two 4 A _ three p B) _ last r q in
    λ h. W.lays (omega arith)
