-- A slice: its data, and what comes before them. Assumes nothing.
--
--   still_wrong                  rows that are refused stay refused
--   data_ended                   the rows of an owner, and the end marker after optionals
--   end_..                       the end marker: its length, and what is put of it
--   flags_over, flags_put        the flags, by the encoding
--   front_put, front_new         flags, type ID and size, one after another; in 1.1
--   bare_old, bare_new           how many bytes of it are not the type ID's
--   front_list, front_slice      how many bytes come before the data
--   part_refused, part_list, part_slice   rows that are refused; those of a parameter list; a slice, the front put before the data
--   part_measured                a slice where nothing is put
use mathlib.Core.Path.{◌≡◌, refl, sym, ap, subst, ◌∙◌}
use mathlib.Core.Bool.{Bool, true, false}
use mathlib.Core.List.{List, [], ◌++◌}
use Prim.Native.Nat.{ℕ, ◌+◌, ◌-◌, ◌≤◌, ◌<◌}
use native.Mathlib.Omega.{arith}
use native.Mathlib.Nat.{add-zero}
use lib.ListN.{length, length-append}
use Rattle.encoding.specs.Result.{pick}
use Rattle.encoding.specs.Number.{le_bytes, string_bytes}
use Rattle.encoding.proofs.NumberLaws.{length_le_bytes}
use Rattle.encoding.specs.Slice.{sliced, worth, flag_bits, any_optional, data_bytes}
use Rattle.encoding.specs.Table.{name_of}
use Rattle.wire.specs.Put.{put}
use Rattle.writer.specs.declared.Laid.{Laid}
use Rattle.pieces.specs.Cursors.{Cursor, due_at}
use Rattle.pieces.specs.Puts.{Puts}
use Rattle.pieces.specs.PutsLaws.{puts_none, puts_is, puts_measured, puts_number, puts_byte, puts_then, puts_under}
use Rattle.writer.specs.Slices.{group_of, slice_of, front_field, pair_field, flags_of, front_of, slice_field, end_mark, Judges, RowsPut, DataPut, SlicePut, PartPut}

-- ---- the data

pub still_wrong : (T : List ℕ) (old : Bool) (rows buffer : List ℕ) (judged : Bool) (count : ℕ) (c : Cursor) (i : ℕ) (r : Laid) (A B : Type 0) → Judges T old rows buffer judged count c i r A → (r.fault ≡ 0 → ⊥) → Judges T old rows buffer judged count c i r B
still_wrong T old rows buffer judged count c i r A B j n = record { right = λ e. absurd (n e); wrong = j.wrong }

pub data_ended : (T : List ℕ) (old : Bool) (rows buffer : List ℕ) (judged : Bool) (count o i at : ℕ) (out mid : List ℕ) (d : Laid) → RowsPut T old rows buffer judged count (due_at o 0) i at out mid d → d.fault ≡ 0
    → (last : List ℕ) (e : ℕ) → Puts d.end (end_mark d.optionals) mid last e → e ≤ d.end + 1
    → DataPut T old rows buffer judged count o i at out last (record { end = e; row = d.row; optionals = d.optionals; fault = 0 })
unfolding data_bytes slice_of
data_ended T old rows buffer judged count o i at out mid d j z last e p h =
    let l = j.right z in
    record {
      right = λ _. record {
        puts = rw (← l.flag) (puts_then at _ out mid d.end l.puts (end_mark d.optionals) last e p);
        next = l.next;
        flag = l.flag;
        within = l.within;
        rest = l.rest;
        few = omega (arith, l.few);
      };
      wrong = λ n. absurd (n refl);
    }

pub end_some : (b : Bool) → b ≡ true → 1 ≡ length (end_mark b)
end_some b q = rw q

pub end_none : (b : Bool) → b ≡ false → 0 ≡ length (end_mark b)
end_none b q = rw q

module _ (b : Bool) (at : ℕ) (out : List ℕ) where
  pub end_put : b ≡ true → (last : List ℕ) → last ≡ put at (le_bytes 1 255) out → Puts at (end_mark b) out last (at + 1)
  end_put q last e = rw q (puts_byte 255 at out last (omega arith) e)

  pub end_over : b ≡ false → Puts at (end_mark b) out out at
  end_over q = rw q (puts_none at out)

-- ---- the front

flags_small : (opt last : Bool) → flag_bits sliced true opt last < 256
unfolding flag_bits
flags_small opt last = omega (arith, small opt 4 (omega arith), small last 32 (omega arith))
  where
    small : (b : Bool) (w : ℕ) → w ≤ 32 → worth b w ≤ 32
    small true w h = h
    small false w h = omega arith

module _ (old opt last : Bool) (at : ℕ) (out : List ℕ) where
  pub flags_over : old ≡ true → Puts at (flags_of old opt last) out out at
  flags_over q = rw q (puts_none at out)

  pub flags_put : old ≡ false → (f : ℕ) (end : List ℕ) → f ≡ flag_bits sliced true opt last → end ≡ put at (le_bytes 1 f) out → Puts at (flags_of old opt last) out end (at + 1)
  flags_put q f end ef e = rw q (puts_byte (flag_bits sliced true opt last) at out end (flags_small opt last) (rw (← ef) e))

module _ (T : List ℕ) (o n : ℕ) where
  -- the type ID
  abbrev id : List ℕ
  id = string_bytes (name_of T o)

  pair_length : length (pair_field T o n) ≡ 4 + length id
  unfolding pair_field
  pair_length = omega (arith, length-append id (le_bytes 4 (4 + n)), length_le_bytes 4 (4 + n))

  module _ (opt last : Bool) where
    front_length : length (front_field T o opt last n) ≡ 5 + length id
    unfolding front_field pair_field
    front_length = omega (arith, pair_length)

    front_is : (old : Bool) → flags_of old opt last ++ (id ++ le_bytes 4 (4 + n)) ≡ front_of T o old opt last n
    unfolding front_of front_field pair_field
    front_is true = refl
    front_is false = refl

    pub front_put : (old : Bool) (at a b : ℕ) (out one two end : List ℕ) → Puts at (flags_of old opt last) out one a → Puts a id one two b → end ≡ put b (le_bytes 4 (4 + n)) two
        → Puts at (front_of T o old opt last n) out end (b + 4)
    front_put old at a b out one two end p q e =
        puts_is at _ _ out end (b + 4) (front_is old)
        (puts_then at (flags_of old opt last) out one a p (id ++ le_bytes 4 (4 + n)) end (b + 4)
        (puts_then a id one two b q (le_bytes 4 (4 + n)) end (b + 4) (puts_number 4 (4 + n) b two end e)))

    pub front_new : (at a : ℕ) (out end : List ℕ) → Puts at (front_of T o false opt last n) out end a → Puts at (front_field T o opt last n) out end a
    unfolding front_of
    front_new at a out end p = p

    of_length : (old : Bool) → length (front_of T o old opt last n) ≡ pick old 4 5 + length id
    unfolding front_of
    of_length true = pair_length
    of_length false = front_length

-- so many bytes beside the type ID
pub bare_old : (old : Bool) → old ≡ true → ◌≡◌ {A = ℕ} 4 (pick old 4 5)
bare_old old q = rw q

pub bare_new : (old : Bool) → old ≡ false → ◌≡◌ {A = ℕ} 5 (pick old 4 5)
bare_new old q = rw q

-- how many bytes come before the data; a parameter list has none
pub front_list : (list : Bool) (n : ℕ) → list ≡ true → 0 ≡ pick list 0 n
front_list list n q = rw q

pub front_slice : (list : Bool) (b k n m : ℕ) → list ≡ false → b ≡ m → k ≡ n → b + k ≡ pick list 0 (m + n)
front_slice list b k n m q e f = rw q (omega arith)

-- ---- the slice

slice_laid : (T : List ℕ) (old : Bool) (rows buffer : List ℕ) (judged : Bool) (count o i at : ℕ) (end : Bool) (f n e : ℕ) (out mid last : List ℕ) (d : Laid)
    → f ≡ pick old 4 5 + length (string_bytes (name_of T o)) → f ≤ 65545 → DataPut T old rows buffer judged count o i (at + f) out mid d → d.fault ≡ 0
    → n ≡ d.end - (at + f) → Puts at (front_of T o old d.optionals end n) mid last e
    → SlicePut T old rows buffer judged count end o i at out last d
unfolding slice_field
slice_laid T old rows buffer judged count o i at end f n e out mid last d ef hf j z en p =
    let l = j.right z in
    let w = data_bytes (slice_of T rows buffer count o i) in
    let y : n ≡ length w = omega (arith, l.puts.ends) in
    let q : front_of T o old d.optionals end n ≡ front_of T o old (any_optional (group_of T rows buffer count o i)) end (length w) = rw (l.flag, y) in
    let v : length (front_of T o old (any_optional (group_of T rows buffer count o i)) end (length w)) ≡ f = of_length T o (length w) (any_optional (group_of T rows buffer count o i)) end old ∙ sym ef in
    record {
      right = λ _. record {
        puts = puts_under at (at + f) _ w out mid last e d.end (omega (arith, v)) l.puts (puts_is at _ _ mid last e q p);
        next = l.next;
        within = l.within;
        rest = l.rest;
        few = omega (arith, l.few);
      };
      wrong = λ r. absurd (r z);
    }

-- ---- a parameter list or a slice

module _ (T : List ℕ) (old : Bool) (rows buffer : List ℕ) (judged : Bool) (count : ℕ) (list end : Bool) (o i at f : ℕ) (ef : f ≡ pick list 0 (pick old 4 5 + length (string_bytes (name_of T o)))) (hf : f ≤ 65545)
    (out mid : List ℕ) (d : Laid) (j : RowsPut T old rows buffer judged count (due_at o 0) i (at + f) out mid d) where
  pub part_refused : (d.fault ≡ 0 → ⊥) → PartPut T old rows buffer judged count list end o i at out mid d
  part_refused n = go list
    where
      go : (b : Bool) → PartPut T old rows buffer judged count b end o i at out mid d
      go true = still_wrong T old rows buffer judged count (due_at o 0) i d _ _ j n
      go false = still_wrong T old rows buffer judged count (due_at o 0) i d _ _ j n

  pub part_list : list ≡ true → PartPut T old rows buffer judged count list end o i at out mid d
  part_list q =
      let z : at + f ≡ at = ap (λ (x : ℕ). at + x) (ef ∙ ap (λ (b : Bool). pick b 0 (pick old 4 5 + length (string_bytes (name_of T o)))) q) ∙ add-zero at in
      subst (λ (b : Bool). PartPut T old rows buffer judged count b end o i at out mid d) (sym q) (subst (λ (x : ℕ). RowsPut T old rows buffer judged count (due_at o 0) i x out mid d) z j)

  pub part_slice : list ≡ false → d.fault ≡ 0 → (two last : List ℕ) (e n x : ℕ) → Puts d.end (end_mark d.optionals) mid two e → e ≤ d.end + 1
      → n ≡ e - (at + f) → Puts at (front_of T o old d.optionals end n) two last x
      → PartPut T old rows buffer judged count list end o i at out last (record { end = e; row = d.row; optionals = d.optionals; fault = 0 })
  part_slice q z two last e n x p h en r =
      subst (λ (b : Bool). PartPut T old rows buffer judged count b end o i at out last (record { end = e; row = d.row; optionals = d.optionals; fault = 0 })) (sym q)
      (slice_laid T old rows buffer judged count o i at end f n x out two last _ (ef ∙ ap (λ (b : Bool). pick b 0 (pick old 4 5 + length (string_bytes (name_of T o)))) q) hf
      (data_ended T old rows buffer judged count o i (at + f) out mid d j z two e p h) refl en r)

-- nothing is put
pub part_measured : (T : List ℕ) (old : Bool) (rows buffer : List ℕ) (judged : Bool) (count : ℕ) (list end : Bool) (o i at f : ℕ) → f ≡ pick list 0 (pick old 4 5 + length (string_bytes (name_of T o))) → f ≤ 65545
    → (d : Laid) → RowsPut T old rows buffer judged count (due_at o 0) i (at + f) [] [] d → list ≡ false → d.fault ≡ 0 → (k : ℕ) → k ≡ length (end_mark d.optionals) → k ≤ 1
    → PartPut T old rows buffer judged count list end o i at [] [] (record { end = d.end + k; row = d.row; optionals = d.optionals; fault = 0 })
part_measured T old rows buffer judged count list end o i at f ef hf d j q z k ek hk =
    part_slice T old rows buffer judged count list end o i at f ef hf [] [] d j q z [] [] (d.end + k) (d.end + k - (at + f)) _
    (puts_measured d.end (end_mark d.optionals) (d.end + k) (ap (λ (x : ℕ). d.end + x) ek)) (omega arith) refl
    (puts_measured at (front_of T o old d.optionals end (d.end + k - (at + f))) _ refl)
