-- What the quick readers take is what the value takes: a string is read by its shape, and bytes of a width are a value. Assumes nothing.
--
--   text_fits, pair_there             a string with a size of one byte, then bytes of any content
--   pairs_begin, _fits, _next, _done  the loop over such pairs
--   dict_there                        a size and such pairs
--   row_there, row_inside             a row that is there
--   wide_seq, dict_wide               a sequence and a dictionary by their row
--   quick_took                        what a quick reader took
--   text_taken, bool_taken, enum_taken   a member that is read without a call of the cycle
use mathlib.Core.Path.{◌≡◌, refl, sym, ap, ◌∙◌}
use mathlib.Core.Bool.{Bool, true, false, not}
use mathlib.Core.List.{List}
use Prim.Native.Nat.{ℕ, zero, suc, ◌+◌, ◌-◌, ◌*◌, ◌^◌, ◌≤◌, ◌<◌}
use native.Mathlib.Omega.{arith}
use lib.ListN.{length, take, drop}
use mir.Syntax.{w64}
use mir.Val.{Fits}
use lib.Dec.{leb}
use borrow.Author.Tests.{leb-true, not-false}
use Rattle.encoding.specs.Result.{ok, Parser, skip, times}
use Rattle.encoding.proofs.ResultLaws.{bind_ok, bind_step, chunk_ok, Held, held_bind, held_skip}
use Rattle.encoding.specs.Number.{size, bool}
use Rattle.encoding.specs.Proxy.{text}
use Rattle.encoding.specs.Types.{dict, enum, upto}
use Rattle.encoding.specs.Table.{at, row_at, part_ty, type_rows, ty_of, with_lists}
use Rattle.encoding.specs.Value.{value}
use Rattle.encoding.proofs.ValueLaws.{held_text}
use Rattle.encoding.specs.Old.{type_as}
use Rattle.std.specs.Prelude.{Result, Ok, Err}
use Rattle.std.specs.Result.{result_unwrap_or}
use Rattle.wire.specs.declared.Counted.{Counted}
use Rattle.wire.specs.declared.Refusal.{Refusal}
use Rattle.wire.specs.Steps.{step_of, sized_of, counted}
use Rattle.wire.specs.StepLaws.{step_took, took_held, then_took, with_took, Left, each_begin, each_next, each_done}
use Rattle.wire.proofs.Laws.{size_short}
use Rattle.wire.proofs.Sums.{took_fits}
use Rattle.table.specs.Rows.{IsTypeRow, greatest_of}
use Rattle.table.specs.declared.TypeRow.{TypeRow}
use Rattle.shapes.specs.Shapes.{shapes_of, width_below, is_text_in, is_bool_in, is_enum_in}
use Rattle.value.specs.Parts.{is_text_below, entry, text_entry, text_dict}
use Rattle.value.proofs.PlainLaws.{skip_whole}
use Rattle.value.proofs.CycleLaws.{as_seq, as_dict, below_takes, text_value, after_those, dict_as, seq_wide, value_row, row_text, row_bool, row_enum}

-- ---- pairs

held_pair : (w : ℕ) → Held (text_entry w)
unfolding text_entry
held_pair w = held_bind text (λ _. skip w) held_text (λ _. held_skip w)

pub pairs_begin : (w : ℕ) (s : List ℕ) (n : ℕ) → Left s (step_of (times n (text_entry w) s)) (times (n - 0) (text_entry w)) 0
pairs_begin w = each_begin (text_entry w) (held_pair w)

-- a string by its number of bytes, then w bytes
module _ (s : List ℕ) (k : ℕ) (p : 0 < k → Ok k ≡ step_of (text s)) (h : k ≡ 0 → ⊥) where
  there : Ok k ≡ step_of (text s)
  there = p (omega (arith, h))

  pub text_fits : k ≤ length s
  text_fits = took_held text held_text s (Ok k) there k refl

  pub pair_there : (w : ℕ) → w ≤ length s - k → Ok (k + w) ≡ step_of (text_entry w s)
  unfolding text_entry
  pair_there w l = then_took text (skip w) s (Ok k) there k refl (Ok w) (skip_whole (take (length s - k) (drop k s)) w (after_those s k w l)) w refl

-- the loop over pairs
module _ (w : ℕ) (s : List ℕ) (whole : Result ℕ Refusal) (n i pos : ℕ) (inv : Left s whole (times (n - i) (text_entry w)) pos) where
  pub pairs_done : n ≤ i → Ok (1 + pos - 1) ≡ whole
  pairs_done h =
      let z : 1 + pos - 1 ≡ pos = omega arith in
      rw z (each_done (text_entry w) (held_pair w) s whole n i pos inv h)

  module _ (k : ℕ) (p : 0 < k → Ok k ≡ step_of (text_entry w (take (length s - pos) (drop pos s)))) (h : k ≡ 0 → ⊥) where
    pair : Ok k ≡ step_of (text_entry w (take (length s - pos) (drop pos s)))
    pair = p (omega (arith, h))

    pub pairs_fits : length s < 2 ^ 64 → Fits w64 (pos + k)
    pairs_fits b = took_fits (text_entry w) (held_pair w) s pos (Ok k) pair k refl inv.inside b

    pub pairs_next : i < n → Left s whole (times (n - (i + 1)) (text_entry w)) (pos + k)
    pairs_next l = each_next (text_entry w) (held_pair w) s whole n i pos inv l (Ok k) pair k refl

-- a size of one byte, then so many pairs
pub dict_there : (w : ℕ) (s : List ℕ) (n : ℕ) → n ≡ at s 1 0 → n < 256 → (n ≡ 255 → ⊥) → 1 ≤ length s
    → (r : ℕ) → (0 < r → Ok (r - 1) ≡ step_of (times n (text_entry w) (take (length s - 1) (drop 1 s)))) → 0 < r → Ok r ≡ step_of (text_dict w s)
unfolding text_dict
dict_there w s n e small more some r p h =
    let z : r ≡ 1 + (r - 1) = omega arith in
    rw z (with_took size (λ n. times n (text_entry w)) s (counted n 1) (size_short s n e some (omega (arith, more))) _ refl (Ok (r - 1)) (p h) (r - 1) refl)

-- ---- what one reader takes, another takes

times_follow : (p q : Parser (Unit {0})) → ((xs : List ℕ) (m : ℕ) → p xs ≡ ok tt m → q xs ≡ ok tt m)
    → (n : ℕ) (xs : List ℕ) (m : ℕ) → times n p xs ≡ ok tt m → times n q xs ≡ ok tt m
unfolding times
times_follow p q sim zero xs m h = h
times_follow p q sim (suc n) xs m h =
    let B = bind_ok p (λ _. times n p) xs h in
    bind_step q (λ _. times n q) xs (sim xs B.n B.first) (times_follow p q sim n (drop B.n xs) B.m B.next) ∙ ap (ok tt) (sym B.sum)

-- pairs of a string and of bytes of a width are pairs of parts of row t, in either encoding
module _ (old : Bool) (T shapes : List ℕ) (f : shapes ≡ shapes_of T) (t k v : ℕ) (x : is_text_below shapes t k ≡ true) (w : ℕ) (ew : w ≡ width_below shapes t v) (h : 0 < w) where
  pair_follows : (xs : List ℕ) (m : ℕ) → text_entry w xs ≡ ok tt m → entry (type_as old (part_ty T t k)) (type_as old (part_ty T t v)) xs ≡ ok tt m
  unfolding text_entry entry skip step_of
  pair_follows xs m e =
      let B = bind_ok text (λ _. skip w) xs e in
      let C = chunk_ok w (λ _. tt) (drop B.n xs) B.next in
      let first : Ok B.n ≡ step_of (text xs) = rw B.first in
      bind_step (value (type_as old (part_ty T t k))) (λ _. value (type_as old (part_ty T t v))) xs
      (step_took _ B.n (text_value old T shapes f t k true (sym x) refl xs (Ok B.n) first)).1
      (below_takes old T shapes f t v w ew h (drop B.n xs) C.0)
      ∙ ap (ok tt) (omega (arith, B.sum, C.2))

  dict_follows : (s : List ℕ) (m : ℕ) → Ok m ≡ step_of (text_dict w s) → Ok m ≡ step_of (value (type_as old (dict (part_ty T t k) (part_ty T t v))) s)
  unfolding step_of text_dict
  dict_follows s m e =
      let B = bind_ok size (λ n. times n (text_entry w)) s (step_took (text_dict w s) m e).1 in
      let taken = bind_step size (λ n. times n (entry (type_as old (part_ty T t k)) (type_as old (part_ty T t v)))) s B.first (times_follow (text_entry w) _ pair_follows B.fst (drop B.n s) B.m B.next) in
      rw (dict_as old (part_ty T t k) (part_ty T t v), taken, ← B.sum)

-- ---- a value by its row

-- row t is there
abbrev pub There : List ℕ → ℕ → ℕ → Type 0
There T rows t = (t < rows) × (row_at T (t + 1) ≤ length T)

pub row_there : (T : List ℕ) (rows t p : ℕ) → t < rows → p ≡ row_at T (t + 1) → leb p (length T) ≡ true → There T rows t
row_there T rows t p l e h = (l, rw e at (leb-true p (length T) h))

module _ (T shapes : List ℕ) (f : shapes ≡ shapes_of T) (rows t : ℕ) (er : rows ≡ type_rows T) (b : Bool) (eb : b ≡ true → There T rows t) (hb : not b ≡ false) where
  inside_table : There T rows t
  inside_table = eb (not-false b hb)

  pub row_inside : row_at T (t + 1) ≤ length T
  row_inside = inside_table.1

  pub wide_seq : (row : TypeRow) → IsTypeRow T t row → row.kind ≡ 10 → (w : ℕ) → w ≡ width_below shapes t row.a → (w ≡ 0 → ⊥)
      → (s : List ℕ) (z : Result Counted Refusal) → z ≡ sized_of (size s) → (x : Counted) → z ≡ Ok x → x.number * w ≤ length s - x.bytes → (old : Bool) → Ok (x.bytes + x.number * w) ≡ step_of (value (type_as old (ty_of T t)) s)
  wide_seq row i e w ew h s z ez x q l old =
      value_row old T rows t s (Ok (x.bytes + x.number * w)) er
      (as_seq old T rows t s inside_table.0 row.kind i.kind_is (Ok (x.bytes + x.number * w)) e (seq_wide old s z ez x q T shapes f t row.a i.a_is w ew (omega (arith, h)) l))

  pub dict_wide : (row : TypeRow) → IsTypeRow T t row → row.kind ≡ 11 → (x : Bool) → x ≡ is_text_below shapes t row.a → not x ≡ false
      → (w : ℕ) → w ≡ width_below shapes t row.b → (w ≡ 0 → ⊥) → (s : List ℕ) (r : ℕ) → (0 < r → Ok r ≡ step_of (text_dict w s)) → 0 < r
      → (old : Bool) → Ok r ≡ step_of (value (type_as old (ty_of T t)) s)
  dict_wide row i k x ex hx w ew h s r p g old =
      value_row old T rows t s (Ok r) er
      (as_dict old T rows t s inside_table.0 row.kind i.kind_is (Ok r) k
      (rw (← i.a_is, ← i.b_is) (dict_follows old T shapes f t row.a row.b (sym ex ∙ not-false x hx) w ew (omega (arith, h)) s r (p g))))

-- what a quick reader took, of any encoding
pub quick_took : (old : Bool) (T : List ℕ) (t : ℕ) (s : List ℕ) (r : ℕ) → (0 < r → (old : Bool) → Ok r ≡ step_of (value (type_as old (ty_of T t)) s)) → 0 < r
    → Ok r ≡ step_of (value (type_as old (ty_of T t)) s)
quick_took old T t s r p h = p h old

-- the bytes that a reader took, 0 where it refused
given : (x : Result ℕ Refusal) → 0 < result_unwrap_or x 0 → Ok (result_unwrap_or x 0) ≡ x
given (Ok n) h = refl
given (Err y) h = absurd (omega arith)

module _ (old : Bool) (T shapes : List ℕ) (f : shapes ≡ shapes_of T) (t : ℕ) (s : List ℕ) (r : ℕ) (b : Bool) where
  pub text_taken : b ≡ is_text_in shapes t → b ≡ true → (0 < r → Ok r ≡ step_of (text s)) → 0 < r → Ok r ≡ step_of (value (type_as old (ty_of T t)) s)
  text_taken g q p h = row_text old T shapes f t s (Ok r) b g q (p h)

  module _ (x : Result ℕ Refusal) (p : r ≡ result_unwrap_or x 0) where
    given_is : 0 < r → Ok r ≡ x
    given_is h = ap Ok p ∙ given x (rw p at h)

    pub bool_taken : b ≡ is_bool_in shapes t → b ≡ true → x ≡ step_of (bool s) → 0 < r → Ok r ≡ step_of (value (type_as old (ty_of T t)) s)
    bool_taken g q e h = row_bool old T shapes f t s (Ok r) b g q (given_is h ∙ e)

    pub enum_taken : b ≡ is_enum_in shapes t → b ≡ true → (w : Bool) → w ≡ with_lists T → not w ≡ true → (row : TypeRow) → IsTypeRow T t row
        → (n : ℕ) → n ≡ greatest_of row → x ≡ step_of (value (type_as old (enum (upto n))) s) → 0 < r → Ok r ≡ step_of (value (type_as old (ty_of T t)) s)
    enum_taken g q w ew none row i n en e h = row_enum old T shapes f t s (Ok r) b g q w ew none row i n en (given_is h ∙ e)
