-- What follows from the tests of the pass, row by row, and its loops. Each loop's invariant is that of the same loop in `rules` and in `shapes`. Assumes nothing.
--
--   part_there                       a part lies below its row
--   enum_passed, single_passed, other_passed, key_passed, value_passed, proxy_passed   a row that takes no member rows: it breaks no rule, and its shape
--   struct_passed                    a struct whose members passed
--   record_rules_lem, list_rules         the rules of the kinds 13 to 15
--   record_least, record_most        the kind of a record is 13 to 15
--   Usual, usual_..                  the loop over the member rows of these kinds; plain_.. those before the first optional one
--   owner_passed, alone_passed, unnamed_passed   a row of each sort
--   StructMembers, structs_..        the loop over the members of a struct, with their widths
--   width_.., shape_..               the width and the shape of a struct, by those of its members
--   Rows, rows_..                    the pass over the rows
--   no_lists, few_types, all_there, pass_fine   the pass after the header
use Prim.Native.Nat.{ℕ, zero, suc, ◌+◌, ◌-◌, ◌*◌, ◌/◌, ◌%◌, ◌≤◌, ◌<◌, min, max}
use mathlib.Core.Path.{◌≡◌, refl, sym, ap, ◌∙◌}
use mathlib.Core.Bool.{Bool, true, false, ◌&&◌, ◌||◌, not, false≢true}
use mathlib.Core.Logic.{⊎_elim}
use mathlib.Core.List.{List}
use native.Mathlib.Nat.{add-zero, eq-or-lt_of_le}
use native.Mathlib.Omega.{arith}
use lib.ListN.{length, get_or, set, replicate}
use lib.Dec.{eqb, leb, ltb}
use borrow.Author.Tests.{eqb-true, eqb-false, leb-false, ltb-false, not-true, not-false, le-leb, lt-leb, ne_eqb, eq-eqb}
use Rattle.encoding.specs.Result.{pick}
use Rattle.encoding.proofs.ResultLaws.{either_false}
use Rattle.encoding.specs.Types.{seq, dict, fixed, fixeds}
use Rattle.encoding.specs.Table.{at, row_at, with_lists, types, members, member_at, kind, field, is_record, owns, range, member_type, member_tys, own_rows, tys, part_ty, type_rows, used, no_part, header_tests, header_rules, fine, faults}
use Rattle.encoding.proofs.TableLaws.{rows_below, member_in, members_more, members_none}
use Rattle.encoding.proofs.RuleLaws.{header_test}
use Rattle.table.specs.Rows.{IsTypeRow, greatest_of}
use Rattle.table.specs.declared.TypeRow.{TypeRow}
use Rattle.rules.specs.Checks.{finding_of, broken_of, placed, is_set_from, alike_from, record_rules, row_rules, share, is_basic, past, rows_pass, is_usual, owner_pass, owners_pass, OwnersThere}
use Rattle.std.specs.Prelude.{Result, Ok, Err, Option, Some, None, IfSome, is_ok, is_err}
use Rattle.rules.proofs.Judging.{unused_enum, enum_plain, unused_seq, unused_two, unused_proxy, unused_exception, unused_class, enum_fine, struct_fine, list_fine, seq_fine, dict_fine, kind_enum, kind_struct, kind_seq, kind_dict, kind_list, kind_record, kind_plain, row_known, share_own, share_none, basic_kind, is_fine, Types, types_begin, types_basic, types_next, types_end, lists_without, Owner, owner_none, owner_begin, owner_end, usual_small, usual_next, type_of, Owners, owners_begin, owners_end, owners_next, owners_low, all_rows_there, members_judged, header_judged}
use Rattle.shapes.specs.Shapes.{narrow, width_of, widths_from, struct_shape, shape_of, plain_shape, shape_at, shapes_of, Shaped, width_in}
use Rattle.shapes.proofs.Filling.{seq_single, seq_other, dict_other, dict_not, row_of_struct, row_of_seq, row_of_dict, row_of_none, plain_none, width_part, Filling, filling_begin, filling_next, filling_end}
use Rattle.onepass.specs.Passing.{RowPassed, UnnamedPassed, AlonePassed, StructPassed, PlainRows}

-- ---- rows that take no member rows

pub part_there : (T : List ℕ) (t i : ℕ) (b : Bool) → b ≡ no_part T t i → b ≡ false → i < t
unfolding no_part
part_there T t i b e q = leb-false _ _ (either_false (leb t i) _ (sym e ∙ q)).0

module _ (T : List ℕ) (t : ℕ) (r : TypeRow) (h : t < type_rows T) (er : IsTypeRow T t r) (spare : r.spare ≡ 0) where
  none_owned : owns r.kind ≡ false → Ok tt ≡ finding_of (owner_pass T t)
  none_owned e = owner_none T t 0 r er (share_none r (owns r.kind) refl e) refl

  pub enum_passed : with_lists T ≡ false → r.kind ≡ 8 → (s : Bool) → s ≡ is_set_from r 2 → s ≡ false → (g : ℕ) → g ≡ greatest_of r → g < 2147483648 → AlonePassed T t r 4
  unfolding plain_shape
  enum_passed lists e s es q g eg l = record {
    passed = λ n. record {
      passed = λ b. record {
        rules = row_known T t r n b spare s (unused_enum T r r.kind s e (enum_plain T r false (sym lists) refl s es)) q (omega arith) (Ok tt) (kind_enum T t r n (Ok tt) b e (enum_fine r g eg l));
        members = none_owned (rw e);
        shape = row_of_none T t h r.kind er.kind_is (λ z. omega arith) (λ z. omega arith) (λ z. omega arith) 4 (ap plain_shape (sym e));
      };
    };
  }

  module _ (e : r.kind ≡ 10) (s : Bool) (es : s ≡ is_set_from r 1) (q : s ≡ false) (p : Bool) (ep : p ≡ no_part T t r.a) (fp : p ≡ false) where
    seq_passed : (x : ℕ) → x ≡ shape_of (seq (part_ty T t (field T t 0))) → AlonePassed T t r x
    seq_passed x ex = record {
      passed = λ n. record {
        passed = λ b. record {
          rules = row_known T t r n b spare s (unused_seq T r r.kind s e es) q (omega arith) (Ok tt) (kind_seq T t r n (Ok tt) b e (seq_fine T t r p ep fp));
          members = none_owned (rw e);
          shape = row_of_seq T t h r.kind er.kind_is e x ex;
        };
      };
    }

    module _ (k : ℕ) (ek : k ≡ kind T r.a) where
      pub single_passed : k ≤ 1 → AlonePassed T t r 7
      single_passed l = seq_passed 7 (seq_single T t r.a (omega arith) er.a_is (part_there T t r.a p ep fp) k ek l)

      pub other_passed : 1 < k → (b : Bool) → b ≡ fixed (part_ty T t r.a) → (x : ℕ) → x ≡ pick b 9 10 → AlonePassed T t r x
      other_passed l b eb x ex = seq_passed x (seq_other T t r.a (omega arith) er.a_is (part_there T t r.a p ep fp) k ek l b eb x ex)

  module _ (e : r.kind ≡ 11) (s : Bool) (es : s ≡ is_set_from r 2) (q : s ≡ false) (p : Bool) (ep : p ≡ no_part T t r.a) (fp : p ≡ false) (v : Bool) (ev : v ≡ no_part T t r.b) (fv : v ≡ false) (a : Bool) (ea : a ≡ fixed (part_ty T t r.a)) where
    dict_passed : (x : ℕ) → x ≡ shape_of (dict (part_ty T t (field T t 0)) (part_ty T t (field T t 1))) → AlonePassed T t r x
    dict_passed x ex = record {
      passed = λ n. record {
        passed = λ b. record {
          rules =
              row_known T t r n b spare s
              (unused_two T r r.kind s (omega arith) (λ z. omega arith) (λ z. omega arith) (λ z. omega arith) (λ z. omega arith) (λ z. omega arith) (omega arith) es) q (omega arith) (Ok tt)
              (kind_dict T t r n (Ok tt) b e (dict_fine T t r p ep fp v ev fv));
          members = none_owned (rw e);
          shape = row_of_dict T t h r.kind er.kind_is e x ex;
        };
      };
    }

    pub key_passed : not a ≡ true → AlonePassed T t r 10
    key_passed z = dict_passed 10 (dict_not T t r.a a er.a_is ea (not-true a z))

    pub value_passed : not a ≡ false → (b : Bool) → b ≡ fixed (part_ty T t r.b) → (x : ℕ) → x ≡ pick b 9 10 → AlonePassed T t r x
    value_passed z b eb x ex = dict_passed x (dict_other T t r.a r.b er.a_is er.b_is a ea (not-false a z) b eb x ex)

  pub proxy_passed : r.kind ≡ 12 → (s : Bool) → s ≡ is_set_from r 0 → s ≡ false → AlonePassed T t r 10
  unfolding plain_shape
  proxy_passed e s es q = record {
    passed = λ n. record {
      passed = λ b. record {
        rules =
            row_known T t r n b spare s (unused_proxy T r r.kind s e es) q (omega arith) (Ok tt)
            (kind_plain T t r n b (λ z. omega arith) (λ z. omega arith) (λ z. omega arith) (λ z. omega arith) (is_record r.kind) refl (rw e) (λ z. omega arith));
        members = none_owned (rw e);
        shape = row_of_none T t h r.kind er.kind_is (λ z. omega arith) (λ z. omega arith) (λ z. omega arith) 10 (ap plain_shape (sym e));
      };
    };
  }

  -- ---- a struct

  pub struct_passed : r.kind ≡ 9 → (s : Bool) → s ≡ is_set_from r 2 → s ≡ false → (n : ℕ) → r.a ≡ n → (r.b ≡ 0 → ⊥)
      → (o : Option ℕ) → IfSome o (StructPassed T t) → IfSome o (UnnamedPassed T t r n)
  struct_passed e s es q n ea nb None p = tt
  struct_passed e s es q n ea nb (Some x) p = record {
    passed = λ b. record {
      rules =
          row_known T t r n b spare s
          (unused_two T r r.kind s (omega arith) (λ z. omega arith) (λ z. omega arith) (λ z. omega arith) (λ z. omega arith) (λ z. omega arith) (omega arith) es) q (omega arith) (Ok tt)
          (kind_struct T t r n (Ok tt) b e (struct_fine r n ea nb));
      members = p.members;
      shape = p.shape;
    };
  }

-- ---- the kinds 13 to 15

module _ (T : List ℕ) (t : ℕ) (r : TypeRow) (spare : r.spare ≡ 0) where
  pub record_rules_lem : (b : Bool) → b ≡ is_record r.kind → b ≡ true → (n : ℕ) (s : Bool) (v : Result Unit ℕ) → v ≡ broken_of (record_rules T t r n s) → (o : Bool) → o ≡ is_ok v → o ≡ true → Ok tt ≡ broken_of (row_rules T t r n s)
  record_rules_lem b eb q n s (Err c) ev o eo h = absurd (false≢true (sym eo ∙ h))
  record_rules_lem b eb q n s (Ok u) f o eo h = go (eqb r.kind 13) refl (eqb r.kind 14) refl (sym eb ∙ q)
    where
      known : (k : ℕ) → r.kind ≡ k → 12 < k → k < 15 → false ≡ is_set_from r (used T r.kind) → Ok tt ≡ broken_of (row_rules T t r n s)
      known k e low high u =
          row_known T t r n s spare false u refl (omega arith) (Ok tt)
          (kind_record T t r n (Ok tt) s (λ z. omega arith) (λ z. omega arith) (λ z. omega arith) (λ z. omega arith) b eb q f)

      go : (x : Bool) → eqb r.kind 13 ≡ x → (y : Bool) → eqb r.kind 14 ≡ y → x || y ≡ true → Ok tt ≡ broken_of (row_rules T t r n s)
      go true ex y ey z = let e = eqb-true _ _ ex in known 13 e (omega arith) (omega arith) (unused_exception T r r.kind e)
      go false ex true ey z = let e = eqb-true _ _ ey in known 14 e (omega arith) (omega arith) (unused_class T r r.kind e)
      go false ex false ey z = absurd (false≢true z)

  pub list_rules : r.kind ≡ 15 → (s : Bool) → s ≡ is_set_from r 2 → s ≡ false → (n : ℕ) → (b : Bool) → eqb r.a n ≡ true → Ok tt ≡ broken_of (row_rules T t r n b)
  list_rules e s es q n b ea =
      row_known T t r n b spare s
      (unused_two T r r.kind s (omega arith) (λ z. omega arith) (λ z. omega arith) (λ z. omega arith) (λ z. omega arith) (λ z. omega arith) (omega arith) es) q (omega arith) (Ok tt)
      (kind_list T t r n (Ok tt) b e (list_fine r n (eqb-true _ _ ea)))

record_within : (k : ℕ) → is_record k ≡ true → (13 ≤ k) × (k ≤ 15)
record_within k q = go (eqb k 13) refl (eqb k 14) refl q
  where
    go : (x : Bool) → eqb k 13 ≡ x → (y : Bool) → eqb k 14 ≡ y → x || y ≡ true → (13 ≤ k) × (k ≤ 15)
    go true ex y ey z = let e : k ≡ 13 = eqb-true k 13 ex in (omega arith, omega arith)
    go false ex true ey z = let e : k ≡ 14 = eqb-true k 14 ey in (omega arith, omega arith)
    go false ex false ey z = absurd (false≢true z)

pub record_least : (k : ℕ) (b : Bool) → b ≡ is_record k → b ≡ true → 13 ≤ k
record_least k b eb q = (record_within k (sym eb ∙ q)).0

pub record_most : (k : ℕ) (b : Bool) → b ≡ is_record k → b ≡ true → k ≤ 15
record_most k b eb q = (record_within k (sym eb ∙ q)).1

-- the loop over the member rows of row o, of one of these kinds, up to row `end`: the tags before row m are below `above`
pub record Usual (T : List ℕ) (o end m above : ℕ) : Type 0 where
  pub own : TypeRow
  pub no_struct : 13 ≤ own.kind
  pub rows_left : Owner T o own end m above

module _ (own : TypeRow) (least : 13 ≤ own.kind) (most : own.kind ≤ 15) where
  owned : owns own.kind ≡ true
  owned = go (eqb own.kind 13) refl (eqb own.kind 14) refl
    where
      go : (x : Bool) → eqb own.kind 13 ≡ x → (y : Bool) → eqb own.kind 14 ≡ y → owns own.kind ≡ true
      go true ex y ey = let e : own.kind ≡ 13 = eqb-true own.kind 13 ex in rw e
      go false ex true ey = let e : own.kind ≡ 14 = eqb-true own.kind 14 ey in rw e
      go false ex false ey = let e : own.kind ≡ 15 = omega (arith, eqb-false own.kind 13 ex, eqb-false own.kind 14 ey) in rw e

  pub usual_begin : (T : List ℕ) (o : ℕ) → ((i : ℕ) → get_or T i 0 < 256) → IsTypeRow T o own → Usual T o (own.a + own.b) own.a 0
  usual_begin T o small eo = record { own = own; no_struct = least; rows_left = owner_begin T o own.b own eo (share_own own (owns own.kind) refl owned) small }

pub owner_passed : (T : List ℕ) (o : ℕ) (own : TypeRow) (n : ℕ) (s : Bool) → o < type_rows T → IsTypeRow T o own
    → (b : Bool) → (b ≡ true → Ok tt ≡ broken_of (row_rules T o own n s)) → (b ≡ true → (13 ≤ own.kind) × (own.kind ≤ 15)) → b ≡ true
    → (m : Bool) → (m ≡ true → Ok tt ≡ finding_of (owner_pass T o)) → m ≡ true → RowPassed T o own n s 10
owner_passed T o own n s h eo b fb kb qb m fm qm =
    let K = kb qb in
    record {
      rules = fb qb;
      members = fm qm;
      shape = row_of_none T o h own.kind eo.kind_is (λ z. omega (arith, K)) (λ z. omega (arith, K)) (λ z. omega (arith, K)) 10 (ten own.kind K.0);
    }
  where
    ten : (k : ℕ) → 13 ≤ k → 10 ≡ plain_shape k
    ten k l = plain_none k (λ z. omega arith) (λ z. omega arith) (λ z. omega arith) (λ z. omega arith) (λ z. omega arith) (λ z. omega arith) (λ z. omega arith) (λ z. omega arith) (λ z. omega arith)

module _ (T : List ℕ) (o end m above : ℕ) (inv : Usual T o end m above) where
  pub usual_step : m < end → (p x : ℕ) → p ≡ member_at T m → x ≡ at T 8 p → (u : Bool) → u ≡ is_usual x true above → not u ≡ false
      → (b : Bool) → b ≡ no_part T o (x % 65536) → b ≡ false → (a : ℕ) → a ≡ max above (x / 4294967296 + 1) → Usual T o end (m + 1) a
  usual_step h p x ep ex u eu q b eb fb a ea = record {
    own = inv.own;
    no_struct = inv.no_struct;
    rows_left = usual_next T o inv.own end m above inv.rows_left h p x ep ex u (eu ∙ ap (λ (z : Bool). is_usual x z above) (other inv.own.kind inv.no_struct)) q b eb fb a ea;
  }
    where
      other : (k : ℕ) → 13 ≤ k → true ≡ not (eqb k 9)
      other k l = rw (ne_eqb k 9 (λ z. omega arith))

  pub usual_end : end ≤ m → Ok tt ≡ finding_of (owner_pass T o)
  usual_end h = owner_end T o inv.own end m above inv.rows_left h

-- a required member row with tag 0, one number
usual_required : (T : List ℕ) (o end m above : ℕ) → Usual T o end m above → m < end → above ≤ 1 → o < type_rows T
    → (x : ℕ) → x ≡ at T 8 (member_at T m) → no_part T o x ≡ false → Usual T o end (m + 1) 1
usual_required T o end m above inv h l low x ex part =
    let below = part_there T o x false (sym part) refl in
    let whole : x % 65536 ≡ x = omega (arith, below, rows_below T) in
    usual_step T o end m above inv h (member_at T m) x refl ex true (usual_small x above true (omega (arith, below, rows_below T))) refl
    false (sym (ap (no_part T o) whole ∙ part)) refl 1 (omega (arith, below, rows_below T))

-- these rows: none, one more, and the loop after them
module _ (T : List ℕ) (o from : ℕ) where
  pub plain_begin : PlainRows T o from 0
  plain_begin = record { plain = λ j h. absurd (omega arith) }

  pub plain_next : (k : ℕ) → PlainRows T o from k → (p x : ℕ) → p ≡ member_at T (from + k) → x ≡ at T 8 p → (b : Bool) → b ≡ no_part T o x → b ≡ false → PlainRows T o from (k + 1)
  plain_next k inv p x ep ex b eb fb = record {
    plain = λ j h. let le : j ≤ k = omega arith in
        ⊎_elim (λ z. rw z (ap (no_part T o) (sym (ex ∙ ap (at T 8) ep)) ∙ sym eb ∙ fb)) (λ l. inv.plain j l) (eq-or-lt_of_le le);
  }

  module _ (low : o < type_rows T) (end : ℕ) (inv : Usual T o end from 0) where
    plain_steps : (k : ℕ) → from + k ≤ end → PlainRows T o from k → Usual T o end (from + k) (min k 1)
    plain_steps zero h P = rw add-zero inv
    plain_steps (suc k) h P =
        go (from + suc k) (min (suc k) 1) (omega arith) (omega arith)
        (usual_required T o end (from + k) (min k 1) (plain_steps k (omega arith) (record { plain = λ j l. P.plain j (omega arith) })) (omega arith) (omega arith) low
        _ refl (P.plain k (omega arith)))
      where
        go : (m above : ℕ) → m ≡ from + k + 1 → above ≡ 1 → Usual T o end (from + k + 1) 1 → Usual T o end m above
        go m above f g u = rw (f, g) u

    pub usual_plain : (k n : ℕ) → (k ≤ n) × PlainRows T o from k → from + n ≡ end → (a : ℕ) → a ≡ min k 1 → Usual T o end (from + k) a
    usual_plain k n P l a e = rw e (plain_steps k (omega (arith, P.0)) P.1)

-- a row alone, or without a name, is a row
pub alone_passed : (T : List ℕ) (t : ℕ) (r : TypeRow) (n : ℕ) (b : Bool) (o : Option ℕ) → IfSome o (AlonePassed T t r) → IfSome o (RowPassed T t r n b)
alone_passed T t r n b None p = tt
alone_passed T t r n b (Some x) p = (p.passed n).passed b

pub unnamed_passed : (T : List ℕ) (t : ℕ) (r : TypeRow) (n : ℕ) (b : Bool) (o : Option ℕ) → IfSome o (UnnamedPassed T t r n) → IfSome o (RowPassed T t r n b)
unnamed_passed T t r n b None p = tt
unnamed_passed T t r n b (Some x) p = p.passed b

-- ---- the members of a struct

-- the loop over a struct's members: `sum`, `wide` and `all` of those so far, and what the rows from m to `end` add
pub record StructMembers (T : List ℕ) (t m end sum : ℕ) (wide all : Bool) : Type 0 where
  pub own : TypeRow
  pub nine : own.kind ≡ 9
  pub owner : Owner T t own end m 1
  pub bound : sum + 256 * (end - m) < 16777216
  pub widths : widths_from 0 (member_tys T (tys T t) (own_rows T t)) ≡ pick wide (widths_from sum (member_tys T (tys T t) (range m (end - m)))) 0
  pub fixed_size : fixeds (member_tys T (tys T t) (own_rows T t)) ≡ all && fixeds (member_tys T (tys T t) (range m (end - m)))

-- the invariant holds with a higher bound on tags too
raise : (T : List ℕ) (t : ℕ) (own : TypeRow) (end m : ℕ) → Owner T t own end m 0 → Owner T t own end m 1
raise T t own end m inv = record { bytes = inv.bytes; own_is = inv.own_is; below = λ i l h. omega (arith, inv.below i l h); rest = inv.rest }

pub structs_begin : (T : List ℕ) (t : ℕ) (own : TypeRow) → ((i : ℕ) → get_or T i 0 < 256) → IsTypeRow T t own → own.kind ≡ 9 → StructMembers T t own.a (own.a + own.b) 0 true true
unfolding own_rows
structs_begin T t own small eo e =
    let z : own.a + own.b - own.a ≡ field T t 1 = omega (arith, eo.b_is) in
    record {
      own = own;
      nine = e;
      owner = raise T t own (own.a + own.b) own.a (owner_begin T t own.b own eo (share_own own (owns own.kind) refl (rw e)) small);
      bound = omega (arith, eo.b_small);
      widths = rw (z, eo.a_is);
      fixed_size = rw (z, eo.a_is);
    }

module _ (T : List ℕ) (t m end sum : ℕ) (wide all : Bool) (inv : StructMembers T t m end sum wide all) where
  -- no member is left
  module _ (h : end ≤ m) (low : t < type_rows T) (w : ℕ) (ew : w ≡ narrow (pick wide sum 0)) (x : ℕ) (ex : x ≡ struct_shape w all) where
    shape_is : x ≡ shape_at T t
    unfolding shape_of width_of widths_from fixeds
    shape_is =
        let none = members_none T (tys T t) m (end - m) (omega arith) in
        let a : widths_from 0 (member_tys T (tys T t) (own_rows T t)) ≡ pick wide sum 0 = inv.widths ∙ rw none in
        let f : fixeds (member_tys T (tys T t) (own_rows T t)) ≡ all = inv.fixed_size ∙ rw none (plus all) in
        row_of_struct T t low inv.own.kind inv.owner.own_is.kind_is inv.nine x (ex ∙ rw (ew, ← a, ← f))
      where
        plus : (b : Bool) → b && true ≡ b
        plus true = refl
        plus false = refl

    pub structs_end : StructPassed T t x
    structs_end = record { members = owner_end T t inv.own end m 1 inv.owner h; shape = shape_is }

  module _ (h : m < end) (count : ℕ) (ec : count ≡ members T) (few : end ≤ count) (p x : ℕ) (ep : p ≡ member_at T m) (ex : x ≡ at T 8 p)
      (b : Bool) (eb : b ≡ no_part T t x) (fb : b ≡ false) (low : t < type_rows T) where
    part_low : x < t
    part_low = part_there T t x b eb fb

    part_small : x % 65536 ≡ x
    part_small = omega (arith, part_low, rows_below T)

    part_is : x ≡ member_type T m
    part_is = sym part_small ∙ type_of T inv.owner.bytes m x (ex ∙ ap (at T 8) ep)

    part_next : Owner T t inv.own end (m + 1) 1
    part_next = usual_next T t inv.own end m 1 inv.owner h p x ep ex true (usual_small x 1 (not (eqb inv.own.kind 9)) (omega (arith, part_low, rows_below T))) refl b (eb ∙ ap (no_part T t) (sym part_small)) fb 1 (omega (arith, part_low, rows_below T))

    later : end - m - 1 ≡ end - (m + 1)
    later = omega arith

    module _ (shapes : List ℕ) (below : Shaped T shapes t) (w : ℕ) (ew : w ≡ pick (leb t x) 0 (width_in shapes x)) (small : w < 256)
        (f : Bool) (ef : f ≡ fixed (part_ty T t x)) where
      first_width : widths_from sum (member_tys T (tys T t) (range m (end - m))) ≡ pick (eqb w 0) 0 (widths_from (sum + w) (member_tys T (tys T t) (range (m + 1) (end - (m + 1)))))
      unfolding widths_from part_ty
      first_width = rw (members_more T (tys T t) m (end - m) (omega arith), later, member_in T m (tys T t) (omega arith), ← part_is, ← width_part T shapes t x w (omega arith) below ew)

      first_fixed : fixeds (member_tys T (tys T t) (range m (end - m))) ≡ f && fixeds (member_tys T (tys T t) (range (m + 1) (end - (m + 1))))
      unfolding fixeds part_ty
      first_fixed = rw (members_more T (tys T t) m (end - m) (omega arith), later, member_in T m (tys T t) (omega arith), ← part_is, ← ef)

      pub structs_next : StructMembers T t (m + 1) end (sum + w) (wide && not (eqb w 0)) (all && f)
      structs_next = record {
        own = inv.own;
        nine = inv.nine;
        owner = part_next;
        bound = omega (arith, inv.bound);
        widths = inv.widths ∙ ap (λ (z : ℕ). pick wide z 0) first_width ∙ both_wide wide (eqb w 0) _;
        fixed_size = inv.fixed_size ∙ ap (λ (z : Bool). all && z) first_fixed ∙ and_assoc all f _;
      }
        where
          both_wide : (c d : Bool) (y : ℕ) → pick c (pick d 0 y) 0 ≡ pick (c && not d) y 0
          both_wide true true y = refl
          both_wide true false y = refl
          both_wide false d y = refl

          and_assoc : (c d y : Bool) → c && (d && y) ≡ (c && d) && y
          and_assoc true d y = refl
          and_assoc false d y = refl

-- the width and the shape of a struct, by what was found of its members
module _ (wide : Bool) (sum : ℕ) where
  pub width_none : not wide ≡ true → 0 ≡ narrow (pick wide sum 0)
  width_none q = rw (not-true wide q)

  module _ (all : not wide ≡ false) where
    pub width_great : 237 < sum → 0 ≡ narrow (pick wide sum 0)
    width_great h = rw (not-false wide all, lt-leb sum 237 h)

    pub width_fits : sum ≤ 237 → sum ≡ narrow (pick wide sum 0)
    width_fits h = rw (not-false wide all, le-leb sum 237 h)

module _ (w : ℕ) (b : Bool) where
  pub shape_wide : (w ≡ 0 → ⊥) → 18 + w ≡ struct_shape w b
  shape_wide h = rw (ne_eqb w 0 h)

  pub shape_other : w ≡ 0 → (x : ℕ) → x ≡ pick b 9 10 → x ≡ struct_shape w b
  shape_other h x ex = ex ∙ sym (rw (eq-eqb w 0 h))

-- ---- the pass over the rows

pub record Rows (T shapes : List ℕ) (n t prior from : ℕ) : Type 0 where
  pub types_so_far : Types T n t prior from
  pub owners_so_far : Owners T n t
  pub shapes_so_far : Filling T shapes t

pub rows_begin : (T shapes : List ℕ) → ((i : ℕ) → get_or T i 0 < 256) → (n : ℕ) → n ≡ types T → shapes ≡ replicate 256 10 → Rows T shapes n 0 0 0
rows_begin T shapes small n e b = record { types_so_far = types_begin T small n e; owners_so_far = owners_begin T n e; shapes_so_far = filling_begin T shapes b }

module _ (T shapes : List ℕ) (n t prior from : ℕ) (inv : Rows T shapes n t prior from) where
  pub rows_shaped : Shaped T shapes t
  rows_shaped = inv.shapes_so_far.done

  pub rows_size : length shapes ≡ 256
  rows_size = inv.shapes_so_far.size

  module _ (en : n ≡ types T) (er : n ≡ type_rows T) (h : t < n) where
    pub rows_basic : (b : Bool) → b ≡ is_basic T t → b ≡ true → (k : ℕ) → k ≡ kind T t → (y : ℕ) → y ≡ plain_shape k → (f : ℕ) → f ≡ past from t true
        → Rows T (set shapes t y) n (t + 1) prior f
    rows_basic b e q k ek y ey f ef =
        let low = basic_kind T t (sym e ∙ q) in
        record {
          types_so_far = types_basic T n t prior from inv.types_so_far h b e q f ef;
          owners_so_far = owners_low T n t inv.owners_so_far h en k ek (omega arith);
          shapes_so_far = filling_next T shapes t inv.shapes_so_far n y er h (row_of_none T t (omega arith) k ek (λ z. omega arith) (λ z. omega arith) (λ z. omega arith) y ey);
        }

    pub rows_next : (r : TypeRow) → IsTypeRow T t r → (o : Option ℕ) → IfSome o (RowPassed T t r prior (alike_from T from t)) → (x : ℕ) → o ≡ Some x
        → (s : ℕ) → s ≡ share r → s ≤ r.b → (b : Bool) → b ≡ is_record r.kind → (f : ℕ) → f ≡ past from t (not b)
        → Rows T (set shapes t x) n (t + 1) (prior + s) f
    unfolding placed
    rows_next r er' o p x q s es hs b eb f ef =
        let P : RowPassed T t r prior (alike_from T from t) x = rw q at p in
        record {
          types_so_far = types_next T n t prior from inv.types_so_far h r er' (row_at T t) refl (Ok tt) P.rules (Ok tt) refl tt refl s es hs b eb f ef;
          owners_so_far = owners_next T n t inv.owners_so_far h en (Ok tt) (λ there. P.members) tt refl;
          shapes_so_far = filling_next T shapes t inv.shapes_so_far n x er h P.shape;
        }

  module _ (h : n ≤ t) where
    pub rows_types : n ≡ types T → with_lists T ≡ false → (all : ℕ) → all ≡ members T → eqb prior all ≡ true → Ok tt ≡ finding_of (rows_pass T)
    rows_types en lists all ea q = types_end T n t prior from inv.types_so_far en h (Ok tt) (lists_without T false (sym lists) refl) tt refl all ea (eqb-true _ _ q)

    pub rows_owners : OwnersThere T → Ok tt ≡ finding_of (owners_pass T (range 0 (types T)))
    rows_owners there = owners_end T n t inv.owners_so_far h there

    pub rows_shapes : n ≡ type_rows T → shapes ≡ shapes_of T
    rows_shapes er = filling_end T shapes t n inv.shapes_so_far er h

-- ---- after the header

pub no_lists : (T : List ℕ) (b : Bool) → b ≡ with_lists T → b ≡ false → with_lists T ≡ false
no_lists T b e q = sym e ∙ q

module _ (T : List ℕ) (v : Result Unit ℕ) (ev : placed 0 v ≡ finding_of (header_rules T)) (e : Bool) (ee : e ≡ is_err v) (kept : e ≡ false) where
  head : header_rules T ≡ fine
  head = go v refl
    where
      go : (w : Result Unit ℕ) → v ≡ w → header_rules T ≡ fine
      go (Ok u) q = header_judged T v ev u q
      go (Err c) q = absurd (false≢true (sym kept ∙ ee ∙ ap is_err q))

  pub few_types : (n : ℕ) → n ≡ types T → n ≡ type_rows T
  unfolding header_tests type_rows
  few_types n e =
      let l = ltb-false 256 (types T) (either_false (eqb (types T) 0) (ltb 256 (types T)) (header_test T head 3)).1 in
      e ∙ sym (rw (le-leb (types T) 256 l))

  pub all_there : (k : ℕ) → k ≡ members T → member_at T k ≤ length T
  all_there = all_rows_there T head

  pub pass_fine : (b : Bool) → (b ≡ true → Ok tt ≡ finding_of (rows_pass T)) → (b ≡ true → OwnersThere T → Ok tt ≡ finding_of (owners_pass T (range 0 (types T)))) → b ≡ true → faults T ≡ fine
  pass_fine b f g q = is_fine (faults T) tt (sym (members_judged T head (Ok tt) (f q) tt refl (Ok tt) (g q)))
