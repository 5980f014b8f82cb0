-- What follows from the tests of the check, rule by rule, and its loops. Assumes nothing.
--
--   whole_..                   a row read whole is the table's
--   at_below                   a number of k bytes is below 256 ^ k
--   marked_..                  the first five bytes, read as an int and a byte; mark_number the mark as one number
--   header_..                  the header's rules in the code's order
--   set_.., clear_..           fields that are not 0, from one on
--   unused_..                  those that a kind does not use; enum_listed, enum_plain those of an enum
--   part_.., base_..           references to rows below
--   Before, before_..          the loop over the names of rows before
--   alike_none                 no row before a row is a record
--   alike_is, name_text_is     of a row's name: it finds what is alike; it is text
--   past_.., Plain, plain_..   how far no row is a record; alike_from_lem: names are alike from there on or nowhere
--   enum_.. list_..            the rules of each kind; kind_.. those of a row by its kind; row_.. all of a type row
--   share_.., Sum, sum_..      the member rows that rows take
--   basic_..                   a basic row breaks no rule and takes no member rows
--   Types, types_..            the pass over the type rows, then the lists, then the member sum
--   Rise, rise_..              the loop over the entries of a list; allowed_.. the rules of a list, count_.. how many entries it has
--   Lists, lists_..            the pass over the lists and the entries left over
--   Tags, tags_..              the loop over the tags before; alike_above, alike_below only of a tag below a bound
--   required_.., optional_.., member_..   the rules of a member row
--   Fields, fields             the eight bytes of a member row as one number, by its fields; tag_of, type_of its tag and its type
--   usual_..                   the tests of a usual row, and that it breaks no rule but perhaps that of its type
--   Owner, owner_..            the member rows of one owner, each of its class (class_..), read whole or usual; Owners, owners_.. of all owners
--   check_..                   the passes one after another; check_rows, check_all_rows the type rows lie inside, all rows do
use Prim.Native.Nat.{ℕ, zero, suc, ◌+◌, ◌-◌, ◌*◌, ◌/◌, ◌%◌, ◌^◌, ◌≤◌, ◌<◌, max}
use mathlib.Core.Path.{◌≡◌, refl, sym, ap, ap₂, ◌∙◌}
use mathlib.Core.Bool.{Bool, true, false, ◌&&◌, ◌||◌, not, true≢false}
use mathlib.Core.List.{List, [], ◌∷◌, map}
use mathlib.Core.Logic.{◌⊎◌, inl, inr, ⊎_elim}
use native.Mathlib.Nat.{add-zero, eq-or-lt_of_le}
use native.Mathlib.Numerals.{add-one, sub-one}
use native.Mathlib.Omega.{arith}
use lib.ListN.{length, take, drop, get_or, get_or-eq_default, drop_of_length-le}
use lib.Dec.{eqb, leb, ltb}
use borrow.Author.Tests.{eqb-true, eqb-false, leb-true, ltb-true, ltb-false, not-true, not-false, lt-ltb, le-ltb, le-leb, lt-leb, eq-eqb, ne_eqb}
use Rattle.encoding.specs.Result.{pick, first_of, same_bytes}
use Rattle.encoding.proofs.ResultLaws.{both_true, either_false}
use Rattle.encoding.specs.Utf8.{is_utf8}
use Rattle.encoding.specs.Number.{val, negative}
use Rattle.encoding.specs.Table.{at, version, with_lists, types, members, names, entries, types_at, row_at, member_at, entries_at, field_at, list_entry, kind, spare, field, member_type, mark, member_spare, tag, is_record, owns, name_of, range, any, used, taken_by, taken, no_part, alike, type_rules, rises_to, has_list, entries_taken, allowed_rules, entries_rules, header_tests, header_rules, sum_rules, fault_at, Fault, fine, fault, or_else, pass, passes, faults}
use Rattle.encoding.proofs.TableLaws.{header_least}
use Rattle.wire.specs.At.{at_more, at_split}
use Rattle.table.specs.Names.{name_start, is_named}
use Rattle.table.specs.NamesLaws.{name_part}
use Rattle.rules.specs.Checks.{finding_of, class_of, broken_of, placed, is_marked, is_set_from, no_base_of, alike_from, enum_rules, struct_rules, seq_rules, dict_rules, record_rules, list_rules, kind_rules, row_rules, share, is_basic, past, allowed_rules_by, entry_count, type_pass, allowed_pass, rows_pass, member_pass, is_optional_of, is_tag_before, is_tag_alike, required_rules, optional_rules, member_rules_by, member_rules_of, is_usual, owner_pass, owners_pass, MembersThere, OwnersThere}
use Rattle.rules.specs.ChecksLaws.{row_rules_lem, allowed_rules_lem, or_assoc, table_length, owners_pass_lem, owners_there}
use Rattle.table.specs.Rows.{type_row_of, member_row_of, IsTypeRow, IsMemberRow, greatest_of}
use Rattle.table.specs.declared.TypeRow.{TypeRow}
use Rattle.table.specs.declared.MemberRow.{MemberRow}
use Rattle.std.specs.Prelude.{Result, Ok, Err}
use Rattle.wire.specs.declared.Refusal.{Refusal}
use Rattle.wire.specs.Steps.{refused}
use Rattle.table.proofs.Places.{row_shows}
use Rattle.table.proofs.Ranges.{range_more, range_none, range_left, range_empty, any_here, any_next, any_none, any_never, any_past}
use Rattle.table.proofs.ByKind.{by_kind}
use Rattle.table.proofs.Labels.{record_named, record_short, record_none}

-- ---- rows read whole

whole_type : (T : List ℕ) (t : ℕ) (r : TypeRow) → IsTypeRow T t r → r ≡ type_row_of T t
whole_type T t r i = go i.kind_is i.spare_is i.a_is i.b_is i.c_is i.d_is i.e_is
  where
    go : {k s a b c d e : ℕ} → k ≡ kind T t → s ≡ spare T t → a ≡ field T t 0 → b ≡ field T t 1 → c ≡ field T t 2 → d ≡ field T t 3 → e ≡ field T t 4
        → ◌≡◌ {A = TypeRow} (record { kind = k; spare = s; a = a; b = b; c = c; d = d; e = e }) (type_row_of T t)
    go ek es ea eb ec ed ee = rw (ek, es, ea, eb, ec, ed, ee)

whole_member : (T : List ℕ) (m : ℕ) (r : MemberRow) → IsMemberRow T m r → r ≡ member_row_of T m
whole_member T m r i = go i.of_is i.mark_is i.spare_is i.tag_is
  where
    go : {t k s g : ℕ} → t ≡ member_type T m → k ≡ mark T m → s ≡ member_spare T m → g ≡ tag T m
        → ◌≡◌ {A = MemberRow} (record { of = t; mark = k; spare = s; tag = g }) (member_row_of T m)
    go et ek es eg = rw (et, ek, es, eg)

-- ---- numbers of bytes

-- a number of k bytes is below 256 ^ k
at_below : (T : List ℕ) → ((i : ℕ) → get_or T i 0 < 256) → (k p : ℕ) → at T k p < 256 ^ k
unfolding at val
at_below T small zero p = omega arith
at_below T small (suc k) p = omega (arith, at_more T k p, small p, at_below T small k (suc p))

-- ---- header

-- the mark as one number
mark_number : (T : List ℕ) → 3 ≤ length T → ((i : ℕ) → get_or T i 0 < 256) → same_bytes (take 3 T) (70 ∷ 71 ∷ 84 ∷ []) ≡ eqb (at T 3 0) 5523270
unfolding same_bytes at val
mark_number (a ∷ b ∷ c ∷ r) long small = go (eqb a 70) (eqb b 71) (eqb c 84) refl refl refl (eqb n 5523270) refl
  where
    n : ℕ
    n = val (a ∷ b ∷ c ∷ [])

    go : (x y z : Bool) → eqb a 70 ≡ x → eqb b 71 ≡ y → eqb c 84 ≡ z → (s : Bool) → eqb n 5523270 ≡ s → x && (y && (z && true)) ≡ s
    go true true true ea eb ec true e = refl
    go true true true ea eb ec false e = absurd (eqb-false n 5523270 e (omega (arith, eqb-true a 70 ea, eqb-true b 71 eb, eqb-true c 84 ec)))
    go true true false ea eb ec true e = absurd (eqb-false c 84 ec (omega (arith, eqb-true n 5523270 e, small 0, small 1)))
    go true false z ea eb ec true e = absurd (eqb-false b 71 eb (omega (arith, eqb-true n 5523270 e, small 0, small 1)))
    go false y z ea eb ec true e = absurd (eqb-false a 70 ea (omega (arith, eqb-true n 5523270 e, small 0)))
    go true true false ea eb ec false e = refl
    go true false z ea eb ec false e = refl
    go false y z ea eb ec false e = refl
mark_number [] long small = absurd (omega arith)
mark_number (a ∷ []) long small = absurd (omega arith)
mark_number (a ∷ b ∷ []) long small = absurd (omega arith)

-- the first four bytes as an int: the mark, and the version's first byte
module _ (T : List ℕ) (long : 5 ≤ length T) (small : (i : ℕ) → get_or T i 0 < 256) (n : ℕ) (en : n ≡ at T 4 0) where
  four : n ≡ at T 3 0 + 16777216 * at T 1 3
  four = en ∙ at_split T 3 1 0

  two : version T ≡ at T 1 3 + 256 * at T 1 4
  unfolding version
  two = at_split T 1 1 3

  pub marked_other : (n ≡ 22300486 → ⊥) → (n ≡ 39077702 → ⊥) → false ≡ is_marked T
  unfolding is_marked with_lists
  marked_other h k = rw (mark_number T (omega arith) small) (go (eqb (at T 3 0) 5523270) refl (eqb (version T) 1) refl (eqb (version T) 2) refl)
    where
      go : (a : Bool) → eqb (at T 3 0) 5523270 ≡ a → (b : Bool) → eqb (version T) 1 ≡ b → (c : Bool) → eqb (version T) 2 ≡ c → false ≡ a && (b || c)
      go false ea b eb c ec = refl
      go true ea true eb c ec = absurd (h (omega (arith, four, two, eqb-true (at T 3 0) 5523270 ea, eqb-true (version T) 1 eb, at_below T small 1 3)))
      go true ea false eb true ec = absurd (k (omega (arith, four, two, eqb-true (at T 3 0) 5523270 ea, eqb-true (version T) 2 ec, at_below T small 1 3)))
      go true ea false eb false ec = refl

  marked_by : (w : ℕ) → n ≡ 5523270 + 16777216 * w → (w ≡ 1) ⊎ (w ≡ 2) → (v : ℕ) → v ≡ at T 1 4 → eqb v 0 ≡ is_marked T
  unfolding is_marked with_lists
  marked_by w e which v ev =
      let m : at T 3 0 ≡ 5523270 = omega (arith, four, at_below T small 3 0) in
      rw (mark_number T (omega arith) small, m) (go (eqb v 0) refl (eqb (version T) 1) refl (eqb (version T) 2) refl)
    where
      first : at T 1 3 ≡ w
      first = omega (arith, four, at_below T small 3 0)

      go : (a : Bool) → eqb v 0 ≡ a → (b : Bool) → eqb (version T) 1 ≡ b → (c : Bool) → eqb (version T) 2 ≡ c → a ≡ b || c
      go true ea true eb c ec = refl
      go true ea false eb true ec = refl
      go true ea false eb false ec =
          ⊎_elim
          (λ q. absurd (eqb-false (version T) 1 eb (omega (arith, two, first, eqb-true v 0 ea))))
          (λ q. absurd (eqb-false (version T) 2 ec (omega (arith, two, first, eqb-true v 0 ea))))
          which
      go false ea true eb c ec = absurd (eqb-false v 0 ea (omega (arith, two, first, eqb-true (version T) 1 eb)))
      go false ea false eb true ec = absurd (eqb-false v 0 ea (omega (arith, two, first, eqb-true (version T) 2 ec)))
      go false ea false eb false ec = refl

  module _ (v : ℕ) (ev : v ≡ at T 1 4) where
    pub marked_first : n ≡ 22300486 → eqb v 0 ≡ is_marked T
    marked_first e = marked_by 1 e (inl refl) v ev

    pub marked_second : n ≡ 39077702 → eqb v 0 ≡ is_marked T
    marked_second e = marked_by 2 e (inr refl) v ev

module _ (T : List ℕ) (f : ℕ) (ef : f ≡ types_at T) where
  pub five_there : f ≤ length T → 5 ≤ length T
  five_there h = omega (arith, header_least T)

  pub header_short : length T < f → placed 0 (Err 31) ≡ finding_of (header_rules T)
  unfolding placed finding_of fault_at header_rules header_tests first_of
  header_short h = rw (lt-ltb (length T) (types_at T) (omega arith)) (go (not (same_bytes (take 3 T) (70 ∷ 71 ∷ 84 ∷ []))) (not (eqb (version T) 1 || with_lists T)))
    where
      go : (a b : Bool) → placed 0 (Err 31) ≡ finding_of (fault_at 0 (pick a 31 (pick b 31 31)))
      go true b = refl
      go false true = refl
      go false false = refl

  module _ (long : f ≤ length T) (s : Bool) (es : s ≡ is_marked T) where
    all_there : ltb (length T) (types_at T) ≡ false
    all_there = le-ltb (length T) (types_at T) (omega arith)

    pub header_mark : not s ≡ true → placed 0 (Err 31) ≡ finding_of (header_rules T)
    unfolding placed finding_of fault_at header_rules header_tests first_of is_marked
    header_mark q = go (same_bytes (take 3 T) (70 ∷ 71 ∷ 84 ∷ [])) (eqb (version T) 1 || with_lists T) _ (sym es ∙ not-true s q)
      where
        go : (a b : Bool) (r : ℕ) → a && b ≡ false → placed 0 (Err 31) ≡ finding_of (fault_at 0 (pick (not a) 31 (pick (not b) 31 r)))
        go true true r e = absurd (true≢false e)
        go true false r e = refl
        go false b r e = refl

    module _ (marked : not s ≡ false) (t : ℕ) (et : t ≡ types T) where
      mark_is : same_bytes (take 3 T) (70 ∷ 71 ∷ 84 ∷ []) ≡ true
      unfolding is_marked
      mark_is = (both_true _ (eqb (version T) 1 || with_lists T) (sym es ∙ not-false s marked)).0

      version_is : eqb (version T) 1 || with_lists T ≡ true
      unfolding is_marked
      version_is = (both_true (same_bytes (take 3 T) (70 ∷ 71 ∷ 84 ∷ [])) _ (sym es ∙ not-false s marked)).1

      pub header_none : t ≡ 0 → placed 0 (Err 31) ≡ finding_of (header_rules T)
      unfolding placed finding_of fault_at header_rules header_tests first_of
      header_none z = rw (mark_is, version_is, all_there, ← et, eq-eqb t 0 z)

      module _ (some : t ≡ 0 → ⊥) where
        pub header_types : 256 < t → placed 0 (Err 31) ≡ finding_of (header_rules T)
        unfolding placed finding_of fault_at header_rules header_tests first_of
        header_types h = rw (mark_is, version_is, all_there, ← et, ne_eqb t 0 some, lt-ltb _ _ h)

        module _ (few : t ≤ 256) (m : ℕ) (em : m ≡ members T) where
          pub header_members : 1024 < m → placed 0 (Err 31) ≡ finding_of (header_rules T)
          unfolding placed finding_of fault_at header_rules header_tests first_of
          header_members h = rw (mark_is, version_is, all_there, ← et, ne_eqb t 0 some, le-ltb _ _ few, ← em, lt-ltb _ _ h)

          module _ (small : m ≤ 1024) (n : ℕ) (en : n ≡ names T) where
            pub header_names : 8192 < n → placed 0 (Err 31) ≡ finding_of (header_rules T)
            unfolding placed finding_of fault_at header_rules header_tests first_of
            header_names h = rw (mark_is, version_is, all_there, ← et, ne_eqb t 0 some, le-ltb _ _ few, ← em, le-ltb _ _ small, ← en, lt-ltb _ _ h)

            module _ (short : n ≤ 8192) (b : ℕ) (eb : b ≡ at T 1 11) where
              pub header_spare : (b ≡ 0 → ⊥) → placed 0 (Err 31) ≡ finding_of (header_rules T)
              unfolding placed finding_of fault_at header_rules header_tests first_of
              header_spare h = rw (mark_is, version_is, all_there, ← et, ne_eqb t 0 some, le-ltb _ _ few, ← em, le-ltb _ _ small, ← en, le-ltb _ _ short, ← eb, ne_eqb b 0 h)

              module _ (spare : b ≡ 0) (k : ℕ) (ek : k ≡ entries T) where
                all_but_entries : header_rules T ≡ fault_at 0 (pick (ltb 1024 k) 31 (pick (not (eqb (length T) (entries_at T + 4 * entries T))) 31 0))
                unfolding header_rules header_tests first_of
                all_but_entries =
                    rw (mark_is, version_is, all_there, ne_eqb (types T) 0 (λ z. some (et ∙ z)), le-ltb 256 (types T) (omega arith), le-ltb 1024 (members T) (omega arith), le-ltb 8192 (names T) (omega arith), ← eb, eq-eqb b 0 spare, ek)

                pub header_entries : 1024 < k → placed 0 (Err 31) ≡ finding_of (header_rules T)
                unfolding placed finding_of fault_at
                header_entries h = sym (ap finding_of all_but_entries ∙ rw (lt-ltb 1024 k h))

                module _ (little : k ≤ 1024) (p : ℕ) (ep : p ≡ member_at T m) where
                  pub header_length : (length T ≡ p + n + 4 * k → ⊥) → placed 0 (Err 31) ≡ finding_of (header_rules T)
                  unfolding placed finding_of fault_at
                  header_length h = sym (ap finding_of all_but_entries ∙ rw (le-ltb 1024 k little, ne_eqb (length T) (entries_at T + 4 * entries T) (λ q. h (omega arith))))

                  pub header_fine : length T ≡ p + n + 4 * k → placed 0 (Ok tt) ≡ finding_of (header_rules T)
                  unfolding placed finding_of fault_at
                  header_fine h = sym (ap finding_of all_but_entries ∙ rw (le-ltb 1024 k little, eq-eqb (length T) (entries_at T + 4 * entries T) (omega arith)))

-- ---- fields that a kind does not use

-- the fields, each of them tested if it is not before field i
pub set_is : (r : TypeRow) (i : ℕ)
    → ((((eqb i 0 && not (eqb r.a 0)) || (leb i 1 && not (eqb r.b 0))) || (leb i 2 && not (eqb r.c 0))) || (leb i 3 && not (eqb r.d 0))) || (leb i 4 && not (eqb r.e 0)) ≡ is_set_from r i
unfolding is_set_from any
set_is r i = go i
  where
    or_all : (a b c d e : Bool) → (((a || b) || c) || d) || e ≡ a || (b || (c || (d || (e || false))))
    or_all true b c d e = refl
    or_all false true c d e = refl
    or_all false false true d e = refl
    or_all false false false true e = refl
    or_all false false false false true = refl
    or_all false false false false false = refl

    go : (i : ℕ) → ((((eqb i 0 && not (eqb r.a 0)) || (leb i 1 && not (eqb r.b 0))) || (leb i 2 && not (eqb r.c 0))) || (leb i 3 && not (eqb r.d 0))) || (leb i 4 && not (eqb r.e 0)) ≡ is_set_from r i
    go zero = or_all (not (eqb r.a 0)) (not (eqb r.b 0)) (not (eqb r.c 0)) (not (eqb r.d 0)) (not (eqb r.e 0))
    go (suc zero) = or_all false (not (eqb r.b 0)) (not (eqb r.c 0)) (not (eqb r.d 0)) (not (eqb r.e 0))
    go (suc (suc zero)) = or_all false false (not (eqb r.c 0)) (not (eqb r.d 0)) (not (eqb r.e 0))
    go (suc (suc (suc zero))) = or_all false false false (not (eqb r.d 0)) (not (eqb r.e 0))
    go (suc (suc (suc (suc zero)))) = or_all false false false false (not (eqb r.e 0))
    go (suc (suc (suc (suc (suc i))))) =
        let n : ℕ = suc (suc (suc (suc (suc i)))) in
        rw (ne_eqb n 0 (omega arith), lt-leb n 1 (omega arith), lt-leb n 2 (omega arith), lt-leb n 3 (omega arith), lt-leb n 4 (omega arith), drop_of_length-le {A = ℕ} [] {i = i} (omega arith))

-- past the last field none is left
pub set_past : (r : TypeRow) (i : ℕ) → 5 ≤ i → false ≡ is_set_from r i
unfolding is_set_from any
set_past r i h = rw (drop_of_length-le {A = ℕ} (r.a ∷ r.b ∷ r.c ∷ r.d ∷ r.e ∷ []) {i = i} h)

-- by the kind
pub used_low : (T : List ℕ) (k : ℕ) → k < 8 → 0 ≡ used T k
unfolding used
used_low T = by_kind (λ n. n < 8 → 0 ≡ used T n)
    (λ h. refl) (λ h. refl) (λ h. refl) (λ h. refl) (λ h. refl) (λ h. refl) (λ h. refl) (λ h. refl)
    (λ h. absurd (omega arith)) (λ h. absurd (omega arith)) (λ h. absurd (omega arith)) (λ h. absurd (omega arith)) (λ h. absurd (omega arith))
    (λ n l h. absurd (omega arith))

used_two : (T : List ℕ) (k : ℕ) → 8 < k → (k ≡ 10 → ⊥) → (k ≡ 12 → ⊥) → (k ≡ 13 → ⊥) → (k ≡ 14 → ⊥) → k < 16 → 2 ≡ used T k
unfolding used
used_two T = by_kind (λ n. 8 < n → (n ≡ 10 → ⊥) → (n ≡ 12 → ⊥) → (n ≡ 13 → ⊥) → (n ≡ 14 → ⊥) → n < 16 → 2 ≡ used T n)
    (λ h a b c d l. absurd (omega arith)) (λ h a b c d l. absurd (omega arith)) (λ h a b c d l. absurd (omega arith)) (λ h a b c d l. absurd (omega arith))
    (λ h a b c d l. absurd (omega arith)) (λ h a b c d l. absurd (omega arith)) (λ h a b c d l. absurd (omega arith)) (λ h a b c d l. absurd (omega arith))
    (λ h a b c d l. absurd (omega arith)) (λ h a b c d l. refl) (λ h a b c d l. absurd (a refl)) (λ h a b c d l. refl) (λ h a b c d l. absurd (b refl))
    (λ n g h a b c d l. let z : n ≡ 15 = omega arith in rw z)

used_unknown : (T : List ℕ) (k : ℕ) → 16 ≤ k → 5 ≡ used T k
unfolding used
used_unknown T k h = sym (get_or-eq_default {A = ℕ} (0 ∷ 0 ∷ 0 ∷ 0 ∷ 0 ∷ 0 ∷ 0 ∷ 0 ∷ pick (with_lists T) 4 2 ∷ 2 ∷ 1 ∷ 2 ∷ 0 ∷ 5 ∷ 5 ∷ 2 ∷ []) 5 {n = k} h)

pub used_all : (T : List ℕ) (k : ℕ) → 8 ≤ k → (k ≡ 8 → ⊥) → (k ≡ 9 → ⊥) → (k ≡ 10 → ⊥) → (k ≡ 11 → ⊥) → (k ≡ 12 → ⊥) → (k ≡ 15 → ⊥) → 5 ≡ used T k
unfolding used
used_all T k l n8 n9 n10 n11 n12 n15 = go (eqb k 13) refl (eqb k 14) refl
  where
    go : (x : Bool) → eqb k 13 ≡ x → (y : Bool) → eqb k 14 ≡ y → 5 ≡ used T k
    go true e y f = rw (eqb-true k 13 e)
    go false e true f = rw (eqb-true k 14 f)
    go false e false f = used_unknown T k (omega (arith, n8, n9, n10, n11, n12, n15, eqb-false k 13 e, eqb-false k 14 f))

module _ (T : List ℕ) (r : TypeRow) (k : ℕ) (b : Bool) where
  pub unused_low : k < 8 → b ≡ is_set_from r 0 → b ≡ is_set_from r (used T k)
  unused_low h e = e ∙ ap (is_set_from r) (used_low T k h)

  pub unused_seq : k ≡ 10 → b ≡ is_set_from r 1 → b ≡ is_set_from r (used T k)
  unfolding used
  unused_seq h e = rw h e

  pub unused_proxy : k ≡ 12 → b ≡ is_set_from r 0 → b ≡ is_set_from r (used T k)
  unfolding used
  unused_proxy h e = rw h e

  pub unused_enum : k ≡ 8 → b ≡ is_set_from r (used T 8) → b ≡ is_set_from r (used T k)
  unused_enum h e = e ∙ ap (λ (n : ℕ). is_set_from r (used T n)) (sym h)

  pub unused_two : 8 ≤ k → (k ≡ 8 → ⊥) → (k ≡ 10 → ⊥) → (k ≡ 12 → ⊥) → (k ≡ 13 → ⊥) → (k ≡ 14 → ⊥) → k < 16 → b ≡ is_set_from r 2 → b ≡ is_set_from r (used T k)
  unused_two h u x y z w l e = e ∙ ap (is_set_from r) (used_two T k (omega (arith, u)) x y z w l)

-- of an enum in a table without lists
module _ (T : List ℕ) (r : TypeRow) (b : Bool) (eb : b ≡ with_lists T) where
  pub enum_plain : b ≡ false → (s : Bool) → s ≡ is_set_from r 2 → s ≡ is_set_from r (used T 8)
  unfolding used
  enum_plain q s e = rw (← eb, q) e

module _ (T : List ℕ) (r : TypeRow) (k : ℕ) where
  none_set : false ≡ is_set_from r 5
  unfolding is_set_from any range
  none_set = refl

  pub unused_exception : k ≡ 13 → false ≡ is_set_from r (used T k)
  unfolding used
  unused_exception h = rw h none_set

  pub unused_class : k ≡ 14 → false ≡ is_set_from r (used T k)
  unfolding used
  unused_class h = rw h none_set

-- ---- references

module _ (T : List ℕ) (t r : ℕ) where
  pub part_above : t ≤ r → true ≡ no_part T t r
  unfolding no_part
  part_above h = rw (le-leb _ _ h)

  pub part_below : (k : ℕ) → r < t → k ≡ kind T r → ltb 12 k ≡ no_part T t r
  unfolding no_part
  part_below k h e = rw (lt-leb _ _ h, e)

module _ (T : List ℕ) (t k b : ℕ) where
  pub base_free : b ≡ 0 → false ≡ no_base_of T t k b
  unfolding no_base_of
  base_free z = rw z

  pub base_over : (b ≡ 0 → ⊥) → t < b → true ≡ no_base_of T t k b
  unfolding no_base_of
  base_over z h = go b z h
    where
      go : (b : ℕ) → (b ≡ 0 → ⊥) → t < b → true ≡ no_base_of T t k b
      go zero z h = absurd (omega arith)
      go (suc r) z h = let l : t ≤ r = omega arith in rw (le-leb _ _ l)

  pub base_kinds : (b ≡ 0 → ⊥) → b ≤ t → (j : ℕ) → j ≡ kind T (b - 1) → not (eqb j k) ≡ no_base_of T t k b
  unfolding no_base_of
  base_kinds z h j ej = rw ej (go b z h)
    where
      go : (b : ℕ) → (b ≡ 0 → ⊥) → b ≤ t → not (eqb (kind T (b - 1)) k) ≡ no_base_of T t k b
      go zero z h = absurd (omega arith)
      go (suc r) z h = let l : r < t = omega arith in rw (lt-leb _ _ l, sub-one)

-- ---- names

pub record Before (T nm : List ℕ) (from t r : ℕ) : Type 0 where
  pub rest : any (is_named T nm) (range from (t - from)) ≡ any (is_named T nm) (range r (t - r))

pub before_begin : (T nm : List ℕ) (from t : ℕ) → Before T nm from t from
before_begin T nm from t = record { rest = refl }

module _ (T nm : List ℕ) (from t r : ℕ) (inv : Before T nm from t r) where
  module _ (h : r < t) where
    before_next : false ≡ is_named T nm r → Before T nm from t (r + 1)
    before_next e = record { rest = inv.rest ∙ any_next (is_named T nm) r t h (sym e) }

    module _ (row : TypeRow) (er : IsTypeRow T r row) (b : Bool) (eb : b ≡ is_record row.kind) where
      pub before_plain : b ≡ false → Before T nm from t (r + 1)
      before_plain q = before_next (record_none T nm r row.kind er.kind_is b eb q)

      module _ (q : b ≡ true) where
        pub before_short : row.e < length nm → Before T nm from t (r + 1)
        before_short l = before_next (record_short T nm r row.kind er.kind_is b eb q row.e er.e_is l)

        module _ (s : Bool) (es : s ≡ same_bytes nm (name_of T r)) where
          named : s ≡ is_named T nm r
          named = record_named T nm r row.kind er.kind_is b eb s q es

          pub before_here : s ≡ true → true ≡ any (is_named T nm) (range from (t - from))
          before_here y = sym (inv.rest ∙ any_here (is_named T nm) r t h (sym named ∙ y))

          pub before_other : s ≡ false → Before T nm from t (r + 1)
          before_other y = before_next (sym y ∙ named)

  pub before_end : t ≤ r → false ≡ any (is_named T nm) (range from (t - from))
  before_end h = sym (inv.rest ∙ any_none (is_named T nm) r t h)

same_sym : (a b : List ℕ) → same_bytes a b ≡ same_bytes b a
unfolding same_bytes
same_sym [] [] = refl
same_sym [] (y ∷ b) = refl
same_sym (x ∷ a) [] = refl
same_sym (x ∷ a) (y ∷ b) = ap₂ ◌&&◌ (go (eqb x y) refl) (same_sym a b)
  where
    go : (t : Bool) → eqb x y ≡ t → eqb x y ≡ eqb y x
    go true e = e ∙ sym (eq-eqb y x (sym (eqb-true x y e)))
    go false e = e ∙ sym (ne_eqb y x (λ q. eqb-false x y e (sym q)))

any_same : (f g : ℕ → Bool) → ((i : ℕ) → f i ≡ g i) → (l : List ℕ) → any f l ≡ any g l
unfolding any
any_same f g h [] = refl
any_same f g h (i ∷ l) = rw (h i, any_same f g h l)

-- no row before is a record
pub alike_none : (T : List ℕ) (from t : ℕ) → t ≤ from → false ≡ alike_from T from t
unfolding alike_from any range
alike_none T from t h = let z : t - from ≡ 0 = omega arith in rw z

-- the part of the table that is a row's name
module _ (T : List ℕ) (t a l : ℕ) (r : Bool) (ea : a ≡ name_start T t) (el : l ≡ length (name_of T t)) where
  name_taken : take (a + l - a) (drop a T) ≡ name_of T t
  name_taken = let z : a + l - a ≡ length (name_of T t) = omega (arith, el) in rw (z, ea, name_part T t)

  pub alike_is : (from : ℕ) → r ≡ any (is_named T (take (a + l - a) (drop a T))) (range from (t - from)) → r ≡ alike_from T from t
  unfolding alike_from
  alike_is from h = h ∙ rw name_taken

  pub name_text_is : r ≡ is_utf8 (take (a + l - a) (drop a T)) → r ≡ is_utf8 (name_of T t)
  name_text_is h = h ∙ rw name_taken

-- how far no row is a record
module _ (from t : ℕ) (b : Bool) where
  pub past_plain : from ≡ t → b ≡ true → t + 1 ≡ past from t b
  unfolding past
  past_plain e q = rw (eq-eqb from t e, q)

  pub past_record : from ≡ t → b ≡ false → from ≡ past from t b
  unfolding past
  past_record e q = rw (eq-eqb from t e, q)

  pub past_before : (from ≡ t → ⊥) → from ≡ past from t b
  unfolding past
  past_before h = rw (ne_eqb from t h)

-- no row before `from` is a record, and `from` is not after row t
pub record Plain (T : List ℕ) (t from : ℕ) : Type 0 where
  pub within : from ≤ t
  pub plain : (r : ℕ) → r < from → is_record (kind T r) ≡ false

plain_begin : (T : List ℕ) → Plain T 0 0
plain_begin T = record { within = omega arith; plain = λ r h. absurd (omega arith) }

module _ (T : List ℕ) (t from : ℕ) (inv : Plain T t from) where
  plain_next : (b : Bool) → (b ≡ true → is_record (kind T t) ≡ false) → Plain T (t + 1) (past from t b)
  unfolding past
  plain_next b e = go (eqb from t) refl b refl
    where
      stays : Plain T (t + 1) from
      stays = record { within = omega (arith, inv.within); plain = inv.plain }

      go : (d : Bool) → eqb from t ≡ d → (c : Bool) → b ≡ c → Plain T (t + 1) (pick (d && c) (t + 1) from)
      go true q true y = record {
        within = omega arith;
        plain = λ r h. ⊎_elim
            (λ z. ap (λ (i : ℕ). is_record (kind T i)) z ∙ e y)
            (λ z. inv.plain r (omega (arith, eqb-true from t q)))
            (eq-or-lt_of_le {n = r} {m = t} (omega arith));
      }
      go true q false y = stays
      go false q c y = stays

  -- rows that are no records have no name to be alike
  alike_from_lem : alike_from T from t ≡ alike T t
  unfolding alike_from alike
  alike_from_lem =
      sym (any_past (is_named T (name_of T t)) from t inv.within (λ r h. ap (λ (b : Bool). b && same_bytes (name_of T t) (name_of T r)) (inv.plain r h)))
      ∙ any_same _ _ (λ i. ap (λ (y : Bool). is_record (kind T i) && y) (same_sym (name_of T t) (name_of T i))) (range 0 t)

-- ---- the rules of each kind

module _ (r : TypeRow) (g : ℕ) (e : g ≡ greatest_of r) where
  pub enum_great : 2147483648 ≤ g → Err 38 ≡ broken_of (enum_rules r)
  unfolding broken_of class_of first_of enum_rules negative
  enum_great h = rw (← e, le-leb (2 ^ 31) g h)

  pub enum_fine : g < 2147483648 → Ok tt ≡ broken_of (enum_rules r)
  unfolding broken_of class_of first_of enum_rules negative
  enum_fine h = rw (← e, lt-leb (2 ^ 31) g h)

module _ (r : TypeRow) (n : ℕ) where
  pub struct_first : (r.a ≡ n → ⊥) → Err 35 ≡ broken_of (struct_rules r n)
  unfolding broken_of class_of first_of struct_rules
  struct_first h = rw (ne_eqb r.a n h)

  pub list_first : (r.a ≡ n → ⊥) → Err 35 ≡ broken_of (list_rules r n)
  unfolding broken_of class_of first_of list_rules
  list_first h = rw (ne_eqb r.a n h)

  pub list_fine : r.a ≡ n → Ok tt ≡ broken_of (list_rules r n)
  unfolding broken_of class_of first_of list_rules
  list_fine h = rw (eq-eqb r.a n h)

  module _ (first : r.a ≡ n) where
    pub struct_empty : r.b ≡ 0 → Err 36 ≡ broken_of (struct_rules r n)
    unfolding broken_of class_of first_of struct_rules
    struct_empty z = rw (eq-eqb r.a n first, eq-eqb r.b 0 z)

    pub struct_fine : (r.b ≡ 0 → ⊥) → Ok tt ≡ broken_of (struct_rules r n)
    unfolding broken_of class_of first_of struct_rules
    struct_fine z = rw (eq-eqb r.a n first, ne_eqb r.b 0 z)

module _ (T : List ℕ) (t : ℕ) (r : TypeRow) (b : Bool) (eb : b ≡ no_part T t r.a) where
  pub seq_broken : b ≡ true → Err 34 ≡ broken_of (seq_rules T t r)
  unfolding broken_of class_of first_of seq_rules
  seq_broken q = rw (← eb, q)

  pub seq_fine : b ≡ false → Ok tt ≡ broken_of (seq_rules T t r)
  unfolding broken_of class_of first_of seq_rules
  seq_fine q = rw (← eb, q)

  pub dict_key : b ≡ true → Err 34 ≡ broken_of (dict_rules T t r)
  unfolding broken_of class_of first_of dict_rules
  dict_key q = rw (← eb, q)

  module _ (key : b ≡ false) (s : Bool) (es : s ≡ no_part T t r.b) where
    pub dict_value : s ≡ true → Err 34 ≡ broken_of (dict_rules T t r)
    unfolding broken_of class_of first_of dict_rules
    dict_value q = rw (← eb, key, ← es, q)

    pub dict_fine : s ≡ false → Ok tt ≡ broken_of (dict_rules T t r)
    unfolding broken_of class_of first_of dict_rules
    dict_fine q = rw (← eb, key, ← es, q)

module _ (T : List ℕ) (t : ℕ) (r : TypeRow) (n : ℕ) (s b : Bool) (eb : b ≡ no_base_of T t r.kind r.c) where
  pub record_base : b ≡ true → Err 34 ≡ broken_of (record_rules T t r n s)
  unfolding broken_of class_of first_of record_rules
  record_base q = rw (← eb, q)

  module _ (base : b ≡ false) where
    pub record_first : (r.a ≡ n → ⊥) → Err 35 ≡ broken_of (record_rules T t r n s)
    unfolding broken_of class_of first_of record_rules
    record_first h = rw (← eb, base, ne_eqb r.a n h)

    module _ (first : r.a ≡ n) where
      pub record_empty : r.e ≡ 0 → Err 37 ≡ broken_of (record_rules T t r n s)
      unfolding broken_of class_of first_of record_rules
      record_empty z = rw (← eb, base, eq-eqb r.a n first, eq-eqb r.e 0 z)

      module _ (some : r.e ≡ 0 → ⊥) where
        pub record_long : 255 < r.e → Err 37 ≡ broken_of (record_rules T t r n s)
        unfolding broken_of class_of first_of record_rules
        record_long h = rw (← eb, base, eq-eqb r.a n first, ne_eqb r.e 0 some, lt-ltb 255 r.e h)

        module _ (short : r.e ≤ 255) (k : ℕ) (ek : k ≡ names T) where
          pub record_outside : k < r.d + r.e → Err 37 ≡ broken_of (record_rules T t r n s)
          unfolding broken_of class_of first_of record_rules
          record_outside h = rw (← eb, base, eq-eqb r.a n first, ne_eqb r.e 0 some, le-ltb 255 r.e short, ← ek, lt-ltb k (r.d + r.e) h)

          module _ (within : r.d + r.e ≤ k) (a : Bool) (ea : a ≡ s) where
            pub record_alike : a ≡ true → Err 37 ≡ broken_of (record_rules T t r n s)
            unfolding broken_of class_of first_of record_rules
            record_alike q = rw (← eb, base, eq-eqb r.a n first, ne_eqb r.e 0 some, le-ltb 255 r.e short, ← ek, le-ltb k (r.d + r.e) within, ← ea, q)

            module _ (new : a ≡ false) (u : Bool) (eu : u ≡ is_utf8 (name_of T t)) where
              pub record_other : u ≡ false → Err 37 ≡ broken_of (record_rules T t r n s)
              unfolding broken_of class_of first_of record_rules
              record_other q =
                  rw (← eb, base, eq-eqb r.a n first, ne_eqb r.e 0 some, le-ltb 255 r.e short, ← ek, le-ltb k (r.d + r.e) within, ← ea, new, ← eu, q)

              pub record_fine : u ≡ true → Ok tt ≡ broken_of (record_rules T t r n s)
              unfolding broken_of class_of first_of record_rules
              record_fine q =
                  rw (← eb, base, eq-eqb r.a n first, ne_eqb r.e 0 some, le-ltb 255 r.e short, ← ek, le-ltb k (r.d + r.e) within, ← ea, new, ← eu, q)

module _ (T : List ℕ) (t : ℕ) (r : TypeRow) (n : ℕ) (c : Result Unit ℕ) (s : Bool) where
  pub kind_enum : r.kind ≡ 8 → c ≡ broken_of (enum_rules r) → c ≡ broken_of (kind_rules T t r n s)
  unfolding kind_rules enum_rules
  kind_enum e h = rw e h

  pub kind_struct : r.kind ≡ 9 → c ≡ broken_of (struct_rules r n) → c ≡ broken_of (kind_rules T t r n s)
  unfolding kind_rules struct_rules
  kind_struct e h = rw e h

  pub kind_seq : r.kind ≡ 10 → c ≡ broken_of (seq_rules T t r) → c ≡ broken_of (kind_rules T t r n s)
  unfolding kind_rules seq_rules
  kind_seq e h = rw e h

  pub kind_dict : r.kind ≡ 11 → c ≡ broken_of (dict_rules T t r) → c ≡ broken_of (kind_rules T t r n s)
  unfolding kind_rules dict_rules
  kind_dict e h = rw e h

  pub kind_list : r.kind ≡ 15 → c ≡ broken_of (list_rules r n) → c ≡ broken_of (kind_rules T t r n s)
  unfolding kind_rules list_rules
  kind_list e h = rw e h

  module _ (e8 : r.kind ≡ 8 → ⊥) (e9 : r.kind ≡ 9 → ⊥) (e10 : r.kind ≡ 10 → ⊥) (e11 : r.kind ≡ 11 → ⊥) (b : Bool) (eb : b ≡ is_record r.kind) where
    pub kind_record : b ≡ true → c ≡ broken_of (record_rules T t r n s) → c ≡ broken_of (kind_rules T t r n s)
    unfolding kind_rules
    kind_record q h = rw (ne_eqb r.kind 8 e8, ne_eqb r.kind 9 e9, ne_eqb r.kind 10 e10, ne_eqb r.kind 11 e11, sym eb ∙ q) h

module _ (T : List ℕ) (t : ℕ) (r : TypeRow) (n : ℕ) (s : Bool) where
  module _ (e8 : r.kind ≡ 8 → ⊥) (e9 : r.kind ≡ 9 → ⊥) (e10 : r.kind ≡ 10 → ⊥) (e11 : r.kind ≡ 11 → ⊥) (b : Bool) (eb : b ≡ is_record r.kind) where
    pub kind_plain : b ≡ false → (r.kind ≡ 15 → ⊥) → Ok tt ≡ broken_of (kind_rules T t r n s)
    unfolding kind_rules broken_of class_of first_of
    kind_plain q e = rw (ne_eqb r.kind 8 e8, ne_eqb r.kind 9 e9, ne_eqb r.kind 10 e10, ne_eqb r.kind 11 e11, sym eb ∙ q, ne_eqb r.kind 15 e)

module _ (T : List ℕ) (t : ℕ) (r : TypeRow) (n : ℕ) (s : Bool) where
  pub row_spare : (r.spare ≡ 0 → ⊥) → Err 32 ≡ broken_of (row_rules T t r n s)
  unfolding broken_of class_of first_of row_rules
  row_spare h = rw (ne_eqb r.spare 0 h)

  module _ (spare : r.spare ≡ 0) (u : Bool) (eu : u ≡ is_set_from r (used T r.kind)) where
    pub row_unused : u ≡ true → Err 32 ≡ broken_of (row_rules T t r n s)
    unfolding broken_of class_of first_of row_rules
    row_unused q = rw (eq-eqb r.spare 0 spare, ← eu, q)

    module _ (none : u ≡ false) where
      pub row_unknown : 15 < r.kind → Err 33 ≡ broken_of (row_rules T t r n s)
      unfolding broken_of class_of first_of row_rules
      row_unknown h = rw (eq-eqb r.spare 0 spare, ← eu, none, lt-ltb 15 r.kind h)

      pub row_known : r.kind ≤ 15 → (c : Result Unit ℕ) → c ≡ broken_of (kind_rules T t r n s) → c ≡ broken_of (row_rules T t r n s)
      unfolding broken_of class_of first_of row_rules
      row_known h c e = e ∙ sym (rw (eq-eqb r.spare 0 spare, ← eu, none, le-ltb 15 r.kind h))

-- ---- the member rows that rows take

module _ (r : TypeRow) (b : Bool) (eb : b ≡ owns r.kind) where
  pub share_own : b ≡ true → r.b ≡ share r
  unfolding share
  share_own q = rw (sym eb ∙ q)

  pub share_none : b ≡ false → 0 ≡ share r
  unfolding share
  share_none q = rw (sym eb ∙ q)

pub record Sum (T : List ℕ) (t sum : ℕ) : Type 0 where
  pub so_far : sum ≡ taken T t
  pub bound : sum ≤ 65535 * t

pub sum_begin : (T : List ℕ) → Sum T 0 0
unfolding taken taken_by
sum_begin T = record { so_far = refl; bound = omega arith }

pub sum_next : (T : List ℕ) (t sum s : ℕ) → Sum T t sum → s ≡ share (type_row_of T t) → s < 65536 → Sum T (t + 1) (sum + s)
unfolding taken taken_by share
sum_next T t sum s inv e h = record { so_far = rw (add-one, inv.so_far, e); bound = omega (arith, inv.bound) }

-- ---- basic rows

module _ (T : List ℕ) (t a e : ℕ) (ea : a ≡ row_at T t) (ee : e ≡ row_at T (t + 1)) (n : ℕ) (en : n ≡ at (take (e - a) (drop a T)) 4 0) where
  first_is : n ≡ at T 4 (row_at T t)
  first_is = en ∙ (row_shows T t a e ea ee).same 4 0 (omega arith) ∙ rw add-zero

  pub basic_other : 8 ≤ n → false ≡ is_basic T t
  unfolding is_basic
  basic_other h = rw (← first_is, le-ltb n 8 h)

  pub basic_rest : n < 8 → (v : ℕ) → v ≡ at (take (e - a) (drop a T)) 8 4 → eqb v 0 ≡ is_basic T t
  unfolding is_basic
  basic_rest h v ev = rw (← first_is, lt-ltb n 8 h) (ap (λ (z : ℕ). eqb z 0) (ev ∙ (row_shows T t a e ea ee).same 8 4 (omega arith)))

-- a number that is 0 begins with a short that is 0, and so does what comes after it
zero_parts : (T : List ℕ) (k p : ℕ) → at T (2 + k) p ≡ 0 → (at T 2 p ≡ 0) × (at T k (p + 2) ≡ 0)
zero_parts T k p h = (omega (arith, at_split T 2 k p), omega (arith, at_split T 2 k p))

-- a kind below 9 takes no member rows
low_owns : (k : ℕ) → k < 9 → owns k ≡ false
low_owns k h = rw (ne_eqb k 9 (λ e. omega arith), ne_eqb k 13 (λ e. omega arith), ne_eqb k 14 (λ e. omega arith), ne_eqb k 15 (λ e. omega arith))

module _ (T : List ℕ) (t : ℕ) (basic : is_basic T t ≡ true) where
  basic_tests : (at T 4 (row_at T t) < 8) × (at T 8 (row_at T t + 4) ≡ 0)
  unfolding is_basic
  basic_tests = let b = both_true (ltb (at T 4 (row_at T t)) 8) _ basic in (ltb-true _ _ b.0, eqb-true _ _ b.1)

  pub basic_kind : kind T t < 8
  unfolding kind
  basic_kind = omega (arith, at_split T 2 2 (row_at T t), at_split T 1 1 (row_at T t), basic_tests.0)

  basic_spare : spare T t ≡ 0
  unfolding spare
  basic_spare = omega (arith, at_split T 2 2 (row_at T t), at_split T 1 1 (row_at T t), basic_tests.0)

  basic_field : (i p : ℕ) → row_at T t + field_at i ≡ p → at T 2 p ≡ 0 → field T t i ≡ 0
  unfolding field
  basic_field i p e h = ap (at T 2) e ∙ h

  basic_clear : false ≡ is_set_from (type_row_of T t) 0
  unfolding is_set_from any
  basic_clear =
      let p = row_at T t in
      let a : at T 2 (p + 2) ≡ 0 = omega (arith, at_split T 2 2 p, basic_tests.0) in
      let b = zero_parts T 6 (p + 4) basic_tests.1 in
      let c = zero_parts T 4 (p + 4 + 2) b.1 in
      let d = zero_parts T 2 (p + 4 + 2 + 2) c.1 in
      rw (basic_field 0 _ (omega arith) a, basic_field 1 _ (omega arith) b.0, basic_field 2 _ (omega arith) c.0, basic_field 3 _ (omega arith) d.0, basic_field 4 _ (omega arith) d.1)

  basic_plain : is_record (kind T t) ≡ false
  basic_plain =
      let z = either_false (eqb (kind T t) 9) _ (low_owns (kind T t) (omega (arith, basic_kind))) in
      (either_false (is_record (kind T t)) _ z.1).0

  basic_rules : Ok tt ≡ broken_of (type_rules T t)
  unfolding broken_of
  basic_rules =
      let l = basic_kind in
      let r = type_row_of T t in
      row_known T t r (taken T t) (alike T t) basic_spare false (unused_low T r (kind T t) false l basic_clear) refl (omega arith) (Ok tt)
      (kind_plain T t r (taken T t) (alike T t) (λ e. omega arith) (λ e. omega arith) (λ e. omega arith) (λ e. omega arith) (is_record (kind T t)) refl basic_plain (λ e. omega arith))
      ∙ ap class_of (row_rules_lem T t)

  basic_share : 0 ≡ share (type_row_of T t)
  basic_share = share_none (type_row_of T t) (owns (kind T t)) refl (low_owns (kind T t) (omega (arith, basic_kind)))

-- ---- a pass

-- a class at its place
placed_at : (p c : ℕ) → placed p (class_of c) ≡ finding_of (fault_at p c)
unfolding placed class_of finding_of fault_at
placed_at p zero = refl
placed_at p (suc c) = refl

or_finding : (f g : Fault) (u : Unit) → finding_of f ≡ Ok u → finding_of (or_else f g) ≡ finding_of g
unfolding finding_of or_else
or_finding fine g u e = refl
or_finding (fault c p) g u e = let z : ◌≡◌ {A = ℕ} 0 1 = cc in absurd (omega arith)

or_broken : (f g : Fault) (x : Refusal) → finding_of f ≡ Err x → finding_of (or_else f g) ≡ Err x
unfolding finding_of or_else
or_broken fine g x e = let z : ◌≡◌ {A = ℕ} 0 1 = cc in absurd (omega arith)
or_broken (fault k q) g x e = e

pub is_fine : (f : Fault) (u : Unit) → finding_of f ≡ Ok u → f ≡ fine
unfolding finding_of
is_fine fine u e = refl
is_fine (fault c p) u e = let z : ◌≡◌ {A = ℕ} 0 1 = cc in absurd (omega arith)

module _ (place : ℕ → ℕ) (f : ℕ → List (ℕ × Bool)) (r : ℕ) (l : List ℕ) (v : Result Unit Refusal) (e : v ≡ placed (place r) (broken_of (f r))) where
  row_finding : finding_of (fault_at (place r) (first_of (f r))) ≡ v
  unfolding broken_of
  row_finding = sym (e ∙ placed_at (place r) (first_of (f r)))

  pass_fault : (x : Refusal) → v ≡ Err x → finding_of (pass place f (r ∷ l)) ≡ Err x
  unfolding pass
  pass_fault x q = or_broken (fault_at (place r) (first_of (f r))) (pass place f l) x (row_finding ∙ q)

  pass_next : (u : Unit) → v ≡ Ok u → finding_of (pass place f (r ∷ l)) ≡ finding_of (pass place f l)
  unfolding pass
  pass_next u q = or_finding (fault_at (place r) (first_of (f r))) (pass place f l) u (row_finding ∙ q)

-- over the type rows, and the member sum
pub record Types (T : List ℕ) (n t prior from : ℕ) : Type 0 where
  pub within : t ≤ n
  pub few : n < 65536
  pub sum : Sum T t prior
  pub plain : Plain T t from
  pub rest : finding_of (type_pass T) ≡ finding_of (pass (row_at T) (type_rules T) (range t (n - t)))

pub types_begin : (T : List ℕ) → ((i : ℕ) → get_or T i 0 < 256) → (n : ℕ) → n ≡ types T → Types T n 0 0 0
unfolding type_pass types
types_begin T small n e = let z : n - 0 ≡ types T = omega arith in record { within = omega arith; few = omega (arith, at_below T small 2 5); sum = sum_begin T; plain = plain_begin T; rest = rw z }

module _ (T : List ℕ) (n t prior from : ℕ) (inv : Types T n t prior from) where
  module _ (e : n ≡ types T) (h : n ≤ t) (v : Result Unit Refusal) (ev : v ≡ finding_of (allowed_pass T)) where
    past_rows : finding_of (rows_pass T) ≡ finding_of (or_else (allowed_pass T) (sum_rules T))
    unfolding rows_pass finding_of pass
    past_rows = or_finding (type_pass T) _ tt (inv.rest ∙ rw (range_none t n h))

    pub types_lists : (x : Refusal) → v ≡ Err x → Err x ≡ finding_of (rows_pass T)
    types_lists x q = sym (past_rows ∙ or_broken (allowed_pass T) (sum_rules T) x (sym ev ∙ q))

    module _ (u : Unit) (q : v ≡ Ok u) (m : ℕ) (em : m ≡ members T) where
      past_lists : finding_of (rows_pass T) ≡ finding_of (sum_rules T)
      past_lists = past_rows ∙ or_finding (allowed_pass T) (sum_rules T) u (sym ev ∙ q)

      sum_is : prior ≡ taken T (types T)
      sum_is = let z : t ≡ types T = omega (arith, inv.within) in inv.sum.so_far ∙ ap (taken T) z

      pub types_sum : (prior ≡ m → ⊥) → refused 35 0 ≡ finding_of (rows_pass T)
      unfolding sum_rules fault_at finding_of
      types_sum z = sym (past_lists ∙ rw (← sum_is, ← em, ne_eqb prior m z))

      pub types_end : prior ≡ m → Ok tt ≡ finding_of (rows_pass T)
      unfolding sum_rules fault_at finding_of
      types_end z = sym (past_lists ∙ rw (← sum_is, ← em, eq-eqb prior m z))

  pub types_basic : t < n → (b : Bool) → b ≡ is_basic T t → b ≡ true → (f : ℕ) → f ≡ past from t true → Types T n (t + 1) prior f
  unfolding placed
  types_basic h b e q f ef =
      let basic = sym e ∙ q in
      record {
        within = omega arith;
        few = inv.few;
        sum = rw add-zero at (sum_next T t prior 0 inv.sum (basic_share T t basic) (omega arith));
        plain = rw ef (plain_next T t from inv.plain true (λ y. basic_plain T t basic));
        rest = inv.rest ∙ rw (range_more t n h) (pass_next (row_at T) (type_rules T) t (range (t + 1) (n - (t + 1))) (Ok tt) (ap (placed (row_at T t)) (basic_rules T t basic)) tt refl);
      }

  module _ (h : t < n) (r : TypeRow) (er : IsTypeRow T t r) (p : ℕ) (ep : p ≡ row_at T t) (c : Result Unit ℕ) (e : c ≡ broken_of (row_rules T t r prior (alike_from T from t))) (v : Result Unit Refusal) (ev : v ≡ placed p c) where
    types_row : v ≡ placed (row_at T t) (broken_of (type_rules T t))
    unfolding broken_of
    types_row =
        ev ∙ ap₂ placed ep
        (e ∙ ap₂ (λ (z : TypeRow) (y : ℕ). broken_of (row_rules T t z y (alike_from T from t))) (whole_type T t r er) inv.sum.so_far
        ∙ ap (λ (b : Bool). broken_of (row_rules T t (type_row_of T t) (taken T t) b)) (alike_from_lem T t from inv.plain) ∙ ap class_of (row_rules_lem T t))

    pub types_fault : (x : Refusal) → v ≡ Err x → Err x ≡ finding_of (rows_pass T)
    unfolding rows_pass
    types_fault x q = sym (or_broken (type_pass T) _ x (inv.rest ∙ rw (range_more t n h) (pass_fault (row_at T) (type_rules T) t (range (t + 1) (n - (t + 1))) v types_row x q)))

    pub types_next : (u : Unit) → v ≡ Ok u → (s : ℕ) → s ≡ share r → s ≤ r.b → (b : Bool) → b ≡ is_record r.kind → (f : ℕ) → f ≡ past from t (not b) → Types T n (t + 1) (prior + s) f
    types_next u q s es hs b eb f ef = record {
      within = omega arith;
      few = inv.few;
      sum = sum_next T t prior s inv.sum (es ∙ ap share (whole_type T t r er)) (omega (arith, er.b_small));
      plain = rw ef (plain_next T t from inv.plain (not b) (λ q. sym (eb ∙ ap is_record er.kind_is) ∙ not-true b q));
      rest = inv.rest ∙ rw (range_more t n h) (pass_next (row_at T) (type_rules T) t (range (t + 1) (n - (t + 1))) v types_row u q);
    }

-- ---- lists

-- the loop over the entries of a list: what is left rises from the last entry
pub record Rise (T : List ℕ) (c d g last i : ℕ) : Type 0 where
  pub within : i ≤ d
  pub rest : rises_to g (map (list_entry T) (range c d)) ≡ rises_to g (last ∷ map (list_entry T) (range (c + i) (d - i)))

module _ (T : List ℕ) (c d g : ℕ) where
  pub rise_none : d ≡ 0 → false ≡ rises_to g (map (list_entry T) (range c d))
  unfolding rises_to range
  rise_none z = rw z

  pub rise_begin : (d ≡ 0 → ⊥) → (x : ℕ) → x ≡ list_entry T c → Rise T c d g x 1
  rise_begin some x ex = record { within = omega (arith, some); rest = rw (range_left c d (omega (arith, some)), ex) }

  module _ (last i : ℕ) (inv : Rise T c d g last i) where
    pub rise_end : d ≤ i → eqb last g ≡ rises_to g (map (list_entry T) (range c d))
    unfolding rises_to
    rise_end h = sym (inv.rest ∙ rw (range_empty (c + i) (d - i) (omega arith)))

    module _ (h : i < d) (x : ℕ) (ex : x ≡ list_entry T (c + i)) where
      turn : range (c + i) (d - i) ≡ (c + i) ∷ range (c + (i + 1)) (d - (i + 1))
      turn =
          let y : c + i + 1 ≡ c + (i + 1) = omega arith in
          let z : d - i - 1 ≡ d - (i + 1) = omega arith in
          range_left (c + i) (d - i) (omega arith) ∙ rw (y, z)

      pub rise_stop : x ≤ last → false ≡ rises_to g (map (list_entry T) (range c d))
      unfolding rises_to
      rise_stop l = sym (inv.rest ∙ rw (turn, ← ex, le-ltb last x l))

      pub rise_next : last < x → Rise T c d g x (i + 1)
      unfolding rises_to
      rise_next l = record { within = omega arith; rest = inv.rest ∙ rw (turn, ← ex, lt-ltb last x l) (rw ex) }

-- the rules of a list
module _ (T : List ℕ) (all : ℕ) (r : TypeRow) (n : ℕ) where
  pub allowed_other : (r.kind ≡ 8 → ⊥) → Ok tt ≡ broken_of (allowed_rules_by T all r n)
  unfolding broken_of class_of first_of allowed_rules_by
  allowed_other h = rw (ne_eqb r.kind 8 h)

  module _ (e8 : r.kind ≡ 8) where
    pub allowed_first : (r.c ≡ n → ⊥) → Err 39 ≡ broken_of (allowed_rules_by T all r n)
    unfolding broken_of class_of first_of allowed_rules_by
    allowed_first h = rw (eq-eqb r.kind 8 e8, ne_eqb r.c n h)

    module _ (first : r.c ≡ n) where
      pub allowed_outside : all < r.c + r.d → Err 39 ≡ broken_of (allowed_rules_by T all r n)
      unfolding broken_of class_of first_of allowed_rules_by
      allowed_outside h = rw (eq-eqb r.kind 8 e8, eq-eqb r.c n first, lt-ltb _ _ h)

      module _ (inside : r.c + r.d ≤ all) (g : ℕ) (eg : g ≡ greatest_of r) (b : Bool) (eb : b ≡ rises_to g (map (list_entry T) (range r.c r.d))) where
        pub allowed_falls : not b ≡ true → Err 39 ≡ broken_of (allowed_rules_by T all r n)
        unfolding broken_of class_of first_of allowed_rules_by
        allowed_falls q = rw (eq-eqb r.kind 8 e8, eq-eqb r.c n first, le-ltb _ _ inside, ← eg, ← eb, q)

        pub allowed_fine : not b ≡ false → Ok tt ≡ broken_of (allowed_rules_by T all r n)
        unfolding broken_of class_of first_of allowed_rules_by
        allowed_fine q = rw (eq-eqb r.kind 8 e8, eq-eqb r.c n first, le-ltb _ _ inside, ← eg, ← eb, q)

module _ (r : TypeRow) where
  pub count_enum : r.kind ≡ 8 → r.d ≡ entry_count r
  unfolding entry_count
  count_enum e = rw (eq-eqb r.kind 8 e)

  pub count_other : (r.kind ≡ 8 → ⊥) → 0 ≡ entry_count r
  unfolding entry_count
  count_other h = rw (ne_eqb r.kind 8 h)

-- over the rows, and the entries left over
pub record Lists (T : List ℕ) (n t prior : ℕ) : Type 0 where
  pub within : t ≤ n
  pub few : n < 65536
  pub so_far : prior ≡ entries_taken T t
  pub bound : prior ≤ 65535 * t
  pub rest : finding_of (pass (row_at T) (allowed_rules T) (range 0 (types T))) ≡ finding_of (pass (row_at T) (allowed_rules T) (range t (n - t)))

pub lists_begin : (T : List ℕ) → ((i : ℕ) → get_or T i 0 < 256) → (n : ℕ) → n ≡ types T → Lists T n 0 0
unfolding types entries_taken taken_by
lists_begin T small n e = let z : n - 0 ≡ types T = omega arith in record { within = omega arith; few = omega (arith, at_below T small 2 5); so_far = refl; bound = omega arith; rest = rw z }

module _ (T : List ℕ) (n t prior : ℕ) (inv : Lists T n t prior) where
  module _ (e : n ≡ types T) (h : n ≤ t) (all : ℕ) (ea : all ≡ entries T) where
    past_all : finding_of (allowed_pass T) ≡ finding_of (entries_rules T)
    unfolding allowed_pass finding_of pass
    past_all = or_finding _ (entries_rules T) tt (inv.rest ∙ rw (range_none t n h))

    taken_is : prior ≡ entries_taken T (types T)
    taken_is = let z : t ≡ types T = omega (arith, inv.within) in inv.so_far ∙ ap (entries_taken T) z

    pub lists_left : (prior ≡ all → ⊥) → refused 39 0 ≡ finding_of (allowed_pass T)
    unfolding entries_rules fault_at finding_of
    lists_left z = sym (past_all ∙ rw (← taken_is, ← ea, ne_eqb prior all z))

    pub lists_end : prior ≡ all → Ok tt ≡ finding_of (allowed_pass T)
    unfolding entries_rules fault_at finding_of
    lists_end z = sym (past_all ∙ rw (← taken_is, ← ea, eq-eqb prior all z))

  module _ (lists : with_lists T ≡ true) (h : t < n) (r : TypeRow) (er : IsTypeRow T t r) (p : ℕ) (ep : p ≡ row_at T t) (all : ℕ) (ea : all ≡ entries T) (c : Result Unit ℕ) (e : c ≡ broken_of (allowed_rules_by T all r prior)) (v : Result Unit Refusal) (ev : v ≡ placed p c) where
    list_row : v ≡ placed (row_at T t) (broken_of (allowed_rules T t))
    unfolding broken_of
    list_row =
        ev ∙ ap₂ placed ep
        (e ∙ ap (λ (z : TypeRow). broken_of (allowed_rules_by T all z prior)) (whole_type T t r er)
        ∙ ap₂ (λ (y z : ℕ). broken_of (allowed_rules_by T y (type_row_of T t) z)) ea inv.so_far ∙ ap class_of (allowed_rules_lem T lists t))

    pub lists_fault : (x : Refusal) → v ≡ Err x → Err x ≡ finding_of (allowed_pass T)
    unfolding allowed_pass
    lists_fault x q = sym (or_broken _ (entries_rules T) x (inv.rest ∙ rw (range_more t n h) (pass_fault (row_at T) (allowed_rules T) t (range (t + 1) (n - (t + 1))) v list_row x q)))

    pub lists_next : (u : Unit) → v ≡ Ok u → (s : ℕ) → s ≡ entry_count r → s ≤ r.d → Lists T n (t + 1) (prior + s)
    unfolding entries_taken taken_by has_list entry_count
    lists_next u q s es hs = record {
      within = omega arith;
      few = inv.few;
      so_far = rw (add-one, inv.so_far, lists, es ∙ ap entry_count (whole_type T t r er));
      bound = omega (arith, inv.bound, er.d_small);
      rest = inv.rest ∙ rw (range_more t n h) (pass_next (row_at T) (allowed_rules T) t (range (t + 1) (n - (t + 1))) v list_row u q);
    }

-- a table without lists has none of these faults
module _ (T : List ℕ) (none : with_lists T ≡ false) where
  no_list : (t : ℕ) → Ok tt ≡ broken_of (allowed_rules T t)
  unfolding broken_of class_of first_of allowed_rules has_list
  no_list t = rw none

  no_lists : (k i : ℕ) → finding_of (pass (row_at T) (allowed_rules T) (range i k)) ≡ Ok tt
  unfolding finding_of pass range placed
  no_lists zero i = refl
  no_lists (suc k) i = pass_next (row_at T) (allowed_rules T) i (range (suc i) k) (Ok tt) (ap (placed (row_at T i)) (no_list i)) tt refl ∙ no_lists k (suc i)

  none_taken : (n : ℕ) → entries_taken T n ≡ 0
  unfolding entries_taken taken_by has_list
  none_taken zero = refl
  none_taken (suc n) = rw (none, none_taken n)

pub lists_without : (T : List ℕ) (b : Bool) → b ≡ with_lists T → b ≡ false → Ok tt ≡ finding_of (allowed_pass T)
unfolding allowed_pass entries_rules entries fault_at finding_of
lists_without T b eb q = let none = sym eb ∙ q in sym (or_finding _ (entries_rules T) tt (no_lists T none (types T) 0) ∙ rw (none_taken T none (types T), none))

-- ---- member rows

module _ (T : List ℕ) (g i : ℕ) (r : MemberRow) (er : IsMemberRow T i r) where
  pub tagged_is : r.mark ≡ 1 → eqb r.tag g ≡ is_optional_of T g i
  tagged_is e = rw (eq-eqb (mark T i) 1 (sym er.mark_is ∙ e), er.tag_is)

  pub tagged_not : (r.mark ≡ 1 → ⊥) → false ≡ is_optional_of T g i
  tagged_not h = rw (ne_eqb (mark T i) 1 (λ q. h (er.mark_is ∙ q)))

pub record Tags (T : List ℕ) (first m g i : ℕ) : Type 0 where
  pub rest : is_tag_before T first m g ≡ any (is_optional_of T g) (range i (m - i))

pub tags_begin : (T : List ℕ) (first m g : ℕ) → Tags T first m g first
unfolding is_tag_before
tags_begin T first m g = record { rest = refl }

module _ (T : List ℕ) (first m g i : ℕ) (inv : Tags T first m g i) where
  module _ (h : i < m) (b : Bool) (e : b ≡ is_optional_of T g i) where
    pub tags_here : b ≡ true → true ≡ is_tag_before T first m g
    tags_here q = sym (inv.rest ∙ any_here (is_optional_of T g) i m h (sym e ∙ q))

    pub tags_next : b ≡ false → Tags T first m g (i + 1)
    tags_next q = record { rest = inv.rest ∙ any_next (is_optional_of T g) i m h (sym e ∙ q) }

  pub tags_end : m ≤ i → false ≡ is_tag_before T first m g
  tags_end h = sym (inv.rest ∙ any_none (is_optional_of T g) i m h)

module _ (T : List ℕ) (first m above g : ℕ) where
  pub alike_above : above ≤ g → false ≡ is_tag_alike T first m above g
  unfolding is_tag_alike
  alike_above h = rw (le-ltb g above h)

  pub alike_below : g < above → (b : Bool) → b ≡ is_tag_before T first m g → b ≡ is_tag_alike T first m above g
  unfolding is_tag_alike
  alike_below h b e = rw (lt-ltb g above h) e

-- the rules of a member row
module _ (T : List ℕ) (o : ℕ) (r : MemberRow) where
  pub required_tag : (r.tag ≡ 0 → ⊥) → Err 32 ≡ broken_of (required_rules T o r)
  unfolding broken_of class_of first_of required_rules
  required_tag h = rw (ne_eqb r.tag 0 h)

  module _ (zero-tag : r.tag ≡ 0) (b : Bool) (eb : b ≡ no_part T o r.of) where
    pub required_part : b ≡ true → Err 34 ≡ broken_of (required_rules T o r)
    unfolding broken_of class_of first_of required_rules
    required_part q = rw (eq-eqb r.tag 0 zero-tag, ← eb, q)

    pub required_fine : b ≡ false → Ok tt ≡ broken_of (required_rules T o r)
    unfolding broken_of class_of first_of required_rules
    required_fine q = rw (eq-eqb r.tag 0 zero-tag, ← eb, q)

module _ (T : List ℕ) (o : ℕ) (own : TypeRow) (r : MemberRow) (b : Bool) (eb : b ≡ no_part T o r.of) (s : Bool) where
  pub optional_part : b ≡ true → Err 34 ≡ broken_of (optional_rules T o own r s)
  unfolding broken_of class_of first_of optional_rules
  optional_part q = rw (← eb, q)

  module _ (part : b ≡ false) where
    pub optional_mark : 1 < r.mark → Err 36 ≡ broken_of (optional_rules T o own r s)
    unfolding broken_of class_of first_of optional_rules
    optional_mark h = rw (← eb, part, lt-ltb 1 r.mark h)

    module _ (marked : r.mark ≤ 1) where
      pub optional_struct : own.kind ≡ 9 → Err 36 ≡ broken_of (optional_rules T o own r s)
      unfolding broken_of class_of first_of optional_rules
      optional_struct h = rw (← eb, part, le-ltb 1 r.mark marked, eq-eqb own.kind 9 h)

      module _ (other : own.kind ≡ 9 → ⊥) where
        pub optional_great : 2147483648 ≤ r.tag → Err 38 ≡ broken_of (optional_rules T o own r s)
        unfolding broken_of class_of first_of optional_rules negative
        optional_great h = rw (← eb, part, le-ltb 1 r.mark marked, ne_eqb own.kind 9 other, le-leb (2 ^ 31) r.tag h)

        module _ (small : r.tag < 2147483648) (t : Bool) (et : t ≡ s) where
          pub optional_alike : t ≡ true → Err 38 ≡ broken_of (optional_rules T o own r s)
          unfolding broken_of class_of first_of optional_rules negative
          optional_alike q = rw (← eb, part, le-ltb 1 r.mark marked, ne_eqb own.kind 9 other, lt-leb (2 ^ 31) r.tag small, ← et, q)

          pub optional_fine : t ≡ false → Ok tt ≡ broken_of (optional_rules T o own r s)
          unfolding broken_of class_of first_of optional_rules negative
          optional_fine q = rw (← eb, part, le-ltb 1 r.mark marked, ne_eqb own.kind 9 other, lt-leb (2 ^ 31) r.tag small, ← et, q)

module _ (T : List ℕ) (o : ℕ) (own : TypeRow) (r : MemberRow) (s : Bool) where
  pub member_spare_lem : (r.spare ≡ 0 → ⊥) → Err 32 ≡ broken_of (member_rules_by T o own r s)
  unfolding broken_of class_of first_of member_rules_by
  member_spare_lem h = rw (ne_eqb r.spare 0 h)

  module _ (spare : r.spare ≡ 0) (c : Result Unit ℕ) where
    pub member_required : r.mark ≡ 0 → c ≡ broken_of (required_rules T o r) → c ≡ broken_of (member_rules_by T o own r s)
    unfolding broken_of class_of first_of member_rules_by
    member_required h e = e ∙ sym (rw (eq-eqb r.spare 0 spare, eq-eqb r.mark 0 h))

    pub member_optional : (r.mark ≡ 0 → ⊥) → c ≡ broken_of (optional_rules T o own r s) → c ≡ broken_of (member_rules_by T o own r s)
    unfolding broken_of class_of first_of member_rules_by
    member_optional h e = e ∙ sym (rw (eq-eqb r.spare 0 spare, ne_eqb r.mark 0 h))

-- over the members of one owner up to member row `end`; the tags before m are below `above`
pub record Owner (T : List ℕ) (o : ℕ) (own : TypeRow) (end m above : ℕ) : Type 0 where
  pub bytes : (i : ℕ) → get_or T i 0 < 256
  pub own_is : IsTypeRow T o own
  pub below : (i : ℕ) → field T o 0 ≤ i → i < m → tag T i < above
  pub rest : finding_of (owner_pass T o) ≡ finding_of (pass (member_at T) (member_rules_of T o) (range m (end - m)))

-- none taken; some that are not there; the loop begins
module _ (T : List ℕ) (o count : ℕ) (own : TypeRow) (eo : IsTypeRow T o own) (el : count ≡ share own) where
  count_is : count ≡ share (type_row_of T o)
  count_is = el ∙ ap share (whole_type T o own eo)

  pub owner_none : count ≡ 0 → Ok tt ≡ finding_of (owner_pass T o)
  unfolding owner_pass finding_of pass range
  owner_none z = rw (← count_is, z)

  pub owner_short : (count ≡ 0 → ⊥) → (k : ℕ) → k ≡ members T → k < own.a + count → MembersThere T o → refused 35 0 ≡ finding_of (owner_pass T o)
  owner_short z k ek h all = absurd (omega (arith, all.there (omega (arith, count_is)), count_is, eo.a_is))

  pub owner_begin : ((i : ℕ) → get_or T i 0 < 256) → Owner T o own (own.a + count) own.a 0
  unfolding owner_pass
  owner_begin small = record {
    bytes = small;
    own_is = eo;
    below = λ i l h. absurd (omega (arith, eo.a_is));
    rest = let z : own.a + count - own.a ≡ share (type_row_of T o) = omega (arith, count_is) in rw (z, eo.a_is);
  }

-- the tests of a usual row
module _ (x above : ℕ) (u : Bool) where
  pub usual_small : x < 65536 → true ≡ is_usual x u above
  unfolding is_usual
  usual_small h = rw (lt-ltb x 65536 h)

  module _ (great : 65536 ≤ x) where
    pub usual_struct : not u ≡ true → false ≡ is_usual x u above
    unfolding is_usual
    usual_struct q = rw (le-ltb x 65536 great, not-true u q)

    module _ (optional : not u ≡ false) where
      pub usual_mark : (x / 65536 % 65536 ≡ 1 → ⊥) → false ≡ is_usual x u above
      unfolding is_usual
      usual_mark h = rw (le-ltb x 65536 great, not-false u optional, ne_eqb (x / 65536 % 65536) 1 h)

      module _ (marked : x / 65536 % 65536 ≡ 1) where
        pub usual_below : x / 4294967296 < above → false ≡ is_usual x u above
        unfolding is_usual
        usual_below h = rw (le-ltb x 65536 great, not-false u optional, eq-eqb (x / 65536 % 65536) 1 marked, lt-leb above (x / 4294967296) h)

        pub usual_last : above ≤ x / 4294967296 → ltb (x / 4294967296) 2147483648 ≡ is_usual x u above
        unfolding is_usual
        usual_last h = rw (le-ltb x 65536 great, not-false u optional, eq-eqb (x / 65536 % 65536) 1 marked, le-leb above (x / 4294967296) h)

-- the eight bytes of a member row as one number: its fields, each below its bound
record Fields (r : MemberRow) (x : ℕ) : Type 0 where
  whole : x ≡ r.of + 65536 * r.mark + 16777216 * r.spare + 4294967296 * r.tag
  of_small : r.of < 65536
  mark_small : r.mark < 256
  spare_small : r.spare < 256

fields : (T : List ℕ) → ((i : ℕ) → get_or T i 0 < 256) → (m x : ℕ) → x ≡ at T 8 (member_at T m) → Fields (member_row_of T m) x
unfolding member_type mark member_spare tag
fields T small m x e =
    let p = member_at T m in
    let z : at T 1 (p + 2 + 1) ≡ at T 1 (p + 3) = ap (at T 1) (omega arith) in
    record {
      whole = omega (arith, at_split T 4 4 p, at_split T 2 2 p, at_split T 1 1 (p + 2));
      of_small = at_below T small 2 p;
      mark_small = at_below T small 1 (p + 2);
      spare_small = at_below T small 1 (p + 3);
    }

tag_of : (r : MemberRow) (x : ℕ) → Fields r x → x / 4294967296 ≡ r.tag
tag_of r x parts = omega (arith, parts.whole, parts.of_small, parts.mark_small, parts.spare_small)

-- its type, from the first two bytes
pub type_of : (T : List ℕ) → ((i : ℕ) → get_or T i 0 < 256) → (m x : ℕ) → x ≡ at T 8 (member_at T m) → x % 65536 ≡ member_type T m
type_of T small m x e = let parts = fields T small m x e in omega (arith, parts.whole, parts.of_small)

-- what its type, which is no part of the owner's or is one, leaves of its rules
abbrev part_class : Bool → Result Unit ℕ
part_class true = Err 34
part_class false = Ok tt

part_is : (b : Bool) → part_class b ≡ class_of (pick b 34 0)
unfolding class_of
part_is true = refl
part_is false = refl

-- a member row that is usual breaks no rule but perhaps that of its type
module _ (T : List ℕ) (o : ℕ) (own : TypeRow) (r : MemberRow) (x above : ℕ) (parts : Fields r x) (s : Bool) (new : above ≤ r.tag → s ≡ false) (b : Bool) (eb : b ≡ no_part T o r.of) where
  usual_required : x < 65536 → part_class b ≡ broken_of (member_rules_by T o own r s)
  unfolding broken_of class_of first_of required_rules
  usual_required h =
      let z : r.tag ≡ 0 = omega (arith, parts.whole) in
      member_required T o own r s (omega (arith, parts.whole)) (part_class b) (omega (arith, parts.whole)) (rw (eq-eqb r.tag 0 z, ← eb) (part_is b))

  usual_optional : (own.kind ≡ 9 → ⊥) → x / 65536 % 65536 ≡ 1 → above ≤ x / 4294967296 → x / 4294967296 < 2147483648 → part_class b ≡ broken_of (member_rules_by T o own r s)
  usual_optional other h l k =
      let g = tag_of r x parts in
      let z : r.mark + 256 * r.spare ≡ 1 = omega (arith, parts.whole, parts.of_small, parts.mark_small, parts.spare_small) in
      member_optional T o own r s (omega (arith, parts.mark_small)) (part_class b) (λ q. omega arith) (go b eb (omega arith) (omega arith) (new (omega arith)))
    where
      go : (b : Bool) → b ≡ no_part T o r.of → r.mark ≤ 1 → r.tag < 2147483648 → s ≡ false → part_class b ≡ broken_of (optional_rules T o own r s)
      go true e y w q = optional_part T o own r true e s refl
      go false e y w q = optional_fine T o own r false e s refl y other w s refl q

  usual_rules : (u : Bool) → u ≡ not (eqb own.kind 9) → is_usual x u above ≡ true → part_class b ≡ broken_of (member_rules_by T o own r s)
  unfolding is_usual
  usual_rules u eu h = go (ltb x 65536) refl h
    where
      go : (t : Bool) → ltb x 65536 ≡ t → t || (u && (eqb (x / 65536 % 65536) 1 && (leb above (x / 4294967296) && ltb (x / 4294967296) 2147483648))) ≡ true
          → part_class b ≡ broken_of (member_rules_by T o own r s)
      go true e q = usual_required (ltb-true _ _ e)
      go false e q =
          let a = both_true u _ q in
          let d = both_true (eqb (x / 65536 % 65536) 1) _ a.1 in
          let f = both_true (leb above (x / 4294967296)) _ d.1 in
          usual_optional (eqb-false _ _ (not-true _ (sym eu ∙ a.0))) (eqb-true _ _ d.0) (leb-true _ _ f.0) (ltb-true _ _ f.1)

module _ (T : List ℕ) (o : ℕ) (own : TypeRow) (end m above : ℕ) (inv : Owner T o own end m above) where
  pub owner_end : end ≤ m → Ok tt ≡ finding_of (owner_pass T o)
  unfolding finding_of pass
  owner_end h = sym (inv.rest ∙ rw (range_none m end h))

  -- a tag that is not below `above` is not among them
  tag_new : (g : ℕ) → above ≤ g → is_tag_before T (field T o 0) m g ≡ false
  unfolding is_tag_before
  tag_new g h = any_never (is_optional_of T g) (m - field T o 0) (field T o 0) other
    where
      other : (i : ℕ) → field T o 0 ≤ i → i < field T o 0 + (m - field T o 0) → is_optional_of T g i ≡ false
      other i l k =
          let z : tag T i ≡ g → ⊥ = λ q. omega (arith, inv.below i l (omega arith)) in
          rw (ne_eqb (tag T i) g z) (go (eqb (mark T i) 1))
        where
          go : (b : Bool) → b && false ≡ false
          go true = refl
          go false = refl

  tag_alike : (g : ℕ) → is_tag_alike T (field T o 0) m above g ≡ is_tag_before T (field T o 0) m g
  unfolding is_tag_alike
  tag_alike g = go (ltb g above) refl
    where
      go : (b : Bool) → ltb g above ≡ b → b && is_tag_before T (field T o 0) m g ≡ is_tag_before T (field T o 0) m g
      go true e = refl
      go false e = sym (tag_new g (ltb-false g above e))

  module _ (h : m < end) where
    -- a row of a class at its place
    module _ (v : Result Unit Refusal) (e : v ≡ placed (member_at T m) (broken_of (member_rules_of T o m))) where
      class_fault : (x : Refusal) → v ≡ Err x → Err x ≡ finding_of (owner_pass T o)
      class_fault x q = sym (inv.rest ∙ rw (range_more m end h) (pass_fault (member_at T) (member_rules_of T o) m (range (m + 1) (end - (m + 1))) v e x q))

      class_next : (u : Unit) → v ≡ Ok u → (a : ℕ) → a ≡ max above (tag T m + 1) → Owner T o own end (m + 1) a
      class_next u q a ea = record {
        bytes = inv.bytes;
        own_is = inv.own_is;
        below = λ i l k. ⊎_elim (λ z. omega (arith, ap (tag T) z)) (λ z. omega (arith, inv.below i l z)) (eq-or-lt_of_le {n = i} {m = m} (omega arith));
        rest = inv.rest ∙ rw (range_more m end h) (pass_next (member_at T) (member_rules_of T o) m (range (m + 1) (end - (m + 1))) v e u q);
      }

    -- a row read whole
    module _ (r : MemberRow) (er : IsMemberRow T m r) (c : Result Unit ℕ) (e : c ≡ broken_of (member_rules_by T o own r (is_tag_alike T own.a m above r.tag)))
        (p : ℕ) (ep : p ≡ member_at T m) (v : Result Unit Refusal) (ev : v ≡ placed p c) where
      owner_row : v ≡ placed (member_at T m) (broken_of (member_rules_of T o m))
      unfolding member_rules_of
      owner_row =
          ev ∙ ap₂ placed ep
          (e ∙ ap₂ (λ (y : TypeRow) (z : MemberRow). broken_of (member_rules_by T o y z (is_tag_alike T y.a m above z.tag))) (whole_type T o own inv.own_is) (whole_member T m r er)
          ∙ ap (λ (b : Bool). broken_of (member_rules_by T o (type_row_of T o) (member_row_of T m) b)) (tag_alike (tag T m)))

      pub owner_fault : (x : Refusal) → v ≡ Err x → Err x ≡ finding_of (owner_pass T o)
      owner_fault x q = class_fault v owner_row x q

      pub owner_next : (u : Unit) → v ≡ Ok u → (a : ℕ) → a ≡ max above (r.tag + 1) → Owner T o own end (m + 1) a
      owner_next u q a ea = class_next v owner_row u q a (ea ∙ ap (λ (g : ℕ). max above (g + 1)) er.tag_is)

    -- a row as one number, which is usual
    module _ (p x : ℕ) (ep : p ≡ member_at T m) (ex : x ≡ at T 8 p) (u : Bool) (eu : u ≡ is_usual x (not (eqb own.kind 9)) above) (usual : not u ≡ false) (b : Bool) (eb : b ≡ no_part T o (x % 65536)) where
      parts : Fields (member_row_of T m) x
      parts = fields T inv.bytes m x (ex ∙ ap (at T 8) ep)

      usual_class : (s : Bool) → b ≡ s → placed (member_at T m) (part_class s) ≡ placed (member_at T m) (broken_of (member_rules_of T o m))
      unfolding member_rules_of
      usual_class s q =
          let z = type_of T inv.bytes m x (ex ∙ ap (at T 8) ep) in
          ap (placed (member_at T m))
          (usual_rules T o (type_row_of T o) (member_row_of T m) x above parts (is_tag_before T (field T o 0) m (tag T m)) (tag_new (tag T m)) s (sym q ∙ eb ∙ ap (no_part T o) z)
          (not (eqb own.kind 9)) (ap (λ (k : ℕ). not (eqb k 9)) inv.own_is.kind_is) (sym eu ∙ not-false u usual))

      pub usual_fault : b ≡ true → refused 34 p ≡ finding_of (owner_pass T o)
      unfolding placed
      usual_fault q = ap (refused 34) ep ∙ class_fault (refused 34 (member_at T m)) (usual_class true q) _ refl

      pub usual_next : b ≡ false → (a : ℕ) → a ≡ max above (x / 4294967296 + 1) → Owner T o own end (m + 1) a
      unfolding placed
      usual_next q a ea = class_next (Ok tt) (usual_class false q) tt refl a (ea ∙ ap (λ (g : ℕ). max above (g + 1)) (tag_of (member_row_of T m) x parts))

-- over the owners
pub record Owners (T : List ℕ) (n o : ℕ) : Type 0 where
  pub within : o ≤ n
  pub rest : OwnersThere T → finding_of (owners_pass T (range 0 (types T))) ≡ finding_of (owners_pass T (range o (n - o)))

pub owners_begin : (T : List ℕ) (n : ℕ) → n ≡ types T → Owners T n 0
owners_begin T n e = let z : n - 0 ≡ types T = omega arith in record { within = omega arith; rest = λ there. rw z }

module _ (T : List ℕ) (n o : ℕ) (inv : Owners T n o) where
  pub owners_end : n ≤ o → OwnersThere T → Ok tt ≡ finding_of (owners_pass T (range 0 (types T)))
  unfolding finding_of owners_pass
  owners_end h there = sym (inv.rest there ∙ rw (range_none o n h))

  module _ (h : o < n) (en : n ≡ types T) (v : Result Unit Refusal) (e : MembersThere T o → v ≡ finding_of (owner_pass T o)) where
    owner_says : OwnersThere T → finding_of (owner_pass T o) ≡ v
    owner_says there = sym (e (there.owners o (omega arith)))

    pub owners_fault : (x : Refusal) → v ≡ Err x → OwnersThere T → Err x ≡ finding_of (owners_pass T (range 0 (types T)))
    unfolding owners_pass
    owners_fault x q there = sym (inv.rest there ∙ rw (range_more o n h) (or_broken (owner_pass T o) _ x (owner_says there ∙ q)))

    pub owners_next : (u : Unit) → v ≡ Ok u → Owners T n (o + 1)
    unfolding owners_pass
    owners_next u q = record { within = omega arith; rest = λ there. inv.rest there ∙ rw (range_more o n h) (or_finding (owner_pass T o) _ u (owner_says there ∙ q)) }

  -- a row that takes no member rows
  pub owners_low : o < n → n ≡ types T → (k : ℕ) → k ≡ kind T o → k < 9 → Owners T n (o + 1)
  unfolding owner_pass finding_of pass range share
  owners_low h en k ek low = owners_next h en (Ok tt) (λ there. rw (low_owns (kind T o) (omega arith))) tt refl

-- ---- header, type rows and member sum, member rows

all : (T : List ℕ) → faults T ≡ or_else (header_rules T) (or_else (rows_pass T) (or_else (member_pass T) fine))
unfolding faults passes type_pass allowed_pass rows_pass member_pass
all T = rw (or_assoc, or_assoc, or_assoc)

module _ (T : List ℕ) (head : header_rules T ≡ fine) where
  pub all_rows_there : (k : ℕ) → k ≡ members T → member_at T k ≤ length T
  all_rows_there k ek = omega (arith, table_length T head)

  pub rows_there : (n : ℕ) → n ≡ types T → row_at T n ≤ length T
  rows_there n en = omega (arith, all_rows_there (members T) refl)

  module _ (v : Result Unit Refusal) (ev : v ≡ finding_of (rows_pass T)) where
    past_header : finding_of (faults T) ≡ finding_of (or_else (rows_pass T) (or_else (member_pass T) fine))
    unfolding or_else
    past_header = ap finding_of (all T) ∙ rw head

    pub rows_broken : (x : Refusal) → v ≡ Err x → Err x ≡ finding_of (faults T)
    rows_broken x q = sym (past_header ∙ or_broken (rows_pass T) _ x (sym ev ∙ q))

    pub members_judged : (u : Unit) → v ≡ Ok u → (w : Result Unit Refusal) → (OwnersThere T → w ≡ finding_of (owners_pass T (range 0 (types T)))) → w ≡ finding_of (faults T)
    unfolding or_else finding_of
    members_judged u q w e =
        let f = is_fine (rows_pass T) u (sym ev ∙ q) in
        e (owners_there T f) ∙ ap finding_of (owners_pass_lem T f) ∙ sym (past_header ∙ or_finding (rows_pass T) _ u (sym ev ∙ q) ∙ last (member_pass T))
      where
        last : (f : Fault) → finding_of (or_else f fine) ≡ finding_of f
        last fine = refl
        last (fault c p) = refl

module _ (T : List ℕ) (h : Result Unit ℕ) (eh : placed 0 h ≡ finding_of (header_rules T)) where
  pub header_judged : (u : Unit) → h ≡ Ok u → header_rules T ≡ fine
  unfolding placed
  header_judged u q = is_fine (header_rules T) u (sym eh ∙ ap (placed 0) q)

  module _ (v : Result Unit Refusal) (ev : v ≡ placed 0 h) where
    pub check_header : (x : Refusal) → v ≡ Err x → Err x ≡ finding_of (faults T)
    check_header x q = sym (ap finding_of (all T) ∙ or_broken (header_rules T) _ x (sym eh ∙ sym ev ∙ q))

    module _ (u : Unit) (q : v ≡ Ok u) where
      head : header_rules T ≡ fine
      head = is_fine (header_rules T) u (sym eh ∙ sym ev ∙ q)

      pub check_all_rows : (k : ℕ) → k ≡ members T → member_at T k ≤ length T
      check_all_rows k ek = all_rows_there T head k ek

      pub check_rows : (n : ℕ) → n ≡ types T → row_at T n ≤ length T
      check_rows n en = rows_there T head n en

      module _ (r : Result Unit Refusal) (er : r ≡ finding_of (rows_pass T)) where
        pub check_types : (x : Refusal) → r ≡ Err x → Err x ≡ finding_of (faults T)
        check_types x z = rows_broken T head r er x z

        pub check_members : (y : Unit) → r ≡ Ok y → (w : Result Unit Refusal) → (OwnersThere T → w ≡ finding_of (owners_pass T (range 0 (types T)))) → w ≡ finding_of (faults T)
        check_members y z w e = members_judged T head r er y z w e
