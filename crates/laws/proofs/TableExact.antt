-- A table breaks no rule exactly if it is valid (`ExactTable`): each test of the passes is one property of `Valid`, and the look-ups
-- of the passes give what the properties are about.
--
--   record-, owner-, uses-, part-, base-, taken-   -ok what follows from a test or a look-up; -step the test or the look-up from what holds
--   header-, type-, list-, member-                 the same of the header, of a type row, of its list, of a member row
--   Tells                                          a test, of all rules of one class, is true exactly where a property fails
--   type_broken, broken_type                       the class that the rules give a row, from what is wrong with it, and back; of a member row member_broken, broken_member
--   ends_ok, ends_step                             where rows that take something one after another end, and the number that they take
--   InTurn, ListsInTurn                            each owner, each list before a row begins at the number taken before it
--   turned, rules_turned                           valid rows are in turn, and so are rows that break no rule; lists_turned, list_rules_turned of lists
--   owned, owned_taken                             a member row among those taken has an owner, and back
--   pass_none                                      a pass over rows that break no rule is fine
--   valid, sound                                   a table that breaks no rule is valid, and a valid one breaks none
--   exact_table, one_owner                         both directions; each member row has exactly one owner
use Rattle.std.specs.Prelude.{◌≡◌, Bool, ◌&&◌, ◌||◌, List, [], ◌∷◌, length, take, get_or, replicate, leb}
use Rattle.std.proofs.Math.Path.{refl, sym, ap, subst}
use Rattle.std.proofs.Common.{◌∙◌, ⊎_elim, add-zero}
use Rattle.std.proofs.Math.Bool.{true, false, not, true≢false}
use Prim.Native.Nat.{ℕ, zero, suc, ◌+◌, ◌-◌, ◌*◌, ◌^◌, ◌≤◌, ◌<◌}
use native.Mathlib.Omega.{arith}
use Rattle.std.proofs.Math.Decide.{ℕ_discrete}
use Rattle.std.proofs.lemmas.List.{get_or-replicate}
use Rattle.std.proofs.Math.ListN.{get_or-append, get_or-eq_default}
use Rattle.std.proofs.Math.Dec.{eqb, ltb}
use borrow.Author.Tests.{eqb-true, eqb-false, leb-true, leb-false, ltb-true, ltb-false, lt-leb, le-ltb, eq-eqb, ne_eqb, not-false}
use Rattle.encoding.specs.Result.{pick, first_of, same_bytes}
use Rattle.encoding.proofs.ResultLaws.{both_true, both_false, either_false, same_bytes_ok, same_bytes_same}
use Rattle.encoding.specs.Number.{negative}
use Rattle.encoding.specs.Table.{at, version, with_lists, types, members, names, entries, types_at, row_at, member_at, entries_at, kind, spare, field, member_type, mark, member_spare, tag, greatest, is_record, owns, name_of, entries_of, range, fine, or_else, fault_at, any, header_tests, header_rules, used, taken_by, taken, no_part, no_base, alike, type_rules, has_list, entries_taken, allowed_rules, entries_rules, sum_rules, owner_of, tag_alike, member_rules, pass, passes, faults}
use Rattle.encoding.proofs.RuleLaws.{any_none, record_kind, owns_record, taken_by_next, taken_rises, taken_next, turn_apart, turn_owner, header_test, list_test, row_begins, header_right, type_right, list_right, entries_whole, taken_whole, member_right}
use Rattle.encoding.proofs.ListLaws.{length_entries, entry_at_lem, Reaches, rises_ok, rises_step}
use Rattle.laws.specs.Demands.{ExactTable, OneOwner}
use Rattle.encoding.proofs.Utf8Laws.{utf8_ok, utf8_step}
use Rattle.encoding.specs.Valid.{RecordKind, is_exception, is_class, OwnerKind, is_struct, is_record_lem, is_parameters, Uses, of_basic, of_enum, of_listed, of_struct, of_sequence, of_dictionary, of_proxy, of_record, of_parameters, ValuePart, NoneFrom, EndsBefore, none_before, last_before, TakenBefore, HasList, EntriesBefore, Owner, ValidVersion, version_1, version_2, ValidHeader, TypeZeros, TypeKnown, TypeReferences, TypeTurn, TypeFilled, TypeName, TypeNamed, TypeEnumerator, ValidType, BrokenType, wrong_zeros, unknown_kind, wrong_reference, out_of_turn, empty_struct, wrong_name, great_enumerator, ValidList, TypeList, MemberZeros, MemberReference, MemberMark, MemberTag, ValidMember, BrokenMember, wrong_spare, wrong_type, wrong_mark, wrong_tag, Valid}

-- ---- kinds

record_ok : (k : ℕ) → is_record k ≡ true → RecordKind k
record_ok k h = ⊎_elim (λ e. is_exception e) (λ e. is_class e) (record_kind k h)

record_step : (k : ℕ) → RecordKind k → is_record k ≡ true
record_step k (is_exception e) = rw e
record_step k (is_class e) = rw e

owner_ok : (k : ℕ) → owns k ≡ true → OwnerKind k
owner_ok k h = go (eqb k 9) refl h
  where
    other : (b : Bool) → is_record k ≡ b → b || eqb k 15 ≡ true → OwnerKind k
    other true e h = is_record_lem (record_ok k e)
    other false e h = is_parameters (eqb-true k 15 h)

    go : (b : Bool) → eqb k 9 ≡ b → b || (is_record k || eqb k 15) ≡ true → OwnerKind k
    go true e h = is_struct (eqb-true k 9 e)
    go false e h = other (is_record k) refl h

owner_step : (k : ℕ) → OwnerKind k → owns k ≡ true
owner_step k (is_struct e) = rw e
owner_step k (is_record_lem r) = owns_record k (record_step k r)
owner_step k (is_parameters e) = rw e

-- the first eight kinds use none
used_basic : (T : List ℕ) (k : ℕ) → k ≤ 7 → used T k ≡ 0
unfolding used
used_basic T k h = get_or-append (replicate 8 0) (pick (with_lists T) 4 2 ∷ 2 ∷ 1 ∷ 2 ∷ 0 ∷ 5 ∷ 5 ∷ 2 ∷ []) 5 k (omega arith) ∙ get_or-replicate 8 k 0 5 (omega arith)

uses_ok : (T : List ℕ) (k n : ℕ) → Uses T k n → used T k ≡ n
unfolding used with_lists
uses_ok T k n (of_basic h) = used_basic T k h
uses_ok T k n (of_enum e v) = rw (e, ne_eqb (version T) 2 v)
uses_ok T k n (of_listed e v) = rw (e, v)
uses_ok T k n (of_struct e) = rw e
uses_ok T k n (of_sequence e) = rw e
uses_ok T k n (of_dictionary e) = rw e
uses_ok T k n (of_proxy e) = rw e
uses_ok T k n (of_record (is_exception e)) = rw e
uses_ok T k n (of_record (is_class e)) = rw e
uses_ok T k n (of_parameters e) = rw e

-- a kind that leaves a field unused is known
uses_step : (T : List ℕ) (k : ℕ) → used T k < 5 → Uses T k (used T k)
unfolding used with_lists
uses_step T k h = go (leb k 7) refl
  where
    of_eight : k ≡ 8 → (b : Bool) → eqb (version T) 2 ≡ b → Uses T k (pick b 4 2)
    of_eight e true v = of_listed e (eqb-true (version T) 2 v)
    of_eight e false v = of_enum e (eqb-false (version T) 2 v)

    above : (j : ℕ) → k ≡ 8 + j → Uses T k (used T k)
    above zero e = rw e (subst (λ (i : ℕ). Uses T i (pick (eqb (version T) 2) 4 2)) e (of_eight e (eqb (version T) 2) refl))
    above (suc zero) e = rw e (of_struct refl)
    above (suc (suc zero)) e = rw e (of_sequence refl)
    above (suc (suc (suc zero))) e = rw e (of_dictionary refl)
    above (suc (suc (suc (suc zero)))) e = rw e (of_proxy refl)
    above (suc (suc (suc (suc (suc zero))))) e = rw e (of_record (is_exception refl))
    above (suc (suc (suc (suc (suc (suc zero)))))) e = rw e (of_record (is_class refl))
    above (suc (suc (suc (suc (suc (suc (suc zero))))))) e = rw e (of_parameters refl)
    above (suc (suc (suc (suc (suc (suc (suc (suc j)))))))) e =
        let all : used T k ≡ 5 = get_or-eq_default (0 ∷ 0 ∷ 0 ∷ 0 ∷ 0 ∷ 0 ∷ 0 ∷ 0 ∷ pick (with_lists T) 4 2 ∷ 2 ∷ 1 ∷ 2 ∷ 0 ∷ 5 ∷ 5 ∷ 2 ∷ []) 5 {n = k} (omega arith) in
        absurd (omega arith)

    go : (b : Bool) → leb k 7 ≡ b → Uses T k (used T k)
    go true e = let l : k ≤ 7 = leb-true k 7 e in subst (Uses T k) (sym (used_basic T k l)) (of_basic l)
    go false e = let l : 7 < k = leb-false k 7 e in above (k - 8) (omega arith)

-- ---- references

part_ok : (T : List ℕ) (t r : ℕ) → no_part T t r ≡ false → ValuePart T t r
unfolding no_part
part_ok T t r h =
    let b = either_false (leb t r) (ltb 12 (kind T r)) h in
    record { smaller = leb-false t r b.0; value_kind = ltb-false 12 (kind T r) b.1 }

part_step : (T : List ℕ) (t r : ℕ) → ValuePart T t r → no_part T t r ≡ false
unfolding no_part
part_step T t r p = rw (lt-leb t r p.smaller, le-ltb 12 (kind T r) p.value_kind)

base_ok : (T : List ℕ) (t c : ℕ) → no_base T t c ≡ false → (r : ℕ) → c ≡ suc r → (r < t) × (kind T r ≡ kind T t)
unfolding no_base
base_ok T t zero h r e = absurd (omega arith)
base_ok T t (suc c) h r e =
    let b = either_false (leb t c) (not (eqb (kind T c) (kind T t))) h in
    let s : c ≡ r = omega arith in
    subst (λ (x : ℕ). (x < t) × (kind T x ≡ kind T t)) s (leb-false t c b.0, eqb-true (kind T c) (kind T t) (not-false (eqb (kind T c) (kind T t)) b.1))

base_step : (T : List ℕ) (t c : ℕ) → ((r : ℕ) → c ≡ suc r → (r < t) × (kind T r ≡ kind T t)) → no_base T t c ≡ false
unfolding no_base
base_step T t zero h = refl
base_step T t (suc c) h = let b = h c refl in rw (lt-leb t c b.0, eq-eqb (kind T c) (kind T t) b.1)

-- ---- what rows take, in turn

-- the rows of property P are those that pass test f
module _ (P : ℕ → Type 0) (f : ℕ → Bool) (is : (t : ℕ) → f t ≡ true → P t) (of : (t : ℕ) → P t → f t ≡ true) (first count : ℕ → ℕ) where
  not_of : (t : ℕ) → (P t → ⊥) → f t ≡ false
  not_of t h = go (f t) refl
    where
      go : (b : Bool) → f t ≡ b → b ≡ false
      go true e = absurd (h (is t e))
      go false e = refl

  -- the others take none
  none_taken : (r t : ℕ) → r ≤ t → NoneFrom P r t → taken_by f count t ≡ taken_by f count r
  unfolding taken_by
  none_taken r zero l h = let e : 0 ≡ r = omega arith in ap (taken_by f count) e
  none_taken r (suc t) l h =
      elim (ℕ_discrete r (suc t)) [
        | yes e ↦ ap (taken_by f count) (sym e)
        | no e ↦ rw (not_of t (h t (omega (arith, e)) (omega arith))) (add-zero (taken_by f count t) ∙ none_taken r t (omega (arith, e)) (λ s a b. h s a (omega arith)))
      ]

  none_later : (r t : ℕ) → (P t → ⊥) → NoneFrom P r t → NoneFrom P r (suc t)
  none_later r t here none s l m o = elim (ℕ_discrete s t) [ yes e ↦ here (subst P e o) | no e ↦ none s l (omega (arith, e)) o ]

  -- where each such row before t begins at the number taken before it
  ends_ok : (t n : ℕ) → ((r : ℕ) → r < t → P r → first r ≡ taken_by f count r) → EndsBefore P first count t n → n ≡ taken_by f count t
  unfolding taken_by
  ends_ok t n turn (none_before none e) = e ∙ sym (none_taken 0 t (omega arith) none)
  ends_ok t n turn (last_before r l o none e) =
      omega (arith, e, turn r l o, taken_by_next f count r (of r o), none_taken (suc r) t l none)

  ends_step : (t n : ℕ) → ((r : ℕ) → r < t → P r → first r ≡ taken_by f count r) → n ≡ taken_by f count t → EndsBefore P first count t n
  unfolding taken_by
  ends_step zero n turn e = none_before (λ s l m. absurd (omega arith)) e
  ends_step (suc t) n turn e = go (f t) refl e (ends_step t n (λ r l. turn r (omega arith)))
    where
      later : (P t → ⊥) → EndsBefore P first count t n → EndsBefore P first count (suc t) n
      later here (none_before none e) = none_before (none_later 0 t here none) e
      later here (last_before r l o none e) = last_before r (omega arith) o (none_later (suc r) t here none) e

      go : (b : Bool) → f t ≡ b → n ≡ taken_by f count t + pick b (count t) 0 → (n ≡ taken_by f count t → EndsBefore P first count t n) → EndsBefore P first count (suc t) n
      go true o e ih = last_before t (omega arith) (is t o) (λ s l m. absurd (omega arith)) (omega (arith, e, turn t (omega arith) (is t o)))
      go false o e ih = later (λ k. true≢false (sym (of t k) ∙ o)) (ih (omega arith))

-- each owner before row t begins at the number taken before it
abbrev pub InTurn : List ℕ → ℕ → Type 0
InTurn T t = (r : ℕ) → r < t → OwnerKind (kind T r) → field T r 0 ≡ taken T r

module _ (T : List ℕ) (t n : ℕ) (turn : InTurn T t) where
  pub taken_ok : TakenBefore T t n → n ≡ taken T t
  unfolding taken
  taken_ok B = ends_ok _ _ (λ r. owner_ok (kind T r)) (λ r. owner_step (kind T r)) _ _ t n turn B

  pub taken_step : n ≡ taken T t → TakenBefore T t n
  unfolding taken
  taken_step e = ends_step _ _ (λ r. owner_ok (kind T r)) (λ r. owner_step (kind T r)) _ _ t n turn e

has_ok : (T : List ℕ) (t : ℕ) → has_list T t ≡ true → HasList T t
unfolding has_list with_lists
has_ok T t h = let b = both_true (eqb (version T) 2) (eqb (kind T t) 8) h in record { of_version = eqb-true (version T) 2 b.0; an_enum = eqb-true (kind T t) 8 b.1 }

has_step : (T : List ℕ) (t : ℕ) → HasList T t → has_list T t ≡ true
unfolding has_list with_lists
has_step T t H = rw (H.of_version, H.an_enum)

-- each list before row t begins at the number of entries taken before it
abbrev pub ListsInTurn : List ℕ → ℕ → Type 0
ListsInTurn T t = (r : ℕ) → r < t → HasList T r → field T r 2 ≡ entries_taken T r

module _ (T : List ℕ) (t n : ℕ) (turn : ListsInTurn T t) where
  pub entries_ok : EntriesBefore T t n → n ≡ entries_taken T t
  unfolding entries_taken
  entries_ok B = ends_ok _ _ (has_ok T) (has_step T) _ _ t n turn B

  pub entries_step : n ≡ entries_taken T t → EntriesBefore T t n
  unfolding entries_taken
  entries_step e = ends_step _ _ (has_ok T) (has_step T) _ _ t n turn e

-- ---- tests that are all false

-- each test of a list is false
abbrev None : List (ℕ × Bool) → Type 0
None [] = Unit {0}
None (r ∷ rs) = (r.1 ≡ false) × None rs

-- the first test and the others
infixr 10 ◌also◌
◌also◌ : {A B : Type 0} → A → B → A × B
a also b = (a, b)

first_none : (l : List (ℕ × Bool)) → None l → first_of l ≡ 0
unfolding first_of
first_none [] h = refl
first_none (r ∷ rs) h = rw h.0 (first_none rs h.1)

any_step : (f : ℕ → Bool) (i k : ℕ) → ((r : ℕ) → i ≤ r → r < i + k → f r ≡ false) → any f (range i k) ≡ false
unfolding any range
any_step f i zero h = refl
any_step f i (suc k) h = rw (h i (omega arith) (omega arith)) (any_step f (suc i) k (λ r l m. h r (omega arith) (omega arith)))

-- a test that counts only where another is true
where_true : (a b : Bool) → (a ≡ true → b ≡ false) → a && b ≡ false
where_true true b h = h refl
where_true false b h = refl

neither : (a b : Bool) → a ≡ false → b ≡ false → a || b ≡ false
neither true b h e = absurd (true≢false h)
neither false b h e = e

-- a test is true exactly where a property fails
record Tells (b : Bool) (P : Type 0) : Type 0 where
  pub fair : b ≡ false → P
  pub strict : P → b ≡ false

failed : {b : Bool} {P : Type 0} → Tells b P → b ≡ true → P → ⊥
failed S e p = true≢false (sym e ∙ S.strict p)

fails : {b : Bool} {P : Type 0} → Tells b P → (P → ⊥) → b ≡ true
fails {b} S n = go b refl
  where
    go : (c : Bool) → b ≡ c → c ≡ true
    go true e = refl
    go false e = absurd (n (S.fair e))

-- two lists that differ
bytes_differ : (xs ys : List ℕ) → (xs ≡ ys → ⊥) → same_bytes xs ys ≡ false
bytes_differ xs ys h = go (same_bytes xs ys) refl
  where
    go : (b : Bool) → same_bytes xs ys ≡ b → b ≡ false
    go true e = absurd (h (same_bytes_ok xs ys e))
    go false e = refl

-- ---- the header

-- the tests of version, length and E
record HeaderFits (T : List ℕ) : Type 0 where
  pub version_known : eqb (version T) 1 || with_lists T ≡ true
  pub there : types_at T ≤ length T
  pub entries_most : entries T ≤ 1024
  pub ended : length T ≡ entries_at T + 4 * entries T

version_ok : (T : List ℕ) → HeaderFits T → ValidVersion T
unfolding version with_lists entries types_at
version_ok T F = go (eqb (at T 2 3) 1) refl (eqb (at T 2 3) 2) refl F.version_known F.entries_most F.ended
  where
    go : (a : Bool) → eqb (at T 2 3) 1 ≡ a → (b : Bool) → eqb (at T 2 3) 2 ≡ b → a || b ≡ true → pick b (at T 2 12) 0 ≤ 1024
        → length T ≡ pick b 14 12 + 12 * types T + 8 * members T + names T + 4 * pick b (at T 2 12) 0 → ValidVersion T
    go a ea true eb h m l = version_2 (eqb-true (at T 2 3) 2 eb) m l
    go true ea false eb h m l = version_1 (eqb-true (at T 2 3) 1 ea) (omega arith)
    go false ea false eb h m l = absurd (true≢false (sym h))

version_step : (T : List ℕ) → ValidVersion T → HeaderFits T
unfolding version with_lists entries types_at
version_step T (version_1 e l) = record { version_known = rw e; there = rw e (omega arith); entries_most = rw e (omega arith); ended = rw e (omega arith) }
version_step T (version_2 e m l) = record { version_known = rw e; there = rw e (omega arith); entries_most = rw e m; ended = rw e l }

module _ (T : List ℕ) where
  pub header_ok : header_rules T ≡ fine → ValidHeader T
  unfolding header_tests
  header_ok right =
      let test = header_test T right in
      let some = either_false (eqb (types T) 0) (ltb 256 (types T)) (test 3) in
      record {
        opening = same_bytes_ok (take 3 T) _ (not-false _ (test 0));
        versioned = version_ok T (record {
          version_known = not-false _ (test 1);
          there = ltb-false (length T) (types_at T) (test 2);
          entries_most = ltb-false 1024 (entries T) (test 7);
          ended = eqb-true (length T) _ (not-false _ (test 8));
        });
        types_least = omega (arith, eqb-false (types T) 0 some.0);
        types_most = ltb-false 256 (types T) some.1;
        members_most = ltb-false 1024 (members T) (test 4);
        names_most = ltb-false 8192 (names T) (test 5);
        zero_byte = eqb-true _ 0 (not-false _ (test 6));
      }

  pub header_step : ValidHeader T → header_rules T ≡ fine
  unfolding header_rules header_tests fault_at
  header_step H =
      let F = version_step T H.versioned in
      ap (fault_at 0) (first_none (header_tests T) (ap not (same_bytes_same (take 3 T) _ H.opening)
      also ap not F.version_known
      also le-ltb (length T) (types_at T) F.there
      also (rw (ne_eqb (types T) 0 (λ e. omega (arith, H.types_least)), le-ltb 256 (types T) H.types_most))
      also le-ltb 1024 (members T) H.members_most
      also le-ltb 8192 (names T) H.names_most
      also ap not (eq-eqb _ 0 H.zero_byte)
      also le-ltb 1024 (entries T) F.entries_most
      also ap not (eq-eqb (length T) _ F.ended)
      also tt))

-- ---- a type row, where the owners before it are in turn

-- tests of one class are one test
type_merged : (a b c d e f g h i j k l m : Bool)
    → first_of ((32, a) ∷ (32, b) ∷ (33, c) ∷ (34, d) ∷ (34, e) ∷ (34, f) ∷ (35, g) ∷ (36, h) ∷ (37, i) ∷ (37, j) ∷ (37, k) ∷ (37, l) ∷ (38, m) ∷ [])
    ≡ first_of ((32, a || b) ∷ (33, c) ∷ (34, d || (e || f)) ∷ (35, g) ∷ (36, h) ∷ (37, i || (j || (k || l))) ∷ (38, m) ∷ [])
unfolding first_of
type_merged true b c d e f g h i j k l m = refl
type_merged false true c d e f g h i j k l m = refl
type_merged false false true d e f g h i j k l m = refl
type_merged false false false true e f g h i j k l m = refl
type_merged false false false false true f g h i j k l m = refl
type_merged false false false false false true g h i j k l m = refl
type_merged false false false false false false true h i j k l m = refl
type_merged false false false false false false false true i j k l m = refl
type_merged false false false false false false false false true j k l m = refl
type_merged false false false false false false false false false true k l m = refl
type_merged false false false false false false false false false false true l m = refl
type_merged false false false false false false false false false false false true m = refl
type_merged false false false false false false false false false false false false true = refl
type_merged false false false false false false false false false false false false false = refl

module _ (T : List ℕ) (t : ℕ) (turn : InTurn T t) where
  -- test i of the row
  abbrev test : ℕ → Bool
  test i = (get_or (type_rules T t) i (0, false)).1

  zeros : Tells (test 0 || test 1) (TypeZeros T t)
  unfolding type_rules spare
  zeros = record { fair = fair; strict = strict }
    where
      fair : test 0 || test 1 ≡ false → TypeZeros T t
      fair h =
          let b = either_false _ _ h in
          record {
            zero_byte = eqb-true _ 0 (not-false _ b.0);
            unused = λ n u i l m.
                let e = uses_ok T (kind T t) n u in
                eqb-true (field T t i) 0 (not-false _ (any_none (λ i. not (eqb (field T t i) 0)) (used T (kind T t)) (5 - used T (kind T t)) b.1 i (omega (arith, e)) (omega (arith, e))));
          }

      strict : TypeZeros T t → test 0 || test 1 ≡ false
      strict Z =
          neither _ _ (ap not (eq-eqb _ 0 Z.zero_byte))
          (any_step (λ i. not (eqb (field T t i) 0)) (used T (kind T t)) (5 - used T (kind T t)) (λ i a b. ap not (eq-eqb (field T t i) 0 (Z.unused (used T (kind T t)) (uses_step T (kind T t) (omega arith)) i a (omega arith)))))

  known : Tells (test 2) (TypeKnown T t)
  unfolding type_rules
  known = record { fair = ltb-false 15 (kind T t); strict = le-ltb 15 (kind T t) }

  references : Tells (test 3 || (test 4 || test 5)) (TypeReferences T t)
  unfolding type_rules
  references = record { fair = fair; strict = strict }
    where
      fair : test 3 || (test 4 || test 5) ≡ false → TypeReferences T t
      fair h =
          let a = either_false _ _ h in
          let b = either_false _ _ a.1 in
          record {
            element = λ e. part_ok T t (field T t 0) (both_false (eqb (kind T t) 10 || eqb (kind T t) 11) _ a.0 (rw e));
            key = λ e. part_ok T t (field T t 0) (both_false (eqb (kind T t) 10 || eqb (kind T t) 11) _ a.0 (rw e));
            value = λ e. part_ok T t (field T t 1) (both_false (eqb (kind T t) 11) _ b.0 (rw e));
            base = λ k. base_ok T t (field T t 2) (both_false (is_record (kind T t)) _ b.1 (record_step (kind T t) k));
          }

      first_part : TypeReferences T t → (b : Bool) → eqb (kind T t) 10 ≡ b → b || eqb (kind T t) 11 ≡ true → ValuePart T t (field T t 0)
      first_part R true e h = R.element (eqb-true (kind T t) 10 e)
      first_part R false e h = R.key (eqb-true (kind T t) 11 h)

      strict : TypeReferences T t → test 3 || (test 4 || test 5) ≡ false
      strict R =
          neither _ _ (where_true (eqb (kind T t) 10 || eqb (kind T t) 11) _ (λ e. part_step T t (field T t 0) (first_part R (eqb (kind T t) 10) refl e)))
          (neither _ _ (where_true (eqb (kind T t) 11) _ (λ e. part_step T t (field T t 1) (R.value (eqb-true (kind T t) 11 e))))
          (where_true (is_record (kind T t)) _ (λ e. base_step T t (field T t 2) (R.base (record_ok (kind T t) e)))))

  in_turn : Tells (test 6) (TypeTurn T t)
  unfolding type_rules
  in_turn = record {
    fair = λ h k. taken_step T t (field T t 0) turn (eqb-true (field T t 0) (taken T t) (not-false _ (both_false (owns (kind T t)) _ h (owner_step (kind T t) k))));
    strict = λ P. where_true (owns (kind T t)) _ (λ e. ap not (eq-eqb (field T t 0) (taken T t) (taken_ok T t (field T t 0) turn (P (owner_ok (kind T t) e)))));
  }

  filled : Tells (test 7) (TypeFilled T t)
  unfolding type_rules
  filled = record {
    fair = λ h e. omega (arith, eqb-false (field T t 1) 0 (both_false (eqb (kind T t) 9) _ h (rw e)));
    strict = λ P. where_true (eqb (kind T t) 9) _ (λ e. ne_eqb (field T t 1) 0 (λ z. omega (arith, P (eqb-true (kind T t) 9 e))));
  }

  named : Tells (test 8 || (test 9 || (test 10 || test 11))) (TypeNamed T t)
  unfolding type_rules alike
  named = record { fair = fair; strict = strict }
    where
      fair : test 8 || (test 9 || (test 10 || test 11)) ≡ false → TypeNamed T t
      fair h k =
          let a : (test 8 ≡ false) × (test 9 || (test 10 || test 11) ≡ false) = either_false _ _ h in
          let b : (test 9 ≡ false) × (test 10 || test 11 ≡ false) = either_false _ _ a.1 in
          let c : (test 10 ≡ false) × (test 11 ≡ false) = either_false _ _ b.1 in
          let r = record_step (kind T t) k in
          let len = either_false (eqb (field T t 4) 0) (ltb 255 (field T t 4)) (both_false (is_record (kind T t)) _ a.0 r) in
          record {
            some = omega (arith, eqb-false (field T t 4) 0 len.0);
            most = ltb-false 255 (field T t 4) len.1;
            inside = ltb-false (names T) (field T t 3 + field T t 4) (both_false (is_record (kind T t)) _ b.0 r);
            new = λ s l q e.
                let a = any_none (λ r. is_record (kind T r) && same_bytes (name_of T r) (name_of T t)) 0 t (both_false (is_record (kind T t)) _ c.0 r) s (omega arith) (omega arith) in
                true≢false (sym (same_bytes_same (name_of T s) (name_of T t) e) ∙ both_false (is_record (kind T s)) _ a (record_step (kind T s) q));
            is_text = utf8_ok (name_of T t) (not-false _ (both_false (is_record (kind T t)) _ c.1 r));
          }

      name_new : TypeName T t → alike T t ≡ false
      name_new N =
          any_step (λ r. is_record (kind T r) && same_bytes (name_of T r) (name_of T t)) 0 t (λ r a b.
          where_true (is_record (kind T r)) _ (λ e. bytes_differ (name_of T r) (name_of T t) (N.new r (omega arith) (record_ok (kind T r) e))))

      strict : TypeNamed T t → test 8 || (test 9 || (test 10 || test 11)) ≡ false
      strict P =
          let name : is_record (kind T t) ≡ true → TypeName T t = λ e. P (record_ok (kind T t) e) in
          neither _ _ (where_true (is_record (kind T t)) _ (λ e. neither _ _ (ne_eqb (field T t 4) 0 (λ z. omega (arith, (name e).some))) (le-ltb 255 (field T t 4) (name e).most)))
          (neither _ _ (where_true (is_record (kind T t)) _ (λ e. le-ltb (names T) (field T t 3 + field T t 4) (name e).inside))
          (neither _ _ (where_true (is_record (kind T t)) _ (λ e. name_new (name e)))
          (where_true (is_record (kind T t)) _ (λ e. ap not (utf8_step (name_of T t) (name e).is_text)))))

  enumerator : Tells (test 12) (TypeEnumerator T t)
  unfolding type_rules greatest negative
  enumerator = record {
    fair = λ h e. leb-false (2 ^ 31) (field T t 0 + 65536 * field T t 1) (both_false (eqb (kind T t) 8) _ h (rw e));
    strict = λ P. where_true (eqb (kind T t) 8) _ (λ e. lt-leb (2 ^ 31) (field T t 0 + 65536 * field T t 1) (P (eqb-true (kind T t) 8 e)));
  }

  -- the class that the rules give a row
  type_class : first_of (type_rules T t) ≡ first_of ((32, test 0 || test 1) ∷ (33, test 2) ∷ (34, test 3 || (test 4 || test 5)) ∷ (35, test 6) ∷ (36, test 7) ∷ (37, test 8 || (test 9 || (test 10 || test 11))) ∷ (38, test 12) ∷ [])
  unfolding type_rules
  type_class = type_merged _ _ _ _ _ _ _ _ _ _ _ _ _

  -- what a row is that gets class n, or 0
  abbrev TypeJudged : ℕ → Type 0
  TypeJudged zero = ValidType T t
  TypeJudged (suc c) = BrokenType T t (suc c)

  type_judged : (n : ℕ) → first_of (type_rules T t) ≡ n → TypeJudged n
  unfolding first_of
  type_judged n h = go (test 0 || test 1) refl (test 2) refl (test 3 || (test 4 || test 5)) refl (test 6) refl (test 7) refl (test 8 || (test 9 || (test 10 || test 11))) refl (test 12) refl (sym type_class ∙ h)
    where
      go : (a : Bool) → test 0 || test 1 ≡ a → (b : Bool) → test 2 ≡ b → (c : Bool) → test 3 || (test 4 || test 5) ≡ c → (d : Bool) → test 6 ≡ d → (e : Bool) → test 7 ≡ e
          → (f : Bool) → test 8 || (test 9 || (test 10 || test 11)) ≡ f → (g : Bool) → test 12 ≡ g
          → first_of ((32, a) ∷ (33, b) ∷ (34, c) ∷ (35, d) ∷ (36, e) ∷ (37, f) ∷ (38, g) ∷ []) ≡ n → TypeJudged n
      go true ea b eb c ec d ed e ee f ef g eg h = subst TypeJudged h (wrong_zeros (failed zeros ea))
      go false ea true eb c ec d ed e ee f ef g eg h = subst TypeJudged h (unknown_kind (zeros.fair ea) (failed known eb))
      go false ea false eb true ec d ed e ee f ef g eg h = subst TypeJudged h (wrong_reference (zeros.fair ea) (known.fair eb) (failed references ec))
      go false ea false eb false ec true ed e ee f ef g eg h = subst TypeJudged h (out_of_turn (zeros.fair ea) (known.fair eb) (references.fair ec) (failed in_turn ed))
      go false ea false eb false ec false ed true ee f ef g eg h =
          subst TypeJudged h (empty_struct (zeros.fair ea) (known.fair eb) (references.fair ec) (in_turn.fair ed) (failed filled ee))
      go false ea false eb false ec false ed false ee true ef g eg h =
          subst TypeJudged h (wrong_name (zeros.fair ea) (known.fair eb) (references.fair ec) (in_turn.fair ed) (filled.fair ee) (failed named ef))
      go false ea false eb false ec false ed false ee false ef true eg h =
          subst TypeJudged h (great_enumerator (zeros.fair ea) (known.fair eb) (references.fair ec) (in_turn.fair ed) (filled.fair ee) (named.fair ef) (failed enumerator eg))
      go false ea false eb false ec false ed false ee false ef false eg h = subst TypeJudged h (record {
        zeros = zeros.fair ea;
        known = known.fair eb;
        references = references.fair ec;
        in_turn = in_turn.fair ed;
        filled = filled.fair ee;
        name = named.fair ef;
        enumerator = enumerator.fair eg;
      })

  pub type_ok : first_of (type_rules T t) ≡ 0 → ValidType T t
  type_ok h = type_judged 0 h

  pub type_broken : (c : ℕ) → first_of (type_rules T t) ≡ c → 0 < c → BrokenType T t c
  type_broken zero h l = absurd (omega arith)
  type_broken (suc c) h l = type_judged (suc c) h

  pub type_step : ValidType T t → first_of (type_rules T t) ≡ 0
  unfolding first_of
  type_step R =
      type_class
      ∙ rw (
        zeros.strict R.zeros,
        known.strict R.known,
        references.strict R.references,
        in_turn.strict R.in_turn,
        filled.strict R.filled,
        named.strict R.name,
        enumerator.strict R.enumerator,
      )

  pub broken_type : (c : ℕ) → BrokenType T t c → first_of (type_rules T t) ≡ c
  unfolding first_of
  broken_type c (wrong_zeros n) = type_class ∙ rw (fails zeros n)
  broken_type c (unknown_kind z n) = type_class ∙ rw (zeros.strict z, fails known n)
  broken_type c (wrong_reference z k n) = type_class ∙ rw (zeros.strict z, known.strict k, fails references n)
  broken_type c (out_of_turn z k r n) = type_class ∙ rw (zeros.strict z, known.strict k, references.strict r, fails in_turn n)
  broken_type c (empty_struct z k r i n) = type_class ∙ rw (zeros.strict z, known.strict k, references.strict r, in_turn.strict i, fails filled n)
  broken_type c (wrong_name z k r i f n) = type_class ∙ rw (zeros.strict z, known.strict k, references.strict r, in_turn.strict i, filled.strict f, fails named n)
  broken_type c (great_enumerator z k r i f m n) = type_class ∙ rw (zeros.strict z, known.strict k, references.strict r, in_turn.strict i, filled.strict f, named.strict m, fails enumerator n)

-- ---- a list, where the lists before it are in turn

list_merged : (a b c : Bool) → first_of ((39, a) ∷ (39, b) ∷ (39, c) ∷ []) ≡ pick (a || (b || c)) 39 0
unfolding first_of
list_merged true b c = refl
list_merged false true c = refl
list_merged false false true = refl
list_merged false false false = refl

module _ (T : List ℕ) (t : ℕ) (turn : ListsInTurn T t) where
  -- test i of the list
  abbrev entry_test : ℕ → Bool
  entry_test i = (get_or (allowed_rules T t) i (0, false)).1

  list_valid : Tells (entry_test 0 || (entry_test 1 || entry_test 2)) (TypeList T t)
  unfolding allowed_rules greatest
  list_valid = record { fair = fair; strict = strict }
    where
      fair : entry_test 0 || (entry_test 1 || entry_test 2) ≡ false → TypeList T t
      fair h H =
          let a : (entry_test 0 ≡ false) × (entry_test 1 || entry_test 2 ≡ false) = either_false _ _ h in
          let b : (entry_test 1 ≡ false) × (entry_test 2 ≡ false) = either_false _ _ a.1 in
          let k = has_step T t H in
          let R = rises_ok (greatest T t) (entries_of T t) (not-false _ (both_false (has_list T t) _ b.1 k)) in
          let n = length_entries T t in
          record {
            in_turn = entries_step T t (field T t 2) turn (eqb-true (field T t 2) (entries_taken T t) (not-false _ (both_false (has_list T t) _ a.0 k)));
            some = omega (arith, R.some, n);
            inside = ltb-false (entries T) (field T t 2 + field T t 3) (both_false (has_list T t) _ b.0 k);
            rises = λ i l. omega (arith, R.rises i (omega (arith, n)), entry_at_lem T t i (omega arith), entry_at_lem T t (suc i) l);
            last = λ i e. sym (entry_at_lem T t i (omega arith)) ∙ R.last i (e ∙ sym n);
          }

      reaches : ValidList T t → Reaches (greatest T t) (entries_of T t)
      reaches W =
          let n = length_entries T t in
          record {
            some = omega (arith, W.some, n);
            rises = λ i l. omega (arith, W.rises i (omega (arith, n)), entry_at_lem T t i (omega (arith, n)), entry_at_lem T t (suc i) (omega (arith, n)));
            last = λ i e. entry_at_lem T t i (omega (arith, n)) ∙ W.last i (e ∙ n);
          }

      strict : TypeList T t → entry_test 0 || (entry_test 1 || entry_test 2) ≡ false
      strict P =
          let list : has_list T t ≡ true → ValidList T t = λ e. P (has_ok T t e) in
          neither _ _ (where_true (has_list T t) _ (λ e. ap not (eq-eqb (field T t 2) (entries_taken T t) (entries_ok T t (field T t 2) turn (list e).in_turn))))
          (neither _ _ (where_true (has_list T t) _ (λ e. le-ltb (entries T) (field T t 2 + field T t 3) (list e).inside))
          (where_true (has_list T t) _ (λ e. ap not (rises_step (greatest T t) (entries_of T t) (reaches (list e))))))

  list_class : first_of (allowed_rules T t) ≡ pick (entry_test 0 || (entry_test 1 || entry_test 2)) 39 0
  unfolding allowed_rules
  list_class = list_merged _ _ _

  pub list_ok : first_of (allowed_rules T t) ≡ 0 → TypeList T t
  list_ok h = list_valid.fair (go (entry_test 0 || (entry_test 1 || entry_test 2)) (sym list_class ∙ h))
    where
      go : (b : Bool) → ◌≡◌ {A = ℕ} (pick b 39 0) 0 → b ≡ false
      go true e = absurd (omega arith)
      go false e = refl

  pub list_step : TypeList T t → first_of (allowed_rules T t) ≡ 0
  list_step L = list_class ∙ rw (list_valid.strict L)

  pub list_broken : 0 < first_of (allowed_rules T t) → TypeList T t → ⊥
  list_broken l L = omega (arith, list_step L)

  pub broken_list : (TypeList T t → ⊥) → first_of (allowed_rules T t) ≡ 39
  broken_list n = list_class ∙ rw (fails list_valid n)

-- ---- a member row, where the owners are in turn

member_merged : (a b c d e f g : Bool)
    → first_of ((32, a) ∷ (32, b) ∷ (34, c) ∷ (36, d) ∷ (36, e) ∷ (38, f) ∷ (38, g) ∷ []) ≡ first_of ((32, a || b) ∷ (34, c) ∷ (36, d || e) ∷ (38, f || g) ∷ [])
unfolding first_of
member_merged true b c d e f g = refl
member_merged false true c d e f g = refl
member_merged false false true d e f g = refl
member_merged false false false true e f g = refl
member_merged false false false false true f g = refl
member_merged false false false false false true g = refl
member_merged false false false false false false g = refl

module _ (T : List ℕ) (turn : InTurn T (types T)) where
  -- a member row among those taken has an owner
  pub owned : (n m : ℕ) → n ≤ types T → m < taken T n → (o : ℕ) × Owner T o m
  unfolding taken taken_by
  owned zero m h l = absurd (omega arith)
  owned (suc n) m h l = go (owns (kind T n)) refl (ltb m (taken T n)) refl l (λ k. owned n m (omega arith) k)
    where
      go : (a : Bool) → owns (kind T n) ≡ a → (b : Bool) → ltb m (taken T n) ≡ b → m < taken T n + pick a (field T n 1) 0 → (m < taken T n → (o : ℕ) × Owner T o m) → (o : ℕ) × Owner T o m
      go a ea true eb l ih = ih (ltb-true m (taken T n) eb)
      go true ea false eb l ih =
          let k : taken T n ≤ m = ltb-false m (taken T n) eb in
          let e = turn n (omega arith) (owner_ok (kind T n) ea) in
          (n, record { there = omega arith; owner_kind = owner_ok (kind T n) ea; from = omega (arith, e); to = omega (arith, e) })
      go false ea false eb l ih = ih (omega arith)

  module _ (o m : ℕ) (own : Owner T o m) where
    -- a member row with an owner is among those taken
    pub owned_taken : m < taken T (types T)
    owned_taken =
        let k = owner_step (kind T o) own.owner_kind in
        omega (arith, own.to, turn o own.there own.owner_kind, taken_next T o k, taken_rises T (suc o) (types T) own.there)

    -- the rules judge it with its owner
    judged_by : owner_of T m (types T) ≡ o
    judged_by = turn_owner T (λ t l e. turn t l (owner_ok (kind T t) e)) o m own.there (owner_step (kind T o) own.owner_kind) own.from own.to

    -- test i of the row
    abbrev member_test : ℕ → Bool
    member_test i = (get_or (member_rules T m) i (0, false)).1

    spare_zeros : Tells (member_test 0 || member_test 1) (MemberZeros T m)
    unfolding member_rules member_spare
    spare_zeros = record {
      fair = λ h.
          let b = either_false _ _ h in
          record {
            zero_byte = eqb-true _ 0 (not-false _ b.0);
            untagged = λ e. eqb-true (tag T m) 0 (not-false _ (both_false (eqb (mark T m) 0) _ b.1 (eq-eqb (mark T m) 0 e)));
          };
      strict = λ Z. neither _ _ (ap not (eq-eqb _ 0 Z.zero_byte)) (where_true (eqb (mark T m) 0) _ (λ e. ap not (eq-eqb (tag T m) 0 (Z.untagged (eqb-true (mark T m) 0 e)))));
    }

    typed : Tells (member_test 2) (MemberReference T o m)
    unfolding member_rules
    typed = record { fair = λ h. part_ok T o (member_type T m) (rw judged_by at h); strict = λ P. rw judged_by (part_step T o (member_type T m) P) }

    marked : Tells (member_test 3 || member_test 4) (MemberMark T o m)
    unfolding member_rules
    marked = record { fair = fair; strict = strict }
      where
        fair : member_test 3 || member_test 4 ≡ false → MemberMark T o m
        fair h =
            let b = either_false _ _ h in
            let few : mark T m ≤ 1 = ltb-false 1 (mark T m) b.0 in
            record {
              known = few;
              in_struct = λ e.
                  let s : eqb (mark T m) 1 && eqb (kind T o) 9 ≡ false = rw judged_by at b.1 in
                  let one : mark T m ≡ 1 → ⊥ = λ a. eqb-false (kind T o) 9 (both_false (eqb (mark T m) 1) (eqb (kind T o) 9) s (eq-eqb (mark T m) 1 a)) e in
                  omega (arith, few, one);
            }

        strict : MemberMark T o m → member_test 3 || member_test 4 ≡ false
        strict M =
            neither _ _ (le-ltb 1 (mark T m) M.known)
            (where_true (eqb (mark T m) 1) _ (λ e. rw judged_by (ne_eqb (kind T o) 9 (λ q. omega (arith, eqb-true (mark T m) 1 e, M.in_struct q)))))

    tagged : Tells (member_test 5 || member_test 6) (MemberTag T o m)
    unfolding member_rules negative tag_alike
    tagged = record { fair = fair; strict = strict }
      where
        fair : member_test 5 || member_test 6 ≡ false → MemberTag T o m
        fair h =
            let b = either_false _ _ h in
            record {
              small = leb-false (2 ^ 31) (tag T m) b.0;
              new = λ a i l q c e.
                  let s = both_false (eqb (mark T m) 1) _ b.1 (eq-eqb (mark T m) 1 a) in
                  let u : any (λ i. eqb (mark T i) 1 && eqb (tag T i) (tag T m)) (range (field T o 0) (m - field T o 0)) ≡ false = rw judged_by at s in
                  let v = any_none (λ i. eqb (mark T i) 1 && eqb (tag T i) (tag T m)) (field T o 0) (m - field T o 0) u i q.from (omega (arith, q.from)) in
                  eqb-false (tag T i) (tag T m) (both_false (eqb (mark T i) 1) _ v (eq-eqb (mark T i) 1 c)) e;
            }

        tag_new : MemberTag T o m → mark T m ≡ 1 → tag_alike T o m ≡ false
        tag_new G a =
            any_step (λ i. eqb (mark T i) 1 && eqb (tag T i) (tag T m)) (field T o 0) (m - field T o 0) (λ i l h.
            let k : i < m = omega (arith, own.from) in
            let own_i : Owner T o i = record { there = own.there; owner_kind = own.owner_kind; from = l; to = omega (arith, own.to) } in
            where_true (eqb (mark T i) 1) _ (λ b. ne_eqb (tag T i) (tag T m) (G.new a i k own_i (eqb-true (mark T i) 1 b))))

        strict : MemberTag T o m → member_test 5 || member_test 6 ≡ false
        strict G = neither _ _ (lt-leb (2 ^ 31) (tag T m) G.small) (where_true (eqb (mark T m) 1) _ (λ e. rw judged_by (tag_new G (eqb-true (mark T m) 1 e))))

    -- the class that the rules give it
    member_class : first_of (member_rules T m) ≡ first_of ((32, member_test 0 || member_test 1) ∷ (34, member_test 2) ∷ (36, member_test 3 || member_test 4) ∷ (38, member_test 5 || member_test 6) ∷ [])
    unfolding member_rules
    member_class = member_merged _ _ _ _ _ _ _

    abbrev MemberJudged : ℕ → Type 0
    MemberJudged zero = ValidMember T o m
    MemberJudged (suc c) = BrokenMember T o m (suc c)

    member_judged : (n : ℕ) → first_of (member_rules T m) ≡ n → MemberJudged n
    unfolding first_of
    member_judged n h = go (member_test 0 || member_test 1) refl (member_test 2) refl (member_test 3 || member_test 4) refl (member_test 5 || member_test 6) refl (sym member_class ∙ h)
      where
        go : (a : Bool) → member_test 0 || member_test 1 ≡ a → (b : Bool) → member_test 2 ≡ b → (c : Bool) → member_test 3 || member_test 4 ≡ c → (d : Bool) → member_test 5 || member_test 6 ≡ d
            → first_of ((32, a) ∷ (34, b) ∷ (36, c) ∷ (38, d) ∷ []) ≡ n → MemberJudged n
        go true ea b eb c ec d ed h = subst MemberJudged h (wrong_spare (failed spare_zeros ea))
        go false ea true eb c ec d ed h = subst MemberJudged h (wrong_type (spare_zeros.fair ea) (failed typed eb))
        go false ea false eb true ec d ed h = subst MemberJudged h (wrong_mark (spare_zeros.fair ea) (typed.fair eb) (failed marked ec))
        go false ea false eb false ec true ed h = subst MemberJudged h (wrong_tag (spare_zeros.fair ea) (typed.fair eb) (marked.fair ec) (failed tagged ed))
        go false ea false eb false ec false ed h =
            subst MemberJudged h (record { zeros = spare_zeros.fair ea; type = typed.fair eb; marked = marked.fair ec; tagged = tagged.fair ed })

    pub member_ok : first_of (member_rules T m) ≡ 0 → ValidMember T o m
    member_ok h = member_judged 0 h

    pub member_broken : (c : ℕ) → first_of (member_rules T m) ≡ c → 0 < c → BrokenMember T o m c
    member_broken zero h l = absurd (omega arith)
    member_broken (suc c) h l = member_judged (suc c) h

    pub member_step : ValidMember T o m → first_of (member_rules T m) ≡ 0
    unfolding first_of
    member_step R = member_class ∙ rw (spare_zeros.strict R.zeros, typed.strict R.type, marked.strict R.marked, tagged.strict R.tagged)

    pub broken_member : (c : ℕ) → BrokenMember T o m c → first_of (member_rules T m) ≡ c
    unfolding first_of
    broken_member c (wrong_spare n) = member_class ∙ rw (fails spare_zeros n)
    broken_member c (wrong_type z n) = member_class ∙ rw (spare_zeros.strict z, fails typed n)
    broken_member c (wrong_mark z p n) = member_class ∙ rw (spare_zeros.strict z, typed.strict p, fails marked n)
    broken_member c (wrong_tag z p k n) = member_class ∙ rw (spare_zeros.strict z, typed.strict p, marked.strict k, fails tagged n)

-- ---- the table

-- valid rows are in turn, and so are rows that break no rule
pub turned : (T : List ℕ) (n : ℕ) → ((t : ℕ) → t < n → ValidType T t) → InTurn T n
turned T zero R t l o = absurd (omega arith)
turned T (suc n) R t l o = taken_ok T t (field T t 0) (λ r m. turned T n (λ s k. R s (omega arith)) r (omega arith)) ((R t l).in_turn o)

pub rules_turned : (T : List ℕ) (n : ℕ) → ((t : ℕ) → t < n → first_of (type_rules T t) ≡ 0) → InTurn T n
rules_turned T n R t l o = row_begins T t (R t l) (owner_step (kind T t) o)

-- so are valid lists, and lists that break no rule
pub lists_turned : (T : List ℕ) (n : ℕ) → ((t : ℕ) → t < n → TypeList T t) → ListsInTurn T n
lists_turned T zero L t l h = absurd (omega arith)
lists_turned T (suc n) L t l h = entries_ok T t (field T t 2) (λ r m. lists_turned T n (λ s k. L s (omega arith)) r (omega arith)) (L t l h).in_turn

pub list_rules_turned : (T : List ℕ) (n : ℕ) → ((t : ℕ) → t < n → first_of (allowed_rules T t) ≡ 0) → ListsInTurn T n
unfolding allowed_rules
list_rules_turned T n L t l h = eqb-true (field T t 2) (entries_taken T t) (not-false _ (both_false (has_list T t) _ (list_test T t (L t l) 0) (has_step T t h)))

pub valid : (T : List ℕ) → faults T ≡ fine → Valid T
valid T right =
    let turn = rules_turned T (types T) (type_right T right) in
    let in_lists = list_rules_turned T (types T) (list_right T right) in
    record {
      header = header_ok T (header_right T right);
      type = λ t l. type_ok T t (λ r m. turn r (omega arith)) (type_right T right t l);
      list = λ t l. list_ok T t (λ r m. in_lists r (omega arith)) (list_right T right t l);
      all_listed = entries_step T (types T) (entries T) in_lists (sym (entries_whole T right));
      all_taken = taken_step T (types T) (members T) turn (sym (taken_whole T right));
      member = λ o m own. member_ok T turn o m own (member_right T right m (omega (arith, owned_taken T turn o m own, taken_whole T right)));
    }

pub pass_none : (place : ℕ → ℕ) (rules : ℕ → List (ℕ × Bool)) (i k : ℕ) → ((r : ℕ) → i ≤ r → r < i + k → first_of (rules r) ≡ 0) → pass place rules (range i k) ≡ fine
unfolding pass range or_else fault_at
pass_none place rules i zero h = refl
pass_none place rules i (suc k) h = rw (h i (omega arith) (omega arith)) (pass_none place rules (suc i) k (λ r l m. h r (omega arith) (omega arith)))

pub sound : (T : List ℕ) → Valid T → faults T ≡ fine
unfolding faults passes entries_rules sum_rules or_else fault_at
sound T S =
    let turn = turned T (types T) S.type in
    let in_lists = lists_turned T (types T) S.list in
    let sum = taken_ok T (types T) (members T) turn S.all_taken in
    rw (
      header_step T S.header,
      pass_none (row_at T) (type_rules T) 0 (types T) (λ t a b. type_step T t (λ r m. turn r (omega arith)) (S.type t (omega arith))),
      pass_none (row_at T) (allowed_rules T) 0 (types T) (λ t a b. list_step T t (λ r m. in_lists r (omega arith)) (S.list t (omega arith))),
      eq-eqb (entries_taken T (types T)) (entries T) (sym (entries_ok T (types T) (entries T) in_lists S.all_listed)),
      eq-eqb (taken T (types T)) (members T) (sym sum),
      pass_none (member_at T) (member_rules T) 0 (members T) (λ m a b. let w = owned T turn (types T) m (omega arith) (omega (arith, sum)) in member_step T turn w.0 m w.1 (S.member w.0 m w.1)),
    )

pub exact_table : ExactTable
exact_table T = (valid T, sound T)

pub one_owner : OneOwner
one_owner T S =
    let turn = turned T (types T) S.type in
    let sum = taken_ok T (types T) (members T) turn S.all_taken in (
      λ m l.
          let w = owned T turn (types T) m (omega arith) (omega (arith, sum)) in
          (w.0, w.1, λ q own. alone turn q w.0 m own w.1),
      λ o m own. omega (arith, sum, owned_taken T turn o m own),
    )
  where
    alone : InTurn T (types T) → (q o m : ℕ) → Owner T q m → Owner T o m → q ≡ o
    alone turn q o m Q O =
        turn_apart T (λ t l e. turn t l (owner_ok (kind T t) e)) q o m Q.there O.there (owner_step (kind T q) Q.owner_kind) (owner_step (kind T o) O.owner_kind)
        Q.from Q.to O.from O.to
