-- What a table that breaks no rule gives: `faults T ≡ fine`.
--
--   type_pass, list_pass, member_pass the passes over type rows, lists and member rows
--   pass_fine                      a pass that is fine has no true test
--   header_right, type_right, list_right, member_right   each pass is fine: no test of the header, of a row or of a list is true
--   header_test, row_test, list_test, member_row_test, member_test   each of these tests is false
--   row_begins, sum_right          what follows from the tests of the member rows taken; entries_right, entries_whole of the entries
--   any_none                       no number of a range passes a test
--   members_most, types_most       at most 1,024 members and 256 types
--   kind_known                     a kind is at most 15
--   record_kind, owns_record       a record is an exception or a class, and takes member rows
--   base_right                     a base is a smaller row of the same kind
--   AboveRecord, base_record       the base of a record, as a row + 1, is none or a record
--   named_ok, named_at             the record of a name is a record of that name; a record is the one of its name
--   named_short, named_text        a record's name is at most 255 bytes long, and text; name_text: by its row
--   names_differ                   records of one name are one
--   climb_enough, chain_node       a chain is the row, then the chain of its base
--   Own, own_later, required_own, optional_own  the place of a member among the rows of its owner
--   length_range, own_sum          the required and optional members of an owner are as many as its member rows
--   taken_by_rises, taken_by_next    what the rows before one take; taken_rises, taken_next of the member rows
--   taken_at, taken_whole          an owner's member rows begin where those of the rows before it end; all are taken
--   turn_apart, turn_owner         where owners take the member rows in turn, a member row has one owner, which is found
--   rows_apart                     a member row has one owner
--   rows_there                     an owner's member rows are there
--   owner_at                       the owner of a member row
--   mark_known, tags_differ        a mark is 0 or 1; optionals of one owner and one tag are one
--   or_else_fault, fault_at_place    which of two passes a fault is of, and its place
--   fault_place                    the place of a broken rule is bounded, whatever the table
use Rattle.std.proofs.Math.Path.{◌≡◌, refl, subst}
use Rattle.std.proofs.Common.{sym, ap, ◌∙◌, inl, inr, ⊎_elim}
use Rattle.std.specs.Prelude.{Bool, ◌&&◌, ◌||◌, not, ◌⊎◌, List, [], ◌∷◌, length, drop, get_or, leb}
use Rattle.std.proofs.Math.Bool.{true, false, true≢false}
use Rattle.std.proofs.lemmas.Bool.{false≢true}
use Rattle.std.proofs.Math.Option.{some}
use Prim.Native.Nat.{ℕ, zero, suc, ◌+◌, ◌-◌, ◌≤◌, ◌<◌}
use native.Mathlib.Omega.{arith}
use Rattle.std.proofs.Math.Decide.{ℕ_discrete}
use Rattle.std.proofs.Math.ListN.{length-take}
use Rattle.std.proofs.Math.Dec.{eqb, ltb}
use borrow.Author.Tests.{eqb-true, eqb-false, leb-true, leb-false, ltb-true, ltb-false, le-leb, lt-ltb, eq-eqb, not-false}
use Rattle.encoding.specs.Result.{pick, first_of, same_bytes}
use Rattle.encoding.proofs.ResultLaws.{both_true, both_false, either_false, same_bytes_ok, same_bytes_same}
use Rattle.encoding.specs.Utf8.{is_utf8, Utf8}
use Rattle.encoding.proofs.Utf8Laws.{utf8_ok}
use Rattle.encoding.specs.Types.{Ty}
use Rattle.encoding.specs.Table.{types, members, entries, kind, field, mark, tag, is_record, owns, takes, range, names_at, name_of, Fault, fine, fault, or_else, fault_at, any, header_tests, header_rules, taken_by, taken, no_base, alike, type_rules, entries_taken, allowed_rules, entries_rules, sum_rules, owner_of, tag_alike, member_rules, row_at, member_at, pass, passes, faults, search, named, base, upward, climb, chain, Member, member_ty, lookup, requireds_in, optionals_in, required_members, optional_members, own_rows, trees}
use Rattle.encoding.proofs.TableLaws.{header_most}

-- ---- passes

abbrev pub type_pass : List ℕ → Fault
type_pass T = pass (row_at T) (type_rules T) (range 0 (types T))

abbrev pub list_pass : List ℕ → Fault
list_pass T = pass (row_at T) (allowed_rules T) (range 0 (types T))

abbrev pub member_pass : List ℕ → Fault
member_pass T = pass (member_at T) (member_rules T) (range 0 (members T))

or_else_fine : (f g : Fault) → or_else f g ≡ fine → (f ≡ fine) × (g ≡ fine)
unfolding or_else
or_else_fine fine g h = (refl, h)
or_else_fine (fault c p) g h = let z : ◌≡◌ {A = ℕ} 0 1 = cc in absurd (omega arith)

fault_at_fine : (place c : ℕ) → fault_at place c ≡ fine → c ≡ 0
unfolding fault_at
fault_at_fine place zero h = refl
fault_at_fine place (suc c) h = let z : ◌≡◌ {A = ℕ} 0 1 = cc in absurd (omega arith)

pub pass_fine : (place : ℕ → ℕ) (rules : ℕ → List (ℕ × Bool)) (i k : ℕ) → pass place rules (range i k) ≡ fine → (r : ℕ) → i ≤ r → r < i + k → first_of (rules r) ≡ 0
unfolding pass range
pass_fine place rules i zero h r l m = absurd (omega arith)
pass_fine place rules i (suc k) h r l m =
    let a = or_else_fine _ _ h in
    elim (ℕ_discrete i r) [ yes e ↦ subst (λ (x : ℕ). first_of (rules x) ≡ 0) e (fault_at_fine _ (first_of (rules i)) a.0) | no e ↦ pass_fine place rules (suc i) k a.1 r (omega (arith, e)) (omega arith) ]

-- each number of a list of judgements is one
abbrev Some : ℕ → Type 0 → Type 0
Some zero X = ⊥
Some (suc n) X = X

abbrev Numbers : List (ℕ × Bool) → Type 0
Numbers [] = Unit {0}
Numbers (r ∷ rs) = Some r.0 (Numbers rs)

test_at : (l : List (ℕ × Bool)) → Numbers l → first_of l ≡ 0 → (i : ℕ) → (get_or l i (0, false)).1 ≡ false
unfolding first_of
test_at [] s h i = refl
test_at (r ∷ rs) s h zero = go r.0 r.1 s h
  where
    go : (n : ℕ) (b : Bool) → Some n (Numbers rs) → pick b n (first_of rs) ≡ 0 → b ≡ false
    go zero b s h = absurd s
    go (suc n) true s h = absurd (omega arith)
    go (suc n) false s h = refl
test_at (r ∷ rs) s h (suc i) = go r.0 r.1 s h (λ s h. test_at rs s h i)
  where
    go : (n : ℕ) (b : Bool) → Some n (Numbers rs) → pick b n (first_of rs) ≡ 0 → (Numbers rs → first_of rs ≡ 0 → (get_or rs i (0, false)).1 ≡ false) → (get_or rs i (0, false)).1 ≡ false
    go zero b s h ih = absurd s
    go (suc n) true s h ih = absurd (omega arith)
    go (suc n) false s h ih = ih s h

-- ---- some number of a range

pub any_none : (f : ℕ → Bool) (i k : ℕ) → any f (range i k) ≡ false → (r : ℕ) → i ≤ r → r < i + k → f r ≡ false
unfolding any range
any_none f i zero h r l m = absurd (omega arith)
any_none f i (suc k) h r l m =
    let a = either_false (f i) (any f (range (suc i) k)) h in
    elim (ℕ_discrete i r) [ yes e ↦ subst (λ (x : ℕ). f x ≡ false) e a.0 | no e ↦ any_none f (suc i) k a.1 r (omega (arith, e)) (omega arith) ]

-- the first of a range that passes a test
search_ok : (f : ℕ → Bool) (i k : ℕ) (r : ℕ) → search f (range i k) ≡ some r → (i ≤ r) × (r < i + k) × (f r ≡ true)
unfolding search range
search_ok f i zero r h = let z : ◌≡◌ {A = ℕ} 0 1 = cc in absurd (omega arith)
search_ok f i (suc k) r h = go (f i) refl h (λ h. search_ok f (suc i) k r h)
  where
    go : (b : Bool) → f i ≡ b → pick b (some i) (search f (range (suc i) k)) ≡ some r
        → (search f (range (suc i) k) ≡ some r → (suc i ≤ r) × (r < suc i + k) × (f r ≡ true)) → (i ≤ r) × (r < i + suc k) × (f r ≡ true)
    go true e h ih = let s : i ≡ r = cc in (omega arith, omega arith, subst (λ (x : ℕ). f x ≡ true) s e)
    go false e h ih = let s = ih h in (omega (arith, s.0), omega (arith, s.1), s.2)

search_at : (f : ℕ → Bool) (i k : ℕ) (r : ℕ) → i ≤ r → r < i + k → f r ≡ true → ((j : ℕ) → j < r → f j ≡ true → ⊥) → search f (range i k) ≡ some r
unfolding search range
search_at f i zero r l m e d = absurd (omega arith)
search_at f i (suc k) r l m e d = go (f i) refl (λ n. search_at f (suc i) k r n (omega arith) e d)
  where
    go : (b : Bool) → f i ≡ b → (suc i ≤ r → search f (range (suc i) k) ≡ some r) → pick b (some i) (search f (range (suc i) k)) ≡ some r
    go true t ih = elim (ℕ_discrete i r) [ yes s ↦ ap some s | no s ↦ absurd (d i (omega (arith, s)) t) ]
    go false t ih = elim (ℕ_discrete i r) [ yes s ↦ absurd (true≢false (sym e ∙ ap f (sym s) ∙ t)) | no s ↦ ih (omega (arith, s)) ]

-- ---- kinds

pub record_kind : (k : ℕ) → is_record k ≡ true → (k ≡ 13) ⊎ (k ≡ 14)
record_kind k h = go (eqb k 13) refl h
  where
    go : (b : Bool) → eqb k 13 ≡ b → b || eqb k 14 ≡ true → (k ≡ 13) ⊎ (k ≡ 14)
    go true e h = inl (eqb-true k 13 e)
    go false e h = inr (eqb-true k 14 h)

pub owns_record : (k : ℕ) → is_record k ≡ true → owns k ≡ true
owns_record k h = go (eqb k 9) (is_record k) (eqb k 15) h
  where
    go : (a b c : Bool) → b ≡ true → a || (b || c) ≡ true
    go true b c h = refl
    go false true c h = refl
    go false false c h = absurd (false≢true h)

-- ---- a record by its name

pub named_ok : (T nm : List ℕ) (t : ℕ) → named T nm ≡ some t → (t < types T) × (is_record (kind T t) ≡ true) × (nm ≡ name_of T t)
unfolding named
named_ok T nm t h =
    let s = search_ok (λ t. is_record (kind T t) && same_bytes nm (name_of T t)) 0 (types T) t h in
    let b = both_true (is_record (kind T t)) (same_bytes nm (name_of T t)) s.2 in
    (omega (arith, s.1), b.0, same_bytes_ok nm (name_of T t) b.1)

-- ---- chains

pub base_le : (T : List ℕ) (t : ℕ) → base T t ≤ t
unfolding base
base_le T t = go (is_record (kind T t)) (leb (field T t 2) t) refl
  where
    go : (a b : Bool) → leb (field T t 2) t ≡ b → pick (a && b) (field T t 2) 0 ≤ t
    go true true e = leb-true (field T t 2) t e
    go true false e = omega arith
    go false b e = omega arith

upward_same : (f g : ℕ → List ℕ) (t b : ℕ) → b ≤ t → ((r : ℕ) → r < t → f r ≡ g r) → upward f b ≡ upward g b
unfolding upward
upward_same f g t zero h e = refl
upward_same f g t (suc r) h e = e r h

-- any fuel above the row number gives the same
pub climb_enough : (T : List ℕ) (f g t : ℕ) → t < f → t < g → climb T f t ≡ climb T g t
unfolding climb
climb_enough T zero g t h k = absurd (omega arith)
climb_enough T (suc f) zero t h k = absurd (omega arith)
climb_enough T (suc f) (suc g) t h k =
    ap (λ (l : List ℕ). t ∷ l) (upward_same _ _ t (base T t) (base_le T t) (λ r l. climb_enough T f g r (omega arith) (omega arith)))

pub chain_node : (T : List ℕ) (t : ℕ) → chain T t ≡ t ∷ upward (chain T) (base T t)
unfolding chain climb
chain_node T t = ap (λ (l : List ℕ). t ∷ l) (upward_same _ (chain T) t (base T t) (base_le T t) (λ r l. climb_enough T t (suc r) r l (omega arith)))

-- ---- member rows and entries, in turn

module _ (f : ℕ → Bool) (count : ℕ → ℕ) where
  pub taken_by_rises : (t r : ℕ) → t ≤ r → taken_by f count t ≤ taken_by f count r
  unfolding taken_by
  taken_by_rises t zero h = let e : t ≡ 0 = omega arith in rw e (omega arith)
  taken_by_rises t (suc r) h = elim (ℕ_discrete t (suc r)) [ yes e ↦ rw e (omega arith) | no e ↦ omega (arith, taken_by_rises t r (omega (arith, e))) ]

  pub taken_by_next : (t : ℕ) → f t ≡ true → taken_by f count (suc t) ≡ taken_by f count t + count t
  unfolding taken_by
  taken_by_next t e = rw e

pub taken_rises : (T : List ℕ) (t r : ℕ) → t ≤ r → taken T t ≤ taken T r
unfolding taken
taken_rises T t r h = taken_by_rises _ _ t r h

-- an owner takes its rows
pub taken_next : (T : List ℕ) (t : ℕ) → owns (kind T t) ≡ true → taken T (suc t) ≡ taken T t + field T t 1
unfolding taken
taken_next T t o = taken_by_next _ _ t o

-- ---- the members of an owner

-- member m is one of the b rows from a on, required or not; an optional one's key is its tag
pub record Own (T : List ℕ) (a b : ℕ) (required : Bool) (m : Member) : Type 0 where
  pub from : a ≤ m.row
  pub to : m.row < a + b
  pub marked : eqb (mark T m.row) 0 ≡ required
  pub tagged : required ≡ false → m.key ≡ tag T m.row

pub own_later : {T : List ℕ} {a b : ℕ} {q : Bool} {m : Member} → Own T (suc a) b q m → Own T a (suc b) q m
own_later O = record { from = omega (arith, O.from); to = omega (arith, O.to); marked = O.marked; tagged = O.tagged }

own_here : (T : List ℕ) (a b : ℕ) (q : Bool) (this m : Member) → this ≡ m → this.row ≡ a → eqb (mark T a) 0 ≡ q → (q ≡ false → this.key ≡ tag T a) → Own T a (suc b) q m
own_here T a b q this m e r k t =
    let s : m.row ≡ a = ap (λ (x : Member). x.row) (sym e) ∙ r in
    record { from = omega arith; to = omega arith; marked = ap (λ (x : ℕ). eqb (mark T x) 0) s ∙ k; tagged = λ f. ap (λ (x : Member). x.key) (sym e) ∙ t f ∙ ap (tag T) (sym s) }

pub required_among : (T : List ℕ) (l : List Ty) (i k a b : ℕ) (m : Member) → lookup k (requireds_in T l i (range a b)) ≡ some m → Own T a b true m
unfolding requireds_in range lookup
required_among T l i k a zero m h = let z : ◌≡◌ {A = ℕ} 0 1 = cc in absurd (omega arith)
required_among T l i k a (suc b) m h =
    go (eqb (mark T a) 0) refl h (λ h. own_later (required_among T l (suc i) k (suc a) b m h)) (λ h. own_later (required_among T l i k (suc a) b m h))
  where
    this : Member
    this = record { row = a; key = i; ty = member_ty T l a }

    go₂ : eqb (mark T a) 0 ≡ true → (q : Bool) → pick q (some this) (lookup k (requireds_in T l (suc i) (range (suc a) b))) ≡ some m
        → (lookup k (requireds_in T l (suc i) (range (suc a) b)) ≡ some m → Own T a (suc b) true m) → Own T a (suc b) true m
    go₂ e true h ih = own_here T a b true this m (cc) refl e (λ f. absurd (true≢false f))
    go₂ e false h ih = ih h

    go : (q : Bool) → eqb (mark T a) 0 ≡ q → lookup k (pick q (this ∷ requireds_in T l (suc i) (range (suc a) b)) (requireds_in T l i (range (suc a) b))) ≡ some m
        → (lookup k (requireds_in T l (suc i) (range (suc a) b)) ≡ some m → Own T a (suc b) true m) → (lookup k (requireds_in T l i (range (suc a) b)) ≡ some m → Own T a (suc b) true m)
        → Own T a (suc b) true m
    go true e h ia ib = go₂ e (eqb k i) h ia
    go false e h ia ib = ib h

optional_among : (T : List ℕ) (l : List Ty) (k a b : ℕ) (m : Member) → lookup k (optionals_in T l (range a b)) ≡ some m → Own T a b false m
unfolding optionals_in range lookup
optional_among T l k a zero m h = let z : ◌≡◌ {A = ℕ} 0 1 = cc in absurd (omega arith)
optional_among T l k a (suc b) m h = go (eqb (mark T a) 0) refl h (λ h. own_later (optional_among T l k (suc a) b m h))
  where
    this : Member
    this = record { row = a; key = tag T a; ty = member_ty T l a }

    go₂ : eqb (mark T a) 0 ≡ false → (q : Bool) → pick q (some this) (lookup k (optionals_in T l (range (suc a) b))) ≡ some m
        → (lookup k (optionals_in T l (range (suc a) b)) ≡ some m → Own T a (suc b) false m) → Own T a (suc b) false m
    go₂ e true h ih = own_here T a b false this m (cc) refl e (λ f. refl)
    go₂ e false h ih = ih h

    go : (q : Bool) → eqb (mark T a) 0 ≡ q → lookup k (pick q (optionals_in T l (range (suc a) b)) (this ∷ optionals_in T l (range (suc a) b))) ≡ some m
        → (lookup k (optionals_in T l (range (suc a) b)) ≡ some m → Own T a (suc b) false m) → Own T a (suc b) false m
    go true e h ih = ih h
    go false e h ih = go₂ e (eqb k (tag T a)) h ih

module _ (T : List ℕ) (t k : ℕ) (m : Member) where
  pub required_own : lookup k (required_members T t) ≡ some m → Own T (field T t 0) (field T t 1) true m
  unfolding required_members own_rows
  required_own h = required_among T (trees T) 0 k (field T t 0) (field T t 1) m h

  pub optional_own : lookup k (optional_members T t) ≡ some m → Own T (field T t 0) (field T t 1) false m
  unfolding optional_members own_rows
  optional_own h = optional_among T (trees T) k (field T t 0) (field T t 1) m h

-- each member row is required or optional
marked_sum : (T : List ℕ) (l : List Ty) (i : ℕ) (rs : List ℕ) → length (requireds_in T l i rs) + length (optionals_in T l rs) ≡ length rs
unfolding requireds_in optionals_in
marked_sum T l i [] = omega arith
marked_sum T l i (m ∷ rs) = go (eqb (mark T m) 0) (marked_sum T l (suc i) rs) (marked_sum T l i rs)
  where
    go : (b : Bool) → length (requireds_in T l (suc i) rs) + length (optionals_in T l rs) ≡ length rs → length (requireds_in T l i rs) + length (optionals_in T l rs) ≡ length rs
        → length (pick b (record { row = m; key = i; ty = member_ty T l m } ∷ requireds_in T l (suc i) rs) (requireds_in T l i rs))
        + length (pick b (optionals_in T l rs) (record { row = m; key = tag T m; ty = member_ty T l m } ∷ optionals_in T l rs)) ≡ suc (length rs)
    go true h k = omega arith
    go false h k = omega arith

pub length_range : (i k : ℕ) → length (range i k) ≡ k
unfolding range
length_range i zero = refl
length_range i (suc k) = ap suc (length_range (suc i) k)

pub own_sum : (T : List ℕ) (t : ℕ) → length (required_members T t) + length (optional_members T t) ≡ field T t 1
unfolding required_members optional_members own_rows
own_sum T t = marked_sum T (trees T) 0 (own_rows T t) ∙ length_range (field T t 0) (field T t 1)

-- ---- owners that take the member rows in turn

module _ (T : List ℕ) (turn : (t : ℕ) → t < types T → owns (kind T t) ≡ true → field T t 0 ≡ taken T t) where
  -- the rows of an owner end before those of a later one begin
  earlier_apart : (t r : ℕ) → r < types T → owns (kind T t) ≡ true → owns (kind T r) ≡ true → t < r → field T t 0 + field T t 1 ≤ field T r 0
  earlier_apart t r l ot or h =
      omega (arith, taken_rises T (suc t) r h, taken_next T t ot, turn t (omega arith) ot, turn r l or)

  pub turn_apart : (t r m : ℕ) → t < types T → r < types T → owns (kind T t) ≡ true → owns (kind T r) ≡ true
      → field T t 0 ≤ m → m < field T t 0 + field T t 1 → field T r 0 ≤ m → m < field T r 0 + field T r 1 → t ≡ r
  turn_apart t r m lt lr ot or a b c d = elim (ℕ_discrete t r) [ yes e ↦ e | no e ↦ go (ltb t r) refl e ]
    where
      go : (q : Bool) → ltb t r ≡ q → (t ≡ r → ⊥) → t ≡ r
      go true q e = absurd (omega (arith, earlier_apart t r lr ot or (ltb-true t r q)))
      go false q e = let l : r ≤ t = ltb-false t r q in absurd (omega (arith, earlier_apart r t lt or ot (omega (arith, e))))

  module _ (t m : ℕ) (below : t < types T) (own : owns (kind T t) ≡ true) (from : field T t 0 ≤ m) (to : m < field T t 0 + field T t 1) where
    owner_among : (n : ℕ) → t < n → n ≤ types T → owner_of T m n ≡ t
    unfolding owner_of takes
    owner_among zero l h = absurd (omega arith)
    owner_among (suc n) l h = go (owns (kind T n)) refl (leb (field T n 0) m) refl (ltb m (field T n 0 + field T n 1)) refl (λ k. owner_among n k (omega arith))
      where
        here : owns (kind T n) && (leb (field T n 0) m && ltb m (field T n 0 + field T n 1)) ≡ false → t ≡ n → ⊥
        here f e =
            true≢false (sym (rw (← e, own, le-leb (field T t 0) m from, lt-ltb m (field T t 0 + field T t 1) to)) ∙ f)

        past : owns (kind T n) && (leb (field T n 0) m && ltb m (field T n 0 + field T n 1)) ≡ false → (t < n → owner_of T m n ≡ t) → owner_of T m n ≡ t
        past f ih = elim (ℕ_discrete t n) [ yes e ↦ absurd (here f e) | no e ↦ ih (omega (arith, e)) ]

        go : (a : Bool) → owns (kind T n) ≡ a → (b : Bool) → leb (field T n 0) m ≡ b → (c : Bool) → ltb m (field T n 0 + field T n 1) ≡ c
            → (t < n → owner_of T m n ≡ t) → pick (a && (b && c)) n (owner_of T m n) ≡ t
        go true ea true eb true ec ih =
            sym (turn_apart t n m below (omega arith) own ea from to (leb-true (field T n 0) m eb) (ltb-true m (field T n 0 + field T n 1) ec))
        go true ea true eb false ec ih = past (rw (ea, eb, ec)) ih
        go true ea false eb c ec ih = past (rw (ea, eb)) ih
        go false ea b eb c ec ih = past (rw ea) ih

    pub turn_owner : owner_of T m (types T) ≡ t
    turn_owner = owner_among (types T) below (omega arith)

-- ---- the tests of the header or of a row that breaks no rule

module _ (T : List ℕ) (right : header_rules T ≡ fine) where
  pub header_test : (i : ℕ) → (get_or (header_tests T) i (0, false)).1 ≡ false
  unfolding header_rules header_tests
  header_test i = test_at (header_tests T) tt (fault_at_fine 0 (first_of (header_tests T)) right) i

  types_few : types T ≤ 256
  unfolding header_tests
  types_few = ltb-false 256 (types T) (either_false (eqb (types T) 0) (ltb 256 (types T)) (header_test 3)).1

  members_few : members T ≤ 1024
  unfolding header_tests
  members_few = ltb-false 1024 (members T) (header_test 4)

pub row_test : (T : List ℕ) (t : ℕ) → first_of (type_rules T t) ≡ 0 → (i : ℕ) → (get_or (type_rules T t) i (0, false)).1 ≡ false
unfolding type_rules
row_test T t h i = test_at (type_rules T t) tt h i

-- an owner begins at the number taken before
pub row_begins : (T : List ℕ) (t : ℕ) → first_of (type_rules T t) ≡ 0 → owns (kind T t) ≡ true → field T t 0 ≡ taken T t
unfolding type_rules
row_begins T t h o =
    eqb-true (field T t 0) (taken T t) (not-false (eqb (field T t 0) (taken T t)) (both_false (owns (kind T t)) (not (eqb (field T t 0) (taken T t))) (row_test T t h 6) o))

pub list_test : (T : List ℕ) (t : ℕ) → first_of (allowed_rules T t) ≡ 0 → (i : ℕ) → (get_or (allowed_rules T t) i (0, false)).1 ≡ false
unfolding allowed_rules
list_test T t h i = test_at (allowed_rules T t) tt h i

pub entries_right : (T : List ℕ) → entries_rules T ≡ fine → entries_taken T (types T) ≡ entries T
unfolding entries_rules
entries_right T h = go (eqb (entries_taken T (types T)) (entries T)) refl (fault_at_fine 0 _ h)
  where
    go : (b : Bool) → eqb (entries_taken T (types T)) (entries T) ≡ b → ◌≡◌ {A = ℕ} (pick b 0 39) 0 → entries_taken T (types T) ≡ entries T
    go true e h = eqb-true (entries_taken T (types T)) (entries T) e
    go false e h = absurd (omega arith)

pub sum_right : (T : List ℕ) → sum_rules T ≡ fine → taken T (types T) ≡ members T
unfolding sum_rules
sum_right T h = go (eqb (taken T (types T)) (members T)) refl (fault_at_fine 0 _ h)
  where
    go : (b : Bool) → eqb (taken T (types T)) (members T) ≡ b → ◌≡◌ {A = ℕ} (pick b 0 35) 0 → taken T (types T) ≡ members T
    go true e h = eqb-true (taken T (types T)) (members T) e
    go false e h = absurd (omega arith)

pub member_row_test : (T : List ℕ) (m : ℕ) → first_of (member_rules T m) ≡ 0 → (i : ℕ) → (get_or (member_rules T m) i (0, false)).1 ≡ false
unfolding member_rules
member_row_test T m h i = test_at (member_rules T m) tt h i

-- ---- what no broken rule gives

-- a base row + 1: none, or that of a record
abbrev pub AboveRecord : List ℕ → ℕ → Type 0
AboveRecord T zero = Unit {0}
AboveRecord T (suc r) = (r < types T) × (is_record (kind T r) ≡ true)

module _ (T : List ℕ) (right : faults T ≡ fine) where
  -- each pass is fine
  pub header_right : header_rules T ≡ fine
  unfolding faults passes
  header_right = (or_else_fine (header_rules T) _ right).0

  after_header : passes (type_pass T ∷ list_pass T ∷ entries_rules T ∷ sum_rules T ∷ member_pass T ∷ []) ≡ fine
  unfolding faults passes
  after_header = (or_else_fine (header_rules T) _ right).1

  after_types : passes (list_pass T ∷ entries_rules T ∷ sum_rules T ∷ member_pass T ∷ []) ≡ fine
  unfolding passes
  after_types = (or_else_fine (type_pass T) _ after_header).1

  after_lists : passes (entries_rules T ∷ sum_rules T ∷ member_pass T ∷ []) ≡ fine
  unfolding passes
  after_lists = (or_else_fine (list_pass T) _ after_types).1

  after_entries : passes (sum_rules T ∷ member_pass T ∷ []) ≡ fine
  unfolding passes
  after_entries = (or_else_fine (entries_rules T) _ after_lists).1

  pub type_right : (t : ℕ) → t < types T → first_of (type_rules T t) ≡ 0
  unfolding passes
  type_right t l = pass_fine (row_at T) (type_rules T) 0 (types T) (or_else_fine (type_pass T) _ after_header).0 t (omega arith) (omega arith)

  pub list_right : (t : ℕ) → t < types T → first_of (allowed_rules T t) ≡ 0
  unfolding passes
  list_right t l = pass_fine (row_at T) (allowed_rules T) 0 (types T) (or_else_fine (list_pass T) _ after_types).0 t (omega arith) (omega arith)

  pub entries_whole : entries_taken T (types T) ≡ entries T
  unfolding passes
  entries_whole = entries_right T (or_else_fine (entries_rules T) _ after_lists).0

  pub taken_whole : taken T (types T) ≡ members T
  unfolding passes
  taken_whole = sum_right T (or_else_fine (sum_rules T) _ after_entries).0

  pub member_right : (m : ℕ) → m < members T → first_of (member_rules T m) ≡ 0
  unfolding passes
  member_right m l =
      pass_fine (member_at T) (member_rules T) 0 (members T) (or_else_fine (member_pass T) _ (or_else_fine (sum_rules T) _ after_entries).1).0 m (omega arith) (omega arith)

  pub types_most : types T ≤ 256
  types_most = types_few T header_right

  pub members_most : members T ≤ 1024
  members_most = members_few T header_right

  type_test : (t : ℕ) → t < types T → (i : ℕ) → (get_or (type_rules T t) i (0, false)).1 ≡ false
  type_test t l = row_test T t (type_right t l)

  pub member_test : (m : ℕ) → m < members T → (i : ℕ) → (get_or (member_rules T m) i (0, false)).1 ≡ false
  member_test m l = member_row_test T m (member_right m l)

  pub kind_known : (t : ℕ) → t < types T → kind T t ≤ 15
  unfolding type_rules
  kind_known t l = ltb-false 15 (kind T t) (type_test t l 2)

  module _ (t : ℕ) (below : t < types T) (rec : is_record (kind T t) ≡ true) where
    no_base_lem : no_base T t (field T t 2) ≡ false
    unfolding type_rules
    no_base_lem = both_false (is_record (kind T t)) (no_base T t (field T t 2)) (type_test t below 5) rec

    -- a base is a row before, of the same kind
    pub base_right : (r : ℕ) → base T t ≡ suc r → (r < t) × (kind T r ≡ kind T t)
    unfolding base no_base
    base_right r h = go (field T t 2) no_base_lem (rw rec at h)
      where
        go : (b : ℕ) → no_base T t b ≡ false → pick (leb b t) b 0 ≡ suc r → (r < t) × (kind T r ≡ kind T t)
        go zero e h = go₂ (leb 0 t) h
          where
            go₂ : (q : Bool) → ◌≡◌ {A = ℕ} (pick q 0 0) (suc r) → (r < t) × (kind T r ≡ kind T t)
            go₂ true h = absurd (omega arith)
            go₂ false h = absurd (omega arith)
        go (suc b) e h =
            let s = either_false (leb t b) (not (eqb (kind T b) (kind T t))) e in
            let l : b < t = leb-false t b s.0 in
            let q : suc b ≡ suc r = rw (le-leb (suc b) t (omega arith)) at h in
            let p : b ≡ r = omega arith in
            subst (λ (x : ℕ). (x < t) × (kind T x ≡ kind T t)) p (l, eqb-true (kind T b) (kind T t) (not-false (eqb (kind T b) (kind T t)) s.1))

    name_short : length (name_of T t) ≤ 255
    unfolding type_rules name_of
    name_short =
        let a = both_false (is_record (kind T t)) (eqb (field T t 4) 0 || ltb 255 (field T t 4)) (type_test t below 8) rec in
        let b = ltb-false 255 (field T t 4) (either_false (eqb (field T t 4) 0) (ltb 255 (field T t 4)) a).1 in
        omega (arith, b, length-take (field T t 4) (drop (names_at T + field T t 3) T))

    pub name_text : Utf8 (name_of T t)
    unfolding type_rules
    name_text = utf8_ok (name_of T t) (not-false (is_utf8 (name_of T t)) (both_false (is_record (kind T t)) _ (type_test t below 11) rec))

    earlier_differ : (r : ℕ) → r < t → is_record (kind T r) ≡ true → name_of T r ≡ name_of T t → ⊥
    unfolding type_rules alike
    earlier_differ r l e n =
        let a = both_false (is_record (kind T t)) (alike T t) (type_test t below 10) rec in
        let b = any_none (λ r. is_record (kind T r) && same_bytes (name_of T r) (name_of T t)) 0 t a r (omega arith) (omega arith) in
        true≢false (sym (same_bytes_same (name_of T r) (name_of T t) n) ∙ both_false (is_record (kind T r)) (same_bytes (name_of T r) (name_of T t)) b e)

  pub base_record : (r : ℕ) → AboveRecord T (suc r) → (b : ℕ) → base T r ≡ b → (b ≤ r) × AboveRecord T b
  base_record r R zero e = (omega arith, tt)
  base_record r R (suc q) e =
      let B = base_right r R.0 R.1 q e in
      (omega (arith, B.0), (omega (arith, B.0, R.0), ap (λ (k : ℕ). is_record k) B.1 ∙ R.1))

  pub names_differ : (t r : ℕ) → t < types T → r < types T → is_record (kind T t) ≡ true → is_record (kind T r) ≡ true → name_of T t ≡ name_of T r → t ≡ r
  names_differ t r lt lr rt rr n = elim (ℕ_discrete t r) [ yes e ↦ e | no e ↦ go (ltb t r) refl e ]
    where
      go : (b : Bool) → ltb t r ≡ b → (t ≡ r → ⊥) → t ≡ r
      go true q e = absurd (earlier_differ r lr rr t (ltb-true t r q) rt n)
      go false q e = let l : r ≤ t = ltb-false t r q in absurd (earlier_differ t lt rt r (omega (arith, e)) rr (sym n))

  pub named_at : (t : ℕ) → t < types T → is_record (kind T t) ≡ true → named T (name_of T t) ≡ some t
  unfolding named
  named_at t l e =
      search_at (λ r. is_record (kind T r) && same_bytes (name_of T t) (name_of T r)) 0 (types T) t (omega arith) (omega arith)
      (rw (e, same_bytes_same (name_of T t) (name_of T t) refl))
      (λ j m f.
      let b = both_true (is_record (kind T j)) (same_bytes (name_of T t) (name_of T j)) f in
      earlier_differ t l e j m b.0 (sym (same_bytes_ok (name_of T t) (name_of T j) b.1)))

  pub named_short : (nm : List ℕ) (t : ℕ) → named T nm ≡ some t → length nm ≤ 255
  named_short nm t e = let n = named_ok T nm t e in subst (λ (l : List ℕ). length l ≤ 255) (sym n.2) (name_short t n.0 n.1)

  pub named_text : (nm : List ℕ) (t : ℕ) → named T nm ≡ some t → Utf8 nm
  named_text nm t e = let n = named_ok T nm t e in subst Utf8 (sym n.2) (name_text t n.0 n.1)

  pub taken_at : (t : ℕ) → t < types T → owns (kind T t) ≡ true → field T t 0 ≡ taken T t
  taken_at t l = row_begins T t (type_right t l)

  pub rows_apart : (t r m : ℕ) → t < types T → r < types T → owns (kind T t) ≡ true → owns (kind T r) ≡ true
      → field T t 0 ≤ m → m < field T t 0 + field T t 1 → field T r 0 ≤ m → m < field T r 0 + field T r 1 → t ≡ r
  rows_apart = turn_apart T taken_at

  pub rows_there : (t m : ℕ) → t < types T → owns (kind T t) ≡ true → m < field T t 0 + field T t 1 → m < members T
  rows_there t m l o h = omega (arith, taken_rises T (suc t) (types T) l, taken_next T t o, taken_at t l o, taken_whole)

  module _ (t m : ℕ) (below : t < types T) (own : owns (kind T t) ≡ true) (from : field T t 0 ≤ m) (to : m < field T t 0 + field T t 1) where
    pub owner_at : owner_of T m (types T) ≡ t
    owner_at = turn_owner T taken_at t m below own from to

    pub mark_known : mark T m ≤ 1
    unfolding member_rules
    mark_known = ltb-false 1 (mark T m) (member_test m (rows_there t m below own to) 3)

    -- a member row before it of the same owner, optional too, has another tag
    tags_earlier : (i : ℕ) → field T t 0 ≤ i → i < m → mark T i ≡ 1 → mark T m ≡ 1 → tag T i ≡ tag T m → ⊥
    unfolding member_rules tag_alike
    tags_earlier i l h a b e =
        let s = both_false (eqb (mark T m) 1) (tag_alike T (owner_of T m (types T)) m) (member_test m (rows_there t m below own to) 6) (eq-eqb (mark T m) 1 b) in
        let u : tag_alike T t m ≡ false = rw owner_at at s in
        let v = any_none (λ i. eqb (mark T i) 1 && eqb (tag T i) (tag T m)) (field T t 0) (m - field T t 0) u i l (omega arith) in
        eqb-false (tag T i) (tag T m) (both_false (eqb (mark T i) 1) (eqb (tag T i) (tag T m)) v (eq-eqb (mark T i) 1 a)) e

  pub tags_differ : (t m i : ℕ) → t < types T → owns (kind T t) ≡ true → field T t 0 ≤ m → m < field T t 0 + field T t 1 → field T t 0 ≤ i → i < field T t 0 + field T t 1
      → mark T m ≡ 1 → mark T i ≡ 1 → tag T m ≡ tag T i → m ≡ i
  tags_differ t m i l o a b c d p q e = elim (ℕ_discrete m i) [ yes s ↦ s | no s ↦ go (ltb m i) refl s ]
    where
      go : (r : Bool) → ltb m i ≡ r → (m ≡ i → ⊥) → m ≡ i
      go true r s = absurd (tags_earlier t i l o c d m a (ltb-true m i r) p q e)
      go false r s = let h : i ≤ m = ltb-false m i r in absurd (tags_earlier t m l o a b i c (omega (arith, s)) q p (sym e))

-- ---- the place of a broken rule

pub or_else_fault : (f g : Fault) (c p : ℕ) → or_else f g ≡ fault c p → (f ≡ fault c p) ⊎ ((f ≡ fine) × (g ≡ fault c p))
unfolding or_else
or_else_fault fine g c p h = inr (refl, h)
or_else_fault (fault d q) g c p h = inl h

pub fault_at_place : (place n c p : ℕ) → fault_at place n ≡ fault c p → p ≡ place
unfolding fault_at
fault_at_place place zero c p h = let z : ◌≡◌ {A = ℕ} 0 1 = cc in absurd (omega arith)
fault_at_place place (suc n) c p h = cc

pass_place : (place : ℕ → ℕ) (rules : ℕ → List (ℕ × Bool)) (most i k : ℕ) → ((r : ℕ) → r < i + k → place r ≤ most) → (c p : ℕ) → pass place rules (range i k) ≡ fault c p → p ≤ most
unfolding pass range
pass_place place rules most i zero all c p h = let z : ◌≡◌ {A = ℕ} 0 1 = cc in absurd (omega arith)
pass_place place rules most i (suc k) all c p h = go (or_else_fault (fault_at (place i) (first_of (rules i))) _ c p h) (λ e. pass_place place rules most (suc i) k (λ r l. all r (omega arith)) c p e)
  where
    go : (fault_at (place i) (first_of (rules i)) ≡ fault c p) ⊎ ((fault_at (place i) (first_of (rules i)) ≡ fine) × (pass place rules (range (suc i) k) ≡ fault c p))
        → (pass place rules (range (suc i) k) ≡ fault c p → p ≤ most) → p ≤ most
    go (inl e) rest = omega (arith, fault_at_place (place i) (first_of (rules i)) c p e, all i (omega arith))
    go (inr e) rest = rest e.1

-- a broken rule is at 0 or at the first byte of a row; there are at most 256 type rows and 1,024 member rows
pub fault_place : (T : List ℕ) (c p : ℕ) → faults T ≡ fault c p → p ≤ 65536
unfolding faults passes header_rules entries_rules sum_rules
fault_place T c p h = ⊎_elim (λ e. omega (arith, fault_at_place 0 (first_of (header_tests T)) c p e)) (λ e. rest e.0 e.1) (or_else_fault (header_rules T) _ c p h)
  where
    rest : header_rules T ≡ fine → passes (type_pass T ∷ list_pass T ∷ entries_rules T ∷ sum_rules T ∷ member_pass T ∷ []) ≡ fault c p → p ≤ 65536
    rest e k =
        ⊎_elim (λ z. of_row (type_rules T) z) (λ z.
        ⊎_elim (λ z. of_row (allowed_rules T) z) (λ z.
        ⊎_elim (λ z. omega (arith, fault_at_place 0 _ c p z)) (λ z.
        ⊎_elim (λ z. omega (arith, fault_at_place 0 _ c p z)) (λ z.
        ⊎_elim of_member (λ z. let u : ◌≡◌ {A = ℕ} 0 1 = cc in absurd (omega arith))
        (or_else_fault (member_pass T) fine c p z.1))
        (or_else_fault (sum_rules T) _ c p z.1))
        (or_else_fault (entries_rules T) _ c p z.1))
        (or_else_fault (list_pass T) _ c p z.1))
        (or_else_fault (type_pass T) _ c p k)
      where
        of_row : (rules : ℕ → List (ℕ × Bool)) → pass (row_at T) rules (range 0 (types T)) ≡ fault c p → p ≤ 65536
        of_row rules z = pass_place (row_at T) rules 65536 0 (types T) (λ r l. omega (arith, header_most T, types_few T e)) c p z

        of_member : member_pass T ≡ fault c p → p ≤ 65536
        of_member z = pass_place (member_at T) (member_rules T) 65536 0 (members T) (λ r l. omega (arith, header_most T, types_few T e, members_few T e)) c p z
