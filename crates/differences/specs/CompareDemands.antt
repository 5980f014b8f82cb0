-- What is promised of comparing two tables (M-109), each promise in full, to be read without its proof.
--
--   CompareYes       the further answer is yes exactly if the new table extends the old one and the tops match, given room
--   ShippedSafely    so a yes is demand 3 for these tables
--   CompareEqual     equal tables and tops give yes and an empty list
--   Paired           what is set against each other: records of one kind and name, the k-th parameter lists
--   Differs          a difference, said apart from the list: its five numbers, and its position or tag among the members
--   Before           the order of differences
--   CompareFinds     the list holds exactly the differences
--   CompareOrder     each difference comes before all later ones, so each is listed once
--   OrderStrict      no difference comes before itself
--   CompareRefused   when 1, 2 and 19 come, and where
use Rattle.std.specs.Prelude.{◌≡◌, true, false, ◌⊎◌, List, [], ◌∷◌, ℕ, zero, suc, ◌+◌, ◌≤◌, ◌<◌, length, get_or, eqb}
use Rattle.encoding.specs.Result.{ok, pick}
use Rattle.encoding.specs.Table.{types, kind, is_record, Fault, fine, fault, faults, rule_number, Member, lookup, name_of, base}
use Rattle.encoding.specs.Table
use Rattle.encoding.specs.Message.{no_top, Pieces, v11, rules}
use Rattle.encoding.specs.Slice.{Format}
use Rattle.encoding.specs.Number.{Bytes}
use Rattle.laws.specs.Demands.{read_as, Foreign, Understood}
use Rattle.encoding.specs.Extends.{Extends, TopsMatch, SameRecord, BasesMatch, type_of}
use Rattle.differences.specs.Compare.{Difference, differences, precedes, member_row, difference_room, incomparable, comparing}

-- ---- yes

-- Both directions, over table bytes and any tops; the tables break no rule and the tops are tops, since Extends and TopsMatch say so.
-- Rules out an answer that is always no, and one that only looks at the list of differences.
abbrev pub CompareYes : Type 0
CompareYes =
    (old : List ℕ) (t : ℕ) (new : List ℕ) (u bytes : ℕ)
    → ((comparing old t new u bytes).extends ≡ true → Extends old new × TopsMatch old new t u)
    × (Extends old new → TopsMatch old new t u → length (differences old new) ≤ difference_room bytes → (comparing old t new u bytes).extends ≡ true)

-- so a yes is demand 3 for these tables: an old hub reads every message of 1.1 that the new table accepts, but for a compact record of a type that it lacks
abbrev pub ShippedSafely : Type 0
ShippedSafely =
    (old : List ℕ) (t : ℕ) (new : List ℕ) (u bytes : ℕ) → (comparing old t new u bytes).extends ≡ true
    → (m : List ℕ) (f : Format) (p : Pieces) (taken : ℕ) → Bytes m → rules new u m ≡ ok (read_as (v11 f) p) taken → ((place : ℕ) → Foreign old f p place → ⊥) → Understood old new t u m f p

-- equal tables and tops give yes and an empty list
abbrev pub CompareEqual : Type 0
CompareEqual =
    (T : List ℕ) (t bytes : ℕ) → faults T ≡ fine → no_top T t ≡ false → comparing T t T t bytes ≡ record { refusal = 0; place = 0; found = []; extends = true }

-- ---- the differences

-- the parameter lists before row t
unfoldable pub lists_before : List ℕ → ℕ → ℕ
lists_before T zero = 0
lists_before T (suc t) = lists_before T t + pick (eqb (kind T t) 15) 1 0

-- row t is parameter list number k, from 0
pub record ListNumber (T : List ℕ) (t k : ℕ) : Type 0 where
  pub inside : t < types T
  pub a_list : kind T t ≡ 15
  pub number : lists_before T t ≡ k

-- what is set against each other
pub data Paired (old new : List ℕ) (t u : ℕ) : Type 0 where
  as_records : t < types old → SameRecord old new t u → Paired old new t u
  as_lists : (k : ℕ) → ListNumber old t k → ListNumber new u k → Paired old new t u

-- members of a key differ: only one is there, or their types disagree
abbrev pub MembersDiffer : List Member → List Member → ℕ → Type 0
MembersDiffer ms ns k = type_of (lookup k ms) ≡ type_of (lookup k ns) → ⊥

abbrev pub five : (what owner owner' member member' : ℕ) → Difference
five w o n m m' = record { what = w; owner = o; owner' = n; member = m; member' = m' }

-- a difference, and its position or tag among the members of its owners (0 for owners and bases)
pub data Differs (old new : List ℕ) : Difference → ℕ → Type 0 where
  record_only_old : (t : ℕ) → t < types old → is_record (kind old t) ≡ true → ((u : ℕ) → SameRecord old new t u → ⊥) → Differs old new (five 0 (suc t) 0 0 0) 0
  record_only_new : (u : ℕ) → u < types new → is_record (kind new u) ≡ true → ((t : ℕ) → t < types old → SameRecord old new t u → ⊥) → Differs old new (five 0 0 (suc u) 0 0) 0
  list_only_old : (t k : ℕ) → ListNumber old t k → lists_before new (types new) ≤ k → Differs old new (five 0 (suc t) 0 0 0) 0
  list_only_new : (u k : ℕ) → ListNumber new u k → lists_before old (types old) ≤ k → Differs old new (five 0 0 (suc u) 0 0) 0
  base_differs : (t u : ℕ) → Paired old new t u → (BasesMatch old new (base old t) (base new u) → ⊥) → Differs old new (five 1 (suc t) (suc u) 0 0) 0
  required_differs : (t u k : ℕ) → Paired old new t u → MembersDiffer (Table.required_members old t) (Table.required_members new u) k
      → Differs old new (five 2 (suc t) (suc u) (member_row (lookup k (Table.required_members old t))) (member_row (lookup k (Table.required_members new u)))) k
  optional_differs : (t u k : ℕ) → Paired old new t u → MembersDiffer (Table.optional_members old t) (Table.optional_members new u) k
      → Differs old new (five 3 (suc t) (suc u) (member_row (lookup k (Table.optional_members old t))) (member_row (lookup k (Table.optional_members new u)))) k

-- an element of a list
abbrev pub In : {A : Type 0} → A → List A → Type 0
In a [] = ⊥
In a (b ∷ l) = (a ≡ b) ⊎ In a l

-- Rules out a list that leaves out differences, makes some up, or lists the members of an owner that is only in one table.
abbrev pub CompareFinds : Type 0
CompareFinds =
    (old new : List ℕ) (d : Difference) → faults old ≡ fine → faults new ≡ fine
    → (In d (differences old new) → (k : ℕ) × Differs old new d k) × ((k : ℕ) → Differs old new d k → In d (differences old new))

-- ---- their order

-- the owner of a difference is a record of this name, in the old table or the new one
pub data Named (old new : List ℕ) (d : Difference) (name : List ℕ) : Type 0 where
  of_old : (t : ℕ) → d.owner ≡ suc t → is_record (kind old t) ≡ true → name_of old t ≡ name → Named old new d name
  of_new : (u : ℕ) → d.owner ≡ 0 → d.owner' ≡ suc u → is_record (kind new u) ≡ true → name_of new u ≡ name → Named old new d name

-- the owner of a difference is parameter list number k
pub data Numbered (old new : List ℕ) (d : Difference) (k : ℕ) : Type 0 where
  of_old : (t : ℕ) → d.owner ≡ suc t → ListNumber old t k → Numbered old new d k
  of_new : (u : ℕ) → d.owner ≡ 0 → d.owner' ≡ suc u → ListNumber new u k → Numbered old new d k

-- by record name, for one name in two kinds the old table's first; parameter lists after records, by their order; then base, required position, tag
pub data Before (old new : List ℕ) (d e : Difference) : Type 0 where
  by_name : {x y : List ℕ} → Named old new d x → Named old new e y → precedes x y ≡ true → Before old new d e
  old_first : {x : List ℕ} → Named old new d x → Named old new e x → d.owner' ≡ 0 → e.owner ≡ 0 → Before old new d e
  records_first : {x : List ℕ} {k : ℕ} → Named old new d x → Numbered old new e k → Before old new d e
  by_number : {j k : ℕ} → Numbered old new d j → Numbered old new e k → j < k → Before old new d e
  by_what : d.owner ≡ e.owner → d.owner' ≡ e.owner' → d.what < e.what → Before old new d e
  by_place : {j k : ℕ} → d.owner ≡ e.owner → d.owner' ≡ e.owner' → d.what ≡ e.what → Differs old new d j → Differs old new e k → j < k → Before old new d e

-- difference i of a list
abbrev pub difference_at : List Difference → ℕ → Difference
difference_at l i = get_or l i (five 0 0 0 0 0)

abbrev pub CompareOrder : Type 0
CompareOrder =
    (old new : List ℕ) (i j : ℕ) → faults old ≡ fine → faults new ≡ fine → i < j → j < length (differences old new)
    → Before old new (difference_at (differences old new) i) (difference_at (differences old new) j)

-- the order is strict, so CompareOrder says that every difference is listed once
abbrev pub OrderStrict : Type 0
OrderStrict = (old new : List ℕ) (d : Difference) → faults old ≡ fine → faults new ≡ fine → Before old new d d → ⊥

-- ---- refusals and bounds

-- when each refusal comes, and that there is no other
pub record CompareRefusals (old : List ℕ) (t : ℕ) (new : List ℕ) (u bytes : ℕ) : Type 0 where
  pub old_broken : (c p : ℕ) → faults old ≡ fault c p → comparing old t new u bytes ≡ incomparable (rule_number c) p
  pub new_broken : (c p : ℕ) → faults old ≡ fine → faults new ≡ fault c p → comparing old t new u bytes ≡ incomparable (rule_number c) (p + 1000000)
  pub no_old_top : faults old ≡ fine → faults new ≡ fine → no_top old t ≡ true → comparing old t new u bytes ≡ incomparable 2 0
  pub no_new_top : faults old ≡ fine → faults new ≡ fine → no_top new u ≡ true → comparing old t new u bytes ≡ incomparable 2 0
  pub short_list : faults old ≡ fine → faults new ≡ fine → no_top old t ≡ false → no_top new u ≡ false → difference_room bytes < length (differences old new)
      → comparing old t new u bytes ≡ incomparable 19 (length (differences old new))
  pub compared : faults old ≡ fine → faults new ≡ fine → no_top old t ≡ false → no_top new u ≡ false → length (differences old new) ≤ difference_room bytes
      → ((comparing old t new u bytes).refusal ≡ 0) × ((comparing old t new u bytes).found ≡ differences old new)

abbrev pub CompareRefused : Type 0
CompareRefused = (old : List ℕ) (t : ℕ) (new : List ℕ) (u bytes : ℕ) → CompareRefusals old t new u bytes
