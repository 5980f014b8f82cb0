-- A type table that breaks no rule, said by properties in document 01's words, apart from the passes of `Table.faults`.
-- Each record below is one class of rules (31 to 39, as in `Table`) or puts classes together; only the layout is shared with `Table`.
--
--   RecordKind k, OwnerKind k    exceptions and classes; kinds whose rows take member rows
--   Uses T k n                   a row of kind k uses its first n fields
--   ValuePart T t r              r is a row before t of a value's kind: what an element, a key, a value or a member may be
--   EndsBefore                   rows take something one after another: where those before a row end
--   TakenBefore T t n            the rows before t take the member rows before n
--   HasList T t, EntriesBefore T t n   row t is an enum of version 2; the lists of the rows before t take the entries before n
--   Owner T o m                  row o takes member row m
--   ValidHeader T                31: the header and the lengths
--   TypeZeros .. TypeEnumerator  32 to 38: what each class asks of a type row; ValidType T t all of it
--   ValidList T t, TypeList T t  39: what is asked of a list; of the list of row t, if it has one
--   MemberZeros .. MemberTag     32, 34, 36, 38: what each class asks of a member row of owner o; ValidMember T o m all of it
--   BrokenType T t c             type row t breaks a rule of class c and keeps those of the classes before; BrokenMember T o m c
--   Valid T                      the whole table
--   FirstBroken T c p            the first broken rule is of class c and at p: of the header, of a type row, of a list, of the entries, of the member sum, of a member row
use Rattle.std.specs.Prelude.{◌≡◌, List, [], ◌∷◌, ℕ, suc, ◌+◌, ◌*◌, ◌^◌, ◌≤◌, ◌<◌, length, take}
use Rattle.encoding.specs.Utf8.{Utf8}
use Rattle.encoding.specs.Table.{at, version, types, members, names, entries, row_at, member_at, list_entry, kind, field, member_type, mark, tag, name_of}

-- ---- kinds

-- exception, class
pub data RecordKind (k : ℕ) : Type 0 where
  is_exception : k ≡ 13 → RecordKind k
  is_class : k ≡ 14 → RecordKind k

-- rows of kinds 9, 13, 14 and 15 take the member rows
pub data OwnerKind (k : ℕ) : Type 0 where
  is_struct : k ≡ 9 → OwnerKind k
  is_record_lem : RecordKind k → OwnerKind k
  is_parameters : k ≡ 15 → OwnerKind k

-- how many of the fields a, b, c, d, e a kind uses, from a on; version 2 has lists, which an enum's c and d name
pub data Uses (T : List ℕ) (k : ℕ) : ℕ → Type 0 where
  of_basic : k ≤ 7 → Uses T k 0
  of_enum : k ≡ 8 → (version T ≡ 2 → ⊥) → Uses T k 2
  of_listed : k ≡ 8 → version T ≡ 2 → Uses T k 4
  of_struct : k ≡ 9 → Uses T k 2
  of_sequence : k ≡ 10 → Uses T k 1
  of_dictionary : k ≡ 11 → Uses T k 2
  of_proxy : k ≡ 12 → Uses T k 0
  of_record : RecordKind k → Uses T k 5
  of_parameters : k ≡ 15 → Uses T k 2

-- ---- rows and their references

-- references go only to rows of a smaller number; member, element, key and value types are of kinds 0..12
pub record ValuePart (T : List ℕ) (t r : ℕ) : Type 0 where
  pub smaller : r < t
  pub value_kind : kind T r ≤ 12

-- no row from r on and before t has the property
abbrev pub NoneFrom : (ℕ → Type 0) → ℕ → ℕ → Type 0
NoneFrom P r t = (s : ℕ) → r ≤ s → s < t → P s → ⊥

-- rows of a property take something one after another, each so many from its first on: the last such row before t ends at n, or there is none before t and n is 0
pub data EndsBefore (P : ℕ → Type 0) (first count : ℕ → ℕ) (t n : ℕ) : Type 0 where
  none_before : NoneFrom P 0 t → n ≡ 0 → EndsBefore P first count t n
  last_before : (r : ℕ) → r < t → P r → NoneFrom P (suc r) t → n ≡ first r + count r → EndsBefore P first count t n

-- owners take the member rows: a first member, b count
abbrev pub TakenBefore : List ℕ → ℕ → ℕ → Type 0
TakenBefore T = EndsBefore (λ t. OwnerKind (kind T t)) (λ t. field T t 0) (λ t. field T t 1)

-- an enum of version 2
pub record HasList (T : List ℕ) (t : ℕ) : Type 0 where
  pub of_version : version T ≡ 2
  pub an_enum : kind T t ≡ 8

-- lists take the entries: c first entry, d count
abbrev pub EntriesBefore : List ℕ → ℕ → ℕ → Type 0
EntriesBefore T = EndsBefore (HasList T) (λ t. field T t 2) (λ t. field T t 3)

-- a first member, b count
pub record Owner (T : List ℕ) (o m : ℕ) : Type 0 where
  pub there : o < types T
  pub owner_kind : OwnerKind (kind T o)
  pub from : field T o 0 ≤ m
  pub to : m < field T o 0 + field T o 1

-- ---- the header

-- version 1: 12 bytes, then T rows of 12 bytes, M of 8, N name bytes, and nothing more;
-- version 2: 14 bytes, the last two E, 0..1,024; after the names E entries of 4 bytes, and nothing more
pub data ValidVersion (T : List ℕ) : Type 0 where
  version_1 : at T 2 3 ≡ 1 → length T ≡ 12 + 12 * types T + 8 * members T + names T → ValidVersion T
  version_2 : at T 2 3 ≡ 2 → at T 2 12 ≤ 1024 → length T ≡ 14 + 12 * types T + 8 * members T + names T + 4 * at T 2 12 → ValidVersion T

-- 31: mark FGT; version 1 or 2, and its length; T 1..256, M 0..1,024, N 0..8,192; a zero byte
pub record ValidHeader (T : List ℕ) : Type 0 where
  pub opening : take 3 T ≡ 70 ∷ 71 ∷ 84 ∷ []
  pub versioned : ValidVersion T
  pub types_least : 1 ≤ types T
  pub types_most : types T ≤ 256
  pub members_most : members T ≤ 1024
  pub names_most : names T ≤ 8192
  pub zero_byte : at T 1 11 ≡ 0

-- ---- a type row

-- 32: the zero byte, and unused fields are zero
pub record TypeZeros (T : List ℕ) (t : ℕ) : Type 0 where
  pub zero_byte : at T 1 (row_at T t + 1) ≡ 0
  pub unused : (n : ℕ) → Uses T (kind T t) n → (i : ℕ) → n ≤ i → i < 5 → field T t i ≡ 0

-- 33: a known kind
abbrev pub TypeKnown : List ℕ → ℕ → Type 0
TypeKnown T t = kind T t ≤ 15

-- 34: a sequence's element; a dictionary's key and value; a record's base, its row + 1 or 0, of the same kind
pub record TypeReferences (T : List ℕ) (t : ℕ) : Type 0 where
  pub element : kind T t ≡ 10 → ValuePart T t (field T t 0)
  pub key : kind T t ≡ 11 → ValuePart T t (field T t 0)
  pub value : kind T t ≡ 11 → ValuePart T t (field T t 1)
  pub base : RecordKind (kind T t) → (r : ℕ) → field T t 2 ≡ suc r → (r < t) × (kind T r ≡ kind T t)

-- 35: an owner's a is the number taken before, also where b is 0
abbrev pub TypeTurn : List ℕ → ℕ → Type 0
TypeTurn T t = OwnerKind (kind T t) → TakenBefore T t (field T t 0)

-- 36: a struct has at least one member
abbrev pub TypeFilled : List ℕ → ℕ → Type 0
TypeFilled T t = kind T t ≡ 9 → 1 ≤ field T t 1

-- a name is 1..255 bytes long, lies within the name bytes, no earlier record has it, and it is text
pub record TypeName (T : List ℕ) (t : ℕ) : Type 0 where
  pub some : 1 ≤ field T t 4
  pub most : field T t 4 ≤ 255
  pub inside : field T t 3 + field T t 4 ≤ names T
  pub new : (r : ℕ) → r < t → RecordKind (kind T r) → name_of T r ≡ name_of T t → ⊥
  pub is_text : Utf8 (name_of T t)

-- 37: a record has a name like this
abbrev pub TypeNamed : List ℕ → ℕ → Type 0
TypeNamed T t = RecordKind (kind T t) → TypeName T t

-- 38: the greatest enumerator is at most 2^31 - 1
abbrev pub TypeEnumerator : List ℕ → ℕ → Type 0
TypeEnumerator T t = kind T t ≡ 8 → field T t 0 + 65536 * field T t 1 < 2 ^ 31

-- a type row keeps the rules of each class
pub record ValidType (T : List ℕ) (t : ℕ) : Type 0 where
  pub zeros : TypeZeros T t
  pub known : TypeKnown T t
  pub references : TypeReferences T t
  pub in_turn : TypeTurn T t
  pub filled : TypeFilled T t
  pub name : TypeNamed T t
  pub enumerator : TypeEnumerator T t

-- what is wrong with a type row, by class: it keeps the rules of the classes before, and breaks one of this class
pub data BrokenType (T : List ℕ) (t : ℕ) : ℕ → Type 0 where
  wrong_zeros : (TypeZeros T t → ⊥) → BrokenType T t 32
  unknown_kind : TypeZeros T t → (TypeKnown T t → ⊥) → BrokenType T t 33
  wrong_reference : TypeZeros T t → TypeKnown T t → (TypeReferences T t → ⊥) → BrokenType T t 34
  out_of_turn : TypeZeros T t → TypeKnown T t → TypeReferences T t → (TypeTurn T t → ⊥) → BrokenType T t 35
  empty_struct : TypeZeros T t → TypeKnown T t → TypeReferences T t → TypeTurn T t → (TypeFilled T t → ⊥) → BrokenType T t 36
  wrong_name : TypeZeros T t → TypeKnown T t → TypeReferences T t → TypeTurn T t → TypeFilled T t → (TypeNamed T t → ⊥) → BrokenType T t 37
  great_enumerator : TypeZeros T t → TypeKnown T t → TypeReferences T t → TypeTurn T t → TypeFilled T t → TypeNamed T t → (TypeEnumerator T t → ⊥) → BrokenType T t 38

-- ---- a list

-- a list begins where the lists of the rows before end, has at least one entry and ends within the entries; it rises strictly, and its last entry is the greatest enumerator
pub record ValidList (T : List ℕ) (t : ℕ) : Type 0 where
  pub in_turn : EntriesBefore T t (field T t 2)
  pub some : 1 ≤ field T t 3
  pub inside : field T t 2 + field T t 3 ≤ entries T
  pub rises : (i : ℕ) → suc i < field T t 3 → list_entry T (field T t 2 + i) < list_entry T (field T t 2 + suc i)
  pub last : (i : ℕ) → suc i ≡ field T t 3 → list_entry T (field T t 2 + i) ≡ field T t 0 + 65536 * field T t 1

-- 39: a row that has a list has such a list
abbrev pub TypeList : List ℕ → ℕ → Type 0
TypeList T t = HasList T t → ValidList T t

-- ---- a member row

-- 32: the zero byte, and a required member's tag is 0
pub record MemberZeros (T : List ℕ) (m : ℕ) : Type 0 where
  pub zero_byte : at T 1 (member_at T m + 3) ≡ 0
  pub untagged : mark T m ≡ 0 → tag T m ≡ 0

-- 34: its type is a row before the owner, of kinds 0..12
abbrev pub MemberReference : List ℕ → ℕ → ℕ → Type 0
MemberReference T o m = ValuePart T o (member_type T m)

-- 36: required or optional; the members of a struct are all required
pub record MemberMark (T : List ℕ) (o m : ℕ) : Type 0 where
  pub known : mark T m ≤ 1
  pub in_struct : kind T o ≡ 9 → mark T m ≡ 0

-- 38: a tag is at most 2^31 - 1, and no earlier optional of the owner has it
pub record MemberTag (T : List ℕ) (o m : ℕ) : Type 0 where
  pub small : tag T m < 2 ^ 31
  pub new : mark T m ≡ 1 → (i : ℕ) → i < m → Owner T o i → mark T i ≡ 1 → tag T i ≡ tag T m → ⊥

-- a member row of owner o keeps the rules of each class
pub record ValidMember (T : List ℕ) (o m : ℕ) : Type 0 where
  pub zeros : MemberZeros T m
  pub type : MemberReference T o m
  pub marked : MemberMark T o m
  pub tagged : MemberTag T o m

-- what is wrong with a member row, by class, as of a type row
pub data BrokenMember (T : List ℕ) (o m : ℕ) : ℕ → Type 0 where
  wrong_spare : (MemberZeros T m → ⊥) → BrokenMember T o m 32
  wrong_type : MemberZeros T m → (MemberReference T o m → ⊥) → BrokenMember T o m 34
  wrong_mark : MemberZeros T m → MemberReference T o m → (MemberMark T o m → ⊥) → BrokenMember T o m 36
  wrong_tag : MemberZeros T m → MemberReference T o m → MemberMark T o m → (MemberTag T o m → ⊥) → BrokenMember T o m 38

-- ---- the table

-- 39 and 35 besides: the entries and the member rows are all taken, none left over
pub record Valid (T : List ℕ) : Type 0 where
  pub header : ValidHeader T
  pub type : (t : ℕ) → t < types T → ValidType T t
  pub list : (t : ℕ) → t < types T → TypeList T t
  pub all_listed : EntriesBefore T (types T) (entries T)
  pub all_taken : TakenBefore T (types T) (members T)
  pub member : (o m : ℕ) → Owner T o m → ValidMember T o m

-- ---- the first broken rule

-- every type row is valid up to row n
abbrev pub TypesValid : List ℕ → ℕ → Type 0
TypesValid T n = (t : ℕ) → t < n → ValidType T t

-- every list is valid up to row n
abbrev pub ListsValid : List ℕ → ℕ → Type 0
ListsValid T n = (t : ℕ) → t < n → TypeList T t

-- what the passes before the member sum judge is valid
pub record RowsValid (T : List ℕ) : Type 0 where
  pub header : ValidHeader T
  pub type : TypesValid T (types T)
  pub list : ListsValid T (types T)
  pub all_listed : EntriesBefore T (types T) (entries T)

-- the first broken rule has class c and is at place p. The order is header, type rows, lists, entries left over at place 0, member sum at place 0, member rows: each row before is valid.
-- A rule over two rows is judged at the later, one on a member at its member row, one on a list at its enum row; a row's place is its first byte.
pub data FirstBroken (T : List ℕ) (c p : ℕ) : Type 0 where
  in_header : (ValidHeader T → ⊥) → c ≡ 31 → p ≡ 0 → FirstBroken T c p
  in_type : ValidHeader T → (t : ℕ) → t < types T → TypesValid T t → BrokenType T t c → p ≡ row_at T t → FirstBroken T c p
  in_list : ValidHeader T → TypesValid T (types T) → (t : ℕ) → t < types T → ListsValid T t → (TypeList T t → ⊥) → c ≡ 39 → p ≡ row_at T t → FirstBroken T c p
  in_entries : ValidHeader T → TypesValid T (types T) → ListsValid T (types T) → (EntriesBefore T (types T) (entries T) → ⊥) → c ≡ 39 → p ≡ 0 → FirstBroken T c p
  in_sum : RowsValid T → (TakenBefore T (types T) (members T) → ⊥) → c ≡ 35 → p ≡ 0 → FirstBroken T c p
  in_member : RowsValid T → TakenBefore T (types T) (members T) → (o m : ℕ) → Owner T o m
      → ((q i : ℕ) → i < m → Owner T q i → ValidMember T q i) → BrokenMember T o m c → p ≡ member_at T m → FirstBroken T c p
