-- Two tables compared (M-109): every difference, and whether the new table extends the old one.
--
--   same_ty, same_tys      types agree: equal trees
--   precedes             the order of names: unsigned bytes, a prefix first
--   insert, ordered      a list put in order by a test; what is alike keeps its order
--   rows_of               the rows of a table that pass a test
--   partner              the record of the other table with a record's kind and name
--   Pair                 what is set against each other: row + 1, or 0 for none
--   record_pairs, list_pairs   the records by name, the old table's first; the parameter lists by their order
--   Difference           five numbers: what, old and new owner, old and new member, each + 1 or 0 for none
--   base_difference, required_differences, optional_differences, differences
--   same_record, owners_match, matched_by, all_matched, tops_match, extending     document 01's "extends" and the match of the tops, as tests
--   Comparison, comparing    the call's answer: 1, 1 with the place + 1,000,000, 2, 19; differences_listed: the lent list after it
use Rattle.std.specs.Prelude.{Bool, true, false, ◌&&◌, ◌||◌, not, List, [], ◌∷◌, ◌++◌, ℕ, zero, suc, ◌+◌, ◌*◌, ◌/◌, length, drop, eqb, leb, ltb}
use Rattle.std.proofs.Math.Option.{Option, none, some}
use Rattle.encoding.specs.Result.{pick, same_bytes, concat}
use Rattle.encoding.specs.Number.{le_bytes}
use Rattle.encoding.specs.Types.{Allowed, upto, only, Num, short, int, long, float, double, Ty, Tys, nil, cons, broken, bool, byte, string, proxy, old_proxy, num, enum, old_enum, struct, seq, dict}
use Rattle.encoding.specs.Table.{types, kind, is_record, Fault, fine, fault, faults, rule_number, Member, lookup, search, range, name_of, base}
use Rattle.encoding.specs.Table
use Rattle.encoding.specs.Message.{no_top}

-- ---- types

-- an index for each number of more than one byte
unfoldable pub num_index : Num → ℕ
num_index short = 0
num_index int = 1
num_index long = 2
num_index float = 3
num_index double = 4

-- enumerators agree as sets
unfoldable pub same_allowed : Allowed → Allowed → Bool
same_allowed (upto g) (upto h) = eqb g h
same_allowed (upto g) (only l) = false
same_allowed (only l) (upto h) = false
same_allowed (only l) (only k) = same_bytes l k

-- what a type is, its parts left out
unfoldable pub shape : Ty → ℕ
shape broken = 0
shape bool = 1
shape byte = 2
shape string = 3
shape proxy = 4
shape (num w) = 5 + num_index w
shape (enum g) = 10
shape (struct ts) = 11
shape (seq t) = 12
shape (dict k v) = 13
shape old_proxy = 14
shape (old_enum g) = 15

-- the parts of a type; those of another shape are never looked at
unfoldable pub enums_of : Ty → Allowed
enums_of broken = upto 0
enums_of bool = upto 0
enums_of byte = upto 0
enums_of string = upto 0
enums_of proxy = upto 0
enums_of old_proxy = upto 0
enums_of (num w) = upto 0
enums_of (enum g) = g
enums_of (old_enum g) = g
enums_of (struct ts) = upto 0
enums_of (seq t) = upto 0
enums_of (dict k v) = upto 0

unfoldable pub members_of : Ty → Tys
members_of broken = nil
members_of bool = nil
members_of byte = nil
members_of string = nil
members_of proxy = nil
members_of old_proxy = nil
members_of (num w) = nil
members_of (enum g) = nil
members_of (old_enum g) = nil
members_of (struct ts) = ts
members_of (seq t) = nil
members_of (dict k v) = nil

unfoldable pub element_of : Ty → Ty
element_of broken = broken
element_of bool = broken
element_of byte = broken
element_of string = broken
element_of proxy = broken
element_of old_proxy = broken
element_of (num w) = broken
element_of (enum g) = broken
element_of (old_enum g) = broken
element_of (struct ts) = broken
element_of (seq t) = t
element_of (dict k v) = k

unfoldable pub value_of : Ty → Ty
value_of broken = broken
value_of bool = broken
value_of byte = broken
value_of string = broken
value_of proxy = broken
value_of old_proxy = broken
value_of (num w) = broken
value_of (enum g) = broken
value_of (old_enum g) = broken
value_of (struct ts) = broken
value_of (seq t) = broken
value_of (dict k v) = v

-- types agree: equal trees. The code compares rows and never walks a tree.
unfoldable mutual
  pub same_ty : Ty → Ty → Bool
  same_ty broken u = eqb (shape u) 0
  same_ty bool u = eqb (shape u) 1
  same_ty byte u = eqb (shape u) 2
  same_ty string u = eqb (shape u) 3
  same_ty proxy u = eqb (shape u) 4
  same_ty old_proxy u = eqb (shape u) 14
  same_ty (num w) u = eqb (shape u) (5 + num_index w)
  same_ty (enum g) u = eqb (shape u) 10 && same_allowed g (enums_of u)
  same_ty (old_enum g) u = eqb (shape u) 15 && same_allowed g (enums_of u)
  same_ty (struct ts) u = eqb (shape u) 11 && same_tys ts (members_of u)
  same_ty (seq t) u = eqb (shape u) 12 && same_ty t (element_of u)
  same_ty (dict k v) u = eqb (shape u) 13 && (same_ty k (element_of u) && same_ty v (value_of u))

  pub same_tys : Tys → Tys → Bool
  same_tys nil nil = true
  same_tys nil (cons u us) = false
  same_tys (cons t ts) nil = false
  same_tys (cons t ts) (cons u us) = same_ty t u && same_tys ts us

-- ---- order

-- names by unsigned bytes, a prefix first
unfoldable pub precedes : List ℕ → List ℕ → Bool
precedes xs [] = false
precedes [] (y ∷ ys) = true
precedes (x ∷ xs) (y ∷ ys) = ltb x y || (eqb x y && precedes xs ys)

-- put before the first that does not precede it
unfoldable pub insert : {A : Type 0} → (A → A → Bool) → A → List A → List A
insert less a [] = a ∷ []
insert less a (b ∷ l) = let later = b ∷ insert less a l in pick (less b a) later (a ∷ b ∷ l)

-- in order; what is alike keeps its order
unfoldable pub ordered : {A : Type 0} → (A → A → Bool) → List A → List A
ordered less [] = []
ordered less (a ∷ l) = insert less a (ordered less l)

-- ---- what is set against each other

-- the numbers of a list that pass a test
unfoldable pub those : (ℕ → Bool) → List ℕ → List ℕ
those f [] = []
those f (i ∷ l) = pick (f i) (i ∷ those f l) (those f l)

-- the rows of a table that pass a test
unfoldable pub rows_of : List ℕ → (ℕ → Bool) → List ℕ
rows_of T f = those f (range 0 (types T))

unfoldable pub records : List ℕ → List ℕ
records T = rows_of T (λ t. is_record (kind T t))

unfoldable pub lists : List ℕ → List ℕ
lists T = rows_of T (λ t. eqb (kind T t) 15)

-- record t of the first table and record u of the second have one kind and name
unfoldable pub same_record : (S T : List ℕ) → (t u : ℕ) → Bool
same_record S T t u = eqb (kind S t) (kind T u) && same_bytes (name_of S t) (name_of T u)

-- a row + 1, or 0 for none
unfoldable pub row_or_none : Option ℕ → ℕ
row_or_none none = 0
row_or_none (some u) = suc u

-- the row + 1 of the second table's record that has the kind and name of record t of the first, or 0
unfoldable pub partner : (S T : List ℕ) → ℕ → ℕ
partner S T t = row_or_none (search (same_record S T t) (records T))

-- old and new row + 1, or 0
abbrev pub Pair : Type 0
Pair = ℕ × ℕ

-- each old record with its partner
unfoldable pub old_pairs : (old new : List ℕ) → List ℕ → List Pair
old_pairs old new [] = []
old_pairs old new (t ∷ ts) = (suc t, partner old new t) ∷ old_pairs old new ts

-- the new records without one
unfoldable pub new_pairs : (old new : List ℕ) → List ℕ → List Pair
new_pairs old new [] = []
new_pairs old new (u ∷ us) = pick (eqb (partner new old u) 0) ((0, suc u) ∷ new_pairs old new us) (new_pairs old new us)

-- the name of a row + 1; of 0 the other name
unfoldable pub name_in : List ℕ → ℕ → List ℕ → List ℕ
name_in T zero other = other
name_in T (suc t) other = name_of T t

-- the name of a pair, in the old table if it is there
unfoldable pub pair_name : (old new : List ℕ) → Pair → List ℕ
pair_name old new p = name_in old p.0 (name_in new p.1 [])

-- one pair's name precedes another's
unfoldable pub pair_before : (old new : List ℕ) → Pair → Pair → Bool
pair_before old new p q = precedes (pair_name old new p) (pair_name old new q)

-- by name; for one name in two kinds the old table's first
unfoldable pub record_pairs : (old new : List ℕ) → List Pair
record_pairs old new = ordered (pair_before old new) (old_pairs old new (records old) ++ new_pairs old new (records new))

-- by their order
unfoldable pub paired : List ℕ → List ℕ → List Pair
paired [] [] = []
paired [] (u ∷ us) = (0, suc u) ∷ paired [] us
paired (t ∷ ts) [] = (suc t, 0) ∷ paired ts []
paired (t ∷ ts) (u ∷ us) = (suc t, suc u) ∷ paired ts us

unfoldable pub list_pairs : (old new : List ℕ) → List Pair
list_pairs old new = paired (lists old) (lists new)

-- ---- differences

-- what: 0 record or list, 1 base, 2 required, 3 optional; rows + 1, or 0 for none
pub record Difference : Type 0 where
  pub what : ℕ
  pub owner : ℕ
  pub owner' : ℕ
  pub member : ℕ
  pub member' : ℕ

-- two base rows + 1, or 0: one is there and the other not, or their names differ
unfoldable pub bases_differ : (old new : List ℕ) → (b c : ℕ) → Bool
bases_differ old new zero zero = false
bases_differ old new zero (suc u) = true
bases_differ old new (suc t) zero = true
bases_differ old new (suc t) (suc u) = not (same_bytes (name_of old t) (name_of new u))

-- one element, or none
unfoldable pub given : {A : Type 0} → Bool → A → List A
given true a = a ∷ []
given false a = []

unfoldable pub base_difference : (old new : List ℕ) → (t u : ℕ) → List Difference
base_difference old new t u =
    given (bases_differ old new (base old t) (base new u)) (record { what = 1; owner = suc t; owner' = suc u; member = 0; member' = 0 })

-- two members, if they are there: they agree
unfoldable pub agree : Option Member → Option Member → Bool
agree none none = true
agree none (some n) = false
agree (some m) none = false
agree (some m) (some n) = same_ty m.ty n.ty

-- the row + 1 of a member, or 0 for none
unfoldable pub member_row : Option Member → ℕ
member_row none = 0
member_row (some m) = suc m.row

-- the differences of the members of each key, where they don't agree
unfoldable pub member_differences : ℕ → (t u : ℕ) → List Member → List Member → List ℕ → List Difference
member_differences what t u ms ns [] = []
member_differences what t u ms ns (k ∷ ks) =
    given (not (agree (lookup k ms) (lookup k ns)))
    (record { what = what; owner = suc t; owner' = suc u; member = member_row (lookup k ms); member' = member_row (lookup k ns) })
    ++ member_differences what t u ms ns ks

-- the greater of two numbers
unfoldable pub longer : ℕ → ℕ → ℕ
longer a b = pick (leb a b) b a

-- required members by position
unfoldable pub required_differences : (old new : List ℕ) → (t u : ℕ) → List Difference
required_differences old new t u =
    let ms = Table.required_members old t in
    let ns = Table.required_members new u in
    member_differences 2 t u ms ns (range 0 (longer (length ms) (length ns)))

-- there is a member
unfoldable pub is_there : Option Member → Bool
is_there none = false
is_there (some m) = true

-- the keys of members
unfoldable pub keys : List Member → List ℕ
keys [] = []
keys (m ∷ ms) = m.key ∷ keys ms

-- the keys of members ns that members ms lack
unfoldable pub keys_without : List Member → List Member → List ℕ
keys_without ms [] = []
keys_without ms (n ∷ ns) = pick (is_there (lookup n.key ms)) (keys_without ms ns) (n.key ∷ keys_without ms ns)

-- the tags of both, rising
unfoldable pub tags_of : List Member → List Member → List ℕ
tags_of ms ns = ordered ltb (keys ms ++ keys_without ms ns)

unfoldable pub optional_differences : (old new : List ℕ) → (t u : ℕ) → List Difference
optional_differences old new t u =
    let ms = Table.optional_members old t in
    let ns = Table.optional_members new u in
    member_differences 3 t u ms ns (tags_of ms ns)

-- base, required positions, tags
unfoldable pub owner_differences : (old new : List ℕ) → (t u : ℕ) → List Difference
owner_differences old new t u = base_difference old new t u ++ required_differences old new t u ++ optional_differences old new t u

-- of a pair: only in one, its members then aren't listed; or owner against owner
unfoldable pub pair_differences : (old new : List ℕ) → (o n : ℕ) → List Difference
pair_differences old new zero n = record { what = 0; owner = 0; owner' = n; member = 0; member' = 0 } ∷ []
pair_differences old new (suc t) zero = record { what = 0; owner = suc t; owner' = 0; member = 0; member' = 0 } ∷ []
pair_differences old new (suc t) (suc u) = owner_differences old new t u

-- of all pairs, one after another
unfoldable pub all_differences : (old new : List ℕ) → List Pair → List Difference
all_differences old new [] = []
all_differences old new (p ∷ ps) = pair_differences old new p.0 p.1 ++ all_differences old new ps

-- parameter lists after records
unfoldable pub differences : (old new : List ℕ) → List Difference
differences old new = all_differences old new (record_pairs old new ++ list_pairs old new)

-- ---- the new table extends the old one

-- two lists of members: equally many, agreeing in order
unfoldable pub required_match : List Member → List Member → Bool
required_match [] [] = true
required_match [] (n ∷ ns) = false
required_match (m ∷ ms) [] = false
required_match (m ∷ ms) (n ∷ ns) = same_ty m.ty n.ty && required_match ms ns

-- each old optional has a new one of its tag and agreeing type
unfoldable pub optionals_match : List Member → List Member → Bool
optionals_match [] ns = true
optionals_match (m ∷ ms) ns = agree (some m) (lookup m.key ns) && optionals_match ms ns

unfoldable pub owners_match : (old new : List ℕ) → (t u : ℕ) → Bool
owners_match old new t u =
    required_match (Table.required_members old t) (Table.required_members new u) && optionals_match (Table.optional_members old t) (Table.optional_members new u)

-- the bases match, or neither has one
unfoldable pub bases_match : (old new : List ℕ) → (b c : ℕ) → Bool
bases_match old new zero zero = true
bases_match old new zero (suc u) = false
bases_match old new (suc t) zero = false
bases_match old new (suc t) (suc u) = same_record old new t u

-- record t of the old table, and the row + 1 of its partner
unfoldable pub matched_by : (old new : List ℕ) → (t n : ℕ) → Bool
matched_by old new t zero = false
matched_by old new t (suc u) = owners_match old new t u && bases_match old new (base old t) (base new u)

-- each of the old records matches its partner
unfoldable pub all_matched : (old new : List ℕ) → List ℕ → Bool
all_matched old new [] = true
all_matched old new (t ∷ ts) = matched_by old new t (partner old new t) && all_matched old new ts

-- as records, or as two parameter lists
unfoldable pub tops_match : (old new : List ℕ) → (t u : ℕ) → Bool
tops_match old new t u =
    (is_record (kind old t) && same_record old new t u)
    || (eqb (kind old t) 15 && (eqb (kind new u) 15 && owners_match old new t u))

-- every old record has a match, and the tops match
unfoldable pub extending : (old new : List ℕ) → (t u : ℕ) → Bool
extending old new t u = all_matched old new (records old) && tops_match old new t u

-- ---- the answer

-- refusal, place, the differences, whether the new table extends the old one
pub record Comparison : Type 0 where
  pub refusal : ℕ
  pub place : ℕ
  pub found : List Difference
  pub extends : Bool

-- the answer to a refusal
unfoldable pub incomparable : ℕ → ℕ → Comparison
incomparable n p = record { refusal = n; place = p; found = []; extends = false }

-- the new table's places
abbrev pub new_place : ℕ → ℕ
new_place p = p + 1000000

-- 2 for either top
unfoldable pub no_tops : (old new : List ℕ) → (t u : ℕ) → Bool
no_tops old new t u = no_top old t || no_top new u

-- 19 at the entries needed
unfoldable pub compared_within : ℕ → Comparison → Comparison
compared_within k c = pick (leb (length c.found) k) c (incomparable 19 (length c.found))

-- the old table's rule, the new one's, 2
unfoldable pub after_both : Fault → Fault → Bool → Comparison → Comparison
after_both fine fine true c = incomparable 2 0
after_both fine fine false c = c
after_both fine (fault n p) b c = incomparable (rule_number n) (new_place p)
after_both (fault n p) g b c = incomparable (rule_number n) p

-- the entries of 20 bytes that a lent list holds
unfoldable pub difference_room : ℕ → ℕ
difference_room bytes = bytes / 20

-- the call, with a lent list of so many bytes
unfoldable pub comparing : (old : List ℕ) → ℕ → (new : List ℕ) → ℕ → ℕ → Comparison
comparing old t new u bytes =
    let whole = compared_within (difference_room bytes) (record { refusal = 0; place = 0; found = differences old new; extends = extending old new t u }) in
    after_both (faults old) (faults new) (no_tops old new t u) whole

-- a difference is five numbers of 32 bits
unfoldable pub difference_bytes : Difference → List ℕ
difference_bytes d = le_bytes 4 d.what ++ le_bytes 4 d.owner ++ le_bytes 4 d.owner' ++ le_bytes 4 d.member ++ le_bytes 4 d.member'

-- bytes beyond the entries stay
unfoldable pub differences_listed : Comparison → List ℕ → List ℕ
differences_listed c lent = concat difference_bytes c.found ++ drop (20 * length c.found) lent
