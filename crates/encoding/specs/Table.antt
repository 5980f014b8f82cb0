-- The type table: its layout, its rules, and what a row means. Every look-up is total: past the end is 0.
--
--   version, with_lists           the header's version; version 2 has lists of allowed enumerators
--   types, members, names, entries   T, M, N, E of the header
--   types_at, members_at, names_at, entries_at   where the type rows, member rows, names and list entries begin
--   row_at t, member_at m          where a type row, a member row begins; field_at i where field i is within a type row
--   kind t, field t i            a type row's kind, and its fields a, b, c, d, e as i = 0..4; spare t its zero byte
--   member_type, mark, tag m      a member row's fields; member_spare m its zero byte
--   list_entry i, entries_of t     an entry of the lists; those of enum row t
--   greatest t, allowed t        an enum row's greatest enumerator; what enumerators it allows
--   owns k, is_record k           a row of kind k takes member rows; is an exception or a class
--   own_rows t, takes t m         the member rows of row t; whether m is one
--   Fault, faults                the first rule broken, as its rule class (31 to 39, below) and its place
--   rule_number                   the refusal's number of a class: the class itself
--   table_verdict, verdict_numbers what the call for a table alone answers, and its two numbers
--   type_rows                     how many rows have a tree
--   tys, trees, ty_of t           the tree of each row, made from the trees of the rows below it
--   part_ty t i                   the tree of row i as a part of row t: broken unless i is below t
--   Member                       a member: its row, its tag (or, if required, its position) and its type
--   required_members t, optional_members t       the members of row t, each as declared
--   name_of t, named nm           the name of a record; the record of a name
--   base t, chain t              the base row, if any; the row and its bases, one after another
use Rattle.std.specs.Prelude.{Bool, false, ◌&&◌, ◌||◌, not, List, [], ◌∷◌, ◌++◌, map, ℕ, zero, suc, ◌+◌, ◌-◌, ◌*◌, length, take, drop, get_or, eqb, leb, ltb}
use Rattle.std.proofs.Math.Option.{Option, none, some}
use Rattle.encoding.specs.declared.Verdict.{Verdict}
use Rattle.encoding.specs.declared.Verdict.TheVariants.{Sound, Broken}
use Rattle.encoding.specs.Result.{pick, first_of, same_bytes}
use Rattle.encoding.specs.Utf8.{is_utf8}
use Rattle.encoding.specs.Number.{val, negative}
use Rattle.encoding.specs.Types.{Allowed, upto, allowed_of, short, int, long, float, double, Ty, Tys, nil, cons, broken, bool, byte, string, proxy, num, enum, struct, seq, dict}

-- ---- layout

-- the number of k bytes at a place
unfoldable pub at : List ℕ → ℕ → ℕ → ℕ
at T k i = val (take k (drop i T))

-- the version of the header, 16 bits
unfoldable pub version : List ℕ → ℕ
version T = at T 2 3

-- version 2 has lists of allowed enumerators
unfoldable pub with_lists : List ℕ → Bool
with_lists T = eqb (version T) 2

-- T of the header, a 16-bit count
unfoldable pub types : List ℕ → ℕ
types T = at T 2 5

-- M
unfoldable pub members : List ℕ → ℕ
members T = at T 2 7

-- N
unfoldable pub names : List ℕ → ℕ
names T = at T 2 9

-- E, after the zero byte; version 1 has none
unfoldable pub entries : List ℕ → ℕ
entries T = pick (with_lists T) (at T 2 12) 0

-- the header is 12 bytes, with E 14
unfoldable pub types_at : List ℕ → ℕ
types_at T = pick (with_lists T) 14 12

-- T type rows of 12 bytes
abbrev pub row_at : List ℕ → ℕ → ℕ
row_at T t = types_at T + 12 * t

-- then the member rows
abbrev pub members_at : List ℕ → ℕ
members_at T = row_at T (types T)

-- M member rows of 8 bytes
abbrev pub member_at : List ℕ → ℕ → ℕ
member_at T m = members_at T + 8 * m

-- then N name bytes
abbrev pub names_at : List ℕ → ℕ
names_at T = member_at T (members T)

-- then E entries
abbrev pub entries_at : List ℕ → ℕ
entries_at T = names_at T + names T

-- of 32 bits each
unfoldable pub list_entry : List ℕ → ℕ → ℕ
list_entry T i = at T 4 (entries_at T + 4 * i)

-- a type row's kind byte
unfoldable pub kind : List ℕ → ℕ → ℕ
kind T t = at T 1 (row_at T t)

-- then its zero byte
unfoldable pub spare : List ℕ → ℕ → ℕ
spare T t = at T 1 (row_at T t + 1)

-- then a, b, c, d, e
abbrev pub field_at : ℕ → ℕ
field_at i = 2 + 2 * i

-- of 16 bits each
unfoldable pub field : List ℕ → ℕ → ℕ → ℕ
field T t i = at T 2 (row_at T t + field_at i)

-- a member row's 16-bit type
unfoldable pub member_type : List ℕ → ℕ → ℕ
member_type T m = at T 2 (member_at T m)

-- 0 required, 1 optional
unfoldable pub mark : List ℕ → ℕ → ℕ
mark T m = at T 1 (member_at T m + 2)

-- its zero byte
unfoldable pub member_spare : List ℕ → ℕ → ℕ
member_spare T m = at T 1 (member_at T m + 3)

-- 32-bit tag
unfoldable pub tag : List ℕ → ℕ → ℕ
tag T m = at T 4 (member_at T m + 4)

-- an exception or a class
abbrev pub is_record : ℕ → Bool
is_record k = eqb k 13 || eqb k 14

-- struct, exception, class, parameter list
abbrev pub owns : ℕ → Bool
owns k = eqb k 9 || (is_record k || eqb k 15)

-- member row m is one of the rows that row t names by its a and b
unfoldable pub takes : List ℕ → ℕ → ℕ → Bool
takes T t m = leb (field T t 0) m && ltb m (field T t 0 + field T t 1)

-- i, i + 1, .., k of them
unfoldable pub range : ℕ → ℕ → List ℕ
range i zero = []
range i (suc k) = i ∷ range (suc i) k

-- a record's name: d its start among the name bytes, e its length
unfoldable pub name_of : List ℕ → ℕ → List ℕ
name_of T t = take (field T t 4) (drop (names_at T + field T t 3) T)

-- an enum's greatest enumerator: a its low half, b its high half
unfoldable pub greatest : List ℕ → ℕ → ℕ
greatest T t = field T t 0 + 65536 * field T t 1

-- the list of enum row t: c its first entry, d their count
unfoldable pub entries_of : List ℕ → ℕ → List ℕ
entries_of T t = map (list_entry T) (range (field T t 2) (field T t 3))

-- ---- rules

-- no rule is broken, or the first that is: its class and its place
pub data Fault : Type 0 where
  fine : Fault
  fault : (class place : ℕ) → Fault

-- the first fault of two passes
unfoldable pub or_else : Fault → Fault → Fault
or_else fine g = g
or_else (fault c p) g = fault c p

-- a class at a place; 0 is none
unfoldable pub fault_at : ℕ → ℕ → Fault
fault_at place zero = fine
fault_at place (suc c) = fault (suc c) place

-- some number of a list passes a test
unfoldable pub any : (ℕ → Bool) → List ℕ → Bool
any f [] = false
any f (i ∷ l) = f i || any f l

-- Rules are judgements with their rule class, which is the refusal's number; each test is true where the rule is broken:
--   31  header and lengths                                  35  member rows not taken in turn, or their sum wrong
--   32  unused or zero bytes, a required tag not 0          36  empty structs, wrong marks
--   33  unknown kind (its fields unjudged)                  37  names outside, of bad length, alike or no text
--   34  a reference not smaller or of the wrong kind        38  tags or enumerators too great, tags alike
--                                                           39  lists of allowed enumerators
-- A row that breaks several has the first class of this order.

-- 2 ^ 31 and above
abbrev pub great : ℕ → Bool
great n = negative 4 n

-- mark FGT, version 1 or 2, T 1..256, M 0..1,024, N 0..8,192, a zero byte, E 0..1,024, and nothing more after the entries; all at 0
unfoldable pub header_tests : List ℕ → List (ℕ × Bool)
header_tests T =
    (31, not (same_bytes (take 3 T) (70 ∷ 71 ∷ 84 ∷ [])))
    ∷ (31, not (eqb (version T) 1 || with_lists T))
    ∷ (31, ltb (length T) (types_at T))
    ∷ (31, eqb (types T) 0 || ltb 256 (types T))
    ∷ (31, ltb 1024 (members T))
    ∷ (31, ltb 8192 (names T))
    ∷ (31, not (eqb (at T 1 11) 0))
    ∷ (31, ltb 1024 (entries T))
    ∷ (31, not (eqb (length T) (entries_at T + 4 * entries T)))
    ∷ []

-- the first pass
unfoldable pub header_rules : List ℕ → Fault
header_rules T = fault_at 0 (first_of (header_tests T))

-- how many fields a kind uses, from a on; an enum's c and d are its list, in version 2
unfoldable pub used : List ℕ → ℕ → ℕ
used T k = get_or (0 ∷ 0 ∷ 0 ∷ 0 ∷ 0 ∷ 0 ∷ 0 ∷ 0 ∷ pick (with_lists T) 4 2 ∷ 2 ∷ 1 ∷ 2 ∷ 0 ∷ 5 ∷ 5 ∷ 2 ∷ []) k 5

-- what the first n rows take, where those that pass a test take as many as a count says
unfoldable pub taken_by : (ℕ → Bool) → (ℕ → ℕ) → ℕ → ℕ
taken_by f count zero = 0
taken_by f count (suc n) = taken_by f count n + pick (f n) (count n) 0

-- the member rows that the first n type rows take: b is an owner's count
unfoldable pub taken : List ℕ → ℕ → ℕ
taken T n = taken_by (λ t. owns (kind T t)) (λ t. field T t 1) n

-- r is no row below t of kinds 0..12
unfoldable pub no_part : List ℕ → ℕ → ℕ → Bool
no_part T t r = leb t r || ltb 12 (kind T r)

-- c is base row + 1 or 0: a base is smaller and of the same kind
unfoldable pub no_base : List ℕ → ℕ → ℕ → Bool
no_base T t zero = false
no_base T t (suc r) = leb t r || not (eqb (kind T r) (kind T t))

-- the name of record row t is that of a record before it
unfoldable pub alike : List ℕ → ℕ → Bool
alike T t = any (λ r. is_record (kind T r) && same_bytes (name_of T r) (name_of T t)) (range 0 t)

-- the rules of type row t
unfoldable pub type_rules : List ℕ → ℕ → List (ℕ × Bool)
type_rules T t =
    let k = kind T t in
    (32, not (eqb (spare T t) 0))
    ∷ (32, any (λ i. not (eqb (field T t i) 0)) (range (used T k) (5 - used T k)))
    ∷ (33, ltb 15 k)
    ∷ (34, (eqb k 10 || eqb k 11) && no_part T t (field T t 0))
    ∷ (34, eqb k 11 && no_part T t (field T t 1))
    ∷ (34, is_record k && no_base T t (field T t 2))
    ∷ (35, owns k && not (eqb (field T t 0) (taken T t)))
    ∷ (36, eqb k 9 && eqb (field T t 1) 0)
    ∷ (37, is_record k && (eqb (field T t 4) 0 || ltb 255 (field T t 4)))
    ∷ (37, is_record k && ltb (names T) (field T t 3 + field T t 4))
    ∷ (37, is_record k && alike T t)
    ∷ (37, is_record k && not (is_utf8 (name_of T t)))
    ∷ (38, eqb k 8 && great (greatest T t))
    ∷ []

-- row t has a list of allowed enumerators: an enum of version 2
unfoldable pub has_list : List ℕ → ℕ → Bool
has_list T t = with_lists T && eqb (kind T t) 8

-- the entries that the lists of the first n type rows take: d is a list's count
unfoldable pub entries_taken : List ℕ → ℕ → ℕ
entries_taken T n = taken_by (has_list T) (λ t. field T t 3) n

-- a list of at least one entry, rising strictly, whose last is g
unfoldable pub rises_to : ℕ → List ℕ → Bool
rises_to g [] = false
rises_to g (x ∷ []) = eqb x g
rises_to g (x ∷ y ∷ l) = ltb x y && rises_to g (y ∷ l)

-- the rules of the list of row t: lists follow each other in row order and lie within the entries; a list rises to the greatest enumerator
unfoldable pub allowed_rules : List ℕ → ℕ → List (ℕ × Bool)
allowed_rules T t =
    (39, has_list T t && not (eqb (field T t 2) (entries_taken T t)))
    ∷ (39, has_list T t && ltb (entries T) (field T t 2 + field T t 3))
    ∷ (39, has_list T t && not (rises_to (greatest T t) (entries_of T t)))
    ∷ []

-- the entries are all taken, none left over, at 0
unfoldable pub entries_rules : List ℕ → Fault
entries_rules T = fault_at 0 (pick (eqb (entries_taken T (types T)) (entries T)) 0 39)

-- the member rows are all taken, none left over, at 0
unfoldable pub sum_rules : List ℕ → Fault
sum_rules T = fault_at 0 (pick (eqb (taken T (types T)) (members T)) 0 35)

-- the row among the first n that takes member row m; the count of types if none does
unfoldable pub owner_of : List ℕ → ℕ → ℕ → ℕ
owner_of T m zero = types T
owner_of T m (suc n) = pick (owns (kind T n) && takes T n m) n (owner_of T m n)

-- a member row before m, of the same owner, is optional and has m's tag
unfoldable pub tag_alike : List ℕ → ℕ → ℕ → Bool
tag_alike T o m = any (λ i. eqb (mark T i) 1 && eqb (tag T i) (tag T m)) (range (field T o 0) (m - field T o 0))

-- the rules of member row m, judged with its owner o
unfoldable pub member_rules : List ℕ → ℕ → List (ℕ × Bool)
member_rules T m =
    let o = owner_of T m (types T) in
    (32, not (eqb (member_spare T m) 0))
    ∷ (32, eqb (mark T m) 0 && not (eqb (tag T m) 0))
    ∷ (34, no_part T o (member_type T m))
    ∷ (36, ltb 1 (mark T m))
    ∷ (36, eqb (mark T m) 1 && eqb (kind T o) 9)
    ∷ (38, great (tag T m))
    ∷ (38, eqb (mark T m) 1 && tag_alike T o m)
    ∷ []

-- a pass over rows
unfoldable pub pass : (ℕ → ℕ) → (ℕ → List (ℕ × Bool)) → List ℕ → Fault
pass place rules [] = fine
pass place rules (r ∷ rs) = or_else (fault_at (place r) (first_of (rules r))) (pass place rules rs)

-- one pass after another
unfoldable pub passes : List Fault → Fault
passes [] = fine
passes (f ∷ fs) = or_else f (passes fs)

-- header, type rows, lists, entries left over, member sum, member rows
unfoldable pub faults : List ℕ → Fault
faults T =
    passes (header_rules T
    ∷ pass (row_at T) (type_rules T) (range 0 (types T))
    ∷ pass (row_at T) (allowed_rules T) (range 0 (types T))
    ∷ entries_rules T
    ∷ sum_rules T
    ∷ pass (member_at T) (member_rules T) (range 0 (members T))
    ∷ [])

-- 31 to 39: the class itself
unfoldable pub rule_number : ℕ → ℕ
rule_number class = class

-- a fault as the call for a table alone returns it
unfoldable pub table_verdict : Fault → Verdict
table_verdict fine = Sound
table_verdict (fault c p) = Broken (rule_number c) p

-- the rule's number, or 0, and its place
unfoldable pub verdict_numbers : Verdict → List ℕ
verdict_numbers Sound = 0 ∷ 0 ∷ []
verdict_numbers (Broken n p) = n ∷ p ∷ []

-- ---- what a row means

-- the type of a member row, where l has the trees
unfoldable pub member_ty : List ℕ → List Ty → ℕ → Ty
member_ty T l m = pick (ltb m (members T)) (get_or l (member_type T m) broken) broken

-- the types of member rows
unfoldable pub member_tys : List ℕ → List Ty → List ℕ → Tys
member_tys T l [] = nil
member_tys T l (m ∷ ms) = cons (member_ty T l m) (member_tys T l ms)

-- a first member, b count
unfoldable pub own_rows : List ℕ → ℕ → List ℕ
own_rows T t = range (field T t 0) (field T t 1)

-- the enumerators that enum row t allows: those of its list; under version 1 all up to the greatest
unfoldable pub allowed : List ℕ → ℕ → Allowed
allowed T t = pick (with_lists T) (allowed_of (greatest T t) (entries_of T t)) (upto (greatest T t))

-- the tree of a row, where l has the trees of the rows below it
unfoldable pub row_ty : List ℕ → List Ty → ℕ → Ty
row_ty T l t =
    pick (eqb (kind T t) 8) (enum (allowed T t))
    (pick (eqb (kind T t) 9) (struct (member_tys T l (own_rows T t)))
    (pick (eqb (kind T t) 10) (seq (get_or l (field T t 0) broken))
    (pick (eqb (kind T t) 11) (dict (get_or l (field T t 0) broken) (get_or l (field T t 1) broken))
    (pick (eqb (kind T t) 12) proxy
    (get_or (bool ∷ byte ∷ num short ∷ num int ∷ num long ∷ num float ∷ num double ∷ string ∷ []) (kind T t) broken)))))

-- one more row
unfoldable pub grow : List ℕ → List Ty → List Ty
grow T l = l ++ (row_ty T l (length l) ∷ [])

-- the trees of the first n rows
unfoldable pub tys : List ℕ → ℕ → List Ty
tys T zero = []
tys T (suc n) = grow T (tys T n)

-- the tree of row i as a part of row t: broken unless i is below t
unfoldable pub part_ty : List ℕ → ℕ → ℕ → Ty
part_ty T t i = get_or (tys T t) i broken

-- the rows that have a tree: those of the table, at most 256
unfoldable pub type_rows : List ℕ → ℕ
type_rows T = pick (leb (types T) 256) (types T) 256

-- the trees of all rows that have one
unfoldable pub trees : List ℕ → List Ty
trees T = tys T (type_rows T)

-- the type of a row; broken where it has no tree
unfoldable pub ty_of : List ℕ → ℕ → Ty
ty_of T t = get_or (trees T) t broken

-- a member: its row; its tag or, if required, its position among the required ones; its type
pub record Member : Type 0 where
  pub row : ℕ
  pub key : ℕ
  pub ty : Ty

-- the required ones, numbered from i on
unfoldable pub requireds_in : List ℕ → List Ty → ℕ → List ℕ → List Member
requireds_in T l i [] = []
requireds_in T l i (m ∷ ms) =
    pick (eqb (mark T m) 0) (record { row = m; key = i; ty = member_ty T l m } ∷ requireds_in T l (suc i) ms) (requireds_in T l i ms)

-- the optional ones, with their tags
unfoldable pub optionals_in : List ℕ → List Ty → List ℕ → List Member
optionals_in T l [] = []
optionals_in T l (m ∷ ms) =
    pick (eqb (mark T m) 0) (optionals_in T l ms) (record { row = m; key = tag T m; ty = member_ty T l m } ∷ optionals_in T l ms)

-- the required members of row t, as declared
unfoldable pub required_members : List ℕ → ℕ → List Member
required_members T t = requireds_in T (trees T) 0 (own_rows T t)

-- the optional members of row t, as declared
unfoldable pub optional_members : List ℕ → ℕ → List Member
optional_members T t = optionals_in T (trees T) (own_rows T t)

-- the member of a key
unfoldable pub lookup : ℕ → List Member → Option Member
lookup k [] = none
lookup k (m ∷ ms) = pick (eqb k m.key) (some m) (lookup k ms)

-- the first number of a list that passes a test
unfoldable pub search : (ℕ → Bool) → List ℕ → Option ℕ
search f [] = none
search f (i ∷ l) = pick (f i) (some i) (search f l)

-- the record of a name: any record in the table
unfoldable pub named : List ℕ → List ℕ → Option ℕ
named T nm = search (λ t. is_record (kind T t) && same_bytes nm (name_of T t)) (range 0 (types T))

-- the base row + 1, or 0; a base that is not smaller is none
unfoldable pub base : List ℕ → ℕ → ℕ
base T t = pick (is_record (kind T t) && leb (field T t 2) t) (field T t 2) 0

-- from a base row + 1 on, if there is one
unfoldable pub upward : (ℕ → List ℕ) → ℕ → List ℕ
upward f zero = []
upward f (suc t) = f t

-- the first number is fuel: the row number falls
unfoldable pub climb : List ℕ → ℕ → ℕ → List ℕ
climb T zero t = []
climb T (suc f) t = t ∷ upward (λ r. climb T f r) (base T t)

-- a row and its bases
unfoldable pub chain : List ℕ → ℕ → List ℕ
chain T t = climb T (suc t) t
