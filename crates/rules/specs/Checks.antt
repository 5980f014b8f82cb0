-- The rules of a table as the code takes them: the type rules by kind, the member rules by owner.
--
--   finding_of                 Ok, or the class and the place of the first rule that is broken, as a refusal
--   class_of                   a class as an answer, which is Ok where it is 0; broken_of the class of the first of some rules that is broken
--   placed                     a class at a place
--   is_marked                  the mark FGT, and version 1 or 2
--   is_set_from                 a field of a row, from field i on, is not 0
--   no_base_of                  row b - 1 is no base of row t of kind k
--   alike_from                 a record among rows `from` to t - 1 has the name of row t
--   enum_rules .. list_rules    the rules that a kind has, of row t by its fields r; n is the number of member rows taken before; b: its name is alike
--   kind_rules, row_rules       those of its kind; all of a type row
--   share                     how many member rows a row takes
--   is_basic                   a type row's kind is below 8 and every other byte is 0
--   past                      the first row that may be a record, advanced past row t if it is t and t is no record
--   allowed_rules_by            the rules of a row's list, if it is an enum, by the row's fields r; the lists before it take n of `all` entries
--   entry_count                how many entries the list of a row has
--   type_pass, allowed_pass, member_pass   the passes over type rows; over lists, then what is left over of the entries; over member rows
--   rows_pass                  type rows, lists, member sum
--   is_optional_of              a member row is optional and has a tag
--   is_tag_before               one of the member rows `first` to m - 1 is optional and has a tag
--   is_tag_alike                the same, but false for a tag that is not below `above`
--   required_rules, optional_rules   the rules of a member row with mark 0, or with another mark, by its owner's fields and its own; b: its tag is alike
--   member_rules_by             the rules of a member row by these; member_rules_of of member row m of owner o
--   is_usual                   a member row as one number of eight bytes: it breaks no rule but perhaps that of its type; the tags before it are below `above`
--   owner_pass, owners_pass     the member rows of one owner; of several in turn
--   MembersThere, OwnersThere      the member rows that a row takes are all there; those of each row are
use Rattle.std.specs.Prelude.{ℕ, zero, suc, ◌+◌, ◌-◌, ◌/◌, ◌%◌, ◌≤◌, ◌<◌, Bool, false, ◌&&◌, ◌||◌, not, List, [], ◌∷◌, map, take, drop, eqb, leb, ltb, Result, Ok, Err}
use Rattle.encoding.specs.Result.{pick, first_of, same_bytes}
use Rattle.encoding.specs.Utf8.{is_utf8}
use Rattle.encoding.specs.Table.{at, version, with_lists, types, members, names, row_at, member_at, list_entry, kind, field, mark, tag, is_record, owns, name_of, range, any, great, used, no_part, type_rules, rises_to, allowed_rules, entries_rules, sum_rules, member_rules, Fault, fine, fault, or_else, pass}
use Rattle.table.specs.Names.{is_named}
use Rattle.table.specs.Rows.{type_row_of, member_row_of, greatest_of}
use Rattle.table.specs.declared.TypeRow.{TypeRow}
use Rattle.table.specs.declared.MemberRow.{MemberRow}
use Rattle.wire.specs.declared.Refusal.{Refusal}
use Rattle.wire.specs.Steps.{refused}

unfoldable pub finding_of : Fault → Result Unit Refusal
finding_of fine = Ok tt
finding_of (fault c p) = refused c p

unfoldable pub class_of : ℕ → Result Unit ℕ
class_of zero = Ok tt
class_of (suc c) = Err (suc c)

unfoldable pub broken_of : List (ℕ × Bool) → Result Unit ℕ
broken_of l = class_of (first_of l)

unfoldable pub placed : ℕ → Result Unit ℕ → Result Unit Refusal
placed p (Ok u) = Ok u
placed p (Err c) = refused c p

unfoldable pub is_marked : List ℕ → Bool
is_marked T = same_bytes (take 3 T) (70 ∷ 71 ∷ 84 ∷ []) && (eqb (version T) 1 || with_lists T)

-- ---- type rows

unfoldable pub is_set_from : TypeRow → ℕ → Bool
is_set_from r i = any (λ f. not (eqb f 0)) (drop i (r.a ∷ r.b ∷ r.c ∷ r.d ∷ r.e ∷ []))

unfoldable pub no_base_of : List ℕ → ℕ → ℕ → ℕ → Bool
no_base_of T t k zero = false
no_base_of T t k (suc r) = leb t r || not (eqb (kind T r) k)

unfoldable pub alike_from : List ℕ → ℕ → ℕ → Bool
alike_from T from t = any (is_named T (name_of T t)) (range from (t - from))

unfoldable pub enum_rules : TypeRow → List (ℕ × Bool)
enum_rules r = (38, great (greatest_of r)) ∷ []

unfoldable pub struct_rules : TypeRow → ℕ → List (ℕ × Bool)
struct_rules r n = (35, not (eqb r.a n)) ∷ (36, eqb r.b 0) ∷ []

unfoldable pub seq_rules : List ℕ → ℕ → TypeRow → List (ℕ × Bool)
seq_rules T t r = (34, no_part T t r.a) ∷ []

unfoldable pub dict_rules : List ℕ → ℕ → TypeRow → List (ℕ × Bool)
dict_rules T t r = (34, no_part T t r.a) ∷ (34, no_part T t r.b) ∷ []

unfoldable pub record_rules : List ℕ → ℕ → TypeRow → ℕ → Bool → List (ℕ × Bool)
record_rules T t r n b =
    (34, no_base_of T t r.kind r.c)
    ∷ (35, not (eqb r.a n))
    ∷ (37, eqb r.e 0 || ltb 255 r.e)
    ∷ (37, ltb (names T) (r.d + r.e))
    ∷ (37, b)
    ∷ (37, not (is_utf8 (name_of T t)))
    ∷ []

unfoldable pub list_rules : TypeRow → ℕ → List (ℕ × Bool)
list_rules r n = (35, not (eqb r.a n)) ∷ []

unfoldable pub kind_rules : List ℕ → ℕ → TypeRow → ℕ → Bool → List (ℕ × Bool)
kind_rules T t r n b =
    pick (eqb r.kind 8) (enum_rules r)
    (pick (eqb r.kind 9) (struct_rules r n)
    (pick (eqb r.kind 10) (seq_rules T t r)
    (pick (eqb r.kind 11) (dict_rules T t r)
    (pick (is_record r.kind) (record_rules T t r n b)
    (pick (eqb r.kind 15) (list_rules r n) [])))))

unfoldable pub row_rules : List ℕ → ℕ → TypeRow → ℕ → Bool → List (ℕ × Bool)
row_rules T t r n b =
    (32, not (eqb r.spare 0))
    ∷ (32, is_set_from r (used T r.kind))
    ∷ (33, ltb 15 r.kind)
    ∷ kind_rules T t r n b

unfoldable pub share : TypeRow → ℕ
share r = pick (owns r.kind) r.b 0

unfoldable pub is_basic : List ℕ → ℕ → Bool
is_basic T t = ltb (at T 4 (row_at T t)) 8 && eqb (at T 8 (row_at T t + 4)) 0

unfoldable pub past : ℕ → ℕ → Bool → ℕ
past from t plain = pick (eqb from t && plain) (t + 1) from

unfoldable pub type_pass : List ℕ → Fault
type_pass T = pass (row_at T) (type_rules T) (range 0 (types T))

unfoldable pub allowed_rules_by : List ℕ → ℕ → TypeRow → ℕ → List (ℕ × Bool)
allowed_rules_by T all r n =
    pick (eqb r.kind 8)
    ((39, not (eqb r.c n))
    ∷ (39, ltb all (r.c + r.d))
    ∷ (39, not (rises_to (greatest_of r) (map (list_entry T) (range r.c r.d))))
    ∷ [])
    []

unfoldable pub entry_count : TypeRow → ℕ
entry_count r = pick (eqb r.kind 8) r.d 0

unfoldable pub allowed_pass : List ℕ → Fault
allowed_pass T = or_else (pass (row_at T) (allowed_rules T) (range 0 (types T))) (entries_rules T)

unfoldable pub rows_pass : List ℕ → Fault
rows_pass T = or_else (type_pass T) (or_else (allowed_pass T) (sum_rules T))

-- ---- member rows

unfoldable pub member_pass : List ℕ → Fault
member_pass T = pass (member_at T) (member_rules T) (range 0 (members T))

abbrev pub is_optional_of : List ℕ → ℕ → ℕ → Bool
is_optional_of T g i = eqb (mark T i) 1 && eqb (tag T i) g

unfoldable pub is_tag_before : List ℕ → ℕ → ℕ → ℕ → Bool
is_tag_before T first m g = any (is_optional_of T g) (range first (m - first))

unfoldable pub is_tag_alike : List ℕ → ℕ → ℕ → ℕ → ℕ → Bool
is_tag_alike T first m above g = ltb g above && is_tag_before T first m g

unfoldable pub required_rules : List ℕ → ℕ → MemberRow → List (ℕ × Bool)
required_rules T o r = (32, not (eqb r.tag 0)) ∷ (34, no_part T o r.of) ∷ []

unfoldable pub optional_rules : List ℕ → ℕ → TypeRow → MemberRow → Bool → List (ℕ × Bool)
optional_rules T o own r b =
    (34, no_part T o r.of)
    ∷ (36, ltb 1 r.mark)
    ∷ (36, eqb own.kind 9)
    ∷ (38, great r.tag)
    ∷ (38, b)
    ∷ []

unfoldable pub member_rules_by : List ℕ → ℕ → TypeRow → MemberRow → Bool → List (ℕ × Bool)
member_rules_by T o own r b = (32, not (eqb r.spare 0)) ∷ pick (eqb r.mark 0) (required_rules T o r) (optional_rules T o own r b)

unfoldable pub is_usual : ℕ → Bool → ℕ → Bool
is_usual x optional above =
    ltb x 65536 || (optional && (eqb (x / 65536 % 65536) 1 && (leb above (x / 4294967296) && ltb (x / 4294967296) 2147483648)))

unfoldable pub member_rules_of : List ℕ → ℕ → ℕ → List (ℕ × Bool)
member_rules_of T o m = member_rules_by T o (type_row_of T o) (member_row_of T m) (is_tag_before T (field T o 0) m (tag T m))

unfoldable pub owner_pass : List ℕ → ℕ → Fault
owner_pass T o = pass (member_at T) (member_rules_of T o) (range (field T o 0) (share (type_row_of T o)))

unfoldable pub owners_pass : List ℕ → List ℕ → Fault
owners_pass T [] = fine
owners_pass T (o ∷ os) = or_else (owner_pass T o) (owners_pass T os)

-- ---- member rows that are there

pub record MembersThere (T : List ℕ) (o : ℕ) : Type 0 where
  pub there : 0 < share (type_row_of T o) → field T o 0 + share (type_row_of T o) ≤ members T

pub record OwnersThere (T : List ℕ) : Type 0 where
  pub owners : (o : ℕ) → o < types T → MembersThere T o
