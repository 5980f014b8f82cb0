-- A table with a row of each kind, byte by byte: what its rows mean, and which rule is broken, and where, if one byte is another.
-- It fixes the layout (where each row and each field is) and the class of each rule.
--
--   sample                          the table
--   Meaning, sample_means           its trees, members, names and bases
--   Change, changed, told           a byte changed; the number and the place of the fault
--   changes, changes_told           for each rule, one byte changed: the class and the place of the fault
--   cuts_told, zero_bytes_apart     bytes left out; a zero byte that is not 0
use Rattle.std.specs.Prelude.{◌≡◌, refl, List, [], ◌∷◌, ◌++◌, map, ℕ, suc, take, drop}
use Rattle.std.proofs.Math.Option.{none, some}
use Rattle.encoding.specs.Types.{upto, short, int, long, float, double, Ty, nil, cons, bool, byte, string, proxy, num, enum, struct, seq, dict, broken}
use Rattle.encoding.specs.Table
use Rattle.encoding.proofs.Cases.{computed}

-- ---- the table

-- FGT, version 1, 17 types, 8 members, 16 name bytes, zero
abbrev sample_header : List ℕ
sample_header = 70 ∷ 71 ∷ 84 ∷ 1 ∷ 0 ∷ 17 ∷ 0 ∷ 8 ∷ 0 ∷ 16 ∷ 0 ∷ 0 ∷ []

-- the type rows, each with its place and its meaning
abbrev sample_types : List ℕ
sample_types =
    0 ∷ 0 ∷ 0 ∷ 0 ∷ 0 ∷ 0 ∷ 0 ∷ 0 ∷ 0 ∷ 0 ∷ 0 ∷ 0  -- 0, at 12: bool
    ∷ 1 ∷ 0 ∷ 0 ∷ 0 ∷ 0 ∷ 0 ∷ 0 ∷ 0 ∷ 0 ∷ 0 ∷ 0 ∷ 0  -- 1, at 24: byte
    ∷ 2 ∷ 0 ∷ 0 ∷ 0 ∷ 0 ∷ 0 ∷ 0 ∷ 0 ∷ 0 ∷ 0 ∷ 0 ∷ 0  -- 2, at 36: short
    ∷ 3 ∷ 0 ∷ 0 ∷ 0 ∷ 0 ∷ 0 ∷ 0 ∷ 0 ∷ 0 ∷ 0 ∷ 0 ∷ 0  -- 3, at 48: int
    ∷ 4 ∷ 0 ∷ 0 ∷ 0 ∷ 0 ∷ 0 ∷ 0 ∷ 0 ∷ 0 ∷ 0 ∷ 0 ∷ 0  -- 4, at 60: long
    ∷ 5 ∷ 0 ∷ 0 ∷ 0 ∷ 0 ∷ 0 ∷ 0 ∷ 0 ∷ 0 ∷ 0 ∷ 0 ∷ 0  -- 5, at 72: float
    ∷ 6 ∷ 0 ∷ 0 ∷ 0 ∷ 0 ∷ 0 ∷ 0 ∷ 0 ∷ 0 ∷ 0 ∷ 0 ∷ 0  -- 6, at 84: double
    ∷ 7 ∷ 0 ∷ 0 ∷ 0 ∷ 0 ∷ 0 ∷ 0 ∷ 0 ∷ 0 ∷ 0 ∷ 0 ∷ 0  -- 7, at 96: string
    ∷ 8 ∷ 0 ∷ 44 ∷ 1 ∷ 2 ∷ 0 ∷ 0 ∷ 0 ∷ 0 ∷ 0 ∷ 0 ∷ 0  -- 8, at 108: enum up to 300 + 65,536 * 2
    ∷ 9 ∷ 0 ∷ 0 ∷ 0 ∷ 2 ∷ 0 ∷ 0 ∷ 0 ∷ 0 ∷ 0 ∷ 0 ∷ 0  -- 9, at 120: struct of members 0, 1
    ∷ 10 ∷ 0 ∷ 9 ∷ 0 ∷ 0 ∷ 0 ∷ 0 ∷ 0 ∷ 0 ∷ 0 ∷ 0 ∷ 0  -- 10, at 132: sequence of 9
    ∷ 11 ∷ 0 ∷ 7 ∷ 0 ∷ 10 ∷ 0 ∷ 0 ∷ 0 ∷ 0 ∷ 0 ∷ 0 ∷ 0  -- 11, at 144: dictionary of 7 to 10
    ∷ 12 ∷ 0 ∷ 0 ∷ 0 ∷ 0 ∷ 0 ∷ 0 ∷ 0 ∷ 0 ∷ 0 ∷ 0 ∷ 0  -- 12, at 156: proxy
    ∷ 13 ∷ 0 ∷ 2 ∷ 0 ∷ 1 ∷ 0 ∷ 0 ∷ 0 ∷ 1 ∷ 0 ∷ 4 ∷ 0  -- 13, at 168: exception Base of member 2
    ∷ 14 ∷ 0 ∷ 3 ∷ 0 ∷ 2 ∷ 0 ∷ 0 ∷ 0 ∷ 5 ∷ 0 ∷ 4 ∷ 0  -- 14, at 180: class Cars of members 3, 4
    ∷ 15 ∷ 0 ∷ 5 ∷ 0 ∷ 1 ∷ 0 ∷ 0 ∷ 0 ∷ 0 ∷ 0 ∷ 0 ∷ 0  -- 15, at 192: parameter list of member 5
    ∷ 13 ∷ 0 ∷ 6 ∷ 0 ∷ 2 ∷ 0 ∷ 14 ∷ 0 ∷ 9 ∷ 0 ∷ 7 ∷ 0 ∷ []  -- 16, at 204: exception Derived of members 6, 7, base 13

-- the member rows
abbrev sample_members : List ℕ
sample_members =
    1 ∷ 0 ∷ 0 ∷ 0 ∷ 0 ∷ 0 ∷ 0 ∷ 0  -- 0, at 216: byte
    ∷ 8 ∷ 0 ∷ 0 ∷ 0 ∷ 0 ∷ 0 ∷ 0 ∷ 0  -- 1, at 224: enum
    ∷ 7 ∷ 0 ∷ 0 ∷ 0 ∷ 0 ∷ 0 ∷ 0 ∷ 0  -- 2, at 232: string
    ∷ 11 ∷ 0 ∷ 1 ∷ 0 ∷ 5 ∷ 0 ∷ 1 ∷ 0  -- 3, at 240: optional(5 + 65,536) dictionary
    ∷ 12 ∷ 0 ∷ 0 ∷ 0 ∷ 0 ∷ 0 ∷ 0 ∷ 0  -- 4, at 248: proxy
    ∷ 3 ∷ 0 ∷ 1 ∷ 0 ∷ 1 ∷ 0 ∷ 0 ∷ 0  -- 5, at 256: optional(1) int
    ∷ 4 ∷ 0 ∷ 1 ∷ 0 ∷ 6 ∷ 0 ∷ 0 ∷ 0  -- 6, at 264: optional(6) long
    ∷ 2 ∷ 0 ∷ 1 ∷ 0 ∷ 7 ∷ 0 ∷ 0 ∷ 0 ∷ []  -- 7, at 272: optional(7) short

-- the names of its records, in ASCII
abbrev name_base : List ℕ
name_base = 66 ∷ 97 ∷ 115 ∷ 101 ∷ []

abbrev name_cars : List ℕ
name_cars = 67 ∷ 97 ∷ 114 ∷ 115 ∷ []

abbrev name_derived : List ℕ
name_derived = 68 ∷ 101 ∷ 114 ∷ 105 ∷ 118 ∷ 101 ∷ 100 ∷ []

-- the names are at 280, the first of their bytes unused
pub sample : List ℕ
sample = sample_header ++ sample_types ++ sample_members ++ (46 ∷ name_base) ++ name_cars ++ name_derived

-- ---- what it means

-- a member by its row, its tag or position, and its type
abbrev member : ℕ → ℕ → Ty → Table.Member
member r k t = record { row = r; key = k; ty = t }

-- row 9: a byte and an enumerator
abbrev pair : Ty
pair = struct (cons byte (cons (enum (upto 131372)) nil))

-- no rule broken; the tree of each row; the members of the owners 9, 13, 14, 15, 16; names, and the records found by name; chains of bases
pub record Meaning (T : List ℕ) : Type 0 where
  pub fine : Table.faults T ≡ Table.fine
  pub trees : Table.trees T ≡ bool ∷ byte ∷ num short ∷ num int ∷ num long ∷ num float ∷ num double ∷ string ∷ enum (upto 131372) ∷ pair ∷ seq pair ∷ dict string (seq pair)
      ∷ proxy ∷ broken ∷ broken ∷ broken ∷ broken ∷ []
  pub required : map (Table.required_members T) (9 ∷ 13 ∷ 14 ∷ 15 ∷ 16 ∷ [])
      ≡ (member 0 0 byte ∷ member 1 1 (enum (upto 131372)) ∷ []) ∷ (member 2 0 string ∷ []) ∷ (member 4 0 proxy ∷ []) ∷ [] ∷ [] ∷ []
  pub optional : map (Table.optional_members T) (9 ∷ 13 ∷ 14 ∷ 15 ∷ 16 ∷ [])
      ≡ [] ∷ [] ∷ (member 3 65541 (dict string (seq pair)) ∷ []) ∷ (member 5 1 (num int) ∷ []) ∷ (member 6 6 (num long) ∷ member 7 7 (num short) ∷ []) ∷ []
  pub names : map (Table.name_of T) (13 ∷ 14 ∷ 16 ∷ []) ≡ name_base ∷ name_cars ∷ name_derived ∷ []
  pub named : map (Table.named T) (name_base ∷ name_cars ∷ name_derived ∷ (46 ∷ name_base) ∷ []) ≡ some 13 ∷ some 14 ∷ some 16 ∷ none ∷ []
  pub chains : map (Table.chain T) (13 ∷ 14 ∷ 15 ∷ 16 ∷ []) ≡ (13 ∷ []) ∷ (14 ∷ []) ∷ (15 ∷ []) ∷ (16 ∷ 13 ∷ []) ∷ []

pub sample_means : Meaning sample
unfolding computed sample
sample_means = record { fine = refl; trees = refl; required = refl; optional = refl; names = refl; named = refl; chains = refl }

-- ---- one byte changed

-- the byte at a place, what it is changed to, and the fault: its class and its place
pub record Change : Type 0 where
  pub at : ℕ
  pub to : ℕ
  pub class : ℕ
  pub place : ℕ

-- a table with the byte changed
unfoldable pub changed : List ℕ → Change → List ℕ
changed T c = take c.at T ++ (c.to ∷ drop (suc c.at) T)

-- the number and the place that the call for a table alone answers
unfoldable pub told : List ℕ → List ℕ
told T = Table.verdict_numbers (Table.table_verdict (Table.faults T))

abbrev pub change : ℕ → ℕ → ℕ → ℕ → Change
change i v c p = record { at = i; to = v; class = c; place = p }

pub changes : List Change
changes =
    change 2 85 31 0  -- mark FGU
    ∷ change 3 3 31 0  -- version 3
    ∷ change 3 2 31 0  -- version 2, too short for its header and its rows
    ∷ change 4 1 31 0  -- version 257
    ∷ change 5 0 31 0  -- no types
    ∷ change 6 1 31 0  -- 273 types
    ∷ change 8 4 31 0  -- 1,032 members
    ∷ change 10 32 31 0  -- 8,208 name bytes
    ∷ change 11 1 31 0  -- zero byte
    ∷ change 9 15 31 0  -- a byte after the names
    ∷ change 13 1 32 12  -- zero byte of row 0
    ∷ change 136 1 32 132  -- a sequence's b
    ∷ change 23 1 32 12  -- a bool's e
    ∷ change 204 16 33 204  -- kind 16, its fields unjudged
    ∷ change 134 10 34 132  -- a sequence of itself
    ∷ change 146 11 34 144  -- a dictionary with itself as key
    ∷ change 148 11 34 144  -- with itself as value
    ∷ change 210 17 34 204  -- a base that is the row itself
    ∷ change 210 15 34 204  -- an exception with a class as base
    ∷ change 170 3 35 168  -- a member passed over
    ∷ change 208 1 35 0  -- a member left over
    ∷ change 124 0 36 120  -- an empty struct
    ∷ change 178 0 37 168  -- an empty name
    ∷ change 179 1 37 168  -- a name of 260 bytes
    ∷ change 214 8 37 204  -- a name that ends after the name bytes
    ∷ change 188 1 37 180  -- a class with the name of an exception before it
    ∷ change 283 0x80 37 168  -- a name that is no text
    ∷ change 113 128 38 108  -- an enumerator above 2^31 - 1
    ∷ change 219 1 32 216  -- zero byte of member 0
    ∷ change 220 1 32 216  -- a required member with a tag
    ∷ change 216 9 34 216  -- a struct as its own member's type
    ∷ change 264 13 34 264  -- an exception as a member's type
    ∷ change 217 1 34 216  -- a type 257 of a member
    ∷ change 258 2 36 256  -- mark 2
    ∷ change 218 1 36 216  -- an optional in a struct
    ∷ change 263 128 38 256  -- a tag above 2^31 - 1
    ∷ change 276 6 38 272  -- two optionals of an owner with one tag
    ∷ []

pub changes_told : map (λ c. told (changed sample c)) changes ≡ map (λ c. c.class ∷ c.place ∷ []) changes
unfolding computed sample changed told changes Table.table_verdict Table.verdict_numbers
changes_told = refl

-- ---- two broken rules

-- of two rows the first is named, whatever the classes: an enumerator too great, and the zero byte of the next row;
-- of one row the first class: a member passed over, and an empty name
pub first_told : (told (changed (changed sample (change 113 128 38 108)) (change 121 1 32 120)) ≡ 38 ∷ 108 ∷ []) × (told (changed (changed sample (change 178 0 37 168)) (change 170 3 35 168)) ≡ 35 ∷ 168 ∷ [])
unfolding computed sample changed told Table.table_verdict Table.verdict_numbers
first_told = (refl, refl)

-- ---- bytes left out

-- cut off in the mark, in the header, after the header, before the last byte; and whole
pub cuts_told : map (λ n. Table.faults (take n sample)) (0 ∷ 4 ∷ 11 ∷ 12 ∷ 295 ∷ 296 ∷ []) ≡ Table.fault 31 0 ∷ Table.fault 31 0 ∷ Table.fault 31 0 ∷ Table.fault 31 0 ∷ Table.fault 31 0 ∷ Table.fine ∷ []
unfolding computed sample
cuts_told = refl

-- a zero byte that is not 0 is no part of the kind or of the mark before it
pub zero_bytes_apart : (Table.kind (changed sample (change 13 1 32 12)) 0 ≡ 0) × (Table.mark (changed sample (change 219 1 32 216)) 0 ≡ 0)
unfolding computed sample changed
zero_bytes_apart = (refl, refl)
