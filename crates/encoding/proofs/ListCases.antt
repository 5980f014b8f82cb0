-- A table of version 2, byte by byte: what its lists allow, and which rule is broken, and where, if one byte is another.
-- It fixes where the lists are, what each rule of class 39 judges, and its turn among the passes.
--
--   lists                    the table
--   lists_mean               its trees
--   lists_allow, lists_read  which enumerators its first enum has: those of its list and none between
--   faults_told              for each rule, one byte changed: the class and the place of the fault
--   turns_told               of two broken rules the first in the order of the passes
--   left_told, cut_told      an entry left over; bytes left out
use Rattle.std.specs.Prelude.{◌≡◌, refl, true, false, List, [], ◌∷◌, ◌++◌, map, ℕ, take}
use Rattle.encoding.specs.Types.{upto, only, allows, byte, enum, broken}
use Rattle.encoding.specs.Table
use Rattle.encoding.specs.Message
use Rattle.encoding.proofs.Cases.{answer_numbers, row_numbers, refusal, computed}
use Rattle.encoding.proofs.TableCases.{Change, change, changed, told}

-- ---- the table

-- FGT, version 2, 5 types, 2 members, 3 name bytes, zero, 6 entries
abbrev lists_header : List ℕ
lists_header = 70 ∷ 71 ∷ 84 ∷ 2 ∷ 0 ∷ 5 ∷ 0 ∷ 2 ∷ 0 ∷ 3 ∷ 0 ∷ 0 ∷ 6 ∷ 0 ∷ []

-- the type rows, each with its place and its meaning
abbrev lists_types : List ℕ
lists_types =
    8 ∷ 0 ∷ 4 ∷ 0 ∷ 0 ∷ 0 ∷ 0 ∷ 0 ∷ 3 ∷ 0 ∷ 0 ∷ 0  -- 0, at 14: enum of the entries 0, 1, 2
    ∷ 1 ∷ 0 ∷ 0 ∷ 0 ∷ 0 ∷ 0 ∷ 0 ∷ 0 ∷ 0 ∷ 0 ∷ 0 ∷ 0  -- 1, at 26: byte
    ∷ 8 ∷ 0 ∷ 2 ∷ 0 ∷ 0 ∷ 0 ∷ 3 ∷ 0 ∷ 3 ∷ 0 ∷ 0 ∷ 0  -- 2, at 38: enum of the entries 3, 4, 5
    ∷ 13 ∷ 0 ∷ 0 ∷ 0 ∷ 0 ∷ 0 ∷ 0 ∷ 0 ∷ 0 ∷ 0 ∷ 3 ∷ 0  -- 3, at 50: exception Off of no members
    ∷ 15 ∷ 0 ∷ 0 ∷ 0 ∷ 2 ∷ 0 ∷ 0 ∷ 0 ∷ 0 ∷ 0 ∷ 0 ∷ 0 ∷ []  -- 4, at 62: parameter list of members 0, 1

-- the member rows
abbrev lists_members : List ℕ
lists_members =
    0 ∷ 0 ∷ 0 ∷ 0 ∷ 0 ∷ 0 ∷ 0 ∷ 0  -- 0, at 74: enum 0
    ∷ 2 ∷ 0 ∷ 1 ∷ 0 ∷ 1 ∷ 0 ∷ 0 ∷ 0 ∷ []  -- 1, at 82: optional(1) enum 2

-- the names are at 90, the entries at 93
abbrev lists_entries : List ℕ
lists_entries =
    1 ∷ 0 ∷ 0 ∷ 0  -- 0, at 93
    ∷ 3 ∷ 0 ∷ 0 ∷ 0  -- 1, at 97
    ∷ 4 ∷ 0 ∷ 0 ∷ 0  -- 2, at 101
    ∷ 0 ∷ 0 ∷ 0 ∷ 0  -- 3, at 105
    ∷ 1 ∷ 0 ∷ 0 ∷ 0  -- 4, at 109
    ∷ 2 ∷ 0 ∷ 0 ∷ 0 ∷ []  -- 5, at 113

pub lists : List ℕ
lists = lists_header ++ lists_types ++ lists_members ++ (79 ∷ 102 ∷ 102 ∷ []) ++ lists_entries

-- ---- what it means

-- no rule broken; a list with holes, and one of all up to its last, which is what version 1 has
pub lists_mean : (Table.faults lists ≡ Table.fine) × (Table.trees lists ≡ enum (only (1 ∷ 3 ∷ 4 ∷ [])) ∷ byte ∷ enum (upto 2) ∷ broken ∷ broken ∷ [])
unfolding computed lists
lists_mean = (refl, refl)

-- 1, 3 and 4, and no other
pub lists_allow : map (allows (Table.allowed lists 0)) (0 ∷ 1 ∷ 2 ∷ 3 ∷ 4 ∷ 5 ∷ []) ≡ false ∷ true ∷ false ∷ true ∷ true ∷ false ∷ []
unfolding computed lists
lists_allow = refl

-- a parameter list with enumerator n and no optional
abbrev valve : ℕ → List ℕ
valve n = 7 ∷ 0 ∷ 0 ∷ 0 ∷ 1 ∷ 1 ∷ n ∷ []

-- 3 is read; 2, between two entries, is refused by 9
pub lists_read : map (λ n. answer_numbers (Message.reading lists 4 (valve n) 12)) (3 ∷ 2 ∷ []) ≡ (0 ∷ 0 ∷ 4 ∷ 1 ∷ 1 ∷ 0 ∷ 0 ∷ 0 ∷ 6 ∷ 1 ∷ []) ∷ refusal 9 6 ∷ []
unfolding computed lists answer_numbers row_numbers
lists_read = refl

-- ---- one byte changed

pub list_faults : List Change
list_faults =
    change 3 3 31 0  -- version 3
    ∷ change 11 1 31 0  -- zero byte
    ∷ change 12 5 31 0  -- 5 entries and more bytes
    ∷ change 13 4 31 0  -- 1,030 entries
    ∷ change 24 1 32 14  -- an enum's e
    ∷ change 19 128 38 14  -- an enumerator above 2^31 - 1
    ∷ change 20 1 39 14  -- an entry passed over
    ∷ change 22 0 39 14  -- an empty list
    ∷ change 44 2 39 38  -- an entry taken twice
    ∷ change 46 4 39 38  -- a list that ends after the entries
    ∷ change 97 1 39 14  -- two equal entries
    ∷ change 97 4 39 14  -- a last entry that is not above the one before
    ∷ change 94 1 39 14  -- a first entry of 257
    ∷ change 96 1 39 14  -- a first entry of 2^24 + 1
    ∷ change 101 5 39 14  -- a last entry that is not the greatest
    ∷ change 16 5 39 14  -- a greatest that is not the last entry
    ∷ change 64 1 35 62  -- a member passed over
    ∷ change 82 3 34 82  -- an exception as a member's type
    ∷ []

pub faults_told : map (λ c. told (changed lists c)) list_faults ≡ map (λ c. c.class ∷ c.place ∷ []) list_faults
unfolding computed lists changed told list_faults Table.table_verdict Table.verdict_numbers
faults_told = refl

-- ---- two broken rules

-- lists are judged after all type rows and before the member sum: a base that is not there, at row 3, comes before a list that does not rise, at row 0,
-- and that comes before a member row left over, at 0; of one row the great enumerator comes before its list
pub turns_told : map told (changed (changed lists (change 97 1 39 14)) (change 56 9 34 50) ∷ changed (changed lists (change 97 1 39 14)) (change 66 1 35 0) ∷ changed (changed lists (change 97 1 39 14)) (change 19 128 38 14) ∷ [])
    ≡ (34 ∷ 50 ∷ []) ∷ (39 ∷ 14 ∷ []) ∷ (38 ∷ 14 ∷ []) ∷ []
unfolding computed lists changed told Table.table_verdict Table.verdict_numbers
turns_told = refl

-- an entry that no list takes, at 0, before a member row left over
pub left_told : map told ((changed lists (change 12 7 39 0) ++ (9 ∷ 0 ∷ 0 ∷ 0 ∷ [])) ∷ (changed (changed lists (change 12 7 39 0)) (change 66 1 35 0) ++ (9 ∷ 0 ∷ 0 ∷ 0 ∷ [])) ∷ [])
    ≡ (39 ∷ 0 ∷ []) ∷ (39 ∷ 0 ∷ []) ∷ []
unfolding computed lists changed told Table.table_verdict Table.verdict_numbers
left_told = refl

-- ---- bytes left out

-- cut off before E, in E, before the last byte; and whole
pub cut_told : map (λ n. told (take n lists)) (12 ∷ 13 ∷ 116 ∷ 117 ∷ []) ≡ (31 ∷ 0 ∷ []) ∷ (31 ∷ 0 ∷ []) ∷ (31 ∷ 0 ∷ []) ∷ (0 ∷ 0 ∷ []) ∷ []
unfolding computed lists told Table.table_verdict Table.verdict_numbers
cut_told = refl
