-- Each refusal of a reader or a writer, 2 to 24, by a call on a few bytes for each of its reasons in document 01: its number and its place.
-- Only 22 of a message above 65,536 bytes has no case here: `TooLong` promises it of all messages.
-- It fixes which number a reason has: a promise about all messages says of 7 to 18 and 24 only that they come inside the encapsulation.
--
--   records                                  a table of two exceptions and a class
--   lone r, lone_optional r                   tables of a parameter list with one member
--   reader_cases, reader_refuses              2 and 4 to 18, in the order of document 01's table, then 24
--   short_list                               19
--   writer_cases, writer_refuses              2 and 20 to 23; wrong_text: 21 for a string that is no text
--   record_written                           a record that is written, byte by byte
--   long_message, long_buffer                3, one byte above the limit
--   longest_message, longest_buffer          at the limit there is no 3
use Rattle.std.specs.Prelude.{◌≡◌, refl, List, [], ◌∷◌, ◌++◌, map, ℕ, ◌+◌, length}
use Rattle.encoding.specs.Result
use Rattle.encoding.specs.Message
use Rattle.encoding.specs.Write
use Rattle.encoding.proofs.Cases.{type_row, basic, parameters, need, may, table_of, reads, row_numbers, answer_numbers, res_numbers, asked, table4, Case, refusal, computed}

-- ---- tables and messages

-- byte; exception B of a byte; exception D, base B, of optional(1) byte; class C of nothing
abbrev pub records : List ℕ
records =
    70 ∷ 71 ∷ 84 ∷ 1 ∷ 0 ∷ 4 ∷ 0 ∷ 2 ∷ 0 ∷ 3 ∷ 0 ∷ 0
    ∷ 1 ∷ 0 ∷ 0 ∷ 0 ∷ 0 ∷ 0 ∷ 0 ∷ 0 ∷ 0 ∷ 0 ∷ 0 ∷ 0
    ∷ 13 ∷ 0 ∷ 0 ∷ 0 ∷ 1 ∷ 0 ∷ 0 ∷ 0 ∷ 0 ∷ 0 ∷ 1 ∷ 0
    ∷ 13 ∷ 0 ∷ 1 ∷ 0 ∷ 1 ∷ 0 ∷ 2 ∷ 0 ∷ 1 ∷ 0 ∷ 1 ∷ 0
    ∷ 14 ∷ 0 ∷ 2 ∷ 0 ∷ 0 ∷ 0 ∷ 0 ∷ 0 ∷ 2 ∷ 0 ∷ 1 ∷ 0
    ∷ 0 ∷ 0 ∷ 0 ∷ 0 ∷ 0 ∷ 0 ∷ 0 ∷ 0
    ∷ 0 ∷ 0 ∷ 1 ∷ 0 ∷ 1 ∷ 0 ∷ 0 ∷ 0
    ∷ 66 ∷ 68 ∷ 67 ∷ []

-- type row r, and a parameter list, row 1, of one required member of it
abbrev pub lone : List ℕ → List ℕ
lone r = table_of (r ∷ parameters 1 ∷ []) (need 0 ∷ [])

-- of one optional member with tag 1
abbrev pub lone_optional : List ℕ → List ℕ
lone_optional r = table_of (r ∷ parameters 1 ∷ []) (may 0 1 ∷ [])

-- byte, short, a struct of both, a parameter list of a struct
abbrev struct_table : List ℕ
struct_table = table_of (basic 1 ∷ basic 2 ∷ type_row 9 0 2 ∷ type_row 15 2 1 ∷ []) (need 0 ∷ need 1 ∷ need 2 ∷ [])

-- short, a struct of it, a parameter list of optional(1) struct
abbrev optional_struct : List ℕ
optional_struct = table_of (basic 2 ∷ type_row 9 0 1 ∷ type_row 15 1 1 ∷ []) (need 0 ∷ may 1 1 ∷ [])

-- byte, a sequence of it, a parameter list of a sequence
abbrev sequence_table : List ℕ
sequence_table = table_of (basic 1 ∷ type_row 10 0 0 ∷ parameters 1 ∷ []) (need 1 ∷ [])

-- data in an encapsulation, at 6
abbrev sent : List ℕ → List ℕ
sent b = (6 + length b) ∷ 0 ∷ 0 ∷ 0 ∷ 1 ∷ 1 ∷ b

-- ---- the reader

-- data that is refused under a table and a top: the number, the place
abbrev refuses : List ℕ → ℕ → List ℕ → ℕ → ℕ → Case
refuses T top b n p = record { asks = reads T top (sent b); gives = refusal n p }

-- data that is accepted, and all its numbers
abbrev accepts : List ℕ → ℕ → List ℕ → List ℕ → Case
accepts T top b ns = record { asks = reads T top (sent b); gives = ns }

pub reader_cases : List Case
reader_cases =
    refuses (lone (basic 1)) 2 (7 ∷ []) 2 0  -- 2: a type that is not in the table
    ∷ refuses (lone (basic 1)) 0 (7 ∷ []) 2 0  -- a type below kind 13
    ∷ refuses (lone (basic 3)) 1 (1 ∷ 2 ∷ 3 ∷ []) 4 6  -- 4: an int cut off
    ∷ refuses (lone (basic 7)) 1 (3 ∷ 65 ∷ 66 ∷ []) 4 6  -- a string cut off, at its size
    ∷ refuses struct_table 3 (1 ∷ 2 ∷ []) 4 7  -- the second member of a struct, not the struct
    ∷ refuses sequence_table 2 (3 ∷ 1 ∷ 2 ∷ []) 4 9  -- the third element, not the sequence
    ∷ refuses (lone (basic 12)) 1 (1 ∷ 97 ∷ 0 ∷ 0 ∷ 0 ∷ 0 ∷ 1 ∷ []) 4 13  -- the second byte of a proxy's protocol
    ∷ refuses (lone (basic 12)) 1 (1 ∷ 97 ∷ 0 ∷ 0 ∷ 0 ∷ 0 ∷ 1 ∷ 0 ∷ 1 ∷ 1 ∷ 0 ∷ []) 4 17  -- an adapter that is missing
    ∷ refuses (lone_optional (basic 7)) 1 (13 ∷ 2 ∷ 65 ∷ []) 4 7  -- a VSize past the end
    ∷ refuses (lone_optional (basic 12)) 1 (14 ∷ 3 ∷ 0 ∷ 0 ∷ 0 ∷ 0 ∷ 0 ∷ []) 4 7  -- an FSize past the end
    ∷ refuses optional_struct 2 (13 ∷ 1 ∷ 1 ∷ 2 ∷ []) 4 8  -- a value past its declared bytes
    ∷ refuses records 1 [] 4 6  -- the first flags missing
    ∷ refuses records 1 (1 ∷ 1 ∷ 68 ∷ []) 4 9  -- the flags of the base missing
    ∷ refuses records 1 (49 ∷ 1 ∷ 66 ∷ 6 ∷ 0 ∷ 0 ∷ 0 ∷ 7 ∷ []) 4 9  -- a slice's size past the end
    ∷ refuses records 1 (5 ∷ 1 ∷ 68 ∷ []) 4 9  -- bit 2, and nothing after the ID
    ∷ refuses records 1 (5 ∷ 1 ∷ 68 ∷ 8 ∷ 9 ∷ []) 4 11  -- the end marker missing
    ∷ record { asks = reads table4 0 (5 ∷ 0 ∷ 0 ∷ 0 ∷ 1 ∷ []); gives = refusal 5 0 }  -- 5: a size under 6
    ∷ record { asks = reads table4 0 (7 ∷ 0 ∷ 0 ∷ 0 ∷ 1 ∷ 1 ∷ []); gives = refusal 5 0 }  -- not the length
    ∷ record { asks = reads table4 0 (6 ∷ 0 ∷ 0 ∷ 0 ∷ 2 ∷ 1 ∷ []); gives = refusal 6 4 }  -- 6: version 2.1
    ∷ refuses (lone (basic 7)) 1 (255 ∷ 2 ∷ 0 ∷ 0 ∷ 0 ∷ 65 ∷ 66 ∷ []) 7 6  -- 7: a long form below 255
    ∷ refuses (lone (basic 7)) 1 (255 ∷ 255 ∷ 255 ∷ 255 ∷ 255 ∷ []) 7 6  -- a negative size
    ∷ refuses (lone_optional (basic 1)) 1 (240 ∷ 255 ∷ 30 ∷ 0 ∷ 0 ∷ 0 ∷ 7 ∷ []) 7 7  -- a tag's size
    ∷ refuses (lone (basic 0)) 1 (2 ∷ []) 8 6  -- 8: a bool of 2
    ∷ refuses (lone (basic 12)) 1 (1 ∷ 97 ∷ 0 ∷ 0 ∷ 0 ∷ 2 ∷ []) 8 11  -- a proxy's secure bool
    ∷ refuses (lone (type_row 8 2 0)) 1 (3 ∷ []) 9 6  -- 9: enumerator 3 of at most 2
    ∷ refuses (lone (basic 12)) 1 (0 ∷ 1 ∷ 97 ∷ []) 10 6  -- 10: a category without a name
    ∷ refuses (lone (basic 12)) 1 (1 ∷ 97 ∷ 0 ∷ 2 ∷ []) 10 9  -- two facets
    ∷ refuses (lone (basic 12)) 1 (1 ∷ 97 ∷ 0 ∷ 0 ∷ 5 ∷ []) 10 10  -- mode 5
    ∷ refuses (lone_optional (basic 12)) 1 (14 ∷ 0 ∷ 0 ∷ 0 ∷ 0 ∷ []) 11 7  -- 11: an FSize of 0
    ∷ refuses (lone_optional (basic 12)) 1 (14 ∷ 255 ∷ 255 ∷ 255 ∷ 255 ∷ []) 11 7  -- a negative FSize
    ∷ refuses (lone_optional (basic 12)) 1 (14 ∷ 3 ∷ 0 ∷ 0 ∷ 0 ∷ 0 ∷ 0 ∷ 0 ∷ []) 11 7  -- an FSize not used up
    ∷ refuses optional_struct 2 (13 ∷ 3 ∷ 1 ∷ 2 ∷ 3 ∷ []) 11 7  -- a VSize not used up
    ∷ refuses records 1 (49 ∷ 1 ∷ 66 ∷ 3 ∷ 0 ∷ 0 ∷ 0 ∷ []) 11 9  -- a slice's size below 4
    ∷ refuses records 1 (17 ∷ 1 ∷ 88 ∷ 3 ∷ 0 ∷ 0 ∷ 0 ∷ []) 11 9  -- of a skipped slice
    ∷ refuses records 1 (49 ∷ 1 ∷ 66 ∷ 6 ∷ 0 ∷ 0 ∷ 0 ∷ 7 ∷ 7 ∷ []) 11 9  -- a slice's size not used up
    ∷ refuses (lone (basic 12)) 1 (1 ∷ 97 ∷ 0 ∷ 0 ∷ 0 ∷ 0 ∷ 1 ∷ 0 ∷ 1 ∷ 1 ∷ 1 ∷ 1 ∷ 0 ∷ 5 ∷ 0 ∷ 0 ∷ 0 ∷ 1 ∷ []) 11 19  -- an endpoint's size below 6
    ∷ refuses (lone_optional (basic 1)) 1 (248 ∷ []) 12 6  -- 12: five bits 31
    ∷ refuses (lone_optional (basic 1)) 1 (255 ∷ []) 12 6  -- the end marker in a parameter list
    ∷ refuses (lone_optional (basic 1)) 1 (240 ∷ 29 ∷ 7 ∷ []) 12 6  -- a long tag under 30
    ∷ refuses (lone_optional (basic 1)) 1 (16 ∷ 5 ∷ 8 ∷ 5 ∷ []) 12 8  -- a tag that falls
    ∷ refuses (lone_optional (basic 1)) 1 (9 ∷ 1 ∷ 2 ∷ []) 12 6  -- a known tag with another type
    ∷ refuses (lone_optional (basic 1)) 1 (16 ∷ 5 ∷ 15 ∷ []) 12 8  -- a tag that falls, before its Class
    ∷ refuses (lone_optional (basic 1)) 1 (15 ∷ []) 13 6  -- 13: a known tag with Class, before its type
    ∷ refuses (lone_optional (basic 1)) 1 (23 ∷ []) 13 6  -- an unknown tag with Class
    ∷ refuses records 1 (41 ∷ 1 ∷ 66 ∷ 7 ∷ []) 13 6  -- flags bit 3
    ∷ refuses records 1 (34 ∷ 1 ∷ 66 ∷ 7 ∷ []) 13 6  -- ID form 2
    ∷ refuses records 1 (35 ∷ 1 ∷ 66 ∷ 7 ∷ []) 13 6  -- ID form 3
    ∷ refuses records 3 (0 ∷ 33 ∷ 1 ∷ 67 ∷ []) 13 6  -- a marker of 0
    ∷ refuses records 1 (97 ∷ 1 ∷ 66 ∷ 7 ∷ []) 14 6  -- 14: flags bit 6
    ∷ refuses records 1 (161 ∷ 1 ∷ 66 ∷ 7 ∷ []) 14 6  -- bit 7
    ∷ refuses records 1 (105 ∷ 1 ∷ 66 ∷ 7 ∷ []) 14 6  -- bit 6, before bit 3
    ∷ refuses records 1 (32 ∷ 7 ∷ []) 14 6  -- the ID missing
    ∷ refuses records 1 (17 ∷ 1 ∷ 68 ∷ 4 ∷ 0 ∷ 0 ∷ 0 ∷ 33 ∷ 1 ∷ 66 ∷ 7 ∷ []) 14 13  -- compact after sliced
    ∷ refuses records 1 (1 ∷ 1 ∷ 68 ∷ 49 ∷ 1 ∷ 66 ∷ 5 ∷ 0 ∷ 0 ∷ 0 ∷ 7 ∷ []) 14 9  -- sliced after compact
    ∷ refuses records 1 (1 ∷ 1 ∷ 68 ∷ 34 ∷ 7 ∷ []) 14 9  -- ID bits in a later compact slice
    ∷ refuses records 1 (5 ∷ 1 ∷ 68 ∷ 255 ∷ 32 ∷ 7 ∷ []) 14 6  -- bit 2 with no optional
    ∷ refuses records 1 (33 ∷ 1 ∷ 88 ∷ 7 ∷ []) 15 7  -- 15: compact, an unknown ID
    ∷ refuses records 1 (49 ∷ 1 ∷ 88 ∷ 4 ∷ 0 ∷ 0 ∷ 0 ∷ []) 16 6  -- 16: sliced, the last slice, an unknown ID
    ∷ refuses records 1 (17 ∷ 1 ∷ 88 ∷ 4 ∷ 0 ∷ 0 ∷ 0 ∷ 49 ∷ 1 ∷ 89 ∷ 4 ∷ 0 ∷ 0 ∷ 0 ∷ []) 16 13  -- after a skipped one
    ∷ refuses records 1 (1 ∷ 1 ∷ 66 ∷ 7 ∷ []) 17 6  -- 17: no bit 5 on B, which has no base
    ∷ refuses records 1 (33 ∷ 1 ∷ 68 ∷ []) 17 6  -- bit 5 on D, which has a base
    ∷ refuses records 2 (33 ∷ 1 ∷ 66 ∷ 7 ∷ []) 17 6  -- B under the top D
    ∷ refuses records 1 (33 ∷ 1 ∷ 67 ∷ []) 17 6  -- a class for an exception
    ∷ refuses records 1 (17 ∷ 1 ∷ 68 ∷ 4 ∷ 0 ∷ 0 ∷ 0 ∷ 17 ∷ 1 ∷ 68 ∷ 4 ∷ 0 ∷ 0 ∷ 0 ∷ []) 17 13  -- D where its base is due
    ∷ refuses records 1 (1 ∷ 1 ∷ 68 ∷ 0 ∷ 7 ∷ []) 17 9  -- no bit 5 on the base B
    ∷ refuses records 1 (33 ∷ 1 ∷ 66 ∷ 7 ∷ 0 ∷ []) 18 10  -- 18: a byte after the record
    ∷ refuses (lone (basic 7)) 1 (1 ∷ 0x80 ∷ []) 24 6  -- 24: a later byte without its first
    ∷ refuses (lone (basic 7)) 1 (3 ∷ 65 ∷ 0xE2 ∷ 0x82 ∷ []) 24 6  -- a character cut off
    ∷ refuses (lone (basic 7)) 1 (2 ∷ 0xC1 ∷ 0xBF ∷ []) 24 6  -- two bytes where one is enough
    ∷ refuses (lone (basic 7)) 1 (3 ∷ 0xE0 ∷ 0x9F ∷ 0xBF ∷ []) 24 6  -- three where two are enough
    ∷ refuses (lone (basic 7)) 1 (4 ∷ 0xF0 ∷ 0x8F ∷ 0xBF ∷ 0xBF ∷ []) 24 6  -- four where three are enough
    ∷ refuses (lone (basic 7)) 1 (3 ∷ 0xED ∷ 0xA0 ∷ 0x80 ∷ []) 24 6  -- a surrogate
    ∷ refuses (lone (basic 7)) 1 (4 ∷ 0xF4 ∷ 0x90 ∷ 0x80 ∷ 0x80 ∷ []) 24 6  -- a value above 10FFFF
    ∷ refuses (lone (basic 7)) 1 (2 ∷ 0x80 ∷ []) 4 6  -- after 4 of that string
    ∷ refuses (lone (basic 7)) 1 (255 ∷ 1 ∷ 0 ∷ 0 ∷ 0 ∷ 0x80 ∷ []) 7 6  -- after 7
    ∷ refuses (lone_optional (basic 7)) 1 (13 ∷ 1 ∷ 0x80 ∷ []) 24 7  -- an optional string, at its size
    ∷ refuses (lone (basic 12)) 1 (1 ∷ 0x80 ∷ 1 ∷ []) 24 6  -- an identity's name, before the category is read
    ∷ refuses (lone (basic 12)) 1 (0 ∷ 1 ∷ 0x80 ∷ []) 24 7  -- a category, before 10
    ∷ refuses (lone (basic 12)) 1 (1 ∷ 97 ∷ 0 ∷ 1 ∷ 1 ∷ 0x80 ∷ []) 24 10  -- a facet
    ∷ refuses (lone (basic 12)) 1 (1 ∷ 97 ∷ 0 ∷ 0 ∷ 0 ∷ 0 ∷ 1 ∷ 0 ∷ 1 ∷ 1 ∷ 0 ∷ 1 ∷ 0x80 ∷ []) 24 17  -- an adapter
    ∷ refuses records 1 (33 ∷ 1 ∷ 0x80 ∷ []) 24 7  -- an unknown type ID, before 15
    ∷ refuses records 1 (17 ∷ 1 ∷ 0x80 ∷ 4 ∷ 0 ∷ 0 ∷ 0 ∷ []) 24 7  -- of a slice that would be skipped
    ∷ refuses records 1 (1 ∷ 1 ∷ 68 ∷ 96 ∷ 1 ∷ 0x80 ∷ []) 14 9  -- after 14 of the flags
    ∷ accepts records 1 (5 ∷ 1 ∷ 68 ∷ 8 ∷ 9 ∷ 255 ∷ 32 ∷ 7 ∷ []) (0 ∷ 0 ∷ 2 ∷ 0 ∷ 2 ∷ 0 ∷ 0 ∷ 1 ∷ 10 ∷ 1 ∷ 0 ∷ 13 ∷ 1 ∷ [])  -- none: D, compact
    ∷ accepts records 1 (17 ∷ 1 ∷ 88 ∷ 4 ∷ 0 ∷ 0 ∷ 0 ∷ 49 ∷ 1 ∷ 66 ∷ 5 ∷ 0 ∷ 0 ∷ 0 ∷ 7 ∷ []) (0 ∷ 0 ∷ 1 ∷ 1 ∷ 1 ∷ 0 ∷ 1 ∷ 0 ∷ 20 ∷ 1 ∷ [])  -- an unknown slice, then B
    ∷ accepts records 3 (1 ∷ 33 ∷ 1 ∷ 67 ∷ []) (0 ∷ 0 ∷ 3 ∷ 0 ∷ 0 ∷ 0 ∷ 0 ∷ [])  -- C
    ∷ accepts (lone_optional (basic 12)) 1 (14 ∷ 2 ∷ 0 ∷ 0 ∷ 0 ∷ 0 ∷ 0 ∷ []) (0 ∷ 0 ∷ 1 ∷ 1 ∷ 1 ∷ 0 ∷ 0 ∷ 0 ∷ 11 ∷ 2 ∷ [])  -- an optional proxy
    ∷ accepts (lone (basic 7)) 1 (10 ∷ 0 ∷ 0xC2 ∷ 0x80 ∷ 0xED ∷ 0x9F ∷ 0xBF ∷ 0xF4 ∷ 0x8F ∷ 0xBF ∷ 0xBF ∷ []) (0 ∷ 0 ∷ 1 ∷ 1 ∷ 1 ∷ 0 ∷ 0 ∷ 0 ∷ 6 ∷ 11 ∷ [])  -- text: 0, 80, D7FF, 10FFFF
    ∷ accepts (lone_optional (basic 7)) 1 (21 ∷ 1 ∷ 0x80 ∷ []) (0 ∷ 0 ∷ 1 ∷ 1 ∷ 0 ∷ 1 ∷ 0 ∷ [])  -- an unknown optional is not read
    ∷ accepts records 1 (17 ∷ 1 ∷ 88 ∷ 5 ∷ 0 ∷ 0 ∷ 0 ∷ 0x80 ∷ 49 ∷ 1 ∷ 66 ∷ 5 ∷ 0 ∷ 0 ∷ 0 ∷ 7 ∷ []) (0 ∷ 0 ∷ 1 ∷ 1 ∷ 1 ∷ 0 ∷ 1 ∷ 0 ∷ 21 ∷ 1 ∷ [])  -- nor is a skipped slice
    ∷ []

pub reader_refuses : map (λ c. asked c.asks) reader_cases ≡ map (λ c. c.gives) reader_cases
unfolding computed reader_cases asked answer_numbers row_numbers res_numbers
reader_refuses = refl

-- 19 at the rows needed: a list of 11 bytes holds no row, one of 12 bytes the one row
pub short_list : map (λ n. answer_numbers (Message.reading (lone (basic 1)) 1 (sent (7 ∷ [])) n)) (11 ∷ 12 ∷ []) ≡ refusal 19 1 ∷ (0 ∷ 0 ∷ 1 ∷ 1 ∷ 1 ∷ 0 ∷ 0 ∷ 0 ∷ 6 ∷ 1 ∷ []) ∷ []
unfolding computed answer_numbers row_numbers
short_list = refl

-- ---- the writer

-- opens the writer's definitions, beside `computed`
unfoldable pub writer_computed : ℕ
unfolding Write.next Write.above Write.begin Write.reach_due Write.optional_row Write.or_above Write.entered Write.reach_may Write.reach Write.still_due Write.given Write.part_of Write.judge Write.prepend Write.judge_all Write.pieces_of Write.slices_of Write.gathered Write.no_format Write.encoding_of Write.bounded Write.row_at Write.table_rules Write.early Write.stopped_first Write.rows_given Write.message Write.writing Write.writing_of Write.writing_numbers
writer_computed = 0

-- a call under the table of one byte, and its three numbers
pub record WriterCase : Type 0 where
  pub type : ℕ
  pub format : ℕ
  pub count : ℕ
  pub rows : List ℕ
  pub buffer : List ℕ
  pub room : ℕ
  pub gives : List ℕ

-- a row of row bytes
abbrev pub row : ℕ → ℕ → ℕ → List ℕ
row m p l = m ∷ 0 ∷ 0 ∷ 0 ∷ p ∷ 0 ∷ 0 ∷ 0 ∷ l ∷ 0 ∷ 0 ∷ 0 ∷ []

-- type, format, count, rows, buffer, room, numbers
abbrev writes : ℕ → ℕ → ℕ → List ℕ → List ℕ → ℕ → List ℕ → WriterCase
writes t f n rs b k ns = record { type = t; format = f; count = n; rows = rs; buffer = b; room = k; gives = ns }

pub writer_cases : List WriterCase
writer_cases =
    writes 2 1 1 (row 0 0 1) (7 ∷ []) 7 (2 ∷ 0 ∷ 0 ∷ [])  -- 2: a type that is not in the table
    ∷ writes 0 1 1 (row 0 0 1) (7 ∷ []) 7 (2 ∷ 0 ∷ 0 ∷ [])  -- a type below kind 13
    ∷ writes 1 1 1 (row 1 0 1) (7 ∷ []) 7 (20 ∷ 0 ∷ 0 ∷ [])  -- 20: no such member
    ∷ writes 1 1 2 (row 0 0 1 ++ row 0 0 1) (7 ∷ []) 7 (20 ∷ 1 ∷ 0 ∷ [])  -- a member twice
    ∷ writes 1 1 1 (row 0 0 2) (7 ∷ []) 7 (20 ∷ 0 ∷ 0 ∷ [])  -- a row that ends outside the buffer
    ∷ writes 1 1 0 [] (7 ∷ []) 7 (20 ∷ 0 ∷ 0 ∷ [])  -- a required member missing, at the count
    ∷ writes 1 1 2 (row 0 0 1) (7 ∷ []) 7 (20 ∷ 2 ∷ 0 ∷ [])  -- too few row bytes, at the count
    ∷ writes 1 1 1 (row 0 0 2) (7 ∷ 7 ∷ []) 7 (21 ∷ 0 ∷ 0 ∷ [])  -- 21: two bytes for a byte
    ∷ writes 1 1 1 (row 0 0 0) (7 ∷ []) 7 (21 ∷ 0 ∷ 0 ∷ [])  -- no byte for a byte
    ∷ writes 1 1 1 (row 0 0 1) (7 ∷ []) 6 (22 ∷ 7 ∷ 0 ∷ [])  -- 22: a room of one byte less
    ∷ writes 1 3 1 (row 0 0 1) (7 ∷ []) 7 (23 ∷ 0 ∷ 0 ∷ [])  -- 23: format 3
    ∷ writes 1 0 1 (row 0 0 1) (7 ∷ []) 7 (23 ∷ 0 ∷ 0 ∷ [])  -- format 0 for a parameter list
    ∷ writes 1 1 1 (row 0 0 1) (7 ∷ []) 7 (0 ∷ 0 ∷ 7 ∷ [])  -- none: written
    ∷ []

-- the three numbers of a call
unfoldable pub written_numbers : WriterCase → List ℕ
written_numbers c = Write.writing_numbers (Write.writing_of (Write.writing (lone (basic 1)) c.type c.format c.count c.rows c.buffer c.room))

pub writer_refuses : map written_numbers writer_cases ≡ map (λ c. c.gives) writer_cases
unfolding computed writer_computed writer_cases written_numbers
writer_refuses = refl

-- no refusal: D, sliced, of its optional byte 9 and of B's byte 7
pub record_written : Write.writing records 2 1 2 (row 1 0 1 ++ row 0 1 1) (9 ∷ 7 ∷ []) 24 ≡ Write.out (sent (21 ∷ 1 ∷ 68 ∷ 7 ∷ 0 ∷ 0 ∷ 0 ∷ 8 ∷ 9 ∷ 255 ∷ 49 ∷ 1 ∷ 66 ∷ 5 ∷ 0 ∷ 0 ∷ 0 ∷ 7 ∷ []))
unfolding computed writer_computed
record_written = refl

-- 23 for format 0: no compact record is written
pub compact_refused : Write.writing records 2 0 2 (row 1 0 1 ++ row 0 1 1) (9 ∷ 7 ∷ []) 24 ≡ Write.stop 23 0
unfolding computed writer_computed
compact_refused = refl

-- 21 for a row whose bytes are no text
pub wrong_text : Write.writing (lone (basic 7)) 1 1 1 (row 0 0 2) (1 ∷ 0x80 ∷ []) 8 ≡ Write.stop 21 0
unfolding computed writer_computed
wrong_text = refl

-- ---- the limit

-- 3: any message of 65,537 bytes, under the table of no members
pub long_message : (m : List ℕ) → length m ≡ 65537 → Message.rules table4 0 m ≡ Result.bad 3 0
unfolding computed
long_message m h = rw h

-- a message of 65,536 bytes is read
pub longest_message : (m : List ℕ) → length m ≡ 65536 → Message.rules table4 0 m ≡ Message.body table4 0 m
unfolding computed
longest_message m h = rw h

-- 3 of the writer: any buffer of 65,537 bytes
pub long_buffer : (b : List ℕ) → length b ≡ 65537 → Write.writing table4 0 1 0 [] b 6 ≡ Write.stop 3 0
unfolding computed writer_computed
long_buffer b h = rw h

-- a buffer of 65,536 bytes is no reason to refuse
pub longest_buffer : (b : List ℕ) → length b ≡ 65536 → Write.writing table4 0 1 0 [] b 6 ≡ Write.out (6 ∷ 0 ∷ 0 ∷ 0 ∷ 1 ∷ 1 ∷ [])
unfolding computed writer_computed
longest_buffer b h = rw h
