-- Encoding 1.0 by calls on a few bytes: what is accepted, and each reason to refuse that is its own, with its number and place.
--
--   old_records                    a table of exceptions, with and without optionals, and a class
--   old_reader_cases, old_read      the reader on 1.0 messages
--   old_widths                    enumerators in a byte, short or int, at the edges of the widths
--   old_written, old_refused      the writer in format 2; old_before_limit: 26 comes before 3
use Rattle.std.specs.Prelude.{◌≡◌, refl, List, [], ◌∷◌, ◌++◌, map, ℕ, ◌+◌, length}
use Rattle.encoding.specs.Write
use Rattle.encoding.proofs.Cases.{type_row, basic, reads, row_numbers, answer_numbers, res_numbers, asked, Case, refusal, computed}
use Rattle.encoding.proofs.RefusalCases.{records, lone, lone_optional, writer_computed, row}

-- byte; exceptions B of a byte and D, base B, of a byte; class C of nothing; exceptions O of optional(1) byte and P, base O, of nothing
abbrev old_records : List ℕ
old_records =
    70 ∷ 71 ∷ 84 ∷ 1 ∷ 0 ∷ 6 ∷ 0 ∷ 3 ∷ 0 ∷ 5 ∷ 0 ∷ 0
    ∷ 1 ∷ 0 ∷ 0 ∷ 0 ∷ 0 ∷ 0 ∷ 0 ∷ 0 ∷ 0 ∷ 0 ∷ 0 ∷ 0
    ∷ 13 ∷ 0 ∷ 0 ∷ 0 ∷ 1 ∷ 0 ∷ 0 ∷ 0 ∷ 0 ∷ 0 ∷ 1 ∷ 0
    ∷ 13 ∷ 0 ∷ 1 ∷ 0 ∷ 1 ∷ 0 ∷ 2 ∷ 0 ∷ 1 ∷ 0 ∷ 1 ∷ 0
    ∷ 14 ∷ 0 ∷ 2 ∷ 0 ∷ 0 ∷ 0 ∷ 0 ∷ 0 ∷ 2 ∷ 0 ∷ 1 ∷ 0
    ∷ 13 ∷ 0 ∷ 2 ∷ 0 ∷ 1 ∷ 0 ∷ 0 ∷ 0 ∷ 3 ∷ 0 ∷ 1 ∷ 0
    ∷ 13 ∷ 0 ∷ 3 ∷ 0 ∷ 0 ∷ 0 ∷ 5 ∷ 0 ∷ 4 ∷ 0 ∷ 1 ∷ 0
    ∷ 0 ∷ 0 ∷ 0 ∷ 0 ∷ 0 ∷ 0 ∷ 0 ∷ 0
    ∷ 0 ∷ 0 ∷ 0 ∷ 0 ∷ 0 ∷ 0 ∷ 0 ∷ 0
    ∷ 0 ∷ 0 ∷ 1 ∷ 0 ∷ 1 ∷ 0 ∷ 0 ∷ 0
    ∷ 66 ∷ 68 ∷ 67 ∷ 79 ∷ 80 ∷ []

-- data in an encapsulation of version 1.0, at 6
abbrev old_sent : List ℕ → List ℕ
old_sent b = (6 + length b) ∷ 0 ∷ 0 ∷ 0 ∷ 1 ∷ 0 ∷ b

-- ---- the reader

-- data that is refused under a table and a top: the number, the place
abbrev refuses : List ℕ → ℕ → List ℕ → ℕ → ℕ → Case
refuses T top b n p = record { asks = reads T top (old_sent b); gives = refusal n p }

-- data that is accepted, and all its numbers
abbrev accepts : List ℕ → ℕ → List ℕ → List ℕ → Case
accepts T top b ns = record { asks = reads T top (old_sent b); gives = ns }

pub old_reader_cases : List Case
old_reader_cases =
    refuses old_records 1 [] 4 6  -- 4: the header byte missing
    ∷ refuses old_records 1 (0 ∷ []) 4 7  -- the first type ID missing
    ∷ refuses old_records 1 (0 ∷ 1 ∷ 88 ∷ 4 ∷ 0 ∷ 0 ∷ 0 ∷ []) 4 13  -- no known pair before the end
    ∷ refuses old_records 1 (0 ∷ 1 ∷ 68 ∷ 5 ∷ 0 ∷ 0 ∷ 0 ∷ 9 ∷ []) 4 14  -- the pair of the base missing
    ∷ refuses old_records 1 (0 ∷ 1 ∷ 66 ∷ 6 ∷ 0 ∷ 0 ∷ 0 ∷ 7 ∷ []) 4 9  -- a pair's size past the end
    ∷ refuses old_records 3 (0 ∷ 1 ∷ 67 ∷ 4 ∷ 0 ∷ 0 ∷ 0 ∷ []) 6 4  -- 6: a class as the top
    ∷ refuses (lone (type_row 8 126 0)) 1 (127 ∷ []) 9 6  -- 9: enumerator 127 of at most 126
    ∷ refuses (lone (type_row 8 300 0)) 1 (255 ∷ 255 ∷ []) 9 6  -- a short with its sign bit set
    ∷ refuses (lone (type_row 8 127 0)) 1 (127 ∷ []) 4 6  -- an enumerator of at most 127 is no byte
    ∷ refuses (lone (basic 12)) 1 (1 ∷ 97 ∷ 0 ∷ 0 ∷ 5 ∷ []) 10 10  -- 10: a proxy's mode 5
    ∷ refuses old_records 1 (0 ∷ 1 ∷ 66 ∷ 3 ∷ 0 ∷ 0 ∷ 0 ∷ []) 11 9  -- 11: a pair's size below 4
    ∷ refuses old_records 1 (0 ∷ 1 ∷ 88 ∷ 255 ∷ 255 ∷ 255 ∷ 255 ∷ []) 11 9  -- of a skipped pair, negative
    ∷ refuses old_records 1 (0 ∷ 1 ∷ 66 ∷ 6 ∷ 0 ∷ 0 ∷ 0 ∷ 7 ∷ 7 ∷ []) 11 9  -- not used up
    ∷ refuses old_records 2 (0 ∷ 1 ∷ 66 ∷ 5 ∷ 0 ∷ 0 ∷ 0 ∷ 7 ∷ []) 17 7  -- 17: B under the top D
    ∷ refuses old_records 1 (0 ∷ 1 ∷ 67 ∷ 4 ∷ 0 ∷ 0 ∷ 0 ∷ []) 17 7  -- a class for an exception
    ∷ refuses old_records 1 (0 ∷ 1 ∷ 68 ∷ 5 ∷ 0 ∷ 0 ∷ 0 ∷ 9 ∷ 1 ∷ 68 ∷ 5 ∷ 0 ∷ 0 ∷ 0 ∷ 9 ∷ []) 17 14  -- D where its base is due
    ∷ refuses old_records 1 (0 ∷ 1 ∷ 68 ∷ 5 ∷ 0 ∷ 0 ∷ 0 ∷ 9 ∷ 1 ∷ 88 ∷ 4 ∷ 0 ∷ 0 ∷ 0 ∷ []) 17 14  -- an unknown type ID there
    ∷ refuses old_records 1 (0 ∷ 1 ∷ 66 ∷ 5 ∷ 0 ∷ 0 ∷ 0 ∷ 7 ∷ 0 ∷ []) 18 14  -- 18: a byte after the last pair
    ∷ refuses (lone (basic 1)) 1 (7 ∷ 7 ∷ []) 18 7  -- a byte after a parameter list
    ∷ refuses old_records 1 (0 ∷ 1 ∷ 0x80 ∷ 4 ∷ 0 ∷ 0 ∷ 0 ∷ []) 24 7  -- 24: a type ID that is no text
    ∷ refuses old_records 1 (1 ∷ 1 ∷ 66 ∷ 5 ∷ 0 ∷ 0 ∷ 0 ∷ 7 ∷ []) 25 6  -- 25: header byte 1
    ∷ refuses old_records 4 (1 ∷ []) 26 0  -- 26: the top has an optional; before 25
    ∷ refuses old_records 5 (0 ∷ []) 26 0  -- a base of it has
    ∷ refuses records 1 (0 ∷ []) 26 0  -- a record that descends from it has
    ∷ refuses (lone_optional (basic 1)) 1 [] 26 0  -- a parameter list has
    ∷ accepts old_records 1 (0 ∷ 1 ∷ 68 ∷ 5 ∷ 0 ∷ 0 ∷ 0 ∷ 9 ∷ 1 ∷ 66 ∷ 5 ∷ 0 ∷ 0 ∷ 0 ∷ 7 ∷ []) (0 ∷ 0 ∷ 2 ∷ 2 ∷ 2 ∷ 0 ∷ 0 ∷ 1 ∷ 13 ∷ 1 ∷ 0 ∷ 20 ∷ 1 ∷ [])  -- none: D
    ∷ accepts old_records 1 (0 ∷ 1 ∷ 88 ∷ 5 ∷ 0 ∷ 0 ∷ 0 ∷ 0x80 ∷ 1 ∷ 66 ∷ 5 ∷ 0 ∷ 0 ∷ 0 ∷ 7 ∷ []) (0 ∷ 0 ∷ 1 ∷ 2 ∷ 1 ∷ 0 ∷ 1 ∷ 0 ∷ 20 ∷ 1 ∷ [])  -- an unknown pair, then B
    ∷ accepts (lone (basic 1)) 1 (7 ∷ []) (0 ∷ 0 ∷ 1 ∷ 2 ∷ 1 ∷ 0 ∷ 0 ∷ 0 ∷ 6 ∷ 1 ∷ [])  -- a parameter list
    ∷ accepts (lone (basic 12)) 1 (1 ∷ 97 ∷ 0 ∷ 0 ∷ 0 ∷ 0 ∷ 0 ∷ 1 ∷ 98 ∷ []) (0 ∷ 0 ∷ 1 ∷ 2 ∷ 1 ∷ 0 ∷ 0 ∷ 0 ∷ 6 ∷ 9 ∷ [])  -- a proxy without protocol and encoding
    ∷ []

pub old_read : map (λ c. asked c.asks) old_reader_cases ≡ map (λ c. c.gives) old_reader_cases
unfolding computed old_reader_cases asked answer_numbers row_numbers res_numbers
old_read = refl

-- the bytes of the greatest enumerator: one to 126, two to 32,766, four above
pub old_widths : map (λ c. asked c.asks)
    (accepts (lone (type_row 8 126 0)) 1 (126 ∷ []) []
    ∷ accepts (lone (type_row 8 127 0)) 1 (127 ∷ 0 ∷ []) []
    ∷ accepts (lone (type_row 8 32766 0)) 1 (0xFE ∷ 0x7F ∷ []) []
    ∷ accepts (lone (type_row 8 32767 0)) 1 (0xFF ∷ 0x7F ∷ 0 ∷ 0 ∷ []) []
    ∷ accepts (lone (type_row 8 65535 32767)) 1 (0xFF ∷ 0xFF ∷ 0xFF ∷ 0x7F ∷ []) []
    ∷ [])
    ≡ map (λ n. 0 ∷ 0 ∷ 1 ∷ 2 ∷ 1 ∷ 0 ∷ 0 ∷ 0 ∷ 6 ∷ n ∷ []) (1 ∷ 2 ∷ 2 ∷ 4 ∷ 4 ∷ [])
unfolding computed asked answer_numbers row_numbers res_numbers
old_widths = refl

-- ---- the writer

-- D of its byte 9 and of B's byte 7
pub old_written : Write.writing old_records 2 2 2 (row 1 0 1 ++ row 0 1 1) (9 ∷ 7 ∷ []) 21 ≡ Write.out (old_sent (0 ∷ 1 ∷ 68 ∷ 5 ∷ 0 ∷ 0 ∷ 0 ∷ 9 ∷ 1 ∷ 66 ∷ 5 ∷ 0 ∷ 0 ∷ 0 ∷ 7 ∷ []))
unfolding computed writer_computed
old_written = refl

-- 23 for a class; 26 for a top, a base of it or a record below it with an optional; 21 for an enumerator in the width of 1.1
pub old_refused : Write.writing old_records 3 2 0 [] [] 100
    ∷ Write.writing old_records 4 2 0 [] [] 100
    ∷ Write.writing old_records 5 2 0 [] [] 100
    ∷ Write.writing records 1 2 1 (row 0 0 1) (7 ∷ []) 100
    ∷ Write.writing (lone (type_row 8 127 0)) 1 2 1 (row 0 0 1) (7 ∷ []) 100
    ∷ [] ≡ Write.stop 23 0 ∷ Write.stop 26 0 ∷ Write.stop 26 0 ∷ Write.stop 26 0 ∷ Write.stop 21 0 ∷ []
unfolding computed writer_computed
old_refused = refl

-- 26 before 3, whatever the buffer
pub old_before_limit : (b : List ℕ) → Write.writing old_records 4 2 0 [] b 100 ≡ Write.stop 26 0
unfolding computed writer_computed
old_before_limit b = refl
