-- What is promised of the definitions, each promise in full, to be read without its proof.
-- A promise is the type of its proof; the files beside this one prove them, and `Promises` names the proof of each.
--
-- Tables and messages are lists of numbers; a message is one of bytes, `Bytes m`.
--
--   ExactTable     a table breaks no rule exactly if it is valid, said by properties apart from the passes that look for a broken rule
--   OneOwner       each member row of a valid table has exactly one owner, and no owner takes a row that is not there
--   TableFault     the number and the place of a broken rule: 31 to 39 by what is wrong with the first row that is not valid; its first byte, or 0
--   ReaderRefuses  demand 1: each refusal of the reader has its number and place of document 01's table; every other number is 0 and no lent byte changes
--   OldNumbers     12 to 16 are no refusals of a 1.0 message
--   NumbersTold    the numbers of the public calls are those of the reader's answer
--   ExactUtf8      text by the ranges of its bytes is text by its scalar values
--   Exact          demand 2, first sentence: a message is accepted exactly when it is the encoding of pieces that conform, and those are read
--   Reads          the reader's answer: accepted exactly if some pieces follow and their rows have room, and then the answer is theirs
--   ExactRows      each listed row lies in the message, and its bytes are exactly one value of its member's type
--   ListedRows     the rows are those of the pieces that are not skipped: each has its piece's member and bytes
--   RowsApart      rows are in message order and share no byte
--   RowsRight      rows are a right list of the first known type
--   RowsOnce       no member has two rows, and there are at most as many rows as the table has members
--   Unambiguous    a message has one reading
--   ExactCounts    the skip counts count what the rows leave out
--   NumbersTogether     numbers one after another: all of them where the bytes are there, else 4 at the first that does not fit; NumbersCounted of a sequence
--   ExactValues    a value of a type is exactly a string of the grammar of values; ExactExtents: an extent is one of the grammar of extents
--   TypesRise      the lists in the types of a valid table rise, in 1.1 and as 1.0 has them, which ExactValues asks for
--   ExactEnums     a value of an enum is exactly the size of one of its enumerators, as the table lists them
--   ExactOldEnums  in 1.0 it is exactly the number of one of them, in a byte, short or int by the greatest
--   EqualSets      types agree exactly where their trees are equal: enums with equal sets, whatever the versions of the two tables
--   ExactForms     an optional's form is the one that its type has, said apart from the equations
--   Viewed         the member view: where it shows a part of the message, the fallback, nothing
--   ReadBack       demand 2: what the writer makes is read as the members given; ReadBackReading of the reader's answer
--   WriteAgain     demand 2: an accepted message with nothing skipped, written again, is the sliced encoding of its pieces: so a compact record comes back converted
--   WriteSame      demand 2: an accepted message that is no compact record, with nothing skipped, is written again as it was
--   OldBelow       demand 2: no 26 for a top gives none for a type below it
--   OneMessage     demand 2: the members and their bytes, type and format fix the message
--   EarlyRefused   when the writer answers 31 to 39, 2, 23 or 3; the only other refusals are 20, 21 and 22
--   RightLists     when it answers 20, and where
--   WrongBytes     when it answers 21, and where
--   RightMakes     a right list makes exactly one message
--   TooLong        when it answers 22, and where
--   RightWritten   when it writes a message, and which
--   WriterRefuses  demand 1: each refusal of the writer has its number and place of document 01's table, and no byte of the output changes
--   WritingNumbersTold   the numbers of the public calls are those of the writer's answer
--   ListFilled     a lent list after the call: the rows first, the bytes after them as they were
--   OutputFilled   a lent output after the call: the message first, the bytes after it as they were
--   NewerRead      demand 3: an old table accepts what a new one that extends it accepts, and lists the rows of the members that it knows
--   NewerRefused   the one exception of demand 3; NewerRefusedReading of the reader's answer
--   NewerReading   demand 3 of the reader's answer, given room
--   NewerWritten   demand 3 of a message that the writer makes: without exception
--   OneCounterpart, NewerThere   a new member has at most one match in the old table; demand 3 is about some message
use Rattle.std.specs.Prelude.{◌≡◌, List, [], ◌∷◌, ◌++◌, map, Bool, true, false, ◌⊎◌, ℕ, suc, ◌+◌, ◌*◌, ◌≤◌, ◌<◌, length, take, drop, get_or, eqb}
use Rattle.std.proofs.Math.Option.{none, some}
use Rattle.encoding.specs.Result.{ok, bad, times, concat}
use Rattle.encoding.specs.Utf8.{is_utf8, Utf8}
use Rattle.encoding.specs.Number.{Bytes, val, size}
use Rattle.encoding.specs.Types.{short, int, long, float, double, Ty, byte, num, seq, Form, form_of, Bits}
use Rattle.encoding.specs.OptionalForm.{HasForm}
use Rattle.encoding.specs.Value.{value, exact}
use Rattle.encoding.specs.Grammar.{IsSize, OldWidth, IsValue, ListsRise, IsExtent}
use Rattle.encoding.specs.Table.{types, fine, faults, member_ty, trees, ty_of, named, any, chain, range, kind, field, fault, members, Member, lookup}
use Rattle.encoding.specs.Valid.{Owner, Valid, FirstBroken}
use Rattle.encoding.specs.Agree.{Enumerator, Agree}
use Rattle.encoding.specs.Table
use Rattle.encoding.specs.Optional.{Piece, required, optional, skipped, extent}
use Rattle.encoding.specs.Slice.{Format, compact, sliced, Slice, known, passed, id_of}
use Rattle.encoding.specs.Old.{type_as}
use Rattle.encoding.specs.Message.{Pieces, list, exception, class, Encoding, v11, is_old, encoding_number, Read, encode, encapsulate, no_top, limit, rules, Row, rows, row_bytes, first_known, optionals_skipped, slices_skipped, Answer, numbers, answer, reading, room, listed, reading_of, reading_numbers}
use Rattle.encoding.specs.Write.{Right, out, stop, part_of, row_at, writing, output, writing_of, writing_numbers}
use Rattle.encoding.specs.View.{part, fallback, nothing, viewing, seen_bytes}
use Rattle.encoding.specs.Conform.{WithoutOptionals, Conform}
use Rattle.encoding.specs.Extends.{Extends, TopsMatch, Counterpart}

-- ---- the type table

-- Rules out a rule that is left out, and one that is judged too strictly: a table with every property of `Valid` is refused nowhere.
abbrev pub ExactTable : Type 0
ExactTable = (T : List ℕ) → (faults T ≡ fine → Valid T) × (Valid T → faults T ≡ fine)

-- Rules out member rows that are shared or left over: what `TakenBefore` says of two owners in turn comes to this.
abbrev pub OneOwner : Type 0
OneOwner =
    (T : List ℕ) → Valid T
    → ((m : ℕ) → m < members T → (o : ℕ) × Owner T o m × ((q : ℕ) → Owner T q m → q ≡ o)) × ((o m : ℕ) → Owner T o m → m < members T)

-- Rules out a class given for another, one of a later rule of the same row, a place that is made up, and rows judged in another order.
abbrev pub TableFault : Type 0
TableFault = (T : List ℕ) (c p : ℕ) → (faults T ≡ fault c p → FirstBroken T c p) × (FirstBroken T c p → faults T ≡ fault c p)

-- ---- demand 1: one refusal, with its number and its place

-- encoding and pieces, as they are read
abbrev pub read_as : Encoding → Pieces → Read
read_as f p = record { format = f; pieces = p }

-- 31 to 39, 2 and 3 have nothing to refuse
pub record Admissible (T : List ℕ) (top : ℕ) (m : List ℕ) : Type 0 where
  pub table : faults T ≡ fine
  pub top_there : no_top T top ≡ false
  pub short : length m ≤ limit

-- 5 has nothing to refuse either: the first four bytes are there and hold the message's length, which is at least 6
pub record Sized (T : List ℕ) (top : ℕ) (m : List ℕ) : Type 0 where
  pub admissible : Admissible T top m
  pub least : 6 ≤ length m
  pub size : val (take 4 m) ≡ length m

-- the version bytes of 1.1, and of 1.0
abbrev pub Version11 : List ℕ → Type 0
Version11 m = take 2 (drop 4 m) ≡ 1 ∷ 1 ∷ []

abbrev pub Version10 : List ℕ → Type 0
Version10 m = take 2 (drop 4 m) ≡ 1 ∷ 0 ∷ []

-- a message of 1.0 that 6 does not refuse: the top is no class
pub record OldSized (T : List ℕ) (top : ℕ) (m : List ℕ) : Type 0 where
  pub sized : Sized T top m
  pub version : Version10 m
  pub no_class : kind T top ≡ 14 → ⊥

-- the refusal numbers from 7 on in what an encapsulation holds, but for 24 and 25: 7 to 18, in 1.0 none of 12 to 16
pub data Misread (m : List ℕ) (n : ℕ) : Type 0 where
  in_both : 7 ≤ n → n ≤ 18 → (12 ≤ n → n ≤ 16 → ⊥) → Misread m n
  in_new : (Version10 m → ⊥) → 12 ≤ n → n ≤ 16 → Misread m n

-- a refusal by the rules, its number and its place: 31 to 39, 2 to 6 in their order, 26, then what the encapsulation holds
pub data Refusal (T : List ℕ) (top : ℕ) (m : List ℕ) : ℕ → ℕ → Type 0 where
  broken_table : {c p : ℕ} → FirstBroken T c p → Refusal T top m c p
  no_top_lem : faults T ≡ fine → no_top T top ≡ true → Refusal T top m 2 0
  too_great : faults T ≡ fine → no_top T top ≡ false → limit < length m → Refusal T top m 3 0
  no_size_lem : Admissible T top m → length m < 4 → Refusal T top m 4 0
  wrong_size : Admissible T top m → 4 ≤ length m → ((6 ≤ length m) × (val (take 4 m) ≡ length m) → ⊥) → Refusal T top m 5 0
  wrong_version : Sized T top m → (Version11 m → ⊥) → (Version10 m → kind T top ≡ 14) → Refusal T top m 6 4
  with_optionals : OldSized T top m → (WithoutOptionals T top → ⊥) → Refusal T top m 26 0
  cut_off : {p : ℕ} → Sized T top m → 6 ≤ p → p ≤ length m → Refusal T top m 4 p
  misread : {n p : ℕ} → Sized T top m → Misread m n → 6 ≤ p → p ≤ length m → Refusal T top m n p
  no_text : {p : ℕ} → Sized T top m → 6 ≤ p → p ≤ length m → Refusal T top m 24 p
  wrong_lead : OldSized T top m → kind T top ≡ 13 → (take 1 (drop 6 m) ≡ 0 ∷ [] → ⊥) → Refusal T top m 25 6

-- a refusal by the reader with a lent list of so many bytes: 19 comes last, at the rows needed
pub data ReaderRefusal (T : List ℕ) (top : ℕ) (m : List ℕ) (bytes : ℕ) : ℕ → ℕ → Type 0 where
  by_rules : {n p : ℕ} → Refusal T top m n p → ReaderRefusal T top m bytes n p
  short_list : {f : Encoding} {p : Pieces} {n : ℕ} → rules T top m ≡ ok (read_as f p) n → bytes < 12 * length (rows T top f p) → ReaderRefusal T top m bytes 19 (length (rows T top f p))

-- every number but the refusal's and its place is 0, and no byte of a lent list changes
pub record NothingElse (a : Answer) : Type 0 where
  pub type : a.type ≡ 0
  pub format : a.format ≡ 0
  pub none_listed : a.rows ≡ []
  pub optionals : a.optionals ≡ 0
  pub slices : a.slices ≡ 0
  pub list_kept : (lent : List ℕ) → listed a lent ≡ lent

abbrev pub ReaderRefuses : Type 0
ReaderRefuses =
    (T : List ℕ) (top : ℕ) (m : List ℕ) (bytes : ℕ) → ((reading T top m bytes).refusal ≡ 0 → ⊥)
    → ReaderRefusal T top m bytes (reading T top m bytes).refusal (reading T top m bytes).place × NothingElse (reading T top m bytes)

-- 12 to 16 never come for a message of version 1.0
abbrev pub OldNumbers : Type 0
OldNumbers =
    (T : List ℕ) (top : ℕ) (m : List ℕ) (bytes : ℕ) → Version10 m → 12 ≤ (reading T top m bytes).refusal → (reading T top m bytes).refusal ≤ 16 → ⊥

-- ---- the numbers of the public calls

-- the enum that the reader's call returns has the seven numbers of the answer
abbrev pub NumbersTold : Type 0
NumbersTold =
    (T : List ℕ) (top : ℕ) (m : List ℕ) (bytes : ℕ)
    → reading_numbers (reading_of (reading T top m bytes)) ≡ numbers (reading T top m bytes)

-- ---- numbers one after another

-- a byte and the numbers: how many bytes each has
pub data Wide : Ty → ℕ → Type 0 where
  of_byte : Wide byte 1
  of_short : Wide (num short) 2
  of_int : Wide (num int) 4
  of_long : Wide (num long) 8
  of_float : Wide (num float) 4
  of_double : Wide (num double) 8

-- What they hold is not looked at: the count and the bytes left decide.
-- Rules out a number refused for what it holds, 4 for all of them at the first, and 4 past the first that does not fit.
abbrev pub NumbersTogether : Type 0
NumbersTogether =
    (t : Ty) (w : ℕ) → Wide t w → (n : ℕ) (b : List ℕ)
    → (n * w ≤ length b → times n (value t) b ≡ ok tt (n * w))
    × ((k : ℕ) → k < n → k * w ≤ length b → length b < suc k * w → times n (value t) b ≡ bad 4 (k * w))

-- the same of a sequence, whose size has k bytes and says n
abbrev pub NumbersCounted : Type 0
NumbersCounted =
    (t : Ty) (w : ℕ) → Wide t w → (b : List ℕ) (n k : ℕ) → size b ≡ ok n k
    → (k + n * w ≤ length b → value (seq t) b ≡ ok tt (k + n * w))
    × ((j : ℕ) → j < n → k + j * w ≤ length b → length b < k + suc j * w → value (seq t) b ≡ bad 4 (k + j * w))

-- ---- text

-- Rules out a range that is too wide or too narrow: bytes pass exactly if they are the encoding of scalar values, each in its shortest form.
abbrev pub ExactUtf8 : Type 0
ExactUtf8 = (b : List ℕ) → (is_utf8 b ≡ true → Utf8 b) × (Utf8 b → is_utf8 b ≡ true)

-- ---- demand 2: what is accepted

-- the table is valid, the top is one, the message is within the limit, and it is the encoding of pieces that conform to table and top
pub record Follows (T : List ℕ) (top : ℕ) (m : List ℕ) (f : Encoding) (p : Pieces) : Type 0 where
  pub table : Valid T
  pub top_there : no_top T top ≡ false
  pub short : length m ≤ limit
  pub conforms : Conform T top f p
  pub encoded : m ≡ encapsulate f (encode f p)

-- Rules out a reader that only refuses, and one that gives a fixed list: both directions are about every message.
-- Rules out pieces invented after the first slice: the pieces are those of the message.
abbrev pub Exact : Type 0
Exact =
    (T : List ℕ) (top : ℕ) (m : List ℕ) (f : Encoding) (p : Pieces) (n : ℕ) → Bytes m
    → (rules T top m ≡ ok (read_as f p) n → Follows T top m f p × (n ≡ length m))
    × (Follows T top m f p → rules T top m ≡ ok (read_as f p) (length m))

-- the answer to pieces in an encoding
pub record AnswerOf (T : List ℕ) (top : ℕ) (f : Encoding) (p : Pieces) (a : Answer) : Type 0 where
  pub refusal : a.refusal ≡ 0
  pub place : a.place ≡ 0
  pub type : a.type ≡ first_known T top p
  pub format : a.format ≡ encoding_number f
  pub all_listed : a.rows ≡ rows T top f p
  pub optionals : a.optionals ≡ optionals_skipped p
  pub slices : a.slices ≡ slices_skipped p

-- a message that follows the rules, and a lent list of so many bytes that holds its rows
pub record Readable (T : List ℕ) (top : ℕ) (m : List ℕ) (bytes : ℕ) (f : Encoding) (p : Pieces) : Type 0 where
  pub follows : Follows T top m f p
  pub fits : 12 * length (rows T top f p) ≤ bytes

-- the same of the reader's answer: refusal 0 exactly if some pieces follow and their rows have room, and then the answer is theirs
abbrev pub Reads : Type 0
Reads =
    (T : List ℕ) (top : ℕ) (m : List ℕ) (bytes : ℕ) → Bytes m
    → ((reading T top m bytes).refusal ≡ 0 → (f : Encoding) × (p : Pieces) × Readable T top m bytes f p)
    × ((f : Encoding) (p : Pieces) → Readable T top m bytes f p → AnswerOf T top f p (reading T top m bytes))

-- each element of a list has a property
pub data All {A : Type 0} (P : A → Type 0) : List A → Type 0 where
  end : All P []
  more : {a : A} {l : List A} → P a → All P l → All P (a ∷ l)

-- a row lies inside the message, and its bytes are exactly one value of the member's type, as the encoding has it
-- Rules out rows invented after the first slice.
pub record RowExact (T m : List ℕ) (f : Encoding) (r : Row) : Type 0 where
  pub inside : r.place + r.len ≤ length m
  pub one : IsValue (type_as (is_old f) (member_ty T (trees T) r.member)) (take r.len (drop r.place m))

abbrev pub ExactRows : Type 0
ExactRows =
    (T : List ℕ) (top : ℕ) (m : List ℕ) (f : Encoding) (p : Pieces) (n : ℕ) → Bytes m
    → rules T top m ≡ ok (read_as f p) n → All (RowExact T m f) (rows T top f p)

-- a row of member d in the message m, whose bytes are b
pub record RowOf (m : List ℕ) (d : Member) (b : List ℕ) (r : Row) : Type 0 where
  pub member : r.member ≡ d.row
  pub bytes : take r.len (drop r.place m) ≡ b
  pub len : r.len ≡ length b

-- pieces of owner t and their rows, in order: a piece that is not skipped has the row of its member with its content
pub data ListedOf (T m : List ℕ) (t : ℕ) : List Piece → List Row → Type 0 where
  none_left : ListedOf T m t [] []
  a_required : {i : ℕ} {b : List ℕ} {ps : List Piece} {d : Member} {r : Row} {rs : List Row} → lookup i (Table.required_members T t) ≡ some d → RowOf m d b r
      → ListedOf T m t ps rs → ListedOf T m t (required i b ∷ ps) (r ∷ rs)
  an_optional : {k : ℕ} {f : Form} {b : List ℕ} {ps : List Piece} {d : Member} {r : Row} {rs : List Row} → lookup k (Table.optional_members T t) ≡ some d → RowOf m d b r
      → ListedOf T m t ps rs → ListedOf T m t (optional k f b ∷ ps) (r ∷ rs)
  a_skipped : {k : ℕ} {f : Bits} {b : List ℕ} {ps : List Piece} {rs : List Row} → ListedOf T m t ps rs → ListedOf T m t (skipped k f b ∷ ps) rs

-- slices and their rows, in order: a known slice is of the record that the table has under its type ID
pub data ListedIn (T m : List ℕ) : List Slice → List Row → Type 0 where
  none_left : ListedIn T m [] []
  a_known : {o : List ℕ} {ps : List Piece} {ss : List Slice} {t : ℕ} {rs rs' : List Row} → named T o ≡ some t → ListedOf T m t ps rs
      → ListedIn T m ss rs' → ListedIn T m (known o ps ∷ ss) (rs ++ rs')
  a_passed : {b : Bool} {nm d : List ℕ} {ss : List Slice} {rs : List Row} → ListedIn T m ss rs → ListedIn T m (passed b nm d ∷ ss) rs

-- a message's pieces and their rows; a parameter list is of the top
abbrev pub Listed : List ℕ → List ℕ → ℕ → Pieces → List Row → Type 0
Listed T m top (list ps) rs = ListedOf T m top ps rs
Listed T m top (exception ss) rs = ListedIn T m ss rs
Listed T m top (class ss) rs = ListedIn T m ss rs

-- Rules out a row of another member of the same type, and one that has another value's bytes.
abbrev pub ListedRows : Type 0
ListedRows =
    (T : List ℕ) (top : ℕ) (m : List ℕ) (f : Encoding) (p : Pieces) (n : ℕ) → Bytes m
    → rules T top m ≡ ok (read_as f p) n → Listed T m top p (rows T top f p)

-- rows one after another from a place on: each begins at or after the end of the one before
abbrev pub Apart : ℕ → List Row → Type 0
Apart at [] = Unit {0}
Apart at (r ∷ rs) = (at ≤ r.place) × Apart (r.place + r.len) rs

-- the first row begins after size and version
abbrev pub RowsApart : Type 0
RowsApart =
    (T : List ℕ) (top : ℕ) (m : List ℕ) (f : Encoding) (p : Pieces) (n : ℕ) → rules T top m ≡ ok (read_as f p) n → Apart 6 (rows T top f p)

-- Rows that were read may be written: their members come in the writer's order, and no required one is missing.
abbrev pub RowsRight : Type 0
RowsRight =
    (T : List ℕ) (top : ℕ) (m : List ℕ) (f : Encoding) (p : Pieces) (n : ℕ) → Bytes m
    → rules T top m ≡ ok (read_as f p) n → Right T (first_known T top p) m (rows T top f p)

-- no two rows have one member
abbrev pub Once : List Row → Type 0
Once [] = Unit {0}
Once (r ∷ rs) = All (λ (s : Row). r.member ≡ s.member → ⊥) rs × Once rs

abbrev pub RowsOnce : Type 0
RowsOnce =
    (T : List ℕ) (top : ℕ) (m : List ℕ) (f : Encoding) (p : Pieces) (n : ℕ) → Bytes m
    → rules T top m ≡ ok (read_as f p) n → Once (rows T top f p) × (length (rows T top f p) ≤ members T)

-- no bytes are the encoding of two readings
abbrev pub Unambiguous : Type 0
Unambiguous =
    (T : List ℕ) (top : ℕ) (m : List ℕ) (f g : Encoding) (p q : Pieces) → Bytes m → Follows T top m f p → Follows T top m g q → read_as f p ≡ read_as g q

-- the members in known slices; the slices
unfoldable pub members_in : List Slice → ℕ
members_in [] = 0
members_in (known o ps ∷ ss) = length ps + members_in ss
members_in (passed b nm d ∷ ss) = members_in ss

unfoldable pub member_count : Pieces → ℕ
member_count (list ps) = length ps
member_count (exception ss) = members_in ss
member_count (class ss) = members_in ss

unfoldable pub slice_count : Pieces → ℕ
slice_count (list ps) = 0
slice_count (exception ss) = length ss
slice_count (class ss) = length ss

-- the slices that a table knows: one for each row of the first known type's chain
unfoldable pub known_count : List ℕ → ℕ → Pieces → ℕ
known_count T top (list ps) = 0
known_count T top (exception ss) = length (chain T (first_known T top (exception ss)))
known_count T top (class ss) = length (chain T (first_known T top (class ss)))

-- every member of a known slice is listed or counted as skipped, every slice is known or counted as skipped
-- Rules out made-up skip counts.
abbrev pub ExactCounts : Type 0
ExactCounts =
    (T : List ℕ) (top : ℕ) (m : List ℕ) (f : Encoding) (p : Pieces) (n : ℕ) → Bytes m → rules T top m ≡ ok (read_as f p) n
    → (length (rows T top f p) + optionals_skipped p ≡ member_count p) × (known_count T top p + slices_skipped p ≡ slice_count p)

-- a value is what the grammar says, no more and no less; a list of allowed enumerators that does not rise is none of a valid table
abbrev pub ExactValues : Type 0
ExactValues = (t : Ty) → ListsRise t → (b : List ℕ) → (exact t b ≡ true → IsValue t b) × (IsValue t b → exact t b ≡ true)

abbrev pub TypesRise : Type 0
TypesRise = (T : List ℕ) → Valid T → (old : Bool) (t : ℕ) → ListsRise (type_as old (ty_of T t))

-- Rules out an enumerator between two entries of a list.
abbrev pub ExactEnums : Type 0
ExactEnums =
    (T : List ℕ) → Valid T → (t : ℕ) → t < types T → kind T t ≡ 8 → (b : List ℕ)
    → (exact (ty_of T t) b ≡ true → (n : ℕ) × Enumerator T t n × IsSize n b) × ((n : ℕ) → Enumerator T t n → IsSize n b → exact (ty_of T t) b ≡ true)

-- In 1.0 it is the number of one of its enumerators, in the width that the greatest, a + 65,536·b, needs.
-- Rules out 127 in one byte, and a width by the number that is written.
abbrev pub ExactOldEnums : Type 0
ExactOldEnums =
    (T : List ℕ) → Valid T → (t : ℕ) → t < types T → kind T t ≡ 8 → (b : List ℕ)
    → (exact (type_as true (ty_of T t)) b ≡ true → Enumerator T t (val b) × OldWidth (field T t 0 + 65536 * field T t 1) (length b))
    × (Enumerator T t (val b) → OldWidth (field T t 0 + 65536 * field T t 1) (length b) → exact (type_as true (ty_of T t)) b ≡ true)

-- Rules out a list of all up to its last that is another type than version 1 has for the same set.
abbrev pub EqualSets : Type 0
EqualSets =
    (T U : List ℕ) → Valid T → Valid U → (t u : ℕ) → t < types T → u < types U → kind T t ≤ 12 → kind U u ≤ 12
    → (Agree T U t u → ty_of T t ≡ ty_of U u) × (ty_of T t ≡ ty_of U u → Agree T U t u)

-- so is what an optional declares, by the type in its header
abbrev pub ExactExtents : Type 0
ExactExtents = (k : Bits) (b : List ℕ) → ((d : List ℕ) × (extent k b ≡ ok d (length b)) → IsExtent k b) × (IsExtent k b → (d : List ℕ) × (extent k b ≡ ok d (length b)))

-- the form of an optional is what document 01 says of its type, and no other
abbrev pub ExactForms : Type 0
ExactForms = (t : Ty) (f : Form) → (form_of t ≡ f → HasForm t f) × (HasForm t f → form_of t ≡ f)

-- ---- the member view

-- an element of a list
pub data In {A : Type 0} (a : A) : List A → Type 0 where
  here : {l : List A} → In a (a ∷ l)
  there : {b : A} {l : List A} → In a l → In a (b ∷ l)

-- the rules accept the message and list this row, whatever room a list has
pub record Lists (T : List ℕ) (top : ℕ) (m : List ℕ) (r : Row) : Type 0 where
  pub read : Read
  pub taken : ℕ
  pub accepted : rules T top m ≡ ok read taken
  pub row : In r (rows T top read.format read.pieces)

-- member row k is one that row t or a base of it takes: the field a is the first of them, b their count
pub record OfChain (T : List ℕ) (t k : ℕ) : Type 0 where
  pub owner : ℕ
  pub above : In owner (chain T t)
  pub from : field T owner 0 ≤ k
  pub to : k < field T owner 0 + field T owner 1

-- the rules accept the message, and it lacks member k of the first known type's chain
pub record Lacks (T : List ℕ) (top : ℕ) (m : List ℕ) (k : ℕ) : Type 0 where
  pub read : Read
  pub taken : ℕ
  pub accepted : rules T top m ≡ ok read taken
  pub of_chain_lem : OfChain T (first_known T top read.pieces) k
  pub absent : (p l : ℕ) → In (record { member = k; place = p; len = l }) (rows T top read.format read.pieces) → ⊥

-- the rules refuse the message, or k is no member of the first known type's chain
pub data Hidden (T : List ℕ) (top : ℕ) (m : List ℕ) (k : ℕ) : Type 0 where
  refused_message : {n p : ℕ} → rules T top m ≡ bad n p → Hidden T top m k
  other_member : {r : Read} {n : ℕ} → rules T top m ≡ ok r n → (OfChain T (first_known T top r.pieces) k → ⊥) → Hidden T top m k

-- what the view shows of member k, and the bytes that it returns, of the message or of a fallback
-- Rules out a fallback for a refused message, and one for a member that the message has.
pub record ViewedAs (T : List ℕ) (top : ℕ) (m : List ℕ) (k : ℕ) : Type 0 where
  pub part_shown : (p l : ℕ) → viewing T top m k ≡ part p l → Lists T top m (record { member = k; place = p; len = l })
  pub part_listed : (p l : ℕ) → Lists T top m (record { member = k; place = p; len = l }) → viewing T top m k ≡ part p l
  pub fallback_shown : viewing T top m k ≡ fallback → Lacks T top m k
  pub fallback_due : Lacks T top m k → viewing T top m k ≡ fallback
  pub nothing_shown : viewing T top m k ≡ nothing → Hidden T top m k
  pub nothing_due : Hidden T top m k → viewing T top m k ≡ nothing
  pub part_bytes : (p l : ℕ) (other : List ℕ) → viewing T top m k ≡ part p l → (p + l ≤ length m) × (seen_bytes m other (viewing T top m k) ≡ take l (drop p m))
  pub fallback_bytes : (other : List ℕ) → viewing T top m k ≡ fallback → seen_bytes m other (viewing T top m k) ≡ other
  pub nothing_bytes : (other : List ℕ) → viewing T top m k ≡ nothing → seen_bytes m other (viewing T top m k) ≡ []

abbrev pub Viewed : Type 0
Viewed = (T : List ℕ) (top : ℕ) (m : List ℕ) (k : ℕ) → Bytes m → ViewedAs T top m k

-- ---- demand 2: what is written

-- a message and its rows, and another with its own: the same members in the same order, with the same bytes
pub data SameMembers (m m' : List ℕ) : List Row → List Row → Type 0 where
  no_members : SameMembers m m' [] []
  same_member : {r r' : Row} {rs rs' : List Row} → r.member ≡ r'.member → part_of m r ≡ part_of m' r' → r.len ≡ r'.len
      → SameMembers m m' rs rs' → SameMembers m m' (r ∷ rs) (r' ∷ rs')

-- type is the top or descends from it
abbrev pub UnderTop : List ℕ → ℕ → ℕ → Type 0
UnderTop T top type = any (λ r. eqb r top) (chain T type) ≡ true

-- where 26 refuses nothing under a top, it refuses nothing under a type below that top: a 1.0 message that was read may be written
abbrev pub OldBelow : Type 0
OldBelow = (T : List ℕ) (top type : ℕ) → UnderTop T top type → WithoutOptionals T top → WithoutOptionals T type

-- the rows that count and row bytes name
abbrev pub row_list : ℕ → List ℕ → List Row
row_list count rows = map (row_at rows) (range 0 count)

-- nothing was skipped
pub record Complete (p : Pieces) : Type 0 where
  pub optionals : optionals_skipped p ≡ 0
  pub slices : slices_skipped p ≡ 0

-- what the rules make of a written message: the type and format named, nothing skipped, the members given, with their bytes
pub record ReadBackAs (T : List ℕ) (top type format : ℕ) (rs : List Row) (buffer m : List ℕ) : Type 0 where
  pub read : Read
  pub taken : ℕ
  pub accepted : rules T top m ≡ ok read taken
  pub of_type : first_known T top read.pieces ≡ type
  pub in_format : encoding_number read.format ≡ format
  pub complete : Complete read.pieces
  pub members : SameMembers buffer m rs (rows T top read.format read.pieces)

-- the tops under which a written message is read: the named type itself; a type above it, and in format 2 one whose line has no optionals
pub data ReadUnder (T : List ℕ) (top type format : ℕ) : Type 0 where
  as_named : top ≡ type → ReadUnder T top type format
  from_above : UnderTop T top type → (format ≡ 2 → WithoutOptionals T top) → ReadUnder T top type format

-- Rules out a writer that touches nothing.
abbrev pub ReadBack : Type 0
ReadBack =
    (T : List ℕ) (top type format count : ℕ) (rs buffer : List ℕ) (room : ℕ) (m : List ℕ)
    → writing T type format count rs buffer room ≡ out m → ReadUnder T top type format → ReadBackAs T top type format (row_list count rs) buffer m

-- the same of the reader's answer, where the lent list of so many bytes holds a row for each member given
pub record ReadBackAnswer (type format : ℕ) (rs : List Row) (buffer m : List ℕ) (a : Answer) : Type 0 where
  pub accepted : a.refusal ≡ 0
  pub of_type : a.type ≡ type
  pub in_format : a.format ≡ format
  pub no_optional_skipped : a.optionals ≡ 0
  pub no_slice_skipped : a.slices ≡ 0
  pub members : SameMembers buffer m rs a.rows

abbrev pub ReadBackReading : Type 0
ReadBackReading =
    (T : List ℕ) (top type format count : ℕ) (rs buffer : List ℕ) (room : ℕ) (m : List ℕ)
    → writing T type format count rs buffer room ≡ out m → ReadUnder T top type format → (bytes : ℕ) → 12 * count ≤ bytes
    → ReadBackAnswer type format (row_list count rs) buffer m (reading T top m bytes)

-- An accepted 1.1 message with nothing skipped, written again from itself with its own rows, is the sliced encoding of its pieces, where limit and room allow.
abbrev pub WriteAgain : Type 0
WriteAgain =
    (T : List ℕ) (top : ℕ) (m : List ℕ) (g : Format) (p : Pieces) (n room : ℕ) → Bytes m → rules T top m ≡ ok (read_as (v11 g) p) n
    → Complete p → length (encapsulate (v11 sliced) (encode (v11 sliced) p)) ≤ limit → length (encapsulate (v11 sliced) (encode (v11 sliced) p)) ≤ room
    → writing T (first_known T top p) 1 (length (rows T top (v11 g) p)) (concat row_bytes (rows T top (v11 g) p)) m room ≡ out (encapsulate (v11 sliced) (encode (v11 sliced) p))

-- an accepted message of either encoding that is no compact record, written again in its own format, is the message itself
abbrev pub WriteSame : Type 0
WriteSame =
    (T : List ℕ) (top : ℕ) (m : List ℕ) (f : Encoding) (p : Pieces) (n room : ℕ) → Bytes m → rules T top m ≡ ok (read_as f p) n
    → Complete p → (f ≡ v11 compact → ⊥) → length m ≤ room
    → writing T (first_known T top p) (encoding_number f) (length (rows T top f p)) (concat row_bytes (rows T top f p)) m room ≡ out m

-- two accepted messages of one first known type and one format, nothing skipped, with the same members and the same bytes, are equal
abbrev pub OneMessage : Type 0
OneMessage =
    (T : List ℕ) (top top' : ℕ) (m m' : List ℕ) (f : Encoding) (p p' : Pieces) (n n' : ℕ) → Bytes m → Bytes m'
    → rules T top m ≡ ok (read_as f p) n → rules T top' m' ≡ ok (read_as f p') n' → first_known T top p ≡ first_known T top' p'
    → Complete p → Complete p' → SameMembers m m' (rows T top f p) (rows T top' f p') → m ≡ m'

-- ---- demand 2: which answer the writer gives

-- the formats of a type: 1; and 2, but for a class
pub data Formed (T : List ℕ) (type format : ℕ) : Type 0 where
  in_slices : format ≡ 1 → Formed T type format
  in_pairs : format ≡ 2 → (kind T type ≡ 14 → ⊥) → Formed T type format

-- nothing is refused before the rows: the table breaks no rule, it has the type, the format is one of the type's, 1.0 has no optionals to write, and the buffer is within the limit
pub record Ready (T : List ℕ) (type format : ℕ) (buffer : List ℕ) : Type 0 where
  pub table : faults T ≡ fine
  pub there : no_top T type ≡ false
  pub formed : Formed T type format
  pub bare : format ≡ 2 → WithoutOptionals T type
  pub short : length buffer ≤ limit

-- what is refused before the rows, by number and place: the first of the five that fails
pub data Early (T : List ℕ) (type format : ℕ) (buffer : List ℕ) : (number place : ℕ) → Type 0 where
  table_refused : {c p : ℕ} → FirstBroken T c p → Early T type format buffer c p
  type_refused : faults T ≡ fine → no_top T type ≡ true → Early T type format buffer 2 0
  format_refused : faults T ≡ fine → no_top T type ≡ false → (Formed T type format → ⊥) → Early T type format buffer 23 0
  optionals_refused : faults T ≡ fine → no_top T type ≡ false → Formed T type format → format ≡ 2 → (WithoutOptionals T type → ⊥) → Early T type format buffer 26 0
  buffer_refused : faults T ≡ fine → no_top T type ≡ false → Formed T type format → (format ≡ 2 → WithoutOptionals T type) → limit < length buffer → Early T type format buffer 3 0

-- 31 to 39, 2, 23, 26 and 3 come exactly where the table, the type, the format, an optional or the buffer is refused, and no other number but 20, 21 and 22 comes
abbrev pub EarlyRefused : Type 0
EarlyRefused =
    (T : List ℕ) (type format count : ℕ) (rs buffer : List ℕ) (room n i : ℕ)
    → (writing T type format count rs buffer room ≡ stop n i → Early T type format buffer n i ⊎ ((n ≡ 20) ⊎ ((n ≡ 21) ⊎ (n ≡ 22))))
    × (Early T type format buffer n i → writing T type format count rs buffer room ≡ stop n i)

-- some right list begins with these rows
pub record BeginsRight (T : List ℕ) (type : ℕ) (buffer : List ℕ) (rs : List Row) : Type 0 where
  pub others : List Row
  pub right : Right T type buffer (rs ++ others)

-- the bytes of a row are exactly one value of its member's type, in format 2 as 1.0 has it
abbrev pub RowFits : List ℕ → ℕ → List ℕ → Row → Type 0
RowFits T format buffer r = IsValue (type_as (eqb format 2) (member_ty T (trees T) r.member)) (part_of buffer r)

-- where rows are no right list: at the first row with which no right list begins, or, if a row is missing at the end, at their count; the bytes of the rows before are values of their types
pub data NoneRight (T : List ℕ) (type format : ℕ) (buffer : List ℕ) (rs : List Row) (i : ℕ) : Type 0 where
  at_row : i < length rs → BeginsRight T type buffer (take i rs) → (BeginsRight T type buffer (take (suc i) rs) → ⊥) → All (RowFits T format buffer) (take i rs) → NoneRight T type format buffer rs i
  at_count : i ≡ length rs → BeginsRight T type buffer rs → (Right T type buffer rs → ⊥) → All (RowFits T format buffer) rs → NoneRight T type format buffer rs i

-- the place of 20: the count, if the row bytes are too few for it, else where the rows are no right list
pub data Twenty (T : List ℕ) (type format count : ℕ) (rs buffer : List ℕ) (i : ℕ) : Type 0 where
  too_few : length rs < 12 * count → i ≡ count → Twenty T type format count rs buffer i
  none_right : 12 * count ≤ length rs → NoneRight T type format buffer (row_list count rs) i → Twenty T type format count rs buffer i

abbrev pub RightLists : Type 0
RightLists =
    (T : List ℕ) (type format count : ℕ) (rs buffer : List ℕ) (room i : ℕ)
    → (writing T type format count rs buffer room ≡ stop 20 i → Ready T type format buffer × Twenty T type format count rs buffer i)
    × (Ready T type format buffer → Twenty T type format count rs buffer i → writing T type format count rs buffer room ≡ stop 20 i)

-- the place of 21: the first row whose bytes aren't exactly one value of its type; some right list begins with the rows up to it
pub record TwentyOne (T : List ℕ) (type format : ℕ) (buffer : List ℕ) (rs : List Row) (i : ℕ) : Type 0 where
  pub inside : i < length rs
  pub begins : BeginsRight T type buffer (take (suc i) rs)
  pub before : All (RowFits T format buffer) (take i rs)
  pub misfit : RowFits T format buffer (get_or rs i (record { member = 0; place = 0; len = 0 })) → ⊥

abbrev pub WrongBytes : Type 0
WrongBytes =
    (T : List ℕ) (type format count : ℕ) (rs buffer : List ℕ) (room i : ℕ)
    → (writing T type format count rs buffer room ≡ stop 21 i → Ready T type format buffer × (12 * count ≤ length rs) × TwentyOne T type format buffer (row_list count rs) i)
    × (Ready T type format buffer → 12 * count ≤ length rs → TwentyOne T type format buffer (row_list count rs) i → writing T type format count rs buffer room ≡ stop 21 i)

-- what the writer takes: nothing refused before the rows, bytes for every row, a right list, and each row's bytes exactly one value of its type
pub record Writable (T : List ℕ) (type format count : ℕ) (rs buffer : List ℕ) : Type 0 where
  pub ready : Ready T type format buffer
  pub enough : 12 * count ≤ length rs
  pub right : Right T type buffer (row_list count rs)
  pub fits : All (RowFits T format buffer) (row_list count rs)

-- the message of rows: the encoding of pieces of this type and format that conform and skip nothing, whose rows are the rows given
pub record MessageOf (T : List ℕ) (type format : ℕ) (rs : List Row) (buffer m : List ℕ) : Type 0 where
  pub read : Read
  pub in_format : encoding_number read.format ≡ format
  pub conforms : Conform T type read.format read.pieces
  pub of_type : first_known T type read.pieces ≡ type
  pub complete : Complete read.pieces
  pub encoded : m ≡ encapsulate read.format (encode read.format read.pieces)
  pub members : SameMembers buffer m rs (rows T type read.format read.pieces)

-- a list that the writer takes has a message, and only one
abbrev pub RightMakes : Type 0
RightMakes =
    (T : List ℕ) (type format count : ℕ) (rs buffer : List ℕ) → Writable T type format count rs buffer
    → (m : List ℕ) × MessageOf T type format (row_list count rs) buffer m × ((o : List ℕ) → MessageOf T type format (row_list count rs) buffer o → o ≡ m)

-- the place of 22: the length of a message that is over 65,536 bytes or over its room
pub record TwentyTwo (T : List ℕ) (type format count : ℕ) (rs buffer : List ℕ) (room i : ℕ) : Type 0 where
  pub writable : Writable T type format count rs buffer
  pub made : List ℕ
  pub is_message : MessageOf T type format (row_list count rs) buffer made
  pub too_long_lem : (length made ≤ limit) × (length made ≤ room) → ⊥
  pub place : i ≡ length made

abbrev pub TooLong : Type 0
TooLong =
    (T : List ℕ) (type format count : ℕ) (rs buffer : List ℕ) (room i : ℕ)
    → (writing T type format count rs buffer room ≡ stop 22 i → TwentyTwo T type format count rs buffer room i)
    × (TwentyTwo T type format count rs buffer room i → writing T type format count rs buffer room ≡ stop 22 i)

-- what is written: the message of a list that the writer takes, within limit and room
pub record WrittenAs (T : List ℕ) (type format count : ℕ) (rs buffer : List ℕ) (room : ℕ) (m : List ℕ) : Type 0 where
  pub writable : Writable T type format count rs buffer
  pub is_message : MessageOf T type format (row_list count rs) buffer m
  pub short : length m ≤ limit
  pub fits : length m ≤ room

abbrev pub RightWritten : Type 0
RightWritten =
    (T : List ℕ) (type format count : ℕ) (rs buffer : List ℕ) (room : ℕ) (m : List ℕ)
    → (writing T type format count rs buffer room ≡ out m → WrittenAs T type format count rs buffer room m)
    × (WrittenAs T type format count rs buffer room m → writing T type format count rs buffer room ≡ out m)

-- demand 1 of the writer, its numbers and places: 20 and 21 at a row, 20 also at the count, 22 at the bytes needed
pub data WriterRefusal (T : List ℕ) (type format count : ℕ) (rs buffer : List ℕ) (room : ℕ) : ℕ → ℕ → Type 0 where
  wrong_table : {c p : ℕ} → FirstBroken T c p → WriterRefusal T type format count rs buffer room c p
  no_type : WriterRefusal T type format count rs buffer room 2 0
  great_buffer : limit < length buffer → WriterRefusal T type format count rs buffer room 3 0
  wrong_row : {i : ℕ} → i ≤ count → WriterRefusal T type format count rs buffer room 20 i
  wrong_bytes : {i : ℕ} → i < count → WriterRefusal T type format count rs buffer room 21 i
  no_room : {i : ℕ} → TwentyTwo T type format count rs buffer room i → WriterRefusal T type format count rs buffer room 22 i
  wrong_format : (Formed T type format → ⊥) → WriterRefusal T type format count rs buffer room 23 0
  optionals_there : format ≡ 2 → (WithoutOptionals T type → ⊥) → WriterRefusal T type format count rs buffer room 26 0

-- and no byte of the output changes
abbrev pub WriterRefuses : Type 0
WriterRefuses =
    (T : List ℕ) (type format count : ℕ) (rs buffer : List ℕ) (room n p : ℕ) → writing T type format count rs buffer room ≡ stop n p
    → WriterRefusal T type format count rs buffer room n p × ((lent : List ℕ) → output (writing T type format count rs buffer room) lent ≡ lent)

-- the writer's three numbers: 0, 0 and the message's length, or the refusal's number, which is not 0, its place and 0
abbrev pub WritingNumbersTold : Type 0
WritingNumbersTold =
    (T : List ℕ) (type format count : ℕ) (rs buffer : List ℕ) (room : ℕ)
    → ((m : List ℕ) → writing T type format count rs buffer room ≡ out m
    → writing_numbers (writing_of (writing T type format count rs buffer room)) ≡ 0 ∷ 0 ∷ length m ∷ [])
    × ((n p : ℕ) → writing T type format count rs buffer room ≡ stop n p
    → (1 ≤ n) × (writing_numbers (writing_of (writing T type format count rs buffer room)) ≡ n ∷ p ∷ 0 ∷ []))

-- ---- the lent bytes

-- a lent list after the call: it begins with the rows, the bytes after them are as they were, and it is as long as before
pub record ListAfter (rs : List Row) (lent after : List ℕ) : Type 0 where
  pub first : row_list (length rs) after ≡ rs
  pub rest : drop (12 * length rs) after ≡ drop (12 * length rs) lent
  pub long : length after ≡ length lent

abbrev pub ListFilled : Type 0
ListFilled =
    (T : List ℕ) (top : ℕ) (m lent : List ℕ) → Bytes m
    → ListAfter (reading T top m (length lent)).rows lent (listed (reading T top m (length lent)) lent)

-- a lent output after the call: it begins with the message, the bytes after it are as they were, and it is as long as before
abbrev pub OutputFilled : Type 0
OutputFilled =
    (T : List ℕ) (type format count : ℕ) (rs buffer lent m : List ℕ) → writing T type format count rs buffer (length lent) ≡ out m
    → (take (length m) (output (out m) lent) ≡ m) × (drop (length m) (output (out m) lent) ≡ drop (length m) lent) × (length (output (out m) lent) ≡ length lent)

-- ---- demand 3: an old table reads a newer message

-- the new table's rows without those of members that the old table does not know: same order, places and lengths, each at the matching old member
pub data Kept (old new : List ℕ) (top top' : ℕ) : List Row → List Row → Type 0 where
  ended : Kept old new top top' [] []
  kept : {r r' : Row} {rs rs' : List Row} → Counterpart old new top top' r'.member r.member → r'.place ≡ r.place → r'.len ≡ r.len
      → Kept old new top top' rs rs' → Kept old new top top' (r ∷ rs) (r' ∷ rs')
  lost : {r : Row} {rs rs' : List Row} → ((m : ℕ) → Counterpart old new top top' m r.member → ⊥)
      → Kept old new top top' rs rs' → Kept old new top top' (r ∷ rs) rs'

-- the type ID of the first slice
unfoldable pub first_id : List Slice → List ℕ
first_id [] = []
first_id (s ∷ ss) = id_of s

-- a compact record whose first type ID the table lacks, and the place of that type ID: after the flags, and the marker of a class
pub data Foreign (old : List ℕ) : Format → Pieces → ℕ → Type 0 where
  an_exception : {ss : List Slice} → named old (first_id ss) ≡ none → Foreign old compact (exception ss) 7
  a_class : {ss : List Slice} → named old (first_id ss) ≡ none → Foreign old compact (class ss) 8

-- what demand 3 is about: a 1.1 message that the rules accept under a new table that extends an old one, the tops matching
pub record Newer (old new : List ℕ) (top top' : ℕ) (m : List ℕ) (f : Format) (p : Pieces) : Type 0 where
  pub extends : Extends old new
  pub tops : TopsMatch old new top top'
  pub bytes : Bytes m
  pub taken : ℕ
  pub accepted : rules new top' m ≡ ok (read_as (v11 f) p) taken

-- what the old table makes of it: accepted, in the same format, with the rows of the members that it knows; it skips no fewer slices
pub record Understood (old new : List ℕ) (top top' : ℕ) (m : List ℕ) (f : Format) (p : Pieces) : Type 0 where
  pub pieces : Pieces
  pub taken : ℕ
  pub accepted : rules old top m ≡ ok (read_as (v11 f) pieces) taken
  pub kept : Kept old new top top' (rows new top' (v11 f) p) (rows old top (v11 f) pieces)
  pub skips : slices_skipped p ≤ slices_skipped pieces

abbrev pub NewerRead : Type 0
NewerRead =
    (old new : List ℕ) (top top' : ℕ) (m : List ℕ) (f : Format) (p : Pieces) → Newer old new top top' m f p
    → ((place : ℕ) → Foreign old f p place → ⊥) → Understood old new top top' m f p

abbrev pub NewerRefused : Type 0
NewerRefused =
    (old new : List ℕ) (top top' : ℕ) (m : List ℕ) (f : Format) (p : Pieces) → Newer old new top top' m f p
    → (place : ℕ) → Foreign old f p place → rules old top m ≡ bad 15 place

-- the same of the reader's answers, where each lent list, of so many bytes, holds every row to be given
abbrev pub NewerReading : Type 0
NewerReading =
    (old new : List ℕ) (top top' : ℕ) (m : List ℕ) (f : Format) (p : Pieces) → Newer old new top top' m f p
    → ((place : ℕ) → Foreign old f p place → ⊥) → (lent lent' : ℕ)
    → length (answer old top (rules old top m)).rows ≤ room lent → length (answer new top' (rules new top' m)).rows ≤ room lent'
    → ((reading old top m lent).refusal ≡ 0) × Kept old new top top' (reading new top' m lent').rows (reading old top m lent).rows

-- the exception, of the reader's answer with a list of any length
abbrev pub NewerRefusedReading : Type 0
NewerRefusedReading =
    (old new : List ℕ) (top top' : ℕ) (m : List ℕ) (f : Format) (p : Pieces) → Newer old new top top' m f p
    → (place : ℕ) → Foreign old f p place → (lent : ℕ) → ((reading old top m lent).refusal ≡ 15) × ((reading old top m lent).place ≡ place)

-- A 1.1 message that the writer makes under the new table, of a type below the new top: the new table accepts it, and so does the old one.
-- Rules out a writer whose messages old hubs refuse by 15.
abbrev pub NewerWritten : Type 0
NewerWritten =
    (old new : List ℕ) (top top' type count : ℕ) (rs buffer : List ℕ) (room : ℕ) (m : List ℕ) → Extends old new → TopsMatch old new top top' → Bytes m
    → writing new type 1 count rs buffer room ≡ out m → UnderTop new top' type
    → (p : Pieces) × Newer old new top top' m sliced p × Understood old new top top' m sliced p

-- a member of the new table matches at most one member of the old one, so the rows that are kept are fixed
abbrev pub OneCounterpart : Type 0
OneCounterpart =
    (old new : List ℕ) (top top' : ℕ) → Extends old new → top' < types new → (m m' n : ℕ)
    → Counterpart old new top top' m n → Counterpart old new top top' m' n → m ≡ m'

-- there is a message that demand 3 is about, and the old table lists a member of it and skips a slice
-- Rules out a demand 3 that holds because nothing extends anything.
pub record NewerThere : Type 0 where
  pub old : List ℕ
  pub new : List ℕ
  pub sent : List ℕ
  pub pieces : Pieces
  pub newer : Newer old new 1 1 sent sliced pieces
  pub by_new : reading_numbers (reading_of (reading new 1 sent 12)) ≡ 0 ∷ 0 ∷ 2 ∷ 1 ∷ 1 ∷ 0 ∷ 0 ∷ []
  pub by_old : reading_numbers (reading_of (reading old 1 sent 12)) ≡ 0 ∷ 0 ∷ 1 ∷ 1 ∷ 1 ∷ 0 ∷ 1 ∷ []
  pub understood : Understood old new 1 1 sent sliced pieces
