-- What is promised of the season sheet (M-108), each promise in full, to be read without its proof.
-- A promise is the type of its proof. Signed numbers are integers here: `signed k n` is the number that the pattern n of k bytes means.
--
--   Answered           a call that is not refused, and its sheet
--   Carried            the values of a member in the messages that the walk passes, in order
--   SheetSum           carriers and exact sum, over the integers
--   SheetExtremes      smallest and largest are a least and a greatest value
--   SheetCounts        carried, lacking and refused are those of M-107's answers with room for all
--   SheetSplit         a buffer split after a message the walk passed gives in two calls, neither refused, the same sheet as in one
--   SheetJoin          and where the one call is not refused, neither of the two is
--   FiftyThree         what 53 lets pass, over the integers
--   SheetRefused       which refusals there are, where each is, and what it says; SheetGiven: no other call is refused
--   NeverAmiss         a sheet that a call gives is never refused by 53
--   MeanExact          sum = mean · carriers + remainder, the remainder below the carriers' number
--   MeanThere          the mean of a sheet that a call gives is absent exactly with none carried
--   SheetFits          the numbers of a sheet that a call gives fit their widths
--   SheetStays         on a refusal the sheet stays
--   BytesBack          a sheet is written to 52 bytes with right marks and read back
--   BytesCall          the call on 52 bytes is the call on the sheet that they hold
use Rattle.std.specs.Prelude.{◌≡◌, Bool, true, false, not, ◌&&◌, List, [], ◌∷◌, ◌++◌, ℕ, ◌+◌, ◌*◌, ◌^◌, ◌≤◌, ◌<◌, length, take, drop, eqb, ℤ, pos, ◌+ℤ◌, ◌*ℤ◌, ◌≤ℤ◌}
use Rattle.std.proofs.Math.IntN.{sub_ℕ}
use Rattle.encoding.specs.Result.{ok, pick}
use Rattle.encoding.specs.Number.{Bytes, val, negative}
use Rattle.encoding.specs.Table.{members, member_type, kind, fine, fault, faults, rule_number}
use Rattle.encoding.specs.Message.{Encoding, Pieces, no_top, rules, Row, rows, Answer}
use Rattle.encoding.specs.Write.{part_of}
use Rattle.laws.specs.Demands.{read_as, All}
use Rattle.night.specs.Night.{night}
use Rattle.night.specs.NightDemands.{Passes, Reaches}
use Rattle.sums.specs.declared.Extreme.{Extreme}
use Rattle.sums.specs.declared.Extreme.TheVariants.{Absent, Is}
use Rattle.sums.specs.declared.Sheet.{Sheet}
use Rattle.sums.specs.declared.Mean.TheVariants.{Absent as NoMean, Is as IsMean}
use Rattle.sums.specs.Sums.{lift_sheet, amiss, ExtremeFits, mean}
use Rattle.sheetbytes.specs.SheetBytes.{sheet_at, wrong_mark, sheet_bytes}
use Rattle.sheet.specs.declared.Summed.{Summed}
use Rattle.sheet.specs.Sheet.{add, add_bytes}

-- ---- numbers

-- the number of a pattern of k bytes: less 2 ^ (8 k) where its highest bit is set
unfoldable pub signed : ℕ → ℕ → ℤ
signed k n = sub_ℕ n (pick (negative k n) (2 ^ (8 * k)) 0)

-- a number after others are added
unfoldable pub sum_from : ℤ → List ℤ → ℤ
sum_from z [] = z
sum_from z (v ∷ vs) = sum_from (z +ℤ v) vs

-- each number fits its width, as the code has it
pub record InWidths (s : Sheet) : Type 0 where
  pub carriers : s.carriers < 2 ^ 64
  pub lacking : s.lacking < 2 ^ 64
  pub refused : s.refused < 2 ^ 64
  pub smallest : ExtremeFits s.smallest
  pub largest : ExtremeFits s.largest
  pub sum : s.sum < 2 ^ 64

-- the answer of a call that is not refused
abbrev pub answered : Sheet → Summed
answered s = record { refusal = 0; place = 0; sheet = s }

pub record Answered (T : List ℕ) (top : ℕ) (buffer : List ℕ) (member : ℕ) (s s' : Sheet) : Type 0 where
  pub bytes : Bytes buffer
  pub fits : InWidths s
  pub call : add T top buffer member s ≡ answered s'

-- ---- what is summed

-- an accepted message lists the member, and the bytes of its first row are the number v
pub record Carries (T : List ℕ) (top member : ℕ) (m : List ℕ) (v : ℤ) : Type 0 where
  pub format : Encoding
  pub pieces : Pieces
  pub taken : ℕ
  pub accepted : rules T top m ≡ ok (read_as format pieces) taken
  pub row : Row
  pub rows_before : List Row
  pub rows_after : List Row
  pub listed : rows T top format pieces ≡ rows_before ++ (row ∷ rows_after)
  pub of_member : row.member ≡ member
  pub none_before : All (λ (r : Row). row.member ≡ r.member → ⊥) rows_before
  pub value : v ≡ signed row.len (val (part_of m row))

-- the values in the messages that the walk passes; what stops it carries none
pub data Carried (T : List ℕ) (top member : ℕ) : List ℕ → List ℤ → Type 0 where
  ended : {xs : List ℕ} → ((n : ℕ) → Passes xs n → ⊥) → Carried T top member xs []
  one : {xs : List ℕ} {n : ℕ} {v : ℤ} {vs : List ℤ} → Passes xs n → Carries T top member (take n xs) v
      → Carried T top member (drop n xs) vs → Carried T top member xs (v ∷ vs)
  no_one : {xs : List ℕ} {n : ℕ} {vs : List ℤ} → Passes xs n → ((v : ℤ) → Carries T top member (take n xs) v → ⊥)
      → Carried T top member (drop n xs) vs → Carried T top member xs vs

-- Rules out a sum that wraps, and one of unsigned values.
abbrev pub SheetSum : Type 0
SheetSum =
    (T : List ℕ) (top : ℕ) (buffer : List ℕ) (member : ℕ) (s s' : Sheet) (vs : List ℤ) → Answered T top buffer member s s'
    → Carried T top member buffer vs
    → (s'.carriers ≡ s.carriers + length vs) × (signed 8 s'.sum ≡ sum_from (signed 8 s.sum) vs)

-- one of a list
pub data Among (z : ℤ) : List ℤ → Type 0 where
  here : {l : List ℤ} → Among z (z ∷ l)
  further : {v : ℤ} {l : List ℤ} → Among z l → Among z (v ∷ l)

-- a sheet's earlier extreme, if it has one, before the values of the buffer
unfoldable pub earlier : Extreme → List ℤ → List ℤ
earlier Absent l = l
earlier (Is n) l = signed 4 n ∷ l

-- absent with no value; else one of them, and none is smaller
abbrev pub Least : Extreme → List ℤ → Type 0
Least Absent l = l ≡ []
Least (Is n) l = Among (signed 4 n) l × All (λ v. signed 4 n ≤ℤ v) l

-- the same, none greater
abbrev pub Greatest : Extreme → List ℤ → Type 0
Greatest Absent l = l ≡ []
Greatest (Is n) l = Among (signed 4 n) l × All (λ v. v ≤ℤ signed 4 n) l

abbrev pub SheetExtremes : Type 0
SheetExtremes =
    (T : List ℕ) (top : ℕ) (buffer : List ℕ) (member : ℕ) (s s' : Sheet) (vs : List ℤ) → Answered T top buffer member s s'
    → Carried T top member buffer vs
    → Least s'.smallest (earlier s.smallest vs) × Greatest s'.largest (earlier s.largest vs)

-- ---- the counts, by M-107's answers

-- how many pass a test
unfoldable pub how_many : {A : Type 0} → (A → Bool) → List A → ℕ
how_many f [] = 0
how_many f (a ∷ l) = pick (f a) 1 0 + how_many f l

-- a refused answer
unfoldable pub is_refused : Answer → Bool
is_refused a = not (eqb a.refusal 0)

-- an accepted answer with a row of the member
unfoldable pub is_carrier : ℕ → Answer → Bool
is_carrier member a = not (is_refused a) && not (eqb (how_many (λ (r : Row). eqb r.member member) a.rows) 0)

-- an accepted answer without one
unfoldable pub is_lacking : ℕ → Answer → Bool
is_lacking member a = not (is_refused a) && eqb (how_many (λ (r : Row). eqb r.member member) a.rows) 0

-- the counts of a sheet after a call, by the answers l to the messages of the buffer
pub record Counted (member : ℕ) (s s' : Sheet) (l : List Answer) : Type 0 where
  pub carriers : s'.carriers ≡ s.carriers + how_many (is_carrier member) l
  pub lacking : s'.lacking ≡ s.lacking + how_many (is_lacking member) l
  pub refused : s'.refused ≡ s.refused + how_many is_refused l

-- with room for an answer for each byte, and for the most rows that a message has, 1,024, for each byte
abbrev pub SheetCounts : Type 0
SheetCounts =
    (T : List ℕ) (top : ℕ) (buffer : List ℕ) (member : ℕ) (s s' : Sheet) (space left : ℕ) → Answered T top buffer member s s'
    → 28 * length buffer ≤ space → 12 * (1024 * length buffer) ≤ left
    → Counted member s s' (night T top buffer space left).answers

-- ---- two calls

abbrev pub SheetSplit : Type 0
SheetSplit =
    (T : List ℕ) (top : ℕ) (buffer : List ℕ) (member : ℕ) (s s₁ s₂ : Sheet) (j k : ℕ) → Reaches buffer j k
    → Answered T top (take k buffer) member s s₁ → Answered T top (drop k buffer) member s₁ s₂
    → add T top buffer member s ≡ answered s₂

-- the sheet between the two calls
pub record Between (T : List ℕ) (top : ℕ) (buffer : List ℕ) (member : ℕ) (s s₂ : Sheet) (k : ℕ) : Type 0 where
  pub sheet : Sheet
  pub first : add T top (take k buffer) member s ≡ answered sheet
  pub second : add T top (drop k buffer) member sheet ≡ answered s₂

abbrev pub SheetJoin : Type 0
SheetJoin =
    (T : List ℕ) (top : ℕ) (buffer : List ℕ) (member : ℕ) (s s₂ : Sheet) (j k : ℕ) → Reaches buffer j k
    → Answered T top buffer member s s₂ → Between T top buffer member s s₂ k

-- ---- refusals

-- what 53 lets pass, over the integers: none carried, no smallest or largest and sum 0; or both, and the sum between the carriers' number times these
pub data Sound (s : Sheet) : Type 0 where
  none_carried : s.carriers ≡ 0 → s.smallest ≡ Absent → s.largest ≡ Absent → signed 8 s.sum ≡ pos 0 → Sound s
  some_carried : {low high : ℕ} → 0 < s.carriers → s.smallest ≡ Is low → s.largest ≡ Is high
      → (signed 4 low *ℤ pos s.carriers) ≤ℤ signed 8 s.sum → signed 8 s.sum ≤ℤ (signed 4 high *ℤ pos s.carriers) → Sound s

abbrev pub FiftyThree : Type 0
FiftyThree = (s : Sheet) → InWidths s → (amiss (lift_sheet s) ≡ false → Sound s) × (Sound s → amiss (lift_sheet s) ≡ false)

-- a member row of kind short or int
pub data Summable (T : List ℕ) (member : ℕ) : Type 0 where
  a_short : member < members T → kind T (member_type T member) ≡ 2 → Summable T member
  an_int : member < members T → kind T (member_type T member) ≡ 3 → Summable T member

-- the messages of a buffer, what stopped the walk too: M-107's answers with room for all
abbrev pub messages : List ℕ → ℕ → List ℕ → ℕ
messages T top buffer = length (night T top buffer (28 * length buffer) 0).answers

-- those and the ones on the sheet
abbrev pub season : List ℕ → ℕ → List ℕ → Sheet → ℕ
season T top buffer s = messages T top buffer + (s.carriers + s.lacking + s.refused)

-- the refusals and what each says
pub data SheetRefusedAt (T : List ℕ) (top : ℕ) (buffer : List ℕ) (member : ℕ) (s : Sheet) : ℕ → ℕ → Type 0 where
  broken_table : {c p : ℕ} → faults T ≡ fault c p → SheetRefusedAt T top buffer member s (rule_number c) p
  no_top_lem : no_top T top ≡ true → SheetRefusedAt T top buffer member s 2 0
  not_summable : (Summable T member → ⊥) → SheetRefusedAt T top buffer member s 43 0
  too_many : 1000000 < season T top buffer s → SheetRefusedAt T top buffer member s 44 0
  not_sound : (Sound s → ⊥) → SheetRefusedAt T top buffer member s 53 0

abbrev pub SheetRefused : Type 0
SheetRefused =
    (T : List ℕ) (top : ℕ) (buffer : List ℕ) (member : ℕ) (s : Sheet) → InWidths s → ((add T top buffer member s).refusal ≡ 0 → ⊥)
    → SheetRefusedAt T top buffer member s (add T top buffer member s).refusal (add T top buffer member s).place

-- Rules out a call that only refuses.
abbrev pub SheetGiven : Type 0
SheetGiven =
    (T : List ℕ) (top : ℕ) (buffer : List ℕ) (member : ℕ) (s : Sheet) → InWidths s → faults T ≡ fine → no_top T top ≡ false → Summable T member
    → season T top buffer s ≤ 1000000 → Sound s → (s' : Sheet) × (add T top buffer member s ≡ answered s')

abbrev pub NeverAmiss : Type 0
NeverAmiss =
    (T : List ℕ) (top : ℕ) (buffer : List ℕ) (member : ℕ) (s s' : Sheet) → Answered T top buffer member s s'
    → (T' : List ℕ) (top' : ℕ) (buffer' : List ℕ) (member' : ℕ) → (add T' top' buffer' member' s').refusal ≡ 53 → ⊥

-- ---- the mean

-- of any sheet: where a mean is given, it is the mean
abbrev pub MeanExact : Type 0
MeanExact =
    (s : Sheet) (w r : ℕ) → InWidths s → mean s ≡ IsMean w r
    → (signed 8 s.sum ≡ signed 4 w *ℤ pos s.carriers +ℤ pos r) × (r < s.carriers)

-- a whole part and a remainder
pub record HasMean (s : Sheet) : Type 0 where
  pub whole : ℕ
  pub remainder : ℕ
  pub is : mean s ≡ IsMean whole remainder
  pub fits : whole < 2 ^ 32

abbrev pub MeanThere : Type 0
MeanThere =
    (T : List ℕ) (top : ℕ) (buffer : List ℕ) (member : ℕ) (s s' : Sheet) → Answered T top buffer member s s'
    → (s'.carriers ≡ 0 → mean s' ≡ NoMean) × (0 < s'.carriers → HasMean s')

-- ---- the sheet

abbrev pub SheetFits : Type 0
SheetFits =
    (T : List ℕ) (top : ℕ) (buffer : List ℕ) (member : ℕ) (s s' : Sheet) → Answered T top buffer member s s'
    → InWidths s' × (s'.carriers + s'.lacking + s'.refused ≤ 1000000)

abbrev pub SheetStays : Type 0
SheetStays =
    (T : List ℕ) (top : ℕ) (buffer : List ℕ) (member : ℕ) (s : Sheet)
    → ((add T top buffer member s).refusal ≡ 0 → ⊥) → (add T top buffer member s).sheet ≡ s

-- ---- as bytes

-- written and read back, 52 bytes with right marks
pub record Back (s : Sheet) : Type 0 where
  pub same : sheet_at (sheet_bytes s) ≡ s
  pub marks : wrong_mark (sheet_bytes s) ≡ false
  pub long : length (sheet_bytes s) ≡ 52

abbrev pub BytesBack : Type 0
BytesBack = (s : Sheet) → InWidths s → Back s

-- the call on 52 bytes with right marks is the call on the sheet that they hold
abbrev pub BytesCall : Type 0
BytesCall =
    (T : List ℕ) (top : ℕ) (buffer : List ℕ) (member : ℕ) (lent : List ℕ) → length lent ≡ 52 → wrong_mark lent ≡ false
    → add_bytes T top buffer member lent ≡ add T top buffer member (sheet_at lent)
