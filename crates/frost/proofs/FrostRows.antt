-- The rows of an accepted message: a report is complete exactly if there are three, and then they are reading, tick and delay, as wide as their types.
-- The idea: the promises of the reader. Rows that were read are a right list (`RowsRight`), and each is exactly one value of its member's type (`ExactRows`).
-- Assumes nothing.
--
--   table_sound, table_is   the table breaks no rule, and is P2's
--   report_plain            a report with three rows and no optional skipped: its numbers are at 6, 9 and 18
--   report_full             any report with three rows, as the code reads it
--   report_partial          a report with fewer rows is 42
--   report_refused          a message that the reader refuses
use Rattle.std.specs.Prelude.{◌≡◌, refl, Bool, true, false, List, [], ◌∷◌, ◌++◌, map, ℕ, ◌+◌, length, take, drop, eqb}
use Rattle.std.proofs.Math.Path.{sym}
use Rattle.std.proofs.Common.{ap, ◌∙◌, subst, true≢false, arith, length-take, length-drop, length-append, eqb-true, eq-eqb, ne_eqb}
use Rattle.std.proofs.Math.Option.{Option, none, some}
use Rattle.encoding.specs.Result.{pick, concat}
use Rattle.encoding.proofs.ResultLaws.{some≢none}
use Rattle.encoding.specs.Number.{Bytes, val}
use Rattle.encoding.specs.Types.{Ty, Num, num, short, int, long, float, double, width, Bits, f4, f8, Form, bare}
use Rattle.encoding.specs.OptionalForm.{HasForm, int_f4, long_f8}
use Rattle.encoding.specs.Optional.{Piece, required, optional, skipped, header_bytes, length_bytes, front_bytes, content_bytes, piece_bytes, is_skipped}
use Rattle.encoding.specs.Old.{as_old, type_as}
use Rattle.encoding.specs.Grammar.{IsValue}
use Rattle.encoding.specs.Table.{at, range, types, kind, faults, fine, member_ty, trees, Member, required_members, optional_members, lookup}
use Rattle.encoding.specs.Message.{Encoding, v10, v11, is_old, Pieces, list, exception, class, Row, list_row, piece_member, piece_rows, rows, row_bytes, first_known, skipped_pieces, optionals_skipped, Answer, reading, listed, reading_of}
use Rattle.encoding.specs.declared.Reading.{Reading}
use Rattle.encoding.specs.declared.Reading.TheVariants.{Accepted, Refused}
use Rattle.encoding.specs.Write.{Slot, Chosen, end, chosen, left, plan, plan_of, slots, slot, rising, insert, part_of, row_at}
use Rattle.encoding.proofs.Cases.{computed, table2}
use Rattle.encoding.specs.Conform.{Level, a_base, WithoutOptionals, Conform}
use Rattle.laws.specs.Demands.{All, more, RowExact}
use Rattle.laws.proofs.Promised.{promises}
use Rattle.laws.proofs.RowsBack.{SmallRow, rows_back, accepted_rows_small}
use Rattle.frost.specs.Frost.{guard_table, Heard, refuse, heard, member_value, complete, answered, report_of}
use Rattle.frost.specs.Code.{report_in, numbers_at, fields_at}

-- ---- the table

pub table_sound : faults guard_table ≡ fine
unfolding computed guard_table
table_sound = refl

pub table_is : guard_table ≡ table2
unfolding computed guard_table
table_is = refl

-- ---- members

-- the rows of an accepted report: the reading always, tick and delay if they are there
data Kinds : List Row → Type 0 where
  whole : {a b c : Row} → a.member ≡ 0 → b.member ≡ 1 → c.member ≡ 2 → Kinds (a ∷ b ∷ c ∷ [])
  no_delay : {a b : Row} → a.member ≡ 0 → b.member ≡ 1 → Kinds (a ∷ b ∷ [])
  no_tick : {a c : Row} → a.member ≡ 0 → c.member ≡ 2 → Kinds (a ∷ c ∷ [])
  neither : {a : Row} → a.member ≡ 0 → Kinds (a ∷ [])

kinds_three : {x y z : Slot} {rs : List Row} → Chosen (x ∷ y ∷ z ∷ []) rs → x.due ≡ true → x.member.row ≡ 0 → y.member.row ≡ 1 → z.member.row ≡ 2 → Kinds rs
kinds_three (chosen e (chosen f (chosen g end))) d p q r = whole (e ∙ p) (f ∙ q) (g ∙ r)
kinds_three (chosen e (chosen f (left v end))) d p q r = no_delay (e ∙ p) (f ∙ q)
kinds_three (chosen e (left u (chosen g end))) d p q r = no_tick (e ∙ p) (g ∙ r)
kinds_three (chosen e (left u (left v end))) d p q r = neither (e ∙ p)
kinds_three (left w c) d p q r = absurd (true≢false (sym d ∙ w))

kinds_of : (rs : List Row) → Chosen (plan guard_table 3) rs → Kinds rs
unfolding computed guard_table plan plan_of slots slot rising insert
kinds_of rs c = kinds_three c refl refl refl refl

-- ---- widths

short_is : member_ty guard_table (trees guard_table) 0 ≡ num short
unfolding computed guard_table
short_is = refl

long_is : member_ty guard_table (trees guard_table) 1 ≡ num long
unfolding computed guard_table
long_is = refl

int_is : member_ty guard_table (trees guard_table) 2 ≡ num int
unfolding computed guard_table
int_is = refl

-- both versions encode a number alike
num_as : (f : Encoding) (n : Num) → type_as (is_old f) (num n) ≡ num n
unfolding as_old
num_as v10 n = refl
num_as (v11 g) n = refl

num_wide : (n : Num) (b : List ℕ) → IsValue (num n) b → length b ≡ width n
unfolding IsValue
num_wide short b w = w
num_wide int b w = w
num_wide long b w = w
num_wide float b w = w
num_wide double b w = w

-- a row is as long as its member's type is wide
row_wide : (m : List ℕ) (f : Encoding) (r : Row) (k : ℕ) (n : Num) → r.member ≡ k → member_ty guard_table (trees guard_table) k ≡ num n → RowExact guard_table m f r → r.len ≡ width n
row_wide m f r k n e t x =
    let v : IsValue (num n) (take r.len (drop r.place m)) =
    subst (λ (y : Ty). IsValue y (take r.len (drop r.place m))) (ap (λ (j : ℕ). type_as (is_old f) (member_ty guard_table (trees guard_table) j)) e ∙ ap (type_as (is_old f)) t ∙ num_as f n) x.one in
    omega (arith, num_wide n _ v, x.inside, length-take r.len (drop r.place m), length-drop r.place m)

-- ---- an accepted report

-- pieces under the table are a list
first_is : (f : Encoding) (p : Pieces) → Conform guard_table 3 f p → first_known guard_table 3 p ≡ 3
unfolding first_known computed guard_table
first_is f (list ps) C = refl
first_is v10 (exception ss) C = let z : ◌≡◌ {A = ℕ} 15 13 = C.0 in absurd (omega arith)
first_is v10 (class ss) C = absurd C
first_is (v11 g) (exception ss) C = let z : ◌≡◌ {A = ℕ} 15 13 = C.0 in absurd (omega arith)
first_is (v11 g) (class ss) C = let z : ◌≡◌ {A = ℕ} 15 14 = C.0 in absurd (omega arith)

-- what the promises of the reader say of an accepted report
record Accepts (m : List ℕ) (rs : List Row) : Type 0 where
  encoding : Encoding
  kinds : Kinds rs
  exact : All (RowExact guard_table m encoding) rs
  small : All SmallRow rs

accepts : (m : List ℕ) → Bytes m → (reading guard_table 3 m 36).refusal ≡ 0 → Accepts m (reading guard_table 3 m 36).rows
accepts m y h =
    let R = (promises.reads guard_table 3 m 36 y).0 h in
    let A = (promises.reads guard_table 3 m 36 y).1 R.0 R.1 R.2 in
    let acc = (promises.exact guard_table 3 m R.0 R.1 (length m) y).1 R.2.follows in
    let right = (promises.rows_right guard_table 3 m R.0 R.1 (length m) y acc).order in
    subst (λ (l : List Row). Accepts m l) (sym A.all_listed)
    (record {
      encoding = R.0;
      kinds = kinds_of (rows guard_table 3 R.0 R.1) (subst (λ (t : ℕ). Chosen (plan guard_table t) (rows guard_table 3 R.0 R.1)) (first_is R.0 R.1 R.2.follows.conforms) right);
      exact = promises.rows guard_table 3 m R.0 R.1 (length m) y acc;
      small = accepted_rows_small guard_table 3 m R.0 R.1 (length m) y acc;
    })

-- ---- the values of members

value_here : (m : List ℕ) (k : ℕ) (r : Row) (rs : List Row) → r.member ≡ k → member_value m k (r ∷ rs) ≡ some (val (part_of m r))
unfolding member_value
value_here m k r rs e = rw (eq-eqb r.member k e)

value_later : (m : List ℕ) (j k : ℕ) (r : Row) (rs : List Row) → r.member ≡ j → (j ≡ k → ⊥) → member_value m k (r ∷ rs) ≡ member_value m k rs
unfolding member_value
value_later m j k r rs e n = rw (ne_eqb r.member k (λ q. n (sym e ∙ q)))

value_none : (m : List ℕ) (k : ℕ) → member_value m k [] ≡ none
unfolding member_value
value_none m k = refl

-- the value of a row is the number at its place, as wide as the row
part_at : (m : List ℕ) (r : Row) (w : ℕ) → r.len ≡ w → val (part_of m r) ≡ at m w r.place
unfolding part_of at
part_at m r w e = ap (λ (n : ℕ). val (take n (drop r.place m))) e

complete_none : (r t d : Option ℕ) → t ≡ none → complete r t d ≡ refuse 42 0
unfolding complete
complete_none none t d e = refl
complete_none (some r) none d e = refl
complete_none (some r) (some t) d e = absurd (some≢none refl e)

complete_no_delay : (r t d : Option ℕ) → d ≡ none → complete r t d ≡ refuse 42 0
unfolding complete
complete_no_delay none t d e = refl
complete_no_delay (some r) none d e = refl
complete_no_delay (some r) (some t) none e = refl
complete_no_delay (some r) (some t) (some d) e = absurd (some≢none refl e)

-- the report of rows, or 42
abbrev heard_of : List ℕ → List Row → Heard
heard_of m rs = complete (member_value m 0 rs) (member_value m 1 rs) (member_value m 2 rs)

zero≢one : ◌≡◌ {A = ℕ} 0 1 → ⊥
zero≢one e = omega arith

zero≢two : ◌≡◌ {A = ℕ} 0 2 → ⊥
zero≢two e = omega arith

one≢two : ◌≡◌ {A = ℕ} 1 2 → ⊥
one≢two e = omega arith

two≢one : ◌≡◌ {A = ℕ} 2 1 → ⊥
two≢one e = omega arith

-- fewer than three rows are no report
partial : (m : List ℕ) (rs : List Row) → Kinds rs → (length rs ≡ 3 → ⊥) → heard_of m rs ≡ refuse 42 0
partial m [] x'' n = elim x'' [ ]
partial m (a ∷ (b ∷ (c ∷ (_ ∷ _)))) x14 n = elim x14 [ ]
partial m (a ∷ b ∷ c ∷ []) (whole e f g) n = absurd (n refl)
partial m (a ∷ b ∷ []) (no_delay e f) n =
    complete_no_delay _ _ _ (value_later m 0 2 a (b ∷ []) e zero≢two ∙ value_later m 1 2 b [] f one≢two ∙ value_none m 2)
partial m (a ∷ c ∷ []) (no_tick e g) n =
    complete_none _ _ _ (value_later m 0 1 a (c ∷ []) e zero≢one ∙ value_later m 2 1 c [] g two≢one ∙ value_none m 1)
partial m (a ∷ []) (neither e) n = complete_none _ _ _ (value_later m 0 1 a [] e zero≢one ∙ value_none m 1)

complete_all : (r t d : Option ℕ) (x y z : ℕ) → r ≡ some x → t ≡ some y → d ≡ some z → complete r t d ≡ heard (report_in x y z)
unfolding complete
complete_all r t d x y z e f g = rw (e, f, g)

fields_are : (m kept : List ℕ) (a b c : Row) → row_at kept 0 ≡ a → row_at kept 1 ≡ b → row_at kept 2 ≡ c → fields_at m kept ≡ numbers_at m a.place b.place c.place
unfolding fields_at
fields_are m kept a b c e f g = rw (e, f, g)

-- the report of three rows is the numbers at their places
whole_heard : (m : List ℕ) (f : Encoding) (a b c : Row) → a.member ≡ 0 → b.member ≡ 1 → c.member ≡ 2 → All (RowExact guard_table m f) (a ∷ b ∷ c ∷ [])
    → heard_of m (a ∷ b ∷ c ∷ []) ≡ numbers_at m a.place b.place c.place
whole_heard m f a b c p q r (more x (more y (more z w))) =
    complete_all _ _ _ _ _ _
    (value_here m 0 a (b ∷ c ∷ []) p ∙ ap some (part_at m a 2 (row_wide m f a 0 short p short_is x)))
    (value_later m 0 1 a (b ∷ c ∷ []) p zero≢one ∙ value_here m 1 b (c ∷ []) q ∙ ap some (part_at m b 8 (row_wide m f b 1 long q long_is y)))
    (value_later m 0 2 a (b ∷ c ∷ []) p zero≢two ∙ value_later m 1 2 b (c ∷ []) q one≢two ∙ value_here m 2 c [] r ∙ ap some (part_at m c 4 (row_wide m f c 2 int r int_is z)))

-- the report at the places of three listed rows is the report of these rows
full : (m kept v : List ℕ) (rs : List Row) → Accepts m rs → length rs ≡ 3 → kept ≡ concat row_bytes rs ++ v → fields_at m kept ≡ heard_of m rs
unfolding range
full m kept v rs A n e = go rs A.kinds A.exact (rows_back A.small kept v e) n
  where
    go : (rs : List Row) → Kinds rs → All (RowExact guard_table m A.encoding) rs → map (row_at kept) (range 0 (length rs)) ≡ rs → length rs ≡ 3 → fields_at m kept ≡ heard_of m rs
    go [] x5 x back n = elim x5 [ ]
    go (a ∷ (b ∷ (c ∷ (_ ∷ _)))) x23 x back n = elim x23 [ ]
    go (a ∷ b ∷ []) (no_delay p q) x back n = absurd (omega arith)
    go (a ∷ c ∷ []) (no_tick p q) x back n = absurd (omega arith)
    go (a ∷ []) (neither p) x back n = absurd (omega arith)
    go (a ∷ b ∷ c ∷ []) (whole p q r) x back n =
        let ea : row_at kept 0 ≡ a = cc in
        let eb : row_at kept 1 ≡ b = cc in
        let ec : row_at kept 2 ≡ c = cc in
        fields_are m kept a b c ea eb ec ∙ sym (whole_heard m A.encoding a b c p q r x)

-- ---- the places where no optional is skipped

long_form : (f : Form) → HasForm (num long) f → f ≡ bare f8
long_form f long_f8 = refl

int_form : (f : Form) → HasForm (num int) f → f ≡ bare f4
int_form f int_f4 = refl

-- an optional of the table: one byte comes before it, and the tick has eight
record Tagged (t : ℕ) (x : Member) (f : Form) (b : List ℕ) : Type 0 where
  front : length (front_bytes (optional t f b)) ≡ 1
  tick : x.row ≡ 1 → length b ≡ 8

front_one : (t u : ℕ) (f g : Form) (b : List ℕ) → t ≡ u → f ≡ g → length (front_bytes (optional u g b)) ≡ 1 → length (front_bytes (optional t f b)) ≡ 1
front_one t u f g b e q h = rw (e, q) h

tagged : (t : ℕ) (x : Member) (f : Form) (b : List ℕ) → lookup t (optional_members guard_table 3) ≡ some x → HasForm x.ty f → IsValue x.ty b → Tagged t x f b
unfolding computed guard_table lookup front_bytes header_bytes length_bytes
tagged t x f b e h v = go (eqb t 7) refl (eqb t 8) refl e
  where
    a_tick : t ≡ 7 → record { row = 1; key = 7; ty = num long } ≡ x → Tagged t x f b
    a_tick q w = record {
      front = front_one t 7 f (bare f8) b q (long_form f (subst (λ (y : Member). HasForm y.ty f) (sym w) h)) refl;
      tick = λ _. num_wide long b (subst (λ (y : Member). IsValue y.ty b) (sym w) v);
    }

    a_delay : t ≡ 8 → record { row = 2; key = 8; ty = num int } ≡ x → Tagged t x f b
    a_delay q w = record {
      front = front_one t 8 f (bare f4) b q (int_form f (subst (λ (y : Member). HasForm y.ty f) (sym w) h)) refl;
      tick = λ z. let k : ◌≡◌ {A = ℕ} 2 1 = ap (λ (y : Member). y.row) w ∙ z in absurd (omega arith);
    }

    go : (p : Bool) → eqb t 7 ≡ p → (q : Bool) → eqb t 8 ≡ q
        → pick p (some (record { row = 1; key = 7; ty = num long })) (pick q (some (record { row = 2; key = 8; ty = num int })) none) ≡ some x → Tagged t x f b
    go true p q q' w = a_tick (eqb-true t 7 p) cc
    go false p true q w = a_delay (eqb-true t 8 q) cc
    go false p false q w = absurd (some≢none refl (sym w))

-- the row of a piece at k, of member x
abbrev row_of : ℕ → Piece → Member → Row
row_of k p x = record { member = x.row; place = k + length (front_bytes p); len = length (content_bytes p) }

row_here : (k : ℕ) (p : Piece) (ps : List Piece) (x : Member) → piece_member guard_table 3 p ≡ some x → piece_rows guard_table 3 k (p ∷ ps) ≡ row_of k p x ∷ piece_rows guard_table 3 (k + length (piece_bytes p)) ps
unfolding piece_rows list_row
row_here k p ps x h = rw h

no_row : (k : ℕ) → length (piece_rows guard_table 3 k []) ≡ 0
unfolding piece_rows
no_row k = refl

one_row : (k : ℕ) (p : Piece) (x : Member) → piece_member guard_table 3 p ≡ some x → length (piece_rows guard_table 3 k (p ∷ [])) ≡ 1
one_row k p x h = omega (arith, ap length (row_here k p [] x h), no_row (k + length (piece_bytes p)))

abbrev reading_member : Member
reading_member = record { row = 0; key = 0; ty = num short }

reading_is : required_members guard_table 3 ≡ reading_member ∷ []
unfolding computed guard_table
reading_is = refl

reading_found : (i : ℕ) (b : List ℕ) → i ≡ 0 → piece_member guard_table 3 (required i b) ≡ some reading_member
unfolding piece_member lookup
reading_found i b e = ap (λ (ms : List Member). lookup i ms) reading_is ∙ rw (eq-eqb i 0 e)

optional_found : (t : ℕ) (f : Form) (b : List ℕ) (x : Member) → lookup t (optional_members guard_table 3) ≡ some x → piece_member guard_table 3 (optional t f b) ≡ some x
unfolding piece_member
optional_found t f b x e = e

reading_front : (i : ℕ) (b : List ℕ) → length (front_bytes (required i b)) ≡ 0
unfolding front_bytes
reading_front i b = refl

reading_long : (i : ℕ) (b : List ℕ) → length (piece_bytes (required i b)) ≡ length b
unfolding piece_bytes front_bytes content_bytes
reading_long i b = refl

optional_long : (t : ℕ) (f : Form) (b : List ℕ) → length (piece_bytes (optional t f b)) ≡ length (front_bytes (optional t f b)) + length b
unfolding piece_bytes content_bytes
optional_long t f b = length-append (front_bytes (optional t f b)) b

skipped_some : (t : ℕ) (j : Bits) (b : List ℕ) (ps : List Piece) → skipped_pieces (skipped t j b ∷ ps) ≡ 0 → ⊥
unfolding skipped_pieces is_skipped
skipped_some t j b ps e = omega arith

skipped_later : (t : ℕ) (f : Form) (b : List ℕ) (ps : List Piece) → skipped_pieces (optional t f b ∷ ps) ≡ 0 → skipped_pieces ps ≡ 0
unfolding skipped_pieces is_skipped
skipped_later t f b ps e = omega (arith, e)

skipped_after : (i : ℕ) (b : List ℕ) (ps : List Piece) → skipped_pieces (required i b ∷ ps) ≡ 0 → skipped_pieces ps ≡ 0
unfolding skipped_pieces is_skipped
skipped_after i b ps e = omega (arith, e)

-- the places of rows
abbrev places : List Row → List ℕ
places rs = map (λ (r : Row). r.place) rs

three_placed : (rs : List Row) → Kinds rs → (a b c : Row) (l : List Row) → rs ≡ a ∷ b ∷ c ∷ l → a.place ≡ 6 → b.place ≡ 9 → (b.member ≡ 1 → c.place ≡ 18) → places rs ≡ 6 ∷ 9 ∷ 18 ∷ []
three_placed [] x5 a b c l e ea eb ec = elim x5 [ ]
three_placed (x ∷ (y ∷ (z ∷ (_ ∷ _)))) x27 a b c l e ea eb ec = elim x27 [ ]
three_placed (x ∷ y ∷ z ∷ []) (whole p q r) a b c l e ea eb ec =
    let xa : x ≡ a = cc in
    let yb : y ≡ b = cc in
    let zc : z ≡ c = cc in
    rw (xa, yb, zc, ea, eb, ec (ap (λ (w : Row). w.member) (sym yb) ∙ q))
three_placed (x ∷ y ∷ []) (no_delay p q) a b c l e ea eb ec = absurd (omega (arith, ap length e))
three_placed (x ∷ y ∷ []) (no_tick p q) a b c l e ea eb ec = absurd (omega (arith, ap length e))
three_placed (x ∷ []) (neither p) a b c l e ea eb ec = absurd (omega (arith, ap length e))

-- tick and delay are the optionals after the reading
module _ (rs : List Row) (k : Kinds rs) (n : length rs ≡ 3) where
  placed_rest : (ps : List Piece) → Level [] (optional_members guard_table 3) 0 ps → skipped_pieces ps ≡ 0 → (a : Row) → a.place ≡ 6 → rs ≡ a ∷ piece_rows guard_table 3 8 ps → places rs ≡ 6 ∷ 9 ∷ 18 ∷ []
  placed_rest [] L z a w e = absurd (omega (arith, n, ap length e, no_row 8))
  placed_rest (required i b ∷ ps) L z a w e = absurd L
  placed_rest (skipped t j b ∷ ps) L z a w e = absurd (skipped_some t j b ps z)
  placed_rest (optional t f c ∷ []) L z a w e = absurd (omega (arith, n, ap length e, one_row 8 (optional t f c) L.0.member (optional_found t f c _ L.0.found)))
  placed_rest (optional t f c ∷ required i b ∷ ps) L z a w e = absurd L.1
  placed_rest (optional t f c ∷ skipped u j b ∷ ps) L z a w e = absurd (skipped_some u j b ps (skipped_later t f c (skipped u j b ∷ ps) z))
  placed_rest (optional t f c ∷ optional u g d ∷ ps) L z a w e =
      let x = L.0.member in
      let y = L.1.0.member in
      let X = tagged t x f c L.0.found L.0.form L.0.one in
      let Y = tagged u y g d L.1.0.found L.1.0.form L.1.0.one in
      let o = 8 + length (piece_bytes (optional t f c)) in
      three_placed rs k a (row_of 8 (optional t f c) x) (row_of o (optional u g d) y) (piece_rows guard_table 3 (o + length (piece_bytes (optional u g d))) ps)
      (e
      ∙ ap (λ (l : List Row). a ∷ l)
      (row_here 8 (optional t f c) (optional u g d ∷ ps) x (optional_found t f c x L.0.found)
      ∙ ap (λ (l : List Row). row_of 8 (optional t f c) x ∷ l) (row_here o (optional u g d) ps y (optional_found u g d y L.1.0.found))))
      w (omega (arith, X.front)) (λ q. omega (arith, X.front, Y.front, X.tick q, optional_long t f c))

  placed_list : (ps : List Piece) → Level (reading_member ∷ []) (optional_members guard_table 3) 0 ps → skipped_pieces ps ≡ 0 → rs ≡ piece_rows guard_table 3 6 ps → places rs ≡ 6 ∷ 9 ∷ 18 ∷ []
  placed_list [] L z e = absurd L
  placed_list (optional t f b ∷ ps) L z e = absurd L
  placed_list (skipped t j b ∷ ps) L z e = absurd L
  placed_list (required i b ∷ ps) L z e =
      let long : 6 + length (piece_bytes (required i b)) ≡ 8 = omega (arith, reading_long i b, num_wide short b L.1) in
      let a = row_of 6 (required i b) reading_member in
      placed_rest ps L.2 (skipped_after i b ps z) a (omega (arith, reading_front i b))
      (e ∙ row_here 6 (required i b) ps reading_member (reading_found i b L.0) ∙ ap (λ (k : ℕ). a ∷ piece_rows guard_table 3 k ps) long)

kind_is : kind guard_table 3 ≡ 15
unfolding computed guard_table
kind_is = refl

-- the table has optionals, which 1.0 does not allow
no_old_lem : WithoutOptionals guard_table 3 → ⊥
unfolding computed guard_table
no_old_lem W =
    let four : types guard_table ≡ 4 = refl in
    let z : ◌≡◌ {A = ℕ} 2 0 = ap length (W 3 (omega (arith, four)) (a_base refl)) in
    omega arith

placed : (f : Encoding) (p : Pieces) → Conform guard_table 3 f p → optionals_skipped p ≡ 0 → (rs : List Row) → Kinds rs → length rs ≡ 3 → rs ≡ rows guard_table 3 f p → places rs ≡ 6 ∷ 9 ∷ 18 ∷ []
unfolding rows optionals_skipped
placed (v11 g) (list ps) C z rs k n e = placed_list rs k n ps (subst (λ (ms : List Member). Level ms (optional_members guard_table 3) 0 ps) reading_is C.2) z e
placed v10 (list ps) C z rs k n e = absurd (no_old_lem C.1)
placed v10 (exception ss) C z rs k n e = absurd (omega (arith, kind_is, C.0))
placed v10 (class ss) C z rs k n e = absurd C
placed (v11 g) (exception ss) C z rs k n e = absurd (omega (arith, kind_is, C.0))
placed (v11 g) (class ss) C z rs k n e = absurd (omega (arith, kind_is, C.0))

plain_places : (m : List ℕ) → Bytes m → (reading guard_table 3 m 36).refusal ≡ 0 → length (reading guard_table 3 m 36).rows ≡ 3 → (reading guard_table 3 m 36).optionals ≡ 0
    → places (reading guard_table 3 m 36).rows ≡ 6 ∷ 9 ∷ 18 ∷ []
plain_places m y h n z =
    let R = (promises.reads guard_table 3 m 36 y).0 h in
    let A = (promises.reads guard_table 3 m 36 y).1 R.0 R.1 R.2 in
    placed R.0 R.1 R.2.follows.conforms (sym A.optionals ∙ z) (reading guard_table 3 m 36).rows (accepts m y h).kinds n A.all_listed

plain : (m : List ℕ) (rs : List Row) → Accepts m rs → places rs ≡ 6 ∷ 9 ∷ 18 ∷ [] → heard_of m rs ≡ numbers_at m 6 9 18
plain m rs A e = go rs A.kinds A.exact e
  where
    go : (rs : List Row) → Kinds rs → All (RowExact guard_table m A.encoding) rs → places rs ≡ 6 ∷ 9 ∷ 18 ∷ [] → heard_of m rs ≡ numbers_at m 6 9 18
    go [] x4 x e = elim x4 [ ]
    go (a ∷ (b ∷ (c ∷ (_ ∷ _)))) x19 x e = elim x19 [ ]
    go (a ∷ b ∷ c ∷ []) (whole p q r) x e =
        let ea : a.place ≡ 6 = cc in
        let eb : b.place ≡ 9 = cc in
        let ec : c.place ≡ 18 = cc in
        whole_heard m A.encoding a b c p q r x ∙ rw (ea, eb, ec)
    go (a ∷ b ∷ []) (no_delay p q) x e = absurd (omega (arith, ap length e))
    go (a ∷ c ∷ []) (no_tick p q) x e = absurd (omega (arith, ap length e))
    go (a ∷ []) (neither p) x e = absurd (omega (arith, ap length e))

-- ---- the reader's answer as the code has it

answer_accepted : (x : Answer) (t g n o s : ℕ) → reading_of x ≡ Accepted t g n o s → (x.refusal ≡ 0) × (n ≡ length x.rows) × (o ≡ x.optionals)
unfolding reading_of
answer_accepted x t g n o s h = go (eqb x.refusal 0) refl h
  where
    go : (b : Bool) → eqb x.refusal 0 ≡ b → pick b (Accepted x.type x.format (length x.rows) x.optionals x.slices) (Refused x.refusal x.place) ≡ Accepted t g n o s
        → (x.refusal ≡ 0) × (n ≡ length x.rows) × (o ≡ x.optionals)
    go true w k = (eqb-true _ _ w, cc, cc)
    go false w k = let z : ◌≡◌ {A = ℕ} 0 1 = cc in absurd (omega arith)

answer_refused : (m : List ℕ) (x : Answer) (c p : ℕ) → reading_of x ≡ Refused c p → refuse c p ≡ answered m x
unfolding reading_of answered
answer_refused m x c p h = go (eqb x.refusal 0) refl h
  where
    go : (b : Bool) → eqb x.refusal 0 ≡ b → pick b (Accepted x.type x.format (length x.rows) x.optionals x.slices) (Refused x.refusal x.place) ≡ Refused c p
        → refuse c p ≡ answered m x
    go true w k = let z : ◌≡◌ {A = ℕ} 0 1 = cc in absurd (omega arith)
    go false w k = let e : c ≡ x.refusal = cc in let f : p ≡ x.place = cc in rw (w, e, f)

module _ (m : List ℕ) (a : Reading) (e : a ≡ reading_of (reading guard_table 3 m 36)) where
  heard_is : (reading guard_table 3 m 36).refusal ≡ 0 → report_of m ≡ heard_of m (reading guard_table 3 m 36).rows
  unfolding report_of answered
  heard_is h = rw (eq-eqb (reading guard_table 3 m 36).refusal 0 h)

  module _ (y : Bytes m) (t g n o s : ℕ) (q : a ≡ Accepted t g n o s) where
    pub report_full : n ≡ 3 → (lent kept : List ℕ) → kept ≡ listed (reading guard_table 3 m 36) lent → (h : Heard) → h ≡ fields_at m kept → h ≡ report_of m
    unfolding listed
    report_full w lent kept l h k =
        let A = answer_accepted (reading guard_table 3 m 36) t g n o s (sym e ∙ q) in
        k ∙ full m kept _ (reading guard_table 3 m 36).rows (accepts m y A.0) (sym A.1 ∙ w) l ∙ sym (heard_is A.0)

    pub report_plain : n ≡ 3 → o ≡ 0 → (h : Heard) → h ≡ numbers_at m 6 9 18 → h ≡ report_of m
    report_plain w z h k =
        let A = answer_accepted (reading guard_table 3 m 36) t g n o s (sym e ∙ q) in
        k ∙ sym (heard_is A.0 ∙ plain m (reading guard_table 3 m 36).rows (accepts m y A.0) (plain_places m y A.0 (sym A.1 ∙ w) (sym A.2 ∙ z)))

    pub report_partial : (n ≡ 3 → ⊥) → refuse 42 0 ≡ report_of m
    report_partial w =
        let A = answer_accepted (reading guard_table 3 m 36) t g n o s (sym e ∙ q) in
        sym (heard_is A.0 ∙ partial m (reading guard_table 3 m 36).rows (accepts m y A.0).kinds (λ z. w (A.1 ∙ z)))

  pub report_refused : (c p : ℕ) → a ≡ Refused c p → refuse c p ≡ report_of m
  unfolding report_of
  report_refused c p q = answer_refused m (reading guard_table 3 m 36) c p (sym e ∙ q)
