-- Rows are read back from the 12 bytes of each in a list.
-- A number of a row fits 32 bits: a row lies in the message, and its member is one of the table's, since no bytes are a value of a member that is not.
--
--   SmallRow              the numbers of a row
--   rows_back             rows at the start of a list are read back from it
--   accepted_rows_small   of every message that the rules accept
use Rattle.std.specs.Prelude.{◌≡◌, refl, Bool, true, false, List, [], ◌∷◌, ◌++◌, map, ℕ, suc, ◌+◌, ◌*◌, ◌≤◌, ◌<◌, length, take, ltb}
use Rattle.std.proofs.Common.{ap, ap₂, ◌∙◌, subst, append_assoc, arith, length-append, take_at, drop_at, ltb-true, ltb-false}
use Rattle.encoding.specs.Result.{ok, concat}
use Rattle.encoding.specs.Number.{Bytes, val, le_bytes}
use Rattle.encoding.proofs.NumberLaws.{length_le_bytes, val_le_bytes}
use Rattle.encoding.specs.Types.{Ty, broken}
use Rattle.encoding.specs.Grammar.{IsValue}
use Rattle.encoding.specs.Table.{at, members, member_ty, trees, range, fine, faults}
use Rattle.encoding.proofs.TableLaws.{member_past}
use Rattle.encoding.proofs.RuleLaws.{members_most}
use Rattle.encoding.specs.Old.{as_old, type_as}
use Rattle.encoding.specs.Message.{Pieces, Encoding, is_old, limit, rules, Row, rows, row_bytes}
use Rattle.encoding.proofs.MessageLaws.{length_row}
use Rattle.encoding.specs.Write.{row_at}
use Rattle.laws.specs.Demands.{read_as, All, end, more, RowExact}
use Rattle.laws.proofs.TableExact.{sound}
use Rattle.laws.proofs.MessageExact.{exact_message, exact_rows}

pub record SmallRow (r : Row) : Type 0 where
  pub member : r.member ≤ limit
  pub place : r.place ≤ limit
  pub len : r.len ≤ limit

-- ---- rows as bytes

number_at : (u w v : List ℕ) (i : ℕ) → length u ≡ i → length w ≡ 4 → at (u ++ (w ++ v)) 4 i ≡ val w
unfolding at
number_at u w v i e l = ap val (ap (take 4) (drop_at u (w ++ v) i e) ∙ take_at w v 4 l)

row_at_lem : (u v : List ℕ) (r : Row) (k : ℕ) → length u ≡ 12 * k → SmallRow r → row_at (u ++ (row_bytes r ++ v)) k ≡ r
unfolding row_at row_bytes
row_at_lem u v r k e S =
    ap₂ (λ (m p : ℕ). record { member = m; place = p; len = at x 4 (12 * k + 8) }) one two
    ∙ ap (λ (l : ℕ). record { member = r.member; place = r.place; len = l }) three
  where
    a : List ℕ
    a = le_bytes 4 r.member

    b : List ℕ
    b = le_bytes 4 r.place

    c : List ℕ
    c = le_bytes 4 r.len

    x : List ℕ
    x = u ++ (a ++ b ++ c ++ v)

    one : at x 4 (12 * k) ≡ r.member
    one =
        ap (λ (z : List ℕ). at z 4 (12 * k)) (simp append_assoc)
        ∙ number_at u a (b ++ (c ++ v)) (12 * k) e (length_le_bytes 4 r.member) ∙ val_le_bytes 4 r.member (omega (arith, S.member))

    two : at x 4 (12 * k + 4) ≡ r.place
    two =
        ap (λ (z : List ℕ). at z 4 (12 * k + 4)) (simp append_assoc)
        ∙ number_at (u ++ a) b (c ++ v) (12 * k + 4) (omega (arith, length-append u a, length_le_bytes 4 r.member)) (length_le_bytes 4 r.place) ∙ val_le_bytes 4 r.place (omega (arith, S.place))

    three : at x 4 (12 * k + 8) ≡ r.len
    three =
        ap (λ (z : List ℕ). at z 4 (12 * k + 8)) (simp append_assoc)
        ∙ number_at (u ++ (a ++ b)) c v (12 * k + 8) (omega (arith, length-append u (a ++ b), length-append a b, length_le_bytes 4 r.member, length_le_bytes 4 r.place)) (length_le_bytes 4 r.len) ∙ val_le_bytes 4 r.len (omega (arith, S.len))

rows_behind : {rs : List Row} → All SmallRow rs → (x u v : List ℕ) (k : ℕ) → x ≡ u ++ (concat row_bytes rs ++ v) → length u ≡ 12 * k → map (row_at x) (range k (length rs)) ≡ rs
unfolding concat range
rows_behind end x u v k e l = refl
rows_behind (more {a = r} {l = rs} S L) x u v k e l =
    ap₂ (λ (y : Row) (ys : List Row). y ∷ ys)
    (ap (λ (z : List ℕ). row_at z k) (e ∙ ap (λ (z : List ℕ). u ++ z) (append_assoc (row_bytes r) (concat row_bytes rs) v)) ∙ row_at_lem u (concat row_bytes rs ++ v) r k l S)
    (rows_behind L x (u ++ row_bytes r) v (suc k) (e ∙ simp append_assoc) (omega (arith, length-append u (row_bytes r), length_row r)))

pub rows_back : {rs : List Row} → All SmallRow rs → (x v : List ℕ) → x ≡ concat row_bytes rs ++ v → map (row_at x) (range 0 (length rs)) ≡ rs
rows_back L x v e = rows_behind L x [] v 0 e refl

-- ---- the rows of an accepted message

-- no bytes are a value of a member that the table has not
member_there : (T : List ℕ) (old : Bool) (m : ℕ) (b : List ℕ) → IsValue (type_as old (member_ty T (trees T) m)) b → m < members T
unfolding IsValue as_old
member_there T old m b w = go (ltb m (members T)) refl
  where
    none : (old : Bool) → IsValue (type_as old broken) b → ⊥
    none true w = w
    none false w = w

    go : (q : Bool) → ltb m (members T) ≡ q → m < members T
    go true e = ltb-true m (members T) e
    go false e =
        absurd (none old (subst (λ (t : Ty). IsValue (type_as old t) b) (member_past T m (trees T) (ltb-false m (members T) e)) w))

rows_small : (T : List ℕ) → faults T ≡ fine → (m : List ℕ) → length m ≤ limit → (f : Encoding) {rs : List Row} → All (RowExact T m f) rs → All SmallRow rs
rows_small T right m h f end = end
rows_small T right m h f (more {a = r} E L) =
    let b = member_there T (is_old f) r.member _ E.one in
    more {a = r} (record { member = omega (arith, members_most T right, b); place = omega (arith, E.inside); len = omega (arith, E.inside) }) (rows_small T right m h f L)

pub accepted_rows_small : (T : List ℕ) (top : ℕ) (m : List ℕ) (f : Encoding) (p : Pieces) (n : ℕ) → Bytes m → rules T top m ≡ ok (read_as f p) n → All SmallRow (rows T top f p)
accepted_rows_small T top m f p n y h =
    let E = ((exact_message T top m f p n y).0 h).0 in
    rows_small T (sound T E.table) m E.short f (exact_rows T top m f p n y h)
