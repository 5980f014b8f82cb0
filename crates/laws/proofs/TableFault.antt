-- Which rule is the first broken one, and where it is (`TableFault`): each pass stops at its first row with a true test, and the class of that test says what is wrong with the row.
--
--   Stops                      a pass stops at a row: no test of the rows before it is true, one of its own is
--   pass_stops, stops_pass     a pass that ends in a fault stops, and back; stops_at: at a given row
--   header-, type-, list-, entries-, sum-, member_fault   what is wrong where a pass ends in a fault
--   first_broken, broken_first, table_fault   the two directions, and both
--   fault_class                the number of a broken rule is 31 to 39
use Rattle.std.specs.Prelude.{◌≡◌, Bool, true, false, List, [], ◌∷◌, ℕ, zero, suc, ◌+◌, ◌≤◌, ◌<◌, eqb}
use Rattle.std.proofs.Math.Path.{refl, sym}
use Rattle.std.proofs.Common.{ap, ◌∙◌, arith}
use Rattle.std.proofs.Math.Logic.{⊎_elim}
use Rattle.std.proofs.Math.Decide.{ℕ_discrete}
use borrow.Author.Tests.{eqb-true, eq-eqb, ne_eqb}
use Rattle.encoding.specs.Result.{pick, first_of}
use Rattle.encoding.specs.Message.{greatest_refusal}
use Rattle.encoding.specs.Table.{types, members, entries, row_at, member_at, range, Fault, fine, fault, or_else, fault_at, header_tests, header_rules, taken, type_rules, entries_taken, allowed_rules, entries_rules, sum_rules, member_rules, pass, passes, faults}
use Rattle.encoding.proofs.RuleLaws.{type_pass, list_pass, member_pass, pass_fine, entries_right, sum_right, or_else_fault, fault_at_place}
use Rattle.encoding.specs.Valid.{ValidHeader, BrokenType, wrong_zeros, unknown_kind, wrong_reference, out_of_turn, empty_struct, wrong_name, great_enumerator, BrokenMember, wrong_spare, wrong_type, wrong_mark, wrong_tag, TakenBefore, TypesValid, ListsValid, RowsValid, FirstBroken, in_header, in_type, in_list, in_entries, in_sum, in_member}
use Rattle.laws.specs.Demands.{TableFault}
use Rattle.laws.proofs.TableExact.{InTurn, header_ok, header_step, type_ok, type_step, type_broken, broken_type, list_ok, list_step, list_broken, broken_list, taken_ok, taken_step, entries_ok, entries_step, owned, owned_taken, member_ok, member_step, member_broken, broken_member, turned, rules_turned, lists_turned, list_rules_turned, pass_none}

-- ---- a pass

pub record Stops (place : ℕ → ℕ) (rules : ℕ → List (ℕ × Bool)) (i k c p : ℕ) : Type 0 where
  pub row : ℕ
  pub from : i ≤ row
  pub to : row < i + k
  pub before : (s : ℕ) → i ≤ s → s < row → first_of (rules s) ≡ 0
  pub broken : first_of (rules row) ≡ c
  pub some : 0 < c
  pub at : p ≡ place row

fault≢fine : {c p : ℕ} → fault c p ≡ fine → ⊥
fault≢fine h = let z : ◌≡◌ {A = ℕ} 0 1 = cc in omega arith

pass_stops : (place : ℕ → ℕ) (rules : ℕ → List (ℕ × Bool)) (i k c p : ℕ) → pass place rules (range i k) ≡ fault c p → Stops place rules i k c p
unfolding pass range fault_at or_else
pass_stops place rules i zero c p h = absurd (fault≢fine (sym h))
pass_stops place rules i (suc k) c p h = go (first_of (rules i)) refl h (λ e. pass_stops place rules (suc i) k c p e)
  where
    go : (n : ℕ) → first_of (rules i) ≡ n → or_else (fault_at (place i) n) (pass place rules (range (suc i) k)) ≡ fault c p
        → (pass place rules (range (suc i) k) ≡ fault c p → Stops place rules (suc i) k c p) → Stops place rules i (suc k) c p
    go zero e h ih =
        let S = ih h in
        record {
          row = S.row;
          from = omega (arith, S.from);
          to = omega (arith, S.to);
          before = λ s l m. elim (ℕ_discrete i s) [ yes q ↦ ap (λ (x : ℕ). first_of (rules x)) (sym q) ∙ e | no q ↦ S.before s (omega (arith, q)) m ];
          broken = S.broken;
          some = S.some;
          at = S.at;
        }
    go (suc n) e h ih =
        let same : c ≡ suc n = cc in
        record { row = i; from = omega arith; to = omega arith; before = λ s l m. absurd (omega arith); broken = e ∙ sym same; some = omega arith; at = cc }

-- a fault of a class other than 0 is one
fault_at_lem : (place n c p : ℕ) (g : Fault) → n ≡ c → 0 < c → p ≡ place → or_else (fault_at place n) g ≡ fault c p
unfolding fault_at or_else
fault_at_lem place zero c p g e l q = absurd (omega arith)
fault_at_lem place (suc n) c p g e l q = cc

stops_pass : (place : ℕ → ℕ) (rules : ℕ → List (ℕ × Bool)) (i k c p : ℕ) → Stops place rules i k c p → pass place rules (range i k) ≡ fault c p
unfolding pass range fault_at or_else
stops_pass place rules i zero c p S = absurd (omega (arith, S.from, S.to))
stops_pass place rules i (suc k) c p S =
    elim (ℕ_discrete i S.row) [
      | yes e ↦ fault_at_lem (place i) (first_of (rules i)) c p _ (ap (λ (x : ℕ). first_of (rules x)) e ∙ S.broken) S.some (S.at ∙ ap place (sym e))
      | no e ↦ rw (S.before i (omega arith) (omega (arith, e, S.from))) (stops_pass place rules (suc i) k c p (record {
        row = S.row;
        from = omega (arith, e, S.from);
        to = omega (arith, S.to);
        before = λ s l m. S.before s (omega arith) m;
        broken = S.broken;
        some = S.some;
        at = S.at;
      }))
    ]

-- a row of class c, and all before it without a true test
stops_at : (place : ℕ → ℕ) (rules : ℕ → List (ℕ × Bool)) (k r c : ℕ) → r < k → ((s : ℕ) → s < r → first_of (rules s) ≡ 0) → first_of (rules r) ≡ c → 0 < c
    → pass place rules (range 0 k) ≡ fault c (place r)
stops_at place rules k r c l before broken some =
    stops_pass place rules 0 k c (place r) (record {
      row = r;
      from = omega arith;
      to = omega arith;
      before = λ s _ m. before s m;
      broken = broken;
      some = some;
      at = refl;
    })

-- ---- the classes

type_number : {T : List ℕ} {t c : ℕ} → BrokenType T t c → (31 ≤ c) × (c ≤ greatest_refusal)
type_number (wrong_zeros n) = (omega arith, omega arith)
type_number (unknown_kind z n) = (omega arith, omega arith)
type_number (wrong_reference z k n) = (omega arith, omega arith)
type_number (out_of_turn z k r n) = (omega arith, omega arith)
type_number (empty_struct z k r i n) = (omega arith, omega arith)
type_number (wrong_name z k r i f n) = (omega arith, omega arith)
type_number (great_enumerator z k r i f m n) = (omega arith, omega arith)

member_number : {T : List ℕ} {o m c : ℕ} → BrokenMember T o m c → (31 ≤ c) × (c ≤ greatest_refusal)
member_number (wrong_spare n) = (omega arith, omega arith)
member_number (wrong_type z n) = (omega arith, omega arith)
member_number (wrong_mark z p n) = (omega arith, omega arith)
member_number (wrong_tag z p k n) = (omega arith, omega arith)

-- the class of the first broken rule is 31 to 39
pub broken_class : {T : List ℕ} {c p : ℕ} → FirstBroken T c p → (31 ≤ c) × (c ≤ greatest_refusal)
broken_class (in_header n e q) = (omega arith, omega arith)
broken_class (in_type H t l R n q) = type_number n
broken_class (in_list H R t l L n e q) = (omega arith, omega arith)
broken_class (in_entries H R L n e q) = (omega arith, omega arith)
broken_class (in_sum B n e q) = (omega arith, omega arith)
broken_class (in_member B A o m own before n q) = member_number n

-- every test of a list has class k
abbrev WhereTrue : Bool → Type 0 → Type 0
WhereTrue true X = X
WhereTrue false X = ⊥

abbrev AllOf : ℕ → List (ℕ × Bool) → Type 0
AllOf k [] = Unit {0}
AllOf k (r ∷ rs) = WhereTrue (eqb r.0 k) (AllOf k rs)

one_class : (k : ℕ) (l : List (ℕ × Bool)) → AllOf k l → (n : ℕ) → first_of l ≡ n → 0 < n → n ≡ k
unfolding first_of
one_class k [] A n h l = absurd (omega arith)
one_class k (r ∷ rs) A n h l = go (eqb r.0 k) refl r.1 A h (λ B e. one_class k rs B n e l)
  where
    go : (a : Bool) → eqb r.0 k ≡ a → (b : Bool) → WhereTrue a (AllOf k rs) → pick b r.0 (first_of rs) ≡ n → (AllOf k rs → first_of rs ≡ n → n ≡ k) → n ≡ k
    go true ea true A e ih = sym e ∙ eqb-true r.0 k ea
    go true ea false A e ih = ih A e
    go false ea b A e ih = absurd A

header_class : (T : List ℕ) (n : ℕ) → first_of (header_tests T) ≡ n → 0 < n → n ≡ 31
unfolding header_tests
header_class T n h l = one_class 31 (header_tests T) tt n h l

list_class : (T : List ℕ) (t n : ℕ) → first_of (allowed_rules T t) ≡ n → 0 < n → n ≡ 39
unfolding allowed_rules
list_class T t n h l = one_class 39 (allowed_rules T t) tt n h l

-- a judgement alone, at 0
alone_class : (b : Bool) (k c : ℕ) → pick b 0 k ≡ c → 0 < c → c ≡ k
alone_class true k c e l = absurd (omega arith)
alone_class false k c e l = sym e

fault_at_class : (place n c p : ℕ) → fault_at place n ≡ fault c p → (n ≡ c) × (0 < c)
unfolding fault_at
fault_at_class place zero c p h = absurd (fault≢fine (sym h))
fault_at_class place (suc n) c p h = let e : suc n ≡ c = cc in (e, omega arith)

-- ---- from a fault to what is not valid

module _ (T : List ℕ) where
  header_fault : (c p : ℕ) → header_rules T ≡ fault c p → FirstBroken T c p
  unfolding header_rules
  header_fault c p e =
      let k = fault_at_class 0 (first_of (header_tests T)) c p e in
      in_header (λ H. fault≢fine (sym e ∙ header_step T H)) (header_class T c k.0 k.1) (fault_at_place 0 (first_of (header_tests T)) c p e)

  module _ (H : ValidHeader T) where
    type_fault : (c p : ℕ) → type_pass T ≡ fault c p → FirstBroken T c p
    type_fault c p e =
        let S = pass_stops (row_at T) (type_rules T) 0 (types T) c p e in
        let turn = rules_turned T S.row (λ t l. S.before t (omega arith) l) in
        in_type H S.row (omega (arith, S.to))
        (λ t l. type_ok T t (λ r m. turn r (omega arith)) (S.before t (omega arith) l))
        (type_broken T S.row turn c S.broken S.some) S.at

    list_fault : TypesValid T (types T) → (c p : ℕ) → list_pass T ≡ fault c p → FirstBroken T c p
    list_fault R c p e =
        let S = pass_stops (row_at T) (allowed_rules T) 0 (types T) c p e in
        let turn = list_rules_turned T S.row (λ t l. S.before t (omega arith) l) in
        in_list H R S.row (omega (arith, S.to))
        (λ t l. list_ok T t (λ r m. turn r (omega arith)) (S.before t (omega arith) l))
        (list_broken T S.row turn (omega (arith, S.broken, S.some))) (list_class T S.row c S.broken S.some) S.at

    entries_fault : TypesValid T (types T) → ListsValid T (types T) → (c p : ℕ) → entries_rules T ≡ fault c p → FirstBroken T c p
    unfolding entries_rules fault_at
    entries_fault R L c p e =
        let k = fault_at_class 0 (pick (eqb (entries_taken T (types T)) (entries T)) 0 39) c p e in
        in_entries H R L (λ A. fault≢fine (sym e ∙ rw (eq-eqb (entries_taken T (types T)) (entries T) (sym (entries_ok T (types T) (entries T) (lists_turned T (types T) L) A)))))
        (alone_class (eqb (entries_taken T (types T)) (entries T)) 39 c k.0 k.1)
        (fault_at_place 0 (pick (eqb (entries_taken T (types T)) (entries T)) 0 39) c p e)

  module _ (B : RowsValid T) where
    turn : InTurn T (types T)
    turn = turned T (types T) B.type

    sum_fault : (c p : ℕ) → sum_rules T ≡ fault c p → FirstBroken T c p
    unfolding sum_rules fault_at
    sum_fault c p e =
        let k = fault_at_class 0 (pick (eqb (taken T (types T)) (members T)) 0 35) c p e in
        in_sum B (λ A. fault≢fine (sym e ∙ rw (eq-eqb (taken T (types T)) (members T) (sym (taken_ok T (types T) (members T) turn A)))))
        (alone_class (eqb (taken T (types T)) (members T)) 35 c k.0 k.1)
        (fault_at_place 0 (pick (eqb (taken T (types T)) (members T)) 0 35) c p e)

    member_fault : TakenBefore T (types T) (members T) → (c p : ℕ) → member_pass T ≡ fault c p → FirstBroken T c p
    member_fault A c p e =
        let S = pass_stops (member_at T) (member_rules T) 0 (members T) c p e in
        let w = owned T turn (types T) S.row (omega arith) (omega (arith, S.to, taken_ok T (types T) (members T) turn A)) in
        in_member B A w.0 S.row w.1
        (λ q i l own. member_ok T turn q i own (S.before i (omega arith) l))
        (member_broken T turn w.0 S.row w.1 c S.broken S.some) S.at

  -- one pass after another
  first_broken : (c p : ℕ) → faults T ≡ fault c p → FirstBroken T c p
  unfolding faults passes
  first_broken c p h = ⊎_elim (λ e. header_fault c p e) (λ e. after_header (header_ok T e.0) e.1) (or_else_fault (header_rules T) _ c p h)
    where
      after_sum : RowsValid T → TakenBefore T (types T) (members T) → passes (member_pass T ∷ []) ≡ fault c p → FirstBroken T c p
      after_sum B A h = ⊎_elim (λ e. member_fault B A c p e) (λ e. absurd (fault≢fine (sym e.1))) (or_else_fault (member_pass T) fine c p h)

      after_entries : RowsValid T → passes (sum_rules T ∷ member_pass T ∷ []) ≡ fault c p → FirstBroken T c p
      after_entries B h =
          ⊎_elim (λ e. sum_fault B c p e) (λ e. after_sum B (taken_step T (types T) (members T) (turn B) (sym (sum_right T e.0))) e.1) (or_else_fault (sum_rules T) _ c p h)

      after_lists : ValidHeader T → TypesValid T (types T) → ListsValid T (types T) → passes (entries_rules T ∷ sum_rules T ∷ member_pass T ∷ []) ≡ fault c p → FirstBroken T c p
      after_lists H R L h =
          ⊎_elim (λ e. entries_fault H R L c p e) (λ e. after_entries (record {
            header = H;
            type = R;
            list = L;
            all_listed = entries_step T (types T) (entries T) (lists_turned T (types T) L) (sym (entries_right T e.0));
          }) e.1) (or_else_fault (entries_rules T) _ c p h)

      after_types : ValidHeader T → TypesValid T (types T) → passes (list_pass T ∷ entries_rules T ∷ sum_rules T ∷ member_pass T ∷ []) ≡ fault c p → FirstBroken T c p
      after_types H R h = ⊎_elim (λ e. list_fault H R c p e) (λ e. after_lists H R (lists_valid e.0) e.1) (or_else_fault (list_pass T) _ c p h)
        where
          lists_valid : list_pass T ≡ fine → ListsValid T (types T)
          lists_valid e t l =
              let right : (r : ℕ) → r < types T → first_of (allowed_rules T r) ≡ 0 = λ r m. pass_fine (row_at T) (allowed_rules T) 0 (types T) e r (omega arith) (omega arith) in
              list_ok T t (λ r m. list_rules_turned T (types T) right r (omega arith)) (right t l)

      after_header : ValidHeader T → passes (type_pass T ∷ list_pass T ∷ entries_rules T ∷ sum_rules T ∷ member_pass T ∷ []) ≡ fault c p → FirstBroken T c p
      after_header H h = ⊎_elim (λ e. type_fault H c p e) (λ e. after_types H (types_valid e.0) e.1) (or_else_fault (type_pass T) _ c p h)
        where
          types_valid : type_pass T ≡ fine → TypesValid T (types T)
          types_valid e t l =
              let right : (r : ℕ) → r < types T → first_of (type_rules T r) ≡ 0 = λ r m. pass_fine (row_at T) (type_rules T) 0 (types T) e r (omega arith) (omega arith) in
              type_ok T t (λ r m. rules_turned T (types T) right r (omega arith)) (right t l)

  -- ---- and back

  types_fine : TypesValid T (types T) → type_pass T ≡ fine
  types_fine R = pass_none (row_at T) (type_rules T) 0 (types T) (λ t _ l. type_step T t (λ r m. turned T (types T) R r (omega arith)) (R t (omega arith)))

  lists_fine : ListsValid T (types T) → list_pass T ≡ fine
  lists_fine L = pass_none (row_at T) (allowed_rules T) 0 (types T) (λ t _ l. list_step T t (λ r m. lists_turned T (types T) L r (omega arith)) (L t (omega arith)))

  -- what the rules find where all before the member sum is valid
  rows_fine : RowsValid T → faults T ≡ passes (sum_rules T ∷ member_pass T ∷ [])
  unfolding faults passes entries_rules or_else fault_at
  rows_fine B =
      rw (
        header_step T B.header,
        types_fine B.type,
        lists_fine B.list,
        eq-eqb (entries_taken T (types T)) (entries T) (sym (entries_ok T (types T) (entries T) (lists_turned T (types T) B.list) B.all_listed)),
      )

  broken_first : (c p : ℕ) → FirstBroken T c p → faults T ≡ fault c p
  unfolding faults passes header_rules entries_rules sum_rules or_else fault_at
  broken_first c p (in_header broken k q) =
      let some : first_of (header_tests T) ≡ 0 → ⊥ = λ z. broken (header_ok T (ap (fault_at 0) z)) in
      fault_at_lem 0 (first_of (header_tests T)) c p _ (header_class T (first_of (header_tests T)) refl (omega (arith, some)) ∙ sym k) (omega arith) q
  broken_first c p (in_type H t l R broken q) =
      let turn = turned T t R in
      rw (header_step T H, stops_at (row_at T) (type_rules T) (types T) t c l (λ s m. type_step T s (λ r k. turn r (omega arith)) (R s m)) (broken_type T t turn c broken) (omega (arith, (type_number broken).0)), q)
  broken_first c p (in_list H R t l L broken k q) =
      let turn = lists_turned T t L in
      rw (header_step T H, types_fine R, stops_at (row_at T) (allowed_rules T) (types T) t c l (λ s m. list_step T s (λ r k. turn r (omega arith)) (L s m)) (broken_list T t turn broken ∙ sym k) (omega arith), q)
  broken_first c p (in_entries H R L broken k q) =
      let turn = lists_turned T (types T) L in
      rw (header_step T H, types_fine R, lists_fine L, ne_eqb (entries_taken T (types T)) (entries T) (λ e. broken (entries_step T (types T) (entries T) turn (sym e))), k, q)
  broken_first c p (in_sum B broken k q) =
      rows_fine B ∙ rw (ne_eqb (taken T (types T)) (members T) (λ e. broken (taken_step T (types T) (members T) (turn B) (sym e))), k, q)
  broken_first c p (in_member B A o m own before broken q) =
      let sum = taken_ok T (types T) (members T) (turn B) A in
      let earlier : (s : ℕ) → s < m → first_of (member_rules T s) ≡ 0 = λ s l.
      let w = owned T (turn B) (types T) s (omega arith) (omega (arith, owned_taken T (turn B) o m own)) in
      member_step T (turn B) w.0 s w.1 (before w.0 s l w.1) in
      rows_fine B
      ∙ rw (
        eq-eqb (taken T (types T)) (members T) (sym sum),
        stops_at (member_at T) (member_rules T) (members T) m c (omega (arith, sum, owned_taken T (turn B) o m own)) earlier (broken_member T (turn B) o m own c broken) (omega (arith, (member_number broken).0)),
        q,
      )

pub table_fault : TableFault
table_fault T c p = (first_broken T c p, broken_first T c p)

pub fault_class : (T : List ℕ) (c p : ℕ) → faults T ≡ fault c p → (31 ≤ c) × (c ≤ greatest_refusal)
fault_class T c p e = broken_class (first_broken T c p e)
