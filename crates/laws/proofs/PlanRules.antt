-- The plan of a type under a table that breaks no rule: each slot finds its member, no two slots have one member row.
--
--   all_any, all_with         what holds of all of a list
--   Owner T t                 row t is there and takes member rows
--   Fit T s                   a slot's member belongs to its owner and is found there by its key
--   slots_owner, plan_owner   the owners of slots
--   owner_ordered             the optionals of an owner differ in row and tag
--   optional_fit, slots_fit   the slots of an owner
--   top_step                  a row of a kind from 13 on is a top; top_owner: it takes member rows
--   base_record, list_chain   only a record has a base; a parameter list is its own chain
--   Rung, Falls               a chain has rows of one kind, each smaller than the one before: chain_rungs, chain_falls, chain_owners, chain_above
--   chain_top                 a top from which a type descends is a row of the type's chain
--   plan_fit, plan_differ     the slots of a plan
--   judging, judging_slots    judging rows for a type is the walk over the slots of its plan
use Rattle.std.specs.Prelude.{◌≡◌, Bool, ◌&&◌, ◌||◌, leb}
use Rattle.std.proofs.Math.Path.{refl, ap, subst}
use Rattle.std.proofs.Common.{sym, ◌∙◌, ⊎_elim}
use Rattle.std.proofs.Math.Bool.{true, false, true≢false}
use Rattle.std.proofs.lemmas.Bool.{false≢true}
use Rattle.std.proofs.Math.Option.{some}
use mathlib.Core.List.{List, [], ◌∷◌, ◌++◌, map}
use Prim.Native.Nat.{ℕ, zero, suc, ◌≤◌, ◌<◌}
use native.Mathlib.Omega.{arith}
use Rattle.std.proofs.Math.Dec.{eqb}
use borrow.Author.Tests.{leb-false, eqb-true, eqb-false, eq-eqb, ne_eqb, lt-leb, le-ltb}
use Rattle.encoding.specs.Result.{pick}
use Rattle.encoding.specs.Number.{Short, negative}
use Rattle.encoding.specs.Types.{Ty}
use Rattle.encoding.specs.Table.{types, kind, field, mark, tag, is_record, owns, range, fine, faults, great, member_rules, Member, member_ty, trees, own_rows, requireds_in, optionals_in, required_members, optional_members, lookup, base, upward, chain, any}
use Rattle.encoding.proofs.RuleLaws.{member_test, kind_known, record_kind, base_right, chain_node, Own, own_later, rows_apart, rows_there, mark_known, tags_differ}
use Rattle.encoding.specs.Grammar.{ListsRise}
use Rattle.encoding.proofs.ListLaws.{member_rises}
use Rattle.encoding.specs.Message.{Row, no_top}
use Rattle.encoding.proofs.MessageLaws.{top_there}
use Rattle.encoding.specs.Write.{Slot, rising, slot, slots, plan_of, plan, Out, Given, above, begin, judge_all}
use Rattle.laws.specs.Demands.{All, end, more, UnderTop}
use Rattle.laws.proofs.RowsExact.{all_append, all_map, Found, required_found, required_typed, optional_typed}
use Rattle.laws.proofs.PlanLaws.{Pairs, alone, before, all_mapped, pairs_mapped, pairs_append, pairs_with, RowsDiffer, KeysDiffer, all_rising, rises_rising, differ_rising, from, from_zero, Ordered, future, least_zero, SlotsDiffer, judge_slots, judge_slots_lem}

pub all_any : {A : Type 0} {P : A → Type 0} → ((a : A) → P a) → (l : List A) → All P l
all_any f [] = end
all_any f (a ∷ l) = more (f a) (all_any f l)

pub all_with : {A : Type 0} {P Q S : A → Type 0} {l : List A} → ((a : A) → P a → Q a → S a) → All P l → All Q l → All S l
all_with f end end = end
all_with f (more {a} p L) (more q K) = more (f a p q) (all_with f L K)

any_among : {P : ℕ → Type 0} (r : ℕ) {l : List ℕ} → All P l → any (λ i. eqb i r) l ≡ true → P r
unfolding any
any_among r end h = absurd (false≢true h)
any_among {P} r (more {a} {l} p L) h = go (eqb a r) refl h (λ h. any_among r L h)
  where
    go : (q : Bool) → eqb a r ≡ q → q || any (λ i. eqb i r) l ≡ true → (any (λ i. eqb i r) l ≡ true → P r) → P r
    go true e h ih = subst P (eqb-true a r e) p
    go false e h ih = ih h

-- ---- the owners of members

abbrev RowsRise : Member → Member → Type 0
RowsRise a b = a.row < b.row

module _ (T : List ℕ) (l : List Ty) where
  required_placed : (i a b : ℕ) → All (Own T a b true) (requireds_in T l i (range a b))
  unfolding requireds_in range
  required_placed i a zero = end
  required_placed i a (suc b) = go (eqb (mark T a) 0) refl (all_map (λ m O. own_later O) (required_placed (suc i) (suc a) b)) (all_map (λ m O. own_later O) (required_placed i (suc a) b))
    where
      this : Member
      this = record { row = a; key = i; ty = member_ty T l a }

      go : (q : Bool) → eqb (mark T a) 0 ≡ q → All (Own T a (suc b) true) (requireds_in T l (suc i) (range (suc a) b)) → All (Own T a (suc b) true) (requireds_in T l i (range (suc a) b))
          → All (Own T a (suc b) true) (pick q (this ∷ requireds_in T l (suc i) (range (suc a) b)) (requireds_in T l i (range (suc a) b)))
      go true e K L = more {a = this} (record { from = omega arith; to = omega arith; marked = e; tagged = λ f. absurd (true≢false f) }) K
      go false e K L = L

  optional_placed : (a b : ℕ) → All (Own T a b false) (optionals_in T l (range a b))
  unfolding optionals_in range
  optional_placed a zero = end
  optional_placed a (suc b) = go (eqb (mark T a) 0) refl (all_map (λ m O. own_later O) (optional_placed (suc a) b))
    where
      this : Member
      this = record { row = a; key = tag T a; ty = member_ty T l a }

      go : (q : Bool) → eqb (mark T a) 0 ≡ q → All (Own T a (suc b) false) (optionals_in T l (range (suc a) b))
          → All (Own T a (suc b) false) (pick q (optionals_in T l (range (suc a) b)) (this ∷ optionals_in T l (range (suc a) b)))
      go true e L = L
      go false e L = more {a = this} (record { from = omega arith; to = omega arith; marked = e; tagged = λ f. refl }) L

  required_rise : (i a b : ℕ) → Pairs RowsRise (requireds_in T l i (range a b))
  unfolding requireds_in range
  required_rise i a zero = alone
  required_rise i a (suc b) = go (eqb (mark T a) 0) (required_rise (suc i) (suc a) b) (required_rise i (suc a) b)
    where
      this : Member
      this = record { row = a; key = i; ty = member_ty T l a }

      go : (q : Bool) → Pairs RowsRise (requireds_in T l (suc i) (range (suc a) b)) → Pairs RowsRise (requireds_in T l i (range (suc a) b))
          → Pairs RowsRise (pick q (this ∷ requireds_in T l (suc i) (range (suc a) b)) (requireds_in T l i (range (suc a) b)))
      go true K L = before {a = this} (all_map (λ (m : Member) (O : Own T (suc a) b true m). O.from) (required_placed (suc i) (suc a) b)) K
      go false K L = L

  optional_rise : (a b : ℕ) → Pairs RowsRise (optionals_in T l (range a b))
  unfolding optionals_in range
  optional_rise a zero = alone
  optional_rise a (suc b) = go (eqb (mark T a) 0) (optional_rise (suc a) b)
    where
      this : Member
      this = record { row = a; key = tag T a; ty = member_ty T l a }

      go : (q : Bool) → Pairs RowsRise (optionals_in T l (range (suc a) b)) → Pairs RowsRise (pick q (optionals_in T l (range (suc a) b)) (this ∷ optionals_in T l (range (suc a) b)))
      go true L = L
      go false L = before {a = this} (all_map (λ (m : Member) (O : Own T (suc a) b false m). O.from) (optional_placed (suc a) b)) L

-- members of different keys are found
found_keys : {ms : List Member} → Pairs KeysDiffer ms → All (Found ms) ms
unfolding lookup
found_keys alone = end
found_keys (before {a} {l} d D) =
    more {a = a} (rw (eq-eqb a.key a.key refl))
    (all_with (λ (x : Member) (e : KeysDiffer a x) (f : Found l x). rw (ne_eqb x.key a.key (λ q. e (sym q))) f) d (found_keys D))

-- ---- the slots of an owner

pub record Owner (T : List ℕ) (t : ℕ) : Type 0 where
  pub below : t < types T
  pub own : owns (kind T t) ≡ true

pub record Fit (T : List ℕ) (s : Slot) : Type 0 where
  pub owner_right : Owner T s.owner
  pub place : Own T (field T s.owner 0) (field T s.owner 1) s.due s.member
  pub typed : s.member.ty ≡ member_ty T (trees T) s.member.row
  pub finds : lookup s.member.key (pick s.due (required_members T s.owner) (optional_members T s.owner)) ≡ some s.member
  pub short : s.due ≡ false → Short s.member.key

-- the lists in its type rise
pub fit_rises : (T : List ℕ) → faults T ≡ fine → (s : Slot) → Fit T s → ListsRise s.member.ty
fit_rises T right s f = subst ListsRise (sym f.typed) (member_rises T right s.member.row)

module _ (T : List ℕ) (t : ℕ) where
  pub slots_owner : All (λ (s : Slot). s.owner ≡ t) (slots T t)
  unfolding slots slot
  slots_owner = all_append (all_mapped (slot t true) (all_any (λ m. refl) (required_members T t))) (all_mapped (slot t false) (all_any (λ m. refl) (rising (optional_members T t))))

  module _ (right : faults T ≡ fine) (O : Owner T t) where
    abbrev Mine : Bool → Member → Type 0
    Mine q m = Own T (field T t 0) (field T t 1) q m

    required_mine : All (Mine true) (required_members T t)
    unfolding required_members own_rows
    required_mine = required_placed T (trees T) 0 (field T t 0) (field T t 1)

    optional_mine : All (Mine false) (optional_members T t)
    unfolding optional_members own_rows
    optional_mine = optional_placed T (trees T) (field T t 0) (field T t 1)

    rows_required : Pairs RowsRise (required_members T t)
    unfolding required_members own_rows
    rows_required = required_rise T (trees T) 0 (field T t 0) (field T t 1)

    rows_optional : Pairs RowsRise (optional_members T t)
    unfolding optional_members own_rows
    rows_optional = optional_rise T (trees T) (field T t 0) (field T t 1)

    rise_differ : (a b : Member) → RowsRise a b → RowsDiffer a b
    rise_differ a b h e = omega arith

    mine_mark : (m : Member) → Mine false m → mark T m.row ≡ 1
    mine_mark m P = omega (arith, eqb-false (mark T m.row) 0 P.marked, mark_known T right t m.row O.below O.own P.from P.to)

    keys_optional : Pairs KeysDiffer (optional_members T t)
    keys_optional = pairs_with differ optional_mine rows_optional
      where
        differ : (a b : Member) → Mine false a → Mine false b → RowsRise a b → KeysDiffer a b
        differ a b A B r e =
            let s : a.row ≡ b.row = tags_differ T right t a.row b.row O.below O.own A.from A.to B.from B.to (mine_mark a A) (mine_mark b B)
            (sym (A.tagged refl) ∙ e ∙ B.tagged refl) in
            absurd (omega arith)

    pub owner_ordered : Ordered T t
    owner_ordered = record { rows = pairs_with (λ a b A B r. rise_differ a b r) optional_mine rows_optional; keys = rises_rising keys_optional }

    optional_found : All (Found (optional_members T t)) (optional_members T t)
    optional_found = found_keys keys_optional

    mine_short : (m : Member) → Mine false m → Short m.key
    unfolding member_rules negative
    mine_short m P =
        let h : great (tag T m.row) ≡ false = member_test T right m.row (rows_there T right t m.row O.below O.own P.to) 5 in
        let l : tag T m.row < 2147483648 = leb-false _ (tag T m.row) h in
        omega (arith, P.tagged refl)

    required_fit : All (λ (m : Member). Fit T (slot t true m)) (required_members T t)
    unfolding required_members slot
    required_fit =
        all_with (λ (m : Member) (P : Mine true m) (F : (m.ty ≡ member_ty T (trees T) m.row) × Found (required_members T t) m).
        record { owner_right = O; place = P; typed = F.0; finds = F.1; short = λ e. absurd (true≢false e) })
        required_mine (all_with (λ m a b. (a, b)) (required_typed T (trees T) 0 (own_rows T t)) (required_found T t))

    pub optional_fit : All (λ (m : Member). Fit T (slot t false m)) (optional_members T t)
    unfolding optional_members slot
    optional_fit =
        all_with (λ (m : Member) (P : Mine false m) (F : (m.ty ≡ member_ty T (trees T) m.row) × Found (optional_members T t) m).
        record { owner_right = O; place = P; typed = F.0; finds = F.1; short = λ e. mine_short m P })
        optional_mine (all_with (λ m a b. (a, b)) (optional_typed T (trees T) (own_rows T t)) optional_found)

    pub slots_fit : All (Fit T) (slots T t)
    unfolding slots
    slots_fit = all_append (all_mapped (slot t true) required_fit) (all_mapped (slot t false) (all_rising optional_fit))

    slots_differ : Pairs SlotsDiffer (slots T t)
    unfolding slots slot
    slots_differ =
        pairs_append (pairs_mapped (slot t true) (pairs_with (λ a b A B r. rise_differ a b r) required_mine rows_required))
        (pairs_mapped (slot t false) (differ_rising owner_ordered.rows))
        (all_mapped (slot t true) (all_map (λ (a : Member) (A : Mine true a). all_mapped (slot t false) (all_map (λ (b : Member) (B : Mine false b). other a b A B) (all_rising optional_mine))) required_mine))
      where
        other : (a b : Member) → Mine true a → Mine false b → a.row ≡ b.row → ⊥
        other a b A B e = true≢false (sym A.marked ∙ ap (λ (i : ℕ). eqb (mark T i) 0) e ∙ B.marked)

-- a row of a kind from 13 on is a top
pub top_step : (T : List ℕ) (top : ℕ) → top < types T → 13 ≤ kind T top → no_top T top ≡ false
unfolding no_top
top_step T top l k = rw (lt-leb (types T) top l, le-ltb (kind T top) 13 k)

-- a record is a top
pub record_there : (T : List ℕ) (t : ℕ) → t < types T → is_record (kind T t) ≡ true → no_top T t ≡ false
record_there T t l h = top_step T t l (⊎_elim (λ e. omega arith) (λ e. omega arith) (record_kind (kind T t) h))

-- a parameter list is its own chain
pub list_chain : (T : List ℕ) (t : ℕ) → kind T t ≡ 15 → chain T t ≡ t ∷ []
unfolding base upward
list_chain T t k = chain_node T t ∙ ap (λ (b : ℕ). t ∷ upward (chain T) b) (ap (λ (x : ℕ). pick (is_record x && leb (field T t 2) t) (field T t 2) 0) k)

-- rows under a table that breaks no rule, for a type of it, after 2, 23, 26 and 3, in 1.0 or 1.1
abbrev pub judging : List ℕ → ℕ → Bool → List ℕ → List Row → Out (List Given)
judging T type old buffer rs = judge_all T old buffer (begin T type (above (chain T type))) 0 rs

-- ---- the slots of a chain

abbrev pub Falls : ℕ → ℕ → Type 0
Falls a b = b < a

module _ (T : List ℕ) where
  pub plan_owner : (P : ℕ → Type 0) (ts : List ℕ) → All P ts → All (λ (s : Slot). P s.owner) (plan_of T ts)
  unfolding plan_of
  plan_owner P [] end = end
  plan_owner P (t ∷ ts) (more p L) = all_append (all_map (λ (s : Slot) (e : s.owner ≡ t). subst P (sym e) p) (slots_owner T t)) (plan_owner P ts L)

  module _ (right : faults T ≡ fine) where
    plan_of_fit : (ts : List ℕ) → All (Owner T) ts → All (Fit T) (plan_of T ts)
    unfolding plan_of
    plan_of_fit [] end = end
    plan_of_fit (t ∷ ts) (more O L) = all_append (slots_fit T t right O) (plan_of_fit ts L)

    owners_differ : (a b : Slot) → Fit T a → Fit T b → (a.owner ≡ b.owner → ⊥) → SlotsDiffer a b
    owners_differ a b A B d e =
        d (rows_apart T right a.owner b.owner a.member.row A.owner_right.below B.owner_right.below A.owner_right.own B.owner_right.own
        A.place.from A.place.to (omega (arith, B.place.from)) (omega (arith, B.place.to)))

    plan_of_differ : (ts : List ℕ) → All (Owner T) ts → Pairs Falls ts → Pairs SlotsDiffer (plan_of T ts)
    unfolding plan_of
    plan_of_differ [] end alone = alone
    plan_of_differ (t ∷ ts) (more O L) (before f F) =
        pairs_append (slots_differ T t right O) (plan_of_differ ts L F)
        (all_with (λ (a : Slot) (A : Fit T a) (e : a.owner ≡ t).
        all_with (λ (b : Slot) (B : Fit T b) (g : b.owner < t). owners_differ a b A B (λ q. omega arith)) (plan_of_fit ts L) (plan_owner (Falls t) ts f))
        (slots_fit T t right O) (slots_owner T t))

    -- ---- the chain of a top

    -- a row of a chain of row t
    pub record Rung (t r : ℕ) : Type 0 where
      pub below : r < types T
      pub alike : kind T r ≡ kind T t
      pub least : r ≤ t

    pub base_record : (t r : ℕ) → base T t ≡ suc r → is_record (kind T t) ≡ true
    unfolding base
    base_record t r h = go (is_record (kind T t)) (leb (field T t 2) t) h
      where
        go : (a b : Bool) → pick (a && b) (field T t 2) 0 ≡ suc r → a ≡ true
        go true b h = refl
        go false b h = absurd (omega arith)

    abbrev Line : ℕ → List ℕ → Type 0
    Line t ts = All (Rung t) ts × Pairs Falls ts

    line : (n t : ℕ) → t < n → t < types T → Line t (chain T t)
    unfolding upward
    line zero t h l = absurd (omega arith)
    line (suc n) t h l = subst (Line t) (sym (chain_node T t)) (go (base T t) refl (λ r k m. line n r k m))
      where
        here : Rung t t
        here = record { below = l; alike = refl; least = omega arith }

        go : (b : ℕ) → base T t ≡ b → ((r : ℕ) → r < n → r < types T → Line r (chain T r)) → Line t (t ∷ upward (chain T) b)
        go zero e ih = (more here end, before end alone)
        go (suc r) e ih =
            let B = base_right T right t l (base_record t r e) r e in
            let L = ih r (omega (arith, B.0)) (omega (arith, B.0)) in (
              more here (all_map (λ (u : ℕ) (R : Rung r u). record { below = R.below; alike = R.alike ∙ B.1; least = omega (arith, R.least, B.0) }) L.0),
              before {a = t} (all_map (λ (u : ℕ) (R : Rung r u). omega (arith, R.least, B.0)) L.0) L.1,
            )

    module _ (type : ℕ) (there : no_top T type ≡ false) where
      top_owns : (k : ℕ) → 13 ≤ k → k ≤ 15 → owns k ≡ true
      top_owns k l h = go (eqb k 9) (eqb k 13) refl (eqb k 14) refl (eqb k 15) refl
        where
          go : (a b : Bool) → eqb k 13 ≡ b → (c : Bool) → eqb k 14 ≡ c → (d : Bool) → eqb k 15 ≡ d → a || (b || c || d) ≡ true
          go true b e c f d g = refl
          go false true e c f d g = refl
          go false false e true f d g = refl
          go false false e false f true g = refl
          go false false e false f false g = absurd (omega (arith, eqb-false k 13 e, eqb-false k 14 f, eqb-false k 15 g))

      pub top_owner : Owner T type
      top_owner =
          let t = top_there T type there in
          record { below = t.0; own = top_owns (kind T type) t.1 (kind_known T right type t.0) }

      pub chain_rungs : All (Rung type) (chain T type)
      chain_rungs = (line (suc type) type (omega arith) top_owner.below).0

      pub chain_falls : Pairs Falls (chain T type)
      chain_falls = (line (suc type) type (omega arith) top_owner.below).1

      pub chain_owners : All (Owner T) (chain T type)
      chain_owners = all_map (λ (r : ℕ) (R : Rung type r). record { below = R.below; own = ap (λ (k : ℕ). owns k) R.alike ∙ top_owner.own }) chain_rungs

      pub plan_fit : All (Fit T) (plan T type)
      unfolding plan
      plan_fit = plan_of_fit (chain T type) chain_owners

      pub plan_differ : Pairs SlotsDiffer (plan T type)
      unfolding plan
      plan_differ = plan_of_differ (chain T type) chain_owners chain_falls

      -- a row of the chain, by the test that descends
      pub chain_top : (top : ℕ) → UnderTop T top type → Rung type top
      chain_top top h = any_among top chain_rungs h

      pub chain_above : chain T type ≡ type ∷ above (chain T type)
      unfolding above
      chain_above = chain_node T type ∙ ap (λ (l : List ℕ). type ∷ above l) (sym (chain_node T type))

      begin_future : (ts : List ℕ) → future T (begin T type ts) ≡ plan_of T (type ∷ ts)
      unfolding begin future plan_of slots
      begin_future ts =
          ap (λ (l : List Member). map (slot type true) (required_members T type) ++ map (slot type false) l ++ plan_of T ts)
          (ap (λ (n : ℕ). from n (rising (optional_members T type))) (least_zero (required_members T type)) ∙ from_zero (rising (optional_members T type)))

      pub judging_slots : (old : Bool) (buffer : List ℕ) (rs : List Row) → judging T type old buffer rs ≡ judge_slots old buffer (plan T type) 0 rs
      unfolding plan begin
      judging_slots old buffer rs =
          judge_slots_lem T old buffer rs 0 (begin T type (above (chain T type))) (subst (All (Ordered T)) chain_above (all_map (λ (t : ℕ) (O : Owner T t). owner_ordered T t right O) chain_owners))
          ∙ ap (λ (ss : List Slot). judge_slots old buffer ss 0 rs) (begin_future (above (chain T type)) ∙ ap (plan_of T) (sym chain_above))
