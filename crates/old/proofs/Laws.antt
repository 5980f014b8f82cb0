-- Optionals in a line of descent: a row's members, the loops up the line and over the rows after the top. Assumes nothing.
--
--   members_optional           some of a row's member rows is optional
--   above_here, _end, _next    the loop up the line
--   inherits_other, _plain     a row after the top that does not descend from it
--   Rows, rows_..              the loop over those rows
--   any_ok, any_of_lem, any_in     what is true of some number of a list; of a range
--   chain_low                  a row's bases are smaller rows
--   line_above, _past, _below  the whole: some row of the line, up or down
use Prim.Native.Nat.{ℕ, zero, suc, ◌+◌, ◌-◌, ◌≤◌, ◌<◌}
use mathlib.Core.Path.{◌≡◌, refl, sym, ap, ◌∙◌}
use mathlib.Core.Bool.{Bool, true, false, not, ◌&&◌, ◌||◌, false≢true}
use mathlib.Core.List.{List, [], ◌∷◌}
use native.Mathlib.Numerals.{sub-one}
use native.Mathlib.Omega.{arith}
use lib.Dec.{eqb, ltb}
use borrow.Author.Tests.{eq-eqb, ne_eqb, eqb-true, lt-ltb, ltb-true}
use Rattle.encoding.specs.Result.{pick}
use Rattle.encoding.proofs.ResultLaws.{both_true}
use Rattle.encoding.specs.Types.{Ty}
use Rattle.encoding.specs.Table.{types, kind, field, is_record, mark, tag, range, any, trees, Member, member_ty, own_rows, optionals_in, optional_members, base, upward, chain}
use Rattle.encoding.proofs.TableLaws.{chain_row, base_below}
use Rattle.encoding.proofs.RuleLaws.{any_none as none_after}
use Rattle.encoding.specs.Old.{descends, related, any_of, no_old}
use Rattle.table.specs.Tags.{has_optional}
use Rattle.table.proofs.Ranges.{any_here, any_next, any_none, any_never}

-- ---- a row's members

rows_optional : (T : List ℕ) (l : List Ty) (n m : ℕ) → has_optional T m n ≡ any_of (optionals_in T l (range m n))
unfolding has_optional any optionals_in range any_of
rows_optional T l zero m = refl
rows_optional T l (suc n) m = go (eqb (mark T m) 0) (rows_optional T l n (suc m))
  where
    rest : List Member
    rest = optionals_in T l (range (suc m) n)

    go : (b : Bool) → has_optional T (suc m) n ≡ any_of rest → not b || has_optional T (suc m) n ≡ any_of (pick b rest (record { row = m; key = tag T m; ty = member_ty T l m } ∷ rest))
    go true e = e
    go false e = refl

pub members_optional : (T : List ℕ) (t a b : ℕ) → a ≡ field T t 0 → b ≡ field T t 1 → (r : Bool) → r ≡ has_optional T a (a + b - a) → r ≡ any_of (optional_members T t)
unfolding optional_members own_rows
members_optional T t a b ea eb r e =
    let z : a + b - a ≡ b = omega arith in
    e ∙ ap (has_optional T a) z ∙ rows_optional T (trees T) b a ∙ rw (ea, eb)

-- ---- up the line

-- a row of the table that has optionals
abbrev barred : List ℕ → ℕ → Bool
barred T o = ltb o (types T) && any_of (optional_members T o)

module _ (T : List ℕ) (o : ℕ) (whole : Bool) (inv : whole ≡ any (λ r. ltb r (types T) && any_of (optional_members T r)) (chain T o)) (r : Bool) (er : r ≡ ltb o (types T) && any_of (optional_members T o)) where
  pub above_here : r ≡ true → true ≡ whole
  unfolding any
  above_here q = sym (inv ∙ rw (chain_row T o, ← er, q))

  module _ (ne : r ≡ false) (b : ℕ) (e : b ≡ base T o) where
    pub above_end : b ≡ 0 → false ≡ whole
    unfolding any upward
    above_end z = sym (inv ∙ rw (chain_row T o, ← er, ne, ← e, z))

    pub above_next : (b ≡ 0 → ⊥) → whole ≡ any (λ r. ltb r (types T) && any_of (optional_members T r)) (chain T (b - 1))
    unfolding any upward
    above_next z = inv ∙ rw (chain_row T o, ← er, ne, ← e) (go b z)
      where
        go : (i : ℕ) → (i ≡ 0 → ⊥) → any (barred T) (upward (chain T) i) ≡ any (barred T) (chain T (i - 1))
        go zero z = absurd (z refl)
        go (suc u) z = rw sub-one

-- ---- after the top

module _ (T : List ℕ) (top t : ℕ) where
  -- a row that is no record has no base
  plain_line : is_record (kind T t) ≡ false → top < t → descends T top t ≡ false
  unfolding any upward base
  plain_line q h = rw (chain_row T t, ne_eqb t top (λ e. omega arith), q)

  module _ (k : ℕ) (ek : k ≡ kind T t) (b : Bool) (eb : b ≡ is_record k) where
    pub inherits_plain : top < t → b ≡ false → false ≡ descends T top t && any_of (optional_members T t)
    inherits_plain h q = rw (plain_line (ap is_record (sym ek) ∙ sym eb ∙ q) h)

  module _ (d : Bool) (ed : d ≡ descends T top t) where
    pub inherits_other : d ≡ false → false ≡ descends T top t && any_of (optional_members T t)
    inherits_other q = rw (sym ed ∙ q)

-- a row that descends from the top, and has optionals
abbrev inherited : List ℕ → ℕ → ℕ → Bool
inherited T top t = descends T top t && any_of (optional_members T t)

pub record Rows (T : List ℕ) (top n t : ℕ) : Type 0 where
  pub after : top < t
  pub rest : any (λ r. descends T top r && any_of (optional_members T r)) (range (top + 1) (n - (top + 1))) ≡ any (λ r. descends T top r && any_of (optional_members T r)) (range t (n - t))

module _ (T : List ℕ) (top n t : ℕ) (inv : Rows T top n t) where
  pub rows_end : n ≤ t → false ≡ any (λ r. descends T top r && any_of (optional_members T r)) (range (top + 1) (n - (top + 1)))
  rows_end h = sym (inv.rest ∙ any_none (inherited T top) t n h)

  module _ (h : t < n) (b : Bool) (e : b ≡ descends T top t && any_of (optional_members T t)) where
    pub rows_here : b ≡ true → true ≡ any (λ r. descends T top r && any_of (optional_members T r)) (range (top + 1) (n - (top + 1)))
    rows_here q = sym (inv.rest ∙ any_here (inherited T top) t n h (sym e ∙ q))

    pub rows_next : b ≡ false → Rows T top n (t + 1)
    rows_next q = record { after = omega (arith, inv.after); rest = inv.rest ∙ any_next (inherited T top) t n h (sym e ∙ q) }

-- ---- the whole line

-- some number of a list
any_ok : (f : ℕ → Bool) (l : List ℕ) → any f l ≡ true → (x : ℕ) × (f x ≡ true) × (any (λ i. eqb i x) l ≡ true)
unfolding any
any_ok f [] h = absurd (false≢true h)
any_ok f (i ∷ l) h = go (f i) refl h (any_ok f l)
  where
    later : (x : ℕ) → any (λ j. eqb j x) l ≡ true → (b : Bool) → b || any (λ j. eqb j x) l ≡ true
    later x e true = refl
    later x e false = e

    go : (b : Bool) → f i ≡ b → b || any f l ≡ true → (any f l ≡ true → (x : ℕ) × (f x ≡ true) × (any (λ j. eqb j x) l ≡ true))
        → (x : ℕ) × (f x ≡ true) × (eqb i x || any (λ j. eqb j x) l ≡ true)
    go true e h again = (i, e, rw (eq-eqb i i refl))
    go false e h again = let A = again h in (A.0, A.1, later A.0 A.2 (eqb i A.0))

any_of_lem : (f : ℕ → Bool) (x : ℕ) (l : List ℕ) → f x ≡ true → any (λ i. eqb i x) l ≡ true → any f l ≡ true
unfolding any
any_of_lem f x [] e h = absurd (false≢true h)
any_of_lem f x (i ∷ l) e h = go (eqb i x) refl h (any_of_lem f x l e)
  where
    later : any f l ≡ true → (b : Bool) → b || any f l ≡ true
    later e true = refl
    later e false = e

    go : (b : Bool) → eqb i x ≡ b → b || any (λ j. eqb j x) l ≡ true → (any (λ j. eqb j x) l ≡ true → any f l ≡ true) → f i || any f l ≡ true
    go true q h again = rw (eqb-true i x q, e)
    go false q h again = later (again h) (f i)

any_in : (f : ℕ → Bool) (k i x : ℕ) → i ≤ x → x < i + k → f x ≡ true → any f (range i k) ≡ true
unfolding any range
any_in f zero i x h l e = absurd (omega arith)
any_in f (suc k) i x h l e = go (eqb i x) refl (f i) (λ n. any_in f k (suc i) x n (omega arith) e)
  where
    go : (b : Bool) → eqb i x ≡ b → (c : Bool) → (suc i ≤ x → any f (range (suc i) k) ≡ true) → f i || any f (range (suc i) k) ≡ true
    go true q c again = rw (eqb-true i x q, e)
    go false q c again = later (again (omega (arith, ne q))) (f i)
      where
        ne : eqb i x ≡ false → i ≡ x → ⊥
        ne q z = false≢true (sym q ∙ eq-eqb i x z)

        later : any f (range (suc i) k) ≡ true → (b : Bool) → b || any f (range (suc i) k) ≡ true
        later e true = refl
        later e false = e

in_range : (k i x : ℕ) → any (λ j. eqb j x) (range i k) ≡ true → (i ≤ x) × (x < i + k)
unfolding any range
in_range zero i x h = absurd (false≢true h)
in_range (suc k) i x h = go (eqb i x) refl h (in_range k (suc i) x)
  where
    go : (b : Bool) → eqb i x ≡ b → b || any (λ j. eqb j x) (range (suc i) k) ≡ true → (any (λ j. eqb j x) (range (suc i) k) ≡ true → (suc i ≤ x) × (x < suc i + k)) → (i ≤ x) × (x < i + suc k)
    go true q h again = let z = eqb-true i x q in (omega arith, omega arith)
    go false q h again = let A = again h in (omega (arith, A.0), omega (arith, A.1))

-- a base is a smaller row
chain_low : (T : List ℕ) (f t x : ℕ) → t < f → any (λ i. eqb i x) (chain T t) ≡ true → x ≤ t
unfolding any upward
chain_low T zero t x l h = absurd (omega arith)
chain_low T (suc f) t x l h = go (eqb t x) refl (rw (chain_row T t) at h) (λ u k e. chain_low T f u x k e)
  where
    up : (b : ℕ) → b ≤ t → any (λ i. eqb i x) (upward (chain T) b) ≡ true → ((u : ℕ) → u < f → any (λ i. eqb i x) (chain T u) ≡ true → x ≤ u) → x ≤ t
    up zero k h again = absurd (false≢true h)
    up (suc u) k h again = let r = again u (omega arith) h in omega arith

    go : (b : Bool) → eqb t x ≡ b → b || any (λ i. eqb i x) (upward (chain T) (base T t)) ≡ true → ((u : ℕ) → u < f → any (λ i. eqb i x) (chain T u) ≡ true → x ≤ u) → x ≤ t
    go true q h again = omega (arith, eqb-true t x q)
    go false q h again = up (base T t) (base_below T t) h again

module _ (T : List ℕ) (top : ℕ) where
  -- a row of the line that has optionals
  abbrev lined : ℕ → Bool
  lined t = related T top t && any_of (optional_members T t)

  some_line : (x : ℕ) → x < types T → lined x ≡ true → no_old T top ≡ true
  unfolding no_old
  some_line x l e = any_in lined (types T) 0 x (omega arith) (omega arith) e

  up_line : any (barred T) (chain T top) ≡ true → no_old T top ≡ true
  unfolding related
  up_line h =
      let A = any_ok (barred T) (chain T top) h in
      let B = both_true (ltb A.0 (types T)) (any_of (optional_members T A.0)) A.1 in
      some_line A.0 (ltb-true A.0 (types T) B.0) (rw (A.2, B.1))

  down_line : (k : ℕ) → any (inherited T top) (range (top + 1) k) ≡ true → top + 1 + k ≤ types T → no_old T top ≡ true
  unfolding related
  down_line k h l =
      let A = any_ok (inherited T top) (range (top + 1) k) h in
      let B = both_true (descends T top A.0) (any_of (optional_members T A.0)) A.1 in
      let C = in_range k (top + 1) A.0 A.2 in
      some_line A.0 (omega (arith, C.1)) (go A.0 (descends T A.0 top) B.0 B.1)
    where
      go : (x : ℕ) (b : Bool) → descends T top x ≡ true → any_of (optional_members T x) ≡ true → (b || descends T top x) && any_of (optional_members T x) ≡ true
      go x true d o = o
      go x false d o = rw (d, o)

  no_line : any (barred T) (chain T top) ≡ false → ((t : ℕ) → top < t → t < types T → inherited T top t ≡ false) → no_old T top ≡ false
  unfolding no_old related
  no_line up down = any_never lined (types T) 0 (λ t a l. go t (omega arith) (descends T t top) refl (descends T top t) refl (any_of (optional_members T t)) refl)
    where
      none : (t : ℕ) → t < types T → descends T t top ≡ true → any_of (optional_members T t) ≡ true → ⊥
      none t l d o = false≢true (sym up ∙ any_of_lem (barred T) t (chain T top) (rw (lt-ltb t (types T) l, o)) d)

      go : (t : ℕ) → t < types T → (b : Bool) → descends T t top ≡ b → (c : Bool) → descends T top t ≡ c → (o : Bool) → any_of (optional_members T t) ≡ o → (b || c) && o ≡ false
      go t l true d c e true q = absurd (none t l d q)
      go t l true d c e false q = refl
      go t l false d false e o q = refl
      go t l false d true e false q = refl
      go t l false d true e true q = absurd (same (eqb t top) refl)
        where
          low : top ≤ t
          low = chain_low T (suc t) t top (omega arith) e

          same : (x : Bool) → eqb t top ≡ x → ⊥
          same true z =
              let y : t ≡ top = eqb-true t top z in
              false≢true (sym d ∙ ap (λ (i : ℕ). descends T i top) y ∙ ap (descends T top) (sym y) ∙ e)
          same false z =
              let y : t ≡ top → ⊥ = λ w. false≢true (sym z ∙ eq-eqb t top w) in
              false≢true (sym (down t (omega (arith, y, low)) l) ∙ rw (e, q))

  module _ (n : ℕ) (en : n ≡ types T) (a : Bool) (ea : a ≡ any (λ o. ltb o (types T) && any_of (optional_members T o)) (chain T top)) where
    pub line_above : a ≡ true → true ≡ no_old T top
    line_above q = sym (up_line (sym ea ∙ q))

    pub line_past : a ≡ false → n ≤ top → false ≡ no_old T top
    line_past q h = sym (no_line (sym ea ∙ q) (λ t k l. absurd (omega arith)))

    pub line_below : a ≡ false → top < n → (b : Bool) → b ≡ any (λ t. descends T top t && any_of (optional_members T t)) (range (top + 1) (n - (top + 1))) → b ≡ no_old T top
    line_below q h true e = sym (down_line (n - (top + 1)) (sym e) (omega arith))
    line_below q h false e = sym (no_line (sym ea ∙ q) (λ t k l. none_after (inherited T top) (top + 1) (n - (top + 1)) (sym e) t (omega arith) (omega arith)))
