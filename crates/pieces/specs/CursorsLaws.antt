-- Laws of `Cursors`: what is due, and what is reached, from a cursor. Assumes nothing.
--
--   due_begin, due_more, due_skip, due_none    what is due of an owner, row by row
--   may_outside, may_inside                    an optional of an owner is found by its row number
--   reach_.. of a state                        what is reached where a member is due, where an optional comes, and above
--   still_.. of a state                        what is still due at the end, here and above
use Rattle.std.specs.Prelude.{◌≡◌, Bool, ◌&&◌, not, eqb}
use Rattle.std.proofs.Math.Path.{refl, ap}
use Rattle.std.proofs.Common.{sym, ◌∙◌, add-zero, add-one}
use Rattle.std.proofs.Math.Bool.{true, false}
use Rattle.std.proofs.Math.Option.{Option, none, some}
use mathlib.Core.List.{List, [], ◌∷◌}
use Prim.Native.Nat.{ℕ, zero, suc, ◌+◌, ◌-◌, ◌≤◌, ◌<◌}
use native.Mathlib.Omega.{arith}
use Rattle.std.proofs.Math.Dec.{leb}
use borrow.Author.Tests.{eqb-true, eqb-false, eq-eqb, ne_eqb}
use Rattle.encoding.specs.Result.{pick}
use Rattle.encoding.specs.Types.{Ty}
use Rattle.encoding.specs.Table.{field, mark, tag, range, Member, own_rows, trees, member_ty, requireds_in, required_members, optionals_in, optional_members, any, base, upward}
use Rattle.encoding.proofs.TableLaws.{chain_row}
use Rattle.encoding.specs.Old.{any_of}
use Rattle.encoding.specs.Write.{optional_row, or_above, entered, reach_due, reach_may, reach, still_due}
use Rattle.pieces.specs.Cursors.{required_in, due_in, due_from, bases, Cursor, due_at, state_of, may_member}

-- ---- required members

module _ (T : List ℕ) (l : List Ty) (i m : ℕ) (ms : List ℕ) where
  required_here : mark T m ≡ 0 → requireds_in T l i (m ∷ ms) ≡ record { row = m; key = i; ty = member_ty T l m } ∷ requireds_in T l (suc i) ms
  unfolding requireds_in
  required_here e = rw (eq-eqb (mark T m) 0 e)

  required_over : (mark T m ≡ 0 → ⊥) → requireds_in T l i (m ∷ ms) ≡ requireds_in T l i ms
  unfolding requireds_in
  required_over e = rw (ne_eqb (mark T m) 0 e)

module _ (T : List ℕ) (a k : ℕ) where
  count_here : mark T (a + k) ≡ 0 → required_in T a (k + 1) ≡ suc (required_in T a k)
  unfolding required_in
  count_here e = rw (add-one k, eq-eqb (mark T (a + k)) 0 e, add-one)

  count_over : (mark T (a + k) ≡ 0 → ⊥) → required_in T a (k + 1) ≡ required_in T a k
  unfolding required_in
  count_over e = rw (add-one k, ne_eqb (mark T (a + k)) 0 e, add-zero)

range_at : (a b k : ℕ) → k < b → range (a + k) (b - k) ≡ (a + k) ∷ range (a + (k + 1)) (b - (k + 1))
unfolding range
range_at a b k h =
    let e : b - k ≡ suc (b - (k + 1)) = omega arith in
    let f : suc (a + k) ≡ a + (k + 1) = omega arith in
    rw (e, f)

pub due_begin : (T : List ℕ) (o : ℕ) → due_from T o 0 ≡ required_members T o
unfolding due_in required_in required_members own_rows
due_begin T o = let e : field T o 1 - 0 ≡ field T o 1 = omega arith in rw (add-zero, e)

module _ (T : List ℕ) (a b k : ℕ) where
  pub due_more : k < b → mark T (a + k) ≡ 0
      → due_in T a b k ≡ record { row = a + k; key = required_in T a k; ty = member_ty T (trees T) (a + k) } ∷ due_in T a b (k + 1)
  unfolding due_in
  due_more h e =
      ap (requireds_in T (trees T) (required_in T a k)) (range_at a b k h)
      ∙ required_here T (trees T) _ _ _ e
      ∙ rw (count_here T a k e)

  pub due_skip : k < b → (mark T (a + k) ≡ 0 → ⊥) → due_in T a b k ≡ due_in T a b (k + 1)
  unfolding due_in
  due_skip h e =
      ap (requireds_in T (trees T) (required_in T a k)) (range_at a b k h)
      ∙ required_over T (trees T) _ _ _ e
      ∙ rw (count_over T a k e)

  pub due_none : b ≤ k → due_in T a b k ≡ []
  unfolding due_in range requireds_in
  due_none h = let e : b - k ≡ 0 = omega arith in rw e

-- ---- optional members

-- the members of the rows from a on
abbrev rest : List ℕ → ℕ → ℕ → List Member
rest T a b = optionals_in T (trees T) (range (suc a) b)

module _ (T : List ℕ) (m least : ℕ) where
  optional_out : (a b : ℕ) → ((i : ℕ) → a ≤ i → i < a + b → m ≡ i → ⊥) → optional_row m least (optionals_in T (trees T) (range a b)) ≡ none
  unfolding optional_row optionals_in range
  optional_out a zero f = refl
  optional_out a (suc b) f = go (optional_out (suc a) b (λ i h l. f i (omega arith) (omega arith))) (eqb (mark T a) 0)
    where
      go : optional_row m least (rest T a b) ≡ none → (t : Bool)
          → optional_row m least (pick t (rest T a b) (record { row = a; key = tag T a; ty = member_ty T (trees T) a } ∷ rest T a b)) ≡ none
      go ih true = ih
      go ih false = rw (ne_eqb m a (f a (omega arith) (omega arith))) ih

  -- of the first row, and of the rows after it
  optional_first : (b : ℕ) → optional_row m least (optionals_in T (trees T) (range m (suc b))) ≡ pick (not (eqb (mark T m) 0) && leb least (tag T m)) (some (may_member T m)) none
  unfolding optional_row optionals_in range may_member
  optional_first b = go (optional_out (suc m) b (λ i h l e. omega arith)) (eqb (mark T m) 0) (leb least (tag T m)) refl
    where
      go : optional_row m least (rest T m b) ≡ none → (t u : Bool) → leb least (tag T m) ≡ u
          → optional_row m least (pick t (rest T m b) (record { row = m; key = tag T m; ty = member_ty T (trees T) m } ∷ rest T m b))
          ≡ pick (not t && u) (some (record { row = m; key = tag T m; ty = member_ty T (trees T) m })) none
      go ih true u e = ih
      go ih false true e = rw (eq-eqb m m refl, e)
      go ih false false e = rw (eq-eqb m m refl, e) ih

  optional_in : (a b : ℕ) → a ≤ m → m < a + b
      → optional_row m least (optionals_in T (trees T) (range a b)) ≡ pick (not (eqb (mark T m) 0) && leb least (tag T m)) (some (may_member T m)) none
  unfolding optional_row optionals_in range
  optional_in a zero h l = absurd (omega arith)
  optional_in a (suc b) h l = go (eqb m a) refl (λ q. optional_in (suc a) b (omega arith) (omega arith))
    where
      found : Option Member
      found = pick (not (eqb (mark T m) 0) && leb least (tag T m)) (some (may_member T m)) none

      over : (t : Bool) → eqb m a ≡ false → optional_row m least (rest T a b) ≡ found
          → optional_row m least (pick t (rest T a b) (record { row = a; key = tag T a; ty = member_ty T (trees T) a } ∷ rest T a b)) ≡ found
      over true e ih = ih
      over false e ih = rw e ih

      go : (t : Bool) → eqb m a ≡ t → ((m ≡ a → ⊥) → optional_row m least (rest T a b) ≡ found) → optional_row m least (optionals_in T (trees T) (range a (suc b))) ≡ found
      go true e ih = let q : m ≡ a = eqb-true m a e in rw (sym q) (optional_first b)
      go false e ih = over (eqb (mark T a) 0) e (ih (eqb-false m a e))

  -- the test is made where the member row is one of the owner's
  pub may_outside : (o : ℕ) → (field T o 0 ≤ m → m < field T o 0 + field T o 1 → ⊥) → optional_row m least (optional_members T o) ≡ none
  unfolding optional_members own_rows
  may_outside o f = optional_out (field T o 0) (field T o 1) (λ i h l q. f (omega arith) (omega arith))

  pub may_inside : (o : ℕ) → field T o 0 ≤ m → m < field T o 0 + field T o 1
      → optional_row m least (optional_members T o) ≡ pick (not (eqb (mark T m) 0) && leb least (tag T m)) (some (may_member T m)) none
  unfolding optional_members own_rows
  may_inside o h l = optional_in (field T o 0) (field T o 1) h l

-- ---- what is reached

module _ (T : List ℕ) (m : ℕ) (c : Cursor) where
  pub reach_due_lem : (d : Member) (ds : List Member) → due_from T c.owner c.passed ≡ d ∷ ds
      → reach T m (state_of T c) ≡ reach_due c.owner (bases T c.owner) m d ds
  unfolding reach entered state_of
  reach_due_lem d ds e = rw e

  pub reach_free : due_from T c.owner c.passed ≡ [] → reach T m (state_of T c) ≡ reach_may T m c.owner c.least (bases T c.owner)
  unfolding reach entered state_of
  reach_free e = rw e

  pub reach_may_lem : (d : Member) → due_from T c.owner c.passed ≡ [] → optional_row m c.least (optional_members T c.owner) ≡ some d
      → reach T m (state_of T c) ≡ some (record { member = d; required_one = false; state = record { owner = c.owner; due = []; least = suc d.key; above = bases T c.owner } })
  unfolding reach_may or_above
  reach_may_lem d e f = reach_free e ∙ go (bases T c.owner)
    where
      go : (ts : List ℕ) → reach_may T m c.owner c.least ts
          ≡ some (record { member = d; required_one = false; state = record { owner = c.owner; due = []; least = suc d.key; above = ts } })
      go [] = rw f
      go (t ∷ ts) = rw f

  pub reach_end : due_from T c.owner c.passed ≡ [] → optional_row m c.least (optional_members T c.owner) ≡ none → base T c.owner ≡ 0 → reach T m (state_of T c) ≡ none
  unfolding reach_may or_above upward
  reach_end e f z = reach_free e ∙ rw (z, f)

  pub reach_above : (t : ℕ) → due_from T c.owner c.passed ≡ [] → optional_row m c.least (optional_members T c.owner) ≡ none → base T c.owner ≡ suc t
      → reach T m (state_of T c) ≡ reach T m (state_of T (due_at t 0))
  unfolding reach_may or_above upward reach entered state_of
  reach_above t e f z = reach_free e ∙ rw (z, chain_row T t, f, due_begin T t)

-- ---- what is still due at the end

module _ (T : List ℕ) (c : Cursor) where
  pub still_here : (d : Member) (ds : List Member) → due_from T c.owner c.passed ≡ d ∷ ds → still_due T (state_of T c) ≡ true
  unfolding still_due any_of state_of
  still_here d ds e = rw e

  pub still_none : due_from T c.owner c.passed ≡ [] → base T c.owner ≡ 0 → still_due T (state_of T c) ≡ false
  unfolding still_due any_of state_of any upward
  still_none e z = rw (e, z)

  pub still_above : (t : ℕ) → due_from T c.owner c.passed ≡ [] → base T c.owner ≡ suc t
      → still_due T (state_of T c) ≡ still_due T (state_of T (due_at t 0))
  unfolding still_due any_of state_of any upward
  still_above t e z = rw (e, z, chain_row T t, due_begin T t)
