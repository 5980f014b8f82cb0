-- What 26 judges: a row in line with the top that has an optional member. A row in line with a type is in line with each top above that type.
--
--   bare_line, line_bare   the test of 26 is false exactly if no row in line with the top has an optional member
--   descends_through       a row descends from those that its bases descend from
--   descends_either        of two bases of a row, one descends from the other
--   old_below              demand 2 of 1.0: no optionals in line with a top, none in line with a type below it
use Rattle.std.specs.Prelude.{◌≡◌, refl, Bool, true, false, ◌&&◌, ◌||◌, ◌⊎◌, List, [], ◌∷◌, ℕ, zero, suc, ◌+◌, ◌≤◌, ◌<◌}
use Rattle.std.proofs.Common.{sym, subst, true≢false, inl, inr, ⊎_elim, arith}
use Rattle.encoding.proofs.ResultLaws.{both_false}
use Rattle.encoding.specs.Table.{types, Member, optional_members, range, any}
use Rattle.encoding.proofs.RuleLaws.{any_none, base_le}
use Rattle.encoding.specs.Old.{descends, related, any_of, no_old}
use Rattle.encoding.specs.Conform.{InLine, a_base, below, WithoutOptionals}
use Rattle.laws.specs.Demands.{OldBelow}
use Rattle.laws.proofs.RecordNewer.{Descends, Line, here, above, descends_ok, descends_above}

-- ---- the test

none_of : (ms : List Member) → any_of ms ≡ false → ms ≡ []
unfolding any_of
none_of [] h = refl
none_of (m ∷ ms) h = absurd (true≢false h)

of_none : (ms : List Member) → ms ≡ [] → any_of ms ≡ false
unfolding any_of
of_none ms e = rw e

in_line : (T : List ℕ) (top t : ℕ) → InLine T top t → related T top t ≡ true
unfolding related
in_line T top t (a_base e) = rw e
in_line T top t (below e) = go (descends T t top) e
  where
    go : (b : Bool) → descends T top t ≡ true → b || descends T top t ≡ true
    go true e = refl
    go false e = e

line_in : (T : List ℕ) (top t : ℕ) → related T top t ≡ true → InLine T top t
unfolding related
line_in T top t h = go (descends T t top) refl h
  where
    go : (b : Bool) → descends T t top ≡ b → b || descends T top t ≡ true → InLine T top t
    go true e h = a_base e
    go false e h = below h

pub bare_line : (T : List ℕ) (top : ℕ) → no_old T top ≡ false → WithoutOptionals T top
unfolding no_old
bare_line T top h t l i =
    none_of (optional_members T t)
    (both_false (related T top t) (any_of (optional_members T t)) (any_none (λ t. related T top t && any_of (optional_members T t)) 0 (types T) h t (omega arith) (omega arith)) (in_line T top t i))

none_any : (f : ℕ → Bool) (i k : ℕ) → ((r : ℕ) → i ≤ r → r < i + k → f r ≡ false) → any f (range i k) ≡ false
unfolding any range
none_any f i zero h = refl
none_any f i (suc k) h = rw (h i (omega arith) (omega arith)) (none_any f (suc i) k (λ r a b. h r (omega arith) (omega arith)))

pub line_bare : (T : List ℕ) (top : ℕ) → WithoutOptionals T top → no_old T top ≡ false
unfolding no_old
line_bare T top W = none_any (λ t. related T top t && any_of (optional_members T t)) 0 (types T) (λ t a b. go t (omega arith) (related T top t) refl)
  where
    go : (t : ℕ) → t < types T → (q : Bool) → related T top t ≡ q → q && any_of (optional_members T t) ≡ false
    go t l true e = of_none (optional_members T t) (W t l (line_in T top t e))
    go t l false e = refl

-- ---- descent

descends_through : (T : List ℕ) (f q r t : ℕ) → t < f → Descends T q r → Descends T r t → Descends T q t
descends_through T zero q r t l a b = absurd (omega arith)
descends_through T (suc f) q r t l a b = go (descends_ok T r t b) (λ s k d. descends_through T f q r s k a d)
  where
    go : Line T r t → ((s : ℕ) → s < f → Descends T r s → Descends T q s) → Descends T q t
    go (here e) ih = subst (Descends T q) (sym e) a
    go (above s e d) ih = descends_above T q t s e (ih s (omega (arith, base_le T t)) d)

descends_either : (T : List ℕ) (f q r t : ℕ) → t < f → Descends T q t → Descends T r t → Descends T q r ⊎ Descends T r q
descends_either T zero q r t l a b = absurd (omega arith)
descends_either T (suc f) q r t l a b = go (descends_ok T q t a) (descends_ok T r t b) (λ s k x y. descends_either T f q r s k x y)
  where
    go : Line T q t → Line T r t → ((s : ℕ) → s < f → Descends T q s → Descends T r s → Descends T q r ⊎ Descends T r q) → Descends T q r ⊎ Descends T r q
    go (here e) M ih = inr (subst (Descends T r) e b)
    go (above s e d) (here k) ih = inl (subst (Descends T q) k a)
    go (above s e d) (above u k x) ih =
        let same : u ≡ s = omega (arith, e, k) in
        ih s (omega (arith, base_le T t)) d (subst (Descends T r) same x)

pub old_below : OldBelow
old_below T top type under W t l i = W t l (line t i)
  where
    line : (t : ℕ) → InLine T type t → InLine T top t
    line t (below e) = below (descends_through T (suc t) top type t (omega arith) under e)
    line t (a_base e) = ⊎_elim (λ d. below d) (λ d. a_base d) (descends_either T (suc type) top t type (omega arith) under e)
