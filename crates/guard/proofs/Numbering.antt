-- The numbers of an answer, one by one. A part taken from its start to its end is the whole list, so the answer is the same. Assumes nothing.
--
--   number_refusal, _place, _fires, _waits, _none    a number of the answer
--   number_stored                                    the lent bytes after it
--   room_least                                       the numbers by the room for the state, of which more than 32 make no difference
use mathlib.Core.Path.{◌≡◌, refl, sym, ap, ap₂, ◌∙◌}
use mathlib.Core.Bool.{Bool, true, false}
use mathlib.Core.Option.{Option, none, some}
use mathlib.Core.List.{List}
use Rattle.std.specs.Prelude.{min}
use Prim.Native.Nat.{ℕ, zero, suc, ◌-◌, ◌≤◌}
use native.Mathlib.Omega.{arith}
use lib.ListN.{length, take, drop, length-take, length-drop, get_or}
use lib.Dec.{leb}
use borrow.Author.Tests.{leb-true, leb-false, le-ltb}
use Rattle.wire.specs.StepLaws.{rest_is}
use Rattle.frost.specs.declared.Told as code
use Rattle.frost.specs.Frost.{Guard, Told, bounded, reported_from, reported, stored, state_of, told_numbers, fires_number}
use Rattle.frost.specs.Code.{told_in}

-- the part of s from its start to its end, as the code takes it
abbrev anew : List ℕ → List ℕ
anew s = take (length s - 0) (drop 0 s)

reported_anew : (s m : List ℕ) (n : ℕ) → reported (anew s) (anew m) n ≡ reported s m n
reported_anew s m n = ap₂ (λ (a b : List ℕ). reported a b n) (rest_is s 0) (rest_is m 0)

module _ (s m : List ℕ) (n : ℕ) where
  module _ (t : code.Told) (e : told_in t ≡ reported (anew s) (anew m) n) (i : ℕ) where
    told_is : told_in t ≡ reported s m n
    told_is = e ∙ reported_anew s m n

    pub number_refusal : i ≡ 0 → t.refusal ≡ get_or (told_numbers (reported s m n)) i 0
    unfolding told_numbers
    number_refusal h = rw h (ap (λ (y : Told). y.refusal) told_is)

    pub number_place : i ≡ 1 → t.place ≡ get_or (told_numbers (reported s m n)) i 0
    unfolding told_numbers
    number_place h = rw h (ap (λ (y : Told). y.place) told_is)

    pub number_fires : i ≡ 2 → t.fires ≡ true → 1 ≡ get_or (told_numbers (reported s m n)) i 0
    unfolding told_numbers fires_number
    number_fires q h = rw q (sym (ap fires_number h) ∙ ap (λ (y : Told). fires_number y.fires) told_is)

    pub number_waits : i ≡ 2 → t.fires ≡ false → 0 ≡ get_or (told_numbers (reported s m n)) i 0
    unfolding told_numbers fires_number
    number_waits q h = rw q (sym (ap fires_number h) ∙ ap (λ (y : Told). fires_number y.fires) told_is)

  pub number_none : (i : ℕ) → (i ≡ 0 → ⊥) → (i ≡ 1 → ⊥) → (i ≡ 2 → ⊥) → 0 ≡ get_or (told_numbers (reported s m n)) i 0
  unfolding told_numbers
  number_none zero a b c = absurd (a refl)
  number_none (suc zero) a b c = absurd (b refl)
  number_none (suc (suc zero)) a b c = absurd (c refl)
  number_none (suc (suc (suc i))) a b c = refl

  pub number_stored : (lent x : List ℕ) → x ≡ stored (reported (anew s) (anew m) n) lent → x ≡ stored (reported s m n) lent
  number_stored lent x h = h ∙ ap (λ (y : Told). stored y lent) (reported_anew s m n)

-- room beyond 32 bytes makes no difference
room_enough : (s m : List ℕ) (n : ℕ) → 32 ≤ n → reported s m 32 ≡ reported s m n
unfolding reported reported_from bounded
room_enough s m n h = go (state_of s)
  where
    go : (g : Option Guard) → reported_from g m 32 ≡ reported_from g m n
    go none = refl
    go (some g) = rw (le-ltb n 32 h)

pub room_least : (s m : List ℕ) (n i r : ℕ) (l : List ℕ) (k : ℕ) → length l ≡ 32 → k ≡ min n 32 → r ≡ get_or (told_numbers (reported s m (length (take (k - 0) (drop 0 l))))) i 0
    → r ≡ get_or (told_numbers (reported s m n)) i 0
room_least s m n i r l k e f q =
    let w : length (take (k - 0) (drop 0 l)) ≡ k = omega (arith, length-take (k - 0) (drop 0 l), length-drop 0 l) in
    q ∙ ap (λ (j : ℕ). get_or (told_numbers (reported s m j)) i 0) w ∙ go (leb 32 n) refl
  where
    go : (b : Bool) → leb 32 n ≡ b → get_or (told_numbers (reported s m k)) i 0 ≡ get_or (told_numbers (reported s m n)) i 0
    go true h =
        let z : k ≡ 32 = omega (arith, leb-true 32 n h) in
        ap (λ (j : ℕ). get_or (told_numbers (reported s m j)) i 0) z ∙ ap (λ (t : Told). get_or (told_numbers t) i 0) (room_enough s m n (leb-true 32 n h))
    go false h = let z : k ≡ n = omega (arith, leb-false 32 n h) in ap (λ (j : ℕ). get_or (told_numbers (reported s m j)) i 0) z
