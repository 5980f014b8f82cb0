-- The loops that look through entries and messages: what is left of them decides the answer. Assumes nothing.
--
--   Looking, looking_..    whether an entry before clashes with a message
--   Seeking, seeking_..    the first message that is too long
use Rattle.std.proofs.Common.{◌≡◌, ℕ, suc, ◌+◌, ◌*◌, ◌/◌, ◌%◌, ◌<◌, ◌≤◌, Bool, true, false, ◌||◌, List, [], ◌∷◌, length, get_or, drop, ◌≢◌, ◌-◌, Some, None, sym, refl, ap, ◌∙◌, subst, add-one, arith, drop-cons, le-ltb, lt-ltb}
use Rattle.bursts.specs.Bursts.{Waiting, Entry, most, waitings, entries, message_at, length_of, any_entry, too_long}
use Rattle.bursts.specs.BurstDemands.{no_entry, entry_at}
use Rattle.bursts.specs.Running.{Known, clashing, clashes}
use Rattle.bursts.proofs.RunningLaws.{drop_all}
use Rattle.bursts.proofs.PairLaws.{waitings_count, entries_count, length_at, message_at_lem}

-- ---- the entries before

pub record Looking (ms ns : List ℕ) (m j : ℕ) : Type 0 where
  pub inside : j ≤ length ns / 2
  pub rest : clashes (waitings ms) m (entries ns) ≡ clashes (waitings ms) m (drop j (entries ns))

clashes_cons : (ws : List Waiting) (m : ℕ) (e : Entry) (es : List Entry) → clashes ws m (e ∷ es) ≡ (clashing ws m e.message || clashes ws m es)
unfolding clashes any_entry
clashes_cons ws m e es = refl

clashes_none : (ws : List Waiting) (m : ℕ) → clashes ws m [] ≡ false
unfolding clashes any_entry
clashes_none ws m = refl

module _ (ms ns : List ℕ) (m j : ℕ) (l : Looking ms ns m j) where
  module _ (h : j < length ns / 2) where
    pub looking_known : Known (waitings ms) (entries ns) → get_or ns (2 * j) 0 < length ms / 2
    looking_known k = omega (arith, message_at_lem ns j h, k.at j (omega (arith, entries_count ns)), waitings_count ms)

    module _ (t : Bool) (e : t ≡ clashing (waitings ms) m (get_or ns (2 * j) 0)) where
      looked : clashes (waitings ms) m (entries ns) ≡ (t || clashes (waitings ms) m (drop (suc j) (entries ns)))
      looked =
          l.rest
          ∙ ap (clashes (waitings ms) m) (drop-cons (entries ns) j no_entry (omega (arith, entries_count ns)))
          ∙ clashes_cons (waitings ms) m (entry_at (entries ns) j) (drop (suc j) (entries ns))
          ∙ ap (λ (b : Bool). b || clashes (waitings ms) m (drop (suc j) (entries ns))) (ap (clashing (waitings ms) m) (message_at_lem ns j h) ∙ sym e)

      pub looking_found : t ≡ true → true ≡ clashes (waitings ms) m (entries ns)
      looking_found q = sym (looked ∙ rw q)

      pub looking_next : t ≡ false → Looking ms ns m (j + 1)
      looking_next q = record { inside = omega arith; rest = looked ∙ rw (q, add-one) }

  pub looking_done : length ns / 2 ≤ j → false ≡ clashes (waitings ms) m (entries ns)
  looking_done h = sym (l.rest ∙ ap (clashes (waitings ms) m) (drop_all j (entries ns) (omega (arith, entries_count ns))) ∙ clashes_none (waitings ms) m)

-- ---- the first message that is too long

pub record Seeking (ms : List ℕ) (i : ℕ) : Type 0 where
  pub inside : i ≤ length ms / 2
  pub rest : too_long 0 (waitings ms) ≡ too_long i (drop i (waitings ms))

long_here : (i : ℕ) (w : Waiting) (ws : List Waiting) → most < w.bytes → too_long i (w ∷ ws) ≡ Some i
unfolding too_long
long_here i w ws h = rw (lt-ltb most w.bytes h)

long_later : (i : ℕ) (w : Waiting) (ws : List Waiting) → w.bytes ≤ most → too_long i (w ∷ ws) ≡ too_long (suc i) ws
unfolding too_long
long_later i w ws h = rw (le-ltb most w.bytes h)

module _ (ms : List ℕ) (i : ℕ) (s : Seeking ms i) where
  module _ (h : i < length ms / 2) where
    split : too_long 0 (waitings ms) ≡ too_long i (message_at (waitings ms) i ∷ drop (suc i) (waitings ms))
    unfolding message_at
    split = s.rest ∙ ap (too_long i) (drop-cons (waitings ms) i _ (omega (arith, waitings_count ms)))

    bytes : (message_at (waitings ms) i).bytes ≡ get_or ms (2 * i) 0
    unfolding length_of
    bytes = length_at ms i h

    pub seeking_here : 340 < get_or ms (2 * i) 0 → Some i ≡ too_long 0 (waitings ms)
    seeking_here l = sym (split ∙ long_here i (message_at (waitings ms) i) (drop (suc i) (waitings ms)) (omega (arith, bytes)))

    pub seeking_next : get_or ms (2 * i) 0 ≤ 340 → Seeking ms (i + 1)
    seeking_next l = record { inside = omega arith; rest = split ∙ long_later i (message_at (waitings ms) i) (drop (suc i) (waitings ms)) (omega (arith, bytes)) ∙ rw add-one }

  pub seeking_done : length ms / 2 ≤ i → None ≡ too_long 0 (waitings ms)
  unfolding too_long
  seeking_done h = sym (s.rest ∙ ap (too_long i) (drop_all i (waitings ms) (omega (arith, waitings_count ms))))

-- two messages a turn
module _ (ms : List ℕ) (turn : ℕ) (s : Seeking ms (2 * turn)) where
  module _ (h : turn < length ms / 2 / 2) where
    pub seeking_first : 340 < get_or ms (2 * (2 * turn)) 0 → Some (2 * turn) ≡ too_long 0 (waitings ms)
    seeking_first l = seeking_here ms (2 * turn) s (omega arith) l

    module _ (a : get_or ms (2 * (2 * turn)) 0 ≤ 340) where
      second : Seeking ms (2 * turn + 1)
      second = seeking_next ms (2 * turn) s (omega arith) a

      pub seeking_second : 340 < get_or ms (2 * (2 * turn + 1)) 0 → Some (2 * turn + 1) ≡ too_long 0 (waitings ms)
      seeking_second l = seeking_here ms (2 * turn + 1) second (omega arith) l

      pub seeking_on : get_or ms (2 * (2 * turn + 1)) 0 ≤ 340 → Seeking ms (2 * (turn + 1))
      seeking_on b = let e : 2 * turn + 1 + 1 ≡ 2 * (turn + 1) = omega arith in subst (λ (n : ℕ). Seeking ms n) e (seeking_next ms (2 * turn + 1) second (omega arith) b)

  -- the last message, if their number is odd
  module _ (e : length ms / 2 / 2 ≤ turn) where
    pub seeking_even : length ms / 2 % 2 ≢ 1 → None ≡ too_long 0 (waitings ms)
    seeking_even n = seeking_done ms (2 * turn) s (omega arith)

    module _ (odd : length ms / 2 % 2 ≡ 1) where
      at : 2 * turn ≡ length ms / 2 - 1
      at = let i = s.inside in omega arith

      last : Seeking ms (length ms / 2 - 1)
      last = subst (λ (n : ℕ). Seeking ms n) at s

      pub seeking_last : 340 < get_or ms (2 * (length ms / 2 - 1)) 0 → Some (length ms / 2 - 1) ≡ too_long 0 (waitings ms)
      seeking_last l = seeking_here ms (length ms / 2 - 1) last (omega arith) l

      pub seeking_none : get_or ms (2 * (length ms / 2 - 1)) 0 ≤ 340 → None ≡ too_long 0 (waitings ms)
      seeking_none b = seeking_done ms (length ms / 2 - 1 + 1) (seeking_next ms (length ms / 2 - 1) last (omega arith) b) (omega arith)
