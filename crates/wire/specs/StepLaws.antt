-- What the code's answers say of a reader, in the shape of the facts after a call and a match: the answer, what the callee
-- ensures of it, and the variant that it is. A reader that is called on `&s[n..]` sees `take (length s - n) (drop n s)`.
--
--   rest_is                        that part is what is left
--   step_took, _fault              what an answer says of the result; sized_is, _isnt of a number; bytes_is, _isnt of bytes
--   took_held, bad_held            bytes taken and places lie within the bytes given; took_within, bad_within within what is left
--   sized_held                     the same of a number
--   rest_took, _bad                an answer about the rest, moved past the bytes before it
--   then_none, _took, _bad         one reader, then another
--   with_none, _took, _bad, _ends  a number, then what depends on it
--   rest_later, then_later, with_later, turns_later_..   the same of an answer moved by `later`
--   Left, left_..                  what holds at the head of a loop over readings, and what a turn makes of it; turns_.. of one reading; each_.. the same for a loop over 0..n
use Rattle.std.specs.Prelude.{◌≡◌, refl, Result, Ok, Err, List, ℕ, zero, suc, ◌+◌, ◌-◌, ◌≤◌, ◌<◌, length, take, drop}
use Rattle.std.proofs.Common.{sym, ap, ◌∙◌, arith, add-zero, sub-one, length-drop, take_all, drop-drop}
use Rattle.encoding.specs.Result.{Res, ok, bad, Parser, shift, after, ◌>>=◌, pure, times}
use Rattle.encoding.proofs.ResultLaws.{shift_shift, Held, held_took, held_refused}
use Rattle.wire.specs.declared.Refusal.{Refusal}
use Rattle.wire.specs.declared.Counted.{Counted}
use Rattle.wire.specs.Steps.{step_of, sized_of, bytes_of, behind, later, LaterFits}

pub rest_is : (s : List ℕ) (n : ℕ) → take (length s - n) (drop n s) ≡ drop n s
rest_is s n = take_all (length s - n) (drop n s) (omega (arith, length-drop n s))

-- ---- what an answer says of the result

pub step_took : {A : Type 0} (r : Res A) (n : ℕ) → Ok n ≡ step_of r → (a : A) × (r ≡ ok a n)
unfolding step_of
step_took (ok a m) n h = let e : m ≡ n = cc in (a, ap (ok a) e)
step_took (bad c p) n h = let z : ◌≡◌ {A = ℕ} 0 1 = cc in absurd (omega arith)

pub step_fault : {A : Type 0} (r : Res A) (x : Refusal) → Err x ≡ step_of r → r ≡ bad x.number x.place
unfolding step_of
step_fault (ok a m) x h = let z : ◌≡◌ {A = ℕ} 0 1 = cc in absurd (omega arith)
step_fault (bad c q) x h = let e : x ≡ record { number = c; place = q } = cc in rw e refl

pub sized_is : (r : Res ℕ) (x : Counted) → Ok x ≡ sized_of r → r ≡ ok x.number x.bytes
unfolding sized_of
sized_is (ok a m) x h = let e : x ≡ record { number = a; bytes = m } = cc in rw e refl
sized_is (bad c p) x h = let z : ◌≡◌ {A = ℕ} 0 1 = cc in absurd (omega arith)

pub sized_isnt : (r : Res ℕ) (x : Refusal) → Err x ≡ sized_of r → r ≡ bad x.number x.place
unfolding sized_of
sized_isnt (ok a m) x h = let z : ◌≡◌ {A = ℕ} 0 1 = cc in absurd (omega arith)
sized_isnt (bad c q) x h = let e : x ≡ record { number = c; place = q } = cc in rw e refl

pub bytes_is : (r : Res (List ℕ)) (x : Counted) → Ok x ≡ bytes_of r → (d : List ℕ) × (r ≡ ok d x.bytes) × (x.number ≡ length d)
unfolding bytes_of
bytes_is (ok d m) x h = let e : x ≡ record { number = length d; bytes = m } = cc in (d, rw e refl, rw e refl)
bytes_is (bad c p) x h = let z : ◌≡◌ {A = ℕ} 0 1 = cc in absurd (omega arith)

pub bytes_isnt : (r : Res (List ℕ)) (x : Refusal) → Err x ≡ bytes_of r → r ≡ bad x.number x.place
unfolding bytes_of
bytes_isnt (ok d m) x h = let z : ◌≡◌ {A = ℕ} 0 1 = cc in absurd (omega arith)
bytes_isnt (bad c q) x h = let e : x ≡ record { number = c; place = q } = cc in rw e refl

-- ---- within the bytes given, and within what is left of them

module _ {A : Type 0} (p : Parser A) (P : Held p) (s : List ℕ) (r : Result ℕ Refusal) where
  pub took_held : r ≡ step_of (p s) → (m : ℕ) → r ≡ Ok m → m ≤ length s
  took_held e m q = held_took p P s (step_took (p s) m (sym q ∙ e)).1

  pub bad_held : r ≡ step_of (p s) → (x : Refusal) → r ≡ Err x → x.place ≤ length s
  bad_held e x q = held_refused p P s (step_fault (p s) x (sym q ∙ e))

module _ {A : Type 0} (p : Parser A) (P : Held p) (s : List ℕ) (n : ℕ) (r : Result ℕ Refusal) (e : r ≡ step_of (p (take (length s - n) (drop n s)))) where
  pub took_within : (m : ℕ) → r ≡ Ok m → m ≤ length s - n
  took_within m q = omega (arith, took_held p P (drop n s) r (rw rest_is at e) m q, length-drop n s)

  pub bad_within : (x : Refusal) → r ≡ Err x → x.place ≤ length s - n
  bad_within x q = omega (arith, bad_held p P (drop n s) r (rw rest_is at e) x q, length-drop n s)

pub sized_held : (p : Parser ℕ) (P : Held p) (s : List ℕ) (r : Result Counted Refusal) → r ≡ sized_of (p s) → (x : Counted) → r ≡ Ok x → x.bytes ≤ length s
sized_held p P s r e x q = held_took p P s (sized_is (p s) x (sym q ∙ e))

-- ---- one after another

-- an answer about the rest, moved past the n bytes before it
moved_took : {A : Type 0} (n : ℕ) (r : Res A) (m : ℕ) → Ok m ≡ step_of r → Ok (n + m) ≡ step_of (shift n r)
unfolding step_of shift
moved_took n (ok a k) m h = let e : m ≡ k = cc in ap (λ (i : ℕ). Ok (n + i)) e
moved_took n (bad c p) m h = let z : ◌≡◌ {A = ℕ} 0 1 = cc in absurd (omega arith)

moved_bad : {A : Type 0} (n : ℕ) (r : Res A) (x : Refusal) → Err x ≡ step_of r → Err (behind n x) ≡ step_of (shift n r)
unfolding step_of shift
moved_bad n r x h = rw (step_fault r x h)

later_of : {A : Type 0} (n : ℕ) (r : Res A) → later n (step_of r) ≡ step_of (shift n r)
unfolding step_of shift
later_of n (ok a m) = refl
later_of n (bad c p) = refl

module _ {A : Type 0} (p : Parser A) (s : List ℕ) (n : ℕ) (r : Result ℕ Refusal) (e : r ≡ step_of (p (take (length s - n) (drop n s)))) where
  pub rest_later : later n r ≡ step_of (shift n (p (drop n s)))
  rest_later = ap (later n) (rw rest_is at e) ∙ later_of n (p (drop n s))

  pub rest_took : (m : ℕ) → r ≡ Ok m → Ok (n + m) ≡ step_of (shift n (p (drop n s)))
  rest_took m q = moved_took n (p (drop n s)) m (sym q ∙ rw rest_is at e)

  pub rest_bad : (x : Refusal) → r ≡ Err x → Err (behind n x) ≡ step_of (shift n (p (drop n s)))
  rest_bad x q = moved_bad n (p (drop n s)) x (sym q ∙ rw rest_is at e)

module _ {A B : Type 0} (p : Parser A) (q : Parser B) (s : List ℕ) (r : Result ℕ Refusal) (e : r ≡ step_of (p s)) where
  pub then_none : (x : Refusal) → r ≡ Err x → Err x ≡ step_of ((p >>= λ _. q) s)
  unfolding ◌>>=◌ after step_of
  then_none x h = rw (step_fault (p s) x (sym h ∙ e))

  -- what the second gives, after what the first took
  then_rest : (n : ℕ) → r ≡ Ok n → (p >>= λ _. q) s ≡ shift n (q (drop n s))
  unfolding ◌>>=◌ after
  then_rest n h = rw (step_took (p s) n (sym h ∙ e)).1

  module _ (n : ℕ) (h : r ≡ Ok n) (t : Result ℕ Refusal) (d : t ≡ step_of (q (take (length s - n) (drop n s)))) where
    pub then_later : later n t ≡ step_of ((p >>= λ _. q) s)
    then_later = rw (then_rest n h) (rest_later q s n t d)

    pub then_took : (m : ℕ) → t ≡ Ok m → Ok (n + m) ≡ step_of ((p >>= λ _. q) s)
    then_took m g = rw (then_rest n h) (rest_took q s n t d m g)

    pub then_bad : (x : Refusal) → t ≡ Err x → Err (behind n x) ≡ step_of ((p >>= λ _. q) s)
    then_bad x g = rw (then_rest n h) (rest_bad q s n t d x g)

module _ {B : Type 0} (p : Parser ℕ) (f : ℕ → Parser B) (s : List ℕ) (r : Result Counted Refusal) (e : r ≡ sized_of (p s)) where
  pub with_none : (x : Refusal) → r ≡ Err x → Err x ≡ step_of ((p >>= f) s)
  unfolding ◌>>=◌ after step_of
  with_none x h = rw (sized_isnt (p s) x (sym h ∙ e))

  with_rest : (x : Counted) → r ≡ Ok x → (p >>= f) s ≡ shift x.bytes (f x.number (drop x.bytes s))
  unfolding ◌>>=◌ after
  with_rest x h = rw (sized_is (p s) x (sym h ∙ e))

  module _ (x : Counted) (h : r ≡ Ok x) where
    module _ (t : Result ℕ Refusal) (d : t ≡ step_of (f x.number (take (length s - x.bytes) (drop x.bytes s)))) where
      pub with_later : later x.bytes t ≡ step_of ((p >>= f) s)
      with_later = rw (with_rest x h) (rest_later (f x.number) s x.bytes t d)

      pub with_took : (m : ℕ) → t ≡ Ok m → Ok (x.bytes + m) ≡ step_of ((p >>= f) s)
      with_took m g = rw (with_rest x h) (rest_took (f x.number) s x.bytes t d m g)

      pub with_bad : (y : Refusal) → t ≡ Err y → Err (behind x.bytes y) ≡ step_of ((p >>= f) s)
      with_bad y g = rw (with_rest x h) (rest_bad (f x.number) s x.bytes t d y g)

    -- where nothing follows
    pub with_ends : (b : B) → f x.number (drop x.bytes s) ≡ ok b 0 → Ok x.bytes ≡ step_of ((p >>= f) s)
    unfolding shift step_of
    with_ends b d = rw (with_rest x h, d, add-zero)

-- ---- loops

-- All that there is to read comes to what `rest` reads from `at` on.
pub record Left {A : Type 0} (s : List ℕ) (whole : Result ℕ Refusal) (rest : Parser A) (at : ℕ) : Type 0 where
  pub inside : at ≤ length s
  pub says : whole ≡ step_of (shift at (rest (drop at s)))

shift_zero : {A : Type 0} (r : Res A) → r ≡ shift 0 r
unfolding shift
shift_zero (ok a n) = ap (ok a) (omega arith)
shift_zero (bad c p) = ap (bad c) (omega arith)

pub left_begin : {A : Type 0} (s : List ℕ) (p : Parser A) → Left s (step_of (p s)) p 0
left_begin s p = record { inside = omega arith; says = ap step_of (shift_zero (p s)) }

module _ {A B : Type 0} (s : List ℕ) (whole : Result ℕ Refusal) (p : Parser A) (rest : Parser B) (at : ℕ) (inv : Left s whole (p >>= λ _. rest) at)
    (r : Result ℕ Refusal) (e : r ≡ step_of (p (take (length s - at) (drop at s)))) where
  pub left_next : (P : Held p) (m : ℕ) → r ≡ Ok m → Left s whole rest (at + m)
  left_next P m q = record {
    inside = omega (arith, took_within p P s at r e m q, inv.inside);
    says = inv.says ∙ ap (λ (x : Res B). step_of (shift at x)) (then_rest p rest (drop at s) r (rw rest_is at e) m q)
        ∙ ap step_of (shift_shift at m _) ∙ ap (λ (l : List ℕ). step_of (shift (at + m) (rest l))) (drop-drop m at s);
  }

  pub left_fault : (x : Refusal) → r ≡ Err x → Err (behind at x) ≡ whole
  left_fault x q = moved_bad at _ x (then_none p rest (drop at s) r (rw rest_is at e) x q) ∙ sym inv.says

pub left_done : {A : Type 0} (s : List ℕ) (whole : Result ℕ Refusal) (a : A) (at : ℕ) → Left s whole (pure a) at → Ok at ≡ whole
unfolding pure shift step_of
left_done s whole a at inv = ap Ok (sym (add-zero at)) ∙ sym inv.says

-- the same reading, `left` more times
times_more : (p : Parser (Unit {0})) (left : ℕ) → 0 < left → times left p ≡ (p >>= λ _. times (left - 1) p)
unfolding times
times_more p zero h = absurd (omega arith)
times_more p (suc n) h = rw sub-one

times_none : (p : Parser (Unit {0})) (left : ℕ) → left ≤ 0 → times left p ≡ pure tt
unfolding times
times_none p zero h = refl
times_none p (suc n) h = absurd (omega arith)

module _ (p : Parser (Unit {0})) (P : Held p) where
  pub turns_begin : (s : List ℕ) (n : ℕ) → Left s (step_of (times n p s)) (times n p) 0
  turns_begin s n = left_begin s (times n p)

  module _ (s : List ℕ) (whole : Result ℕ Refusal) (left at : ℕ) (inv : Left s whole (times left p) at) where
    pub turns_done : left ≤ 0 → Ok at ≡ whole
    turns_done h = left_done s whole tt at (rw (times_none p left h) at inv)

    module _ (h : 0 < left) (r : Result ℕ Refusal) (e : r ≡ step_of (p (take (length s - at) (drop at s)))) where
      pub turns_next : (m : ℕ) → r ≡ Ok m → Left s whole (times (left - 1) p) (at + m)
      turns_next m q = left_next s whole p (times (left - 1) p) at (rw (times_more p left h) at inv) r e P m q

      pub turns_fault : (x : Refusal) → r ≡ Err x → Err (behind at x) ≡ whole
      turns_fault x q = left_fault s whole p (times (left - 1) p) at (rw (times_more p left h) at inv) r e x q

      -- the turn's answer, counted from the first byte
      pub turns_later_next : (m : ℕ) → later at r ≡ Ok m → Left s whole (times (left - 1) p) m
      turns_later_next m q = go r refl
        where
          go : (t : Result ℕ Refusal) → r ≡ t → Left s whole (times (left - 1) p) m
          go (Ok k) g = let z : at + k ≡ m = cc (g, q) in rw z at (turns_next k g)
          go (Err x) g = let z : ◌≡◌ {A = ℕ} 0 1 = cc (g, q) in absurd (omega arith)

      pub turns_later_fault : (x : Refusal) → later at r ≡ Err x → Err x ≡ whole
      turns_later_fault x q = go r refl
        where
          go : (t : Result ℕ Refusal) → r ≡ t → Err x ≡ whole
          go (Ok k) g = let z : ◌≡◌ {A = ℕ} 0 1 = cc (g, q) in absurd (omega arith)
          go (Err y) g = sym q ∙ ap (later at) g ∙ turns_fault y g

-- ---- n readings by a loop `for i in 0..n`

module _ (p : Parser (Unit {0})) (P : Held p) where
  pub each_begin : (s : List ℕ) (n : ℕ) → Left s (step_of (times n p s)) (times (n - 0) p) 0
  each_begin s n = let z : n - 0 ≡ n = omega arith in rw z (turns_begin p P s n)

  module _ (s : List ℕ) (whole : Result ℕ Refusal) (n i at : ℕ) (inv : Left s whole (times (n - i) p) at) where
    pub each_done : n ≤ i → Ok at ≡ whole
    each_done h = turns_done p P s whole (n - i) at inv (omega arith)

    module _ (h : i < n) (r : Result ℕ Refusal) (e : r ≡ step_of (p (take (length s - at) (drop at s)))) where
      after_one : n - i - 1 ≡ n - (i + 1)
      after_one = omega arith

      pub each_next : (m : ℕ) → r ≡ Ok m → Left s whole (times (n - (i + 1)) p) (at + m)
      each_next m q = rw after_one at (turns_next p P s whole (n - i) at inv (omega arith) r e m q)

      pub each_fault : (x : Refusal) → r ≡ Err x → Err (behind at x) ≡ whole
      each_fault x q = turns_fault p P s whole (n - i) at inv (omega arith) r e x q

      -- the turn's answer, counted from the first byte
      pub each_later_next : (m : ℕ) → later at r ≡ Ok m → Left s whole (times (n - (i + 1)) p) m
      each_later_next m q = rw after_one at (turns_later_next p P s whole (n - i) at inv (omega arith) r e m q)

      pub each_later_fault : (x : Refusal) → later at r ≡ Err x → Err x ≡ whole
      each_later_fault x q = turns_later_fault p P s whole (n - i) at inv (omega arith) r e x q
