-- The laws of readers, once per combinator.
--
--   _ok, _step         what follows from acceptance by a combinator; when it accepts
--   both-, either-     tests joined; same_bytes_ok, same_bytes_same: equal lists
--   shift_shift        moved twice
--   Framed p           the frame: where p accepts, it looks at nothing but what it takes
--   Held p             the bytes that p takes, and the places of its refusals, lie within the input
--   Ends p             what p delivers is the end of what it takes
--   Eats p             p takes at least one byte
--   Starved p          on nothing, p is 4 here
--   many_enough        fuel is never used up: as many turns as there are bytes give what any greater number gives
--   Run                a loop that accepts, turn by turn
--   Closed             a property that each way of joining readers keeps; framed and held are two; each reader has it by its closed- law
use Rattle.std.specs.Prelude.{◌≡◌, Bool, ◌&&◌, ◌||◌, drop}
use Rattle.std.proofs.Math.Path.{refl, ap, subst}
use Rattle.std.proofs.Common.{sym, ap₂, ◌∙◌, true≢false, length-append, take-append-drop, take-add, drop_at, drop-drop, take_at, length-take-le}
use Rattle.std.proofs.Math.Bool.{true, false}
use Rattle.std.proofs.lemmas.Bool.{false≢true}
use Rattle.std.proofs.Math.Option.{Option, none, some}
use mathlib.Core.List.{List, [], ◌∷◌, ◌++◌, map, append_assoc, append-nil}
use Prim.Native.Nat.{ℕ, zero, suc, ◌+◌, ◌-◌, ◌≤◌, ◌<◌}
use native.Mathlib.Omega.{arith}
use Rattle.std.proofs.Math.ListN.{length, take, length-drop}
use Rattle.std.proofs.Math.Dec.{eqb, leb}
use borrow.Author.Tests.{eqb-true, eqb-false, leb-true, le-leb, lt-leb, eq-eqb, leb-false}
use Rattle.encoding.specs.Result.{Res, ok, bad, Parser, pick, shift, after, ◌>>=◌, pure, fail, chunk, skip, at_first, item, judged, must, made, mapc, bytes, recalled, recall, leave, enter, inside, times, turn, many, at_end, at_mark, first_of, same_bytes}

-- ---- acceptance and refusal exclude each other

pub ok≢bad : {A : Type 0} {r : Res A} {a : A} {n c p : ℕ} → r ≡ ok a n → r ≡ bad c p → ⊥
ok≢bad e h = let z : ◌≡◌ {A = ℕ} 0 1 = cc in omega arith

pub some≢none : {A : Type 0} {o : Option A} {a : A} → o ≡ some a → o ≡ none → ⊥
some≢none e h = let z : ◌≡◌ {A = ℕ} 0 1 = cc in omega arith

-- ---- tests

pub both_true : (a b : Bool) → a && b ≡ true → (a ≡ true) × (b ≡ true)
both_true true b h = (refl, h)
both_true false b h = absurd (false≢true h)

pub both_false : (a b : Bool) → a && b ≡ false → a ≡ true → b ≡ false
both_false true b h e = h
both_false false b h e = absurd (false≢true e)

pub either_false : (a b : Bool) → a || b ≡ false → (a ≡ false) × (b ≡ false)
either_false true b h = absurd (true≢false h)
either_false false b h = (refl, h)

pub same_bytes_ok : (xs ys : List ℕ) → same_bytes xs ys ≡ true → xs ≡ ys
unfolding same_bytes
same_bytes_ok [] [] h = refl
same_bytes_ok [] (y ∷ ys) h = absurd (false≢true h)
same_bytes_ok (x ∷ xs) [] h = absurd (false≢true h)
same_bytes_ok (x ∷ xs) (y ∷ ys) h = let b = both_true (eqb x y) (same_bytes xs ys) h in ap₂ ◌∷◌ (eqb-true x y b.0) (same_bytes_ok xs ys b.1)

same_bytes_self : (xs : List ℕ) → same_bytes xs xs ≡ true
unfolding same_bytes
same_bytes_self [] = refl
same_bytes_self (x ∷ xs) = rw (eq-eqb x x refl) (same_bytes_self xs)

pub same_bytes_same : (xs ys : List ℕ) → xs ≡ ys → same_bytes xs ys ≡ true
same_bytes_same xs ys e = ap (λ (l : List ℕ). same_bytes xs l) (sym e) ∙ same_bytes_self xs

-- ---- judgements

-- a judgement that passes passed its first test, and the others
pub first_of_ok : (n : ℕ) (b : Bool) (l : List (ℕ × Bool)) → first_of ((suc n, b) ∷ l) ≡ 0 → (b ≡ false) × (first_of l ≡ 0)
unfolding first_of
first_of_ok n true l h = absurd (omega arith)
first_of_ok n false l h = (refl, h)

-- a refusal where a test is true passes where it is false
pub pick_ok : (b : Bool) (n : ℕ) → ◌≡◌ {A = ℕ} (pick b (suc n) 0) 0 → b ≡ false
pick_ok true n h = absurd (omega arith)
pick_ok false n h = refl

-- a test that has to be true
pub pick_true : (b : Bool) (n : ℕ) → ◌≡◌ {A = ℕ} (pick b 0 (suc n)) 0 → b ≡ true
pick_true true n h = refl
pick_true false n h = absurd (omega arith)

-- ---- moved

pub shift_shift : {A : Type 0} (n m : ℕ) (r : Res A) → shift n (shift m r) ≡ shift (n + m) r
unfolding shift
shift_shift n m (ok a k) = ap (ok a) (omega arith)
shift_shift n m (bad c p) = ap (bad c) (omega arith)

-- ---- what follows from acceptance, and when a reader accepts

pub record Bound {A B : Type 0} (p : Parser A) (f : A → Parser B) (xs : List ℕ) (b : B) (k : ℕ) : Type 0 where
  pub fst : A
  pub n : ℕ
  pub m : ℕ
  pub first : p xs ≡ ok fst n
  pub next : f fst (drop n xs) ≡ ok b m
  pub sum : k ≡ n + m

module _ {A B : Type 0} (p : Parser A) (f : A → Parser B) (xs : List ℕ) where
  pub bind_ok : {b : B} {k : ℕ} → (p >>= f) xs ≡ ok b k → Bound p f xs b k
  unfolding ◌>>=◌ after shift
  bind_ok {b} {k} h = go (p xs) refl h
    where
      go₂ : (a : A) (n : ℕ) → p xs ≡ ok a n → (r : Res B) → f a (drop n xs) ≡ r → shift n r ≡ ok b k → Bound p f xs b k
      go₂ a n e (ok b' m) e₂ h = record { fst = a; n = n; m = m; first = e; next = cc; sum = cc }
      go₂ a n e (bad c q) e₂ h = absurd (ok≢bad h refl)

      go : (r : Res A) → p xs ≡ r → after r f xs ≡ ok b k → Bound p f xs b k
      go (ok a n) e h = go₂ a n e (f a (drop n xs)) refl h
      go (bad c q) e h = absurd (ok≢bad h refl)

  pub bind_step : {a : A} {n : ℕ} {b : B} {m : ℕ} → p xs ≡ ok a n → f a (drop n xs) ≡ ok b m → (p >>= f) xs ≡ ok b (n + m)
  unfolding ◌>>=◌ after shift
  bind_step e₁ e₂ = rw (◌>>=◌, e₁, e₂)

  -- the bytes that the two took
  pub bind_take : {b : B} {k : ℕ} (B' : Bound p f xs b k) → take k xs ≡ take B'.n xs ++ take B'.m (drop B'.n xs)
  bind_take B' = rw B'.sum (take-add B'.n B'.m xs)

  -- where the first is refused
  pub bind_bad : {c q : ℕ} → p xs ≡ bad c q → (p >>= f) xs ≡ bad c q
  unfolding ◌>>=◌ after
  bind_bad e = rw (◌>>=◌, e)

  -- where it is not
  pub bind_next : {a : A} {n : ℕ} → p xs ≡ ok a n → (p >>= f) xs ≡ shift n (f a (drop n xs))
  unfolding ◌>>=◌ after
  bind_next e = rw (◌>>=◌, e)

-- a refusal of one reader after another is the first one's, or the next one's
pub data BindRefused {A B : Type 0} (p : Parser A) (f : A → Parser B) (xs : List ℕ) (c q : ℕ) : Type 0 where
  at_first_lem : p xs ≡ bad c q → BindRefused p f xs c q
  at_next : {a : A} {n k : ℕ} → p xs ≡ ok a n → f a (drop n xs) ≡ bad c k → q ≡ n + k → BindRefused p f xs c q

pub bind_refused : {A B : Type 0} (p : Parser A) (f : A → Parser B) (xs : List ℕ) {c q : ℕ} → (p >>= f) xs ≡ bad c q → BindRefused p f xs c q
unfolding ◌>>=◌ after shift
bind_refused {A} {B} p f xs {c} {q} h = go (p xs) refl h
  where
    next : (a : A) (n : ℕ) → p xs ≡ ok a n → (r : Res B) → f a (drop n xs) ≡ r → shift n r ≡ bad c q → BindRefused p f xs c q
    next a n e (ok b m) i h = absurd (ok≢bad refl h)
    next a n e (bad d k) i h =
        let s : d ≡ c = cc in
        let t : n + k ≡ q = cc in
        at_next e (i ∙ ap (λ (x : ℕ). bad x k) s) (sym t)

    go : (r : Res A) → p xs ≡ r → after r f xs ≡ bad c q → BindRefused p f xs c q
    go (ok a n) e h = next a n e (f a (drop n xs)) refl h
    go (bad d k) e h =
        let s : d ≡ c = cc in
        let t : k ≡ q = cc in
        at_first_lem (e ∙ ap₂ (λ (x y : ℕ). bad x y) s t)

-- a refusal of a judged reader is its own, or that of the judgement
pub data MustRefused {A : Type 0} (p : Parser A) (f : A → ℕ) (xs : List ℕ) (c q : ℕ) : Type 0 where
  by_reader : p xs ≡ bad c q → MustRefused p f xs c q
  by_judge : {a : A} {n : ℕ} → p xs ≡ ok a n → f a ≡ c → (f a ≡ 0 → ⊥) → q ≡ 0 → MustRefused p f xs c q

pub must_refused : {A : Type 0} (p : Parser A) (f : A → ℕ) (xs : List ℕ) {c q : ℕ} → must f p xs ≡ bad c q → MustRefused p f xs c q
unfolding must judged
must_refused {A} p f xs {c} {q} h = go (p xs) refl h
  where
    judge : (a : A) (n : ℕ) → p xs ≡ ok a n → (b : Bool) → eqb (f a) 0 ≡ b → pick b (ok a n) (bad (f a) 0) ≡ bad c q → MustRefused p f xs c q
    judge a n e true z h = absurd (ok≢bad refl h)
    judge a n e false z h =
        let s : f a ≡ c = cc in
        let t : 0 ≡ q = cc in
        by_judge e s (eqb-false (f a) 0 z) (sym t)

    go : (r : Res A) → p xs ≡ r → judged f r ≡ bad c q → MustRefused p f xs c q
    go (ok a n) e h = judge a n e (eqb (f a) 0) refl h
    go (bad d k) e h = by_reader (e ∙ h)

-- a chunk is refused where it runs past the end
pub chunk_refused : {A : Type 0} (k : ℕ) (f : List ℕ → A) (xs : List ℕ) {c q : ℕ} → chunk k f xs ≡ bad c q → (length xs < k) × (c ≡ 4) × (q ≡ 0)
unfolding chunk
chunk_refused k f xs {c} {q} h = go (leb k (length xs)) refl h
  where
    go : (b : Bool) → leb k (length xs) ≡ b → pick b (ok (f (take k xs)) k) (bad 4 0) ≡ bad c q → (length xs < k) × (c ≡ 4) × (q ≡ 0)
    go true e h = absurd (ok≢bad refl h)
    go false e h = (leb-false k (length xs) e, cc, cc)

-- two parts written one after the other are read one after the other
pub bind_written : {A B : Type 0} (p : Parser A) (f : A → Parser B) (u v r : List ℕ) {a : A} {b : B}
    → p (u ++ (v ++ r)) ≡ ok a (length u) → f a (v ++ r) ≡ ok b (length v) → (p >>= f) (u ++ v ++ r) ≡ ok b (length (u ++ v))
bind_written p f u v r h k =
    rw (append_assoc u v r, length-append u v)
    (bind_step p f (u ++ (v ++ r)) h (rw (drop_at u (v ++ r) (length u) refl) k))

pub pure_ok : {A : Type 0} (a : A) (xs : List ℕ) {b : A} {n : ℕ} → pure a xs ≡ ok b n → (b ≡ a) × (n ≡ 0)
unfolding pure
pure_ok a xs h = (cc, cc)

module _ {A : Type 0} (k : ℕ) (f : List ℕ → A) where
  pub chunk_ok : (xs : List ℕ) {a : A} {n : ℕ} → chunk k f xs ≡ ok a n → (k ≤ length xs) × (a ≡ f (take k xs)) × (n ≡ k)
  unfolding chunk
  chunk_ok xs {a} {n} h = go (leb k (length xs)) refl h
    where
      go : (t : Bool) → leb k (length xs) ≡ t → pick t (ok (f (take k xs)) k) (bad 4 0) ≡ ok a n → (k ≤ length xs) × (a ≡ f (take k xs)) × (n ≡ k)
      go true e h = (leb-true k (length xs) e, cc, cc)
      go false e h = absurd (ok≢bad h refl)

  pub chunk_step : (xs : List ℕ) → k ≤ length xs → chunk k f xs ≡ ok (f (take k xs)) k
  unfolding chunk
  chunk_step xs h = rw (le-leb k (length xs) h)

  -- written bytes, read back
  pub chunk_written : (b r : List ℕ) → length b ≡ k → chunk k f (b ++ r) ≡ ok (f b) k
  chunk_written b r l = rw (chunk_step (b ++ r) (omega (arith, length-append b r)), take_at b r k l)

module _ {A : Type 0} (p : Parser A) (xs : List ℕ) where
  pub item_ok : {a : A} {n : ℕ} → item p xs ≡ ok a n → p xs ≡ ok a n
  unfolding item at_first
  item_ok {a} {n} h = go (p xs) refl h
    where
      go : (r : Res A) → p xs ≡ r → at_first r ≡ ok a n → p xs ≡ ok a n
      go (ok b m) e h = e ∙ h
      go (bad c q) e h = absurd (ok≢bad h refl)

  pub item_step : {a : A} {n : ℕ} → p xs ≡ ok a n → item p xs ≡ ok a n
  unfolding item at_first
  item_step h = rw (item, h)

  pub recall_ok : (k : ℕ) {a : A} {n : ℕ} → recall k p xs ≡ ok a n → p xs ≡ ok a n
  unfolding recall recalled
  recall_ok k {a} {n} h = go (p xs) refl h
    where
      go₂ : (c q : ℕ) (t : Bool) → pick {X = Res A} t (bad c 0) (bad c q) ≡ ok a n → ⊥
      go₂ c q true h = ok≢bad h refl
      go₂ c q false h = ok≢bad h refl

      go : (r : Res A) → p xs ≡ r → recalled k r ≡ ok a n → p xs ≡ ok a n
      go (ok b m) e h = e ∙ h
      go (bad c q) e h = absurd (go₂ c q (eqb c k) h)

  pub recall_step : (k : ℕ) {a : A} {n : ℕ} → p xs ≡ ok a n → recall k p xs ≡ ok a n
  unfolding recall recalled
  recall_step k h = rw (recall, h)

  pub must_ok : (f : A → ℕ) {a : A} {n : ℕ} → must f p xs ≡ ok a n → (p xs ≡ ok a n) × (f a ≡ 0)
  unfolding must judged
  must_ok f {a} {n} h = go (p xs) refl h
    where
      go₂ : (b : A) (m : ℕ) → p xs ≡ ok b m → (t : Bool) → eqb (f b) 0 ≡ t → pick t (ok b m) (bad (f b) 0) ≡ ok a n → (p xs ≡ ok a n) × (f a ≡ 0)
      go₂ b m e true t h = (e ∙ h, subst (λ (x : A). f x ≡ 0) (cc) (eqb-true (f b) 0 t))
      go₂ b m e false t h = absurd (ok≢bad h refl)

      go : (r : Res A) → p xs ≡ r → judged f r ≡ ok a n → (p xs ≡ ok a n) × (f a ≡ 0)
      go (ok b m) e h = go₂ b m e (eqb (f b) 0) refl h
      go (bad c q) e h = absurd (ok≢bad h refl)

  pub must_step : (f : A → ℕ) {a : A} {n : ℕ} → p xs ≡ ok a n → f a ≡ 0 → must f p xs ≡ ok a n
  unfolding must judged
  must_step f h z = rw (must, h, z)

  pub mapc_ok : {B : Type 0} (f : A → ℕ → B) {b : B} {n : ℕ} → mapc f p xs ≡ ok b n → (a : A) × (p xs ≡ ok a n) × (b ≡ f a n)
  unfolding mapc made
  mapc_ok f {b} {n} h = go (p xs) refl h
    where
      go : (r : Res A) → p xs ≡ r → made f r ≡ ok b n → (a : A) × (p xs ≡ ok a n) × (b ≡ f a n)
      go (ok a m) e h = let em : m ≡ n = cc in (a, e ∙ ap (ok a) em, cc)
      go (bad c q) e h = absurd (ok≢bad h refl)

  pub mapc_step : {B : Type 0} (f : A → ℕ → B) {a : A} {n : ℕ} → p xs ≡ ok a n → mapc f p xs ≡ ok (f a n) n
  unfolding mapc made
  mapc_step f h = rw (mapc, h)

  pub bytes_ok : {b : List ℕ} {n : ℕ} → bytes p xs ≡ ok b n → (a : A) × (p xs ≡ ok a n) × (b ≡ take n xs)
  unfolding bytes made
  bytes_ok {b} {n} h = go (p xs) refl h
    where
      go : (r : Res A) → p xs ≡ r → made (λ _ n. take n xs) r ≡ ok b n → (a : A) × (p xs ≡ ok a n) × (b ≡ take n xs)
      go (ok a m) e h = let em : m ≡ n = cc in (a, e ∙ ap (ok a) em, cc)
      go (bad c q) e h = absurd (ok≢bad h refl)

  pub bytes_step : {a : A} {n : ℕ} → p xs ≡ ok a n → bytes p xs ≡ ok (take n xs) n
  unfolding bytes made
  bytes_step h = rw (bytes, h)

pub record Entered {B : Type 0} (p : Parser (List ℕ)) (q : Parser B) (xs : List ℕ) (b : B) (n : ℕ) : Type 0 where
  pub part : List ℕ
  pub outer : p xs ≡ ok part n
  pub inner : q part ≡ ok b (length part)

module _ {B : Type 0} (p : Parser (List ℕ)) (q : Parser B) (xs : List ℕ) where
  pub inside_ok : {b : B} {n : ℕ} → inside p q xs ≡ ok b n → Entered p q xs b n
  unfolding inside enter leave
  inside_ok {b} {n} h = go (p xs) refl h
    where
      go₃ : (d : List ℕ) (k : ℕ) → p xs ≡ ok d k → (c : B) (m : ℕ) → q d ≡ ok c m → (t : Bool) → eqb m (length d) ≡ t
          → pick t (ok c k) (bad 11 0) ≡ ok b n → Entered p q xs b n
      go₃ d k e c m e₂ true t h =
          let l : m ≡ length d = eqb-true m (length d) t in
          record { part = d; outer = e ∙ ap (ok d) (cc); inner = e₂ ∙ ap (ok c) l ∙ ap (λ (x : B). ok x (length d)) (cc) }
      go₃ d k e c m e₂ false t h = absurd (ok≢bad h refl)

      go₂ : (d : List ℕ) (k : ℕ) → p xs ≡ ok d k → (r : Res B) → q d ≡ r → leave (length d) k r ≡ ok b n → Entered p q xs b n
      go₂ d k e (ok c m) e₂ h = go₃ d k e c m e₂ (eqb m (length d)) refl h
      go₂ d k e (bad c m) e₂ h = absurd (ok≢bad h refl)

      go : (r : Res (List ℕ)) → p xs ≡ r → enter q r ≡ ok b n → Entered p q xs b n
      go (ok d k) e h = go₂ d k e (q d) refl h
      go (bad c m) e h = absurd (ok≢bad h refl)

  pub inside_step : {d : List ℕ} {b : B} {n : ℕ} → p xs ≡ ok d n → q d ≡ ok b (length d) → inside p q xs ≡ ok b n
  unfolding inside enter leave
  inside_step {d} h k = rw (inside, h, k, eq-eqb (length d) (length d) refl)

-- ---- the frame

pub record TakenAgain {A : Type 0} (p : Parser A) (xs : List ℕ) (a : A) (n : ℕ) : Type 0 where
  pub fits : n ≤ length xs
  pub again : (w : List ℕ) → p (take n xs ++ w) ≡ ok a n

abbrev pub Framed : {A : Type 0} → Parser A → Type 0
Framed {A} p = (xs : List ℕ) (a : A) (n : ℕ) → p xs ≡ ok a n → TakenAgain p xs a n

module _ {A : Type 0} (p : Parser A) (F : Framed p) (xs : List ℕ) {a : A} {n : ℕ} where
  -- more bytes after them change nothing
  pub framed_more : p xs ≡ ok a n → (ys : List ℕ) → p (xs ++ ys) ≡ ok a n
  framed_more h ys =
      ap (λ (l : List ℕ). p (l ++ ys)) (sym (take-append-drop n xs))
      ∙ ap p (append_assoc (take n xs) (drop n xs) ys)
      ∙ (F xs a n h).again (drop n xs ++ ys)

  -- the bytes taken are enough
  pub framed_part : p xs ≡ ok a n → p (take n xs) ≡ ok a n
  framed_part h = rw append-nil at ((F xs a n h).again [])

module _ {A B : Type 0} (p : Parser A) (f : A → Parser B) where
  pub framed_bind : Framed p → ((a : A) → Framed (f a)) → Framed (p >>= f)
  framed_bind P F xs b k h = go (bind_ok p f xs h)
    where
      go : Bound p f xs b k → TakenAgain (p >>= f) xs b k
      go B =
          let P₁ = P xs B.fst B.n B.first in
          let F₁ = F B.fst (drop B.n xs) b B.m B.next in
          let l₁ : length (take B.n xs) ≡ B.n = length-take-le B.n xs P₁.fits in
          let fits : B.n + B.m ≤ length xs = omega (arith, F₁.fits, length-drop B.n xs, P₁.fits) in
          let split : (w : List ℕ) → take (B.n + B.m) xs ++ w ≡ take B.n xs ++ (take B.m (drop B.n xs) ++ w) = λ w. rw (take-add, append_assoc) in
          rw B.sum record {
            fits = fits;
            again = λ w. rw (split w) (bind_step p f (take B.n xs ++ (take B.m (drop B.n xs) ++ w))
                (P₁.again (take B.m (drop B.n xs) ++ w))
                (rw (drop_at (take B.n xs) (take B.m (drop B.n xs) ++ w) B.n l₁) (F₁.again w)));
          }

pub framed_pure : {A : Type 0} (a : A) → Framed (pure a)
unfolding pure
framed_pure a xs b n h = let e : n ≡ 0 = cc in record { fits = omega arith; again = λ w. cc }

pub framed_fail : {A : Type 0} (c : ℕ) → Framed (fail {A = A} c)
unfolding fail
framed_fail c xs a n h = absurd (ok≢bad h refl)

pub framed_chunk : {A : Type 0} (k : ℕ) (f : List ℕ → A) → Framed (chunk k f)
framed_chunk k f xs a n h =
    let e = chunk_ok k f xs h in
    rw (e.2, e.1) record {
      fits = e.0;
      again = λ w. chunk_written k f (take k xs) w (length-take-le k xs e.0);
    }

module _ {A : Type 0} (p : Parser A) (P : Framed p) where
  pub framed_item : Framed (item p)
  framed_item xs a n h =
      let k = P xs a n (item_ok p xs h) in
      record { fits = k.fits; again = λ w. item_step p (take n xs ++ w) (k.again w) }

  pub framed_recall : (c : ℕ) → Framed (recall c p)
  framed_recall c xs a n h =
      let k = P xs a n (recall_ok p xs c h) in
      record { fits = k.fits; again = λ w. recall_step p (take n xs ++ w) c (k.again w) }

  pub framed_must : (f : A → ℕ) → Framed (must f p)
  framed_must f xs a n h =
      let e = must_ok p xs f h in
      let k = P xs a n e.0 in
      record { fits = k.fits; again = λ w. must_step p (take n xs ++ w) f (k.again w) e.1 }

  pub framed_mapc : {B : Type 0} (f : A → ℕ → B) → Framed (mapc f p)
  framed_mapc f xs b n h =
      let e = mapc_ok p xs f h in
      let k = P xs e.0 n e.1 in
      record { fits = k.fits; again = λ w. mapc_step p (take n xs ++ w) f (k.again w) ∙ ap (λ (y : _). ok y n) (sym e.2) }

  pub framed_bytes : Framed (bytes p)
  framed_bytes xs b n h =
      let e = bytes_ok p xs h in
      let k = P xs e.0 n e.1 in
      record {
        fits = k.fits;
        again = λ w. bytes_step p (take n xs ++ w) (k.again w) ∙ ap (λ (y : List ℕ). ok y n) (take_at (take n xs) w n (length-take-le n xs k.fits) ∙ sym e.2);
      }

-- the second reader sees only what the first delivers, so the frame of the first is enough
pub framed_inside : {B : Type 0} (p : Parser (List ℕ)) (q : Parser B) → Framed p → Framed (inside p q)
framed_inside p q P xs b n h =
    let E = inside_ok p q xs h in
    let k = P xs E.part n E.outer in
    record { fits = k.fits; again = λ w. inside_step p q (take n xs ++ w) (k.again w) E.inner }

pub framed_times : (n : ℕ) (p : Parser (Unit {0})) → Framed p → Framed (times n p)
unfolding times
framed_times zero p P = framed_pure tt
framed_times (suc n) p P = framed_bind p (λ _. times n p) P (λ _. framed_times n p P)

-- ---- bytes taken and places of refusals lie within the input

abbrev pub Lies : {A : Type 0} → ℕ → Res A → Type 0
Lies l (ok a n) = n ≤ l
Lies l (bad c q) = q ≤ l

abbrev pub Held : {A : Type 0} → Parser A → Type 0
Held p = (xs : List ℕ) → Lies (length xs) (p xs)

module _ {A : Type 0} (p : Parser A) (P : Held p) (xs : List ℕ) where
  pub held_took : {a : A} {n : ℕ} → p xs ≡ ok a n → n ≤ length xs
  held_took h = subst (λ (r : Res A). Lies (length xs) r) h (P xs)

  pub held_refused : {c q : ℕ} → p xs ≡ bad c q → q ≤ length xs
  held_refused h = subst (λ (r : Res A). Lies (length xs) r) h (P xs)

pub lies_shift : {A : Type 0} (n l : ℕ) (r : Res A) → n ≤ l → Lies (l - n) r → Lies l (shift n r)
unfolding shift
lies_shift n l (ok a m) h k = omega arith
lies_shift n l (bad c q) h k = omega arith

pub held_bind : {A B : Type 0} (p : Parser A) (f : A → Parser B) → Held p → ((a : A) → Held (f a)) → Held (p >>= f)
unfolding ◌>>=◌ after
held_bind {A} {B} p f P F xs = go (p xs) (P xs)
  where
    go : (r : Res A) → Lies (length xs) r → Lies (length xs) (after r f xs)
    go (ok a n) h = lies_shift n (length xs) (f a (drop n xs)) h (rw length-drop at (F a (drop n xs)))
    go (bad c q) h = h

pub held_pure : {A : Type 0} (a : A) → Held (pure a)
unfolding pure
held_pure a xs = omega arith

pub held_fail : (A : Type 0) (c : ℕ) → Held (fail {A = A} c)
unfolding fail
held_fail A c xs = omega arith

pub held_pick : {A : Type 0} (b : Bool) (p q : Parser A) → Held p → Held q → Held (pick b p q)
held_pick true p q P Q = P
held_pick false p q P Q = Q

pub held_chunk : {A : Type 0} (k : ℕ) (f : List ℕ → A) → Held (chunk k f)
unfolding chunk
held_chunk k f xs = go (leb k (length xs)) refl
  where
    go : (t : Bool) → leb k (length xs) ≡ t → Lies (length xs) (pick t (ok (f (take k xs)) k) (bad 4 0))
    go true e = leb-true k (length xs) e
    go false e = omega arith

pub held_skip : (k : ℕ) → Held (skip k)
unfolding skip
held_skip k = held_chunk k (λ _. tt)

module _ {A : Type 0} (p : Parser A) (P : Held p) where
  pub held_item : Held (item p)
  unfolding item at_first
  held_item xs = go (p xs) (P xs)
    where
      go : (r : Res A) → Lies (length xs) r → Lies (length xs) (at_first r)
      go (ok a n) h = h
      go (bad c q) h = omega arith

  pub held_recall : (k : ℕ) → Held (recall k p)
  unfolding recall recalled
  held_recall k xs = go (p xs) (P xs)
    where
      go₂ : (c q : ℕ) (t : Bool) → q ≤ length xs → Lies (length xs) (pick {X = Res A} t (bad c 0) (bad c q))
      go₂ c q true h = omega arith
      go₂ c q false h = h

      go : (r : Res A) → Lies (length xs) r → Lies (length xs) (recalled k r)
      go (ok a n) h = h
      go (bad c q) h = go₂ c q (eqb c k) h

  pub held_must : (f : A → ℕ) → Held (must f p)
  unfolding must judged
  held_must f xs = go (p xs) (P xs)
    where
      go₂ : (a : A) (n : ℕ) (t : Bool) → n ≤ length xs → Lies (length xs) (pick t (ok a n) (bad (f a) 0))
      go₂ a n true h = h
      go₂ a n false h = omega arith

      go : (r : Res A) → Lies (length xs) r → Lies (length xs) (judged f r)
      go (ok a n) h = go₂ a n (eqb (f a) 0) h
      go (bad c q) h = h

  lies_made : {B : Type 0} (f : A → ℕ → B) (l : ℕ) (r : Res A) → Lies l r → Lies l (made f r)
  unfolding made
  lies_made f l (ok a n) h = h
  lies_made f l (bad c q) h = h

  pub held_mapc : {B : Type 0} (f : A → ℕ → B) → Held (mapc f p)
  unfolding mapc
  held_mapc f xs = lies_made f (length xs) (p xs) (P xs)

  pub held_bytes : Held (bytes p)
  unfolding bytes
  held_bytes xs = lies_made (λ _ n. take n xs) (length xs) (p xs) (P xs)

pub held_times : (n : ℕ) (p : Parser (Unit {0})) → Held p → Held (times n p)
unfolding times
held_times zero p P = held_pure tt
held_times (suc n) p P = held_bind p (λ _. times n p) P (λ _. held_times n p P)

-- ---- what is delivered ends what is taken

pub record End (xs d : List ℕ) (n : ℕ) : Type 0 where
  pub within : length d ≤ n
  pub there : take (length d) (drop (n - length d) xs) ≡ d

abbrev pub Ends : Parser (List ℕ) → Type 0
Ends p = (xs d : List ℕ) (n : ℕ) → p xs ≡ ok d n → End xs d n

pub ends_chunk : (k : ℕ) → Ends (chunk k (λ b. b))
ends_chunk k xs d n h =
    let e = chunk_ok k (λ b. b) xs h in
    let l : length d ≡ k = ap length e.1 ∙ length-take-le k xs e.0 in
    let z : n - length d ≡ 0 = omega (arith, e.2) in
    record { within = omega (arith, e.2); there = rw z (ap (λ (i : ℕ). take i xs) l ∙ sym e.1) }

pub ends_bytes : {A : Type 0} (p : Parser A) → Held p → Ends (bytes p)
ends_bytes p P xs d n h =
    let e = bytes_ok p xs h in
    let l : length d ≡ n = ap length e.2 ∙ length-take-le n xs (held_took p P xs e.1) in
    let z : n - length d ≡ 0 = omega arith in
    record { within = omega arith; there = rw z (ap (λ (i : ℕ). take i xs) l ∙ sym e.2) }

pub ends_item : (p : Parser (List ℕ)) → Ends p → Ends (item p)
ends_item p P xs d n h = P xs d n (item_ok p xs h)

-- after a reader of another kind
pub ends_bind : {A : Type 0} (p : Parser A) (f : A → Parser (List ℕ)) → ((a : A) → Ends (f a)) → Ends (p >>= f)
ends_bind {A} p f F xs d n h = go (bind_ok p f xs h)
  where
    go : Bound p f xs d n → End xs d n
    go B =
        let E = F B.fst (drop B.n xs) d B.m B.next in
        let s : n - length d ≡ B.n + (B.m - length d) = omega (arith, E.within, B.sum) in
        record {
          within = omega (arith, E.within, B.sum);
          there = rw s (ap (take (length d)) (sym (drop-drop (B.m - length d) B.n xs)) ∙ E.there);
        }

-- a part that is read inside: its places and its length lie in what was taken
pub held_inside : {B : Type 0} (p : Parser (List ℕ)) (q : Parser B) → Held p → Ends p → Held q → Held (inside p q)
unfolding inside enter leave
held_inside {B} p q P E Q xs = go (p xs) refl (P xs)
  where
    go₃ : (b : B) (n : ℕ) (t : Bool) → n ≤ length xs → Lies (length xs) (pick t (ok b n) (bad 11 0))
    go₃ b n true h = h
    go₃ b n false h = omega arith

    go₂ : (d : List ℕ) (n : ℕ) → n ≤ length xs → length d ≤ n → (r : Res B) → Lies (length d) r → Lies (length xs) (leave (length d) n r)
    go₂ d n h w (ok b m) k = go₃ b n (eqb m (length d)) h
    go₂ d n h w (bad c m) k = omega arith

    go : (r : Res (List ℕ)) → p xs ≡ r → Lies (length xs) r → Lies (length xs) (enter q r)
    go (ok d n) e h = go₂ d n h (E xs d n e).within (q d) (Q d)
    go (bad c m) e h = h

-- ---- loops

-- an accepted reading needs no more fuel than it takes bytes
abbrev pub Fuelled : {A : Type 0} → (ℕ → Parser A) → Type 0
Fuelled {A} w = (f : ℕ) (xs : List ℕ) (a : A) (n : ℕ) → w f xs ≡ ok a n → (g : ℕ) → n ≤ g → w g xs ≡ ok a n

-- with the bytes left as fuel
pub framed_fuel : {A : Type 0} (w : ℕ → Parser A) → ((f : ℕ) → Framed (w f)) → Fuelled w → Framed (λ xs. w (length xs) xs)
framed_fuel w F fuel xs a n h =
    let K = F (length xs) xs a n h in
    record {
      fits = K.fits;
      again = λ v. fuel (length xs) (take n xs ++ v) a n (K.again v) (length (take n xs ++ v)) (omega (arith, length-append (take n xs) v, length-take-le n xs K.fits));
    }

-- a loop that accepts, turn by turn
pub data Run {S A : Type 0} (stop : List ℕ → Option ℕ) (p : S → Parser (A × S)) : ℕ → S → List ℕ → List A → ℕ → Type 0 where
  end : {f : ℕ} {s : S} {xs : List ℕ} {k : ℕ} → stop xs ≡ some k → Run stop p f s xs [] k
  step : {f : ℕ} {s : S} {xs : List ℕ} {a : A} {s' : S} {n : ℕ} {l : List A} {m : ℕ}
      → stop xs ≡ none → p s xs ≡ ok (a, s') n → Run stop p f s' (drop n xs) l m → Run stop p (suc f) s xs (a ∷ l) (n + m)

pub many_stop : {S A : Type 0} (stop : List ℕ → Option ℕ) (p : S → Parser (A × S)) (f : ℕ) (s : S) (xs : List ℕ) {k : ℕ} → stop xs ≡ some k → many stop p f s xs ≡ ok [] k
unfolding many turn
many_stop stop p zero s xs e = rw (many, e)
many_stop stop p (suc f) s xs e = rw (many, e)

module _ {S A : Type 0} (stop : List ℕ → Option ℕ) (p : S → Parser (A × S)) where
  pub run_of : (f : ℕ) (s : S) (xs : List ℕ) {l : List A} {n : ℕ} → many stop p f s xs ≡ ok l n → Run stop p f s xs l n
  unfolding many turn
  run_of zero s xs {l} {n} h = go (stop xs) refl h
    where
      go : (o : Option ℕ) → stop xs ≡ o → turn o (bad 4 0) ≡ ok l n → Run stop p zero s xs l n
      go (some k) e h = let el : l ≡ [] = cc in let en : n ≡ k = cc in rw (el, en) (end e)
      go none e h = absurd (ok≢bad h refl)
  run_of (suc f) s xs {l} {n} h = go (stop xs) refl (λ (s' : S) (ys : List ℕ) (l' : List A) (m : ℕ) h. run_of f s' ys {l = l'} {n = m} h) h
    where
      cont : A × S → Parser (List A)
      cont r = mapc (λ l _. r.0 ∷ l) (many stop p f r.1)

      go₂ : Bound (p s) cont xs l n → stop xs ≡ none → ((s' : S) (ys : List ℕ) (l' : List A) (m : ℕ) → many stop p f s' ys ≡ ok l' m → Run stop p f s' ys l' m) → Run stop p (suc f) s xs l n
      go₂ B e ih =
          let M = mapc_ok (many stop p f B.fst.1) (drop B.n xs) (λ l _. B.fst.0 ∷ l) B.next in
          rw (B.sum, M.2) (step e B.first (ih B.fst.1 (drop B.n xs) M.0 B.m M.1))

      go : (o : Option ℕ) → stop xs ≡ o → ((s' : S) (ys : List ℕ) (l' : List A) (m : ℕ) → many stop p f s' ys ≡ ok l' m → Run stop p f s' ys l' m)
          → turn o ((p s >>= cont) xs) ≡ ok l n → Run stop p (suc f) s xs l n
      go (some k) e ih h = let el : l ≡ [] = cc in let en : n ≡ k = cc in rw (el, en) (end e)
      go none e ih h = go₂ (bind_ok (p s) cont xs h) e ih

  pub of_run : {f : ℕ} {s : S} {xs : List ℕ} {l : List A} {n : ℕ} → Run stop p f s xs l n → many stop p f s xs ≡ ok l n
  unfolding many turn
  of_run (end {f = f} {s = s} {xs = xs} e) = many_stop stop p f s xs e
  of_run (step {f = f} {s = s} {xs = xs} {a = a} {s' = s'} {n = n} e h r) =
      rw e (bind_step (p s) (λ (r : A × S). mapc (λ l _. r.0 ∷ l) (many stop p f r.1)) xs h (mapc_step (many stop p f s') (drop n xs) (λ l _. a ∷ l) (of_run r)))

-- at least one byte is taken
abbrev pub Eats : {A : Type 0} → Parser A → Type 0
Eats {A} p = (xs : List ℕ) (a : A) (n : ℕ) → p xs ≡ ok a n → 1 ≤ n

pub eats_chunk : {A : Type 0} (k : ℕ) (f : List ℕ → A) → 1 ≤ k → Eats (chunk k f)
eats_chunk k f l xs a n h = omega (arith, (chunk_ok k f xs h).2)

pub eats_fail : {A : Type 0} (c : ℕ) → Eats (fail {A = A} c)
unfolding fail
eats_fail c xs a n h = absurd (ok≢bad h refl)

pub eats_item : {A : Type 0} (p : Parser A) → Eats p → Eats (item p)
eats_item p P xs a n h = P xs a n (item_ok p xs h)

pub eats_must : {A : Type 0} (f : A → ℕ) (p : Parser A) → Eats p → Eats (must f p)
eats_must f p P xs a n h = P xs a n (must_ok p xs f h).0

pub eats_recall : {A : Type 0} (k : ℕ) (p : Parser A) → Eats p → Eats (recall k p)
eats_recall k p P xs a n h = P xs a n (recall_ok p xs k h)

pub eats_mapc : {A B : Type 0} (f : A → ℕ → B) (p : Parser A) → Eats p → Eats (mapc f p)
eats_mapc f p P xs b n h = let e = mapc_ok p xs f h in P xs e.0 n e.1

-- the first eats
pub eats_first : {A B : Type 0} (p : Parser A) (f : A → Parser B) → Eats p → Eats (p >>= f)
eats_first p f P xs b k h = let B = bind_ok p f xs h in omega (arith, P xs B.fst B.n B.first, B.sum)

-- the second does
pub eats_next : {A B : Type 0} (p : Parser A) (f : A → Parser B) → ((a : A) → Eats (f a)) → Eats (p >>= f)
eats_next p f F xs b k h = let B = bind_ok p f xs h in omega (arith, F B.fst (drop B.n xs) b B.m B.next, B.sum)

-- on nothing, a reader is 4 here
abbrev pub Starved : {A : Type 0} → Parser A → Type 0
Starved p = p [] ≡ bad 4 0

pub starved_chunk : {A : Type 0} (k : ℕ) (f : List ℕ → A) → Starved (chunk (suc k) f)
unfolding chunk
starved_chunk k f = rw (lt-leb (suc k) 0 (omega arith))

pub starved_item : {A : Type 0} (p : Parser A) → Starved p → Starved (item p)
unfolding item at_first
starved_item p h = ap at_first h

pub starved_must : {A : Type 0} (f : A → ℕ) (p : Parser A) → Starved p → Starved (must f p)
unfolding must judged
starved_must f p P = rw (must, P)

pub starved_recall : {A : Type 0} (p : Parser A) → Starved p → Starved (recall 14 p)
unfolding recall recalled
starved_recall p P = rw (recall, P)

pub starved_bind : {A B : Type 0} (p : Parser A) (f : A → Parser B) → Starved p → Starved (p >>= f)
starved_bind p f P = bind_bad p f [] P

module _ {S A : Type 0} (stop : List ℕ → Option ℕ) (p : S → Parser (A × S)) (eats : (s : S) → Eats (p s)) where
  -- an accepted loop turns at most once for each byte taken
  pub run_fuel : {f : ℕ} {s : S} {xs : List ℕ} {l : List A} {n : ℕ} → Run stop p f s xs l n → (g : ℕ) → n ≤ g → Run stop p g s xs l n
  run_fuel (end e) g h = end e
  run_fuel (step {s = s} {xs = xs} {a = a} {s' = s'} {n = n} e k r) zero h = absurd (omega (arith, eats s xs (a, s') n k))
  run_fuel (step {s = s} {xs = xs} {a = a} {s' = s'} {n = n} e k r) (suc g) h = step e k (run_fuel r g (omega (arith, eats s xs (a, s') n k)))

  -- fuel is never used up: any two numbers that are not below the length give the same
  pub many_enough : (starved : (s : S) → Starved (p s)) (f g : ℕ) (s : S) (xs : List ℕ) → length xs ≤ f → length xs ≤ g → many stop p f s xs ≡ many stop p g s xs
  unfolding many turn ◌>>=◌ after mapc made
  many_enough starved zero zero s xs h k = refl
  many_enough starved zero (suc g) s [] h k = rw (starved s)
  many_enough starved zero (suc g) s (x ∷ xs) h k = absurd (omega arith)
  many_enough starved (suc f) zero s [] h k = rw (starved s)
  many_enough starved (suc f) zero s (x ∷ xs) h k = absurd (omega arith)
  many_enough starved (suc f) (suc g) s xs h k =
      ap (turn (stop xs)) (go (p s xs) refl (λ (s' : S) (n : ℕ) (l : 1 ≤ n). many_enough starved f g s' (drop n xs) (omega (arith, length-drop n xs)) (omega (arith, length-drop n xs))))
    where
      cont : ℕ → A × S → Parser (List A)
      cont i r = mapc (λ l _. r.0 ∷ l) (many stop p i r.1)

      go : (r : Res (A × S)) → p s xs ≡ r → ((s' : S) (n : ℕ) → 1 ≤ n → many stop p f s' (drop n xs) ≡ many stop p g s' (drop n xs))
          → after r (cont f) xs ≡ after r (cont g) xs
      go (ok a n) e ih = ap (λ (z : Res (List A)). shift n (made (λ l _. a.0 ∷ l) z)) (ih a.1 n (eats s xs a n e))
      go (bad c q) e ih = refl

-- a loop whose steps are followed by those of another
pub run_follow : {S A : Type 0} {stop : List ℕ → Option ℕ} {p : S → Parser (A × S)} (q : S → Parser (A × S)) (g : A → A)
    → ((s : S) (xs : List ℕ) (a : A) (s' : S) (n : ℕ) → p s xs ≡ ok (a, s') n → q s xs ≡ ok (g a, s') n)
    → {f : ℕ} {s : S} {xs : List ℕ} {l : List A} {n : ℕ} → Run stop p f s xs l n → Run stop q f s xs (map g l) n
run_follow q g sim (end e) = end e
run_follow q g sim (step e h r) = step e (sim _ _ _ _ _ h) (run_follow q g sim r)

-- a stop that looks at the first byte alone
pub record Looks (stop : List ℕ → Option ℕ) : Type 0 where
  pub fits : (xs : List ℕ) (k : ℕ) → stop xs ≡ some k → k ≤ length xs
  pub ends : (xs w : List ℕ) (k : ℕ) → stop xs ≡ some k → stop (take k xs ++ w) ≡ some k
  pub goes : (xs w : List ℕ) (n : ℕ) → 1 ≤ n → n ≤ length xs → stop xs ≡ none → stop (take n xs ++ w) ≡ none

module _ {S A : Type 0} (stop : List ℕ → Option ℕ) (p : S → Parser (A × S)) where
  run_framed : Looks stop → ((s : S) → Framed (p s)) → ((s : S) → Eats (p s)) → {f : ℕ} {s : S} {xs : List ℕ} {l : List A} {n : ℕ}
      → Run stop p f s xs l n → (n ≤ length xs) × ((w : List ℕ) → Run stop p f s (take n xs ++ w) l n)
  run_framed L P E (end {xs = xs} {k = k} e) = (L.fits xs k e, λ w. end (L.ends xs w k e))
  run_framed L P E (step {f = f} {s = s} {xs = xs} {a = a} {s' = s'} {n = n} {l = l} {m = m} e h r) =
      let ih = run_framed L P E r in
      let K = P s xs (a, s') n h in
      let one = E s xs (a, s') n h in
      let split : (w : List ℕ) → take (n + m) xs ++ w ≡ take n xs ++ (take m (drop n xs) ++ w) = λ w. rw (take-add, append_assoc) in
      let rest : (w : List ℕ) → Run stop p f s' (drop n (take n xs ++ (take m (drop n xs) ++ w))) l m =
      λ w. rw (drop_at (take n xs) (take m (drop n xs) ++ w) n (length-take-le n xs K.fits)) (ih.1 w) in (
        omega (arith, ih.0, length-drop n xs, K.fits),
        λ w. rw (split w) (step (L.goes xs (take m (drop n xs) ++ w) n one K.fits e) (K.again (take m (drop n xs) ++ w)) (rest w)),
      )

  pub framed_many : Looks stop → ((s : S) → Framed (p s)) → ((s : S) → Eats (p s)) → (f : ℕ) (s : S) → Framed (many stop p f s)
  framed_many L P E f s xs l n h = let R = run_framed L P E (run_of stop p f s xs h) in record { fits = R.0; again = λ w. of_run stop p (R.1 w) }

  -- an accepted loop turns at most once for each byte taken
  pub many_fuel : ((s : S) → Eats (p s)) → (s : S) → Fuelled (λ f. many stop p f s)
  many_fuel E s f xs l n h g k = of_run stop p (run_fuel stop p E (run_of stop p f s xs h) g k)

  -- the stop takes bytes that are there
  pub held_many : ((xs : List ℕ) (k : ℕ) → stop xs ≡ some k → k ≤ length xs) → ((s : S) → Held (p s)) → (f : ℕ) (s : S) → Held (many stop p f s)
  unfolding many turn
  held_many fits P zero s xs = go (stop xs) refl
    where
      go : (o : Option ℕ) → stop xs ≡ o → Lies (length xs) (turn {A = A} o (bad 4 0))
      go (some k) e = fits xs k e
      go none e = omega arith
  held_many fits P (suc f) s xs =
      go _ (stop xs) refl (held_bind (p s) (λ (r : A × S). mapc (λ l _. r.0 ∷ l) (many stop p f r.1)) (P s) (λ r. held_mapc (many stop p f r.1) (held_many fits P f r.1) (λ l _. r.0 ∷ l)) xs)
    where
      go : (r : Res (List A)) (o : Option ℕ) → stop xs ≡ o → Lies (length xs) r → Lies (length xs) (turn o r)
      go r (some k) e h = fits xs k e
      go r none e h = h

pub at_end_fits : (xs : List ℕ) (k : ℕ) → at_end xs ≡ some k → k ≤ length xs
unfolding at_end
at_end_fits [] k e = let z : k ≡ 0 = cc in omega arith
at_end_fits (x ∷ xs) k e = absurd (some≢none e refl)

pub at_mark_looks : Looks at_mark
unfolding at_mark
at_mark_looks = record { fits = fits; ends = ends; goes = goes }
  where
    one : (x k : ℕ) (t : Bool) → pick t (some 1) none ≡ some k → k ≡ 1
    one x k true h = cc
    one x k false h = absurd (some≢none h refl)

    fits : (xs : List ℕ) (k : ℕ) → at_mark xs ≡ some k → k ≤ length xs
    fits [] k e = absurd (some≢none e refl)
    fits (x ∷ xs) k e = omega (arith, one x k (eqb x 255) e)

    ends : (xs w : List ℕ) (k : ℕ) → at_mark xs ≡ some k → at_mark (take k xs ++ w) ≡ some k
    ends [] w k e = absurd (some≢none e refl)
    ends (x ∷ xs) w k e = let z = one x k (eqb x 255) e in rw z (rw z at e)

    goes : (xs w : List ℕ) (n : ℕ) → 1 ≤ n → n ≤ length xs → at_mark xs ≡ none → at_mark (take n xs ++ w) ≡ none
    goes [] w n h l e = absurd (omega arith)
    goes (x ∷ xs) w zero h l e = absurd (omega arith)
    goes (x ∷ xs) w (suc n) h l e = e

-- ---- a property that each way of joining readers keeps

-- the refusal numbers of what an encapsulation holds: 4, 7 to 11, 17, 18, 24; in 1.1 also 12 to 16, in 1.0 also 25
abbrev pub of_contents : Bool → ℕ → Bool
of_contents old c = eqb c 4 || (leb 7 c && leb c 11) || (leb 17 c && leb c 18) || eqb c 24 || pick old (eqb c 25) (leb 12 c && leb c 16)

-- a judgement gives 0 or one of them
abbrev pub Judges : Bool → ℕ → Type 0
Judges old n = eqb n 0 || of_contents old n ≡ true

-- P is kept by each way of joining readers of an encoding, 1.0 or 1.1; Stops says which stops of a loop keep it
pub record Closed (old : Bool) (P : (A : Type 0) → Parser A → Type 0) (Stops : (List ℕ → Option ℕ) → Type 0) : Type 1 where
  pub by_bind : {A B : Type 0} (p : Parser A) (f : A → Parser B) → P A p → ((a : A) → P B (f a)) → P B (p >>= f)
  pub by_pure : {A : Type 0} (a : A) → P A (pure a)
  pub by_fail : (A : Type 0) (c : ℕ) → of_contents old c ≡ true → P A (fail c)
  pub by_chunk : {A : Type 0} (k : ℕ) (f : List ℕ → A) → P A (chunk k f)
  pub by_item : {A : Type 0} (p : Parser A) → P A p → P A (item p)
  pub by_recall : {A : Type 0} (p : Parser A) → P A p → (k : ℕ) → P A (recall k p)
  pub by_must : {A : Type 0} (p : Parser A) → P A p → (f : A → ℕ) → ((a : A) → Judges old (f a)) → P A (must f p)
  pub by_mapc : {A B : Type 0} (p : Parser A) → P A p → (f : A → ℕ → B) → P B (mapc f p)
  pub by_bytes : {A : Type 0} (p : Parser A) → P A p → P (List ℕ) (bytes p)
  pub by_inside : {B : Type 0} (p : Parser (List ℕ)) (q : Parser B) → P (List ℕ) p → Ends p → P B q → P B (inside p q)
  pub by_many : {S A : Type 0} (stop : List ℕ → Option ℕ) (p : S → Parser (A × S)) → Stops stop → ((s : S) → P (A × S) (p s)) → ((s : S) → Eats (p s))
      → (f : ℕ) (s : S) → P (List A) (many stop p f s)
  pub by_fuel : {A : Type 0} (w : ℕ → Parser A) → ((f : ℕ) → P A (w f)) → Fuelled w → P A (λ xs. w (length xs) xs)

module _ {old : Bool} {P : (A : Type 0) → Parser A → Type 0} {Stops : (List ℕ → Option ℕ) → Type 0} (C : Closed old P Stops) where
  pub by_pick : {A : Type 0} (b : Bool) (p q : Parser A) → P A p → P A q → P A (pick b p q)
  by_pick true p q x y = x
  by_pick false p q x y = y

  pub by_skip : (k : ℕ) → P (Unit {0}) (skip k)
  unfolding skip
  by_skip k = C.by_chunk k (λ _. tt)

  pub by_times : (n : ℕ) (p : Parser (Unit {0})) → P (Unit {0}) p → P (Unit {0}) (times n p)
  unfolding times
  by_times zero p x = C.by_pure tt
  by_times (suc n) p x = C.by_bind p (λ _. times n p) x (λ _. by_times n p x)

-- how judgements are built
module _ (old : Bool) where
  pub pick_judges : (b : Bool) (x y : ℕ) → Judges old x → Judges old y → Judges old (pick b x y)
  pick_judges true x y h k = h
  pick_judges false x y h k = k

  pub first_of_judges : (n : ℕ) (b : Bool) (l : List (ℕ × Bool)) → Judges old n → Judges old (first_of l) → Judges old (first_of ((n, b) ∷ l))
  unfolding first_of
  first_of_judges n b l h k = pick_judges b n (first_of l) h k

  pub none_judges : Judges old (first_of [])
  unfolding first_of
  none_judges = refl

-- the frame
pub framed : (old : Bool) → Closed old (λ A p. Framed {A = A} p) Looks
framed old = record {
  by_bind = framed_bind;
  by_pure = framed_pure;
  by_fail = λ A c h. framed_fail c;
  by_chunk = framed_chunk;
  by_item = framed_item;
  by_recall = framed_recall;
  by_must = λ p x f h. framed_must p x f;
  by_mapc = λ p x f. framed_mapc p x f;
  by_bytes = framed_bytes;
  by_inside = λ p q x e y. framed_inside p q x;
  by_many = framed_many;
  by_fuel = framed_fuel;
}

-- where a stop takes bytes, they are there
abbrev pub Fits : (List ℕ → Option ℕ) → Type 0
Fits stop = (xs : List ℕ) (k : ℕ) → stop xs ≡ some k → k ≤ length xs

-- bytes taken and places of refusals
pub held : (old : Bool) → Closed old (λ A p. Held {A = A} p) Fits
held old = record {
  by_bind = held_bind;
  by_pure = held_pure;
  by_fail = λ A c h. held_fail A c;
  by_chunk = held_chunk;
  by_item = held_item;
  by_recall = held_recall;
  by_must = λ p x f h. held_must p x f;
  by_mapc = λ p x f. held_mapc p x f;
  by_bytes = held_bytes;
  by_inside = held_inside;
  by_many = λ stop p fits x e f s. held_many stop p fits x f s;
  by_fuel = λ w x h xs. x (length xs) xs;
}
