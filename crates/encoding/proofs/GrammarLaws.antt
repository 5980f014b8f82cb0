-- Where a reader and a grammar agree, once per combinator. Any list of numbers will do: nothing asks that they are bytes.
--
--   Reads p P       what p reads as a is a string of P a, and a string of P a is read as a, whatever follows it
--   Takes p P       the same of a reader that gives nothing
--   reads-, takes-  of each combinator, then of bytes, ints, sizes, declared lengths and strings
--   reads_as        two grammars of the same strings
--   IsByte x        the byte x
--   SizeThen d, IntThen least own d   the bytes d after a size; after an int that counts them and `own` more, at least `least`
use Rattle.std.specs.Prelude.{◌≡◌, refl, Bool, true, false, List, [], ◌∷◌, ◌++◌, ℕ, zero, suc, ◌+◌, ◌-◌, ◌≤◌, ◌<◌, length, take, drop, ltb}
use Rattle.std.proofs.Common.{sym, ap, ◌∙◌, subst, arith, length-take-le, ltb-true, ltb-false, lt-ltb}
use Rattle.encoding.specs.Result.{ok, Parser, pick, ◌>>=◌, pure, fail, chunk, skip, item, must, mapc, times}
use Rattle.encoding.proofs.ResultLaws.{ok≢bad, pick_true, Bound, bind_ok, bind_take, bind_written, pure_ok, chunk_ok, chunk_written, item_ok, item_step, must_ok, must_step, mapc_ok, mapc_step}
use Rattle.encoding.specs.Number.{Short, val, number, byte, size_form, size_tail, size, length_form, declared, Content, string}
use Rattle.encoding.proofs.NumberLaws.{content_ok, content_step, byte_written, byte_canonical, size_form_ok, size_form_step, length_form_ok, length_form_step}
use Rattle.encoding.specs.Grammar.{◌⨾◌, both, Repeats, none, more, Counted, counted, AnyBytes, ByteBelow, below, IsInt, IsSize, one_byte, with_int, IsString, spelt}

pub record Reads {A : Type 0} (p : Parser A) (P : A → List ℕ → Type 0) : Type 0 where
  pub canonical : (xs : List ℕ) (a : A) (n : ℕ) → p xs ≡ ok a n → P a (take n xs)
  pub written : (a : A) (b : List ℕ) → P a b → (r : List ℕ) → p (b ++ r) ≡ ok a (length b)

abbrev pub Takes : Parser (Unit {0}) → (List ℕ → Type 0) → Type 0
Takes p P = Reads p (λ _. P)

pub reads_as : {A : Type 0} {p : Parser A} {P Q : A → List ℕ → Type 0}
    → ((a : A) (b : List ℕ) → P a b → Q a b) → ((a : A) (b : List ℕ) → Q a b → P a b) → Reads p P → Reads p Q
reads_as to from R = record {
  canonical = λ xs a n h. to a (take n xs) (R.canonical xs a n h);
  written = λ a b w r. R.written a b (from a b w) r;
}

pub reads_must : {A : Type 0} {p : Parser A} {P : A → List ℕ → Type 0} (f : A → ℕ) → Reads p P → Reads (must f p) (λ a b. (f a ≡ 0) × P a b)
reads_must {p = p} f R = record {
  canonical = λ xs a n h. let M = must_ok p xs f h in (M.1, R.canonical xs a n M.0);
  written = λ a b w r. must_step p (b ++ r) f (R.written a b w.1 r) w.0;
}

-- f of what was read
pub reads_map : {A B : Type 0} {p : Parser A} {P : A → List ℕ → Type 0} (f : A → B) → Reads p P
    → Reads (mapc (λ a _. f a) p) (λ c b. (a : A) × (c ≡ f a) × P a b)
reads_map {p = p} f R = record {
  canonical = λ xs c n h. let M = mapc_ok p xs (λ a _. f a) h in (M.0, M.2, R.canonical xs M.0 n M.1);
  written = λ c b w r. mapc_step p (b ++ r) (λ a _. f a) (R.written w.0 b w.2 r) ∙ ap (λ (z : _). ok z (length b)) (sym w.1);
}

-- what was read is dropped
pub takes_map : {A : Type 0} {p : Parser A} {P : A → List ℕ → Type 0} → Reads p P → Takes (mapc (λ _ _. tt) p) (λ b. (a : A) × P a b)
takes_map R = reads_as (λ c b w. (w.0, w.2)) (λ c b w. (w.0, refl, w.1)) (reads_map (λ _. tt) R)

pub reads_bind : {A B : Type 0} {p : Parser A} {f : A → Parser B} {P : A → List ℕ → Type 0} {Q : A → B → List ℕ → Type 0}
    → Reads p P → ((a : A) → Reads (f a) (Q a)) → Reads (p >>= f) (λ c b. (a : A) × (P a ⨾ Q a c) b)
reads_bind {A} {B} {p} {f} {P} {Q} R S = record {
  canonical = λ xs c n h. onward xs c n (bind_ok p f xs h);
  written = λ c b w r. back w.0 c r w.1;
}
  where
    onward : (xs : List ℕ) (c : B) (n : ℕ) → Bound p f xs c n → (a : A) × (P a ⨾ Q a c) (take n xs)
    onward xs c n M = (
      M.fst,
      subst (P M.fst ⨾ Q M.fst c) (sym (bind_take p f xs M))
          (both (R.canonical xs M.fst M.n M.first) ((S M.fst).canonical (drop M.n xs) c M.m M.next)),
    )

    back : (a : A) (c : B) (r : List ℕ) {b : List ℕ} → (P a ⨾ Q a c) b → (p >>= f) (b ++ r) ≡ ok c (length b)
    back a c r (both {a = u} {b = v} x y) = bind_written p f u v r (R.written a u x (v ++ r)) ((S a).written c v y r)

-- one after another, what the first read being dropped
pub takes_next : {A : Type 0} (p : Parser A) {q : Parser (Unit {0})} {P Q : List ℕ → Type 0}
    → Takes (mapc (λ _ _. tt) p) P → Takes q Q → Takes (p >>= λ _. q) (P ⨾ Q)
takes_next p {q} {P} {Q} R S = record {
  canonical = λ xs c n h. onward xs n (bind_ok p (λ _. q) xs h);
  written = λ c b w r. back r w;
}
  where
    onward : (xs : List ℕ) (n : ℕ) → Bound p (λ _. q) xs tt n → (P ⨾ Q) (take n xs)
    onward xs n M =
        subst (P ⨾ Q) (sym (bind_take p (λ _. q) xs M))
        (both (R.canonical xs tt M.n (mapc_step p xs (λ _ _. tt) M.first)) (S.canonical (drop M.n xs) tt M.m M.next))

    back : (r : List ℕ) {b : List ℕ} → (P ⨾ Q) b → (p >>= λ _. q) (b ++ r) ≡ ok tt (length b)
    back r (both {a = u} {b = v} x y) =
        let M = mapc_ok p (u ++ (v ++ r)) (λ _ _. tt) (R.written tt u x (v ++ r)) in
        bind_written p (λ _. q) u v r M.1 (S.written tt v y r)

pub takes_then : {p q : Parser (Unit {0})} {P Q : List ℕ → Type 0} → Takes p P → Takes q Q → Takes (p >>= λ _. q) (P ⨾ Q)
takes_then {p} R S = takes_next p (reads_as (λ c b w. w.1) (λ c b w. (tt, w)) (takes_map R)) S

pub reads_fail : {A : Type 0} (c : ℕ) → Reads (fail {A = A} c) (λ a b. ⊥)
unfolding fail
reads_fail c = record { canonical = λ xs a n h. absurd (ok≢bad h refl); written = λ a b w r. absurd w }

-- k bytes, and f of them
pub reads_chunk : {A : Type 0} (k : ℕ) (f : List ℕ → A) → Reads (chunk k f) (λ a b. (a ≡ f b) × AnyBytes k b)
reads_chunk k f = record {
  canonical = λ xs a n h. let e = chunk_ok k f xs h in rw e.2 (e.1, length-take-le k xs e.0);
  written = λ a b w r. rw (w.0, w.1) (chunk_written k f b r w.1);
}

pub takes_skip : (k : ℕ) → Takes (skip k) (AnyBytes k)
unfolding skip
takes_skip k = reads_as (λ c b w. w.1) (λ c b w. (refl, w)) (reads_chunk k (λ _. tt))

pub reads_pure : {A : Type 0} (a : A) → Reads (pure a) (λ c b. (c ≡ a) × AnyBytes 0 b)
unfolding pure
reads_pure a = record { canonical = λ xs c n h. let P = pure_ok a xs h in rw P.1 (P.0, refl); written = λ c b w r. rw (w.0, w.1) refl }

pub reads_item : {A : Type 0} {p : Parser A} {P : A → List ℕ → Type 0} → Reads p P → Reads (item p) P
reads_item {p = p} R = record {
  canonical = λ xs a n h. R.canonical xs a n (item_ok p xs h);
  written = λ a b w r. item_step p (b ++ r) (R.written a b w r);
}

pub takes_pure : Takes (pure tt) (AnyBytes 0)
takes_pure = reads_as (λ c b w. w.1) (λ c b w. (refl, w)) (reads_pure tt)

pub takes_times : {p : Parser (Unit {0})} {P : List ℕ → Type 0} (n : ℕ) → Takes p P → Takes (times n p) (Repeats P n)
unfolding times
takes_times {P = P} zero R = reads_as (λ c b w. nothing b w) (λ c b w. empty w) takes_pure
  where
    nothing : (b : List ℕ) → length b ≡ 0 → Repeats P zero b
    nothing [] w = none
    nothing (x ∷ b) w = absurd (omega arith)

    empty : {b : List ℕ} → Repeats P zero b → length b ≡ 0
    empty none = refl
takes_times {P = P} (suc n) R = reads_as (λ c b w. longer w) (λ c b w. shorter w) (takes_then R (takes_times n R))
  where
    longer : {b : List ℕ} → (P ⨾ Repeats P n) b → Repeats P (suc n) b
    longer (both x y) = more x y

    shorter : {b : List ℕ} → Repeats P (suc n) b → (P ⨾ Repeats P n) b
    shorter (more x y) = both x y

-- ---- bytes, ints, sizes

pub data IsByte (x : ℕ) : List ℕ → Type 0 where
  is_byte : IsByte x (x ∷ [])

pub reads_byte : Reads byte IsByte
reads_byte = record {
  canonical = λ xs x n h. subst (IsByte x) (sym (byte_canonical xs h).0) is_byte;
  written = λ x b w r. back w r;
}
  where
    back : {x : ℕ} {b : List ℕ} → IsByte x b → (r : List ℕ) → byte (b ++ r) ≡ ok x (length b)
    back {x} is_byte r = byte_written x r

-- a byte below k, or the refusal c
pub takes_below : (k c : ℕ) → Takes (mapc (λ _ _. tt) (must (λ x. pick (ltb x k) 0 (suc c)) byte)) (ByteBelow k)
takes_below k c = reads_as (λ _ b w. onward w.0 w.1.0 w.1.1) (λ _ b w. back w) (takes_map (reads_must (λ x. pick (ltb x k) 0 (suc c)) reads_byte))
  where
    onward : (x : ℕ) {b : List ℕ} → ◌≡◌ {A = ℕ} (pick (ltb x k) 0 (suc c)) 0 → IsByte x b → ByteBelow k b
    onward x e is_byte = below (ltb-true x k (pick_true (ltb x k) c e))

    back : {b : List ℕ} → ByteBelow k b → (x : ℕ) × ((◌≡◌ {A = ℕ} (pick (ltb x k) 0 (suc c)) 0) × IsByte x b)
    back (below {x} l) = (x, (rw (lt-ltb x k l), is_byte))

-- an int, where a judgement passes exactly those that are at least `least` and not negative
reads_int : (form : ℕ → ℕ) (least : ℕ) → ((n : ℕ) → form n ≡ 0 → (least ≤ n) × Short n) → ((n : ℕ) → least ≤ n → Short n → form n ≡ 0)
    → Reads (must form (number 4)) (λ n b. (least ≤ n) × IsInt n b)
unfolding number
reads_int form least to from = reads_as (λ n b w. onward n w) (λ n b w. back n w) (reads_must form (reads_chunk 4 val))
  where
    onward : (n : ℕ) {b : List ℕ} → (form n ≡ 0) × ((n ≡ val b) × AnyBytes 4 b) → (least ≤ n) × IsInt n b
    onward n (e, (v, l)) = let F = to n e in (F.0, record { four = l; number = sym v; short = F.1 })

    back : (n : ℕ) {b : List ℕ} → (least ≤ n) × IsInt n b → (form n ≡ 0) × ((n ≡ val b) × AnyBytes 4 b)
    back n (l, i) = (from n l i.short, (sym i.number, i.four))

-- after a size's first byte
reads_tail : (x : ℕ) → Reads (size_tail x) (λ n b. IsSize n (x ∷ b))
unfolding size_tail
reads_tail x = go (ltb x 255) refl
  where
    alone : {n : ℕ} (b : List ℕ) → x < 255 → (n ≡ x) × AnyBytes 0 b → IsSize n (x ∷ b)
    alone [] l (e, z) = rw e (one_byte l)
    alone (y ∷ b) l (e, z) = absurd (omega arith)

    alone_back : {n : ℕ} {b : List ℕ} → x < 255 → IsSize n (x ∷ b) → (n ≡ x) × AnyBytes 0 b
    alone_back l (one_byte k) = (refl, refl)
    alone_back l (with_int g k i) = absurd (omega arith)

    followed_back : {n : ℕ} {b : List ℕ} → 255 ≤ x → IsSize n (x ∷ b) → (255 ≤ n) × IsInt n b
    followed_back g (one_byte k) = absurd (omega arith)
    followed_back g (with_int h k i) = (k, i)

    go : (q : Bool) → ltb x 255 ≡ q → Reads (pick q (pure x) (must size_form (number 4))) (λ n b. IsSize n (x ∷ b))
    go true e = reads_as (λ n b w. alone b (ltb-true x 255 e) w) (λ n b w. alone_back (ltb-true x 255 e) w) (reads_pure x)
    go false e =
        reads_as (λ n b w. with_int (ltb-false x 255 e) w.0 w.1) (λ n b w. followed_back (ltb-false x 255 e) w)
        (reads_int size_form 255 size_form_ok size_form_step)

pub reads_size : Reads size IsSize
unfolding size
reads_size = reads_as (λ n b w. onward w.1) (λ n b w. back w) (reads_item (reads_bind reads_byte reads_tail))
  where
    onward : {n x : ℕ} {b : List ℕ} → (IsByte x ⨾ (λ b. IsSize n (x ∷ b))) b → IsSize n b
    onward (both is_byte w) = w

    back : {n : ℕ} {b : List ℕ} → IsSize n b → (x : ℕ) × (IsByte x ⨾ (λ b. IsSize n (x ∷ b))) b
    back {n} (one_byte l) = (n, both is_byte (one_byte l))
    back (with_int {x} g k i) = (x, both is_byte (with_int g k i))

pub takes_counted : {p : Parser (Unit {0})} {P : List ℕ → Type 0} → Takes p P → Takes (size >>= λ n. times n p) (Counted P)
takes_counted {P = P} R = reads_as (λ c b w. onward w.1) (λ c b w. back w) (reads_bind reads_size (λ n. takes_times n R))
  where
    onward : {n : ℕ} {b : List ℕ} → (IsSize n ⨾ Repeats P n) b → Counted P b
    onward (both s x) = counted s x

    back : {b : List ℕ} → Counted P b → (n : ℕ) × (IsSize n ⨾ Repeats P n) b
    back (counted {n} s x) = (n, both s x)

-- ---- bytes after their length, and strings

pub data SizeThen (d : List ℕ) : List ℕ → Type 0 where
  after_size : {a : List ℕ} → IsSize (length d) a → SizeThen d (a ++ d)

pub reads_sized : Reads (item (size >>= λ n. chunk n (λ b. b))) SizeThen
reads_sized = reads_as (λ d b w. onward w.1) (λ d b w. back w) (reads_item (reads_bind reads_size (λ n. reads_chunk n (λ b. b))))
  where
    onward : {n : ℕ} {d b : List ℕ} → (IsSize n ⨾ (λ b. (d ≡ b) × AnyBytes n b)) b → SizeThen d b
    onward {d = d} (both {a = a} s (e, l)) = rw (← e) (after_size (subst (λ (n : ℕ). IsSize n a) (sym l ∙ ap length (sym e)) s))

    back : {d b : List ℕ} → SizeThen d b → (n : ℕ) × (IsSize n ⨾ (λ b. (d ≡ b) × AnyBytes n b)) b
    back {d} (after_size s) = (length d, both s (refl, refl))

pub data IntThen (least own : ℕ) (d : List ℕ) : List ℕ → Type 0 where
  after_int : {a : List ℕ} → least ≤ own + length d → IsInt (own + length d) a → IntThen least own d (a ++ d)

pub reads_declared : (least own : ℕ) → own ≤ least → Reads (declared least own) (IntThen least own)
unfolding declared
reads_declared least own o =
    reads_as (λ d b w. onward w.1) (λ d b w. back w)
    (reads_item (reads_bind (reads_int (length_form least) least (length_form_ok least) (length_form_step least)) (λ n. reads_chunk (n - own) (λ b. b))))
  where
    onward : {n : ℕ} {d b : List ℕ} → ((λ b. (least ≤ n) × IsInt n b) ⨾ (λ b. (d ≡ b) × AnyBytes (n - own) b)) b → IntThen least own d b
    onward {n} {d} (both {a = a} (l, i) (e, k)) =
        let s : n ≡ own + length d = omega (arith, k, ap length e) in
        rw (← e) (after_int (omega arith) (subst (λ (n : ℕ). IsInt n a) s i))

    back : {d b : List ℕ} → IntThen least own d b → (n : ℕ) × ((λ b. (least ≤ n) × IsInt n b) ⨾ (λ b. (d ≡ b) × AnyBytes (n - own) b)) b
    back {d} (after_int l i) = (own + length d, both (l, i) (refl, omega arith))

pub reads_string : Reads string IsString
unfolding string
reads_string = reads_as (λ t b w. onward w.0 w.1) (λ t b w. back w) (reads_must Content reads_sized)
  where
    size_short : {n : ℕ} {b : List ℕ} → IsSize n b → Short n
    size_short (one_byte l) = omega arith
    size_short (with_int g k i) = i.short

    onward : {t b : List ℕ} → Content t ≡ 0 → SizeThen t b → IsString t b
    onward {t} c (after_size s) = spelt s (record { length_short = size_short s; is_text = content_ok t c })

    back : {t b : List ℕ} → IsString t b → (Content t ≡ 0) × SizeThen t b
    back {t} (spelt s i) = (content_step t i.is_text, after_size s)
