-- The laws of numbers, sizes, declared lengths, bools and strings. Numbers once over the width.
--
--   val_le_bytes, le_bytes_val      a number written is the number read, and the other way round, of any width
--   size_short, size_long         what a size is written as
--   _written, _canonical          what the encoder makes is read back; what was read is what the encoder makes
--   content_ok, _step             what a string may hold is text
--   closed-                       each reader has every property that all ways of joining readers keep; framed- and held- are the frame and the extent
--   eats-, starved-, ends-        of each reader, the last of those that deliver bytes
use Rattle.std.specs.Prelude.{◌≡◌, Bool, true, false, ℕ, zero, suc, ◌+◌, ◌-◌, ◌*◌, ◌/◌, ◌%◌, ◌^◌, ◌≤◌, ◌<◌, length, take, drop, ltb}
use Rattle.std.proofs.Math.Path.{refl}
use Rattle.std.proofs.Common.{sym, ap, ◌∙◌, subst, arith, drop_at, length-take-le, leb-false, ltb-true, ltb-false, lt-ltb, le-ltb}
use mathlib.Core.List.{List, [], ◌∷◌, ◌++◌, append_assoc}
use Rattle.std.proofs.lemmas.Bool.{lt-leb}
use Rattle.std.proofs.Math.Option.{Option}
use Rattle.encoding.specs.Result.{Parser, ok, pick, ◌>>=◌, pure, chunk, item, must, first_of}
use Rattle.encoding.proofs.ResultLaws.{Closed, by_pick, held, pick_true, pick_judges, first_of_judges, none_judges, Bound, bind_ok, bind_step, bind_take, bind_written, pure_ok, chunk_ok, chunk_written, item_ok, item_step, must_ok, must_step, first_of_ok, Held, Ends, ends_chunk, ends_item, ends_bind, Eats, eats_chunk, eats_first, eats_item, eats_must, eats_mapc, Starved, starved_chunk, starved_item, starved_must, starved_bind}
use Rattle.encoding.specs.Utf8.{is_utf8, Utf8}
use Rattle.encoding.proofs.Utf8Laws.{utf8_ok, utf8_step}
use Rattle.encoding.specs.Number.{Bytes, val, le_bytes, negative, number, byte, bool_form, bool, size_form, size_tail, size, size_bytes, length_form, declared, Content, string, string_bytes}

-- ---- bytes

pub bytes_take : (k : ℕ) (xs : List ℕ) → Bytes xs → Bytes (take k xs)
bytes_take zero xs b = tt
bytes_take (suc k) [] b = tt
bytes_take (suc k) (x ∷ xs) b = (b.0, bytes_take k xs b.1)

pub bytes_drop : (k : ℕ) (xs : List ℕ) → Bytes xs → Bytes (drop k xs)
bytes_drop zero xs b = b
bytes_drop (suc k) [] b = tt
bytes_drop (suc k) (x ∷ xs) b = bytes_drop k xs b.1

pub bytes_append : (xs ys : List ℕ) → Bytes xs → Bytes ys → Bytes (xs ++ ys)
bytes_append [] ys b c = c
bytes_append (x ∷ xs) ys b c = (b.0, bytes_append xs ys b.1 c)

pub bytes_end : (xs ys : List ℕ) → Bytes (xs ++ ys) → Bytes ys
bytes_end [] ys b = b
bytes_end (x ∷ xs) ys b = bytes_end xs ys b.1

-- ---- numbers of any width

pub length_le_bytes : (k n : ℕ) → length (le_bytes k n) ≡ k
unfolding le_bytes
length_le_bytes zero n = refl
length_le_bytes (suc k) n = ap suc (length_le_bytes k (n / 256))

pub bytes_le_bytes : (k n : ℕ) → Bytes (le_bytes k n)
unfolding le_bytes
bytes_le_bytes zero n = tt
bytes_le_bytes (suc k) n = (omega arith, bytes_le_bytes k (n / 256))

pub val_le_bytes : (k n : ℕ) → n < 256 ^ k → val (le_bytes k n) ≡ n
unfolding le_bytes val
val_le_bytes zero n h = omega arith
val_le_bytes (suc k) n h = omega (arith, val_le_bytes k (n / 256) (omega arith))

pub le_bytes_val : (xs : List ℕ) → Bytes xs → le_bytes (length xs) (val xs) ≡ xs
unfolding le_bytes val
le_bytes_val [] b = refl
le_bytes_val (x ∷ xs) b =
    let q : (x + 256 * val xs) / 256 ≡ val xs = omega (arith, b.0) in
    let r : (x + 256 * val xs) % 256 ≡ x = omega (arith, b.0) in
    rw (q, r, le_bytes_val xs b.1)

pub val_below : (xs : List ℕ) → Bytes xs → val xs < 256 ^ length xs
unfolding val
val_below [] b = omega arith
val_below (x ∷ xs) b = let g : x + 256 * val xs < 256 ^ suc (length xs) = omega (arith, b.0, val_below xs b.1) in g

pub number_written : (k n : ℕ) (r : List ℕ) → n < 256 ^ k → number k (le_bytes k n ++ r) ≡ ok n k
unfolding number
number_written k n r h = chunk_written k val (le_bytes k n) r (length_le_bytes k n) ∙ ap (λ (v : ℕ). ok v k) (val_le_bytes k n h)

pub number_canonical : (k : ℕ) (xs : List ℕ) → Bytes xs → {n m : ℕ} → number k xs ≡ ok n m → (take m xs ≡ le_bytes k n) × (n < 256 ^ k) × (m ≡ k)
unfolding number
number_canonical k xs b {n} {m} h =
    let e = chunk_ok k val xs h in
    let l : length (take k xs) ≡ k = length-take-le k xs e.0 in
    rw (e.2, e.1) (sym (rw l at (le_bytes_val (take k xs) (bytes_take k xs b))), rw l at (val_below (take k xs) (bytes_take k xs b)), refl)

pub eats_number : (k : ℕ) → 1 ≤ k → Eats (number k)
unfolding number
eats_number k h = eats_chunk k val h

pub starved_number : (k : ℕ) → Starved (number (suc k))
unfolding number
starved_number k = starved_chunk k val

-- ---- properties that all ways of joining readers keep

module _ {old : Bool} {P : (A : Type 0) → Parser A → Type 0} {Stops : (List ℕ → Option ℕ) → Type 0} (C : Closed old P Stops) where
  pub closed_number : (k : ℕ) → P ℕ (number k)
  unfolding number
  closed_number k = C.by_chunk k val

  pub closed_byte : P ℕ byte
  unfolding byte
  closed_byte = closed_number 1

  pub closed_bool : P (Unit {0}) bool
  unfolding bool bool_form
  closed_bool = C.by_mapc _ (C.by_must _ closed_byte bool_form (λ b. pick_judges old (ltb b 2) 0 8 refl refl)) (λ _ _. tt)

  pub closed_size : P ℕ size
  unfolding size size_tail size_form
  closed_size =
      C.by_item _ (C.by_bind byte size_tail closed_byte λ b.
      by_pick C (ltb b 255) _ _ (C.by_pure b)
      (C.by_must _ (closed_number 4) size_form (λ n. first_of_judges old 7 (ltb n 255) _ refl (first_of_judges old 7 (negative 4 n) [] refl (none_judges old)))))

  pub closed_declared : (least own : ℕ) → P (List ℕ) (declared least own)
  unfolding declared length_form
  closed_declared least own =
      C.by_item _ (C.by_bind _ _
      (C.by_must _ (closed_number 4) (length_form least) (λ n. first_of_judges old 11 (ltb n least) _ refl (first_of_judges old 11 (negative 4 n) [] refl (none_judges old))))
      (λ n. C.by_chunk (n - own) (λ b. b)))

  pub closed_string : P (List ℕ) string
  unfolding string Content
  closed_string = C.by_must _ (C.by_item _ (C.by_bind size _ closed_size (λ n. C.by_chunk n (λ b. b)))) Content (λ b. pick_judges old (is_utf8 b) 0 24 refl refl)

pub held_byte : Held byte
held_byte = closed_byte (held false)

pub held_bool : Held bool
held_bool = closed_bool (held false)

pub held_size : Held size
held_size = closed_size (held false)

pub held_declared : (least own : ℕ) → Held (declared least own)
held_declared = closed_declared (held false)

pub held_string : Held string
held_string = closed_string (held false)

-- ---- one byte

pub eats_byte : Eats byte
unfolding byte
eats_byte = eats_number 1 (omega arith)

pub starved_byte : Starved byte
unfolding byte
starved_byte = starved_number 0

pub starved_string : Starved string
unfolding string size
starved_string = starved_must Content _ (starved_item _ (starved_bind _ _ (starved_item _ (starved_bind _ _ starved_byte))))

pub byte_written : (b : ℕ) (r : List ℕ) → byte (b ∷ r) ≡ ok b 1
unfolding byte number val
byte_written b r = chunk_written 1 val (b ∷ []) r refl ∙ ap (λ (v : ℕ). ok v 1) (omega arith)

pub byte_canonical : (xs : List ℕ) {a n : ℕ} → byte xs ≡ ok a n → (take n xs ≡ a ∷ []) × (n ≡ 1)
unfolding byte number val
byte_canonical [] h = let e = chunk_ok 1 val [] h in absurd (omega (arith, e.0))
byte_canonical (x ∷ xs) h = let e = chunk_ok 1 val (x ∷ xs) h in let v : x + 256 * 0 ≡ x = omega arith in rw (e.2, e.1, v) (refl, refl)

-- a byte that was read is one
pub byte_below : (xs : List ℕ) → Bytes xs → {a n : ℕ} → byte xs ≡ ok a n → a < 256
byte_below xs b {a} {n} h = (subst Bytes (byte_canonical xs h).0 (bytes_take n xs b)).0

pub eats_bool : Eats bool
unfolding bool
eats_bool = eats_mapc (λ _ _. tt) _ (eats_must bool_form byte eats_byte)

-- ---- sizes

pub size_short : (n : ℕ) → n < 255 → size_bytes n ≡ n ∷ []
unfolding size_bytes
size_short n h = rw (lt-ltb n 255 h)

pub size_long : (n : ℕ) → 255 ≤ n → size_bytes n ≡ 255 ∷ le_bytes 4 n
unfolding size_bytes
size_long n h = rw (le-ltb n 255 h)

-- an int that is not negative
pub negative_ok : (n : ℕ) → negative 4 n ≡ false → n < 2 ^ 31
unfolding negative
negative_ok n h = leb-false (2 ^ 31) n h

pub negative_step : (n : ℕ) → n < 2 ^ 31 → negative 4 n ≡ false
unfolding negative
negative_step n h = lt-leb (2 ^ 31) n h

pub size_form_ok : (n : ℕ) → size_form n ≡ 0 → (255 ≤ n) × (n < 2 ^ 31)
unfolding size_form
size_form_ok n h =
    let a = first_of_ok 6 (ltb n 255) ((7, negative 4 n) ∷ []) h in
    (ltb-false n 255 a.0, negative_ok n (first_of_ok 6 (negative 4 n) [] a.1).0)

pub size_form_step : (n : ℕ) → 255 ≤ n → n < 2 ^ 31 → size_form n ≡ 0
unfolding size_form first_of
size_form_step n h k = rw (le-ltb n 255 h, negative_step n k)

pub eats_size : Eats size
unfolding size
eats_size = eats_item _ (eats_first byte size_tail eats_byte)

pub size_written : (n : ℕ) (r : List ℕ) → n < 2 ^ 31 → size (size_bytes n ++ r) ≡ ok n (length (size_bytes n))
unfolding size size_bytes size_tail pure
size_written n r h = go (ltb n 255) refl
  where
    go : (t : Bool) → ltb n 255 ≡ t → size (pick t (n ∷ []) (255 ∷ le_bytes 4 n) ++ r) ≡ ok n (length (pick t (n ∷ []) (255 ∷ le_bytes 4 n)))
    go true e = item_step (byte >>= size_tail) (n ∷ r) (bind_step byte size_tail (n ∷ r) {m = 0} (byte_written n r) (rw e))
    go false e =
        let l = length_le_bytes 4 n in
        let f : size_form n ≡ 0 = size_form_step n (ltb-false n 255 e) h in
        rw l (item_step (byte >>= size_tail) (255 ∷ (le_bytes 4 n ++ r)) (bind_step byte size_tail (255 ∷ (le_bytes 4 n ++ r)) (byte_written 255 (le_bytes 4 n ++ r))
        (must_step (number 4) (le_bytes 4 n ++ r) size_form (number_written 4 n r (omega arith)) f)))

tail_canonical : (x : ℕ) (ys : List ℕ) → x < 256 → Bytes ys → {n m : ℕ} → size_tail x ys ≡ ok n m → (x ∷ take m ys ≡ size_bytes n) × (n < 2 ^ 31)
unfolding size_tail size_bytes pure
tail_canonical x ys hx b {n} {m} h = go (ltb x 255) refl h
  where
    go : (t : Bool) → ltb x 255 ≡ t → pick t (pure x) (must size_form (number 4)) ys ≡ ok n m → (x ∷ take m ys ≡ size_bytes n) × (n < 2 ^ 31)
    go true e h =
        let P = pure_ok x ys h in
        let lt = ltb-true x 255 e in
        rw (P.1, P.0) (rw e, omega arith)
    go false e h =
        let ge = ltb-false x 255 e in
        let ex : x ≡ 255 = omega arith in
        let M = must_ok (number 4) ys size_form h in
        let F = size_form_ok n M.1 in
        let C = number_canonical 4 ys b M.0 in
        (rw (ex, C.0, le-ltb n 255 F.0), F.1)

pub size_canonical : (xs : List ℕ) → Bytes xs → {n k : ℕ} → size xs ≡ ok n k → (take k xs ≡ size_bytes n) × (n < 2 ^ 31)
unfolding size
size_canonical xs b {n} {k} h =
    let B = bind_ok byte size_tail xs (item_ok (byte >>= size_tail) xs h) in
    let C = byte_canonical xs B.first in
    let D = tail_canonical B.fst (drop B.n xs) (byte_below xs b B.first) (bytes_drop B.n xs b) B.next in
    (bind_take byte size_tail xs B ∙ ap (λ (l : List ℕ). l ++ take B.m (drop B.n xs)) C.0 ∙ D.0, D.1)

-- ---- declared lengths

pub length_form_ok : (least n : ℕ) → length_form least n ≡ 0 → (least ≤ n) × (n < 2 ^ 31)
unfolding length_form
length_form_ok least n h =
    let a = first_of_ok 10 (ltb n least) ((11, negative 4 n) ∷ []) h in
    (ltb-false n least a.0, negative_ok n (first_of_ok 10 (negative 4 n) [] a.1).0)

pub length_form_step : (least n : ℕ) → least ≤ n → n < 2 ^ 31 → length_form least n ≡ 0
unfolding length_form first_of
length_form_step least n h k = rw (le-ltb n least h, negative_step n k)

pub ends_declared : (least own : ℕ) → Ends (declared least own)
unfolding declared
ends_declared least own = ends_item _ (ends_bind _ _ (λ n. ends_chunk (n - own)))

pub eats_declared : (least own : ℕ) → Eats (declared least own)
unfolding declared
eats_declared least own = eats_item _ (eats_first _ _ (eats_must (length_form least) (number 4) (eats_number 4 (omega arith))))

pub declared_written : (least own : ℕ) (d r : List ℕ) → own ≤ least → least ≤ own + length d → own + length d < 2 ^ 31
    → declared least own (le_bytes 4 (own + length d) ++ d ++ r) ≡ ok d (4 + length d)
unfolding declared
declared_written least own d r o h k =
    let n : ℕ = own + length d in
    let l : length (le_bytes 4 n) ≡ 4 = length_le_bytes 4 n in
    let c : n - own ≡ length d = omega arith in
    rw append_assoc (item_step _ (le_bytes 4 n ++ (d ++ r)) (bind_step (must (length_form least) (number 4)) (λ n. chunk (n - own) (λ b. b)) (le_bytes 4 n ++ (d ++ r))
    (must_step (number 4) (le_bytes 4 n ++ (d ++ r)) (length_form least) (number_written 4 n (d ++ r) (omega arith)) (length_form_step least n h k))
    (rw (drop_at (le_bytes 4 n) (d ++ r) 4 l, c) (chunk_written (length d) (λ b. b) d r refl))))

pub declared_canonical : (least own : ℕ) (xs : List ℕ) → Bytes xs → own ≤ least → {d : List ℕ} {n : ℕ} → declared least own xs ≡ ok d n
    → (take n xs ≡ le_bytes 4 (own + length d) ++ d) × (least ≤ own + length d) × (own + length d < 2 ^ 31) × (n ≡ 4 + length d)
unfolding declared
declared_canonical least own xs b o {d} {n} h = go (bind_ok (must (length_form least) (number 4)) (λ i. chunk (i - own) (λ b. b)) xs (item_ok _ xs h))
  where
    go : Bound (must (length_form least) (number 4)) (λ i. chunk (i - own) (λ b. b)) xs d n
        → (take n xs ≡ le_bytes 4 (own + length d) ++ d) × (least ≤ own + length d) × (own + length d < 2 ^ 31) × (n ≡ 4 + length d)
    go B =
        let M = must_ok (number 4) xs (length_form least) B.first in
        let F = length_form_ok least B.fst M.1 in
        let C = number_canonical 4 xs b M.0 in
        let K = chunk_ok (B.fst - own) (λ b. b) (drop B.n xs) B.next in
        let l : length d ≡ B.fst - own = ap length K.1 ∙ length-take-le (B.fst - own) (drop B.n xs) K.0 in
        let s : own + length d ≡ B.fst = omega (arith, F.0) in
        let e : take B.m (drop B.n xs) ≡ d = ap (λ (i : ℕ). take i (drop B.n xs)) K.2 ∙ sym K.1 in (
          bind_take (must (length_form least) (number 4)) (λ i. chunk (i - own) (λ b. b)) xs B ∙ ap (λ (z : List ℕ). z ++ take B.m (drop B.n xs)) (C.0 ∙ ap (le_bytes 4) (sym s)) ∙ ap (λ (z : List ℕ). le_bytes 4 (own + length d) ++ z) e,
          omega (arith, F.0),
          omega (arith, F.1),
          omega (arith, B.sum, C.2, K.2),
        )

-- ---- strings

pub content_ok : (b : List ℕ) → Content b ≡ 0 → Utf8 b
unfolding Content
content_ok b h = utf8_ok b (pick_true (is_utf8 b) 23 h)

pub content_step : (b : List ℕ) → Utf8 b → Content b ≡ 0
unfolding Content
content_step b u = rw (utf8_step b u)

pub eats_string : Eats string
unfolding string
eats_string = eats_must Content _ (eats_item _ (eats_first size _ eats_size))

pub string_written : (b r : List ℕ) → Content b ≡ 0 → length b < 2 ^ 31 → string (string_bytes b ++ r) ≡ ok b (length (string_bytes b))
unfolding string string_bytes
string_written b r c h =
    must_step (item (size >>= λ n. chunk n (λ b. b))) (size_bytes (length b) ++ b ++ r) Content
    (item_step (size >>= λ n. chunk n (λ b. b)) (size_bytes (length b) ++ b ++ r)
    (bind_written size (λ n. chunk n (λ b. b)) (size_bytes (length b)) b r (size_written (length b) (b ++ r) h) (chunk_written (length b) (λ b. b) b r refl)))
    c

pub string_canonical : (xs : List ℕ) → Bytes xs → {b : List ℕ} {n : ℕ} → string xs ≡ ok b n → (take n xs ≡ string_bytes b) × (Content b ≡ 0) × (length b < 2 ^ 31)
unfolding string string_bytes
string_canonical xs y {b} {n} h =
    let M = must_ok _ xs Content h in
    go M.1 (bind_ok size (λ n. chunk n (λ b. b)) xs (item_ok _ xs M.0))
  where
    go : Content b ≡ 0 → Bound size (λ n. chunk n (λ b. b)) xs b n → (take n xs ≡ size_bytes (length b) ++ b) × (Content b ≡ 0) × (length b < 2 ^ 31)
    go c B =
        let S = size_canonical xs y B.first in
        let K = chunk_ok B.fst (λ b. b) (drop B.n xs) B.next in
        let l : length b ≡ B.fst = ap length K.1 ∙ length-take-le B.fst (drop B.n xs) K.0 in
        let e : take B.m (drop B.n xs) ≡ b = ap (λ (i : ℕ). take i (drop B.n xs)) K.2 ∙ sym K.1 in (
          bind_take size (λ n. chunk n (λ b. b)) xs B ∙ ap (λ (z : List ℕ). z ++ take B.m (drop B.n xs)) (S.0 ∙ ap size_bytes (sym l)) ∙ ap (λ (z : List ℕ). size_bytes (length b) ++ z) e,
          c,
          omega (arith, S.1),
        )
