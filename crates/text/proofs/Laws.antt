-- One character by its bytes, bytes below 128 that are passed at once, and strings. Assumes nothing.
--
--   between_..             a byte by its bounds
--   least_.., most_..      the bounds of a second byte, by the first
--   character_.., _cut     the character in front, by its first byte and whether those after it lie within their ranges
--   Fronts, fronts         what its bytes say of all the bytes: no text, or text if what follows is
--   marks, unset           bytes whose highest bits are not set are below 128
--   ascii_two, _four       eight to sixteen and sixteen to thirty-two of these bytes
--   crossed_.., ascii_..   bytes that are passed, and the loops that pass many
--   text_..                the loop over characters; text_low bytes between two places that are all below 128
--   few_.., tested_..      up to eight of these bytes; the loops that test many
--   string_..              a string by its counted bytes, a short one by one long; dropped_.. its content left out; short_.. one with a size of one byte
use mathlib.Core.Path.{◌≡◌, refl, sym, ap, ap₂, ◌∙◌}
use mathlib.Core.Bool.{Bool, true, false, ◌&&◌, true≢false}
use mathlib.Core.Option.{Option, none, some}
use mathlib.Core.List.{List, [], ◌∷◌}
use Prim.Native.Nat.{ℕ, zero, suc, ◌+◌, ◌-◌, ◌*◌, ◌/◌, ◌^◌, ◌≤◌, ◌<◌}
use native.Mathlib.Nat.{add-zero, zero-add}
use native.Mathlib.Numerals.{add-one}
use native.Mathlib.Omega.{arith}
use lib.ListN.{length, take, drop, get_or, drop_of_length-le, length-drop}
use lib.Seq.{drop-cons, drop-drop, length-take-le, get_or-take, get_or-drop}
use lib.Dec.{eqb, leb}
use lib.Bits.{bit_and, bit_or, and_block, and_self, or_add_and, and_le_l, and_le_r}
use borrow.Author.Tests.{le-leb, lt-leb, eqb-true, eqb-false, eq-eqb, ne_eqb}
use Rattle.encoding.specs.Result.{ok, pick, judged, must, made, mapc}
use Rattle.encoding.proofs.ResultLaws.{both_true, held_took, Ends, ends_chunk, ends_item, ends_bind}
use Rattle.encoding.specs.Number.{Content, string}
use Rattle.encoding.specs.Proxy.{text}
use Rattle.encoding.specs.Types.{vsize}
use Rattle.encoding.specs.Optional.{extent}
use Rattle.encoding.proofs.OptionalLaws.{held_extent}
use Rattle.encoding.specs.Table.{at}
use Rattle.encoding.specs.Utf8.{Bounds, in_bounds, any_later, characters, following, advance, advance_all, at_boundary, is_utf8}
use Rattle.encoding.proofs.Utf8Laws.{below_or, none_stays, first_one, first_early, first_two, first_three_least, first_three_low, first_three_middle, first_three_high, first_four_least, first_four_low, first_four_most, first_late}
use Rattle.wire.specs.At.{at_more}
use Rattle.std.specs.Prelude.{Result, Ok, Err}
use Rattle.wire.specs.declared.Counted.{Counted}
use Rattle.wire.specs.declared.Refusal.{Refusal}
use Rattle.wire.specs.Steps.{step_of, bytes_of, refused, counted}
use Rattle.wire.specs.StepLaws.{bytes_is, bytes_isnt}
use Rattle.wire.proofs.Laws.{size_short, counted_whole}
use Rattle.text.specs.Characters.{in_all, second_bounds, character_bytes, first_character, Ascii, Tested, Crossed}

-- ---- bounds

-- the byte at a place, if it is there
drop_there : (s : List ℕ) (i : ℕ) → i < length s → drop i s ≡ get_or s i 0 ∷ drop (suc i) s
drop_there s i h = drop-cons s i 0 h

module _ (s : List ℕ) (i least most : ℕ) where
  pub between_past : length s ≤ i → false ≡ in_all ((least, most) ∷ []) (drop i s)
  unfolding in_all
  between_past h = rw (drop_of_length-le s h)

  module _ (h : i < length s) (b : ℕ) (e : b ≡ get_or s i 0) where
    pub between_low : b < least → false ≡ in_all ((least, most) ∷ []) (drop i s)
    unfolding in_all in_bounds
    between_low l = rw (drop_there s i h, ← e, lt-leb least b l)

    pub between_is : least ≤ b → leb b most ≡ in_all ((least, most) ∷ []) (drop i s)
    unfolding in_all in_bounds
    between_is l = rw (drop_there s i h, ← e, le-leb least b l) (and_true (leb b most))
      where
        and_true : (t : Bool) → t ≡ t && true
        and_true true = refl
        and_true false = refl

-- equal to a number, or not
equal_or : {A : Type 0} (a k : ℕ) → (a ≡ k → A) → ((a ≡ k → ⊥) → A) → A
equal_or {A} a k is isnt = go (eqb a k) refl
  where
    go : (t : Bool) → eqb a k ≡ t → A
    go true e = is (eqb-true a k e)
    go false e = isnt (eqb-false a k e)

module _ (a : ℕ) where
  pub least_three : a ≡ 0xE0 → 0xA0 ≡ (second_bounds a).0
  unfolding second_bounds
  least_three e = rw (eq-eqb a 0xE0 e)

  pub least_four : (a ≡ 0xE0 → ⊥) → a ≡ 0xF0 → 0x90 ≡ (second_bounds a).0
  unfolding second_bounds
  least_four n e = rw (ne_eqb a 0xE0 n, eq-eqb a 0xF0 e)

  pub least_other : (a ≡ 0xE0 → ⊥) → (a ≡ 0xF0 → ⊥) → 0x80 ≡ (second_bounds a).0
  unfolding second_bounds
  least_other n m = rw (ne_eqb a 0xE0 n, ne_eqb a 0xF0 m)

  pub most_three : a ≡ 0xED → 0x9F ≡ (second_bounds a).1
  unfolding second_bounds
  most_three e = rw (eq-eqb a 0xED e)

  pub most_four : (a ≡ 0xED → ⊥) → a ≡ 0xF4 → 0x8F ≡ (second_bounds a).1
  unfolding second_bounds
  most_four n e = rw (ne_eqb a 0xED n, eq-eqb a 0xF4 e)

  pub most_other : (a ≡ 0xED → ⊥) → (a ≡ 0xF4 → ⊥) → 0xBF ≡ (second_bounds a).1
  unfolding second_bounds
  most_other n m = rw (ne_eqb a 0xED n, ne_eqb a 0xF4 m)

  -- the ranges after a first byte of three and of four
  three_due : 0xE0 ≤ a → a < 0xF0 → following characters a ≡ some (second_bounds a ∷ any_later ∷ [])
  unfolding second_bounds
  three_due h k =
      equal_or a 0xE0 (λ e. rw e (first_three_least 0xE0 refl)) λ n.
      equal_or a 0xED (λ e. rw e (first_three_middle 0xED refl)) λ m.
      rw (ne_eqb a 0xE0 n, ne_eqb a 0xF0 (λ e. omega arith), ne_eqb a 0xED m, ne_eqb a 0xF4 (λ e. omega arith))
      (below_or a 0xED (λ l. first_three_low a (omega arith) (omega arith)) (λ l. first_three_high a (omega arith) (omega arith)))

  four_due : 0xF0 ≤ a → a < 0xF5 → following characters a ≡ some (second_bounds a ∷ any_later ∷ any_later ∷ [])
  unfolding second_bounds
  four_due h k =
      equal_or a 0xF0 (λ e. rw e (first_four_least 0xF0 refl)) λ n.
      equal_or a 0xF4 (λ e. rw e (first_four_most 0xF4 refl)) λ m.
      rw (ne_eqb a 0xE0 (λ e. omega arith), ne_eqb a 0xF0 n, ne_eqb a 0xED (λ e. omega arith), ne_eqb a 0xF4 m)
      (first_four_low a (omega arith) (omega arith))

-- ---- the character in front

-- the first of several ranges, then the others
in_more : (r : Bounds) (rs : List Bounds) (xs : List ℕ) → in_all (r ∷ rs) xs ≡ in_all (r ∷ []) xs && in_all rs (drop 1 xs)
unfolding in_all
in_more r rs [] = refl
in_more r rs (x ∷ xs) = go (in_bounds r x) (in_all rs xs)
  where
    go : (t u : Bool) → t && u ≡ (t && true) && u
    go true u = refl
    go false u = refl

module _ (s : List ℕ) (i : ℕ) (h : i < length s) (a : ℕ) (e : a ≡ get_or s i 0) where
  front_byte : first_character (drop i s) ≡ character_bytes (following characters a) (drop (i + 1) s)
  unfolding first_character
  front_byte = rw (drop_there s i h, ← e, add-one)

  pub character_one : a < 0x80 → 1 ≡ first_character (drop i s)
  unfolding character_bytes in_all
  character_one l = sym (front_byte ∙ rw (first_one a (omega arith)))

  pub character_early : 0x80 ≤ a → a < 0xC2 → 0 ≡ first_character (drop i s)
  unfolding character_bytes
  character_early l k = sym (front_byte ∙ rw (first_early a l (omega arith)))

  module _ (l : 0xC2 ≤ a) (k : a < 0xE0) (r : Bool) (q : r ≡ in_all ((0x80, 0xBF) ∷ []) (drop (i + 1) s)) where
    pub character_two : r ≡ true → 2 ≡ first_character (drop i s)
    unfolding character_bytes
    character_two t = sym (front_byte ∙ rw (first_two a l (omega arith), ← q, t))

    pub two_cut : r ≡ false → 0 ≡ first_character (drop i s)
    unfolding character_bytes
    two_cut t = sym (front_byte ∙ rw (first_two a l (omega arith), ← q, t))

  pub character_late : 0xF5 ≤ a → 0 ≡ first_character (drop i s)
  unfolding character_bytes
  character_late l = sym (front_byte ∙ rw (first_late a l))

  -- one byte further
  next_drop : (k : ℕ) → drop 1 (drop (i + k) s) ≡ drop (i + suc k) s
  next_drop k = let z : i + k + 1 ≡ i + suc k = omega arith in drop-drop 1 (i + k) s ∙ ap (λ (j : ℕ). drop j s) z

  -- three or four bytes: whether the second, the third and the fourth lie within their ranges
  module _ (m n : ℕ) (em : m ≡ (second_bounds a).0) (en : n ≡ (second_bounds a).1) (r : Bool) (q : r ≡ in_all ((m, n) ∷ []) (drop (i + 1) s)) where
    three_or_four : (rs : List Bounds) → following characters a ≡ some (second_bounds a ∷ rs)
        → first_character (drop i s) ≡ pick (r && in_all rs (drop (i + 2) s)) (suc (suc (length rs))) 0
    unfolding character_bytes
    three_or_four rs f =
        let b : r ≡ in_all (second_bounds a ∷ []) (drop (i + 1) s) = q ∙ ap₂ (λ (x y : ℕ). in_all ((x, y) ∷ []) (drop (i + 1) s)) em en in
        let g : in_all (second_bounds a ∷ rs) (drop (i + 1) s) ≡ r && in_all rs (drop (i + 2) s) =
        in_more (second_bounds a) rs (drop (i + 1) s) ∙ ap₂ (λ (t : Bool) (l : List ℕ). t && in_all rs l) (sym b) (next_drop 1)
        in front_byte ∙ rw (f, g)

    pub second_cut : 0xE0 ≤ a → r ≡ false → 0 ≡ first_character (drop i s)
    second_cut l t =
        below_or a 0xF0 (λ k. sym (three_or_four _ (three_due a l k) ∙ rw t)) λ j.
        below_or a 0xF5 (λ k. sym (three_or_four _ (four_due a j k) ∙ rw t)) character_late

    module _ (t : r ≡ true) (r₂ : Bool) (q₂ : r₂ ≡ in_all ((0x80, 0xBF) ∷ []) (drop (i + 2) s)) where
      pub character_three : 0xE0 ≤ a → a < 0xF0 → r₂ ≡ true → 3 ≡ first_character (drop i s)
      character_three l k u = sym (three_or_four _ (three_due a l k) ∙ rw (t, ← q₂, u))

      four : 0xF0 ≤ a → a < 0xF5 → first_character (drop i s) ≡ pick (r₂ && in_all ((0x80, 0xBF) ∷ []) (drop (i + 3) s)) 4 0
      four l k =
          three_or_four _ (four_due a l k)
          ∙ rw (t, in_more any_later (any_later ∷ []) (drop (i + 2) s), ← q₂, next_drop 2)

      pub third_cut : 0xE0 ≤ a → r₂ ≡ false → 0 ≡ first_character (drop i s)
      third_cut l u =
          below_or a 0xF0 (λ k. sym (three_or_four _ (three_due a l k) ∙ rw (t, ← q₂, u))) λ j.
          below_or a 0xF5 (λ k. sym (four j k ∙ rw u)) character_late

      module _ (u : r₂ ≡ true) (l : 0xF0 ≤ a) (k : a < 0xF5) (r₃ : Bool) (q₃ : r₃ ≡ in_all ((0x80, 0xBF) ∷ []) (drop (i + 3) s)) where
        pub character_four : r₃ ≡ true → 4 ≡ first_character (drop i s)
        character_four v = sym (four l k ∙ rw (u, ← q₃, v))

        pub fourth_cut : r₃ ≡ false → 0 ≡ first_character (drop i s)
        fourth_cut v = sym (four l k ∙ rw (u, ← q₃, v))

-- ---- a character passed

-- the ranges due, and then text
boundary_due : (rs : List Bounds) (xs : List ℕ) → at_boundary (advance_all (some rs) xs) ≡ in_all rs xs && is_utf8 (drop (length rs) xs)
unfolding advance_all advance at_boundary in_all is_utf8
boundary_due [] xs = refl
boundary_due (r ∷ rs) [] = refl
boundary_due (r ∷ rs) (x ∷ xs) = go (in_bounds r x) (boundary_due rs xs)
  where
    go : (t : Bool) → at_boundary (advance_all (some rs) xs) ≡ in_all rs xs && is_utf8 (drop (length rs) xs)
        → at_boundary (advance_all (pick t (some rs) none) xs) ≡ (t && in_all rs xs) && is_utf8 (drop (length rs) xs)
    go true ih = ih
    go false ih = ap at_boundary (none_stays xs)

in_length : (rs : List Bounds) (xs : List ℕ) → in_all rs xs ≡ true → length rs ≤ length xs
unfolding in_all
in_length [] xs h = omega arith
in_length (r ∷ rs) [] h = absurd (true≢false (sym h))
in_length (r ∷ rs) (x ∷ xs) h = omega (arith, in_length rs xs (both_true (in_bounds r x) (in_all rs xs) h).1)

-- what the bytes of a character say of the whole
data Fronts (xs : List ℕ) : ℕ → Type 0 where
  is_none_lem : is_utf8 xs ≡ false → Fronts xs 0
  text_if : {k : ℕ} → suc k ≤ length xs → is_utf8 xs ≡ is_utf8 (drop (suc k) xs) → Fronts xs (suc k)

fronts : (xs : List ℕ) → 0 < length xs → Fronts xs (first_character xs)
unfolding first_character character_bytes is_utf8 advance_all advance at_boundary
fronts [] h = absurd (omega arith)
fronts (x ∷ xs) h = go (following characters x) refl
  where
    whole : (o : Option (List Bounds)) → following characters x ≡ o → is_utf8 (x ∷ xs) ≡ at_boundary (advance_all o xs)
    whole o e = ap (λ (z : Option (List Bounds)). at_boundary (advance_all z xs)) e

    go₂ : (rs : List Bounds) → following characters x ≡ some rs → (t : Bool) → in_all rs xs ≡ t → Fronts (x ∷ xs) (pick t (suc (length rs)) 0)
    go₂ rs e true f = text_if {k = length rs} (omega (arith, in_length rs xs f)) (whole (some rs) e ∙ boundary_due rs xs ∙ rw f)
    go₂ rs e false f = is_none_lem (whole (some rs) e ∙ boundary_due rs xs ∙ rw f)

    go : (o : Option (List Bounds)) → following characters x ≡ o → Fronts (x ∷ xs) (character_bytes o xs)
    go none e = is_none_lem (whole none e ∙ ap at_boundary (none_stays xs))
    go (some rs) e = go₂ rs e (in_all rs xs) refl

-- ---- bytes below 128

-- the highest bit of each of k bytes
abbrev pub marks : ℕ → ℕ
marks zero = 0
marks (suc k) = 128 + 256 * marks k

unset_byte : (x : ℕ) → x < 256 → bit_and x 128 ≡ 0 → x < 128
unset_byte x h e =
    below_or x 128 (λ l. l) λ l.
    let p : x ≡ 1 * 2 ^ 7 + (x - 128) = omega arith in
    let f : bit_and x 128 ≡ bit_and 1 1 * 2 ^ 7 + bit_and (x - 128) 0 = ap (λ (y : ℕ). bit_and y 128) p ∙ and_block 7 1 1 (x - 128) 0 (omega arith) (omega arith) in
    absurd (omega (arith, and_self 1))

pub no_bits : (x y : ℕ) → bit_or x y ≡ 0 → (x ≡ 0) × (y ≡ 0)
no_bits x y e = let f = or_add_and x y in let g = and_le_l x y in let h = and_le_r x y in (omega arith, omega arith)

-- two parts of k bytes each, the first and the last of n, that leave none out
covered : {s : List ℕ} {i k n : ℕ} → n ≤ k + k → Ascii s i k → Ascii s (i + n - k) k → Ascii s i n
covered {i = i} {k = k} h p q = record {
  there = omega (arith, p.there, q.there);
  below = λ m a l. below_or m (i + k) (λ b. p.below m a b) (λ b. q.below m (omega arith) (omega arith));
}

-- two parts, the second right after the first
joined : {s : List ℕ} {i j k n : ℕ} → j ≡ i + k → Ascii s i k → Ascii s j n → Ascii s i (k + n)
joined {i = i} {k = k} e p q = record {
  there = omega (arith, q.there);
  below = λ m h l. below_or m (i + k) (λ b. p.below m h b) (λ b. q.below m (omega arith) (omega arith));
}

module _ (s : List ℕ) (bytes : (j : ℕ) → get_or s j 0 < 256) where
  -- the first k of the bytes at i, whose marks are not set
  unset : (k n i : ℕ) → bit_and (at s (k + n) i) (marks k) ≡ 0 → (j : ℕ) → i ≤ j → j < i + k → get_or s j 0 < 128
  unset zero n i e j h l = absurd (omega arith)
  unset (suc k) n i e j h l =
      let x : ℕ = get_or s i 0 in
      let v : ℕ = at s (k + n) (suc i) in
      let z : suc k + n ≡ suc (k + n) = omega arith in
      let p : at s (suc k + n) i ≡ v * 2 ^ 8 + x = ap (λ (w : ℕ). at s w i) z ∙ omega (arith, at_more s (k + n) i) in
      let q : marks (suc k) ≡ marks k * 2 ^ 8 + 128 = omega arith in
      let f : bit_and v (marks k) * 2 ^ 8 + bit_and x 128 ≡ 0 = sym (ap₂ bit_and p q ∙ and_block 8 v (marks k) x 128 (bytes i) (omega arith)) ∙ e in
      equal_or i j (λ y. rw y at (unset_byte x (bytes i) (omega arith))) λ y.
      unset k n (suc i) (omega arith) j (omega arith) (omega arith)

  ascii_long : (i x : ℕ) → i ≤ length s → 8 ≤ length s - i → x ≡ at s 8 i → bit_and x (marks 8) ≡ 0 → Ascii s i 8
  ascii_long i x h l e m = record { there = omega arith; below = unset 8 0 i (ap (λ (y : ℕ). bit_and y (marks 8)) (sym e) ∙ m) }

  -- two longs that cover eight to sixteen bytes, no mark in any of them
  pub ascii_two : (i n a b : ℕ) → 8 ≤ n → n ≤ 16 → i + n ≤ length s → a ≡ at s 8 i → b ≡ at s 8 (i + n - 8)
      → eqb (bit_or (bit_and a (marks 8)) (bit_and b (marks 8))) 0 ≡ true → Ascii s i n
  ascii_two i n a b h l w ea eb m =
      let both = no_bits _ _ (eqb-true _ _ m) in
      covered (omega arith) (ascii_long i a (omega arith) (omega arith) ea both.0) (ascii_long (i + n - 8) b (omega arith) (omega arith) eb both.1)

  -- four longs that cover sixteen to thirty-two
  pub ascii_four : (i n a b c d : ℕ) → 16 ≤ n → n ≤ 32 → i + n ≤ length s → a ≡ at s 8 i → b ≡ at s 8 (i + 8) → c ≡ at s 8 (i + n - 16) → d ≡ at s 8 (i + n - 8)
      → eqb (bit_or (bit_or (bit_and a (marks 8)) (bit_and b (marks 8))) (bit_or (bit_and c (marks 8)) (bit_and d (marks 8)))) 0 ≡ true → Ascii s i n
  ascii_four i n a b c d h l w ea eb ec ed m =
      let both = no_bits _ _ (eqb-true _ _ m) in
      let first = no_bits _ _ both.0 in
      let last = no_bits _ _ both.1 in
      covered (omega arith)
      (joined refl (ascii_long i a (omega arith) (omega arith) ea first.0) (ascii_long (i + 8) b (omega arith) (omega arith) eb first.1))
      (joined (omega arith) (ascii_long (i + n - 16) c (omega arith) (omega arith) ec last.0) (ascii_long (i + n - 8) d (omega arith) (omega arith) ed last.1))

-- ---- what is passed

module _ (s : List ℕ) where
  pub crossed_none : (i : ℕ) → i ≤ length s → Crossed s i i
  crossed_none i h = record { onward = omega arith; inside = h; same = refl }

  crossed_then : {i j k : ℕ} → Crossed s i j → Crossed s j k → Crossed s i k
  crossed_then p q = record { onward = omega (arith, p.onward, q.onward); inside = q.inside; same = p.same ∙ q.same }

  -- a byte below 128
  pub crossed_byte : (i : ℕ) → i < length s → get_or s i 0 < 128 → Crossed s i (i + 1)
  unfolding is_utf8 advance_all advance
  crossed_byte i h l = record {
    onward = omega arith;
    inside = omega arith;
    same = rw (drop_there s i h, add-one) (ap (λ (o : Option (List Bounds)). at_boundary (advance_all o (drop (suc i) s))) (first_one (get_or s i 0) (omega arith)));
  }

  crossed_ascii : (k i : ℕ) → Ascii s i k → Crossed s i (i + k)
  crossed_ascii zero i p = rw (add-zero i) (crossed_none i (omega (arith, p.there)))
  crossed_ascii (suc k) i p =
      let z : i + suc k ≡ i + 1 + k = omega arith in
      rw z (crossed_then (crossed_byte i (omega (arith, p.there)) (p.below i (omega arith) (omega arith)))
      (crossed_ascii k (i + 1) (record { there = omega (arith, p.there); below = λ j h l. p.below j (omega arith) (omega arith) })))

  -- the loops that pass many
  pub ascii_room : (i k : ℕ) (r : Bool) → (r ≡ true → Ascii s i k) → r ≡ true → i + k ≤ length s
  ascii_room i k r p t = (p t).there

  pub ascii_less : (i k : ℕ) (r : Bool) → (r ≡ true → Ascii s i k) → r ≡ true → 0 < k → length s - (i + k) < length s - i
  ascii_less i k r p t l = omega (arith, (p t).there)

  pub ascii_turn : (from i k : ℕ) → Crossed s from i → (r : Bool) → (r ≡ true → Ascii s i k) → r ≡ true → Crossed s from (i + k)
  ascii_turn from i k inv r p t = crossed_then inv (crossed_ascii k i (p t))

  -- the last eight, where fewer are left
  pub ascii_last : (from i : ℕ) → Crossed s from i → length s - i < 8 → 8 ≤ length s → (r : Bool) → (r ≡ true → Ascii s (length s - 8) 8) → r ≡ true → Crossed s from (length s)
  ascii_last from i inv h l r p t =
      let k : ℕ = length s - i in
      let z : i + k ≡ length s = omega (arith, inv.inside) in
      let q = p t in
      rw z at (crossed_then inv (crossed_ascii k i (record { there = omega (arith, inv.inside); below = λ j m n. q.below j (omega arith) (omega (arith, q.there)) })))

  -- ---- character by character

  pub text_ascii : (i r : ℕ) → Crossed s 0 i → i < length s → get_or s i 0 < 128 → Crossed s (i + 1) r → Crossed s 0 r
  text_ascii i r inv h l p = crossed_then inv (crossed_then (crossed_byte i h l) p)

  front_of : (i : ℕ) → i < length s → Fronts (drop i s) (first_character (drop i s))
  front_of i h = fronts (drop i s) (omega (arith, length-drop i s))

  module _ (i k : ℕ) (inv : Crossed s 0 i) (h : i < length s) (e : k ≡ first_character (drop i s)) where
    pub text_wrong : k ≡ 0 → false ≡ is_utf8 s
    text_wrong z = sym (inv.same ∙ go _ (front_of i h) (sym e ∙ z))
      where
        go : (n : ℕ) → Fronts (drop i s) n → n ≡ 0 → is_utf8 (drop i s) ≡ false
        go zero (is_none_lem f) q = f
        go (suc n) f q = absurd (omega arith)

    pub text_next : (k ≡ 0 → ⊥) → Crossed s 0 (i + k)
    text_next z = go _ (front_of i h) e
      where
        go : (n : ℕ) → Fronts (drop i s) n → k ≡ n → Crossed s 0 (i + k)
        go zero f q = absurd (z q)
        go (suc n) (text_if l f) q =
            rw q (crossed_then inv (record { onward = omega arith; inside = omega (arith, length-drop i s); same = f ∙ ap is_utf8 (drop-drop (suc n) i s) }))

    pub text_room : (k ≡ 0 → ⊥) → i + k ≤ length s
    text_room z = (text_next z).inside

    pub text_less : (k ≡ 0 → ⊥) → length s - (i + k) < length s - i
    text_less z = omega (arith, text_room z)

  pub text_end : (i : ℕ) → Crossed s 0 i → length s ≤ i → true ≡ is_utf8 s
  unfolding is_utf8 advance_all at_boundary
  text_end i inv h = sym (inv.same ∙ rw (drop_of_length-le s h))

-- ---- between two places

-- the marks of the first n of eight bytes
shifted : (n : ℕ) → (n ≡ 0 → ⊥) → n ≤ 8 → marks 8 / 2 ^ (64 - 8 * n) ≡ marks n
shifted zero h l = absurd (h refl)
shifted (suc zero) h l = refl
shifted (suc (suc zero)) h l = refl
shifted (suc (suc (suc zero))) h l = refl
shifted (suc (suc (suc (suc zero)))) h l = refl
shifted (suc (suc (suc (suc (suc zero))))) h l = refl
shifted (suc (suc (suc (suc (suc (suc zero)))))) h l = refl
shifted (suc (suc (suc (suc (suc (suc (suc zero))))))) h l = refl
shifted (suc (suc (suc (suc (suc (suc (suc (suc zero)))))))) h l = refl
shifted (suc (suc (suc (suc (suc (suc (suc (suc (suc n))))))))) h l = absurd (omega arith)

module _ (s : List ℕ) where
  pub few_none : (i n : ℕ) → i + n ≤ length s → n ≡ 0 → Ascii s i n
  few_none i n h e = record { there = h; below = λ j a b. absurd (omega arith) }

  pub few_marked : ((j : ℕ) → get_or s j 0 < 256) → (i n : ℕ) → n ≤ 8 → i + n ≤ length s → (n ≡ 0 → ⊥) → (x : ℕ) → x ≡ at s 8 i
      → eqb (bit_and x (marks 8 / 2 ^ (64 - 8 * n))) 0 ≡ true → Ascii s i n
  few_marked bytes i n k h more x e m =
      let z : n + (8 - n) ≡ 8 = omega arith in
      let none : bit_and (at s (n + (8 - n)) i) (marks n) ≡ 0 = ap₂ bit_and (ap (λ (w : ℕ). at s w i) z ∙ sym e) (sym (shifted n more k)) ∙ eqb-true _ _ m in
      record { there = h; below = unset s bytes n (8 - n) i none }

  -- the loops over a string: k at a time, then the last k
  pub tested_none : (from to : ℕ) → from ≤ to → to ≤ length s → Tested s from to from
  tested_none from to h l =
      record { onward = omega arith; inside = h; low = record { there = omega arith; below = λ j a b. absurd (omega arith) } }

  pub tested_turn : (from to i k : ℕ) → Tested s from to i → i < to - k → (r : Bool) → (r ≡ true → Ascii s i k) → r ≡ true → Tested s from to (i + k)
  tested_turn from to i k inv h r p t =
      let z : i + k - from ≡ i - from + k = omega (arith, inv.onward) in
      let e : i ≡ from + (i - from) = omega (arith, inv.onward) in
      record { onward = omega (arith, inv.onward); inside = omega arith; low = rw z (joined e inv.low (p t)) }

  pub tested_last : (from to i k : ℕ) → Tested s from to i → to - k ≤ i → from + k ≤ to → (r : Bool) → (r ≡ true → Ascii s (to - k) k) → r ≡ true → Ascii s from (to - from)
  tested_last from to i k inv h l r p t =
      let q = p t in
      record {
        there = omega (arith, q.there);
        below = λ j a b. below_or j i (λ m. inv.low.below j a (omega (arith, inv.onward))) (λ m. q.below j (omega arith) (omega (arith, inv.inside)));
      }

  pub text_low : (from to : ℕ) → from ≤ to → to ≤ length s → (r : Bool) → (r ≡ true → Ascii s from (to - from)) → r ≡ true → true ≡ is_utf8 (take (to - from) (drop from s))
  text_low from to h l r p t =
      let n : ℕ = to - from in
      let x : List ℕ = take n (drop from s) in
      let q = p t in
      let len : length x ≡ n = length-take-le n (drop from s) (omega (arith, length-drop from s)) in
      let low : Ascii x 0 n = record {
        there = omega arith;
        below = λ j a b. rw (get_or-take n (drop from s) j 0 (omega arith), get_or-drop from s j 0) (q.below (from + j) (omega arith) (omega arith));
      } in
      text_end x n (rw zero-add at (crossed_ascii x n 0 low)) (omega arith)

-- ---- strings

-- a string is counted bytes, and what they hold is judged
string_counted : (s : List ℕ) → string s ≡ judged Content (extent vsize s)
unfolding string must extent
string_counted s = refl

ends_counted : Ends (extent vsize)
unfolding extent
ends_counted = ends_item _ (ends_bind _ _ (λ n. ends_chunk n))

module _ (s : List ℕ) (r : Result Counted Refusal) (e : r ≡ bytes_of (extent vsize s)) where
  pub string_bad : (x : Refusal) → r ≡ Err x → Err x ≡ bytes_of (string s)
  unfolding judged bytes_of
  string_bad x q = sym (ap bytes_of (string_counted s) ∙ rw (bytes_isnt (extent vsize s) x (sym q ∙ e)))

  module _ (x : Counted) (q : r ≡ Ok x) where
    -- the bytes
    counted_bytes : (d : List ℕ) × (extent vsize s ≡ ok d x.bytes) × (x.number ≡ length d)
    counted_bytes = bytes_is (extent vsize s) x (sym q ∙ e)

    pub string_size : x.number ≤ x.bytes
    string_size = omega (arith, counted_bytes.2, (ends_counted s counted_bytes.0 x.bytes counted_bytes.1).within)

    pub string_within : x.bytes ≤ length s
    string_within = held_took (extent vsize) (held_extent vsize) s counted_bytes.1

    -- they end what is taken
    counted_there : take (x.bytes - (x.bytes - x.number)) (drop (x.bytes - x.number) s) ≡ counted_bytes.0
    counted_there =
        let l : length counted_bytes.0 ≡ x.number = sym counted_bytes.2 in
        let z : x.bytes - (x.bytes - x.number) ≡ x.number = omega (arith, string_size) in
        rw z (rw l at (ends_counted s counted_bytes.0 x.bytes counted_bytes.1).there)

    module _ (t : Bool) (g : t ≡ is_utf8 (take (x.bytes - (x.bytes - x.number)) (drop (x.bytes - x.number) s))) where
      is_text : is_utf8 counted_bytes.0 ≡ t
      is_text = sym (g ∙ ap is_utf8 counted_there)

      pub string_is : t ≡ true → Ok x ≡ bytes_of (string s)
      unfolding judged Content bytes_of
      string_is u = sym (ap bytes_of (string_counted s) ∙ rw (counted_bytes.1, is_text, u, ← counted_bytes.2))

      pub string_isnt : t ≡ false → refused 24 0 ≡ bytes_of (string s)
      unfolding judged Content bytes_of
      string_isnt u = sym (ap bytes_of (string_counted s) ∙ rw (counted_bytes.1, is_text, u))

-- a size of one byte, and its bytes
short_counted : (s : List ℕ) (n : ℕ) → n ≡ at s 1 0 → n < 255 → n < length s → counted n (1 + n) ≡ bytes_of (extent vsize s)
short_counted s n e l h = counted_whole s (counted n 1) (size_short s n e (omega arith) l) _ refl (omega arith)

-- a size below 8 and its bytes, all below 128
pub string_few : (s : List ℕ) → 8 ≤ length s → (n : ℕ) → n ≡ at s 1 0 → n < 8 → (t : Bool) → (t ≡ true → Ascii s 0 (1 + n)) → t ≡ true → counted n (1 + n) ≡ bytes_of (string s)
string_few s h n e l t p u =
    let k : ℕ = 1 + n in
    let low : Ascii s (k - n) (k - (k - n)) = record { there = omega arith; below = λ j a b. (p u).below j (omega arith) (omega arith) } in
    string_is s (counted n k) (short_counted s n e (omega arith) (omega arith)) _ refl t (u ∙ text_low s (k - n) k (omega arith) (omega arith) t (λ v. low) u) u

-- its content left out
module _ (s : List ℕ) (r : Result Counted Refusal) (e : r ≡ bytes_of (string s)) where
  pub dropped_took : (x : Counted) → r ≡ Ok x → Ok x.bytes ≡ step_of (text s)
  unfolding text mapc made step_of
  dropped_took x q = rw (bytes_is (string s) x (sym q ∙ e)).1

  pub dropped_bad : (x : Refusal) → r ≡ Err x → Err x ≡ step_of (text s)
  unfolding text mapc made step_of
  dropped_bad x q = rw (bytes_isnt (string s) x (sym q ∙ e))

-- a string with a size of one byte, by its bytes
module _ (s : List ℕ) (n : ℕ) (e : n ≡ at s 1 0) (small : n < 256) (more : n ≡ 255 → ⊥) (h : n < length s) (t : Bool) where
  pub short_is : t ≡ is_utf8 (take (1 + n - 1) (drop 1 s)) → t ≡ true → Ok (1 + n) ≡ step_of (text s)
  short_is g u =
      let k : ℕ = 1 + n in
      let z : 1 ≡ k - n = omega arith in
      let judged_there : t ≡ is_utf8 (take (k - (k - n)) (drop (k - n) s)) = g ∙ ap (λ (i : ℕ). is_utf8 (take (k - i) (drop i s))) z in
      dropped_took s (counted n k) (string_is s (counted n k) (short_counted s n e (omega arith) h) _ refl t judged_there u) _ refl

  pub short_low : (t ≡ true → Ascii s 1 n) → t ≡ true → Ok (1 + n) ≡ step_of (text s)
  short_low p u =
      let low : Ascii s 1 (1 + n - 1) = record { there = omega arith; below = λ j a b. (p u).below j a (omega arith) } in
      short_is (u ∙ text_low s 1 (1 + n) (omega arith) (omega arith) t (λ v. low) u) u
