-- Text by its ranges is text by its scalar values, both ways: each row of the ranges is the encodings of one run of scalar values. Assumes nothing.
--
--   RangeOf                the row that a first byte finds, if any; range_following, following_range: it is what `following` gives
--   InRanges               bytes within the ranges due, one each; ranges_pass, pass_ranges: after them a character may begin
--   none_stays             after a wrong byte nothing is text
--   bytes_..               the bytes of a scalar value by its digits of six bits
--   Spells, spelt          a scalar value with these bytes; each row of the ranges spells one
--   first_..               what is due after a first byte, by its range
--   below_or               by cases: below a number, or not
--   utf8_ok, utf8_step     what the test accepts is the encoding of scalar values, and the encoding of scalar values is accepted
use Rattle.std.specs.Prelude.{◌≡◌, refl, Bool, true, false, List, [], ◌∷◌, ◌++◌, ℕ, zero, suc, ◌+◌, ◌-◌, ◌*◌, ◌/◌, ◌%◌, ◌≤◌, ◌<◌, length, leb, ltb}
use Rattle.std.proofs.Common.{sym, ap, ap₂, ◌∙◌, true≢false, arith, length-append, leb-true, le-leb, lt-ltb, le-ltb, ltb-true, ltb-false}
use Rattle.std.proofs.Math.Option.{Option, none, some}
use Rattle.encoding.specs.Result.{pick, concat}
use Rattle.encoding.proofs.ResultLaws.{both_true, some≢none}
use Rattle.encoding.specs.Utf8.{Bounds, in_bounds, any_later, characters, following, advance, advance_all, at_boundary, is_utf8, Scalar, Scalars, six_bits, scalar_bytes, Utf8}

-- ---- first bytes

in_ok : (r : Bounds) (x : ℕ) → in_bounds r x ≡ true → (r.0 ≤ x) × (x ≤ r.1)
unfolding in_bounds
in_ok r x h = let b = both_true (leb r.0 x) (leb x r.1) h in (leb-true r.0 x b.0, leb-true x r.1 b.1)

pub in_step : (r : Bounds) (x : ℕ) → r.0 ≤ x → x ≤ r.1 → in_bounds r x ≡ true
unfolding in_bounds
in_step r x h k = rw (le-leb r.0 x h, le-leb x r.1 k)

pub in_not : (r : Bounds) (x : ℕ) → (r.0 ≤ x → x ≤ r.1 → ⊥) → in_bounds r x ≡ false
in_not r x h = go (in_bounds r x) refl
  where
    go : (t : Bool) → in_bounds r x ≡ t → t ≡ false
    go true e = let b = in_ok r x e in absurd (h b.0 b.1)
    go false e = refl

data RangeOf (x : ℕ) : List (Bounds × List Bounds) → Option (List Bounds) → Type 0 where
  nowhere : RangeOf x [] none
  here : {lo hi : ℕ} {rs : List Bounds} {cs : List (Bounds × List Bounds)} → lo ≤ x → x ≤ hi → RangeOf x (((lo, hi), rs) ∷ cs) (some rs)
  on : {lo hi : ℕ} {rs : List Bounds} {cs : List (Bounds × List Bounds)} {r : Option (List Bounds)} → (lo ≤ x → x ≤ hi → ⊥) → RangeOf x cs r
      → RangeOf x (((lo, hi), rs) ∷ cs) r

range_following : {x : ℕ} {cs : List (Bounds × List Bounds)} {r : Option (List Bounds)} → RangeOf x cs r → following cs x ≡ r
unfolding following
range_following nowhere = refl
range_following {x} (here {lo} {hi} h k) = rw (in_step (lo, hi) x h k)
range_following {x} (on {lo} {hi} h f) = rw (in_not (lo, hi) x h) (range_following f)

following_range : (x : ℕ) (cs : List (Bounds × List Bounds)) → RangeOf x cs (following cs x)
unfolding following
following_range x [] = nowhere
following_range x (((lo, hi), rs) ∷ cs) = go (in_bounds (lo, hi) x) refl (following_range x cs)
  where
    go : (t : Bool) → in_bounds (lo, hi) x ≡ t → RangeOf x cs (following cs x) → RangeOf x (((lo, hi), rs) ∷ cs) (pick t (some rs) (following cs x))
    go true e f = let b = in_ok (lo, hi) x e in here b.0 b.1
    go false e f = on (λ h k. true≢false (sym (in_step (lo, hi) x h k) ∙ e)) f

-- ---- the bytes after the first

data InRanges : List Bounds → List ℕ → Type 0 where
  done : InRanges [] []
  next : {lo hi y : ℕ} {rs : List Bounds} {ys : List ℕ} → lo ≤ y → y ≤ hi → InRanges rs ys → InRanges ((lo, hi) ∷ rs) (y ∷ ys)

ranges_pass : {rs : List Bounds} {ys : List ℕ} → InRanges rs ys → (r : List ℕ) → advance_all (some rs) (ys ++ r) ≡ advance_all (some []) r
unfolding advance_all advance
ranges_pass done r = refl
ranges_pass (next {lo} {hi} {y} {rs} {ys} h k w) r = ap (λ (t : Bool). advance_all (pick t (some rs) none) (ys ++ r)) (in_step (lo, hi) y h k) ∙ ranges_pass w r

pub none_stays : (xs : List ℕ) → advance_all none xs ≡ none
unfolding advance_all advance
none_stays [] = refl
none_stays (x ∷ xs) = none_stays xs

record Divided (rs : List Bounds) (xs : List ℕ) : Type 0 where
  ys : List ℕ
  zs : List ℕ
  in_ranges : InRanges rs ys
  rest : advance_all (some []) zs ≡ some []
  joined : xs ≡ ys ++ zs

pass_ranges : (rs : List Bounds) (xs : List ℕ) → advance_all (some rs) xs ≡ some [] → Divided rs xs
unfolding advance_all advance
pass_ranges [] xs h = record { ys = []; zs = xs; in_ranges = done; rest = h; joined = refl }
pass_ranges (r ∷ rs) [] h = let z : ◌≡◌ {A = ℕ} 0 1 = cc in absurd (omega arith)
pass_ranges ((lo, hi) ∷ rs) (x ∷ xs) h = go (in_bounds (lo, hi) x) refl h (λ e. pass_ranges rs xs e)
  where
    go : (t : Bool) → in_bounds (lo, hi) x ≡ t → advance_all (pick t (some rs) none) xs ≡ some [] → (advance_all (some rs) xs ≡ some [] → Divided rs xs) → Divided ((lo, hi) ∷ rs) (x ∷ xs)
    go true e h ih =
        let S = ih h in
        let b = in_ok (lo, hi) x e in
        record { ys = x ∷ S.ys; zs = S.zs; in_ranges = next b.0 b.1 S.in_ranges; rest = S.rest; joined = ap (λ (l : List ℕ). x ∷ l) S.joined }
    go false e h ih = absurd (some≢none h (none_stays xs))

-- ---- scalar values

-- the bytes of a value, by its digits of six bits
bytes_one : (c : ℕ) → c < 0x80 → scalar_bytes c ≡ c ∷ []
unfolding scalar_bytes
bytes_one c h = rw (lt-ltb c 0x80 h)

bytes_two : (c a y : ℕ) → c ≡ 64 * a + y → y < 64 → 0x80 ≤ c → c < 0x800 → scalar_bytes c ≡ (0xC0 + a) ∷ (0x80 + y) ∷ []
unfolding scalar_bytes six_bits
bytes_two c a y e l h k =
    let p : c / 64 ≡ a = omega arith in
    let q : c % 64 ≡ y = omega arith in
    rw (le-ltb c 0x80 h, lt-ltb c 0x800 k, p, q)

bytes_three : (c a y z : ℕ) → c ≡ 4096 * a + 64 * y + z → y < 64 → z < 64 → 0x800 ≤ c → c < 0x10000 → scalar_bytes c ≡ (0xE0 + a) ∷ (0x80 + y) ∷ (0x80 + z) ∷ []
unfolding scalar_bytes six_bits
bytes_three c a y z e l m h k =
    let p : c / 4096 ≡ a = omega arith in
    let q : c / 64 % 64 ≡ y = omega arith in
    let r : c % 64 ≡ z = omega arith in
    rw (le-ltb c 0x80 (omega arith), le-ltb c 0x800 h, lt-ltb c 0x10000 k, p, q, r)

bytes_four : (c a y z w : ℕ) → c ≡ 262144 * a + 4096 * y + 64 * z + w → y < 64 → z < 64 → w < 64 → 0x10000 ≤ c
    → scalar_bytes c ≡ (0xF0 + a) ∷ (0x80 + y) ∷ (0x80 + z) ∷ (0x80 + w) ∷ []
unfolding scalar_bytes six_bits
bytes_four c a y z w e l m n h =
    let p : c / 262144 ≡ a = omega arith in
    let q : c / 4096 % 64 ≡ y = omega arith in
    let r : c / 64 % 64 ≡ z = omega arith in
    let t : c % 64 ≡ w = omega arith in
    rw (le-ltb c 0x80 (omega arith), le-ltb c 0x800 (omega arith), le-ltb c 0x10000 h, p, q, r, t)

-- ---- what the test accepts

record Spells (b : List ℕ) : Type 0 where
  value : ℕ
  scalar : Scalar value
  bytes : scalar_bytes value ≡ b

-- the value that bytes of two, three or four spell
abbrev two_of : ℕ → ℕ → ℕ
two_of x y = 64 * (x - 0xC0) + (y - 0x80)

abbrev three_of : ℕ → ℕ → ℕ → ℕ
three_of x y z = 4096 * (x - 0xE0) + 64 * (y - 0x80) + (z - 0x80)

abbrev four_of : ℕ → ℕ → ℕ → ℕ → ℕ
four_of x y z w = 262144 * (x - 0xF0) + 4096 * (y - 0x80) + 64 * (z - 0x80) + (w - 0x80)

-- a byte is its least value and the rest
rebased : (k x : ℕ) → k ≤ x → k + (x - k) ≡ x
rebased k x h = omega arith

module _ (x y : ℕ) (h : 0xC2 ≤ x) (k : x ≤ 0xDF) (a : 0x80 ≤ y) (b : y ≤ 0xBF) where
  spells_two : Spells (x ∷ y ∷ [])
  spells_two = record {
    value = two_of x y;
    scalar = record { most = omega arith; no_surrogate = λ i j. omega arith };
    bytes = bytes_two (two_of x y) (x - 0xC0) (y - 0x80) refl (omega arith) (omega arith) (omega arith) ∙ rw (rebased 0xC0 x (omega arith), rebased 0x80 y a);
  }

module _ (x y z : ℕ) (h : 0xE0 ≤ x) (k : x ≤ 0xEF) (a : 0x80 ≤ y) (b : y ≤ 0xBF) (c : 0x80 ≤ z) (d : z ≤ 0xBF) where
  spells_three : 0x800 ≤ three_of x y z → (0xD800 ≤ three_of x y z → three_of x y z ≤ 0xDFFF → ⊥) → Spells (x ∷ y ∷ z ∷ [])
  spells_three l n = record {
    value = three_of x y z;
    scalar = record { most = omega arith; no_surrogate = n };
    bytes =
        bytes_three (three_of x y z) (x - 0xE0) (y - 0x80) (z - 0x80) refl (omega arith) (omega arith) l (omega arith)
        ∙ rw (rebased 0xE0 x h, rebased 0x80 y a, rebased 0x80 z c);
  }

module _ (x y z w : ℕ) (h : 0xF0 ≤ x) (a : 0x80 ≤ y) (b : y ≤ 0xBF) (c : 0x80 ≤ z) (d : z ≤ 0xBF) (e : 0x80 ≤ w) (f : w ≤ 0xBF) where
  spells_four : 0x10000 ≤ four_of x y z w → four_of x y z w ≤ 0x10FFFF → Spells (x ∷ y ∷ z ∷ w ∷ [])
  spells_four l m = record {
    value = four_of x y z w;
    scalar = record { most = m; no_surrogate = λ i j. omega arith };
    bytes =
        bytes_four (four_of x y z w) (x - 0xF0) (y - 0x80) (z - 0x80) (w - 0x80) refl (omega arith) (omega arith) (omega arith) l
        ∙ rw (rebased 0xF0 x h, rebased 0x80 y a, rebased 0x80 z c, rebased 0x80 w e);
  }

-- a row of the ranges, and bytes within it
spelt : (x : ℕ) {rs : List Bounds} {ys : List ℕ} → RangeOf x characters (some rs) → InRanges rs ys → Spells (x ∷ ys)
unfolding characters
spelt x (here h k) done = record {
  value = x;
  scalar = record { most = omega arith; no_surrogate = λ i j. omega arith };
  bytes = bytes_one x (omega arith);
}
spelt x (on _ (here h k)) (next {y} a b done) = spells_two x y (omega arith) (omega arith) a b
spelt x (on _ (on _ (here h k))) (next {y} a b (next {y = z} c d done)) =
    spells_three x y z h (omega arith) (omega arith) b c d (omega arith) (λ i j. omega arith)
spelt x (on _ (on _ (on _ (here h k)))) (next {y} a b (next {y = z} c d done)) =
    spells_three x y z (omega arith) (omega arith) a b c d (omega arith) (λ i j. omega arith)
spelt x (on _ (on _ (on _ (on _ (here h k))))) (next {y} a b (next {y = z} c d done)) =
    spells_three x y z (omega arith) (omega arith) a (omega arith) c d (omega arith) (λ i j. omega arith)
spelt x (on _ (on _ (on _ (on _ (on _ (here h k)))))) (next {y} a b (next {y = z} c d done)) =
    spells_three x y z (omega arith) k a b c d (omega arith) (λ i j. omega arith)
spelt x (on _ (on _ (on _ (on _ (on _ (on _ (here h k))))))) (next {y} a b (next {y = z} c d (next {y = w} e f done))) =
    spells_four x y z w h (omega arith) b c d e f (omega arith) (omega arith)
spelt x (on _ (on _ (on _ (on _ (on _ (on _ (on _ (here h k)))))))) (next {y} a b (next {y = z} c d (next {y = w} e f done))) =
    spells_four x y z w (omega arith) a b c d e f (omega arith) (omega arith)
spelt x (on _ (on _ (on _ (on _ (on _ (on _ (on _ (on _ (here h k))))))))) (next {y} a b (next {y = z} c d (next {y = w} e f done))) =
    spells_four x y z w (omega arith) a (omega arith) c d e f (omega arith) (omega arith)
spelt x (on _ (on _ (on _ (on _ (on _ (on _ (on _ (on _ (on _ past))))))))) _ = elim past [ ]

-- the number bounds the bytes left
text_of : (n : ℕ) (b : List ℕ) → length b < n → advance_all (some []) b ≡ some [] → Utf8 b
unfolding advance_all advance concat
text_of zero b l h = absurd (omega arith)
text_of (suc n) [] l h = record { values = []; scalars = tt; encoded = refl }
text_of (suc n) (x ∷ xs) l h = go (following characters x) (following_range x characters) h (λ zs k e. text_of n zs k e)
  where
    go : (o : Option (List Bounds)) → RangeOf x characters o → advance_all o xs ≡ some [] → ((zs : List ℕ) → length zs < n → advance_all (some []) zs ≡ some [] → Utf8 zs) → Utf8 (x ∷ xs)
    go none f e ih = absurd (some≢none e (none_stays xs))
    go (some rs) f e ih =
        let S = pass_ranges rs xs e in
        let P = spelt x f S.in_ranges in
        let R = ih S.zs (omega (arith, ap length S.joined, length-append S.ys S.zs)) S.rest in record {
          values = P.value ∷ R.values;
          scalars = (P.scalar, R.scalars);
          encoded = ap (λ (l : List ℕ). x ∷ l) S.joined ∙ ap₂ (λ (u v : List ℕ). u ++ v) (sym P.bytes) R.encoded;
        }

boundary_ok : (o : Option (List Bounds)) → at_boundary o ≡ true → o ≡ some []
unfolding at_boundary
boundary_ok none h = absurd (true≢false (sym h))
boundary_ok (some []) h = refl
boundary_ok (some (r ∷ rs)) h = absurd (true≢false (sym h))

pub utf8_ok : (b : List ℕ) → is_utf8 b ≡ true → Utf8 b
unfolding is_utf8
utf8_ok b h = text_of (suc (length b)) b (omega arith) (boundary_ok (advance_all (some []) b) h)

-- ---- what scalar values make

-- what is due after a first byte, by its range
module _ (x : ℕ) where
  pub first_one : x ≤ 0x7F → following characters x ≡ some []
  unfolding characters
  first_one h = range_following (here (omega arith) h)

  pub first_early : 0x80 ≤ x → x ≤ 0xC1 → following characters x ≡ none
  unfolding characters
  first_early h k = range_following (on (λ a b. omega arith) (on (λ a b. omega arith) (on (λ a b. omega arith) (on (λ a b. omega arith) (on (λ a b. omega arith) (on (λ a b. omega arith) (on (λ a b. omega arith) (on (λ a b. omega arith) (on (λ a b. omega arith) nowhere)))))))))

  pub first_two : 0xC2 ≤ x → x ≤ 0xDF → following characters x ≡ some (any_later ∷ [])
  unfolding characters
  first_two h k = range_following (on (λ a b. omega arith) (here h k))

  pub first_three_least : x ≡ 0xE0 → following characters x ≡ some ((0xA0, 0xBF) ∷ any_later ∷ [])
  unfolding characters
  first_three_least e = range_following (on (λ a b. omega arith) (on (λ a b. omega arith) (here (omega arith) (omega arith))))

  pub first_three_low : 0xE1 ≤ x → x ≤ 0xEC → following characters x ≡ some (any_later ∷ any_later ∷ [])
  unfolding characters
  first_three_low h k = range_following (on (λ a b. omega arith) (on (λ a b. omega arith) (on (λ a b. omega arith) (here h k))))

  pub first_three_middle : x ≡ 0xED → following characters x ≡ some ((0x80, 0x9F) ∷ any_later ∷ [])
  unfolding characters
  first_three_middle e = range_following (on (λ a b. omega arith) (on (λ a b. omega arith) (on (λ a b. omega arith) (on (λ a b. omega arith) (here (omega arith) (omega arith))))))

  pub first_three_high : 0xEE ≤ x → x ≤ 0xEF → following characters x ≡ some (any_later ∷ any_later ∷ [])
  unfolding characters
  first_three_high h k = range_following (on (λ a b. omega arith) (on (λ a b. omega arith) (on (λ a b. omega arith) (on (λ a b. omega arith) (on (λ a b. omega arith) (here h k))))))

  pub first_four_least : x ≡ 0xF0 → following characters x ≡ some ((0x90, 0xBF) ∷ any_later ∷ any_later ∷ [])
  unfolding characters
  first_four_least e = range_following (on (λ a b. omega arith) (on (λ a b. omega arith) (on (λ a b. omega arith) (on (λ a b. omega arith) (on (λ a b. omega arith) (on (λ a b. omega arith) (here (omega arith) (omega arith))))))))

  pub first_four_low : 0xF1 ≤ x → x ≤ 0xF3 → following characters x ≡ some (any_later ∷ any_later ∷ any_later ∷ [])
  unfolding characters
  first_four_low h k = range_following (on (λ a b. omega arith) (on (λ a b. omega arith) (on (λ a b. omega arith) (on (λ a b. omega arith) (on (λ a b. omega arith) (on (λ a b. omega arith) (on (λ a b. omega arith) (here h k))))))))

  pub first_four_most : x ≡ 0xF4 → following characters x ≡ some ((0x80, 0x8F) ∷ any_later ∷ any_later ∷ [])
  unfolding characters
  first_four_most e = range_following (on (λ a b. omega arith) (on (λ a b. omega arith) (on (λ a b. omega arith) (on (λ a b. omega arith) (on (λ a b. omega arith) (on (λ a b. omega arith) (on (λ a b. omega arith) (on (λ a b. omega arith) (here (omega arith) (omega arith))))))))))

  pub first_late : 0xF5 ≤ x → following characters x ≡ none
  unfolding characters
  first_late h = range_following (on (λ a b. omega arith) (on (λ a b. omega arith) (on (λ a b. omega arith) (on (λ a b. omega arith) (on (λ a b. omega arith) (on (λ a b. omega arith) (on (λ a b. omega arith) (on (λ a b. omega arith) (on (λ a b. omega arith) nowhere)))))))))

-- a row of the ranges and bytes within it, then what follows
character_passed : (x : ℕ) {rs : List Bounds} {ys : List ℕ} (r : List ℕ) → following characters x ≡ some rs → InRanges rs ys → advance_all (some []) (x ∷ ys ++ r) ≡ advance_all (some []) r
unfolding advance_all advance
character_passed x {rs} {ys} r e w = ap (λ (o : Option (List Bounds)). advance_all o (ys ++ r)) e ∙ ranges_pass w r

-- below a number, or not
pub below_or : {A : Type 0} (c k : ℕ) → (c < k → A) → (k ≤ c → A) → A
below_or {A} c k below above = go (ltb c k) refl
  where
    go : (t : Bool) → ltb c k ≡ t → A
    go true e = below (ltb-true c k e)
    go false e = above (ltb-false c k e)

-- six bits in a byte after the first; any_byte: where nothing narrower is asked
some_byte : {lo hi : ℕ} (n : ℕ) {rs : List Bounds} {ys : List ℕ} → lo ≤ 0x80 + n % 64 → 0x80 + n % 64 ≤ hi → InRanges rs ys → InRanges ((lo, hi) ∷ rs) ((0x80 + n % 64) ∷ ys)
some_byte {lo} {hi} n h k w = next {lo = lo} {hi = hi} {y = 0x80 + n % 64} h k w

any_byte : (n : ℕ) {rs : List Bounds} {ys : List ℕ} → InRanges rs ys → InRanges (any_later ∷ rs) ((0x80 + n % 64) ∷ ys)
any_byte n w = some_byte n (omega arith) (omega arith) w

module _ (c : ℕ) (s : Scalar c) (r : List ℕ) where
  abbrev Admits : Type 0
  Admits = advance_all (some []) (scalar_bytes c ++ r) ≡ advance_all (some []) r

  admits_two : 0x80 ≤ c → c < 0x800 → Admits
  admits_two h k =
      let x : ℕ = 0xC0 + c / 64 in
      rw (bytes_two c (c / 64) (c % 64) (omega arith) (omega arith) h k) (character_passed x r (first_two x (omega arith) (omega arith)) (any_byte c done))

  admits_three : 0x800 ≤ c → c < 0x10000 → Admits
  admits_three h k =
      let x : ℕ = 0xE0 + c / 4096 in
      rw (bytes_three c (c / 4096) (c / 64 % 64) (c % 64) (omega arith) (omega arith) (omega arith) h k)
      (below_or c 0x1000 (λ l. character_passed x r (first_three_least x (omega arith)) (some_byte (c / 64) (omega arith) (omega arith) (any_byte c done))) λ l.
      below_or c 0xD000 (λ m. character_passed x r (first_three_low x (omega arith) (omega arith)) (any_byte (c / 64) (any_byte c done))) λ m.
      below_or c 0xD800 (λ n. character_passed x r (first_three_middle x (omega arith)) (some_byte (c / 64) (omega arith) (omega arith) (any_byte c done))) λ n.
      below_or c 0xE000 (λ o. absurd (s.no_surrogate n (omega arith))) λ o.
      character_passed x r (first_three_high x (omega arith) (omega arith)) (any_byte (c / 64) (any_byte c done)))

  admits_four : 0x10000 ≤ c → Admits
  admits_four h =
      let x : ℕ = 0xF0 + c / 262144 in
      let m = s.most in
      rw (bytes_four c (c / 262144) (c / 4096 % 64) (c / 64 % 64) (c % 64) (omega arith) (omega arith) (omega arith) (omega arith) h)
      (below_or c 0x40000 (λ l. character_passed x r (first_four_least x (omega arith)) (some_byte (c / 4096) (omega arith) (omega arith) (any_byte (c / 64) (any_byte c done)))) λ l.
      below_or c 0x100000 (λ n. character_passed x r (first_four_low x (omega arith) (omega arith)) (any_byte (c / 4096) (any_byte (c / 64) (any_byte c done)))) λ n.
      character_passed x r (first_four_most x (omega arith)) (some_byte (c / 4096) (omega arith) (omega arith) (any_byte (c / 64) (any_byte c done))))

  admits : Admits
  admits =
      below_or c 0x80 (λ k. rw (bytes_one c k) (character_passed c r (first_one c (omega arith)) done)) λ h.
      below_or c 0x800 (λ k. admits_two h k) λ i.
      below_or c 0x10000 (λ k. admits_three i k) λ j.
      admits_four j

text_back : (cs : List ℕ) → Scalars cs → advance_all (some []) (concat scalar_bytes cs) ≡ some []
unfolding concat advance_all
text_back [] s = refl
text_back (c ∷ cs) s = admits c s.0 (concat scalar_bytes cs) ∙ text_back cs s.1

pub utf8_step : (b : List ℕ) → Utf8 b → is_utf8 b ≡ true
unfolding is_utf8 at_boundary
utf8_step b u = rw (u.encoded, text_back u.values u.scalars)
