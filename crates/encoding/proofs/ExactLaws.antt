-- The readers of values, of types whose lists rise, and of extents take exactly the strings of their grammars: by the type, each by the law of its combinator.
--
--   takes_value, takes_values   the readers of values
--   exact_is, is_exact          exactly one value of a type is a string of the grammar, and the other way round
--   takes_extent                the reader of extents
--   extent_is, is_extent        what it takes as a whole is a string of the grammar, and the other way round
use Rattle.std.specs.Prelude.{◌≡◌, refl, Bool, true, false, List, [], ◌++◌, ℕ, length, leb}
use Rattle.std.proofs.Common.{sym, ap, ◌∙◌, subst, append-nil, arith, leb-true, leb-false, le-leb}
use Rattle.std.proofs.Math.Seq.{take-length}
use Rattle.std.proofs.lemmas.Bool.{lt-leb}
use Rattle.encoding.specs.Result.{Parser, ok, pick, chunk, skip, mapc, bytes}
use Rattle.encoding.proofs.ResultLaws.{pick_true, bytes_ok, bytes_step, mapc_ok, mapc_step}
use Rattle.encoding.specs.Types.{Allowed, allows, most, Num, short, int, long, float, double, width, Ty, Tys, nil, cons, broken, bool, byte, string, proxy, old_proxy, num, enum, old_enum, struct, seq, dict, Bits, f1, f2, f4, f8, size, vsize, fsize, class}
use Rattle.encoding.specs.Number.{val, number}
use Rattle.encoding.specs.Value.{enum_form, enum_width, value, values, exact}
use Rattle.encoding.proofs.ValueLaws.{exact_ok, exact_step}
use Rattle.encoding.specs.Optional.{extent}
use Rattle.encoding.specs.Grammar.{IsInt, IsSize, AnyBytes, IsNum, Among, IsEnum, enumerator, OldWidth, a_byte, a_short, an_int, IsOldEnum, old_enumerator, IsValue, AreValues, IsSizeAlone, alone, IsVSize, vsize_of, IsFSize, fsize_of, IsExtent, ListRises, ListsRise, AllRise}
use Rattle.encoding.proofs.GrammarLaws.{Reads, Takes, reads_as, reads_must, takes_map, takes_then, reads_fail, reads_chunk, takes_skip, takes_pure, takes_counted, reads_size, SizeThen, after_size, reads_sized, IntThen, after_int, reads_declared}
use Rattle.encoding.proofs.AllowedLaws.{allows_among, among_allows, most_greatest}
use Rattle.encoding.proofs.ProxyLaws.{takes_text, takes_bool, takes_proxy}

-- ---- values

takes_num : (w : Num) → Takes (skip (width w)) (IsNum w)
takes_num short = takes_skip 2
takes_num int = takes_skip 4
takes_num long = takes_skip 8
takes_num float = takes_skip 4
takes_num double = takes_skip 8

takes_enum : (g : Allowed) → ListRises g → Takes (value (enum g)) (IsEnum g)
unfolding value enum_form
takes_enum g R =
    reads_as (λ _ b w. enumerator (allows_among g w.0 (pick_true (allows g w.0) 8 w.1.0)) w.1.1) (λ _ b w. back w)
    (takes_map (reads_must (enum_form g) reads_size))
  where
    back : {b : List ℕ} → IsEnum g b → (n : ℕ) × ((enum_form g n ≡ 0) × IsSize n b)
    back (enumerator {n} a s) = (n, (rw (among_allows g n R a), s))

-- the width of an enumerator in 1.0 is that of document 02
width_old : (g : ℕ) → OldWidth g (enum_width g)
unfolding enum_width
width_old g = go (leb g 126) refl (leb g 32766) refl
  where
    go : (a : Bool) → leb g 126 ≡ a → (b : Bool) → leb g 32766 ≡ b → OldWidth g (pick a 1 (pick b 2 4))
    go true e b q = a_byte (leb-true g 126 e)
    go false e true q = a_short (leb-false g 126 e) (leb-true g 32766 q)
    go false e false q = an_int (leb-false g 32766 q)

old_width : {g k : ℕ} → OldWidth g k → k ≡ enum_width g
unfolding enum_width
old_width {g} (a_byte h) = rw (le-leb g 126 h)
old_width {g} (a_short h k) = rw (lt-leb g 126 h, le-leb g 32766 k)
old_width {g} (an_int h) = rw (lt-leb g 126 (omega arith), lt-leb g 32766 h)

takes_old_enum : (g : Allowed) → ListRises g → Takes (value (old_enum g)) (IsOldEnum g)
unfolding value enum_form number
takes_old_enum g R = reads_as (λ _ b w. onward b w.0 w.1.0 w.1.1) (λ _ b w. back w) (takes_map (reads_must (enum_form g) (reads_chunk (enum_width (most g)) val)))
  where
    onward : (b : List ℕ) (n : ℕ) → enum_form g n ≡ 0 → (n ≡ val b) × AnyBytes (enum_width (most g)) b → IsOldEnum g b
    onward b n e (v, l) =
        let a : Among g n = allows_among g n (pick_true (allows g n) 8 e) in
        old_enumerator (most_greatest g R n a) (subst (OldWidth (most g)) (sym l) (width_old (most g))) (subst (Among g) v a)

    back : {b : List ℕ} → IsOldEnum g b → (n : ℕ) × ((enum_form g n ≡ 0) × ((n ≡ val b) × AnyBytes (enum_width (most g)) b))
    back (old_enumerator {g = h} {b} G W a) =
        let M = most_greatest g R (val b) a in
        let same : h ≡ most g = omega (arith, M.most h G.among, G.most (most g) M.among) in
        (val b, (rw (among_allows g (val b) R a), (refl, old_width W ∙ ap enum_width same)))

mutual
  unfolding value values IsValue AreValues ListsRise AllRise

  pub takes_value : (t : Ty) → ListsRise t → Takes (value t) (IsValue t)
  takes_value broken R = reads_fail 4
  takes_value bool R = takes_bool
  takes_value byte R = takes_skip 1
  takes_value string R = takes_text
  takes_value proxy R = takes_proxy false
  takes_value old_proxy R = takes_proxy true
  takes_value (num w) R = takes_num w
  takes_value (enum g) R = takes_enum g R
  takes_value (old_enum g) R = takes_old_enum g R
  takes_value (struct ts) R = takes_values ts R
  takes_value (seq t) R = takes_counted (takes_value t R)
  takes_value (dict k v) R = takes_counted (takes_then (takes_value k R.0) (takes_value v R.1))

  pub takes_values : (ts : Tys) → AllRise ts → Takes (values ts) (AreValues ts)
  takes_values nil R = takes_pure
  takes_values (cons t ts) R = takes_then (takes_value t R.0) (takes_values ts R.1)

pub exact_is : (t : Ty) → ListsRise t → (b : List ℕ) → exact t b ≡ true → IsValue t b
exact_is t R b h = subst (IsValue t) (take-length b) ((takes_value t R).canonical b tt (length b) (exact_ok t b h))

pub is_exact : (t : Ty) → ListsRise t → (b : List ℕ) → IsValue t b → exact t b ≡ true
is_exact t R b w = exact_step t b (rw append-nil at ((takes_value t R).written tt b w []))

-- ---- extents

takes_run : (k : ℕ) → Takes (mapc (λ _ _. tt) (chunk k (λ b. b))) (AnyBytes k)
takes_run k = reads_as (λ _ b w. w.1.1) (λ _ b w. (b, (refl, w))) (takes_map (reads_chunk k (λ b. b)))

-- the bytes of a reader, dropped
takes_bytes : {A : Type 0} {p : Parser A} {P : A → List ℕ → Type 0} → Reads p P → Takes (mapc (λ _ _. tt) (bytes p)) (λ b. (a : A) × P a b)
takes_bytes {p = p} R = record {
  canonical = λ xs c n h. let M = bytes_ok p xs (mapc_ok (bytes p) xs (λ _ _. tt) h).1 in (M.0, R.canonical xs M.0 n M.1);
  written = λ c b w r. mapc_step (bytes p) (b ++ r) (λ _ _. tt) (bytes_step p (b ++ r) (R.written w.0 b w.1 r));
}

pub takes_extent : (k : Bits) → Takes (mapc (λ _ _. tt) (extent k)) (IsExtent k)
unfolding extent
takes_extent f1 = takes_run 1
takes_extent f2 = takes_run 2
takes_extent f4 = takes_run 4
takes_extent f8 = takes_run 8
takes_extent size = reads_as (λ _ b w. alone w.1) (λ _ b w. back w) (takes_bytes reads_size)
  where
    back : {b : List ℕ} → IsSizeAlone b → (n : ℕ) × IsSize n b
    back (alone {n} s) = (n, s)
takes_extent vsize = reads_as (λ _ b w. onward w.0 w.1) (λ _ b w. back w) (takes_map reads_sized)
  where
    onward : (d : List ℕ) {b : List ℕ} → SizeThen d b → IsVSize b
    onward d (after_size s) = vsize_of d s

    back : {b : List ℕ} → IsVSize b → (d : List ℕ) × SizeThen d b
    back (vsize_of d s) = (d, after_size s)
takes_extent fsize = reads_as (λ _ b w. onward w.0 w.1) (λ _ b w. back w) (takes_map (reads_declared 1 0 (omega arith)))
  where
    onward : (d : List ℕ) {b : List ℕ} → IntThen 1 0 d b → IsFSize b
    onward d (after_int {a} l i) = fsize_of d (omega arith) (subst (λ (n : ℕ). IsInt n a) (omega arith) i)

    back : {b : List ℕ} → IsFSize b → (d : List ℕ) × IntThen 1 0 d b
    back (fsize_of {a} d l i) = (d, after_int (omega arith) (subst (λ (n : ℕ). IsInt n a) (omega arith) i))
takes_extent class = reads_as (λ _ b w. w.1) (λ _ b w. absurd w) (takes_map (reads_fail 13))

pub extent_is : (k : Bits) (b : List ℕ) (d : List ℕ) → extent k b ≡ ok d (length b) → IsExtent k b
extent_is k b d h = subst (IsExtent k) (take-length b) ((takes_extent k).canonical b tt (length b) (mapc_step (extent k) b (λ _ _. tt) h))

pub is_extent : (k : Bits) (b : List ℕ) → IsExtent k b → (d : List ℕ) × (extent k b ≡ ok d (length b))
is_extent k b w = let M = mapc_ok (extent k) b (λ _ _. tt) (rw append-nil at ((takes_extent k).written tt b w [])) in (M.0, M.1)
