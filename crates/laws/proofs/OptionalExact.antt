-- Pieces of one owner, read and encoded: what is read is what the encoder makes, and what it makes is read back.
--
--   Told ms least p s              p is an optional that members ms know or do not, its tag at least `least`; s is the least tag after it
--   header_written, _canonical     an optional's header, its tag in the header or after it
--   part_written                   a known value in its part
--   optional_written, _canonical   an optional, known or skipped
--   optionals_written, _canonical  optionals up to a stop
--   requireds_canonical            required members; `Parts` splits a level in required members and optionals
--   fields_written, _canonical     the members of a slice
--   parameters_written, _canonical those of a parameter list
use Rattle.std.specs.Prelude.{◌≡◌, refl, true, false, ◌&&◌, ◌||◌, not, length, take, drop, eqb, ltb}
use Rattle.std.proofs.Common.{sym, ap₂, ◌∙◌, subst, true≢false, zero-add, add-zero, arith, length-append, length-drop, drop_at, take_at, take-add, length-take-le, eqb-true, ltb-true, ltb-false, lt-ltb, le-ltb, eq-eqb, ne_eqb}
use Rattle.std.proofs.Math.Path.{ap}
use Rattle.std.proofs.Math.Bool.{Bool}
use Rattle.std.proofs.lemmas.Bool.{false≢true, not-false, eqb-false}
use Rattle.std.proofs.Math.Option.{Option, none, some}
use mathlib.Core.List.{List, [], ◌∷◌, ◌++◌, append_assoc, append-nil}
use Prim.Native.Nat.{ℕ, zero, suc, ◌+◌, ◌*◌, ◌/◌, ◌%◌, ◌≤◌, ◌<◌}
use Rattle.std.proofs.Math.Seq.{take-nil, take-length}
use Rattle.encoding.specs.Result.{ok, Parser, pick, ◌>>=◌, pure, fail, chunk, skip, must, mapc, bytes, times, at_end, at_mark, first_of, concat}
use Rattle.encoding.proofs.ResultLaws.{ok≢bad, some≢none, Bound, bind_ok, bind_step, bind_take, bind_written, pure_ok, chunk_ok, chunk_step, chunk_written, item_step, must_ok, must_step, mapc_ok, mapc_step, bytes_ok, bytes_step, inside_ok, inside_step, first_of_ok, pick_true, framed_more, framed_times, held_took, Run, end, step, run_of, of_run, run_fuel}
use Rattle.encoding.specs.Number
use Rattle.encoding.specs.Proxy
use Rattle.encoding.specs.Number.{Bytes, Short, byte, le_bytes, size_bytes}
use Rattle.encoding.proofs.NumberLaws.{bytes_drop, byte_written, byte_canonical, size_written, size_canonical, length_le_bytes, declared_written}
use Rattle.encoding.specs.Types.{Ty, short, int, long, float, double, broken, bool, string, proxy, old_proxy, num, enum, old_enum, struct, seq, dict, fixed, fixeds, single, Bits, f1, f2, f4, f8, size, vsize, fsize, class, bits, bits_at, Form, bare, own, counted, sized, bits_of, form_of}
use Rattle.encoding.specs.Types
use Rattle.encoding.proofs.TypesLaws.{bits_below, bits_back, bits_there}
use Rattle.encoding.specs.Value.{value}
use Rattle.encoding.proofs.ValueLaws.{framed_value, exact_ok, exact_step, eats_value}
use Rattle.encoding.specs.Table.{Member, lookup, fine, faults}
use Rattle.encoding.specs.Table
use Rattle.encoding.specs.Optional.{Piece, required, optional, skipped, Header, first_form, header_tail, wrong_type, header_form, header, extent, part, content, next_optional, optionals, requireds, header_bytes, length_bytes, front_bytes, content_bytes, piece_bytes, is_optional}
use Rattle.encoding.proofs.OptionalLaws.{framed_extent, Sound, held_content, held_header, eats_optional, form_of_sound, part_canonical}
use Rattle.encoding.specs.Slice
use Rattle.encoding.specs.Slice.{data_bytes, any_optional, some_form, fields}
use Rattle.encoding.proofs.SliceLaws.{some_form_ok, some_form_step}
use Rattle.encoding.specs.Message.{parameters}
use Rattle.encoding.specs.Grammar.{IsValue, IsExtent, ListsRise}
use Rattle.encoding.proofs.OptionalFormLaws.{form_has, is_form}
use Rattle.encoding.specs.Conform.{Known, Unknown, Level, Owned}
use Rattle.encoding.proofs.ListLaws.{MembersRise, found_rises, required_rise, optional_rise}
use Rattle.encoding.proofs.ExactLaws.{takes_value, exact_is, is_exact, takes_extent}

-- ---- headers

-- what is read of a header with this tag and type
unfoldable pub header_of : ℕ → Bits → Header
header_of t k = record { long = not (ltb t 30); tag = t; type = k }

first_written : (h : ℕ) (ys : List ℕ) → h / 8 < 31 → must first_form byte (h ∷ ys) ≡ ok h 1
unfolding first_form
first_written h ys l = must_step byte (h ∷ ys) first_form (byte_written h ys) (rw (lt-ltb (h / 8) 31 l))

tail_written : (t : ℕ) (k : Bits) (r : List ℕ) → Short t → (must first_form byte >>= header_tail) (header_bytes t k ++ r) ≡ ok (header_of t k) (length (header_bytes t k))
unfolding header_bytes header_of header_tail pure
tail_written t k r h = go (ltb t 30) refl (bits_below k)
  where
    go : (q : Bool) → ltb t 30 ≡ q → bits k < 8 → (must first_form byte >>= header_tail) (pick q ((t * 8 + bits k) ∷ []) ((240 + bits k) ∷ size_bytes t) ++ r)
        ≡ ok (record { long = not q; tag = t; type = k }) (length (pick q ((t * 8 + bits k) ∷ []) ((240 + bits k) ∷ size_bytes t)))
    go true e b =
        let lt = ltb-true t 30 e in
        let x : ℕ = t * 8 + bits k in
        let d : (t * 8 + bits k) / 8 ≡ t = omega arith in
        let m : (t * 8 + bits k) % 8 ≡ bits k = omega arith in
        bind_step _ header_tail (x ∷ r) {m = 0} (first_written x r (omega arith)) (rw (d, m, bits_back k, ne_eqb t 30 (omega arith)))
    go false e b =
        let x : ℕ = 240 + bits k in
        let d : (240 + bits k) / 8 ≡ 30 = omega arith in
        let m : (240 + bits k) % 8 ≡ bits k = omega arith in
        bind_step _ header_tail (x ∷ (size_bytes t ++ r)) {m = length (size_bytes t)} (first_written x (size_bytes t ++ r) (omega arith))
        (rw (d, m, bits_back k) (mapc_step Number.size (size_bytes t ++ r) (λ n _. record { long = true; tag = n; type = k }) (size_written t r h)))
        ∙ ap (ok (record { long = true; tag = t; type = k })) (omega arith)

pub header_written : (ms : List Member) (least t : ℕ) (k : Bits) (r : List ℕ) → Short t → least ≤ t → eqb (bits k) 7 ≡ false → wrong_type k (lookup t ms) ≡ false
    → header ms least (header_bytes t k ++ r) ≡ ok (header_of t k) (length (header_bytes t k))
unfolding header header_form header_of first_of
header_written ms least t k r s l c w =
    must_step (must first_form byte >>= header_tail) (header_bytes t k ++ r) (header_form ms least) (tail_written t k r s) (rw (either (ltb t 30), le-ltb t least l, c, w))
  where
    either : (q : Bool) → not q && q ≡ false
    either true = refl
    either false = refl

-- the bytes of a header after its first
tail_canonical : (x : ℕ) (ys : List ℕ) (h : Header) (m : ℕ) → x / 8 < 31 → Bytes ys → header_tail x ys ≡ ok h m → h.long && ltb h.tag 30 ≡ false
    → (x ∷ take m ys ≡ header_bytes h.tag h.type) × Short h.tag
unfolding header_tail header_bytes pure
tail_canonical x ys h m x31 b e l = go (eqb (x / 8) 30) refl e
  where
    bk : bits (bits_at (x % 8)) ≡ x % 8
    bk = bits_there (x % 8) (omega arith)

    go : (q : Bool) → eqb (x / 8) 30 ≡ q
        → pick q (mapc (λ n _. record { long = true; tag = n; type = bits_at (x % 8) }) Number.size) (pure (record { long = false; tag = x / 8; type = bits_at (x % 8) })) ys ≡ ok h m
        → (x ∷ take m ys ≡ header_bytes h.tag h.type) × Short h.tag
    go true q e =
        let M = mapc_ok Number.size ys (λ n _. record { long = true; tag = n; type = bits_at (x % 8) }) e in
        let tg : h.tag ≡ M.0 = ap (λ (y : Header). y.tag) M.2 in
        let ty : h.type ≡ bits_at (x % 8) = ap (λ (y : Header). y.type) M.2 in
        let lg : h.long ≡ true = ap (λ (y : Header). y.long) M.2 in
        let l' : ltb h.tag 30 ≡ false = rw lg at l in
        let x' : 240 + x % 8 ≡ x = omega (arith, eqb-true (x / 8) 30 q) in
        let S = size_canonical ys b M.1 in
        (rw (l', ty, bk, x', tg) (ap (λ (y : List ℕ). x ∷ y) S.0), rw tg S.1)
    go false q e =
        let eh : record { long = false; tag = x / 8; type = bits_at (x % 8) } ≡ h = cc in
        let em : m ≡ 0 = cc in
        let lt : x / 8 < 30 = omega (arith, eqb-false (x / 8) 30 q) in
        let x' : x / 8 * 8 + x % 8 ≡ x = omega arith in
        rw (← eh, em, lt-ltb (x / 8) 30 lt, bk, x') (refl, omega arith)

pub record Headed (ms : List Member) (least : ℕ) (xs : List ℕ) (h : Header) (n : ℕ) : Type 0 where
  pub spelt : take n xs ≡ header_bytes h.tag h.type
  pub short : Short h.tag
  pub rises : least ≤ h.tag
  pub typed : wrong_type h.type (lookup h.tag ms) ≡ false

pub header_canonical : (ms : List Member) (least : ℕ) (xs : List ℕ) → Bytes xs → {h : Header} {n : ℕ} → header ms least xs ≡ ok h n → Headed ms least xs h n
unfolding header header_form first_form
header_canonical ms least xs b {h} {n} e =
    let M = must_ok _ xs (header_form ms least) e in
    let B = bind_ok (must first_form byte) header_tail xs M.0 in
    let F = must_ok byte xs first_form B.first in
    let C = byte_canonical xs F.0 in
    let l₁ = first_of_ok 11 (h.long && ltb h.tag 30) _ M.1 in
    let l₂ = first_of_ok 11 (ltb h.tag least) _ l₁.1 in
    let l₃ = first_of_ok 12 (eqb (bits h.type) 7) _ l₂.1 in
    let l₄ = first_of_ok 11 (wrong_type h.type (lookup h.tag ms)) _ l₃.1 in
    let D = tail_canonical B.fst (drop B.n xs) h B.m (ltb-true (B.fst / 8) 31 (pick_true (ltb (B.fst / 8) 31) 11 F.1)) (bytes_drop B.n xs b) B.next l₁.0 in
    record {
      spelt = bind_take (must first_form byte) header_tail xs B ∙ ap (λ (y : List ℕ). y ++ take B.m (drop B.n xs)) C.0 ∙ D.0;
      short = D.1;
      rises = ltb-false h.tag least l₂.0;
      typed = l₄.0;
    }

-- ---- the part of a known value

-- what the bytes of a value are by the form of its type
abbrev Fit : Form → List ℕ → Type 0
Fit (bare k) b = extent k b ≡ ok b (length b)
Fit own b = (d : List ℕ) × (extent vsize b ≡ ok d (length b))
Fit counted b = Unit {0}
Fit sized b = 1 ≤ length b

chunk_fit : (k : ℕ) (b : List ℕ) → length b ≡ k → chunk k (λ b. b) b ≡ ok b (length b)
chunk_fit k b l = rw append-nil at (chunk_written k (λ b. b) b [] l) ∙ ap (ok b) (sym l)

-- a bool or a byte is one byte
single_one : (t : Ty) → single t ≡ true → (xs : List ℕ) (n : ℕ) → value t xs ≡ ok tt n → n ≡ 1
unfolding single value Number.bool byte Number.number skip
single_one broken e xs n h = absurd (false≢true e)
single_one bool e xs n h = (chunk_ok 1 Number.val xs (must_ok _ xs Number.bool_form (mapc_ok _ xs (λ _ _. tt) h).1).0).2
single_one Types.byte e xs n h = (chunk_ok 1 (λ _. tt) xs h).2
single_one string e xs n h = absurd (false≢true e)
single_one proxy e xs n h = absurd (false≢true e)
single_one old_proxy e xs n h = absurd (false≢true e)
single_one (num w) e xs n h = absurd (false≢true e)
single_one (enum g) e xs n h = absurd (false≢true e)
single_one (old_enum g) e xs n h = absurd (false≢true e)
single_one (struct ts) e xs n h = absurd (false≢true e)
single_one (seq t) e xs n h = absurd (false≢true e)
single_one (dict k v) e xs n h = absurd (false≢true e)

times_one : (p : Parser (Unit {0})) → ((xs : List ℕ) (n : ℕ) → p xs ≡ ok tt n → n ≡ 1) → (n : ℕ) (xs : List ℕ) (m : ℕ) → times n p xs ≡ ok tt m → m ≡ n
unfolding times pure
times_one p one zero xs m h = cc
times_one p one (suc n) xs m h =
    let B = bind_ok p _ xs h in
    omega (arith, B.sum, one xs B.n B.first, times_one p one n (drop B.n xs) B.m B.next)

value_fits : (t : Ty) (b : List ℕ) → value t b ≡ ok tt (length b) → Fit (form_of t) b
unfolding value form_of extent skip fail fixed Number.bool byte Number.number Proxy.text Number.string
value_fits broken b h = absurd (ok≢bad h refl)
value_fits bool b h = chunk_fit 1 b (chunk_ok 1 Number.val b (must_ok _ b Number.bool_form (mapc_ok _ b (λ _ _. tt) h).1).0).2
value_fits Types.byte b h = chunk_fit 1 b (chunk_ok 1 (λ _. tt) b h).2
value_fits string b h = let M = mapc_ok _ b (λ _ _. tt) h in (M.0, (must_ok _ b Number.Content M.1).0)
value_fits proxy b h = eats_value proxy refl b tt (length b) h
value_fits old_proxy b h = eats_value old_proxy refl b tt (length b) h
value_fits (num short) b h = chunk_fit 2 b (chunk_ok 2 (λ _. tt) b h).2
value_fits (num int) b h = chunk_fit 4 b (chunk_ok 4 (λ _. tt) b h).2
value_fits (num long) b h = chunk_fit 8 b (chunk_ok 8 (λ _. tt) b h).2
value_fits (num float) b h = chunk_fit 4 b (chunk_ok 4 (λ _. tt) b h).2
value_fits (num double) b h = chunk_fit 8 b (chunk_ok 8 (λ _. tt) b h).2
value_fits (enum g) b h =
    let M = mapc_ok _ b (λ _ _. tt) h in
    bytes_step Number.size b (must_ok Number.size b _ M.1).0 ∙ ap (λ (y : List ℕ). ok y (length b)) (take-length b)
value_fits (old_enum g) b h = eats_value (old_enum g) refl b tt (length b) h
value_fits (struct ts) b h = go (fixeds ts) refl
  where
    go : (q : Bool) → fixeds ts ≡ q → Fit (pick q counted sized) b
    go true e = tt
    go false e = eats_value (struct ts) e b tt (length b) h
value_fits (seq t) b h = go (single t) refl (fixed t)
  where
    go : (q : Bool) → single t ≡ q → (f : Bool) → Fit (pick q own (pick f counted sized)) b
    go true e f =
        let B = bind_ok Number.size (λ n. times n (value t)) b h in
        let m = times_one (value t) (single_one t e) B.fst (drop B.n b) B.m B.next in
        let F = (framed_times B.fst (value t) (framed_value t) (drop B.n b) tt B.m B.next).fits in (
          take B.fst (drop B.n b),
          item_step _ b (bind_step Number.size (λ n. chunk n (λ b. b)) b B.first (chunk_step B.fst (λ b. b) (drop B.n b) (omega arith)))
              ∙ ap (ok (take B.fst (drop B.n b))) (omega (arith, B.sum)),
        )
    go false e true = tt
    go false e false = eats_value (seq t) refl b tt (length b) h
value_fits (dict k v) b h = go (fixed k && fixed v)
  where
    go : (q : Bool) → Fit (pick q counted sized) b
    go true = tt
    go false = eats_value (dict k v) refl b tt (length b) h

fit_written : (f : Form) (b r : List ℕ) → Fit f b → Short (length b) → part f (length_bytes f b ++ b ++ r) ≡ ok b (length (length_bytes f b ++ b))
unfolding part length_bytes extent
fit_written (bare k) b r h s = framed_more (extent k) (framed_extent k) b h r
fit_written own b r h s =
    bytes_step (extent vsize) (b ++ r) (framed_more (extent vsize) (framed_extent vsize) b h.1 r) ∙ ap (λ (y : List ℕ). ok y (length b)) (take_at b r (length b) refl)
fit_written counted b r h s =
    item_step _ (size_bytes (length b) ++ b ++ r)
    (bind_written Number.size (λ n. chunk n (λ b. b)) (size_bytes (length b)) b r (size_written (length b) (b ++ r) s) (chunk_written (length b) (λ b. b) b r refl))
fit_written sized b r h s =
    let w = declared_written 1 0 b r (omega arith) (omega arith) (omega arith) in
    rw zero-add at w ∙ ap (ok b) (omega (arith, length-append (le_bytes 4 (length b)) b, length_le_bytes 4 (length b)))

-- a value after its length, or bare, is its part
pub part_written : (t : Ty) → ListsRise t → (b r : List ℕ) → IsValue t b → Short (length b) → part (form_of t) (length_bytes (form_of t) b ++ b ++ r) ≡ ok b (length (length_bytes (form_of t) b ++ b))
part_written t R b r w s = fit_written (form_of t) b r (value_fits t b (exact_ok t b (is_exact t R b w))) s

-- the bytes of a value that was read are one
value_taken : (t : Ty) → ListsRise t → (xs : List ℕ) {b : List ℕ} {n : ℕ} → bytes (value t) xs ≡ ok b n → (b ≡ take n xs) × IsValue t b
value_taken t R xs {b} {n} h =
    let W = bytes_ok (value t) xs h in
    (W.2, subst (IsValue t) (sym W.2) ((takes_value t R).canonical xs tt n W.1))

pub value_written : (t : Ty) → ListsRise t → (b r : List ℕ) → IsValue t b → bytes (value t) (b ++ r) ≡ ok b (length b)
value_written t R b r w = bytes_step (value t) (b ++ r) ((takes_value t R).written tt b w r) ∙ ap (λ (y : List ℕ). ok y (length b)) (take_at b r (length b) refl)

-- ---- an optional

-- an optional that members ms know, or one that they do not; after it a tag is at least s
pub data Told (ms : List Member) (least : ℕ) : Piece → ℕ → Type 0 where
  known : {t : ℕ} {f : Form} {b : List ℕ} → Known ms least t f b → Told ms least (optional t f b) (suc t)
  unknown : {t : ℕ} {k : Bits} {b : List ℕ} → Unknown ms least t k b → Told ms least (skipped t k b) (suc t)

told_level : {ms : List Member} {least : ℕ} {p : Piece} {s : ℕ} → Told ms least p s → (ps : List Piece) → Level [] ms s ps → Level [] ms least (p ∷ ps)
told_level (known K) ps L = (K, L)
told_level (unknown K) ps L = (K, L)

-- no type's form is Class
form_type : (t : Ty) → eqb (bits (bits_of (form_of t))) 7 ≡ false
form_type t = go (form_of t) (form_of_sound t)
  where
    go : (f : Form) → Sound f → eqb (bits (bits_of f)) 7 ≡ false
    go (bare f1) s = refl
    go (bare f2) s = refl
    go (bare f4) s = refl
    go (bare f8) s = refl
    go (bare size) s = refl
    go (bare vsize) s = absurd s
    go (bare fsize) s = absurd s
    go (bare class) s = absurd s
    go own s = refl
    go counted s = refl
    go sized s = refl

extent_type : (k : Bits) (b : List ℕ) → IsExtent k b → eqb (bits k) 7 ≡ false
extent_type f1 b w = refl
extent_type f2 b w = refl
extent_type f4 b w = refl
extent_type f8 b w = refl
extent_type size b w = refl
extent_type vsize b w = refl
extent_type fsize b w = refl
extent_type class b w = absurd w

abbrev continue : List Member → Header → Parser (Piece × ℕ)
continue ms h = mapc (λ p _. (p, suc h.tag)) (content (lookup h.tag ms) h)

known_written : (ms : List Member) → MembersRise ms → (least t : ℕ) (f : Form) (b r : List ℕ) → Known ms least t f b
    → next_optional ms least (piece_bytes (optional t f b) ++ r) ≡ ok (optional t f b, suc t) (length (piece_bytes (optional t f b)))
unfolding next_optional piece_bytes front_bytes content_bytes content header_of wrong_type
known_written ms R least t f b r K = rw (sym (is_form K.form), append_assoc hb (length_bytes g b) b) (bind_written (header ms least) (continue ms) hb w r first next)
  where
    g : Form
    g = form_of K.member.ty

    rises : ListsRise K.member.ty
    rises = found_rises t ms K.member R K.found

    hb : List ℕ
    hb = header_bytes t (bits_of g)

    w : List ℕ
    w = length_bytes g b ++ b

    typed : wrong_type (bits_of g) (lookup t ms) ≡ false
    typed = rw (K.found, eq-eqb (bits (bits_of g)) (bits (bits_of g)) refl)

    first : header ms least (hb ++ (w ++ r)) ≡ ok (header_of t (bits_of g)) (length hb)
    first = header_written ms least t (bits_of g) (w ++ r) K.tag_short K.rises (form_type K.member.ty) typed

    one : bytes (value K.member.ty) b ≡ ok b (length b)
    one = rw append-nil at (value_written K.member.ty rises b [] K.one)

    next : continue ms (header_of t (bits_of g)) (w ++ r) ≡ ok (optional t g b, suc t) (length w)
    next =
        mapc_step _ (w ++ r) (λ p _. (p, suc t))
        (rw K.found (mapc_step _ (w ++ r) (λ b _. optional t g b)
        (inside_step (part g) (bytes (value K.member.ty)) (w ++ r) (part_written K.member.ty rises b r K.one K.length_short) one)))

unknown_written : (ms : List Member) (least t : ℕ) (k : Bits) (b r : List ℕ) → Unknown ms least t k b
    → next_optional ms least (piece_bytes (skipped t k b) ++ r) ≡ ok (skipped t k b, suc t) (length (piece_bytes (skipped t k b)))
unfolding next_optional piece_bytes front_bytes content_bytes content header_of wrong_type
unknown_written ms least t k b r K = bind_written (header ms least) (continue ms) (header_bytes t k) b r first next
  where
    typed : wrong_type k (lookup t ms) ≡ false
    typed = rw K.absent

    first : header ms least (header_bytes t k ++ (b ++ r)) ≡ ok (header_of t k) (length (header_bytes t k))
    first = header_written ms least t k (b ++ r) K.tag_short K.rises (extent_type k b K.whole) typed

    next : continue ms (header_of t k) (b ++ r) ≡ ok (skipped t k b, suc t) (length b)
    next =
        mapc_step _ (b ++ r) (λ p _. (p, suc t))
        (rw K.absent (mapc_step _ (b ++ r) (λ b _. skipped t k b)
        (bytes_step (extent k) (b ++ r) (mapc_ok (extent k) (b ++ r) (λ _ _. tt) ((takes_extent k).written tt b K.whole r)).1 ∙ ap (λ (y : List ℕ). ok y (length b)) (take_at b r (length b) refl))))

pub optional_written : {ms : List Member} → MembersRise ms → {least : ℕ} {p : Piece} {s : ℕ} → Told ms least p s → (r : List ℕ) → next_optional ms least (piece_bytes p ++ r) ≡ ok (p, s) (length (piece_bytes p))
optional_written {ms = ms} R {least = least} (known {t = t} {f = f} {b = b} K) r = known_written ms R least t f b r K
optional_written {ms = ms} R {least = least} (unknown {t = t} {k = k} {b = b} K) r = unknown_written ms least t k b r K

-- a known value uses up its part
known_content : (m : Member) → ListsRise m.ty → (h : Header) (xs : List ℕ) → Bytes xs → {p : Piece} {n : ℕ} → content (some m) h xs ≡ ok p n
    → (b : List ℕ) × (p ≡ optional h.tag (form_of m.ty) b) × IsValue m.ty b × (take n xs ≡ length_bytes (form_of m.ty) b ++ b)
unfolding content
known_content m R h xs y e =
    let M = mapc_ok _ xs (λ b _. optional h.tag (form_of m.ty) b) e in
    let E = inside_ok (part (form_of m.ty)) (bytes (value m.ty)) xs M.1 in
    let W = bytes_ok (value m.ty) E.part E.inner in (
      E.part,
      M.2 ∙ ap (optional h.tag (form_of m.ty)) (W.2 ∙ take-length E.part),
      exact_is m.ty R E.part (exact_step m.ty E.part W.1),
      part_canonical (form_of m.ty) (form_of_sound m.ty) xs y E.outer,
    )

-- an unknown one is skipped as a whole
skipped_content : (h : Header) (xs : List ℕ) {p : Piece} {n : ℕ} → content none h xs ≡ ok p n
    → (p ≡ skipped h.tag h.type (take n xs)) × IsExtent h.type (take n xs)
unfolding content
skipped_content h xs {p} {n} e =
    let M = mapc_ok _ xs (λ b _. skipped h.tag h.type b) e in
    let W = bytes_ok (extent h.type) xs M.1 in
    (M.2 ∙ ap (skipped h.tag h.type) W.2, (takes_extent h.type).canonical xs tt n (mapc_step (extent h.type) xs (λ _ _. tt) W.1))

right_type : (k : Bits) (m : Member) → wrong_type k (some m) ≡ false → k ≡ bits_of (form_of m.ty)
unfolding wrong_type
right_type k m h =
    let f : Bits = bits_of (form_of m.ty) in
    sym (bits_back k) ∙ ap bits_at (eqb-true (bits k) (bits f) (not-false _ h)) ∙ bits_back f

-- the bytes that end a part are no more than all
end_short : (xs l b : List ℕ) (n : ℕ) → n ≤ length xs → Short (length xs) → take n xs ≡ l ++ b → Short (length b)
end_short xs l b n h s e = omega (arith, sym (ap length e) ∙ length-take-le n xs h, length-append l b)

-- bytes z are those of the optional that was read
abbrev Good : List Member → ℕ → List ℕ → Piece × ℕ → Type 0
Good ms least z r = Told ms least r.0 r.1 × (z ≡ piece_bytes r.0)

pub optional_canonical : (ms : List Member) → MembersRise ms → (least : ℕ) (xs : List ℕ) → Bytes xs → Short (length xs) → {p : Piece} {s n : ℕ}
    → next_optional ms least xs ≡ ok (p, s) n → Told ms least p s × (take n xs ≡ piece_bytes p)
unfolding next_optional piece_bytes front_bytes content_bytes
optional_canonical ms R least xs y sh {p} {s} {n} e = top (bind_ok (header ms least) (continue ms) xs e)
  where
    go : (h : Header) (k m : ℕ) (q : Piece) → Headed ms least xs h k → k ≤ length xs → (o : Option Member) → lookup h.tag ms ≡ o
        → content o h (drop k xs) ≡ ok q m → Good ms least (take k xs ++ take m (drop k xs)) (q, suc h.tag)
    go h k m q H l none eo e =
        let ys : List ℕ = drop k xs in
        let C = skipped_content h ys e in
        subst (λ (z : Piece). Good ms least (take k xs ++ take m ys) (z, suc h.tag)) (sym C.0)
        (unknown (record { absent = eo; rises = H.rises; whole = C.1; tag_short = H.short }), ap (λ (z : List ℕ). z ++ take m ys) H.spelt)
    go h k m q H l (some a) eo e =
        let ys : List ℕ = drop k xs in
        let C = known_content a (found_rises h.tag ms a R eo) h ys (bytes_drop k xs y) e in
        let b : List ℕ = C.0 in
        let f : Form = form_of a.ty in
        let ty : h.type ≡ bits_of f = right_type h.type a (subst (λ (z : Option Member). wrong_type h.type z ≡ false) eo H.typed) in
        let fits = held_took (content (some a) h) (held_content (some a) h) ys e in
        subst (λ (z : Piece). Good ms least (take k xs ++ take m ys) (z, suc h.tag)) (sym C.1) (
          known (record { member = a; found = eo; rises = H.rises; form = form_has a.ty; one = C.2; tag_short = H.short; length_short = end_short ys (length_bytes f b) b m fits (omega (arith, length-drop k xs)) C.3 }),
          ap₂ ◌++◌ (H.spelt ∙ ap (header_bytes h.tag) ty) C.3 ∙ sym (append_assoc (header_bytes h.tag (bits_of f)) (length_bytes f b) b),
        )

    top : Bound (header ms least) (continue ms) xs (p, s) n → Good ms least (take n xs) (p, s)
    top B =
        let h : Header = B.fst in
        let M = mapc_ok (content (lookup h.tag ms) h) (drop B.n xs) (λ p _. (p, suc h.tag)) B.next in
        let G = go h B.n B.m M.0 (header_canonical ms least xs y B.first) (held_took (header ms least) (held_header ms least) xs B.first) (lookup h.tag ms) refl M.1 in
        subst (λ (z : List ℕ). Good ms least z (p, s)) (sym (bind_take (header ms least) (continue ms) xs B))
        (subst (Good ms least (take B.n xs ++ take B.m (drop B.n xs))) (sym M.2) G)

-- ---- optionals up to a stop

-- what a stop takes is always the same
abbrev pub Closes : (List ℕ → Option ℕ) → List ℕ → Type 0
Closes stop close = (xs : List ℕ) (k : ℕ) → stop xs ≡ some k → take k xs ≡ close

pub at_end_closes : Closes at_end []
unfolding at_end
at_end_closes [] k e = take-nil k
at_end_closes (x ∷ xs) k e = absurd (some≢none e refl)

end_there : at_end [] ≡ some 0
unfolding at_end
end_there = refl

mark_there : (r : List ℕ) → at_mark (255 ∷ r) ≡ some 1
unfolding at_mark
mark_there r = refl

pub at_mark_closes : Closes at_mark (255 ∷ [])
unfolding at_mark
at_mark_closes [] k e = absurd (some≢none e refl)
at_mark_closes (x ∷ xs) k e = go (eqb x 255) refl e
  where
    go : (q : Bool) → eqb x 255 ≡ q → pick q (some 1) none ≡ some k → take k (x ∷ xs) ≡ 255 ∷ []
    go true q e = let z : k ≡ 1 = cc in rw (z, eqb-true x 255 q)
    go false q e = absurd (some≢none e refl)

pub any_optional_append : (a ps : List Piece) → any_optional a ≡ false → any_optional (a ++ ps) ≡ any_optional ps
unfolding any_optional
any_optional_append [] ps h = refl
any_optional_append (p ∷ a) ps h = go (is_optional p) h (λ z. any_optional_append a ps z)
  where
    go : (q : Bool) → q || any_optional a ≡ false → (any_optional a ≡ false → any_optional (a ++ ps) ≡ any_optional ps) → q || any_optional (a ++ ps) ≡ any_optional ps
    go true h ih = absurd (true≢false h)
    go false h ih = ih h

-- of optionals, any is one
level_some : (os : List Member) (least : ℕ) (ps : List Piece) → Level [] os least ps → 1 ≤ length ps → any_optional ps ≡ true
unfolding any_optional is_optional
level_some os least [] L h = absurd (omega arith)
level_some os least (required i b ∷ ps) L h = absurd L
level_some os least (optional t f b ∷ ps) L h = refl
level_some os least (skipped t k b ∷ ps) L h = refl

some_there : (ps : List Piece) → any_optional ps ≡ true → 1 ≤ length ps
unfolding any_optional
some_there [] e = absurd (false≢true e)
some_there (p ∷ ps) e = omega arith

level_none : (os : List Member) (least : ℕ) (ps : List Piece) → Level [] os least ps → any_optional ps ≡ false → ps ≡ []
unfolding any_optional is_optional
level_none os least [] L e = refl
level_none os least (required i b ∷ ps) L e = absurd L
level_none os least (optional t f b ∷ ps) L e = absurd (true≢false e)
level_none os least (skipped t k b ∷ ps) L e = absurd (true≢false e)

run_canonical : (stop : List ℕ → Option ℕ) (close : List ℕ) → Closes stop close → (ms : List Member) → MembersRise ms → {f s : ℕ} {xs : List ℕ} {ps : List Piece} {n : ℕ}
    → Run stop (next_optional ms) f s xs ps n → Bytes xs → Short (length xs) → Level [] ms s ps × (take n xs ≡ concat piece_bytes ps ++ close)
unfolding concat
run_canonical stop close C ms R (end {xs = xs} {k = k} e) y sh = (tt, C xs k e)
run_canonical stop close C ms R (step {s = s} {xs = xs} {a = a} {s' = s'} {n = n} {l = l} {m = m} e h r) y sh =
    let O = optional_canonical ms R s xs y sh h in
    let ih = run_canonical stop close C ms R r (bytes_drop n xs y) (omega (arith, length-drop n xs)) in
    (told_level O.0 l ih.0, take-add n m xs ∙ ap₂ ◌++◌ O.1 ih.1 ∙ sym (append_assoc (piece_bytes a) (concat piece_bytes l) close))

pub optionals_canonical : (stop : List ℕ → Option ℕ) (close : List ℕ) → Closes stop close → (ms : List Member) → MembersRise ms → (xs : List ℕ) → Bytes xs → Short (length xs) → {ps : List Piece} {n : ℕ}
    → optionals stop ms xs ≡ ok ps n → Level [] ms 0 ps × (take n xs ≡ concat piece_bytes ps ++ close)
unfolding optionals
optionals_canonical stop close C ms R xs y sh h = run_canonical stop close C ms R (run_of stop (next_optional ms) (length xs) 0 xs h) y sh

-- a header is where no stop is
abbrev pub Opens : (List ℕ → Option ℕ) → Type 0
Opens stop = (t : ℕ) (k : Bits) (r : List ℕ) → stop (header_bytes t k ++ r) ≡ none

pub at_end_opens : Opens at_end
unfolding at_end header_bytes
at_end_opens t k r = go (ltb t 30)
  where
    go : (q : Bool) → at_end (pick q ((t * 8 + bits k) ∷ []) ((240 + bits k) ∷ size_bytes t) ++ r) ≡ none
    go true = refl
    go false = refl

pub at_mark_opens : Opens at_mark
unfolding at_mark header_bytes
at_mark_opens t k r = go (ltb t 30) refl (bits_below k)
  where
    go : (q : Bool) → ltb t 30 ≡ q → bits k < 8 → at_mark (pick q ((t * 8 + bits k) ∷ []) ((240 + bits k) ∷ size_bytes t) ++ r) ≡ none
    go true e b = rw (ne_eqb (t * 8 + bits k) 255 (omega (arith, ltb-true t 30 e)))
    go false e b = rw (ne_eqb (240 + bits k) 255 (omega arith))

told_opens : (stop : List ℕ → Option ℕ) → Opens stop → {ms : List Member} {least : ℕ} {p : Piece} {s : ℕ} → Told ms least p s → (r : List ℕ) → stop (piece_bytes p ++ r) ≡ none
unfolding piece_bytes front_bytes content_bytes
told_opens stop O (known {t = t} {f = f} {b = b} K) r =
    ap stop (append_assoc (header_bytes t (bits_of f) ++ length_bytes f b) b r ∙ append_assoc (header_bytes t (bits_of f)) (length_bytes f b) (b ++ r)) ∙ O t (bits_of f) (length_bytes f b ++ (b ++ r))
told_opens stop O (unknown {t = t} {k = k} {b = b} K) r = ap stop (append_assoc (header_bytes t k) b r) ∙ O t k (b ++ r)

-- one more optional before the others
run_step : (stop : List ℕ → Option ℕ) → Opens stop → (ms : List Member) → MembersRise ms → (r : List ℕ) (k least s : ℕ) (p : Piece) (ps : List Piece) → Told ms least p s
    → Run stop (next_optional ms) (length ps) s (concat piece_bytes ps ++ r) ps (length (concat piece_bytes ps) + k)
    → Run stop (next_optional ms) (length (p ∷ ps)) least (concat piece_bytes (p ∷ ps) ++ r) (p ∷ ps) (length (concat piece_bytes (p ∷ ps)) + k)
unfolding concat
run_step stop O ms R r k least s p ps t ih =
    let w : List ℕ = concat piece_bytes ps in
    let l : length (piece_bytes p ++ w) + k ≡ length (piece_bytes p) + (length w + k) = omega (arith, length-append (piece_bytes p) w) in
    let tail : Run stop (next_optional ms) (length ps) s (drop (length (piece_bytes p)) (piece_bytes p ++ (w ++ r))) ps (length w + k) = rw (drop_at (piece_bytes p) (w ++ r) (length (piece_bytes p)) refl) ih in
    rw (append_assoc (piece_bytes p) w r, l) (step (told_opens stop O t (w ++ r)) (optional_written R t (w ++ r)) tail)

run_written : (stop : List ℕ → Option ℕ) → Opens stop → (ms : List Member) → MembersRise ms → (r : List ℕ) (k : ℕ) → stop r ≡ some k → (ps : List Piece) (least : ℕ) → Level [] ms least ps
    → Run stop (next_optional ms) (length ps) least (concat piece_bytes ps ++ r) ps (length (concat piece_bytes ps) + k)
unfolding concat
run_written stop O ms R r k e [] least L = rw zero-add (end e)
run_written stop O ms R r k e (required i b ∷ ps) least L = absurd L
run_written stop O ms R r k e (optional t f b ∷ ps) least L = run_step stop O ms R r k least (suc t) (optional t f b) ps (known L.0) (run_written stop O ms R r k e ps (suc t) L.1)
run_written stop O ms R r k e (skipped t i b ∷ ps) least L = run_step stop O ms R r k least (suc t) (skipped t i b) ps (unknown L.0) (run_written stop O ms R r k e ps (suc t) L.1)

pub optionals_written : (stop : List ℕ → Option ℕ) → Opens stop → (ms : List Member) → MembersRise ms → (ps : List Piece) (r : List ℕ) (k : ℕ) → stop r ≡ some k → k ≤ length r → Level [] ms 0 ps
    → optionals stop ms (concat piece_bytes ps ++ r) ≡ ok ps (length (concat piece_bytes ps) + k)
unfolding optionals
optionals_written stop O ms R ps r k e l L =
    of_run stop (next_optional ms) (run_fuel stop (next_optional ms) (eats_optional ms) (run_written stop O ms R r k e ps 0 L) (length (concat piece_bytes ps ++ r)) (omega (arith, length-append (concat piece_bytes ps) r)))

-- ---- required members

concat_append : (a b : List Piece) → concat piece_bytes (a ++ b) ≡ concat piece_bytes a ++ concat piece_bytes b
unfolding concat
concat_append [] b = refl
concat_append (x ∷ a) b = ap (λ (y : List ℕ). piece_bytes x ++ y) (concat_append a b) ∙ sym (append_assoc (piece_bytes x) (concat piece_bytes a) (concat piece_bytes b))

-- pieces a are those of required members ms: their bytes, and how they go before optionals
pub record Front (ms : List Member) (a : List Piece) (z : List ℕ) : Type 0 where
  pub spelt : z ≡ concat piece_bytes a
  pub none : any_optional a ≡ false
  pub level : (os : List Member) (qs : List Piece) → Level [] os 0 qs → Level ms os 0 (a ++ qs)

pub requireds_canonical : (ms : List Member) → MembersRise ms → (xs : List ℕ) {a : List Piece} {n : ℕ} → requireds ms xs ≡ ok a n → Front ms a (take n xs)
unfolding requireds concat any_optional is_optional piece_bytes front_bytes content_bytes
requireds_canonical [] R xs {a} {n} h =
    let P = pure_ok [] xs h in
    rw (P.0, P.1) (record { spelt = refl; none = refl; level = λ os qs L. L })
requireds_canonical (m ∷ ms) R xs {a} {n} h = go (bind_ok (bytes (value m.ty)) next xs h) (λ ys b k e. requireds_canonical ms R.1 ys {a = b} {n = k} e)
  where
    next : List ℕ → Parser (List Piece)
    next b = mapc (λ ps _. required m.key b ∷ ps) (requireds ms)

    go : Bound (bytes (value m.ty)) next xs a n → ((ys : List ℕ) (b : List Piece) (k : ℕ) → requireds ms ys ≡ ok b k → Front ms b (take k ys)) → Front (m ∷ ms) a (take n xs)
    go B ih =
        let M = mapc_ok (requireds ms) (drop B.n xs) (λ ps _. required m.key B.fst ∷ ps) B.next in
        let W = value_taken m.ty R.0 xs B.first in
        let F = ih (drop B.n xs) M.0 B.m M.1 in
        subst (λ (a : List Piece). Front (m ∷ ms) a (take n xs)) (sym M.2) (record {
          spelt = bind_take (bytes (value m.ty)) next xs B ∙ ap₂ ◌++◌ (sym W.0) F.spelt;
          none = F.none;
          level = λ os qs L. (refl, W.1, F.level os qs L);
        })

-- pieces of a level: those of required members, which are read back, and optionals
pub record Parts (ms os : List Member) (ps : List Piece) : Type 0 where
  pub front : List Piece
  pub back : List Piece
  pub joined : ps ≡ front ++ back
  pub none : any_optional front ≡ false
  pub rest : Level [] os 0 back
  pub read : (r : List ℕ) → requireds ms (concat piece_bytes front ++ r) ≡ ok front (length (concat piece_bytes front))

pub level_parts : (ms os : List Member) → MembersRise ms → (ps : List Piece) → Level ms os 0 ps → Parts ms os ps
unfolding requireds concat any_optional is_optional piece_bytes front_bytes content_bytes pure
level_parts [] os R ps L = record { front = []; back = ps; joined = refl; none = refl; rest = L; read = λ r. refl }
level_parts (m ∷ ms) os R [] L = absurd L
level_parts (m ∷ ms) os R (optional t f b ∷ ps) L = absurd L
level_parts (m ∷ ms) os R (skipped t k b ∷ ps) L = absurd L
level_parts (m ∷ ms) os R (required i b ∷ ps) L =
    let P = level_parts ms os R.1 ps L.2 in
    rw L.0 (record {
      front = required m.key b ∷ P.front;
      back = P.back;
      joined = ap (λ (z : List Piece). required m.key b ∷ z) P.joined;
      none = P.none;
      rest = P.rest;
      read = λ r. bind_written (bytes (value m.ty)) (λ b. mapc (λ ps _. required m.key b ∷ ps) (requireds ms)) b (concat piece_bytes P.front) r
          (value_written m.ty R.0 b (concat piece_bytes P.front ++ r) L.1)
          (mapc_step (requireds ms) (concat piece_bytes P.front ++ r) (λ ps _. required m.key b ∷ ps) (P.read r));
    })

-- ---- all members of one owner

module _ (T : List ℕ) (right : faults T ≡ fine) (t : ℕ) where
  pub parameters_canonical : (xs : List ℕ) → Bytes xs → Short (length xs) → {ps : List Piece} {n : ℕ} → parameters T t xs ≡ ok ps n → Owned T t ps × (take n xs ≡ concat piece_bytes ps)
  unfolding parameters
  parameters_canonical xs y sh {ps} {n} h = go (bind_ok (requireds (Table.required_members T t)) next xs h)
    where
      next : List Piece → Parser (List Piece)
      next a = mapc (λ ps _. a ++ ps) (optionals at_end (Table.optional_members T t))

      go : Bound (requireds (Table.required_members T t)) next xs ps n → Owned T t ps × (take n xs ≡ concat piece_bytes ps)
      go B =
          let F = requireds_canonical (Table.required_members T t) (required_rise T right t) xs B.first in
          let M = mapc_ok (optionals at_end (Table.optional_members T t)) (drop B.n xs) (λ ps _. B.fst ++ ps) B.next in
          let O = optionals_canonical at_end [] at_end_closes (Table.optional_members T t) (optional_rise T right t) (drop B.n xs) (bytes_drop B.n xs y) (omega (arith, length-drop B.n xs)) M.1 in
          subst (λ (z : List Piece). Owned T t z × (take n xs ≡ concat piece_bytes z)) (sym M.2)
          (F.level (Table.optional_members T t) M.0 O.0, bind_take (requireds (Table.required_members T t)) next xs B ∙ ap₂ ◌++◌ F.spelt (O.1 ∙ append-nil _) ∙ sym (concat_append B.fst M.0))

  pub parameters_written : (ps : List Piece) → Owned T t ps → parameters T t (concat piece_bytes ps) ≡ ok ps (length (concat piece_bytes ps))
  unfolding parameters
  parameters_written ps L = go (level_parts (Table.required_members T t) (Table.optional_members T t) (required_rise T right t) ps L)
    where
      go : Parts (Table.required_members T t) (Table.optional_members T t) ps → parameters T t (concat piece_bytes ps) ≡ ok ps (length (concat piece_bytes ps))
      go P =
          let w : List ℕ = concat piece_bytes P.back in
          let O : optionals at_end (Table.optional_members T t) (w ++ []) ≡ ok P.back (length w) =
          optionals_written at_end at_end_opens (Table.optional_members T t) (optional_rise T right t) P.back [] 0 end_there (omega arith) P.rest ∙ ap (ok P.back) (add-zero (length w)) in
          let R = bind_written (requireds (Table.required_members T t)) (λ a. mapc (λ ps _. a ++ ps) (optionals at_end (Table.optional_members T t))) (concat piece_bytes P.front) w []
          (P.read (w ++ []))
          (mapc_step (optionals at_end (Table.optional_members T t)) (w ++ []) (λ ps _. P.front ++ ps) O) in
          rw (P.joined, concat_append P.front P.back) (rw append-nil at R)

  -- bit 2 of the flags is set exactly if there is an optional
  pub fields_canonical : (o : List ℕ) (opt : Bool) (xs : List ℕ) → Bytes xs → Short (length xs) → {ps : List Piece} {n : ℕ} → fields T t opt xs ≡ ok ps n
      → Owned T t ps × (any_optional ps ≡ opt) × (take n xs ≡ data_bytes (Slice.known o ps))
  unfolding fields data_bytes
  fields_canonical o opt xs y sh {ps} {n} h = go opt (bind_ok (requireds (Table.required_members T t)) (next opt) xs h)
    where
      next : Bool → List Piece → Parser (List Piece)
      next q a = pick q (mapc (λ ps _. a ++ ps) (must some_form (optionals at_mark (Table.optional_members T t)))) (pure a)

      go : (q : Bool) → Bound (requireds (Table.required_members T t)) (next q) xs ps n → Owned T t ps × (any_optional ps ≡ q) × (take n xs ≡ concat piece_bytes ps ++ pick (any_optional ps) (255 ∷ []) [])
      go true B =
          let F = requireds_canonical (Table.required_members T t) (required_rise T right t) xs B.first in
          let M = mapc_ok _ (drop B.n xs) (λ ps _. B.fst ++ ps) B.next in
          let S = must_ok (optionals at_mark (Table.optional_members T t)) (drop B.n xs) some_form M.1 in
          let O = optionals_canonical at_mark (255 ∷ []) at_mark_closes (Table.optional_members T t) (optional_rise T right t) (drop B.n xs) (bytes_drop B.n xs y) (omega (arith, length-drop B.n xs)) S.0 in
          let some : any_optional (B.fst ++ M.0) ≡ true =
          any_optional_append B.fst M.0 F.none ∙ level_some (Table.optional_members T t) 0 M.0 O.0 (some_form_ok M.0 S.1) in
          subst (λ (z : List Piece). Owned T t z × (any_optional z ≡ true) × (take n xs ≡ concat piece_bytes z ++ pick (any_optional z) (255 ∷ []) [])) (sym M.2) (
            F.level (Table.optional_members T t) M.0 O.0,
            some,
            bind_take (requireds (Table.required_members T t)) (next true) xs B ∙ ap₂ ◌++◌ F.spelt O.1 ∙ sym (append_assoc (concat piece_bytes B.fst) (concat piece_bytes M.0) (255 ∷ []))
                ∙ ap₂ (λ (z : List ℕ) (q : Bool). z ++ pick q (255 ∷ []) []) (sym (concat_append B.fst M.0)) (sym some),
          )
      go false B =
          let F = requireds_canonical (Table.required_members T t) (required_rise T right t) xs B.first in
          let P = pure_ok B.fst (drop B.n xs) B.next in
          let e : n ≡ B.n = omega (arith, B.sum, P.1) in
          subst (λ (z : List Piece). Owned T t z × (any_optional z ≡ false) × (take n xs ≡ concat piece_bytes z ++ pick (any_optional z) (255 ∷ []) [])) (sym P.0) (
            subst (λ (z : List Piece). Owned T t z) (append-nil B.fst) (F.level (Table.optional_members T t) [] tt),
            F.none,
            ap (λ (i : ℕ). take i xs) e ∙ F.spelt ∙ sym (append-nil (concat piece_bytes B.fst)) ∙ ap (λ (q : Bool). concat piece_bytes B.fst ++ pick q (255 ∷ []) []) (sym F.none),
          )

  pub fields_written : (o : List ℕ) (ps : List Piece) → Owned T t ps → (r : List ℕ) → fields T t (any_optional ps) (data_bytes (Slice.known o ps) ++ r) ≡ ok ps (length (data_bytes (Slice.known o ps)))
  unfolding fields data_bytes pure
  fields_written o ps L r = top (level_parts (Table.required_members T t) (Table.optional_members T t) (required_rise T right t) ps L)
    where
      next : Bool → List Piece → Parser (List Piece)
      next q a = pick q (mapc (λ ps _. a ++ ps) (must some_form (optionals at_mark (Table.optional_members T t)))) (pure a)

      go : (P : Parts (Table.required_members T t) (Table.optional_members T t) ps) (b : List Piece) → Level [] (Table.optional_members T t) 0 b → (q : Bool) → any_optional b ≡ q
          → fields T t q (concat piece_bytes (P.front ++ b) ++ pick q (255 ∷ []) [] ++ r) ≡ ok (P.front ++ b) (length (concat piece_bytes (P.front ++ b) ++ pick q (255 ∷ []) []))
      go P b K true e =
          let w : List ℕ = concat piece_bytes b in
          let O : optionals at_mark (Table.optional_members T t) (w ++ (255 ∷ []) ++ r) ≡ ok b (length (w ++ (255 ∷ []))) =
          ap (optionals at_mark (Table.optional_members T t)) (append_assoc w (255 ∷ []) r) ∙ optionals_written at_mark at_mark_opens (Table.optional_members T t) (optional_rise T right t) b (255 ∷ r) 1 (mark_there r) (omega arith) K
          ∙ ap (ok b) (sym (length-append w (255 ∷ []))) in
          let some : some_form b ≡ 0 = some_form_step b (some_there b e) in
          rw (concat_append P.front b, append_assoc (concat piece_bytes P.front) w (255 ∷ []))
          (bind_written (requireds (Table.required_members T t)) (next true) (concat piece_bytes P.front) (w ++ (255 ∷ [])) r
          (P.read (w ++ (255 ∷ []) ++ r))
          (mapc_step _ (w ++ (255 ∷ []) ++ r) (λ ps _. P.front ++ ps) (must_step (optionals at_mark (Table.optional_members T t)) (w ++ (255 ∷ []) ++ r) some_form O some)))
      go P b K false e =
          rw (level_none (Table.optional_members T t) 0 b K e, append-nil P.front)
          (bind_written (requireds (Table.required_members T t)) (next false) (concat piece_bytes P.front) [] r {b = P.front} (P.read r) refl)

      top : Parts (Table.required_members T t) (Table.optional_members T t) ps
          → fields T t (any_optional ps) (concat piece_bytes ps ++ pick (any_optional ps) (255 ∷ []) [] ++ r) ≡ ok ps (length (concat piece_bytes ps ++ pick (any_optional ps) (255 ∷ []) []))
      top P =
          let e : any_optional ps ≡ any_optional P.back = ap any_optional P.joined ∙ any_optional_append P.front P.back P.none in
          rw e (rw P.joined (go P P.back P.rest (any_optional P.back) refl))
