-- What is taken is as long as what the encoder makes: the weight of each thing read, from sizes up to the pieces of one owner.
--
--   _weight       the bytes that a reader took, as the length of the encoding of what it read
use Rattle.std.specs.Prelude.{◌≡◌, refl, Bool, true, false, ◌&&◌, List, [], ◌∷◌, ◌++◌, ℕ, suc, ◌+◌, ◌-◌, ◌*◌, ◌/◌, ◌%◌, ◌<◌, length, drop, eqb, ltb}
use Rattle.std.proofs.Common.{sym, ap, ◌∙◌, append_assoc, arith, length-append, length-take-le, drop-drop, ltb-true, lt-ltb, le-ltb}
use Rattle.std.proofs.Math.Option.{Option, none, some}
use Rattle.std.proofs.Math.Seq.{take-length}
use Rattle.std.proofs.lemmas.Bool.{eqb-false}
use Rattle.encoding.specs.Result.{ok, Parser, pick, ◌>>=◌, pure, chunk, item, must, mapc, bytes, inside, concat}
use Rattle.encoding.proofs.ResultLaws.{Bound, bind_ok, pure_ok, chunk_ok, item_ok, must_ok, mapc_ok, bytes_ok, inside_ok, first_of_ok, pick_true, Run, end, step, Held, held_took}
use Rattle.encoding.specs.Number.{byte, number, val, size_form, size_tail, size_bytes, string_bytes, length_form, declared, Content, string, le_bytes}
use Rattle.encoding.specs.Number
use Rattle.encoding.proofs.NumberLaws.{held_size, size_form_ok, length_le_bytes}
use Rattle.encoding.specs.Types.{Bits, f1, f2, f4, f8, size, vsize, fsize, class, bits, bits_at, Form, bare, own, counted, sized, bits_of, form_of}
use Rattle.encoding.specs.Value.{value}
use Rattle.encoding.proofs.ValueLaws.{held_value}
use Rattle.encoding.specs.Table.{Member, lookup}
use Rattle.encoding.specs.Optional.{Piece, required, optional, skipped, Header, first_form, header_tail, header_form, header, extent, part, content, next_optional, requireds, header_bytes, length_bytes, front_bytes, content_bytes, piece_bytes}
use Rattle.encoding.proofs.OptionalLaws.{Sound, Plain, form_of_sound, held_extent}

-- ---- numbers, sizes, strings

pub size_weight : (xs : List ℕ) {n k : ℕ} → Number.size xs ≡ ok n k → k ≡ length (size_bytes n)
unfolding Number.size size_tail size_bytes byte number
size_weight xs {n} {k} h = go (bind_ok byte size_tail xs (item_ok (byte >>= size_tail) xs h))
  where
    tail : (b : ℕ) (ys : List ℕ) (m : ℕ) (t : Bool) → ltb b 255 ≡ t → pick t (pure b) (must size_form (number 4)) ys ≡ ok n m → 1 + m ≡ length (pick (ltb n 255) (n ∷ []) (255 ∷ le_bytes 4 n))
    tail b ys m true e h = let P = pure_ok b ys h in let l : ltb n 255 ≡ true = ap (λ (i : ℕ). ltb i 255) P.0 ∙ e in rw l (omega (arith, P.1))
    tail b ys m false e h =
        let M = must_ok (number 4) ys size_form h in
        let F = size_form_ok n M.1 in
        rw (le-ltb n 255 F.0) (omega (arith, (chunk_ok 4 val ys M.0).2, length_le_bytes 4 n))

    go : Bound byte size_tail xs n k → k ≡ length (pick (ltb n 255) (n ∷ []) (255 ∷ le_bytes 4 n))
    go B = B.sum ∙ ap (λ (i : ℕ). i + B.m) (chunk_ok 1 val xs B.first).2 ∙ tail B.fst (drop B.n xs) B.m (ltb B.fst 255) refl B.next

-- a size and that many bytes
counted_weight : (xs : List ℕ) {d : List ℕ} {n : ℕ} → item (Number.size >>= λ n. chunk n (λ b. b)) xs ≡ ok d n → n ≡ length (size_bytes (length d) ++ d)
counted_weight xs {d} {n} h = go (bind_ok Number.size (λ n. chunk n (λ b. b)) xs (item_ok _ xs h))
  where
    go : Bound Number.size (λ n. chunk n (λ b. b)) xs d n → n ≡ length (size_bytes (length d) ++ d)
    go B =
        let K = chunk_ok B.fst (λ b. b) (drop B.n xs) B.next in
        let l : length d ≡ B.fst = ap length K.1 ∙ length-take-le B.fst (drop B.n xs) K.0 in
        omega (arith, B.sum, size_weight xs B.first, K.2, length-append (size_bytes (length d)) d, ap (λ (i : ℕ). length (size_bytes i)) l)

pub string_weight : (xs : List ℕ) {b : List ℕ} {n : ℕ} → string xs ≡ ok b n → n ≡ length (string_bytes b)
unfolding string string_bytes
string_weight xs h = counted_weight xs (must_ok _ xs Content h).0

pub declared_weight : (least self : ℕ) (xs : List ℕ) {d : List ℕ} {n : ℕ} → declared least self xs ≡ ok d n → n ≡ 4 + length d
unfolding declared number
declared_weight least self xs {d} {n} h = go (bind_ok (must (length_form least) (number 4)) (λ i. chunk (i - self) (λ b. b)) xs (item_ok _ xs h))
  where
    go : Bound (must (length_form least) (number 4)) (λ i. chunk (i - self) (λ b. b)) xs d n → n ≡ 4 + length d
    go B =
        let K = chunk_ok (B.fst - self) (λ b. b) (drop B.n xs) B.next in
        omega (arith, B.sum, (chunk_ok 4 val xs (must_ok (number 4) xs (length_form least) B.first).0).2, K.2, ap length K.1, length-take-le (B.fst - self) (drop B.n xs) K.0)

-- ---- optionals

pub header_weight : (ms : List Member) (least : ℕ) (xs : List ℕ) {h : Header} {n : ℕ} → header ms least xs ≡ ok h n → n ≡ length (header_bytes h.tag h.type)
unfolding header header_tail header_form header_bytes first_form byte number
header_weight ms least xs {h} {n} e =
    let M = must_ok _ xs (header_form ms least) e in
    go (first_of_ok 11 (h.long && ltb h.tag 30) _ M.1).0 (bind_ok (must first_form byte) header_tail xs M.0)
  where
    goal : Type 0
    goal = n ≡ length (pick (ltb h.tag 30) ((h.tag * 8 + bits h.type) ∷ []) ((240 + bits h.type) ∷ size_bytes h.tag))

    tail : (b m : ℕ) (ys : List ℕ) → b / 8 < 31 → h.long && ltb h.tag 30 ≡ false → (t : Bool) → eqb (b / 8) 30 ≡ t
        → pick t (mapc (λ n _. record { long = true; tag = n; type = bits_at (b % 8) }) Number.size) (pure (record { long = false; tag = b / 8; type = bits_at (b % 8) })) ys ≡ ok h m
        → 1 + m ≡ length (pick (ltb h.tag 30) ((h.tag * 8 + bits h.type) ∷ []) ((240 + bits h.type) ∷ size_bytes h.tag))
    tail b m ys l f true t z =
        let N = mapc_ok Number.size ys (λ n _. record { long = true; tag = n; type = bits_at (b % 8) }) z in
        let tg : h.tag ≡ N.0 = ap (λ (x : Header). x.tag) N.2 in
        let lg : h.long ≡ true = ap (λ (x : Header). x.long) N.2 in
        let no_short : ltb h.tag 30 ≡ false = rw lg at f in
        rw no_short (omega (arith, size_weight ys N.1, ap (λ (i : ℕ). length (size_bytes i)) tg))
    tail b m ys l f false t z =
        let P = pure_ok (record { long = false; tag = b / 8; type = bits_at (b % 8) }) ys z in
        let tg : h.tag ≡ b / 8 = ap (λ (x : Header). x.tag) P.0 in
        let ne = eqb-false (b / 8) 30 t in
        rw (lt-ltb h.tag 30 (below (b / 8) ne l tg)) (omega (arith, P.1))
      where
        below : (q : ℕ) → (q ≡ 30 → ⊥) → q < 31 → h.tag ≡ q → h.tag < 30
        below q ne l e = omega arith

    go : h.long && ltb h.tag 30 ≡ false → Bound (must first_form byte) header_tail xs h n → goal
    go f B =
        let F = must_ok byte xs first_form B.first in
        let l = ltb-true (B.fst / 8) 31 (pick_true (ltb (B.fst / 8) 31) 11 F.1) in
        B.sum ∙ ap (λ (i : ℕ). i + B.m) (chunk_ok 1 val xs F.0).2 ∙ tail B.fst B.m (drop B.n xs) l f (eqb (B.fst / 8) 30) refl B.next

-- bytes that a reader took, delivered whole
whole_weight : {A : Type 0} (p : Parser A) → Held p → (xs : List ℕ) {d : List ℕ} {n : ℕ} → bytes p xs ≡ ok d n → n ≡ length d
whole_weight p P xs {d} {n} h = let e = bytes_ok p xs h in sym (ap length e.2 ∙ length-take-le n xs (held_took p P xs e.1))

chunk_weight : (k : ℕ) (xs : List ℕ) {d : List ℕ} {n : ℕ} → chunk k (λ b. b) xs ≡ ok d n → n ≡ length d
chunk_weight k xs h = let K = chunk_ok k (λ b. b) xs h in K.2 ∙ sym (ap length K.1 ∙ length-take-le k xs K.0)

bare_weight : (k : Bits) → Plain k → (xs : List ℕ) {d : List ℕ} {n : ℕ} → extent k xs ≡ ok d n → n ≡ length d
unfolding extent
bare_weight f1 s xs h = chunk_weight 1 xs h
bare_weight f2 s xs h = chunk_weight 2 xs h
bare_weight f4 s xs h = chunk_weight 4 xs h
bare_weight f8 s xs h = chunk_weight 8 xs h
bare_weight size s xs h = whole_weight Number.size held_size xs h
bare_weight vsize s xs h = absurd s
bare_weight fsize s xs h = absurd s
bare_weight class s xs h = absurd s

-- what a form's part delivers comes after its length field
pub part_weight : (f : Form) → Sound f → (xs : List ℕ) {d : List ℕ} {n : ℕ} → part f xs ≡ ok d n → n ≡ length (length_bytes f d ++ d)
unfolding part length_bytes extent
part_weight (bare k) s xs h = bare_weight k s xs h
part_weight own s xs h = whole_weight (extent vsize) (held_extent vsize) xs h
part_weight counted s xs h = counted_weight xs h
part_weight sized s xs {d} h = declared_weight 1 0 xs h ∙ sym (length-append (le_bytes 4 (length d)) d ∙ ap (λ (i : ℕ). i + length d) (length_le_bytes 4 (length d)))

-- the length of a header does not depend on its type
header_length : (t : ℕ) (k l : Bits) → length (header_bytes t k) ≡ length (header_bytes t l)
unfolding header_bytes
header_length t k l = go (ltb t 30)
  where
    go : (b : Bool) → length (pick b ((t * 8 + bits k) ∷ []) ((240 + bits k) ∷ size_bytes t)) ≡ length (pick b ((t * 8 + bits l) ∷ []) ((240 + bits l) ∷ size_bytes t))
    go true = refl
    go false = refl

content_weight : (o : Option Member) (h : Header) (xs : List ℕ) {p : Piece} {n : ℕ} → content o h xs ≡ ok p n → length (header_bytes h.tag h.type) + n ≡ length (piece_bytes p)
unfolding content piece_bytes front_bytes content_bytes
content_weight none h xs {p} {n} e =
    let M = mapc_ok (bytes (extent h.type)) xs (λ b _. skipped h.tag h.type b) e in
    rw M.2 (sym (length-append (header_bytes h.tag h.type) M.0 ∙ ap (λ (i : ℕ). length (header_bytes h.tag h.type) + i) (sym (whole_weight (extent h.type) (held_extent h.type) xs M.1))))
content_weight (some m) h xs {p} {n} e =
    let f = form_of m.ty in
    let M = mapc_ok (inside (part f) (bytes (value m.ty))) xs (λ b _. optional h.tag f b) e in
    let E = inside_ok (part f) (bytes (value m.ty)) xs M.1 in
    let I = bytes_ok (value m.ty) E.part E.inner in
    let same : M.0 ≡ E.part = I.2 ∙ take-length E.part in
    let w : n ≡ length (length_bytes f M.0 ++ M.0) = part_weight f (form_of_sound m.ty) xs E.outer ∙ ap (λ (d : List ℕ). length (length_bytes f d ++ d)) (sym same) in
    rw M.2 (ap (λ (i : ℕ). i + n) (header_length h.tag h.type (bits_of f)) ∙ ap (λ (i : ℕ). length (header_bytes h.tag (bits_of f)) + i) w
    ∙ sym (ap length (append_assoc (header_bytes h.tag (bits_of f)) (length_bytes f M.0) M.0) ∙ length-append (header_bytes h.tag (bits_of f)) (length_bytes f M.0 ++ M.0)))

pub optional_weight : (ms : List Member) (least : ℕ) (xs : List ℕ) {r : Piece × ℕ} {n : ℕ} → next_optional ms least xs ≡ ok r n → n ≡ length (piece_bytes r.0)
unfolding next_optional
optional_weight ms least xs {r} {n} e = go (bind_ok (header ms least) _ xs e)
  where
    go : Bound (header ms least) (λ h. mapc (λ p _. (p, suc h.tag)) (content (lookup h.tag ms) h)) xs r n → n ≡ length (piece_bytes r.0)
    go B =
        let h = B.fst in
        let M = mapc_ok (content (lookup h.tag ms) h) (drop B.n xs) (λ p _. (p, suc h.tag)) B.next in
        let q : r.0 ≡ M.0 = ap (λ (z : Piece × ℕ). z.0) M.2 in
        B.sum ∙ ap (λ (i : ℕ). i + B.m) (header_weight ms least xs B.first) ∙ content_weight (lookup h.tag ms) h (drop B.n xs) M.1 ∙ ap (λ (z : Piece). length (piece_bytes z)) (sym q)

-- ---- the members of one owner

pub requireds_weight : (ms : List Member) (xs : List ℕ) {ps : List Piece} {n : ℕ} → requireds ms xs ≡ ok ps n → n ≡ length (concat piece_bytes ps)
unfolding requireds concat piece_bytes front_bytes content_bytes
requireds_weight [] xs {ps} {n} h = let P = pure_ok [] xs h in rw P.0 P.1
requireds_weight (m ∷ ms) xs {ps} {n} h = go (bind_ok (bytes (value m.ty)) _ xs h) (λ ys qs k e. requireds_weight ms ys {ps = qs} {n = k} e)
  where
    go : Bound (bytes (value m.ty)) (λ b. mapc (λ ps _. required m.key b ∷ ps) (requireds ms)) xs ps n
        → ((ys : List ℕ) (qs : List Piece) (k : ℕ) → requireds ms ys ≡ ok qs k → k ≡ length (concat piece_bytes qs)) → n ≡ length (concat piece_bytes ps)
    go B rest =
        let M = mapc_ok (requireds ms) (drop B.n xs) (λ ps _. required m.key B.fst ∷ ps) B.next in
        let l : length (concat piece_bytes (required m.key B.fst ∷ M.0)) ≡ length B.fst + length (concat piece_bytes M.0) = length-append B.fst (concat piece_bytes M.0) in
        rw M.2 (B.sum ∙ omega (arith, whole_weight (value m.ty) (held_value m.ty) xs B.first, rest (drop B.n xs) M.0 B.m M.1))

-- optionals, and what the stop took
pub run_weight : (stop : List ℕ → Option ℕ) (ms : List Member) {f s : ℕ} {xs : List ℕ} {ps : List Piece} {n : ℕ} → Run stop (next_optional ms) f s xs ps n
    → (k : ℕ) × (stop (drop (length (concat piece_bytes ps)) xs) ≡ some k) × (n ≡ length (concat piece_bytes ps) + k)
unfolding concat
run_weight stop ms (end {k = k} e) = (k, e, omega arith)
run_weight stop ms (step {s = s} {xs = xs} {a = p} {s' = s'} {n = n} {l = ps} e h r) =
    let ih = run_weight stop ms r in
    let w = optional_weight ms s xs h in
    let l : length (piece_bytes p ++ concat piece_bytes ps) ≡ n + length (concat piece_bytes ps) = length-append (piece_bytes p) (concat piece_bytes ps) ∙ ap (λ (i : ℕ). i + length (concat piece_bytes ps)) (sym w) in
    (ih.0, ap (λ (i : ℕ). stop (drop i xs)) l ∙ ap stop (sym (drop-drop (length (concat piece_bytes ps)) n xs)) ∙ ih.1, omega (arith, ih.2))
