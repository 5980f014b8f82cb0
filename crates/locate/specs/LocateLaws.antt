-- Of an accepted proxy each endpoint is found: what was read before the endpoints is passed by, then the endpoints one after another. Assumes nothing.
--
--   Counts, proxy_counts    how many endpoints an accepted proxy has, and that they follow
--   times_part              one reading of many
--   locate_refused, locate_there    the promises
use Rattle.std.specs.Prelude.{◌≡◌, refl, Bool, true, false, List, ℕ, zero, suc, ◌+◌, ◌≤◌, ◌<◌, length, drop, eqb, ltb}
use Rattle.std.proofs.Common.{sym, ap, ◌∙◌, arith, add-zero, length-drop, drop-drop, eqb-true, ltb-true, ltb-false, lt-ltb, le-ltb}
use Rattle.encoding.specs.Result.{ok, Parser, pick, shift, after, ◌>>=◌, pure, chunk, skip, must, made, mapc, times, first_of}
use Rattle.encoding.proofs.ResultLaws.{Bound, bind_ok, bind_step, pure_ok, chunk_ok, chunk_step, must_ok, mapc_ok, mapc_step, held_took, held_times}
use Rattle.encoding.specs.Number.{byte, bool, bool_form, size}
use Rattle.encoding.proofs.NumberLaws.{held_byte, byte_canonical}
use Rattle.encoding.proofs.ValueLaws.{held_endpoint}
use Rattle.encoding.specs.Proxy.{identity, text, facets, mode_form, endpoint, endpoints, versions, reference, proxy}
use Rattle.encoding.specs.Message.{limit, refused_first}
use Rattle.proxy.specs.Parts.{named}
use Rattle.locate.specs.Locate.{Spot, counted, referenced, generals, started, apart, placed, spot_at, unless_bad, locating}
use Rattle.locate.specs.LocateDemands.{LocateRefused, Found, LocateThere}
use Rattle.endpoint.proofs.RefusalLaws.{ended_more, ended_done}
use Rattle.locate.specs.ProxyRefusals.{held_generals}

-- ---- refusals

pub locate_refused : LocateRefused
unfolding locating refused_first first_of unless_bad ◌>>=◌ after shift
locate_refused i p = record {
  too_long_lem = λ l. rw (lt-ltb limit (length p) l);
  refused = λ c q l h. rw (le-ltb limit (length p) l, h);
  behind = λ n l h m. rw (le-ltb limit (length p) l, h, ended_more (tt {0}) n p m, add-zero);
}

-- ---- how many endpoints there are

-- n endpoints follow the first h bytes
record Counts (g : Parser ℕ) (p : List ℕ) : Type 0 where
  n : ℕ
  h : ℕ
  taken : ℕ
  counts : g p ≡ ok n h
  follow : times n endpoint (drop h p) ≡ ok tt taken

-- bytes of any content, one by one
skips : (n : ℕ) (xs : List ℕ) {m : ℕ} → times n (skip 1) xs ≡ ok tt m → (m ≡ n) × (n ≤ length xs)
unfolding times skip
skips zero xs h = ((pure_ok tt xs h).1, omega arith)
skips (suc n) xs {m} h = go (bind_ok (skip 1) (λ _. times n (skip 1)) xs h) (λ ys k q. skips n ys {m = k} q)
  where
    go : Bound (skip 1) (λ _. times n (skip 1)) xs tt m → ((ys : List ℕ) (k : ℕ) → times n (skip 1) ys ≡ ok tt k → (k ≡ n) × (n ≤ length ys)) → (m ≡ suc n) × (suc n ≤ length xs)
    go B ih =
        let C = chunk_ok 1 (λ _. tt {0}) xs B.first in
        let S = ih (drop B.n xs) B.m B.next in
        (omega (arith, B.sum, C.2, S.0), omega (arith, C.0, C.2, S.1, length-drop B.n xs))

one_byte : (f : ℕ → ℕ) (xs : List ℕ) {a n : ℕ} → must f byte xs ≡ ok a n → (n ≡ 1) × (1 ≤ length xs)
one_byte f xs h = let b = (must_ok byte xs f h).0 in let o = (byte_canonical xs b).1 in (o, omega (arith, o, held_took byte held_byte xs b))

one_bool : (xs : List ℕ) {n : ℕ} → bool xs ≡ ok tt n → (n ≡ 1) × (1 ≤ length xs)
unfolding bool
one_bool xs h = one_byte bool_form xs (mapc_ok (must bool_form byte) xs (λ _ _. tt) h).1

-- the endpoints, or an adapter and none
ends_follow : (n : ℕ) (xs : List ℕ) {m : ℕ} → pick (eqb n 0) text (times n endpoint) xs ≡ ok tt m → (j : ℕ) × (times n endpoint xs ≡ ok tt j)
unfolding times pure
ends_follow n xs {m} h = go (eqb n 0) refl h
  where
    go : (b : Bool) → eqb n 0 ≡ b → pick b text (times n endpoint) xs ≡ ok tt m → (j : ℕ) × (times n endpoint xs ≡ ok tt j)
    go true e q = (0, ap (λ (k : ℕ). times k endpoint xs) (eqb-true n 0 e))
    go false e q = (m, q)

-- the count, and what follows it
sized_follow : (xs : List ℕ) {m : ℕ} → endpoints xs ≡ ok tt m → Counts size xs
unfolding endpoints
sized_follow xs h = go (bind_ok size (λ n. pick (eqb n 0) text (times n endpoint)) xs h)
  where
    go : {m : ℕ} → Bound size (λ n. pick (eqb n 0) text (times n endpoint)) xs tt m → Counts size xs
    go B = let E = ends_follow B.fst (drop B.n xs) B.next in record { n = B.fst; h = B.n; taken = E.0; counts = B.first; follow = E.1 }

-- a count that is read after k bytes
after_bytes : (q r : Parser ℕ) (xs : List ℕ) (k : ℕ) → ((n j : ℕ) → q (drop k xs) ≡ ok n j → r xs ≡ ok n (k + j)) → Counts q (drop k xs) → Counts r xs
after_bytes q r xs k step C = record { n = C.n; h = k + C.h; taken = C.taken; counts = step C.n C.h C.counts; follow = ap (times C.n endpoint) (sym (drop-drop C.h k xs)) ∙ C.follow }

counted_step : (xs : List ℕ) → 6 ≤ length xs → (n j : ℕ) → size (drop 6 xs) ≡ ok n j → counted xs ≡ ok n (6 + j)
unfolding counted skip
counted_step xs l n j h = bind_step (chunk 6 (λ _. tt)) (λ _. size) xs (chunk_step 6 (λ _. tt {0}) xs l) h

-- mode, secure, protocol and encoding are six bytes
six : (xs : List ℕ) {m : ℕ} → (must mode_form byte >>= λ _. bool >>= λ _. versions false >>= λ _. endpoints) xs ≡ ok tt m → Counts counted xs
unfolding versions
six xs {m} h = one (bind_ok (must mode_form byte) (λ _. bool >>= λ _. versions false >>= λ _. endpoints) xs h)
  where
    three : (a b c : ℕ) {m : ℕ} → (a ≡ 1) × (1 ≤ length xs) → (b ≡ 1) × (1 ≤ length (drop a xs)) → (c ≡ 4) × (4 ≤ length (drop b (drop a xs))) → endpoints (drop c (drop b (drop a xs))) ≡ ok tt m → Counts counted xs
    three a b c A B C q =
        let l : 6 ≤ length xs = omega (arith, A.0, A.1, B.0, B.1, C.1, length-drop a xs, length-drop b (drop a xs)) in
        let z : a + (b + c) ≡ 6 = omega (arith, A.0, B.0, C.0) in
        let e : drop c (drop b (drop a xs)) ≡ drop 6 xs = drop-drop c b (drop a xs) ∙ drop-drop (b + c) a xs ∙ ap (λ (k : ℕ). drop k xs) z in
        after_bytes size counted xs 6 (counted_step xs l) (sized_follow (drop 6 xs) (ap endpoints (sym e) ∙ q))

    two : (B : Bound (must mode_form byte) (λ _. bool >>= λ _. versions false >>= λ _. endpoints) xs tt m) (C : Bound bool (λ _. versions false >>= λ _. endpoints) (drop B.n xs) tt B.m)
        → Bound (versions false) (λ _. endpoints) (drop C.n (drop B.n xs)) tt C.m → Counts counted xs
    two B C D = three B.n C.n D.n (one_byte mode_form xs B.first) (one_bool (drop B.n xs) C.first) (skips 4 (drop C.n (drop B.n xs)) D.first) D.next

    and : (B : Bound (must mode_form byte) (λ _. bool >>= λ _. versions false >>= λ _. endpoints) xs tt m) → Bound bool (λ _. versions false >>= λ _. endpoints) (drop B.n xs) tt B.m → Counts counted xs
    and B C = two B C (bind_ok (versions false) (λ _. endpoints) (drop C.n (drop B.n xs)) C.next)

    one : Bound (must mode_form byte) (λ _. bool >>= λ _. versions false >>= λ _. endpoints) xs tt m → Counts counted xs
    one B = and B (bind_ok bool (λ _. versions false >>= λ _. endpoints) (drop B.n xs) B.next)

referred : (xs : List ℕ) {m : ℕ} → reference false xs ≡ ok tt m → Counts referenced xs
unfolding reference referenced
referred xs {m} h = go (bind_ok facets (λ _. must mode_form byte >>= λ _. bool >>= λ _. versions false >>= λ _. endpoints) xs h)
  where
    go : Bound facets (λ _. must mode_form byte >>= λ _. bool >>= λ _. versions false >>= λ _. endpoints) xs tt m → Counts referenced xs
    go B = after_bytes counted referenced xs B.n (λ n j q. bind_step facets (λ _. counted) xs B.first q) (six (drop B.n xs) B.next)

nil_ends : (n : ℕ) (xs : List ℕ) → eqb n 0 ≡ true → pick (eqb n 0) (pure 0) referenced xs ≡ ok 0 0
unfolding pure
nil_ends n xs z = rw z

full_goes : (n : ℕ) (xs : List ℕ) → eqb n 0 ≡ false → {c j : ℕ} → referenced xs ≡ ok c j → pick (eqb n 0) (pure 0) referenced xs ≡ ok c j
full_goes n xs z r = rw z r

no_endpoint : (xs : List ℕ) → times 0 endpoint xs ≡ ok tt 0
unfolding times pure
no_endpoint xs = refl

proxy_counts : (p : List ℕ) {m : ℕ} → proxy false p ≡ ok tt m → Counts generals p
unfolding proxy generals named
proxy_counts p {m} h = go (bind_ok identity (λ (l : ℕ × ℕ). pick (eqb l.0 0) (pure tt) (reference false)) p h)
  where
    name : (l : ℕ × ℕ) (k : ℕ) → identity p ≡ ok l k → mapc (λ (l : ℕ × ℕ) _. l.0) identity p ≡ ok l.0 k
    name l k e = mapc_step identity p (λ (l : ℕ × ℕ) _. l.0) e

    pass : (l : ℕ × ℕ) (k : ℕ) → identity p ≡ ok l k → (b : Bool) → eqb l.0 0 ≡ b → {j : ℕ} → pick b (pure tt) (reference false) (drop k p) ≡ ok tt j → Counts generals p
    pass l k e true z q = record { n = 0; h = k + 0; taken = 0; counts = bind_step (mapc (λ (l : ℕ × ℕ) _. l.0) identity) (λ n. pick (eqb n 0) (pure 0) referenced) p (name l k e) (nil_ends l.0 (drop k p) z); follow = no_endpoint (drop (k + 0) p) }
    pass l k e false z q = after_bytes referenced generals p k (λ n j r. bind_step (mapc (λ (l : ℕ × ℕ) _. l.0) identity) (λ n. pick (eqb n 0) (pure 0) referenced) p (name l k e) (full_goes l.0 (drop k p) z r)) (referred (drop k p) q)

    go : Bound identity (λ (l : ℕ × ℕ). pick (eqb l.0 0) (pure tt) (reference false)) p tt m → Counts generals p
    go B = pass B.fst B.n B.first (eqb B.fst.0 0) refl B.next

-- ---- one of many

record Part (p : Parser (Unit {0})) (i : ℕ) (xs : List ℕ) : Type 0 where
  before : ℕ
  own : ℕ
  passes : times i p xs ≡ ok tt before
  reads : p (drop before xs) ≡ ok tt own

times_part : (p : Parser (Unit {0})) (n i : ℕ) (xs : List ℕ) {j : ℕ} → i < n → times n p xs ≡ ok tt j → Part p i xs
unfolding times pure
times_part p zero i xs l h = absurd (omega arith)
times_part p (suc n) zero xs {j} l h = go (bind_ok p (λ _. times n p) xs h)
  where
    go : Bound p (λ _. times n p) xs tt j → Part p 0 xs
    go B = record { before = 0; own = B.n; passes = refl; reads = B.first }
times_part p (suc n) (suc i) xs {j} l h = go (bind_ok p (λ _. times n p) xs h) (λ ys k q. times_part p n i ys {j = k} (omega arith) q)
  where
    go : Bound p (λ _. times n p) xs tt j → ((ys : List ℕ) (k : ℕ) → times n p ys ≡ ok tt k → Part p i ys) → Part p (suc i) xs
    go B ih = let P = ih (drop B.n xs) B.m B.next in
        record { before = B.n + P.before; own = P.own; passes = bind_step p (λ _. times i p) xs B.first P.passes; reads = ap p (sym (drop-drop P.before B.n xs)) ∙ P.reads }

-- ---- found

unlimited : (i : ℕ) (p : List ℕ) → length p ≤ limit → proxy false p ≡ ok tt (length p) → locating i p ≡ spot_at i p
unfolding locating refused_first first_of unless_bad ◌>>=◌ after shift
unlimited i p l h = rw (le-ltb limit (length p) l, h, ended_done (tt {0}) (length p) p (omega arith))

-- how the endpoints go on from the count
counted_on : (i : ℕ) (p : List ℕ) (n h : ℕ) → generals p ≡ ok n h
    → spot_at i p ≡ shift h (pick (ltb i n) (placed i n h) (pure (record { count = n; place = 0; len = 0 })) (drop h p))
unfolding spot_at started mapc made ◌>>=◌ after
counted_on i p n h e = rw e

placed_at : (i n h : ℕ) (xs : List ℕ) (m l : ℕ) → times i endpoint xs ≡ ok tt m → endpoint (drop m xs) ≡ ok tt l → placed i n h xs ≡ ok (record { count = n; place = h + m; len = l }) (m + l)
unfolding placed apart mapc made ◌>>=◌ after shift
placed_at i n h xs m l a b = rw (a, b)

no_more : (i n h : ℕ) (xs : List ℕ) → n ≤ i → shift h (pick (ltb i n) (placed i n h) (pure (record { count = n; place = 0; len = 0 })) xs) ≡ ok (record { count = n; place = 0; len = 0 }) (h + 0)
unfolding pure shift
no_more i n h xs l = rw (le-ltb i n l)

some_more : (i n h : ℕ) (xs : List ℕ) {s : Spot} {m : ℕ} → i < n → placed i n h xs ≡ ok s m → shift h (pick (ltb i n) (placed i n h) (pure (record { count = n; place = 0; len = 0 })) xs) ≡ ok s (h + m)
unfolding shift
some_more i n h xs l e = rw (lt-ltb i n l, e)

-- each lies within what is left
held_count : (p : List ℕ) {n h : ℕ} → generals p ≡ ok n h → h ≤ length p
held_count p e = held_took generals held_generals p e

spot_within : (p : List ℕ) (h m l i : ℕ) → h ≤ length p → times i endpoint (drop h p) ≡ ok tt m → endpoint (drop m (drop h p)) ≡ ok tt l → h + m + l ≤ length p
spot_within p h m l i a b c =
    omega (arith, held_took (times i endpoint) (held_times i endpoint held_endpoint) (drop h p) b, held_took endpoint held_endpoint (drop m (drop h p)) c, length-drop h p, length-drop m (drop h p))

pub locate_there : LocateThere
locate_there i p l h = go (proxy_counts p h)
  where
    Answer : Type 0
    Answer = (s : Spot) × (n : ℕ) × (locating i p ≡ ok s n) × Found i p s

    none : (C : Counts generals p) → C.n ≤ i → Answer
    none C m = (
      record { count = C.n; place = 0; len = 0 },
      C.h + 0,
      unlimited i p l h ∙ counted_on i p C.n C.h C.counts ∙ no_more i C.n C.h (drop C.h p) m,
      record { is_there = λ q. absurd (omega arith); within = omega arith; is_none_lem = λ q. (refl, refl) },
    )

    there : (C : Counts generals p) → i < C.n → Part endpoint i (drop C.h p) → Answer
    there C m P = (
      record { count = C.n; place = C.h + P.before; len = P.own },
      C.h + (P.before + P.own),
      unlimited i p l h ∙ counted_on i p C.n C.h C.counts ∙ some_more i C.n C.h (drop C.h p) m (placed_at i C.n C.h (drop C.h p) P.before P.own P.passes P.reads),
      record {
        is_there = λ q. ap endpoint (sym (drop-drop P.before C.h p)) ∙ P.reads;
        within = inside C P;
        is_none_lem = λ q. absurd (omega arith);
      },
    )
      where
        inside : (C : Counts generals p) (P : Part endpoint i (drop C.h p)) → C.h + P.before + P.own ≤ length p
        inside C P = spot_within p C.h P.before P.own i (held_count p C.counts) P.passes P.reads

    go : Counts generals p → Answer
    go C = choose (ltb i C.n) refl
      where
        choose : (b : Bool) → ltb i C.n ≡ b → Answer
        choose true e = there C (ltb-true i C.n e) (times_part endpoint C.n i (drop C.h p) (ltb-true i C.n e) C.follow)
        choose false e = none C (ltb-false i C.n e)
