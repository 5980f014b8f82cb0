-- The cases of finding an endpoint in its proxy, by the answers of the readers that are called; every number fits 32 bits. Assumes nothing.
--
--   counted_.., referenced_.., generals_..   the general parameters, one reader after another
--   passed_..         the endpoints before the wanted one, then that one
--   spot_..           by the number of endpoints
--   at_..             3, the proxy's own refusals, 18; then the answer, whose numbers fit
--   near_.., put_.., room_at, roomy_at   22 last; the three numbers
use mathlib.Core.Path.{◌≡◌, refl, sym, ap, ◌∙◌, subst}
use mathlib.Core.Bool.{Bool, true, false}
use mathlib.Core.List.{List, [], ◌∷◌, ◌++◌, append_assoc, append-nil}
use Prim.Native.Nat.{ℕ, ◌+◌, ◌-◌, ◌^◌, ◌≤◌, ◌<◌}
use native.Mathlib.Omega.{arith}
use native.Mathlib.Nat.{add-zero}
use lib.ListN.{length, take, drop, length-drop}
use lib.Seq.{drop-drop}
use lib.Dec.{eqb, leb, ltb}
use borrow.Author.Tests.{leb-true, ltb-false, le-leb, lt-leb, lt-ltb, le-ltb, ne_eqb}
use mir.Syntax.{w32}
use mir.Val.{Fits}
use Rattle.encoding.specs.Result.{Res, ok, bad, Parser, pick, shift, after, ◌>>=◌, pure, chunk, skip, made, mapc, times, first_of, concat}
use Rattle.encoding.proofs.ResultLaws.{Bound, bind_ok, pure_ok, Lies, Held, held_bind, held_took, held_refused, held_times}
use Rattle.encoding.specs.Number.{size}
use Rattle.encoding.proofs.NumberLaws.{held_size}
use Rattle.encoding.specs.Types.{proxy as proxy-type}
use Rattle.encoding.specs.Value.{value}
use Rattle.encoding.proofs.ValueLaws.{held_value, held_endpoint}
use Rattle.encoding.specs.Proxy.{facets, endpoint, proxy}
use Rattle.encoding.specs.Message.{ended, limit, refused_first}
use Rattle.std.specs.Prelude.{Result, Ok, Err}
use Rattle.wire.specs.declared.Refusal.{Refusal}
use Rattle.wire.specs.declared.Counted.{Counted}
use Rattle.wire.specs.Steps.{step_of, sized_of, refused, counted as read, behind, later, LaterFits}
use Rattle.wire.specs.StepLaws.{rest_is, step_took, step_fault, sized_is, sized_isnt, sized_held}
use Rattle.wire.proofs.Sums.{later_fits}
use Rattle.wire.specs.SizeLaws.{size_below}
use Rattle.proxy.specs.Parts.{named}
use Rattle.locate.specs.declared.Located.{Located}
use Rattle.locate.specs.declared.Located.TheVariants.{At, Refused}
use Rattle.locate.specs.declared.Spot.{Spot as Spotted}
use Rattle.locate.specs.CountLater.{count_later, CountFits}
use Rattle.locate.specs.Locate.{Spot, counted, referenced, generals, started, apart, placed, spot_at, unless_bad, locating, spot, spotted, located_of, three_bytes, located_within, with_located, RoomyAt}
use Rattle.endpoint.proofs.RefusalLaws.{ended_more, ended_done, held_ended, Told, Refuses, refuses_bind, told_bad}
use Rattle.locate.specs.ProxyRefusals.{held_facets, held_counted, held_referenced, held_named, held_generals, Few, few_endpoint, few_endpoint_list, few_proxy, few_generals}
use Rattle.endpoint.specs.Parts.{int_bytes}

-- ---- one reader, then another that gives a number

count_later_of : (n : ℕ) (r : Res ℕ) → count_later n (sized_of r) ≡ sized_of (shift n r)
unfolding sized_of shift
count_later_of n (ok a m) = refl
count_later_of n (bad c p) = refl

-- an answer about the rest, moved past the k bytes before it
module _ (p : Parser ℕ) (P : Held p) (s : List ℕ) (k : ℕ) (h : k ≤ length s) (z : Result Counted Refusal) (d : z ≡ sized_of (p (take (length s - k) (drop k s)))) where
  rest_of : z ≡ sized_of (p (drop k s))
  rest_of = rw rest_is at d

  moved_is : count_later k z ≡ sized_of (shift k (p (drop k s)))
  moved_is = ap (count_later k) rest_of ∙ count_later_of k (p (drop k s))

  moved_fit : length s < 2 ^ 64 → CountFits k z
  moved_fit l = go z refl
    where
      go : (t : Result Counted Refusal) → z ≡ t → CountFits k t
      go (Ok x) q = omega (arith, h, sized_held p P (drop k s) z rest_of x q, length-drop k s)
      go (Err x) q = omega (arith, h, held_refused p P (drop k s) (sized_isnt (p (drop k s)) x (sym q ∙ rest_of)), length-drop k s)

-- ---- the count, after six bytes

pub counted_cut : (s : List ℕ) → length s < 6 → refused 4 0 ≡ sized_of (counted s)
unfolding counted skip chunk ◌>>=◌ after sized_of
counted_cut s h = rw (lt-leb 6 (length s) h)

module _ (s : List ℕ) (h : 6 ≤ length s) (z : Result Counted Refusal) (d : z ≡ sized_of (size (take (length s - 6) (drop 6 s)))) where
  six : counted s ≡ shift 6 (size (drop 6 s))
  unfolding counted skip chunk ◌>>=◌ after
  six = rw (le-leb 6 (length s) h)

  pub counted_fit : length s < 2 ^ 64 → CountFits 6 z
  counted_fit = moved_fit size held_size s 6 h z d

  pub counted_is : count_later 6 z ≡ sized_of (counted s)
  counted_is = rw six (moved_is size held_size s 6 h z d)

-- ---- after the facets

module _ (s : List ℕ) (r : Result ℕ Refusal) (e : r ≡ step_of (facets s)) where
  pub referenced_none : (x : Refusal) → r ≡ Err x → Err x ≡ sized_of (referenced s)
  unfolding referenced ◌>>=◌ after sized_of
  referenced_none x i = rw (step_fault (facets s) x (sym i ∙ e))

  module _ (k : ℕ) (f : r ≡ Ok k) where
    pub facets_end : k ≤ length s
    facets_end = held_took facets held_facets s (step_took (facets s) k (sym f ∙ e)).1

    module _ (z : Result Counted Refusal) (d : z ≡ sized_of (counted (take (length s - k) (drop k s)))) where
      after_facets : referenced s ≡ shift k (counted (drop k s))
      unfolding referenced ◌>>=◌ after
      after_facets = rw (step_took (facets s) k (sym f ∙ e)).1

      pub referenced_fit : length s < 2 ^ 64 → CountFits k z
      referenced_fit = moved_fit counted held_counted s k facets_end z d

      pub referenced_is : count_later k z ≡ sized_of (referenced s)
      referenced_is = rw after_facets (moved_is counted held_counted s k facets_end z d)

-- ---- after the identity

module _ (s : List ℕ) (y : Result Counted Refusal) (e : y ≡ sized_of (named s)) where
  pub generals_none : (x : Refusal) → y ≡ Err x → Err x ≡ sized_of (generals s)
  unfolding generals ◌>>=◌ after sized_of
  generals_none x i = rw (sized_isnt (named s) x (sym i ∙ e))

  module _ (x : Counted) (f : y ≡ Ok x) where
    pub named_end : x.bytes ≤ length s
    named_end = sized_held named held_named s y e x f

    -- an empty name's length is the number of endpoints
    pub generals_nil : x.number ≡ 0 → Ok x ≡ sized_of (generals s)
    unfolding generals ◌>>=◌ after pure shift sized_of
    generals_nil o = ap (λ (n : ℕ). read n x.bytes) o ∙ rw (sized_is (named s) x (sym f ∙ e), o, add-zero)

    module _ (o : x.number ≡ 0 → ⊥) (z : Result Counted Refusal) (d : z ≡ sized_of (referenced (take (length s - x.bytes) (drop x.bytes s)))) where
      after_named : generals s ≡ shift x.bytes (referenced (drop x.bytes s))
      unfolding generals ◌>>=◌ after
      after_named = rw (sized_is (named s) x (sym f ∙ e), ne_eqb x.number 0 o)

      pub generals_fit : length s < 2 ^ 64 → CountFits x.bytes z
      generals_fit = moved_fit referenced held_referenced s x.bytes named_end z d

      pub generals_is : count_later x.bytes z ≡ sized_of (generals s)
      generals_is = rw after_named (moved_is referenced held_referenced s x.bytes named_end z d)

-- ---- the endpoints before the wanted one, then that one

module _ (s : List ℕ) (i n at : ℕ) (h : at ≤ length s) (a : Result ℕ Refusal) (e : a ≡ step_of (times i endpoint (take (length s - at) (drop at s)))) where
  pub passed_fit : length s < 2 ^ 64 → LaterFits at a
  passed_fit l = later_fits (times i endpoint) (held_times i endpoint held_endpoint) s at a e h l

  before : a ≡ step_of (times i endpoint (drop at s))
  before = rw rest_is at e

  pub passed_bad : (x : Refusal) → later at a ≡ Err x → Err x ≡ spotted (shift at (placed i n at (drop at s)))
  unfolding placed apart mapc made ◌>>=◌ after shift spotted step_of
  passed_bad x g = go (times i endpoint (drop at s)) refl
    where
      go : (t : Res (Unit {0})) → times i endpoint (drop at s) ≡ t → Err x ≡ spotted (shift at (placed i n at (drop at s)))
      go (ok u m) q =
          let w : Ok (at + m) ≡ Err x = ap (later at) (sym (before ∙ ap step_of q)) ∙ g in
          let z : ◌≡◌ {A = ℕ} 0 1 = cc in absurd (omega arith)
      go (bad c p) q =
          let w : refused c (at + p) ≡ Err x = ap (later at) (sym (before ∙ ap step_of q)) ∙ g in
          let v : x ≡ record { number = c; place = at + p } = cc in
          rw q (ap (λ (u : Refusal). refused {T = Spotted} u.number u.place) v)

  module _ (place : ℕ) (g : later at a ≡ Ok place) where
    came : (m : ℕ) × (times i endpoint (drop at s) ≡ ok tt m) × (place ≡ at + m)
    unfolding step_of
    came = go (times i endpoint (drop at s)) refl
      where
        go : (t : Res (Unit {0})) → times i endpoint (drop at s) ≡ t → (m : ℕ) × (times i endpoint (drop at s) ≡ ok tt m) × (place ≡ at + m)
        go (ok tt m) q =
            let w : Ok (at + m) ≡ Ok place = ap (later at) (sym (before ∙ ap step_of q)) ∙ g in
            let v : at + m ≡ place = cc in (m, q, sym v)
        go (bad c p) q =
            let w : refused c (at + p) ≡ Ok place = ap (later at) (sym (before ∙ ap step_of q)) ∙ g in
            let z : ◌≡◌ {A = ℕ} 0 1 = cc in absurd (omega arith)

    pub next_within : place ≤ length s
    next_within = omega (arith, came.2, held_took (times i endpoint) (held_times i endpoint held_endpoint) (drop at s) came.1, length-drop at s, h)

    module _ (b : Result ℕ Refusal) (d : b ≡ step_of (endpoint (take (length s - place) (drop place s)))) where
      here : b ≡ step_of (endpoint (drop place s))
      here = rw rest_is at d

      -- the same bytes, counted from the first endpoint
      there : (m : ℕ) → place ≡ at + m → b ≡ step_of (endpoint (drop m (drop at s)))
      there m p = here ∙ ap (λ (k : ℕ). step_of (endpoint (drop k s))) p ∙ ap (λ (t : List ℕ). step_of (endpoint t)) (sym (drop-drop m at s))

      pub passed_is : (l : ℕ) → b ≡ Ok l → spot n place l ≡ spotted (shift at (placed i n at (drop at s)))
      unfolding placed apart mapc made ◌>>=◌ after shift spotted
      passed_is l f = go came.0 came.1 came.2
        where
          go : (m : ℕ) → times i endpoint (drop at s) ≡ ok tt m → place ≡ at + m → spot n place l ≡ spotted (shift at (placed i n at (drop at s)))
          go m c p = rw (c, (step_took (endpoint (drop m (drop at s))) l (sym f ∙ there m p)).1) (ap (λ (k : ℕ). spot n k l) p)

      module _ (x : Refusal) (f : b ≡ Err x) where
        pub passed_wrong_fit : length s < 2 ^ 64 → place + x.place < 2 ^ 64
        passed_wrong_fit l = omega (arith, next_within, held_refused endpoint held_endpoint (drop place s) (step_fault (endpoint (drop place s)) x (sym f ∙ here)), length-drop place s)

        pub passed_wrong : Err (behind place x) ≡ spotted (shift at (placed i n at (drop at s)))
        unfolding placed apart mapc made ◌>>=◌ after shift spotted
        passed_wrong = go came.0 came.1 came.2
          where
            go : (m : ℕ) → times i endpoint (drop at s) ≡ ok tt m → place ≡ at + m → Err (behind place x) ≡ spotted (shift at (placed i n at (drop at s)))
            go m c p = rw (c, step_fault (endpoint (drop m (drop at s))) x (sym f ∙ there m p)) (ap (λ (k : ℕ). refused {T = Spotted} x.number k) (omega (arith, p)))

-- ---- by the number of endpoints

module _ (s : List ℕ) (i : ℕ) (z : Result Counted Refusal) (e : z ≡ sized_of (generals s)) where
  pub spot_bad : (x : Refusal) → z ≡ Err x → Err x ≡ spotted (spot_at i s)
  unfolding spot_at started mapc made ◌>>=◌ after spotted
  spot_bad x g = rw (sized_isnt (generals s) x (sym g ∙ e))

  module _ (x : Counted) (g : z ≡ Ok x) where
    pub spot_end : x.bytes ≤ length s
    spot_end = sized_held generals held_generals s z e x g

    pub spot_none : x.number ≤ i → spot x.number 0 0 ≡ spotted (spot_at i s)
    unfolding spot_at started mapc made ◌>>=◌ after pure shift spotted
    spot_none l = rw (sized_is (generals s) x (sym g ∙ e), le-ltb i x.number l)

    pub spot_there : i < x.number → (r : Result Spotted Refusal) → r ≡ spotted (shift x.bytes (placed i x.number x.bytes (drop x.bytes s))) → r ≡ spotted (spot_at i s)
    unfolding spot_at started mapc made ◌>>=◌ after
    spot_there l r q = rw (sized_is (generals s) x (sym g ∙ e), lt-ltb i x.number l) q

-- ---- 3, the proxy's own refusals, 18

module _ (s : List ℕ) (i : ℕ) where
  pub at_long : 65536 < length s → refused 3 0 ≡ spotted (locating i s)
  unfolding locating refused_first first_of spotted
  at_long h = rw (lt-ltb limit (length s) h)

  module _ (h : length s ≤ 65536) (r : Result ℕ Refusal) (e : r ≡ step_of (proxy false s)) where
    pub at_bad : (x : Refusal) → r ≡ Err x → Err x ≡ spotted (locating i s)
    unfolding locating refused_first first_of unless_bad ◌>>=◌ after spotted
    at_bad x g = rw (le-ltb limit (length s) h, step_fault (proxy false s) x (sym g ∙ e))

    module _ (k : ℕ) (g : r ≡ Ok k) where
      pub at_more : k < length s → refused 18 k ≡ spotted (locating i s)
      unfolding locating refused_first first_of unless_bad ◌>>=◌ after shift spotted
      at_more l = rw (le-ltb limit (length s) h, (step_took (proxy false s) k (sym g ∙ e)).1, ended_more (tt {0}) k s l, add-zero)

      pub at_whole : length s ≤ k → (o : Result Spotted Refusal) → o ≡ spotted (spot_at i s) → o ≡ spotted (locating i s)
      unfolding locating refused_first first_of unless_bad ◌>>=◌ after shift
      at_whole l o q = rw (le-ltb limit (length s) h, (step_took (proxy false s) k (sym g ∙ e)).1, ended_done (tt {0}) k s l) q

-- ---- every number fits 32 bits

-- a count is a size
count_below : (s : List ℕ) {n k : ℕ} → generals s ≡ ok n k → n < 2 ^ 31
unfolding generals referenced counted
count_below s {n} {k} h = go (bind_ok named (λ m. pick (eqb m 0) (pure 0) referenced) s h)
  where
    sized : (t : List ℕ) {m : ℕ} → referenced t ≡ ok n m → n < 2 ^ 31
    sized t q =
        let B = bind_ok facets (λ _. counted) t q in
        let C = bind_ok (skip 6) (λ _. size) (drop B.n t) B.next in
        size_below (drop C.n (drop B.n t)) C.next

    pass : (b : Bool) (t : List ℕ) {m : ℕ} → pick b (pure 0) referenced t ≡ ok n m → n < 2 ^ 31
    pass true t q = omega (arith, (pure_ok 0 t q).0)
    pass false t q = sized t q

    go : Bound named (λ m. pick (eqb m 0) (pure 0) referenced) s n k → n < 2 ^ 31
    go B = pass (eqb B.fst 0) (drop B.n s) B.next

abbrev Narrow : Res Spot → Type 0
Narrow (ok s n) = (s.count < 2 ^ 32) × (s.place < 2 ^ 32) × (s.len < 2 ^ 32)
Narrow (bad c q) = (c < 2 ^ 32) × (q < 2 ^ 32)

module _ (s : List ℕ) (short : length s ≤ 65536) (i : ℕ) where
  placed_narrow : (n h : ℕ) → n < 2 ^ 31 → h ≤ length s → Narrow (shift h (placed i n h (drop h s)))
  unfolding placed apart mapc made ◌>>=◌ after shift
  placed_narrow n h l k = go (times i endpoint (drop h s)) refl
    where
      own : (m : ℕ) → m ≤ length s - h → (t : Res (Unit {0})) → endpoint (drop m (drop h s)) ≡ t
          → Narrow (shift h (made (λ (e : ℕ × ℕ) _. record { count = n; place = h + e.0; len = e.1 }) (shift m (made (λ _ l. (m, l)) t))))
      own m j (ok u o) f = (omega (arith, l), omega (arith, j, k, short), omega (arith, short, held_took endpoint held_endpoint (drop m (drop h s)) f, length-drop m (drop h s), length-drop h s))
      own m j (bad c q) f = (omega (arith, told_bad Few endpoint few_endpoint (drop m (drop h s)) f), omega (arith, j, k, short, held_refused endpoint held_endpoint (drop m (drop h s)) f, length-drop m (drop h s), length-drop h s))

      go : (t : Res (Unit {0})) → times i endpoint (drop h s) ≡ t
          → Narrow (shift h (made (λ (e : ℕ × ℕ) _. record { count = n; place = h + e.0; len = e.1 }) (after (made (λ _ m. m) t) (λ m. mapc (λ _ l. (m, l)) endpoint) (drop h s))))
      go (ok u m) f = own m (omega (arith, held_took (times i endpoint) (held_times i endpoint held_endpoint) (drop h s) f, length-drop h s)) (endpoint (drop m (drop h s))) refl
      go (bad c q) f = (omega (arith, told_bad Few (times i endpoint) (few_endpoint_list i) (drop h s) f), omega (arith, k, short, held_refused (times i endpoint) (held_times i endpoint held_endpoint) (drop h s) f, length-drop h s))

  spot_narrow : Narrow (spot_at i s)
  unfolding spot_at started mapc made ◌>>=◌ after pure shift
  spot_narrow = go (generals s) refl
    where
      by : (n h : ℕ) → n < 2 ^ 31 → h ≤ length s → (b : Bool) → Narrow (shift h (pick b (placed i n h) (pure (record { count = n; place = 0; len = 0 })) (drop h s)))
      by n h l k true = placed_narrow n h l k
      by n h l k false = (omega (arith, l), omega arith, omega arith)

      go : (t : Res ℕ) → generals s ≡ t → Narrow (after (made (λ n h. (n, h)) t) (λ (s : ℕ × ℕ). pick (ltb i s.0) (placed i s.0 s.1) (pure (record { count = s.0; place = 0; len = 0 }))) s)
      go (ok n h) e = by n h (count_below s e) (held_took generals held_generals s e) (ltb i n)
      go (bad c q) e = (omega (arith, told_bad Few generals few_generals s e), omega (arith, short, held_refused generals held_generals s e))

held_proxy : Held (proxy false)
unfolding value
held_proxy = held_value proxy-type

few_ended : {A : Type 0} (a : A) → Refuses Few (ended a)
unfolding ended
few_ended a [] = tt
few_ended a (x ∷ xs) = omega arith

locating_narrow : (i : ℕ) (s : List ℕ) → Narrow (locating i s)
unfolding locating refused_first first_of unless_bad
locating_narrow i s = go (ltb limit (length s)) refl
  where
    read : length s ≤ 65536 → (t : Res (Unit {0})) → Told Few t → Lies (length s) t → Narrow (unless_bad t (spot_at i s))
    read l (ok u n) f h = spot_narrow s l i
    read l (bad c q) f h = (omega (arith, f), omega (arith, l, h))

    go : (b : Bool) → ltb limit (length s) ≡ b → Narrow (refused_first (pick b 3 0) (unless_bad ((proxy false >>= ended) s) (spot_at i s)))
    go true e = (omega arith, omega arith)
    go false e = read (ltb-false limit (length s) e) ((proxy false >>= ended) s) (refuses_bind Few (proxy false) ended few_proxy few_ended s) (held_bind (proxy false) ended held_proxy held_ended s)

module _ (s : List ℕ) (i : ℕ) (r : Result Spotted Refusal) (e : r ≡ spotted (locating i s)) where
  module _ (x : Spotted) (g : r ≡ Ok x) where
    found : (y : Spot) × (n : ℕ) × (locating i s ≡ ok y n) × (x ≡ record { count = y.count; place = y.place; len = y.len })
    unfolding spotted
    found = go (locating i s) refl
      where
        go : (t : Res Spot) → locating i s ≡ t → (y : Spot) × (n : ℕ) × (locating i s ≡ ok y n) × (x ≡ record { count = y.count; place = y.place; len = y.len })
        go (ok y n) q =
            let w : Ok x ≡ spotted (ok y n) = sym g ∙ e ∙ ap spotted q in
            let v : x ≡ record { count = y.count; place = y.place; len = y.len } = cc in (y, n, q, v)
        go (bad c p) q =
            let w : Ok x ≡ spotted (bad c p) = sym g ∙ e ∙ ap spotted q in
            let z : ◌≡◌ {A = ℕ} 0 1 = cc in absurd (omega arith)

    narrow : (found.0.count < 2 ^ 32) × (found.0.place < 2 ^ 32) × (found.0.len < 2 ^ 32)
    narrow = subst Narrow found.2 (locating_narrow i s)

    pub count_fits : Fits w32 x.count
    count_fits = record { fits = omega (arith, narrow.0, ap (λ (v : Spotted). v.count) found.3) }

    pub place_fits : Fits w32 x.place
    place_fits = record { fits = omega (arith, narrow.1, ap (λ (v : Spotted). v.place) found.3) }

    pub len_fits : Fits w32 x.len
    len_fits = record { fits = omega (arith, narrow.2, ap (λ (v : Spotted). v.len) found.3) }

    pub at_is : At x.count x.place x.len ≡ located_of (locating i s)
    unfolding located_of
    at_is = ap (λ (v : Spotted). At v.count v.place v.len) found.3 ∙ ap located_of (sym found.2)

  module _ (x : Refusal) (g : r ≡ Err x) where
    lost : locating i s ≡ bad x.number x.place
    unfolding spotted
    lost = go (locating i s) refl
      where
        go : (t : Res Spot) → locating i s ≡ t → locating i s ≡ bad x.number x.place
        go (ok y n) q =
            let w : Err x ≡ spotted (ok y n) = sym g ∙ e ∙ ap spotted q in
            let z : ◌≡◌ {A = ℕ} 0 1 = cc in absurd (omega arith)
        go (bad c p) q =
            let w : Err x ≡ spotted (bad c p) = sym g ∙ e ∙ ap spotted q in
            let v : x ≡ record { number = c; place = p } = cc in q ∙ ap (λ (u : Refusal). bad u.number u.place) (sym v)

    few : (x.number < 2 ^ 32) × (x.place < 2 ^ 32)
    few = subst Narrow lost (locating_narrow i s)

    pub number_fits : Fits w32 x.number
    number_fits = record { fits = few.0 }

    pub refusal_fits : Fits w32 x.place
    refusal_fits = record { fits = few.1 }

    pub at_refused : Refused x.number x.place ≡ located_of (locating i s)
    unfolding located_of
    at_refused = ap located_of (sym lost)

-- ---- 22 last, and the three numbers

module _ (o : Located) (room : ℕ) where
  module _ (n : (c p : ℕ) → o ≡ Refused c p → ⊥) where
    pub near_few : room < 12 → Refused 22 12 ≡ located_within room o
    unfolding located_within
    near_few h = go o refl
      where
        go : (x : Located) → o ≡ x → Refused 22 12 ≡ located_within room x
        go (At n a l) e = rw (lt-leb 12 room h)
        go (Refused c p) e = absurd (n c p e)

    pub near_given : 12 ≤ room → o ≡ located_within room o
    unfolding located_within
    near_given h = go o refl
      where
        go : (x : Located) → o ≡ x → x ≡ located_within room x
        go (At n a l) e = rw (le-leb 12 room h)
        go (Refused c p) e = absurd (n c p e)

  pub near_refused : (c p : ℕ) → o ≡ Refused c p → o ≡ located_within room o
  unfolding located_within
  near_refused c p e = rw e

roomy_near : (o : Located) (room : ℕ) → RoomyAt (located_within room o) room
unfolding located_within RoomyAt
roomy_near (At n a l) room = go (leb 12 room) refl
  where
    go : (b : Bool) → leb 12 room ≡ b → RoomyAt (pick b (At n a l) (Refused 22 12)) room
    go true e = leb-true 12 room e
    go false e = tt
roomy_near (Refused c p) room = tt

three_is : (n a l : ℕ) → int_bytes (n ∷ a ∷ l ∷ []) ≡ three_bytes n a l
unfolding concat three_bytes
three_is n a l = simp (append_assoc, append-nil)

pub put_at : (r : Located) (lent x : List ℕ) (n a l : ℕ) → r ≡ At n a l → x ≡ int_bytes (n ∷ a ∷ l ∷ []) ++ drop 12 lent → x ≡ with_located r lent
unfolding with_located
put_at r lent x n a l e q = rw (e, ← three_is n a l) q

pub put_none : (r : Located) (lent : List ℕ) (c p : ℕ) → r ≡ Refused c p → lent ≡ with_located r lent
unfolding with_located
put_none r lent c p e = rw e

pub room_at : (r : Located) (room : ℕ) → RoomyAt r room → (n a l : ℕ) → r ≡ At n a l → 12 ≤ room
unfolding RoomyAt
room_at r room w n a l e = subst (λ (o : Located). RoomyAt o room) e w

module _ (s : List ℕ) (i : ℕ) (lent : List ℕ) (r : Located) (e : r ≡ located_within (length lent) (located_of (locating i s))) where
  pub roomy_at : RoomyAt r (length lent)
  roomy_at = subst (λ (o : Located). RoomyAt o (length lent)) (sym e) (roomy_near (located_of (locating i s)) (length lent))
