-- The cases of a proxy's parts, by the answers of the readers that they call. Assumes nothing.
--
--   identity_is, _less, _nil, _none, _bad   an identity, by its two strings; name_end, category_took, _bad: they lie within the input
--   facets_many, _end, _took, _bad, _none   facets, by their number
--   endpoint_cut, _took, _bad               an endpoint
--   addresses_text, _list                   an adapter; endpoints
--   endpoints_took, _bad, _none             their number, then the endpoints
--   addressed_.., secured_.., mode_..       versions and the endpoints; secure before them; the mode before that
--   reference_took, _bad, _none             facets, then the mode and the rest
--   proxy_nil, _took, _bad, _none           the identity, then the reference; identity_end the identity within the input
--   held_facets .. held_mode                what these take, and where they refuse, lies within the input
use mathlib.Core.Path.{◌≡◌, refl, sym, ap, ◌∙◌}
use mathlib.Core.Bool.{Bool, true, false}
use mathlib.Core.List.{List, [], ◌∷◌}
use Prim.Native.Nat.{ℕ, zero, suc, ◌+◌, ◌-◌, ◌^◌, ◌≤◌, ◌<◌}
use native.Mathlib.Omega.{arith}
use native.Mathlib.Nat.{add-zero}
use lib.ListN.{length, take, drop, length-drop}
use lib.Dec.{eqb}
use borrow.Author.Tests.{le-leb, lt-leb, lt-ltb, le-ltb, ne_eqb}
use mir.Syntax.{w64}
use mir.Val.{Fits}
use Rattle.encoding.specs.Result.{Res, ok, bad, Parser, pick, shift, after, ◌>>=◌, pure, chunk, skip, judged, must, made, mapc, times}
use Rattle.encoding.proofs.ResultLaws.{Held, held_took, held_refused, held_bind, held_mapc, held_must, held_skip, held_times, held_pick}
use Rattle.encoding.specs.Number.{number, byte, bool_form, bool, size, declared, string}
use Rattle.encoding.proofs.NumberLaws.{held_byte, held_bool, held_size, held_string}
use Rattle.encoding.specs.Table.{at}
use Rattle.encoding.proofs.ValueLaws.{held_text, held_identity, held_endpoint}
use Rattle.encoding.specs.Proxy.{identity_form, identity, facet_form, text, facets, mode_form, endpoint, endpoints, versions, reference, proxy}
use Rattle.std.specs.Prelude.{Result, Ok, Err}
use Rattle.wire.specs.declared.Counted.{Counted}
use Rattle.wire.specs.declared.Refusal.{Refusal}
use Rattle.wire.specs.Steps.{step_of, sized_of, bytes_of, refused, counted, behind, later}
use Rattle.wire.specs.StepLaws.{rest_is, sized_is, sized_isnt, bytes_is, bytes_isnt, sized_held, rest_later, then_none, then_later, with_none, with_later, with_ends}
use Rattle.proxy.specs.Parts.{named, addresses, addressed, secured, mode}

-- ---- an identity

held_named : Held named
unfolding named
held_named = held_mapc _ held_identity (λ (l : ℕ × ℕ) _. l.0)

-- an identity by what its two strings hold
module _ (s b d : List ℕ) (k j : ℕ) (e : string s ≡ ok b k) where
  two_is : string (drop k s) ≡ ok d j → named s ≡ made (λ (l : ℕ × ℕ) _. l.0) (judged identity_form (ok (length b, length d) (k + j)))
  unfolding named mapc made identity must ◌>>=◌ after shift
  two_is g = rw (e, g)

  two_bad : (f p : ℕ) → string (drop k s) ≡ bad f p → named s ≡ bad f (k + p)
  unfolding named mapc made identity must judged ◌>>=◌ after shift
  two_bad f p g = rw (e, g)

one_bad : (s : List ℕ) (f p : ℕ) → string s ≡ bad f p → named s ≡ bad f p
unfolding named mapc made identity must judged ◌>>=◌ after
one_bad s f p e = rw e

module _ (n c k : ℕ) where
  form_named : 0 < n → made (λ (l : ℕ × ℕ) _. l.0) (judged identity_form (ok (n, c) k)) ≡ ok n k
  unfolding made judged identity_form
  form_named h = rw (ne_eqb n 0 (λ e. omega arith))

  form_less : n ≤ 0 → 0 < c → made (λ (l : ℕ × ℕ) _. l.0) (judged identity_form (ok (n, c) k)) ≡ bad 10 0
  unfolding made judged identity_form
  form_less h l = let z : n ≡ 0 = omega arith in rw (z, lt-ltb 0 c l)

  form_nil : n ≤ 0 → c ≤ 0 → made (λ (l : ℕ × ℕ) _. l.0) (judged identity_form (ok (n, c) k)) ≡ ok n k
  unfolding made judged identity_form
  form_nil h l = let z : n ≡ 0 = omega arith in rw (z, le-ltb 0 c l)

module _ (s : List ℕ) (r : Result Counted Refusal) (e : r ≡ bytes_of (string s)) where
  pub name_end : (x : Counted) → r ≡ Ok x → x.bytes ≤ length s
  name_end x q = held_took string held_string s (bytes_is (string s) x (sym q ∙ e)).1

  pub identity_none : (x : Refusal) → r ≡ Err x → Err x ≡ sized_of (named s)
  unfolding sized_of
  identity_none x q = ap sized_of (sym (one_bad s x.number x.place (bytes_isnt (string s) x (sym q ∙ e))))

  module _ (x : Counted) (q : r ≡ Ok x) (y : Result Counted Refusal) (d : y ≡ bytes_of (string (take (length s - x.bytes) (drop x.bytes s)))) where
    rest : y ≡ bytes_of (string (drop x.bytes s))
    rest = rw rest_is at d

    pub category_took : (z : Counted) → y ≡ Ok z → length s < 2 ^ 64 → Fits w64 (x.bytes + z.bytes)
    category_took z g b = record { fits = omega (arith, name_end x q, held_took string held_string (drop x.bytes s) (bytes_is (string (drop x.bytes s)) z (sym g ∙ rest)).1, length-drop x.bytes s) }

    pub category_bad : (z : Refusal) → y ≡ Err z → length s < 2 ^ 64 → x.bytes + z.place < 2 ^ 64
    category_bad z g b =
        omega (arith, name_end x q, held_refused string held_string (drop x.bytes s) (bytes_isnt (string (drop x.bytes s)) z (sym g ∙ rest)), length-drop x.bytes s)

    pub identity_bad : (z : Refusal) → y ≡ Err z → Err (behind x.bytes z) ≡ sized_of (named s)
    unfolding sized_of
    identity_bad z g = go (bytes_is (string s) x (sym q ∙ e))
      where
        go : (b : List ℕ) × (string s ≡ ok b x.bytes) × (x.number ≡ length b) → Err (behind x.bytes z) ≡ sized_of (named s)
        go w = ap sized_of (sym (two_bad s w.0 [] x.bytes 0 w.1 z.number z.place (bytes_isnt (string (drop x.bytes s)) z (sym g ∙ rest))))

    module _ (z : Counted) (g : y ≡ Ok z) where
      both_is : named s ≡ made (λ (l : ℕ × ℕ) _. l.0) (judged identity_form (ok (x.number, z.number) (x.bytes + z.bytes)))
      both_is = go (bytes_is (string s) x (sym q ∙ e)) (bytes_is (string (drop x.bytes s)) z (sym g ∙ rest))
        where
          go : (a : List ℕ) × (string s ≡ ok a x.bytes) × (x.number ≡ length a) → (b : List ℕ) × (string (drop x.bytes s) ≡ ok b z.bytes) × (z.number ≡ length b)
              → named s ≡ made (λ (l : ℕ × ℕ) _. l.0) (judged identity_form (ok (x.number, z.number) (x.bytes + z.bytes)))
          go v w = rw (v.2, w.2) (two_is s v.0 w.0 x.bytes z.bytes v.1 w.1)

      pub identity_is : (x.number ≡ 0 → ⊥) → counted x.number (x.bytes + z.bytes) ≡ sized_of (named s)
      unfolding sized_of
      identity_is h = ap sized_of (sym (both_is ∙ form_named x.number z.number (x.bytes + z.bytes) (omega (arith, h))))

      pub identity_less : x.number ≡ 0 → 0 < z.number → refused 10 0 ≡ sized_of (named s)
      unfolding sized_of
      identity_less h l = ap sized_of (sym (both_is ∙ form_less x.number z.number (x.bytes + z.bytes) (omega arith) l))

      pub identity_nil : x.number ≡ 0 → z.number ≤ 0 → counted x.number (x.bytes + z.bytes) ≡ sized_of (named s)
      unfolding sized_of
      identity_nil h l = ap sized_of (sym (both_is ∙ form_nil x.number z.number (x.bytes + z.bytes) (omega arith) l))

-- ---- facets

once : (p : Parser (Unit {0})) (s : List ℕ) → times 1 p s ≡ p s
unfolding times ◌>>=◌ after shift pure
once p s = go (p s)
  where
    go : (r : Res (Unit {0})) → after r (λ _. pure tt) s ≡ r
    go (ok tt n) = ap (ok tt) (add-zero n)
    go (bad c q) = refl

pub held_facets : Held facets
unfolding facets
held_facets = held_bind _ _ (held_must _ held_size facet_form) (λ n. held_times n text held_text)

module _ (s : List ℕ) (r : Result Counted Refusal) (e : r ≡ sized_of (size s)) where
  pub facets_none : (x : Refusal) → r ≡ Err x → Err x ≡ step_of (facets s)
  unfolding facets must judged ◌>>=◌ after step_of
  facets_none x q = rw (sized_isnt (size s) x (sym q ∙ e))

  module _ (x : Counted) (q : r ≡ Ok x) where
    pub facets_many : 2 ≤ x.number → refused 10 0 ≡ step_of (facets s)
    unfolding facets must judged facet_form ◌>>=◌ after step_of
    facets_many h = rw (sized_is (size s) x (sym q ∙ e), le-ltb x.number 2 h)

    -- as many as there may be
    few : x.number < 2 → facets s ≡ shift x.bytes (times x.number text (drop x.bytes s))
    unfolding facets must judged facet_form ◌>>=◌ after
    few h = rw (sized_is (size s) x (sym q ∙ e), lt-ltb x.number 2 h)

    pub facets_end : x.number ≡ 0 → Ok x.bytes ≡ step_of (facets s)
    unfolding times pure shift step_of
    facets_end z = let h : x.number < 2 = omega arith in rw (few h, z, add-zero)

    one : x.number < 2 → (x.number ≡ 0 → ⊥) → facets s ≡ shift x.bytes (text (drop x.bytes s))
    one h z = let l : x.number ≡ 1 = omega (arith, z) in few h ∙ ap (shift x.bytes) (rw l (once text (drop x.bytes s)))

    pub facets_one : (t : Result ℕ Refusal) → t ≡ step_of (text (take (length s - x.bytes) (drop x.bytes s))) → x.number < 2 → (x.number ≡ 0 → ⊥)
        → later x.bytes t ≡ step_of (facets s)
    facets_one t d h z = rw (one h z) (rest_later text s x.bytes t d)

-- ---- endpoints

pub endpoint_cut : (s : List ℕ) → length s < 2 → refused 4 0 ≡ step_of (endpoint s)
unfolding endpoint skip chunk ◌>>=◌ after step_of
endpoint_cut s h = rw (lt-leb 2 (length s) h)

moved_made : {A B : Type 0} (n : ℕ) (g : A → ℕ → B) (r : Res A) → step_of (shift n (made g r)) ≡ step_of (shift n r)
unfolding made shift step_of
moved_made n g (ok a m) = refl
moved_made n g (bad c p) = refl

endpoint_is : (s : List ℕ) → 2 ≤ length s → step_of (endpoint s) ≡ step_of (shift 2 (declared 6 4 (drop 2 s)))
unfolding endpoint skip chunk ◌>>=◌ after mapc
endpoint_is s h = rw (le-leb 2 (length s) h) (moved_made 2 (λ _ _. tt) (declared 6 4 (drop 2 s)))

pub endpoint_rest : (s : List ℕ) → 2 ≤ length s → (r : Result ℕ Refusal) → r ≡ step_of (declared 6 4 (take (length s - 2) (drop 2 s)))
    → later 2 r ≡ step_of (endpoint s)
endpoint_rest s h r e = rest_later (declared 6 4) s 2 r e ∙ sym (endpoint_is s h)

pub held_addresses : (n : ℕ) → Held (addresses n)
unfolding addresses
held_addresses n = held_pick (eqb n 0) text (times n endpoint) held_text (held_times n endpoint held_endpoint)

pub held_endpoints : Held endpoints
unfolding endpoints addresses
held_endpoints = held_bind _ _ held_size held_addresses

module _ (s : List ℕ) (n : ℕ) (r : Result ℕ Refusal) where
  pub addresses_text : n ≡ 0 → r ≡ step_of (text s) → r ≡ step_of (addresses n s)
  unfolding addresses
  addresses_text z e = rw z e

  pub addresses_list : (n ≡ 0 → ⊥) → r ≡ step_of (times n endpoint s) → r ≡ step_of (addresses n s)
  unfolding addresses
  addresses_list z e = rw (ne_eqb n 0 z) e

module _ (s : List ℕ) (r : Result Counted Refusal) (e : r ≡ sized_of (size s)) where
  pub endpoints_none : (x : Refusal) → r ≡ Err x → Err x ≡ step_of (endpoints s)
  unfolding endpoints addresses
  endpoints_none x q = with_none size addresses s r e x q

  pub endpoints_rest : (x : Counted) → r ≡ Ok x → (t : Result ℕ Refusal) → t ≡ step_of (addresses x.number (take (length s - x.bytes) (drop x.bytes s)))
      → later x.bytes t ≡ step_of (endpoints s)
  unfolding endpoints addresses
  endpoints_rest x q t d = with_later size addresses s r e x q t d

-- ---- mode, secure, versions; then the endpoints

-- one byte each
each_whole : (n : ℕ) (s : List ℕ) → n ≤ length s → times n (skip 1) s ≡ ok tt n
unfolding times pure skip chunk ◌>>=◌ after shift
each_whole zero s h = refl
each_whole (suc n) [] h = absurd (omega arith)
each_whole (suc n) (x ∷ s) h = rw (le-leb 1 (length (x ∷ s)) (omega arith), each_whole n s (omega arith)) (ap (ok tt) (omega arith))

each_cut : (n : ℕ) (s : List ℕ) → length s < n → times n (skip 1) s ≡ bad 4 (length s)
unfolding times skip chunk ◌>>=◌ after shift
each_cut zero s h = absurd (omega arith)
each_cut (suc n) [] h = refl
each_cut (suc n) (x ∷ s) h = rw (le-leb 1 (length (x ∷ s)) (omega arith), each_cut n s (omega arith)) (ap (bad 4) (omega arith))

pub held_addressed : (old : Bool) → Held (addressed old)
unfolding addressed versions
held_addressed old = held_bind _ _ (held_times (pick old 0 4) (skip 1) (held_skip 1)) λ _. held_endpoints

pub held_secured : (old : Bool) → Held (secured old)
unfolding secured
held_secured old = held_bind _ _ held_bool λ _. held_addressed old

pub held_mode : (old : Bool) → Held (mode old)
unfolding mode
held_mode old = held_bind _ _ (held_must _ held_byte mode_form) λ _. held_secured old

module _ (old : Bool) (s : List ℕ) where
  pub addressed_old : old ≡ true → (r : Result ℕ Refusal) → r ≡ step_of (endpoints s) → r ≡ step_of (addressed old s)
  unfolding addressed versions times pure ◌>>=◌ after shift
  addressed_old h r e = rw h (e ∙ ap step_of (sym (shift_none (endpoints s))))
    where
      shift_none : (x : Res (Unit {0})) → shift 0 x ≡ x
      shift_none (ok u n) = ap (ok u) (omega arith)
      shift_none (bad c p) = ap (bad c) (omega arith)

  module _ (o : old ≡ false) where
    pub addressed_short : length s < 4 → refused 4 (length s) ≡ step_of (addressed old s)
    unfolding addressed versions ◌>>=◌ after step_of
    addressed_short h = rw (o, each_cut 4 s h)

    module _ (h : 4 ≤ length s) where
      addressed_is : addressed old s ≡ shift 4 (endpoints (drop 4 s))
      unfolding addressed versions ◌>>=◌ after
      addressed_is = rw (o, each_whole 4 s h)

      pub addressed_rest : (t : Result ℕ Refusal) → t ≡ step_of (endpoints (take (length s - 4) (drop 4 s))) → later 4 t ≡ step_of (addressed old s)
      addressed_rest t i = rw addressed_is (rest_later endpoints s 4 t i)

  pub secured_none : length s < 1 → refused 4 0 ≡ step_of (secured old s)
  unfolding secured bool mapc made must judged byte number chunk ◌>>=◌ after step_of
  secured_none h = rw (lt-leb 1 (length s) h)

  module _ (b : ℕ) (e : b ≡ at s 1 0) (h : 1 ≤ length s) where
    pub secured_high : 2 ≤ b → refused 8 0 ≡ step_of (secured old s)
    unfolding secured bool mapc made must judged byte number chunk bool_form ◌>>=◌ after step_of at
    secured_high l = rw (le-leb 1 (length s) h, ← e, le-ltb b 2 l)

    secured_is : b < 2 → secured old s ≡ shift 1 (addressed old (drop 1 s))
    unfolding secured bool mapc made must judged byte number chunk bool_form ◌>>=◌ after at
    secured_is l = rw (le-leb 1 (length s) h, ← e, lt-ltb b 2 l)

    pub secured_rest : (l : b < 2) → (t : Result ℕ Refusal) → t ≡ step_of (addressed old (take (length s - 1) (drop 1 s))) → later 1 t ≡ step_of (secured old s)
    secured_rest l t i = rw (secured_is l) (rest_later (addressed old) s 1 t i)

  pub mode_none : length s < 1 → refused 4 0 ≡ step_of (mode old s)
  unfolding mode must judged byte number chunk ◌>>=◌ after step_of
  mode_none h = rw (lt-leb 1 (length s) h)

  module _ (b : ℕ) (e : b ≡ at s 1 0) (h : 1 ≤ length s) where
    pub mode_high : 5 ≤ b → refused 10 0 ≡ step_of (mode old s)
    unfolding mode must judged byte number chunk mode_form ◌>>=◌ after step_of at
    mode_high l = rw (le-leb 1 (length s) h, ← e, le-ltb b 5 l)

    mode_is : b < 5 → mode old s ≡ shift 1 (secured old (drop 1 s))
    unfolding mode must judged byte number chunk mode_form ◌>>=◌ after at
    mode_is l = rw (le-leb 1 (length s) h, ← e, lt-ltb b 5 l)

    pub mode_rest : (l : b < 5) → (t : Result ℕ Refusal) → t ≡ step_of (secured old (take (length s - 1) (drop 1 s))) → later 1 t ≡ step_of (mode old s)
    mode_rest l t i = rw (mode_is l) (rest_later (secured old) s 1 t i)

-- ---- facets, then the mode and the rest

module _ (old : Bool) (s : List ℕ) (r : Result ℕ Refusal) (e : r ≡ step_of (facets s)) where
  pub reference_none : (x : Refusal) → r ≡ Err x → Err x ≡ step_of (reference old s)
  unfolding reference mode secured addressed
  reference_none x q = then_none facets (mode old) s r e x q

  pub reference_rest : (n : ℕ) → r ≡ Ok n → (t : Result ℕ Refusal) → t ≡ step_of (mode old (take (length s - n) (drop n s)))
      → later n t ≡ step_of (reference old s)
  unfolding reference mode secured addressed
  reference_rest n q t d = then_later facets (mode old) s r e n q t d

-- ---- the identity, then the reference

-- what follows an identity, by the length of its name
unfoldable follows : Bool → ℕ → Parser (Unit {0})
follows old n = pick (eqb n 0) (pure tt) (reference old)

proxy_is : (old : Bool) (s : List ℕ) → proxy old s ≡ (named >>= follows old) s
unfolding proxy named mapc made ◌>>=◌ after follows
proxy_is old s = go (identity s)
  where
    go : (r : Res (ℕ × ℕ)) → after r (λ (l : ℕ × ℕ). follows old l.0) s ≡ after (made (λ (l : ℕ × ℕ) _. l.0) r) (follows old) s
    go (ok l n) = refl
    go (bad c p) = refl

follows_is : (old : Bool) (n : ℕ) → (n ≡ 0 → ⊥) → follows old n ≡ reference old
unfolding follows
follows_is old n z = rw (ne_eqb n 0 z)

pub identity_end : (s : List ℕ) (r : Result Counted Refusal) → r ≡ sized_of (named s) → (x : Counted) → r ≡ Ok x → x.bytes ≤ length s
identity_end s r e x q = sized_held named held_named s r e x q

module _ (old : Bool) (s : List ℕ) (r : Result Counted Refusal) (e : r ≡ sized_of (named s)) where
  pub proxy_none : (x : Refusal) → r ≡ Err x → Err x ≡ step_of (proxy old s)
  proxy_none x q = rw proxy_is (with_none named (follows old) s r e x q)

  module _ (x : Counted) (q : r ≡ Ok x) where
    pub proxy_nil : x.number ≡ 0 → Ok x.bytes ≡ step_of (proxy old s)
    unfolding follows pure
    proxy_nil z = rw proxy_is (with_ends named (follows old) s r e x q tt (rw z))

    pub proxy_rest : (x.number ≡ 0 → ⊥) → (t : Result ℕ Refusal) → t ≡ step_of (reference old (take (length s - x.bytes) (drop x.bytes s)))
        → later x.bytes t ≡ step_of (proxy old s)
    proxy_rest z t d = rw proxy_is (with_later named (follows old) s r e x q t (rw (follows_is old x.number z) d))
