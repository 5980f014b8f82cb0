-- A proxy is exactly a byte string of the grammar of proxies: part by part, each by the law of its combinator.
--
--   takes_text, takes_bool, takes_proxy   of a string, a bool and a proxy
use Rattle.std.specs.Prelude.{◌≡◌, refl, List, [], ◌∷◌, ◌++◌, Bool, ℕ, zero, suc, ◌≤◌, length, eqb, ltb}
use Rattle.std.proofs.Common.{subst, append-nil, arith, length-append, ltb-true, ltb-false, lt-ltb, ne_eqb}
use Rattle.encoding.specs.Result.{pick, pure, must, mapc, times}
use Rattle.encoding.proofs.ResultLaws.{pick_ok, pick_true}
use Rattle.encoding.specs.Number.{byte, bool_form, bool, declared}
use Rattle.encoding.specs.Proxy.{identity_form, identity, facet_form, text, facets, mode_form, endpoint, endpoints, versions, reference, proxy}
use Rattle.encoding.specs.Grammar.{◌⨾◌, both, Repeats, none, more, AnyBytes, ByteBelow, IsSize, IsString, IsText, AreFacets, IsEncapsulation, encapsulation, AreEndpoints, adapter, some, IsReference, IsProxy, is_nil, is_full}
use Rattle.encoding.specs.Grammar
use Rattle.encoding.proofs.GrammarLaws.{Reads, Takes, reads_as, reads_must, reads_map, takes_map, reads_bind, takes_next, takes_then, takes_skip, takes_pure, takes_times, takes_below, reads_size, IntThen, after_int, reads_declared, reads_string}

pub takes_text : Takes text IsText
unfolding text
takes_text = reads_as (λ _ b w. Grammar.text w.1) (λ _ b w. back w) (takes_map reads_string)
  where
    back : {b : List ℕ} → IsText b → (t : List ℕ) × IsString t b
    back (Grammar.text {t} s) = (t, s)

pub takes_bool : Takes bool (ByteBelow 2)
unfolding bool bool_form
takes_bool = takes_below 2 7

takes_mode : Takes (mapc (λ _ _. tt) (must mode_form byte)) (ByteBelow 5)
unfolding mode_form
takes_mode = takes_below 5 9

takes_facets : Takes facets AreFacets
unfolding facets facet_form
takes_facets = reads_as (λ _ b w. onward w.0 w.1) (λ _ b w. back w) (reads_bind (reads_must facet_form reads_size) (λ n. takes_times n takes_text))
  where
    onward : (n : ℕ) {b : List ℕ} → ((λ b. (facet_form n ≡ 0) × IsSize n b) ⨾ Repeats IsText n) b → AreFacets b
    onward n (both (e, s) x) = Grammar.facets (ltb-true n 2 (pick_true (ltb n 2) 9 e)) s x

    back : {b : List ℕ} → AreFacets b → (n : ℕ) × ((λ b. (facet_form n ≡ 0) × IsSize n b) ⨾ Repeats IsText n) b
    back (Grammar.facets {n} l s x) = (n, both (rw (lt-ltb n 2 l), s) x)

-- ---- endpoints

takes_encapsulation : Takes (mapc (λ _ _. tt) (declared 6 4)) IsEncapsulation
takes_encapsulation = reads_as (λ _ b w. onward w.0 w.1) (λ _ b w. back w) (takes_map (reads_declared 6 4 (omega arith)))
  where
    onward : (d : List ℕ) {b : List ℕ} → IntThen 6 4 d b → IsEncapsulation b
    onward d (after_int l i) = encapsulation d (omega arith) i

    back : {b : List ℕ} → IsEncapsulation b → (d : List ℕ) × IntThen 6 4 d b
    back (encapsulation d l i) = (d, after_int (omega arith) i)

takes_endpoint : Takes endpoint (AnyBytes 2 ⨾ IsEncapsulation)
unfolding endpoint
takes_endpoint = takes_then (takes_skip 2) takes_encapsulation

abbrev Ends : ℕ → List ℕ → Type 0
Ends zero = IsText
Ends (suc n) = Repeats (AnyBytes 2 ⨾ IsEncapsulation) (suc n)

takes_ends : (n : ℕ) → Takes (pick (eqb n 0) text (times n endpoint)) (Ends n)
takes_ends zero = takes_text
takes_ends (suc n) = rw (ne_eqb (suc n) 0 (λ e. omega arith)) (takes_times (suc n) takes_endpoint)

takes_endpoints : Takes endpoints AreEndpoints
unfolding endpoints
takes_endpoints = reads_as (λ _ b w. onward w.0 w.1) (λ _ b w. back w) (reads_bind reads_size takes_ends)
  where
    onward : (n : ℕ) {b : List ℕ} → (IsSize n ⨾ Ends n) b → AreEndpoints b
    onward zero (both s x) = adapter s x
    onward (suc n) (both s x) = some s x

    back : {b : List ℕ} → AreEndpoints b → (n : ℕ) × (IsSize n ⨾ Ends n) b
    back (adapter s x) = (0, both s x)
    back (some {n} s x) = (suc n, both s x)

-- ---- all of a reference

-- the bytes of protocol and encoding
abbrev pub version_bytes : Bool → ℕ
version_bytes old = pick old 0 4

takes_versions : (old : Bool) → Takes (versions old) (AnyBytes (version_bytes old))
unfolding versions
takes_versions old = reads_as (λ _ b w. onward w) (λ _ b w. back (version_bytes old) b w) (takes_times (version_bytes old) (takes_skip 1))
  where
    onward : {n : ℕ} {b : List ℕ} → Repeats (AnyBytes 1) n b → length b ≡ n
    onward none = refl
    onward (more {a = a} {b = b} x y) = omega (arith, length-append a b, onward y)

    back : (n : ℕ) (b : List ℕ) → length b ≡ n → Repeats (AnyBytes 1) n b
    back zero [] e = none
    back zero (x ∷ b) e = absurd (omega arith)
    back (suc n) [] e = absurd (omega arith)
    back (suc n) (x ∷ b) e = more {a = x ∷ []} refl (back n b (omega arith))

takes_reference : (old : Bool) → Takes (reference old) (IsReference (version_bytes old))
unfolding reference
takes_reference old = takes_then takes_facets (takes_next (must mode_form byte) takes_mode (takes_then takes_bool (takes_then (takes_versions old) takes_endpoints)))

-- ---- all of a proxy

abbrev Category : ℕ → ℕ × ℕ → List ℕ → Type 0
Category n l b = (c : List ℕ) × (l ≡ (n, length c)) × IsString c b

abbrev Identity : ℕ × ℕ → List ℕ → Type 0
Identity l b = (identity_form l ≡ 0) × ((n : List ℕ) × (IsString n ⨾ Category (length n) l) b)

abbrev Rest : ℕ → ℕ → List ℕ → Type 0
Rest k zero = AnyBytes 0
Rest k (suc n) = IsReference k

takes_rest : (old : Bool) (n : ℕ) → Takes (pick (eqb n 0) (pure tt) (reference old)) (Rest (version_bytes old) n)
takes_rest old zero = takes_pure
takes_rest old (suc n) = rw (ne_eqb (suc n) 0 (λ e. omega arith)) (takes_reference old)

reads_identity : Reads identity Identity
unfolding identity
reads_identity = reads_must identity_form (reads_bind reads_string (λ n. reads_map (λ c. (length n, length c)) reads_string))

pub takes_proxy : (old : Bool) → Takes (proxy old) (IsProxy (version_bytes old))
unfolding proxy identity_form
takes_proxy old = reads_as (λ _ b w. onward w.0 w.1) (λ _ b w. back w) (reads_bind reads_identity (λ (l : ℕ × ℕ). takes_rest old l.0))
  where
    k : ℕ
    k = version_bytes old

    whole : (n c : List ℕ) {u v : List ℕ} (b : List ℕ) → identity_form (length n, length c) ≡ 0 → IsString n u → IsString c v → Rest k (length n) b → IsProxy k (u ++ v ++ b)
    whole [] [] {u} {v} [] f sn sc w = rw append-nil (is_nil sn sc)
    whole [] [] (x ∷ b) f sn sc w = let z : suc (length b) ≡ 0 = w in absurd (omega arith)
    whole [] (x ∷ c) b f sn sc w = absurd (omega (arith, ltb-false 0 (suc (length c)) (pick_ok (ltb 0 (suc (length c))) 9 f)))
    whole (x ∷ n) c b f sn sc w = is_full {name = x ∷ n} (omega arith) sn sc w

    named : {l : ℕ × ℕ} (n : List ℕ) {a : List ℕ} (b : List ℕ) → identity_form l ≡ 0 → (IsString n ⨾ Category (length n) l) a → Rest k l.0 b → IsProxy k (a ++ b)
    named n b f (both sn (c, e, sc)) w =
        whole n c b (subst (λ (l : ℕ × ℕ). identity_form l ≡ 0) e f) sn sc (subst (λ (l : ℕ × ℕ). Rest k l.0 b) e w)

    onward : (l : ℕ × ℕ) {b : List ℕ} → (Identity l ⨾ Rest k l.0) b → IsProxy k b
    onward l (both {b = b} i w) = named i.1.0 b i.0 i.1.1 w

    identified : {n c u v : List ℕ} → identity_form (length n, length c) ≡ 0 → IsString n u → IsString c v → Identity (length n, length c) (u ++ v)
    identified {n} {c} f sn sc = (f, (n, both sn (c, refl, sc)))

    full : (n c : List ℕ) {u v b : List ℕ} → 1 ≤ length n → IsString n u → IsString c v → IsReference k b → (Identity (length n, length c) ⨾ Rest k (length n)) (u ++ v ++ b)
    full [] c l sn sc w = absurd (omega arith)
    full (x ∷ n) c l sn sc w = both (identified (rw (ne_eqb (suc (length n)) 0 (λ e. omega arith))) sn sc) w

    back : {b : List ℕ} → IsProxy k b → (l : ℕ × ℕ) × (Identity l ⨾ Rest k l.0) b
    back (is_nil {a} {b} sn sc) = ((0, 0), subst (Identity (0, 0) ⨾ AnyBytes 0) (append-nil (a ++ b)) (both (identified refl sn sc) refl))
    back (is_full {name} {category} l sn sc w) = ((length name, length category), full name category l sn sc w)
