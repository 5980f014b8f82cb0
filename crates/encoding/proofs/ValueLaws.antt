-- The laws of values, proxies included: the frame; what they take and where they refuse lies within the input.
--
--   closed_value                 a value of any type has every property that all ways of joining readers keep; closed_values of values one after another
--   framed_value, held_value     the frame; bytes taken and places of refusals
--   held_text .. held_reference  of the parts of a proxy
--   width_some, eats_value       an enumerator of 1.0 has a byte at least; a value that is not fixed_size takes at least one
--   exact_ok, exact_step         what it is to be exactly one value of a type
use Rattle.std.specs.Prelude.{◌≡◌, Bool, true, false, ◌&&◌, List, eqb, leb}
use Rattle.std.proofs.Math.Path.{refl}
use Rattle.std.proofs.Common.{ap, ◌∙◌, true≢false, arith, eqb-true, eq-eqb}
use Rattle.std.proofs.lemmas.Bool.{false≢true}
use Rattle.std.proofs.Math.Option.{Option}
use Prim.Native.Nat.{ℕ, ◌≤◌}
use Rattle.std.proofs.Math.ListN.{length}
use Rattle.std.proofs.Math.Dec.{ltb}
use Rattle.encoding.specs.Result.{Res, ok, bad, Parser, pick, ◌>>=◌, skip}
use Rattle.encoding.proofs.ResultLaws.{Closed, by_pick, by_skip, by_times, framed, held, pick_judges, Framed, Held, Eats, eats_fail, eats_first, eats_next, eats_mapc, eats_must}
use Rattle.encoding.specs.Number.{size, number}
use Rattle.encoding.proofs.NumberLaws.{closed_number, closed_byte, closed_bool, closed_size, closed_declared, closed_string, eats_number, eats_size, eats_string, eats_bool}
use Rattle.encoding.specs.Proxy.{identity_form, identity, facet_form, text, facets, mode_form, endpoint, endpoints, versions, reference}
use Rattle.encoding.specs.Proxy
use Rattle.encoding.specs.Types.{allows, most, width, Ty, Tys, nil, cons, broken, bool, byte, string, proxy, old_proxy, num, enum, old_enum, struct, seq, dict, fixed, fixeds}
use Rattle.encoding.specs.Value.{enum_form, enum_width, value, values, whole, exact}

-- ---- properties that all ways of joining readers keep

module _ {old : Bool} {P : (A : Type 0) → Parser A → Type 0} {Stops : (List ℕ → Option ℕ) → Type 0} (C : Closed old P Stops) where
  pub closed_text : P (Unit {0}) text
  unfolding text
  closed_text = C.by_mapc _ (closed_string C) (λ _ _. tt)

  pub closed_identity : P (ℕ × ℕ) identity
  unfolding identity identity_form
  closed_identity =
      C.by_must _ (C.by_bind _ _ (closed_string C) (λ n. C.by_mapc _ (closed_string C) (λ c _. (length n, length c)))) identity_form
      (λ l. pick_judges old (eqb l.0 0 && ltb 0 l.1) 10 0 refl refl)

  pub closed_endpoint : P (Unit {0}) endpoint
  unfolding endpoint
  closed_endpoint = C.by_bind _ _ (by_skip C 2) (λ _. C.by_mapc _ (closed_declared C 6 4) (λ _ _. tt))

  pub closed_reference : (k : Bool) → P (Unit {0}) (reference k)
  unfolding reference facets facet_form mode_form versions endpoints
  closed_reference k =
      C.by_bind _ _ (C.by_bind _ _ (C.by_must _ (closed_size C) facet_form (λ n. pick_judges old (ltb n 2) 0 10 refl refl)) (λ n. by_times C n text closed_text)) λ _.
      C.by_bind _ _ (C.by_must _ (closed_byte C) mode_form (λ n. pick_judges old (ltb n 5) 0 10 refl refl)) λ _.
      C.by_bind _ _ (closed_bool C) λ _.
      C.by_bind _ _ (by_times C (pick k 0 4) (skip 1) (by_skip C 1)) λ _.
      C.by_bind _ _ (closed_size C) (λ n. by_pick C (eqb n 0) _ _ closed_text (by_times C n endpoint closed_endpoint))

  pub closed_proxy : (k : Bool) → P (Unit {0}) (Proxy.proxy k)
  unfolding Proxy.proxy
  closed_proxy k = C.by_bind _ _ closed_identity (λ (l : ℕ × ℕ). by_pick C (eqb l.0 0) _ _ (C.by_pure tt) (closed_reference k))

  mutual
    unfolding value values enum_form

    pub closed_value : (t : Ty) → P (Unit {0}) (value t)
    closed_value broken = C.by_fail (Unit {0}) 4 refl
    closed_value bool = closed_bool C
    closed_value byte = by_skip C 1
    closed_value string = closed_text
    closed_value proxy = closed_proxy false
    closed_value old_proxy = closed_proxy true
    closed_value (num w) = by_skip C (width w)
    closed_value (enum g) = C.by_mapc _ (C.by_must _ (closed_size C) (enum_form g) (λ n. pick_judges old (allows g n) 0 9 refl refl)) (λ _ _. tt)
    closed_value (old_enum g) =
        C.by_mapc _ (C.by_must _ (closed_number C (enum_width (most g))) (enum_form g) (λ n. pick_judges old (allows g n) 0 9 refl refl)) (λ _ _. tt)
    closed_value (struct ts) = closed_values ts
    closed_value (seq t) = C.by_bind _ _ (closed_size C) (λ n. by_times C n (value t) (closed_value t))
    closed_value (dict k v) = C.by_bind _ _ (closed_size C) (λ n. by_times C n _ (C.by_bind _ _ (closed_value k) (λ _. closed_value v)))

    pub closed_values : (ts : Tys) → P (Unit {0}) (values ts)
    closed_values nil = C.by_pure tt
    closed_values (cons t ts) = C.by_bind _ _ (closed_value t) (λ _. closed_values ts)

pub framed_value : (t : Ty) → Framed (value t)
framed_value = closed_value (framed false)

pub held_value : (t : Ty) → Held (value t)
held_value = closed_value (held false)

pub held_text : Held text
held_text = closed_text (held false)

pub held_identity : Held identity
held_identity = closed_identity (held false)

pub held_endpoint : Held endpoint
held_endpoint = closed_endpoint (held false)

pub held_reference : (old : Bool) → Held (reference old)
held_reference = closed_reference (held false)

-- ---- a value that is not fixed_size takes a byte

eats_text : Eats text
unfolding text
eats_text = eats_mapc (λ _ _. tt) _ eats_string

pub eats_proxy : (old : Bool) → Eats (Proxy.proxy old)
unfolding Proxy.proxy identity
eats_proxy old = eats_first _ _ (eats_must identity_form _ (eats_first _ _ eats_string))

-- an enumerator of 1.0 has a byte at least
pub width_some : (g : ℕ) → 1 ≤ enum_width g
unfolding enum_width
width_some g = go (leb g 126) (leb g 32766)
  where
    go : (a b : Bool) → 1 ≤ pick a 1 (pick b 2 4)
    go true b = omega arith
    go false true = omega arith
    go false false = omega arith

mutual
  unfolding value values fixed fixeds

  pub eats_value : (t : Ty) → fixed t ≡ false → Eats (value t)
  eats_value broken f = eats_fail 4
  eats_value bool f = eats_bool
  eats_value byte f = absurd (true≢false f)
  eats_value string f = eats_text
  eats_value proxy f = eats_proxy false
  eats_value old_proxy f = eats_proxy true
  eats_value (num w) f = absurd (true≢false f)
  eats_value (enum g) f = eats_mapc (λ _ _. tt) _ (eats_must (enum_form g) size eats_size)
  eats_value (old_enum g) f = eats_mapc (λ _ _. tt) _ (eats_must (enum_form g) (number (enum_width (most g))) (eats_number (enum_width (most g)) (width_some (most g))))
  eats_value (struct ts) f = eats_values ts f
  eats_value (seq t) f = eats_first size _ eats_size
  eats_value (dict k v) f = eats_first size _ eats_size

  eats_values : (ts : Tys) → fixeds ts ≡ false → Eats (values ts)
  eats_values nil f = absurd (true≢false f)
  eats_values (cons t ts) f = go (fixed t) refl f (λ g. eats_value t g) (λ g. eats_values ts g)
    where
      go : (b : Bool) → fixed t ≡ b → b && fixeds ts ≡ false → (fixed t ≡ false → Eats (value t)) → (fixeds ts ≡ false → Eats (values ts)) → Eats (value t >>= λ _. values ts)
      go true e f one rest = eats_next (value t) (λ _. values ts) (λ _. rest f)
      go false e f one rest = eats_first (value t) (λ _. values ts) (one e)

-- ---- exactly one value

pub exact_ok : (t : Ty) (b : List ℕ) → exact t b ≡ true → value t b ≡ ok tt (length b)
unfolding exact whole
exact_ok t b h = go (value t b) refl h
  where
    go : (r : Res (Unit {0})) → value t b ≡ r → whole (length b) r ≡ true → value t b ≡ ok tt (length b)
    go (ok tt n) e h = e ∙ ap (ok tt) (eqb-true n (length b) h)
    go (bad c p) e h = absurd (false≢true h)

pub exact_step : (t : Ty) (b : List ℕ) → value t b ≡ ok tt (length b) → exact t b ≡ true
unfolding exact whole
exact_step t b h = rw (h, eq-eqb (length b) (length b) refl)
