-- The cases of an address's fields, by the bytes at the head or by the answers of the readers that they call. Assumes nothing.
--
--   port_.., timeout_.., flag_..     one field, by its bytes
--   settings_.., tail_.., address_..  one reader after another
--   versioned_.., enclosed_..        the version before the fields; the encapsulation around them
use mathlib.Core.Path.{◌≡◌, refl, sym, ap, ap₂, ◌∙◌}
use mathlib.Core.List.{List}
use Prim.Native.Nat.{ℕ, ◌+◌, ◌-◌, ◌^◌, ◌≤◌, ◌<◌}
use native.Mathlib.Omega.{arith}
use lib.ListN.{length, take, drop, length-drop}
use lib.Seq.{length-take-le}
use borrow.Author.Tests.{le-leb, lt-leb, lt-ltb, le-ltb, eq-eqb, ne_eqb}
use mir.Syntax.{w64}
use mir.Val.{Fits}
use Rattle.encoding.specs.Result.{Res, ok, bad, Parser, shift, after, ◌>>=◌, pure, chunk, judged, must, made, mapc, leave, enter, inside}
use Rattle.encoding.proofs.ResultLaws.{Bound, Held, bind_ok, chunk_ok, item_ok, must_ok, held_took, held_refused}
use Rattle.encoding.specs.Number.{val, number, byte, bool_form, length_form, string, declared}
use Rattle.encoding.proofs.NumberLaws.{held_string, held_declared}
use Rattle.encoding.specs.Table.{at}
use Rattle.std.specs.Prelude.{Result, Ok, Err}
use Rattle.wire.specs.declared.Refusal.{Refusal}
use Rattle.wire.specs.declared.Counted.{Counted}
use Rattle.wire.specs.Steps.{step_of, sized_of, bytes_of, refused, counted, behind}
use Rattle.wire.specs.StepLaws.{rest_is, step_took, step_fault, sized_is, sized_isnt, bytes_is, bytes_isnt, sized_held}
use Rattle.endpoint.specs.declared.fields.Fields.{Fields}
use Rattle.endpoint.specs.Endpoint.{endpoint_version, Address, timed, no_port, port_form, port, timeout, flag, address, versioned}
use Rattle.endpoint.proofs.RefusalLaws.{held_port, held_timeout, held_flag, held_settings, held_tail, held_address, held_versioned}
use Rattle.endpoint.specs.Parts.{settings, tail, Four, fields, fields_of, fields_later, FieldsFit, settings_fields, tail_fields, address_fields}

-- ---- one field

module _ (s : List ℕ) where
  pub port_cut : length s < 4 → refused 4 0 ≡ sized_of (port s)
  unfolding port must judged number chunk sized_of
  port_cut h = rw (lt-leb 4 (length s) h)

  module _ (h : 4 ≤ length s) (p : ℕ) (e : p ≡ at s 4 0) where
    pub port_zero : p ≡ 0 → refused 27 0 ≡ sized_of (port s)
    unfolding port must judged number chunk port_form no_port sized_of at
    port_zero z = rw (le-leb 4 (length s) h, ← e, z)

    pub port_high : (p ≡ 0 → ⊥) → 65535 < p → refused 27 0 ≡ sized_of (port s)
    unfolding port must judged number chunk port_form no_port sized_of at
    port_high z l = rw (le-leb 4 (length s) h, ← e, ne_eqb p 0 z, lt-ltb 65535 p l)

    pub port_is : (p ≡ 0 → ⊥) → p ≤ 65535 → counted p 4 ≡ sized_of (port s)
    unfolding port must judged number chunk port_form no_port sized_of at
    port_is z l = rw (le-leb 4 (length s) h, ← e, ne_eqb p 0 z, le-ltb 65535 p l)

  module _ (k : ℕ) where
    pub timeout_none : k ≡ 3 → counted 0 0 ≡ sized_of (timeout k s)
    unfolding timeout timed pure sized_of
    timeout_none z = rw z

    module _ (z : k ≡ 3 → ⊥) where
      pub timeout_cut : length s < 4 → refused 4 0 ≡ sized_of (timeout k s)
      unfolding timeout timed number chunk sized_of
      timeout_cut h = rw (ne_eqb k 3 z, lt-leb 4 (length s) h)

      pub timeout_is : 4 ≤ length s → (t : ℕ) → t ≡ at s 4 0 → counted t 4 ≡ sized_of (timeout k s)
      unfolding timeout timed number chunk sized_of at
      timeout_is h t e = rw (ne_eqb k 3 z, le-leb 4 (length s) h, ← e)

  pub flag_cut : length s < 1 → refused 4 0 ≡ sized_of (flag s)
  unfolding flag must judged byte number chunk sized_of
  flag_cut h = rw (lt-leb 1 (length s) h)

  module _ (h : 1 ≤ length s) (c : ℕ) (e : c ≡ at s 1 0) where
    pub flag_high : 2 ≤ c → refused 8 0 ≡ sized_of (flag s)
    unfolding flag must judged byte number chunk bool_form sized_of at
    flag_high l = rw (le-leb 1 (length s) h, ← e, le-ltb c 2 l)

    pub flag_is : c < 2 → counted c 1 ≡ sized_of (flag s)
    unfolding flag must judged byte number chunk bool_form sized_of at
    flag_is l = rw (le-leb 1 (length s) h, ← e, lt-ltb c 2 l)

-- ---- what an answer says of the result

module _ {A : Type 0} (g : A → Four) (r : Res A) where
  -- and what the fields are
  pub fields_are : (f : Fields) → Ok f ≡ fields_of g r → (a : A) × (r ≡ ok a f.bytes) × (f ≡ fields (g a) f.bytes)
  unfolding fields_of
  fields_are f e = go r e
    where
      go : (r : Res A) → Ok f ≡ fields_of g r → (a : A) × (r ≡ ok a f.bytes) × (f ≡ fields (g a) f.bytes)
      go (ok a n) e = let q : f ≡ fields (g a) n = cc in (a, rw q refl, rw q refl)
      go (bad c p) e = let z : ◌≡◌ {A = ℕ} 0 1 = cc in absurd (omega arith)

  pub fields_arent : (x : Refusal) → Err x ≡ fields_of g r → r ≡ bad x.number x.place
  unfolding fields_of
  fields_arent x e = go r e
    where
      go : (r : Res A) → Err x ≡ fields_of g r → r ≡ bad x.number x.place
      go (ok a n) e = let z : ◌≡◌ {A = ℕ} 0 1 = cc in absurd (omega arith)
      go (bad c p) e = let q : x ≡ record { number = c; place = p } = cc in rw q refl

  -- moved past n bytes
  later_of : (n : ℕ) → fields_later n (fields_of g r) ≡ fields_of g (shift n r)
  unfolding fields_of shift
  later_of n = go r
    where
      go : (r : Res A) → fields_later n (fields_of g r) ≡ fields_of g (shift n r)
      go (ok a m) = refl
      go (bad c p) = refl

made_fields : {A B : Type 0} (g : B → Four) (f : A → B) (n : ℕ) (r : Res A) → fields_of g (shift n (made (λ a _. f a) r)) ≡ fields_of (λ a. g (f a)) (shift n r)
unfolding fields_of made shift
made_fields g f n (ok a m) = refl
made_fields g f n (bad c p) = refl

end_is : (a : Address) (n : ℕ) (x : Fields) → Ok x ≡ address_fields (ok a n) → x.bytes ≡ n
unfolding fields_of
end_is a n x e = let q : x ≡ fields (length a.host, a.port, a.timeout, a.compress) n = cc in rw q refl

-- sums of places, in an answer about the rest
module _ {A : Type 0} (g : A → Four) (p : Parser A) (P : Held p) (s : List ℕ) (n : ℕ) (f : Result Fields Refusal) (d : f ≡ fields_of g (p (drop n s))) where
  fields_fit : n ≤ length s → length s < 2 ^ 64 → FieldsFit n f
  fields_fit h l = go f refl
    where
      go : (t : Result Fields Refusal) → f ≡ t → FieldsFit n t
      go (Ok x) q = omega (arith, held_took p P (drop n s) (fields_are g (p (drop n s)) x (sym q ∙ d)).1, length-drop n s)
      go (Err x) q = omega (arith, held_refused p P (drop n s) (fields_arent g (p (drop n s)) x (sym q ∙ d)), length-drop n s)

-- sums of places
pub sum_fits : (s : List ℕ) (n m : ℕ) → n ≤ length s → m ≤ length (drop n s) → length s < 2 ^ 64 → Fits w64 (n + m)
sum_fits s n m h l b = record { fits = omega (arith, length-drop n s) }

-- ---- timeout, then compress

module _ (s : List ℕ) (k n p : ℕ) (z : Result Counted Refusal) (e : z ≡ sized_of (timeout k s)) where
  pub timeout_end : (t : Counted) → z ≡ Ok t → t.bytes ≤ length s
  timeout_end t q = sized_held (timeout k) (held_timeout k) s z e t q

  pub settings_none : (x : Refusal) → z ≡ Err x → Err x ≡ settings_fields n p (settings k s)
  unfolding settings ◌>>=◌ after fields_of
  settings_none x h = rw (sized_isnt (timeout k s) x (sym h ∙ e))

  module _ (t : Counted) (h : z ≡ Ok t) (y : Result Counted Refusal) (d : y ≡ sized_of (flag (take (length s - t.bytes) (drop t.bytes s)))) where
    after_timeout : settings k s ≡ shift t.bytes (made (λ c _. (t.number, c)) (flag (drop t.bytes s)))
    unfolding settings ◌>>=◌ after mapc
    after_timeout = rw (sized_is (timeout k s) t (sym h ∙ e))

    flag_rest : y ≡ sized_of (flag (drop t.bytes s))
    flag_rest = rw rest_is at d

    pub settings_fit : (c : Counted) → y ≡ Ok c → length s < 2 ^ 64 → Fits w64 (t.bytes + c.bytes)
    settings_fit c g b = sum_fits s t.bytes c.bytes (timeout_end t h) (sized_held flag held_flag (drop t.bytes s) y flag_rest c g) b

    pub settings_bad_fit : (x : Refusal) → y ≡ Err x → length s < 2 ^ 64 → t.bytes + x.place < 2 ^ 64
    settings_bad_fit x g b =
        omega (arith, timeout_end t h, held_refused flag held_flag (drop t.bytes s) (sized_isnt (flag (drop t.bytes s)) x (sym g ∙ flag_rest)), length-drop t.bytes s)

    pub settings_are : (c : Counted) → y ≡ Ok c → Ok (fields (n, p, t.number, c.number) (t.bytes + c.bytes)) ≡ settings_fields n p (settings k s)
    unfolding shift made fields_of
    settings_are c g = rw (after_timeout, sized_is (flag (drop t.bytes s)) c (sym g ∙ flag_rest))

    pub settings_bad : (x : Refusal) → y ≡ Err x → Err (behind t.bytes x) ≡ settings_fields n p (settings k s)
    unfolding shift made fields_of
    settings_bad x g = rw (after_timeout, sized_isnt (flag (drop t.bytes s)) x (sym g ∙ flag_rest))

-- ---- port, then those

module _ (s : List ℕ) (k n : ℕ) (z : Result Counted Refusal) (e : z ≡ sized_of (port s)) where
  pub port_end : (p : Counted) → z ≡ Ok p → p.bytes ≤ length s
  port_end p q = sized_held port held_port s z e p q

  pub tail_none : (x : Refusal) → z ≡ Err x → Err x ≡ tail_fields n (tail k s)
  unfolding tail ◌>>=◌ after fields_of
  tail_none x h = rw (sized_isnt (port s) x (sym h ∙ e))

  module _ (p : Counted) (h : z ≡ Ok p) (f : Result Fields Refusal) (d : f ≡ settings_fields n p.number (settings k (take (length s - p.bytes) (drop p.bytes s)))) where
    after_port_lem : tail_fields n (tail k s) ≡ settings_fields n p.number (shift p.bytes (settings k (drop p.bytes s)))
    unfolding tail ◌>>=◌ after mapc
    after_port_lem = rw (sized_is (port s) p (sym h ∙ e)) (made_fields _ (λ x. (p.number, x)) p.bytes (settings k (drop p.bytes s)))

    settings_rest : f ≡ settings_fields n p.number (settings k (drop p.bytes s))
    settings_rest = rw rest_is at d

    pub tail_fit : length s < 2 ^ 64 → FieldsFit p.bytes f
    tail_fit l = fields_fit _ (settings k) (held_settings k) s p.bytes f settings_rest (port_end p h) l

    pub tail_are : fields_later p.bytes f ≡ tail_fields n (tail k s)
    tail_are = ap (fields_later p.bytes) settings_rest ∙ later_of _ (settings k (drop p.bytes s)) p.bytes ∙ sym after_port_lem

-- ---- the host, then those

-- what follows the host h
abbrev follows : ℕ → List ℕ → Parser Address
follows k h = port >>= λ p. timeout k >>= λ t. mapc (λ c _. record { kind = k; host = h; port = p; timeout = t; compress = c }) flag

abbrev hosted : ℕ → List ℕ → ℕ × (ℕ × ℕ) → Address
hosted k h t = record { kind = k; host = h; port = t.0; timeout = t.1.0; compress = t.1.1 }

-- the same by parts
follows_is : (k : ℕ) (h s : List ℕ) → follows k h s ≡ made (λ t _. hosted k h t) (tail k s)
unfolding tail settings ◌>>=◌ after mapc made shift
follows_is k h s = go (port s)
  where
    go₃ : (p t m n : ℕ) (r : Res ℕ) → shift m (shift n (made (λ c _. record { kind = k; host = h; port = p; timeout = t; compress = c }) r)) ≡ made (λ t _. hosted k h t) (shift m (made (λ s _. (p, s)) (shift n (made (λ c _. (t, c)) r))))
    go₃ p t m n (ok c j) = refl
    go₃ p t m n (bad c q) = refl

    go₂ : (p m : ℕ) (u : List ℕ) (r : Res ℕ)
        → shift m (after r (λ t. mapc (λ c _. record { kind = k; host = h; port = p; timeout = t; compress = c }) flag) u)
        ≡ made (λ t _. hosted k h t) (shift m (made (λ s _. (p, s)) (after r (λ t. mapc (λ c _. (t, c)) flag) u)))
    go₂ p m u (ok t n) = go₃ p t m n (flag (drop n u))
    go₂ p m u (bad c q) = refl

    go : (r : Res ℕ) → after r (λ p. timeout k >>= λ t. mapc (λ c _. record { kind = k; host = h; port = p; timeout = t; compress = c }) flag) s
        ≡ made (λ t _. hosted k h t) (after r (λ p. mapc (λ s _. (p, s)) (timeout k >>= λ t. mapc (λ c _. (t, c)) flag)) s)
    go (ok p m) = go₂ p m (drop m s) (timeout k (drop m s))
    go (bad c q) = refl

module _ (s : List ℕ) (k : ℕ) (z : Result Counted Refusal) (e : z ≡ bytes_of (string s)) where
  pub host_end : (n : Counted) → z ≡ Ok n → n.bytes ≤ length s
  host_end n q = held_took string held_string s (bytes_is (string s) n (sym q ∙ e)).1

  pub address_none : (x : Refusal) → z ≡ Err x → Err x ≡ address_fields (address k s)
  unfolding address ◌>>=◌ after fields_of
  address_none x h = rw (bytes_isnt (string s) x (sym h ∙ e))

  module _ (n : Counted) (h : z ≡ Ok n) (f : Result Fields Refusal) (d : f ≡ tail_fields n.number (tail k (take (length s - n.bytes) (drop n.bytes s)))) where
    after_host_lem : address_fields (address k s) ≡ tail_fields n.number (shift n.bytes (tail k (drop n.bytes s)))
    unfolding address ◌>>=◌ after
    after_host_lem = go (bytes_is (string s) n (sym h ∙ e))
      where
        go : (b : List ℕ) × (string s ≡ ok b n.bytes) × (n.number ≡ length b) → address_fields (address k s) ≡ tail_fields n.number (shift n.bytes (tail k (drop n.bytes s)))
        go x = rw (x.1, x.2) (ap (λ (r : Res Address). address_fields (shift n.bytes r)) (follows_is k x.0 (drop n.bytes s)) ∙ made_fields _ (hosted k x.0) n.bytes (tail k (drop n.bytes s)))

    tail_rest : f ≡ tail_fields n.number (tail k (drop n.bytes s))
    tail_rest = rw rest_is at d

    pub address_fit : length s < 2 ^ 64 → FieldsFit n.bytes f
    address_fit l = fields_fit _ (tail k) (held_tail k) s n.bytes f tail_rest (host_end n h) l

    pub address_are : fields_later n.bytes f ≡ address_fields (address k s)
    address_are = ap (fields_later n.bytes) tail_rest ∙ later_of _ (tail k (drop n.bytes s)) n.bytes ∙ sym after_host_lem

-- ---- the version, then the address

module _ (s : List ℕ) (k : ℕ) where
  pub versioned_cut : length s < 2 → refused 4 0 ≡ address_fields (versioned k s)
  unfolding versioned must judged number chunk ◌>>=◌ after fields_of
  versioned_cut h = rw (lt-leb 2 (length s) h)

  module _ (h : 2 ≤ length s) (v : ℕ) (e : v ≡ at s 2 0) where
    pub versioned_other : (v ≡ 257 → ⊥) → refused 6 0 ≡ address_fields (versioned k s)
    unfolding versioned must judged number chunk endpoint_version ◌>>=◌ after fields_of at
    versioned_other n = rw (le-leb 2 (length s) h, ← e, ne_eqb v 257 n)

    module _ (q : v ≡ 257) (f : Result Fields Refusal) (d : f ≡ address_fields (address k (take (length s - 2) (drop 2 s)))) where
      versioned_is : versioned k s ≡ shift 2 (address k (drop 2 s))
      unfolding versioned must judged number chunk endpoint_version ◌>>=◌ after at
      versioned_is = rw (le-leb 2 (length s) h, ← e, q)

      address_rest : f ≡ address_fields (address k (drop 2 s))
      address_rest = rw rest_is at d

      pub versioned_are : fields_later 2 f ≡ address_fields (versioned k s)
      versioned_are = rw versioned_is (ap (fields_later 2) address_rest ∙ later_of _ (address k (drop 2 s)) 2)

-- whatever the version
pub versioned_fit : (s : List ℕ) (k : ℕ) → 2 ≤ length s → (f : Result Fields Refusal) → f ≡ address_fields (address k (take (length s - 2) (drop 2 s))) → length s < 2 ^ 64 → FieldsFit 2 f
versioned_fit s k h f d l = fields_fit _ (address k) (held_address k) s 2 f (rw rest_is at d) h l

-- ---- the encapsulation around them

-- the bytes declared follow the int
declared_part : (s d : List ℕ) (n : ℕ) → declared 6 4 s ≡ ok d n → (4 ≤ n) × (d ≡ take (n - 4) (drop 4 s))
unfolding declared number
declared_part s d n h = go (bind_ok (must (length_form 6) (number 4)) (λ n. chunk (n - 4) (λ b. b)) s (item_ok (must (length_form 6) (number 4) >>= λ n. chunk (n - 4) (λ b. b)) s h))
  where
    go : Bound (must (length_form 6) (number 4)) (λ n. chunk (n - 4) (λ b. b)) s d n → (4 ≤ n) × (d ≡ take (n - 4) (drop 4 s))
    go B =
        let N = chunk_ok 4 val s (must_ok (chunk 4 val) s (length_form 6) B.first).0 in
        let C = chunk_ok (B.fst - 4) (λ b. b) (drop B.n s) B.next in
        let w : n - 4 ≡ B.fst - 4 = omega (arith, B.sum, N.2, C.2) in
        (omega (arith, B.sum, N.2), C.1 ∙ ap₂ (λ (i j : ℕ). take i (drop j s)) (sym w) N.2)

module _ (s : List ℕ) (k : ℕ) (r : Result ℕ Refusal) (e : r ≡ step_of (declared 6 4 s)) where
  pub enclosed_none : (x : Refusal) → r ≡ Err x → Err x ≡ address_fields (inside (declared 6 4) (versioned k) s)
  unfolding inside enter fields_of
  enclosed_none x h = rw (step_fault (declared 6 4 s) x (sym h ∙ e))

  module _ (n : ℕ) (h : r ≡ Ok n) where
    pub enclosed_end : n ≤ length s
    enclosed_end = held_took (declared 6 4) (held_declared 6 4) s (step_took (declared 6 4 s) n (sym h ∙ e)).1

    pub enclosed_start : 4 ≤ n
    enclosed_start = let D = step_took (declared 6 4 s) n (sym h ∙ e) in (declared_part s D.0 n D.1).0

    part_is : declared 6 4 s ≡ ok (take (n - 4) (drop 4 s)) n
    part_is = let D = step_took (declared 6 4 s) n (sym h ∙ e) in D.1 ∙ ap (λ (d : List ℕ). ok d n) (declared_part s D.0 n D.1).1

    part_length : length (take (n - 4) (drop 4 s)) ≡ n - 4
    part_length = length-take-le (n - 4) (drop 4 s) (omega (arith, length-drop 4 s, enclosed_end))

    module _ (f : Result Fields Refusal) (d : f ≡ address_fields (versioned k (take (n - 4) (drop 4 s)))) where
      pub enclosed_fit : length s < 2 ^ 64 → FieldsFit 4 f
      enclosed_fit l = go f refl
        where
          go : (t : Result Fields Refusal) → f ≡ t → FieldsFit 4 t
          go (Ok x) q =
              omega (arith, held_took (versioned k) (held_versioned k) (take (n - 4) (drop 4 s)) (fields_are _ (versioned k (take (n - 4) (drop 4 s))) x (sym q ∙ d)).1, part_length, enclosed_end, enclosed_start)
          go (Err x) q =
              omega (arith, held_refused (versioned k) (held_versioned k) (take (n - 4) (drop 4 s)) (fields_arent _ (versioned k (take (n - 4) (drop 4 s))) x (sym q ∙ d)), part_length, enclosed_end, enclosed_start)

      module _ (x : Fields) (g : fields_later 4 f ≡ Ok x) where
        -- the fields within, moved past the int
        within_is : (a : Address) × (m : ℕ) × (versioned k (take (n - 4) (drop 4 s)) ≡ ok a m) × (Ok x ≡ address_fields (ok a (4 + m)))
        unfolding fields_of
        within_is = go (versioned k (take (n - 4) (drop 4 s))) refl
          where
            go : (t : Res Address) → versioned k (take (n - 4) (drop 4 s)) ≡ t → (a : Address) × (m : ℕ) × (versioned k (take (n - 4) (drop 4 s)) ≡ ok a m) × (Ok x ≡ address_fields (ok a (4 + m)))
            go (ok a m) q = (a, m, q, sym g ∙ ap (fields_later 4) (d ∙ ap address_fields q))
            go (bad c p) q =
                let w : refused c (4 + p) ≡ Ok x = ap (fields_later 4) (sym (d ∙ ap address_fields q)) ∙ g in
                let z : ◌≡◌ {A = ℕ} 0 1 = cc in absurd (omega arith)

        pub enclosed_are : x.bytes ≡ n → Ok x ≡ address_fields (inside (declared 6 4) (versioned k) s)
        unfolding inside enter leave fields_of
        enclosed_are z = go within_is
          where
            go : (w : (a : Address) × (m : ℕ) × (versioned k (take (n - 4) (drop 4 s)) ≡ ok a m) × (Ok x ≡ address_fields (ok a (4 + m)))) → Ok x ≡ address_fields (inside (declared 6 4) (versioned k) s)
            go w =
                let b : x.bytes ≡ 4 + w.1 = end_is w.0 (4 + w.1) x w.3 in
                let l : w.1 ≡ length (take (n - 4) (drop 4 s)) = omega (arith, part_length, b, z) in
                let t : 4 + w.1 ≡ n = omega (arith, b, z) in
                rw (part_is, w.2, eq-eqb w.1 (length (take (n - 4) (drop 4 s))) l) (w.3 ∙ ap (λ (i : ℕ). address_fields (ok w.0 i)) t)

        pub enclosed_left : (x.bytes ≡ n → ⊥) → refused 11 0 ≡ address_fields (inside (declared 6 4) (versioned k) s)
        unfolding inside enter leave fields_of
        enclosed_left z = go within_is
          where
            go : (w : (a : Address) × (m : ℕ) × (versioned k (take (n - 4) (drop 4 s)) ≡ ok a m) × (Ok x ≡ address_fields (ok a (4 + m)))) → refused 11 0 ≡ address_fields (inside (declared 6 4) (versioned k) s)
            go w =
                let b : x.bytes ≡ 4 + w.1 = end_is w.0 (4 + w.1) x w.3 in
                rw (part_is, w.2, ne_eqb w.1 (length (take (n - 4) (drop 4 s))) (λ q. z (omega (arith, part_length, b, q, enclosed_start))))

      pub enclosed_bad : (x : Refusal) → fields_later 4 f ≡ Err x → Err x ≡ address_fields (inside (declared 6 4) (versioned k) s)
      unfolding inside enter leave fields_of
      enclosed_bad x g = go (versioned k (take (n - 4) (drop 4 s))) refl
        where
          go : (t : Res Address) → versioned k (take (n - 4) (drop 4 s)) ≡ t → Err x ≡ address_fields (inside (declared 6 4) (versioned k) s)
          go (ok a m) q =
              let w : Ok (fields (length a.host, a.port, a.timeout, a.compress) (4 + m)) ≡ Err x = ap (fields_later 4) (sym (d ∙ ap address_fields q)) ∙ g in
              let z : ◌≡◌ {A = ℕ} 0 1 = cc in absurd (omega arith)
          go (bad c p) q =
              let w : refused c (4 + p) ≡ Err x = ap (fields_later 4) (sym (d ∙ ap address_fields q)) ∙ g in
              rw (part_is, q) (sym w ∙ ap (λ (i : ℕ). refused c (i + p)) (omega (arith, part_length, enclosed_start)))
