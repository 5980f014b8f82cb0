-- Every refusal of opening is one of those that M-106 lists, within the bytes: each way of joining readers keeps this. Assumes nothing.
--
--   ended_more, ended_done   bytes left, or none, after what was read
--   held_..        what the readers take, and where they refuse, lies within the input
--   Refuses Q p    each refusal number of p has the property Q; refuses_..: each way of joining readers keeps this
--   open_within    both of opening
use Rattle.std.specs.Prelude.{◌≡◌, refl, Bool, List, [], ◌∷◌, length, take, drop, eqb, leb, ltb}
use Rattle.std.proofs.Common.{sym, subst, arith, ne_eqb}
use Rattle.std.proofs.Math.Bool.{true, false}
use Prim.Native.Nat.{ℕ, zero, suc, ◌≤◌, ◌<◌}
use Rattle.encoding.specs.Result.{Res, ok, bad, Parser, pick, shift, after, ◌>>=◌, pure, chunk, skip, at_first, item, judged, must, made, mapc, leave, enter, inside, first_of}
use Rattle.encoding.proofs.ResultLaws.{Lies, Held, held_bind, held_pure, held_pick, held_chunk, held_must, held_mapc, held_inside}
use Rattle.encoding.specs.Utf8.{is_utf8}
use Rattle.encoding.specs.Number.{negative, number, byte, bool_form, size_form, size_tail, size, length_form, Content, string, declared}
use Rattle.encoding.proofs.NumberLaws.{held_byte, held_string, held_declared, ends_declared}
use Rattle.encoding.specs.Proxy.{endpoint}
use Rattle.encoding.specs.Message.{ended, limit, refused_first}
use Rattle.endpoint.specs.Endpoint.{endpoint_version, Endpoint, opened, unopened, opens, timed, no_port, port_form, port, timeout, flag, address, versioned, encapsulated, typed, open_endpoint}
use Rattle.endpoint.specs.Parts.{settings, tail}
use Rattle.endpoint.specs.EndpointDemands.{OpenNumber, too_long_lem, cut, version, size as size_number, bool, left_over, behind, text, port as port-number, OpenWithin}

-- ---- within the input

held_number : (k : ℕ) → Held (number k)
unfolding number
held_number k = held_chunk k _

pub held_port : Held port
unfolding port
held_port = held_must _ (held_number 4) port_form

pub held_timeout : (k : ℕ) → Held (timeout k)
unfolding timeout
held_timeout k = held_pick (timed k) (number 4) (pure 0) (held_number 4) (held_pure 0)

pub held_flag : Held flag
unfolding flag
held_flag = held_must _ held_byte bool_form

pub held_settings : (k : ℕ) → Held (settings k)
unfolding settings
held_settings k = held_bind _ _ (held_timeout k) λ t. held_mapc flag held_flag (λ c _. (t, c))

pub held_tail : (k : ℕ) → Held (tail k)
unfolding tail
held_tail k = held_bind _ _ held_port λ p. held_mapc (settings k) (held_settings k) (λ s _. (p, s))

pub held_address : (k : ℕ) → Held (address k)
unfolding address
held_address k =
    held_bind _ _ held_string λ h. held_bind _ _ held_port λ p. held_bind _ _ (held_timeout k) λ t.
    held_mapc flag held_flag (λ c _. record { kind = k; host = h; port = p; timeout = t; compress = c })

pub held_versioned : (k : ℕ) → Held (versioned k)
unfolding versioned
held_versioned k = held_bind _ _ (held_must _ (held_number 2) endpoint_version) λ _. held_address k

pub held_enclosed : (k : ℕ) → Held (inside (declared 6 4) (versioned k))
held_enclosed k = held_inside (declared 6 4) (versioned k) (held_declared 6 4) (ends_declared 6 4) (held_versioned k)

held_encapsulated : (k : ℕ) → Held (encapsulated k)
unfolding encapsulated
held_encapsulated k =
    held_pick (opens k) (mapc (λ e _. opened e) (inside (declared 6 4) (versioned k))) (mapc (λ _ _. unopened k) (declared 6 4))
    (held_mapc (inside (declared 6 4) (versioned k)) (held_enclosed k) (λ e _. opened e)) (held_mapc (declared 6 4) (held_declared 6 4) (λ _ _. unopened k))

pub held_ended : {A : Type 0} (a : A) → Held (ended a)
unfolding ended
held_ended a [] = omega arith
held_ended a (x ∷ xs) = omega arith

held_typed : Held typed
unfolding typed
held_typed = held_bind _ _ (held_bind _ _ (held_number 2) held_encapsulated) held_ended

-- ---- nothing after it

pub ended_more : {A : Type 0} (a : A) (n : ℕ) (s : List ℕ) → n < length s → ended a (drop n s) ≡ bad 18 0
unfolding ended
ended_more a n [] h = absurd (omega arith)
ended_more a zero (x ∷ s) h = refl
ended_more a (suc n) (x ∷ s) h = ended_more a n s (omega arith)

pub ended_done : {A : Type 0} (a : A) (n : ℕ) (s : List ℕ) → length s ≤ n → ended a (drop n s) ≡ ok a 0
unfolding ended
ended_done a zero [] h = refl
ended_done a (suc n) [] h = refl
ended_done a zero (x ∷ s) h = absurd (omega arith)
ended_done a (suc n) (x ∷ s) h = ended_done a n s (omega arith)

-- ---- the numbers

-- each refusal number has the property Q; 4 and 11 must have it, since joined readers refuse by them
module _ (Q : ℕ → Type 0) where
  -- the property of a result: none of an answer, Q of a refusal's number
  abbrev pub Told : {A : Type 0} → Res A → Type 0
  Told (ok a n) = Unit {0}
  Told (bad c p) = Q c

  abbrev pub Refuses : {A : Type 0} → Parser A → Type 0
  Refuses p = (xs : List ℕ) → Told (p xs)

  -- 0, or a number with the property
  abbrev pub Judged : ℕ → Type 0
  Judged zero = Unit {0}
  Judged (suc n) = Q (suc n)

  pub told_bad : {A : Type 0} (p : Parser A) → Refuses p → (xs : List ℕ) {c q : ℕ} → p xs ≡ bad c q → Q c
  told_bad {A} p P xs h = subst (λ (r : Res A). Told r) h (P xs)

  told_shift : {A : Type 0} (n : ℕ) (r : Res A) → Told r → Told (shift n r)
  unfolding shift
  told_shift n (ok a m) h = tt
  told_shift n (bad c p) h = h

  pub refuses_bind : {A B : Type 0} (p : Parser A) (f : A → Parser B) → Refuses p → ((a : A) → Refuses (f a)) → Refuses (p >>= f)
  unfolding ◌>>=◌ after
  refuses_bind {A} p f P F xs = go (p xs) (P xs)
    where
      go : (r : Res A) → Told r → Told (after r f xs)
      go (ok a n) h = told_shift n (f a (drop n xs)) (F a (drop n xs))
      go (bad c q) h = h

  pub refuses_pure : {A : Type 0} (a : A) → Refuses (pure a)
  unfolding pure
  refuses_pure a xs = tt

  pub refuses_pick : {A : Type 0} (b : Bool) (p q : Parser A) → Refuses p → Refuses q → Refuses (pick b p q)
  refuses_pick true p q P Q = P
  refuses_pick false p q P Q = Q

  pub pick_judges : (b : Bool) (n m : ℕ) → Judged n → Judged m → Judged (pick b n m)
  pick_judges true n m h k = h
  pick_judges false n m h k = k

  module _ {A : Type 0} (p : Parser A) (P : Refuses p) where
    pub refuses_item : Refuses (item p)
    unfolding item at_first
    refuses_item xs = go (p xs) (P xs)
      where
        go : (r : Res A) → Told r → Told (at_first r)
        go (ok a n) h = tt
        go (bad c q) h = h

    pub refuses_must : (f : A → ℕ) → ((a : A) → Judged (f a)) → Refuses (must f p)
    unfolding must judged
    refuses_must f judges xs = go (p xs) (P xs)
      where
        go₂ : (a : A) (n c : ℕ) → Judged c → Told (pick (eqb c 0) (ok a n) (bad c 0))
        go₂ a n zero h = tt
        go₂ a n (suc c) h = rw (ne_eqb (suc c) 0 (λ e. omega arith)) h

        go : (r : Res A) → Told r → Told (judged f r)
        go (ok a n) h = go₂ a n (f a) (judges a)
        go (bad c q) h = h

    pub refuses_mapc : {B : Type 0} (f : A → ℕ → B) → Refuses (mapc f p)
    unfolding mapc made
    refuses_mapc {B} f xs = go (p xs) (P xs)
      where
        go : (r : Res A) → Told r → Told (made f r)
        go (ok a n) h = tt
        go (bad c q) h = h

  module _ (four : Q 4) where
    pub refuses_chunk : {A : Type 0} (k : ℕ) (f : List ℕ → A) → Refuses (chunk k f)
    unfolding chunk
    refuses_chunk k f xs = go (leb k (length xs))
      where
        go : (t : Bool) → Told (pick t (ok (f (take k xs)) k) (bad 4 0))
        go true = tt
        go false = four

    pub refuses_number : (k : ℕ) → Refuses (number k)
    unfolding number
    refuses_number k = refuses_chunk k _

    pub refuses_bool : Q 8 → Refuses (must bool_form byte)
    unfolding byte bool_form
    refuses_bool eight = refuses_must (number 1) (refuses_number 1) bool_form (λ b. pick_judges (ltb b 2) 0 8 tt eight)

    module _ (seven : Q 7) where
      size_judges : (n : ℕ) → Judged (size_form n)
      unfolding size_form first_of
      size_judges n = pick_judges (ltb n 255) 7 (pick (negative 4 n) 7 0) seven (pick_judges (negative 4 n) 7 0 seven tt)

      pub refuses_size : Refuses size
      unfolding size byte size_tail
      refuses_size =
          refuses_item _ (refuses_bind _ _ (refuses_number 1) λ b. refuses_pick (ltb b 255) (pure b) (must size_form (number 4)) (refuses_pure b) (refuses_must _ (refuses_number 4) size_form size_judges))

      module _ (text : Q 24) where
        content_judges : (b : List ℕ) → Judged (Content b)
        unfolding Content
        content_judges b = pick_judges (is_utf8 b) 0 24 tt text

        pub refuses_string : Refuses string
        unfolding string
        refuses_string = refuses_must _ (refuses_item _ (refuses_bind _ _ refuses_size λ n. refuses_chunk n (λ b. b))) Content content_judges

    module _ (eleven : Q 11) where
      length_judges : (least n : ℕ) → Judged (length_form least n)
      unfolding length_form first_of
      length_judges least n = pick_judges (ltb n least) 11 (pick (negative 4 n) 11 0) eleven (pick_judges (negative 4 n) 11 0 eleven tt)

      pub refuses_declared : Refuses (declared 6 4)
      unfolding declared
      refuses_declared = refuses_item _ (refuses_bind _ _ (refuses_must _ (refuses_number 4) (length_form 6) (length_judges 6)) λ n. refuses_chunk _ (λ b. b))

      pub refuses_inside : {B : Type 0} (q : Parser B) → Refuses q → Refuses (inside (declared 6 4) q)
      unfolding inside enter leave
      refuses_inside {B} q R xs = go (declared 6 4 xs) (refuses_declared xs)
        where
          go₃ : (b : B) (n : ℕ) (t : Bool) → Told (pick t (ok b n) (bad 11 0))
          go₃ b n true = tt
          go₃ b n false = eleven

          go₂ : (l n : ℕ) (r : Res B) → Told r → Told (leave l n r)
          go₂ l n (ok b m) h = go₃ b n (eqb m l)
          go₂ l n (bad c m) h = h

          go : (r : Res (List ℕ)) → Told r → Told (enter q r)
          go (ok d n) h = go₂ (length d) n (q d) (R d)
          go (bad c m) h = h

      -- one endpoint as the proxy reader takes it
      pub refuses_endpoint : Refuses endpoint
      unfolding endpoint skip
      refuses_endpoint = refuses_bind _ _ (refuses_chunk 2 (λ _. tt)) λ _. refuses_mapc (declared 6 4) refuses_declared (λ _ _. tt)

-- ---- of opening

port_judges : (p : ℕ) → Judged OpenNumber (port_form p)
unfolding port_form
port_judges p = pick_judges OpenNumber (no_port p) 27 0 port-number tt

version_judges : (v : ℕ) → Judged OpenNumber (endpoint_version v)
unfolding endpoint_version
version_judges v = pick_judges OpenNumber (eqb v 257) 0 6 tt version

refuses_address : (k : ℕ) → Refuses OpenNumber (address k)
unfolding address port timeout flag
refuses_address k =
    refuses_bind OpenNumber _ _ (refuses_string OpenNumber cut size_number text) λ h.
    refuses_bind OpenNumber _ _ (refuses_must OpenNumber _ (refuses_number OpenNumber cut 4) port_form port_judges) λ p.
    refuses_bind OpenNumber _ _ (refuses_pick OpenNumber (timed k) (number 4) (pure 0) (refuses_number OpenNumber cut 4) (refuses_pure OpenNumber 0)) λ t.
    refuses_mapc OpenNumber _ (refuses_bool OpenNumber cut bool) (λ c _. record { kind = k; host = h; port = p; timeout = t; compress = c })

pub refuses_enclosed : (k : ℕ) → Refuses OpenNumber (inside (declared 6 4) (versioned k))
unfolding versioned
refuses_enclosed k =
    refuses_inside OpenNumber cut left_over _ (refuses_bind OpenNumber _ _ (refuses_must OpenNumber _ (refuses_number OpenNumber cut 2) endpoint_version version_judges) λ _. refuses_address k)

refuses_encapsulated : (k : ℕ) → Refuses OpenNumber (encapsulated k)
unfolding encapsulated
refuses_encapsulated k =
    refuses_pick OpenNumber (opens k) (mapc (λ e _. opened e) (inside (declared 6 4) (versioned k))) (mapc (λ _ _. unopened k) (declared 6 4))
    (refuses_mapc OpenNumber _ (refuses_enclosed k) (λ e _. opened e)) (refuses_mapc OpenNumber _ (refuses_declared OpenNumber cut left_over) (λ _ _. unopened k))

refuses_ended : {A : Type 0} (a : A) → Refuses OpenNumber (ended a)
unfolding ended
refuses_ended a [] = tt
refuses_ended a (x ∷ xs) = behind

refuses_typed : Refuses OpenNumber typed
unfolding typed
refuses_typed = refuses_bind OpenNumber _ _ (refuses_bind OpenNumber _ _ (refuses_number OpenNumber cut 2) refuses_encapsulated) refuses_ended

-- ---- both

pub open_within : OpenWithin
unfolding open_endpoint refused_first first_of
open_within b c p h = go (ltb limit (length b)) h
  where
    read : (r : Res Endpoint) → Told OpenNumber r → Lies (length b) r → r ≡ bad c p → OpenNumber c × (p ≤ length b)
    read r t l e = subst (λ (x : Res Endpoint). Told OpenNumber x → Lies (length b) x → OpenNumber c × (p ≤ length b)) (sym e) (λ x y. (x, y)) t l

    long : ◌≡◌ {A = Res Endpoint} (bad 3 0) (bad c p) → OpenNumber c × (p ≤ length b)
    long e = let i : 3 ≡ c = cc in let j : 0 ≡ p = cc in (subst OpenNumber i too_long_lem, omega arith)

    go : (t : Bool) → refused_first (pick t 3 0) (typed b) ≡ bad c p → OpenNumber c × (p ≤ length b)
    go true e = long e
    go false e = read (typed b) (refuses_typed b) (held_typed b) e

pub few_numbers : {c : ℕ} → OpenNumber c → c ≤ 27
few_numbers too_long_lem = omega arith
few_numbers cut = omega arith
few_numbers version = omega arith
few_numbers size_number = omega arith
few_numbers bool = omega arith
few_numbers left_over = omega arith
few_numbers behind = omega arith
few_numbers text = omega arith
few_numbers port-number = omega arith
