-- The cases of opening, by the answers of the readers that it calls; the numbers of each answer fit 32 bits, and are put all at once. Assumes nothing.
--
--   whole_more, _done, _bad      the type's bytes and its encapsulation, then nothing or 18
--   unopened_.., dialled_..      an endpoint that is not opened; one that is
--   typed_..                     by the type
--   open_..                      3 first
--   within_..                    22 last
--   ints_.., put_..              numbers put one after another; the seven numbers
use mathlib.Core.Path.{◌≡◌, refl, sym, ap, ◌∙◌, subst}
use mathlib.Core.Bool.{Bool, true, false}
use mathlib.Core.List.{List, [], ◌∷◌, ◌++◌, append_assoc, append-nil}
use Prim.Native.Nat.{ℕ, zero, suc, ◌+◌, ◌-◌, ◌*◌, ◌≤◌, ◌<◌}
use native.Mathlib.Omega.{arith}
use native.Mathlib.Nat.{add-zero}
use lib.ListN.{length, take, drop, get_or, length-append, length-drop}
use lib.Seq.{length-take-le}
use Rattle.std.proofs.Math.Seq.{take-suc}
use Rattle.std.proofs.Common.{take_all}
use lib.Dec.{leb}
use borrow.Author.Tests.{leb-true, le-leb, lt-leb, lt-ltb, le-ltb}
use mir.Syntax.{w32, w64}
use mir.Val.{Fits}
use Rattle.encoding.specs.Result.{Res, ok, bad, Parser, pick, shift, after, ◌>>=◌, chunk, skip, made, mapc, inside, first_of, concat}
use Rattle.encoding.proofs.ResultLaws.{held_took, held_refused}
use Rattle.encoding.proofs.ValueLaws.{held_endpoint}
use Rattle.encoding.specs.Number.{Bytes, number, le_bytes, size_bytes, declared}
use Rattle.encoding.proofs.NumberLaws.{bytes_drop, length_le_bytes}
use Rattle.encoding.specs.Proxy.{endpoint}
use Rattle.encoding.specs.Table.{at}
use Rattle.encoding.specs.Message.{limit, refused_first}
use Rattle.std.specs.Prelude.{Result, Ok, Err}
use Rattle.wire.specs.declared.Refusal.{Refusal}
use Rattle.wire.specs.Steps.{step_of}
use Rattle.wire.specs.StepLaws.{rest_is, step_took, step_fault}
use Rattle.wire.specs.Put.{put}
use Rattle.wire.specs.PutLaws.{put_none, put_put, put_front}
use Rattle.endpoint.specs.declared.Opened.{Opened}
use Rattle.endpoint.specs.declared.Opened.TheVariants.{Is, Unopened, Refused}
use Rattle.endpoint.specs.declared.fields.Fields.{Fields}
use Rattle.endpoint.specs.Endpoint.{Address, Endpoint, opened, unopened, opens, versioned, encapsulated, typed, open_endpoint, host_place, opened_of, seven_bytes, opened_within, with_opened}
use Rattle.endpoint.specs.Parts.{fields, address_fields, any_inside, address_inside, whole, int_bytes, Roomy}
use Rattle.endpoint.specs.EndpointDemands.{Dials, tcp, ssl, udp, OpenNumber}
use Rattle.endpoint.proofs.EndpointLaws.{opens_step, opens_not, Narrow, enclosed_narrow}
use Rattle.endpoint.proofs.RefusalLaws.{ended_more, ended_done, held_enclosed, refuses_enclosed, refuses_endpoint, told_bad, few_numbers}
use Rattle.endpoint.proofs.Laws.{fields_are, fields_arent}

-- ---- nothing after it

module _ (p : Parser Endpoint) (s : List ℕ) where
  whole_more : (e : Endpoint) (n : ℕ) → (skip 2 >>= λ _. p) s ≡ ok e n → n < length s → whole p s ≡ bad 18 n
  unfolding whole ◌>>=◌ after shift
  whole_more e n h l = rw (h, ended_more e n s l, add-zero)

  whole_done : (e : Endpoint) (n : ℕ) → (skip 2 >>= λ _. p) s ≡ ok e n → length s ≤ n → whole p s ≡ ok e n
  unfolding whole ◌>>=◌ after shift
  whole_done e n h l = rw (h, ended_done e n s l, add-zero)

  whole_bad : (c q : ℕ) → (skip 2 >>= λ _. p) s ≡ bad c q → whole p s ≡ bad c q
  unfolding whole ◌>>=◌ after
  whole_bad c q h = rw h

-- ---- not opened

-- as the proxy reader takes it
any_is : (k : ℕ) (s : List ℕ) → (skip 2 >>= λ _. any_inside k) s ≡ made (λ _ _. unopened k) (endpoint s)
unfolding endpoint any_inside ◌>>=◌ after mapc made shift
any_is k s = go (skip 2 s)
  where
    go₂ : (n : ℕ) (r : Res (List ℕ)) → shift n (made (λ _ _. unopened k) r) ≡ made (λ _ _. unopened k) (shift n (made {B = Unit {0}} (λ _ _. tt) r))
    go₂ n (ok d m) = refl
    go₂ n (bad c q) = refl

    go : (r : Res (Unit {0})) → after r (λ _. mapc (λ _ _. unopened k) (declared 6 4)) s ≡ made (λ _ _. unopened k) (after r (λ _. mapc {B = Unit {0}} (λ _ _. tt) (declared 6 4)) s)
    go (ok u n) = go₂ n (declared 6 4 (drop n s))
    go (bad c q) = refl

module _ (s : List ℕ) (k : ℕ) (r : Result ℕ Refusal) (e : r ≡ step_of (endpoint s)) where
  module _ (n : ℕ) (h : r ≡ Ok n) where
    any_took : (skip 2 >>= λ _. any_inside k) s ≡ ok (unopened k) n
    unfolding made
    any_took = any_is k s ∙ ap (made (λ _ _. unopened k)) (step_took (endpoint s) n (sym h ∙ e)).1

    pub unopened_more : n < length s → Refused 18 n ≡ opened_of (whole (any_inside k) s)
    unfolding opened_of
    unopened_more l = ap opened_of (sym (whole_more (any_inside k) s (unopened k) n any_took l))

    pub unopened_done : length s ≤ n → Unopened k ≡ opened_of (whole (any_inside k) s)
    unfolding opened_of
    unopened_done l = ap opened_of (sym (whole_done (any_inside k) s (unopened k) n any_took l))

  module _ (x : Refusal) (h : r ≡ Err x) where
    refused_is : endpoint s ≡ bad x.number x.place
    refused_is = step_fault (endpoint s) x (sym h ∙ e)

    pub unopened_number : Fits w32 x.number
    unopened_number = record { fits = omega (arith, told_bad (λ c. c ≤ 27) endpoint (refuses_endpoint (λ c. c ≤ 27) (omega arith) (omega arith)) s refused_is) }

    pub unopened_place : length s ≤ 65536 → Fits w32 x.place
    unopened_place l = record { fits = omega (arith, held_refused endpoint held_endpoint s refused_is) }

    pub unopened_bad : Refused x.number x.place ≡ opened_of (whole (any_inside k) s)
    unfolding opened_of made
    unopened_bad = ap opened_of (sym (whole_bad (any_inside k) s x.number x.place (any_is k s ∙ ap (made (λ _ _. unopened k)) refused_is)))

-- ---- opened

-- the encapsulation after the type
inside_is : (k : ℕ) (s : List ℕ) → 2 ≤ length s → (skip 2 >>= λ _. address_inside k) s ≡ shift 2 (made (λ e _. opened e) (inside (declared 6 4) (versioned k) (drop 2 s)))
unfolding skip chunk ◌>>=◌ after address_inside mapc
inside_is k s h = rw (le-leb 2 (length s) h)

-- the answer to an address
named : (k a h p t c n : ℕ) (e : Address) → e.kind ≡ k → h ≡ length e.host → p ≡ e.port → t ≡ e.timeout → c ≡ e.compress → a ≡ length (size_bytes h)
    → Is k (8 + a) h p t c ≡ opened_of (ok (opened e) n)
unfolding opened_of host_place
named k a h p t c n e i j u v w q = cc

module _ (s : List ℕ) (k : ℕ) (y : Bytes s) (two : 2 ≤ length s) (short : length s ≤ 65536)
    (f : Result Fields Refusal) (d : f ≡ address_fields (inside (declared 6 4) (versioned k) (take (length s - 2) (drop 2 s)))) where
  rest : f ≡ address_fields (inside (declared 6 4) (versioned k) (drop 2 s))
  rest = rw rest_is at d

  module _ (x : Fields) (g : f ≡ Ok x) where
    found : (e : Address) × (inside (declared 6 4) (versioned k) (drop 2 s) ≡ ok e x.bytes) × (x ≡ fields (length e.host, e.port, e.timeout, e.compress) x.bytes)
    found = fields_are _ (inside (declared 6 4) (versioned k) (drop 2 s)) x (sym g ∙ rest)

    taken : x.bytes ≤ length s - 2
    taken = omega (arith, held_took (inside (declared 6 4) (versioned k)) (held_enclosed k) (drop 2 s) found.1, length-drop 2 s)

    pub dialled_sum : Fits w64 (2 + x.bytes)
    dialled_sum = record { fits = omega (arith, taken) }

    narrow : Narrow k x.bytes found.0
    narrow = enclosed_narrow k (drop 2 s) (bytes_drop 2 s y) found.0 x.bytes found.1

    host_is : x.host ≡ length found.0.host
    host_is = ap (λ (v : Fields). v.host) found.2

    port_is : x.port ≡ found.0.port
    port_is = ap (λ (v : Fields). v.port) found.2

    timeout_is : x.timeout ≡ found.0.timeout
    timeout_is = ap (λ (v : Fields). v.timeout) found.2

    compress_is : x.compress ≡ found.0.compress
    compress_is = ap (λ (v : Fields). v.compress) found.2

    pub host_fit : Fits w32 x.host
    host_fit = record { fits = omega (arith, host_is, narrow.host_short, taken) }

    pub port_fit : Fits w32 x.port
    port_fit = record { fits = omega (arith, port_is, narrow.port_most) }

    pub timeout_fit : Fits w32 x.timeout
    timeout_fit = record { fits = omega (arith, timeout_is, narrow.timeout_most) }

    pub compress_fit : Fits w32 x.compress
    compress_fit = record { fits = omega (arith, compress_is, narrow.compress_most) }

    read_is : (skip 2 >>= λ _. address_inside k) s ≡ ok (opened found.0) (2 + x.bytes)
    unfolding shift made
    read_is = inside_is k s two ∙ ap (λ (r : Res Address). shift 2 (made (λ e _. opened e) r)) found.1

    pub dialled_more : 2 + x.bytes < length s → Refused 18 (2 + x.bytes) ≡ opened_of (whole (address_inside k) s)
    unfolding opened_of
    dialled_more l = ap opened_of (sym (whole_more (address_inside k) s (opened found.0) (2 + x.bytes) read_is l))

    pub dialled_is : length s ≤ 2 + x.bytes → (a : ℕ) → a ≡ length (size_bytes x.host) → Is k (8 + a) x.host x.port x.timeout x.compress ≡ opened_of (whole (address_inside k) s)
    dialled_is l a q =
        named k a x.host x.port x.timeout x.compress (2 + x.bytes) found.0 narrow.kind_is host_is port_is timeout_is compress_is q
        ∙ ap opened_of (sym (whole_done (address_inside k) s (opened found.0) (2 + x.bytes) read_is l))

  module _ (x : Refusal) (g : f ≡ Err x) where
    lost : inside (declared 6 4) (versioned k) (drop 2 s) ≡ bad x.number x.place
    lost = fields_arent _ (inside (declared 6 4) (versioned k) (drop 2 s)) x (sym g ∙ rest)

    missed : x.place ≤ length s - 2
    missed = omega (arith, held_refused (inside (declared 6 4) (versioned k)) (held_enclosed k) (drop 2 s) lost, length-drop 2 s)

    pub dialled_number : Fits w32 x.number
    dialled_number = record { fits = omega (arith, few_numbers (told_bad OpenNumber (inside (declared 6 4) (versioned k)) (refuses_enclosed k) (drop 2 s) lost)) }

    pub dialled_bad_sum : Fits w64 (2 + x.place)
    dialled_bad_sum = record { fits = omega (arith, missed) }

    pub dialled_place : Fits w32 (2 + x.place)
    dialled_place = record { fits = omega (arith, missed) }

    pub dialled_bad : Refused x.number (2 + x.place) ≡ opened_of (whole (address_inside k) s)
    unfolding opened_of shift made
    dialled_bad = ap opened_of (sym (whole_bad (address_inside k) s x.number (2 + x.place) (inside_is k s two ∙ ap (λ (r : Res Address). shift 2 (made (λ e _. opened e) r)) lost)))

-- ---- by the type

pub not_dialled : (k : ℕ) → 3 < k → Dials k → ⊥
not_dialled k l tcp = omega arith
not_dialled k l ssl = omega arith
not_dialled k l udp = omega arith

pub one_of : (k : ℕ) → (k ≡ 0 → ⊥) → k ≤ 3 → Dials k
one_of zero z l = absurd (z refl)
one_of (suc zero) z l = tcp
one_of (suc (suc zero)) z l = ssl
one_of (suc (suc (suc zero))) z l = udp
one_of (suc (suc (suc (suc k)))) z l = absurd (omega arith)

pub typed_cut : (s : List ℕ) → length s < 2 → Refused 4 0 ≡ opened_of (typed s)
unfolding typed number chunk ◌>>=◌ after opened_of
typed_cut s h = rw (lt-leb 2 (length s) h)

module _ (s : List ℕ) (h : 2 ≤ length s) (k : ℕ) (e : k ≡ at s 2 0) where
  by_type : typed s ≡ whole (encapsulated k) s
  unfolding typed number skip chunk ◌>>=◌ after at whole
  by_type = rw (le-leb 2 (length s) h, ← e)

  other_type : opens k ≡ false → typed s ≡ whole (any_inside k) s
  unfolding encapsulated any_inside
  other_type o = by_type ∙ ap (λ (b : Bool). whole (pick b (mapc (λ e _. opened e) (inside (declared 6 4) (versioned k))) (mapc (λ _ _. unopened k) (declared 6 4))) s) o

  known_type : opens k ≡ true → typed s ≡ whole (address_inside k) s
  unfolding encapsulated address_inside
  known_type o = by_type ∙ ap (λ (b : Bool). whole (pick b (mapc (λ e _. opened e) (inside (declared 6 4) (versioned k))) (mapc (λ _ _. unopened k) (declared 6 4))) s) o

  module _ (r : Opened) where
    pub typed_none : k ≡ 0 → r ≡ opened_of (whole (any_inside k) s) → r ≡ opened_of (typed s)
    unfolding opens
    typed_none z q = q ∙ ap opened_of (sym (other_type (rw z)))

    pub typed_high : 3 < k → r ≡ opened_of (whole (any_inside k) s) → r ≡ opened_of (typed s)
    typed_high l q = q ∙ ap opened_of (sym (other_type (opens_not k (not_dialled k l))))

    pub typed_is : (k ≡ 0 → ⊥) → k ≤ 3 → r ≡ opened_of (whole (address_inside k) s) → r ≡ opened_of (typed s)
    typed_is z l q = q ∙ ap opened_of (sym (known_type (opens_step (one_of k z l))))

-- ---- 3 first

module _ (s : List ℕ) (n : ℕ) (e : n ≡ length s) where
  pub open_long : 65536 < n → Refused 3 0 ≡ opened_of (open_endpoint s)
  unfolding open_endpoint refused_first first_of opened_of
  open_long h = rw (lt-ltb limit (length s) (omega arith))

  pub open_short : n ≤ 65536 → (r : Opened) → r ≡ opened_of (typed s) → r ≡ opened_of (open_endpoint s)
  unfolding open_endpoint refused_first first_of
  open_short h r q = rw (le-ltb limit (length s) (omega arith)) q

-- ---- 22 last

module _ (o : Opened) (room : ℕ) where
  module _ (n : (c p : ℕ) → o ≡ Refused c p → ⊥) where
    pub within_few : room < 28 → Refused 22 28 ≡ opened_within room o
    unfolding opened_within
    within_few l = go o refl
      where
        go : (x : Opened) → o ≡ x → Refused 22 28 ≡ opened_within room x
        go (Is k a n p t c) e = rw (lt-leb 28 room l)
        go (Unopened k) e = rw (lt-leb 28 room l)
        go (Refused c p) e = absurd (n c p e)

    pub within_given : 28 ≤ room → o ≡ opened_within room o
    unfolding opened_within
    within_given l = go o refl
      where
        go : (x : Opened) → o ≡ x → x ≡ opened_within room x
        go (Is k a n p t c) e = rw (le-leb 28 room l)
        go (Unopened k) e = rw (le-leb 28 room l)
        go (Refused c p) e = absurd (n c p e)

  pub within_refused : (c p : ℕ) → o ≡ Refused c p → o ≡ opened_within room o
  unfolding opened_within
  within_refused c p e = rw e

-- an answer that was not refused by 22 has room
roomy_within : (o : Opened) (room : ℕ) → Roomy (opened_within room o) room
unfolding opened_within Roomy
roomy_within (Is k a n p t c) room = go (leb 28 room) refl
  where
    go : (b : Bool) → leb 28 room ≡ b → Roomy (pick b (Is k a n p t c) (Refused 22 28)) room
    go true e = leb-true 28 room e
    go false e = tt
roomy_within (Unopened k) room = go (leb 28 room) refl
  where
    go : (b : Bool) → leb 28 room ≡ b → Roomy (pick b (Unopened k) (Refused 22 28)) room
    go true e = leb-true 28 room e
    go false e = tt
roomy_within (Refused c p) room = tt

-- ---- the seven numbers

-- bytes put after bytes that are at the start
pub next_put : (at : ℕ) (b c lent u v : List ℕ) → u ≡ put 0 b lent → v ≡ put at c u → at ≡ length b → length b + length c ≤ length lent → v ≡ put 0 (b ++ c) lent
next_put at b c lent u v eu ev e l = ev ∙ ap (put at c) eu ∙ put_put 0 at b c lent (omega arith) (omega arith)

ints_append : (xs ys : List ℕ) → int_bytes (xs ++ ys) ≡ int_bytes xs ++ int_bytes ys
unfolding concat
ints_append [] ys = refl
ints_append (x ∷ xs) ys = ap (λ (l : List ℕ). le_bytes 4 x ++ l) (ints_append xs ys) ∙ sym (append_assoc (le_bytes 4 x) (int_bytes xs) (int_bytes ys))

ints_one : (x : ℕ) → int_bytes (x ∷ []) ≡ le_bytes 4 x
unfolding concat
ints_one x = append-nil (le_bytes 4 x)

ints_length : (xs : List ℕ) → length (int_bytes xs) ≡ 4 * length xs
unfolding concat
ints_length [] = refl
ints_length (x ∷ xs) = omega (arith, length-append (le_bytes 4 x) (int_bytes xs), length_le_bytes 4 x, ints_length xs)

-- numbers put one by one
pub ints_begin : (ns lent : List ℕ) → lent ≡ put 0 (int_bytes (take 0 ns)) lent
unfolding concat
ints_begin ns lent = sym (put_none 0 lent)

module _ (ns lent : List ℕ) (l : 4 * length ns ≤ length lent) (i : ℕ) (out : List ℕ) (e : out ≡ put 0 (int_bytes (take i ns)) lent) where
  pub ints_turn : i < length ns → (v : List ℕ) → v ≡ put (4 * i) (le_bytes 4 (get_or ns i 0)) out → v ≡ put 0 (int_bytes (take (i + 1) ns)) lent
  ints_turn h v ev =
      let x = get_or ns i 0 in
      let n : length (take i ns) ≡ i = length-take-le i ns (omega arith) in
      let s : i + 1 ≡ suc i = omega arith in
      let all : int_bytes (take (i + 1) ns) ≡ int_bytes (take i ns) ++ le_bytes 4 x =
      ap (λ (k : ℕ). int_bytes (take k ns)) s ∙ ap int_bytes (take-suc ns i 0 h) ∙ ints_append (take i ns) (x ∷ []) ∙ ap (λ (l : List ℕ). int_bytes (take i ns) ++ l) (ints_one x) in
      next_put (4 * i) (int_bytes (take i ns)) (le_bytes 4 x) lent out v e ev (omega (arith, ints_length (take i ns), n)) (omega (arith, ints_length (take i ns), n, length_le_bytes 4 x))
      ∙ ap (λ (b : List ℕ). put 0 b lent) (sym all)

  pub ints_end : length ns ≤ i → out ≡ int_bytes ns ++ drop (4 * length ns) lent
  ints_end h =
      e ∙ ap (λ (b : List ℕ). put 0 (int_bytes b) lent) (take_all i ns h) ∙ put_front (int_bytes ns) lent (omega (arith, ints_length ns))
      ∙ ap (λ (k : ℕ). int_bytes ns ++ drop k lent) (ints_length ns)

seven_is : (o k a n p t c : ℕ) → int_bytes (o ∷ k ∷ a ∷ n ∷ p ∷ t ∷ c ∷ []) ≡ seven_bytes o k a n p t c
unfolding concat seven_bytes
seven_is o k a n p t c = simp (append_assoc, append-nil)

module _ (r : Opened) (lent x : List ℕ) where
  pub put_is : (k a n p t c : ℕ) → r ≡ Is k a n p t c → x ≡ int_bytes (1 ∷ k ∷ a ∷ n ∷ p ∷ t ∷ c ∷ []) ++ drop 28 lent → x ≡ with_opened r lent
  unfolding with_opened
  put_is k a n p t c e q = rw (e, ← seven_is 1 k a n p t c) q

  pub put_unopened : (k : ℕ) → r ≡ Unopened k → x ≡ int_bytes (0 ∷ k ∷ 0 ∷ 0 ∷ 0 ∷ 0 ∷ 0 ∷ []) ++ drop 28 lent → x ≡ with_opened r lent
  unfolding with_opened
  put_unopened k e q = rw (e, ← seven_is 0 k 0 0 0 0 0) q

pub put_refused : (r : Opened) (lent : List ℕ) (c p : ℕ) → r ≡ Refused c p → lent ≡ with_opened r lent
unfolding with_opened
put_refused r lent c p e = rw e

module _ (r : Opened) (room : ℕ) (w : Roomy r room) where
  pub room_is : (k a n p t c : ℕ) → r ≡ Is k a n p t c → 28 ≤ room
  unfolding Roomy
  room_is k a n p t c e = subst (λ (o : Opened). Roomy o room) e w

  pub room_unopened : (k : ℕ) → r ≡ Unopened k → 28 ≤ room
  unfolding Roomy
  room_unopened k e = subst (λ (o : Opened). Roomy o room) e w

-- ---- an answer handed on

module _ (s : List ℕ) (lent : List ℕ) (r : Opened) (e : r ≡ opened_within (length lent) (opened_of (open_endpoint s))) where
  pub roomy_same : Roomy r (length lent)
  roomy_same = subst (λ (o : Opened). Roomy o (length lent)) (sym e) (roomy_within (opened_of (open_endpoint s)) (length lent))
