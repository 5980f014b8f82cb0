-- Opening and writing an endpoint are inverse to each other: the round trips and exactness of EndpointDemands, part by part from the laws of the readers.
-- Assumes nothing.
--
--   endpoint_exact, other_exact    what is opened, and what is answered as unopened
--   endpoint_back, endpoint_again  both round trips
--   host_there                     the host's place and length
--   write_refused                  the writer's refusals
use Rattle.std.specs.Prelude.{◌≡◌, Bool, ◌&&◌, ◌||◌, ℕ, zero, suc, ◌+◌, ◌^◌, ◌≤◌, ◌<◌, take, drop, eqb, leb, ltb}
use Rattle.std.proofs.Math.Path.{refl, ap, ap₂, subst}
use Rattle.std.proofs.Common.{sym, ◌∙◌, arith, length-append, take-append-drop, drop_at, take_at, eqb-true, leb-true, ltb-true, ltb-false, lt-ltb, le-ltb, le-leb, eq-eqb, ne_eqb}
use Rattle.std.proofs.Math.Bool.{true, false, true≢false}
use mathlib.Core.List.{List, [], ◌∷◌, ◌++◌, append_assoc, append-nil}
use Rattle.std.proofs.Math.ListN.{length}
use Rattle.std.proofs.Math.Seq.{drop-length, take-length}
use Rattle.std.proofs.lemmas.Bool.{eqb-false, not-false}
use Rattle.encoding.specs.Result.{ok, Parser, pick, ◌>>=◌, pure, must, mapc, inside, first_of}
use Rattle.encoding.proofs.ResultLaws.{ok≢bad, both_true, either_false, first_of_ok, pick_ok, pick_true, Bound, bind_ok, bind_step, bind_take, pure_ok, must_ok, must_step, mapc_ok, mapc_step, Entered, inside_ok, inside_step}
use Rattle.encoding.specs.Utf8.{is_utf8, Utf8}
use Rattle.encoding.proofs.Utf8Laws.{utf8_ok, utf8_step}
use Rattle.encoding.specs.Number.{Bytes, number, byte, le_bytes, size_bytes, string, string_bytes, declared, bool_form}
use Rattle.encoding.proofs.NumberLaws.{bytes_take, bytes_drop, bytes_end, length_le_bytes, number_written, number_canonical, byte_written, byte_canonical, content_ok, content_step, string_written, string_canonical, declared_written, declared_canonical}
use Rattle.encoding.specs.Slice.{sliced}
use Rattle.encoding.specs.Message.{v11, encapsulate, ended, limit, refused_first}
use Rattle.encoding.proofs.MessageLaws.{ended_ok, length_encapsulate}
use Rattle.encoding.specs.Write.{Out, out, stop, next, stopped_first, bounded}
use Rattle.endpoint.specs.Endpoint.{endpoint_version, Address, Endpoint, opened, unopened, opens, timed, no_port, port_form, timeout_bytes, address_bytes, endpoint_bytes, port, timeout, flag, address, versioned, encapsulated, typed, open_endpoint, host_place, address_of, argument_form, endpoint_writing}
use Rattle.endpoint.specs.EndpointDemands.{Dials, tcp, ssl, udp, Proper, EndpointExact, Other, OtherExact, EndpointBack, EndpointAgain, HostThere, Port, WriteRefused}

-- ---- tests

pub opens_ok : (k : ℕ) → opens k ≡ true → Dials k
unfolding opens
opens_ok k h = go (eqb k 1) refl (eqb k 2) refl h
  where
    go : (a : Bool) → eqb k 1 ≡ a → (b : Bool) → eqb k 2 ≡ b → a || (b || eqb k 3) ≡ true → Dials k
    go true e b f w = subst Dials (sym (eqb-true k 1 e)) tcp
    go false e true f w = subst Dials (sym (eqb-true k 2 f)) ssl
    go false e false f w = subst Dials (sym (eqb-true k 3 w)) udp

pub opens_step : {k : ℕ} → Dials k → opens k ≡ true
unfolding opens
opens_step tcp = refl
opens_step ssl = refl
opens_step udp = refl

pub opens_not : (k : ℕ) → (Dials k → ⊥) → opens k ≡ false
opens_not k n = go (opens k) refl
  where
    go : (b : Bool) → opens k ≡ b → opens k ≡ false
    go true e = absurd (n (opens_ok k e))
    go false e = e

pub dials_few : {k : ℕ} → Dials k → k ≤ 3
dials_few tcp = omega arith
dials_few ssl = omega arith
dials_few udp = omega arith

-- UDP alone has no timeout
timed_ok : (k : ℕ) → timed k ≡ false → k ≡ 3
unfolding timed
timed_ok k h = eqb-true k 3 (not-false (eqb k 3) h)

pub is_timed : (k : ℕ) → (k ≡ 3 → ⊥) → timed k ≡ true
unfolding timed
is_timed k z = rw (ne_eqb k 3 z)

timed_step : (k : ℕ) → k ≡ 3 → timed k ≡ false
unfolding timed
timed_step k e = rw (eq-eqb k 3 e)

pub no_port_step : (p : ℕ) → 0 < p → p < 2 ^ 16 → no_port p ≡ false
unfolding no_port
no_port_step p l m = rw (ne_eqb p 0 (λ e. zero_not p l e), le-ltb 65535 p (omega arith))
  where
    zero_not : (x : ℕ) → 0 < x → x ≡ 0 → ⊥
    zero_not x l e = omega arith

no_port_ok : (p : ℕ) → no_port p ≡ false → (0 < p) × (p < 2 ^ 16)
unfolding no_port
no_port_ok p h = let a = either_false (eqb p 0) _ h in (positive p (eqb-false p 0 a.0), omega (arith, ltb-false 65535 p a.1))
  where
    positive : (x : ℕ) → (x ≡ 0 → ⊥) → 0 < x
    positive x n = omega arith

pub wrong_port : (p : ℕ) → (Port p → ⊥) → no_port p ≡ true
wrong_port p n = go (no_port p) refl
  where
    go : (b : Bool) → no_port p ≡ b → no_port p ≡ true
    go true e = e
    go false e = absurd (n (no_port_ok p e))

port_step : (p : ℕ) → 0 < p → p < 2 ^ 16 → port_form p ≡ 0
unfolding port_form
port_step p l m = rw (no_port_step p l m)

port_ok : (p : ℕ) → port_form p ≡ 0 → (0 < p) × (p < 2 ^ 16)
unfolding port_form
port_ok p h = no_port_ok p (pick_ok (no_port p) 26 h)

bool_step : (c : ℕ) → c < 2 → bool_form c ≡ 0
unfolding bool_form
bool_step c l = rw (lt-ltb c 2 l)

bool_ok : (c : ℕ) → bool_form c ≡ 0 → c < 2
unfolding bool_form
bool_ok c h = ltb-true c 2 (pick_true (ltb c 2) 7 h)

-- ---- what is written is opened

-- a part, then what follows it
pub bind_read : {A B : Type 0} (p : Parser A) (f : A → Parser B) (u w : List ℕ) {a : A} {b : B} {m : ℕ} → p (u ++ w) ≡ ok a (length u) → f a w ≡ ok b m → (p >>= f) (u ++ w) ≡ ok b (length u + m)
bind_read p f u w h k = bind_step p f (u ++ w) h (rw (drop_at u w (length u) refl) k)

pub four_written : (n : ℕ) (w : List ℕ) → n < 2 ^ 32 → number 4 (le_bytes 4 n ++ w) ≡ ok n (length (le_bytes 4 n))
four_written n w l = number_written 4 n w (omega arith) ∙ ap (ok n) (sym (length_le_bytes 4 n))

pub port_written : (p : ℕ) (w : List ℕ) → 0 < p → p < 2 ^ 16 → port (le_bytes 4 p ++ w) ≡ ok p (length (le_bytes 4 p))
unfolding port
port_written p w l m = must_step (number 4) (le_bytes 4 p ++ w) port_form (four_written p w (omega arith)) (port_step p l m)

pub timeout_written : (k t : ℕ) (w : List ℕ) → t < 2 ^ 32 → (timed k ≡ false → t ≡ 0) → timeout k (timeout_bytes k t ++ w) ≡ ok t (length (timeout_bytes k t))
unfolding timeout timeout_bytes pure
timeout_written k t w l z = go (timed k) refl
  where
    go : (b : Bool) → timed k ≡ b → pick b (number 4) (pure 0) (pick b (le_bytes 4 t) [] ++ w) ≡ ok t (length (pick b (le_bytes 4 t) []))
    go true e = four_written t w l
    go false e = ap (λ (x : ℕ). ok x 0) (sym (z e))

pub flag_written : (c : ℕ) (w : List ℕ) → c < 2 → flag (c ∷ w) ≡ ok c 1
unfolding flag
flag_written c w l = must_step byte (c ∷ w) bool_form (byte_written c w) (bool_step c l)

module _ (k : ℕ) where
  -- the fields after the timeout, after the port, and after the host
  abbrev pub lastly : List ℕ → ℕ → ℕ → Parser Address
  lastly h p t = mapc (λ c _. record { kind = k; host = h; port = p; timeout = t; compress = c }) flag

  abbrev pub after_port : List ℕ → ℕ → Parser Address
  after_port h p = timeout k >>= λ t. lastly h p t

  abbrev pub after_host : List ℕ → Parser Address
  after_host h = port >>= λ p. after_port h p

-- whatever follows
pub address_written : (e : Address) → Proper e → length e.host < 2 ^ 31 → (w : List ℕ) → address e.kind (address_bytes e ++ w) ≡ ok e (length (address_bytes e))
unfolding address address_bytes
address_written e P l w =
    let S : List ℕ = string_bytes e.host in
    let Q : List ℕ = le_bytes 4 e.port in
    let T : List ℕ = timeout_bytes e.kind e.timeout in
    let C : List ℕ = e.compress ∷ [] in
    let c = mapc_step flag (C ++ w) {B = Address} (λ c _. record { kind = e.kind; host = e.host; port = e.port; timeout = e.timeout; compress = c }) (flag_written e.compress w P.compress_bool) in
    let t = bind_read (timeout e.kind) (λ t. lastly e.kind e.host e.port t) T (C ++ w) (timeout_written e.kind e.timeout (C ++ w) P.timeout_int (λ z. P.timeout_none (timed_ok e.kind z))) c in
    let q = bind_read port (λ p. after_port e.kind e.host p) Q (T ++ (C ++ w)) (port_written e.port (T ++ (C ++ w)) P.port_least P.port_most) t in
    let s = bind_read string (λ h. after_host e.kind h) S (Q ++ (T ++ (C ++ w))) (string_written e.host (Q ++ (T ++ (C ++ w))) (content_step e.host P.host_text) l) q in
    let same : S ++ (Q ++ (T ++ C)) ++ w ≡ S ++ (Q ++ (T ++ (C ++ w))) =
    append_assoc S (Q ++ (T ++ C)) w ∙ ap (λ (x : List ℕ). S ++ x) (append_assoc Q (T ++ C) w ∙ ap (λ (x : List ℕ). Q ++ x) (append_assoc T C w)) in
    ap (address e.kind) same ∙ s ∙ ap (ok e) (omega (arith, length-append S (Q ++ (T ++ C)), length-append Q (T ++ C), length-append T C))

pub version_written : (k : ℕ) (w : List ℕ) {e : Address} {n : ℕ} → address k w ≡ ok e n → versioned k (1 ∷ 1 ∷ w) ≡ ok e (2 + n)
unfolding versioned endpoint_version le_bytes
version_written k w h =
    bind_step (must endpoint_version (number 2)) (λ _. address k) (le_bytes 2 257 ++ w)
    (must_step (number 2) (le_bytes 2 257 ++ w) endpoint_version (number_written 2 257 w (omega arith)) refl) h

versioned_written : (e : Address) → Proper e → length e.host < 2 ^ 31 → versioned e.kind (1 ∷ 1 ∷ address_bytes e) ≡ ok e (length (1 ∷ 1 ∷ address_bytes e))
versioned_written e P l = version_written e.kind (address_bytes e) (ap (address e.kind) (sym (append-nil (address_bytes e))) ∙ address_written e P l []) ∙ ap (ok e) (omega arith)

encapsulated_written : (e : Address) → Proper e → length e.host < 2 ^ 31 → 6 + length (address_bytes e) < 2 ^ 31
    → (r : List ℕ) → encapsulated e.kind (encapsulate (v11 sliced) (address_bytes e) ++ r) ≡ ok (opened e) (length (encapsulate (v11 sliced) (address_bytes e)))
unfolding encapsulated encapsulate
encapsulated_written e P l s r =
    let d : List ℕ = 1 ∷ 1 ∷ address_bytes e in
    let n : 4 + length d ≡ 6 + length (address_bytes e) = omega arith in
    let x : List ℕ = le_bytes 4 (6 + length (address_bytes e)) ++ d ++ r in
    let w : declared 6 4 x ≡ ok d (4 + length d) =
    ap (declared 6 4) (ap (λ (x : ℕ). le_bytes 4 x ++ d ++ r) (sym n)) ∙ declared_written 6 4 d r (omega arith) (omega arith) (omega arith) in
    let i : inside (declared 6 4) (versioned e.kind) x ≡ ok e (4 + length d) = inside_step (declared 6 4) (versioned e.kind) x w (versioned_written e P l) in
    let k : 4 + length d ≡ length (le_bytes 4 (6 + length (address_bytes e)) ++ d) = omega (arith, length-append (le_bytes 4 (6 + length (address_bytes e))) d, length_le_bytes 4 (6 + length (address_bytes e))) in
    rw (opens_step P.dials) (mapc_step (inside (declared 6 4) (versioned e.kind)) x (λ e _. opened e) i ∙ ap (ok (opened e)) k)

-- a host is no longer than what holds it
pub host_within : (e : Address) → length e.host ≤ length (address_bytes e)
unfolding address_bytes string_bytes
host_within e =
    let S : List ℕ = size_bytes (length e.host) ++ e.host in
    let r : List ℕ = le_bytes 4 e.port ++ (timeout_bytes e.kind e.timeout ++ (e.compress ∷ [])) in
    omega (arith, length-append S r, length-append (size_bytes (length e.host)) e.host)

pub length_endpoint : (e : Address) → length (endpoint_bytes e) ≡ 8 + length (address_bytes e)
unfolding endpoint_bytes
length_endpoint e =
    omega (arith, length-append (le_bytes 2 e.kind) (encapsulate (v11 sliced) (address_bytes e)), length_le_bytes 2 e.kind, length_encapsulate (v11 sliced) (address_bytes e))

-- the type and its encapsulation, whatever follows
pub typed_written : (e : Address) → Proper e → length (endpoint_bytes e) ≤ limit → (r : List ℕ)
    → (number 2 >>= encapsulated) (endpoint_bytes e ++ r) ≡ ok (opened e) (length (endpoint_bytes e))
unfolding endpoint_bytes
typed_written e P l r =
    let K : List ℕ = le_bytes 2 e.kind in
    let E : List ℕ = encapsulate (v11 sliced) (address_bytes e) in
    let small = host_within e in
    let sizes = length-append K E in
    let whole = length_encapsulate (v11 sliced) (address_bytes e) in
    let c = encapsulated_written e P (omega (arith, small, sizes, whole, l)) (omega (arith, sizes, whole, l)) r in
    ap (number 2 >>= encapsulated) (append_assoc K E r)
    ∙ bind_read (number 2) encapsulated K (E ++ r)
    (number_written 2 e.kind (E ++ r) (omega (arith, dials_few P.dials)) ∙ ap (ok e.kind) (sym (length_le_bytes 2 e.kind))) c
    ∙ ap (ok (opened e)) (sym sizes)

-- all of the bytes, 65,536 at most
all_opened : (s : Endpoint) (b : List ℕ) → length b ≤ limit → (number 2 >>= encapsulated) b ≡ ok s (length b) → open_endpoint b ≡ ok s (length b)
unfolding open_endpoint refused_first first_of typed ended
all_opened s b l h =
    rw (le-ltb limit (length b) l) (bind_step (number 2 >>= encapsulated) ended b {m = 0} h (ap (ended s) (drop-length b)) ∙ ap (ok s) (omega arith))

opened_written : (e : Address) → Proper e → length (endpoint_bytes e) ≤ limit → open_endpoint (endpoint_bytes e) ≡ ok (opened e) (length (endpoint_bytes e))
opened_written e P l = all_opened (opened e) (endpoint_bytes e) l (ap (number 2 >>= encapsulated) (sym (append-nil (endpoint_bytes e))) ∙ typed_written e P l [])

-- ---- what is opened is what is written

-- the fields read as those of type k, z their bytes
record Reads (k : ℕ) (z : List ℕ) (e : Address) : Type 0 where
  kind_is : e.kind ≡ k
  host_bytes : Bytes e.host
  host_text : Utf8 e.host
  port_least : 0 < e.port
  port_most : e.port < 2 ^ 16
  timeout_int : e.timeout < 2 ^ 32
  timeout_none : timed k ≡ false → e.timeout ≡ 0
  compress_bool : e.compress < 2
  same : z ≡ address_bytes e

timeout_canonical : (k : ℕ) (xs : List ℕ) → Bytes xs → {t n : ℕ} → timeout k xs ≡ ok t n → (take n xs ≡ timeout_bytes k t) × (t < 2 ^ 32) × (timed k ≡ false → t ≡ 0)
unfolding timeout timeout_bytes
timeout_canonical k xs y {t} {n} h = go (timed k) refl h
  where
    go : (b : Bool) → timed k ≡ b → pick b (number 4) (pure 0) xs ≡ ok t n → (take n xs ≡ pick b (le_bytes 4 t) []) × (t < 2 ^ 32) × (b ≡ false → t ≡ 0)
    go true e w = let N = number_canonical 4 xs y w in (N.0, omega (arith, N.1), λ z. absurd (true≢false z))
    go false e w = let P = pure_ok 0 xs w in (ap (λ (m : ℕ). take m xs) P.1, omega (arith, P.0), λ z. P.0)

address_canonical : (k : ℕ) (xs : List ℕ) → Bytes xs → {e : Address} {n : ℕ} → address k xs ≡ ok e n → Reads k (take n xs) e
unfolding address address_bytes port flag string_bytes
address_canonical k xs y {e} {n} h = one (bind_ok string (λ h. after_host k h) xs h)
  where
    three : (B : Bound string (λ h. after_host k h) xs e n) (C : Bound port (λ p. after_port k B.fst p) (drop B.n xs) e B.m)
        → Bound (timeout k) (λ t. lastly k B.fst C.fst t) (drop C.n (drop B.n xs)) e C.m → Reads k (take n xs) e
    three B C D =
        let u : List ℕ = drop B.n xs in
        let v : List ℕ = drop C.n u in
        let w : List ℕ = drop D.n v in
        let yu = bytes_drop B.n xs y in
        let yv = bytes_drop C.n u yu in
        let s = string_canonical xs y B.first in
        let P = must_ok (number 4) u port_form C.first in
        let p = number_canonical 4 u yu P.0 in
        let t = timeout_canonical k v yv D.first in
        let M = mapc_ok (must bool_form byte) w {B = Address} (λ c _. record { kind = k; host = B.fst; port = C.fst; timeout = D.fst; compress = c }) D.next in
        let L = must_ok byte w bool_form M.1 in
        let l = byte_canonical w L.0 in
        let r = port_ok C.fst P.1 in
        let all : take n xs ≡ string_bytes B.fst ++ (le_bytes 4 C.fst ++ (timeout_bytes k D.fst ++ (M.0 ∷ []))) =
        bind_take string (λ h. after_host k h) xs B
        ∙ ap₂ ◌++◌ s.0 (bind_take port (λ p. after_port k B.fst p) u C ∙ ap₂ ◌++◌ p.0 (bind_take (timeout k) (λ t. lastly k B.fst C.fst t) v D ∙ ap₂ ◌++◌ t.0 l.0)) in
        let here : Reads k (take n xs) (record { kind = k; host = B.fst; port = C.fst; timeout = D.fst; compress = M.0 }) =
        record {
          kind_is = refl;
          host_bytes = bytes_end (size_bytes (length B.fst)) B.fst (subst Bytes s.0 (bytes_take B.n xs y));
          host_text = content_ok B.fst s.1;
          port_least = r.0;
          port_most = r.1;
          timeout_int = t.1;
          timeout_none = t.2;
          compress_bool = bool_ok M.0 L.1;
          same = all;
        } in
        subst (λ (x : Address). Reads k (take n xs) x) (sym M.2) here

    two : (B : Bound string (λ h. after_host k h) xs e n) → Bound port (λ p. after_port k B.fst p) (drop B.n xs) e B.m → Reads k (take n xs) e
    two B C = three B C (bind_ok (timeout k) (λ t. lastly k B.fst C.fst t) (drop C.n (drop B.n xs)) C.next)

    one : Bound string (λ h. after_host k h) xs e n → Reads k (take n xs) e
    one B = two B (bind_ok port (λ p. after_port k B.fst p) (drop B.n xs) B.next)

opened_same : {s : Endpoint} {a b : Address} → s ≡ opened a → s ≡ opened b → a ≡ b
opened_same e h = cc

unopened_same : {s : Endpoint} {j k : ℕ} → s ≡ unopened j → s ≡ unopened k → j ≡ k
unopened_same e h = cc

opened≢unopened : {s : Endpoint} {a : Address} {k : ℕ} → s ≡ opened a → s ≡ unopened k → ⊥
opened≢unopened e h = let z : ◌≡◌ {A = ℕ} 0 1 = cc in omega arith

versioned_canonical : (k : ℕ) (xs : List ℕ) → Bytes xs → {e : Address} → versioned k xs ≡ ok e (length xs) → (z : List ℕ) × (xs ≡ 1 ∷ 1 ∷ z) × Reads k z e
unfolding versioned endpoint_version le_bytes
versioned_canonical k xs y {e} h = go (bind_ok (must endpoint_version (number 2)) (λ _. address k) xs h)
  where
    go : Bound (must endpoint_version (number 2)) (λ _. address k) xs e (length xs) → (z : List ℕ) × (xs ≡ 1 ∷ 1 ∷ z) × Reads k z e
    go B =
        let W = must_ok (number 2) xs endpoint_version B.first in
        let N = number_canonical 2 xs y W.0 in
        let v : B.fst ≡ 257 = eqb-true B.fst 257 (pick_true (eqb B.fst 257) 5 W.1) in (
          take B.m (drop B.n xs),
          sym (take-length xs) ∙ bind_take (must endpoint_version (number 2)) (λ _. address k) xs B ∙ ap (λ (z : List ℕ). z ++ take B.m (drop B.n xs)) (N.0 ∙ ap (le_bytes 2) v),
          address_canonical k (drop B.n xs) (bytes_drop B.n xs y) B.next,
        )

-- what an encapsulation of type k was, z its bytes
record Encloses (k : ℕ) (z : List ℕ) (n : ℕ) (e : Address) : Type 0 where
  size : length z ≡ n
  held : List ℕ
  whole : z ≡ encapsulate (v11 sliced) held
  reads : Reads k held e

record Closed (k : ℕ) (z : List ℕ) (n j : ℕ) : Type 0 where
  size : length z ≡ n
  kind_is : j ≡ k
  other : Dials k → ⊥
  held : List ℕ
  enough : 2 ≤ length held
  whole : z ≡ le_bytes 4 (4 + length held) ++ held

-- the length of what a declared part takes
declared_size : (d : List ℕ) (z : List ℕ) (n : ℕ) → z ≡ le_bytes 4 (4 + length d) ++ d → n ≡ 4 + length d → length z ≡ n
declared_size d z n e h = let q = ap length e in omega (arith, q, h, length-append (le_bytes 4 (4 + length d)) d, length_le_bytes 4 (4 + length d))

module _ (k : ℕ) (xs : List ℕ) (y : Bytes xs) where
  enclosed_canonical : {e : Address} {n : ℕ} → inside (declared 6 4) (versioned k) xs ≡ ok e n → Encloses k (take n xs) n e
  unfolding encapsulate
  enclosed_canonical {e} {n} h = go (inside_ok (declared 6 4) (versioned k) xs h)
    where
      go : Entered (declared 6 4) (versioned k) xs e n → Encloses k (take n xs) n e
      go E =
          let D = declared_canonical 6 4 xs y (omega arith) E.outer in
          let yp = bytes_end (le_bytes 4 (4 + length E.part)) E.part (subst Bytes D.0 (bytes_take n xs y)) in
          let W = versioned_canonical k E.part yp E.inner in
          let l : 4 + length E.part ≡ 6 + length W.0 = let q = ap length W.1 in omega (arith, q) in
          record { size = declared_size E.part (take n xs) n D.0 D.3; held = W.0; whole = D.0 ∙ ap₂ (λ (a : ℕ) (b : List ℕ). le_bytes 4 a ++ b) l W.1; reads = W.2 }

  opened_canonical : {e : Address} {n : ℕ} → encapsulated k xs ≡ ok (opened e) n → Dials k × Encloses k (take n xs) n e
  unfolding encapsulated
  opened_canonical {e} {n} h = go (opens k) refl h
    where
      go : (b : Bool) → opens k ≡ b → pick b (mapc (λ e _. opened e) (inside (declared 6 4) (versioned k))) (mapc (λ _ _. unopened k) (declared 6 4)) xs ≡ ok (opened e) n → Dials k × Encloses k (take n xs) n e
      go true o w =
          let M = mapc_ok (inside (declared 6 4) (versioned k)) xs (λ e _. opened e) w in
          (opens_ok k o, subst (λ (x : Address). Encloses k (take n xs) n x) (opened_same {s = opened e} M.2 refl) (enclosed_canonical M.1))
      go false o w = let M = mapc_ok (declared 6 4) xs (λ _ _. unopened k) w in absurd (opened≢unopened refl M.2)

  unopened_canonical : {j n : ℕ} → encapsulated k xs ≡ ok (unopened j) n → Closed k (take n xs) n j
  unfolding encapsulated
  unopened_canonical {j} {n} h = go (opens k) refl h
    where
      go : (b : Bool) → opens k ≡ b → pick b (mapc (λ e _. opened e) (inside (declared 6 4) (versioned k))) (mapc (λ _ _. unopened k) (declared 6 4)) xs ≡ ok (unopened j) n → Closed k (take n xs) n j
      go true o w = let M = mapc_ok (inside (declared 6 4) (versioned k)) xs (λ e _. opened e) w in absurd (opened≢unopened {s = unopened j} M.2 refl)
      go false o w =
          let M = mapc_ok (declared 6 4) xs (λ _ _. unopened k) w in
          let D = declared_canonical 6 4 xs y (omega arith) M.1 in
          record { size = declared_size M.0 (take n xs) n D.0 D.3; kind_is = unopened_same refl M.2; other = λ d. true≢false (sym (opens_step d) ∙ o); held = M.0; enough = omega (arith, D.1); whole = D.0 }

-- the numbers of what was read fit 32 bits
pub record Narrow (k n : ℕ) (e : Address) : Type 0 where
  pub kind_is : e.kind ≡ k
  pub host_short : length e.host ≤ n
  pub port_most : e.port < 2 ^ 32
  pub timeout_most : e.timeout < 2 ^ 32
  pub compress_most : e.compress < 2 ^ 32

pub enclosed_narrow : (k : ℕ) (xs : List ℕ) → Bytes xs → (e : Address) (n : ℕ) → inside (declared 6 4) (versioned k) xs ≡ ok e n → Narrow k n e
enclosed_narrow k xs y e n h = go (enclosed_canonical k xs y h)
  where
    go : Encloses k (take n xs) n e → Narrow k n e
    go E =
        let R = E.reads in
        let w = ap length E.whole in
        let v = ap length R.same in
        record {
          kind_is = R.kind_is;
          host_short = omega (arith, E.size, w, v, length_encapsulate (v11 sliced) E.held, host_within e);
          port_most = omega (arith, R.port_most);
          timeout_most = omega (arith, R.timeout_int);
          compress_most = omega (arith, R.compress_bool);
        }

-- the type, its encapsulation, and nothing after them
record Whole (b : List ℕ) (s : Endpoint) (n : ℕ) : Type 0 where
  kind : ℕ
  below : kind < 2 ^ 16
  inner : List ℕ
  taken : ℕ
  is_bytes : Bytes inner
  reads : encapsulated kind inner ≡ ok s taken
  whole : b ≡ le_bytes 2 kind ++ take taken inner
  sum : n ≡ 2 + taken

typed_whole : (b : List ℕ) → Bytes b → {s : Endpoint} {n : ℕ} → typed b ≡ ok s n → Whole b s n
unfolding typed
typed_whole b y {s} {n} h = one (bind_ok (number 2 >>= encapsulated) ended b h)
  where
    two : (B : Bound (number 2 >>= encapsulated) ended b s n) → Bound (number 2) encapsulated b B.fst B.n → Whole b s n
    two B C =
        let u : List ℕ = drop C.n b in
        let N = number_canonical 2 b y C.first in
        let E = ended_ok B.fst (drop B.n b) B.next in
        let all : b ≡ take B.n b = sym (take-append-drop B.n b) ∙ ap (λ (z : List ℕ). take B.n b ++ z) E.0 ∙ append-nil (take B.n b) in
        record {
          kind = C.fst;
          below = omega (arith, N.1);
          inner = u;
          taken = C.m;
          is_bytes = bytes_drop C.n b y;
          reads = C.next ∙ ap (λ (x : Endpoint). ok x C.m) (sym E.1);
          whole = all ∙ bind_take (number 2) encapsulated b C ∙ ap (λ (z : List ℕ). z ++ take C.m u) N.0;
          sum = omega (arith, B.sum, C.sum, E.2, N.2);
        }

    one : Bound (number 2 >>= encapsulated) ended b s n → Whole b s n
    one B = two B (bind_ok (number 2) encapsulated b B.first)

whole_length : (k m : ℕ) (b z : List ℕ) → b ≡ le_bytes 2 k ++ z → length z ≡ m → 2 + m ≡ length b
whole_length k m b z e h = let q = ap length e in omega (arith, q, h, length-append (le_bytes 2 k) z, length_le_bytes 2 k)

-- ---- the promises

pub limited : (b : List ℕ) {s : Endpoint} {n : ℕ} → open_endpoint b ≡ ok s n → (length b ≤ limit) × (typed b ≡ ok s n)
unfolding open_endpoint refused_first first_of
limited b {s} {n} h = go (ltb limit (length b)) refl h
  where
    go : (t : Bool) → ltb limit (length b) ≡ t → refused_first (pick t 3 0) (typed b) ≡ ok s n → (length b ≤ limit) × (typed b ≡ ok s n)
    go true w q = absurd (ok≢bad q refl)
    go false w q = (ltb-false limit (length b) w, q)

opened_proper : (b : List ℕ) → Bytes b → {e : Address} {n : ℕ} → typed b ≡ ok (opened e) n → Proper e × (b ≡ endpoint_bytes e) × (n ≡ length b)
unfolding endpoint_bytes
opened_proper b y {e} {n} h = go (typed_whole b y h)
  where
    inner : (W : Whole b (opened e) n) → Dials W.kind × Encloses W.kind (take W.taken W.inner) W.taken e → Proper e × (b ≡ le_bytes 2 e.kind ++ encapsulate (v11 sliced) (address_bytes e)) × (n ≡ length b)
    inner W D =
        let O = D.1 in
        let R = O.reads in
        let sum = whole_length W.kind W.taken b (take W.taken W.inner) W.whole O.size in (
          record {
            dials = subst Dials (sym R.kind_is) D.0;
            host_bytes = R.host_bytes;
            host_text = R.host_text;
            port_least = R.port_least;
            port_most = R.port_most;
            timeout_int = R.timeout_int;
            timeout_none = λ z. R.timeout_none (sym (ap timed R.kind_is) ∙ timed_step e.kind z);
            compress_bool = R.compress_bool;
          },
          W.whole ∙ ap₂ (λ (k : ℕ) (z : List ℕ). le_bytes 2 k ++ z) (sym R.kind_is) (O.whole ∙ ap (encapsulate (v11 sliced)) R.same),
          W.sum ∙ sum,
        )

    go : Whole b (opened e) n → Proper e × (b ≡ le_bytes 2 e.kind ++ encapsulate (v11 sliced) (address_bytes e)) × (n ≡ length b)
    go W = inner W (opened_canonical W.kind W.inner W.is_bytes W.reads)

pub endpoint_exact : EndpointExact
endpoint_exact b e n y = (reads, writes)
  where
    reads : open_endpoint b ≡ ok (opened e) n → Proper e × (b ≡ endpoint_bytes e) × (length b ≤ limit) × (n ≡ length b)
    reads h = let U = limited b h in let C = opened_proper b y U.1 in (C.0, C.1, U.0, C.2)

    writes : Proper e → b ≡ endpoint_bytes e → length b ≤ limit → open_endpoint b ≡ ok (opened e) (length b)
    writes P q l = subst (λ (z : List ℕ). open_endpoint z ≡ ok (opened e) (length z)) (sym q) (opened_written e P (subst (λ (z : List ℕ). length z ≤ limit) q l))

-- any content, whatever follows
pub other_written : (k : ℕ) (d r : List ℕ) → k < 2 ^ 16 → (Dials k → ⊥) → 2 ≤ length d → 4 + length d < 2 ^ 31
    → (number 2 >>= encapsulated) (le_bytes 2 k ++ (le_bytes 4 (4 + length d) ++ d ++ r)) ≡ ok (unopened k) (2 + (4 + length d))
unfolding encapsulated
other_written k d r l n e s =
    let x : List ℕ = le_bytes 4 (4 + length d) ++ d ++ r in
    let w = declared_written 6 4 d r (omega arith) (omega arith) s in
    bind_read (number 2) encapsulated (le_bytes 2 k) x
    (number_written 2 k x (omega arith) ∙ ap (ok k) (sym (length_le_bytes 2 k)))
    (rw (opens_not k n) (mapc_step (declared 6 4) x (λ _ _. unopened k) w))
    ∙ ap (λ (m : ℕ). ok (unopened k) (m + (4 + length d))) (length_le_bytes 2 k)

pub other_exact : OtherExact
other_exact b k n y = (reads, writes)
  where
    length_whole : (d : List ℕ) → b ≡ le_bytes 2 k ++ (le_bytes 4 (4 + length d) ++ d) → 2 + (4 + length d) ≡ length b
    length_whole d e = whole_length k (4 + length d) b (le_bytes 4 (4 + length d) ++ d) e (declared_size d _ (4 + length d) refl refl)

    reads : open_endpoint b ≡ ok (unopened k) n → Other b k × (n ≡ length b)
    reads h = go (typed_whole b y (limited b h).1)
      where
        inner : (W : Whole b (unopened k) n) → Closed W.kind (take W.taken W.inner) W.taken k → Other b k × (n ≡ length b)
        inner W C = (
          record {
            kind_pattern = omega (arith, C.kind_is, W.below);
            kind_other = λ d. C.other (subst Dials C.kind_is d);
            content = C.held;
            enough = C.enough;
            whole = W.whole ∙ ap₂ (λ (j : ℕ) (z : List ℕ). le_bytes 2 j ++ z) (sym C.kind_is) C.whole;
            short = (limited b h).0;
          },
          W.sum ∙ whole_length W.kind W.taken b (take W.taken W.inner) W.whole C.size,
        )

        go : Whole b (unopened k) n → Other b k × (n ≡ length b)
        go W = inner W (unopened_canonical W.kind W.inner W.is_bytes W.reads)

    writes : Other b k → open_endpoint b ≡ ok (unopened k) (length b)
    writes O =
        let d : List ℕ = O.content in
        let s = length_whole d O.whole in
        let f : b ≡ le_bytes 2 k ++ (le_bytes 4 (4 + length d) ++ d ++ []) = O.whole ∙ ap (λ (z : List ℕ). le_bytes 2 k ++ z) (sym (append-nil (le_bytes 4 (4 + length d) ++ d))) in
        all_opened (unopened k) b O.short
        (ap (number 2 >>= encapsulated) f ∙ other_written k d [] O.kind_pattern O.kind_other O.enough (omega (arith, s, O.short)) ∙ ap (ok (unopened k)) s)

-- ---- the writer

out≢stop : {o : Out (List ℕ)} {b : List ℕ} {n p : ℕ} → o ≡ out b → o ≡ stop n p → ⊥
out≢stop e h = let z : ◌≡◌ {A = ℕ} 0 1 = cc in omega arith

out_same : {o : Out (List ℕ)} {a b : List ℕ} → o ≡ out a → o ≡ out b → a ≡ b
out_same e h = cc

pub written_ok : (f : ℕ) (o : Out (List ℕ)) (b : List ℕ) → next (stopped_first f) (λ _. o) ≡ out b → (f ≡ 0) × (o ≡ out b)
unfolding next stopped_first
written_ok zero o b h = (refl, h)
written_ok (suc f) o b h = absurd (out≢stop h refl)

pub bounded_ok : (room : ℕ) (z b : List ℕ) → bounded room z ≡ out b → (z ≡ b) × (length z ≤ limit) × (length z ≤ room)
unfolding bounded
bounded_ok room z b h = go (leb (length z) limit && leb (length z) room) refl h
  where
    go : (t : Bool) → (leb (length z) limit && leb (length z) room) ≡ t → pick t (out z) (stop 22 (length z)) ≡ out b → (z ≡ b) × (length z ≤ limit) × (length z ≤ room)
    go true w q = let p = both_true (leb (length z) limit) _ w in (out_same refl q, leb-true (length z) limit p.0, leb-true (length z) room p.1)
    go false w q = absurd (out≢stop q refl)

given_proper : (k : ℕ) (h : List ℕ) (p t c : ℕ) → Bytes h → t < 2 ^ 32 → c < 2 → argument_form k h p ≡ 0 → Proper (address_of k h p t c)
unfolding argument_form address_of
given_proper k h p t c y l d a =
    let one = first_of_ok 1 _ _ a in
    let two = first_of_ok 2 _ _ one.1 in
    let three = first_of_ok 23 _ _ two.1 in
    let four = first_of_ok 26 _ _ three.1 in
    let q = no_port_ok p four.0 in
    record {
      dials = opens_ok k (not-false (opens k) one.0);
      host_bytes = y;
      host_text = utf8_ok h (not-false (is_utf8 h) three.0);
      port_least = q.0;
      port_most = q.1;
      timeout_int = below (timed k);
      timeout_none = λ z. ap (λ (b : Bool). pick b t 0) (timed_step k z);
      compress_bool = d;
    }
  where
    below : (b : Bool) → pick b t 0 < 2 ^ 32
    below true = l
    below false = omega arith

pub endpoint_back : EndpointBack
unfolding endpoint_writing
endpoint_back k h p t c room b y l d w =
    let A = written_ok (argument_form k h p) _ b w in
    let F = bounded_ok room (endpoint_bytes (address_of k h p t c)) b A.1 in
    subst (λ (z : List ℕ). open_endpoint z ≡ ok (opened (address_of k h p t c)) (length z)) F.0 (opened_written (address_of k h p t c) (given_proper k h p t c y l d A.0) F.1)

proper_arguments : (e : Address) → Proper e → length e.host ≤ limit → argument_form e.kind e.host e.port ≡ 0
unfolding argument_form first_of
proper_arguments e P l = rw (opens_step P.dials, le-ltb limit (length e.host) l, utf8_step e.host P.host_text, no_port_step e.port P.port_least P.port_most)

given_again : (e : Address) → Proper e → address_of e.kind e.host e.port e.timeout e.compress ≡ e
unfolding address_of
given_again e P = ap (λ (t : ℕ). record { kind = e.kind; host = e.host; port = e.port; timeout = t; compress = e.compress }) (go (timed e.kind) refl)
  where
    go : (b : Bool) → timed e.kind ≡ b → pick b e.timeout 0 ≡ e.timeout
    go true w = refl
    go false w = sym (P.timeout_none (timed_ok e.kind w))

pub endpoint_again : EndpointAgain
unfolding endpoint_writing next stopped_first bounded
endpoint_again b e n room y h l =
    let U = limited b h in
    let C = opened_proper b y U.1 in
    let q : endpoint_bytes (address_of e.kind e.host e.port e.timeout e.compress) ≡ b = ap endpoint_bytes (given_again e C.0) ∙ sym C.1 in
    let w = host_within e in
    let s = ap length C.1 in
    rw (proper_arguments e C.0 (omega (arith, w, s, length_endpoint e, U.0)), q, le-leb (length b) limit U.0, le-leb (length b) room l)

-- ---- the host's place

pub host_there : HostThere
unfolding endpoint_bytes address_bytes string_bytes encapsulate host_place
host_there b e n y h =
    let U = limited b h in
    let C = opened_proper b y U.1 in
    let S : List ℕ = size_bytes (length e.host) in
    let r : List ℕ = le_bytes 4 e.port ++ (timeout_bytes e.kind e.timeout ++ (e.compress ∷ [])) in
    let Z : List ℕ = le_bytes 4 (6 + length (S ++ e.host ++ r)) in
    let front : List ℕ = le_bytes 2 e.kind ++ (Z ++ (1 ∷ 1 ∷ S)) in
    let q : b ≡ front ++ (e.host ++ r) =
    C.1 ∙ ap (λ (x : List ℕ). le_bytes 2 e.kind ++ (Z ++ (1 ∷ 1 ∷ x))) (append_assoc S e.host r)
    ∙ ap (λ (x : List ℕ). le_bytes 2 e.kind ++ x) (sym (append_assoc Z (1 ∷ 1 ∷ S) (e.host ++ r))) ∙ sym (append_assoc (le_bytes 2 e.kind) (Z ++ (1 ∷ 1 ∷ S)) (e.host ++ r)) in
    let l : length front ≡ 8 + length S = omega (arith, length-append (le_bytes 2 e.kind) (Z ++ (1 ∷ 1 ∷ S)), length-append Z (1 ∷ 1 ∷ S), length_le_bytes 2 e.kind, length_le_bytes 4 (6 + length (S ++ e.host ++ r))) in
    let s = ap length q in (
      omega (arith, s, l, length-append front (e.host ++ r), length-append e.host r),
      ap (λ (x : List ℕ). take (length e.host) (drop (8 + length S) x)) q ∙ ap (take (length e.host)) (drop_at front (e.host ++ r) (8 + length S) l) ∙ take_at e.host r (length e.host) refl,
    )

-- ---- refusals of the writer

too_wide : (room : ℕ) (z : List ℕ) → ((length z ≤ limit) × (length z ≤ room) → ⊥) → (leb (length z) limit && leb (length z) room) ≡ false
too_wide room z n = go (leb (length z) limit) refl (leb (length z) room) refl
  where
    go : (a : Bool) → leb (length z) limit ≡ a → (b : Bool) → leb (length z) room ≡ b → (leb (length z) limit && leb (length z) room) ≡ false
    go false e b f = rw e
    go true e false f = rw (e, f)
    go true e true f = absurd (n (leb-true (length z) limit e, leb-true (length z) room f))

not_text : (h : List ℕ) → (Utf8 h → ⊥) → is_utf8 h ≡ false
not_text h n = go (is_utf8 h) refl
  where
    go : (b : Bool) → is_utf8 h ≡ b → is_utf8 h ≡ false
    go true e = absurd (n (utf8_ok h e))
    go false e = e

pub write_refused : WriteRefused
unfolding endpoint_writing next stopped_first argument_form first_of bounded address_of
write_refused k h p t c room = record {
  no_type = λ d. rw (opens_not k d);
  too_long_lem = λ d l. rw (opens_step d, lt-ltb limit (length h) l);
  no_text = λ d l x. rw (opens_step d, le-ltb limit (length h) l, not_text h x);
  no_port_lem = λ d l x n. rw (opens_step d, le-ltb limit (length h) l, utf8_step h x, wrong_port p n);
  no_room = λ d l x q n. rw (opens_step d, le-ltb limit (length h) l, utf8_step h x, no_port_step p q.0 q.1, too_wide room (endpoint_bytes (address_of k h p t c)) n);
  written = λ d x q l m. rw (opens_step d, le-ltb limit (length h) (within l), utf8_step h x, no_port_step p q.0 q.1, le-leb (length (endpoint_bytes (address_of k h p t c))) limit l, le-leb (length (endpoint_bytes (address_of k h p t c))) room m);
}
  where
    within : length (endpoint_bytes (address_of k h p t c)) ≤ limit → length h ≤ limit
    within l = go (host_within (address_of k h p t c)) (length_endpoint (address_of k h p t c)) l
      where
        go : length h ≤ length (address_bytes (address_of k h p t c)) → length (endpoint_bytes (address_of k h p t c)) ≡ 8 + length (address_bytes (address_of k h p t c))
            → length (endpoint_bytes (address_of k h p t c)) ≤ limit → length h ≤ limit
        go w e l = omega arith
