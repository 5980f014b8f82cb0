-- Each refusal of opening by what the bytes begin with: the reader that refuses is reached after what was written before it. Assumes nothing.
--
--   in_endpoint, over_endpoint   an endpoint that is opened, by what its declared bytes give
--   open_refused                 all of them
use Rattle.std.specs.Prelude.{◌≡◌, refl, Bool, true, false, List, [], ◌∷◌, ◌++◌, ℕ, suc, ◌+◌, ◌-◌, ◌*◌, ◌^◌, ◌≤◌, ◌<◌, take}
use Rattle.std.proofs.Common.{sym, ◌∙◌, subst, append-nil, length-append, length-drop}
use Rattle.std.proofs.Math.Path.{ap}
use native.Mathlib.Omega.{arith}
use Rattle.std.proofs.Math.ListN.{length, drop}
use Rattle.std.proofs.Math.Seq.{drop_at}
use borrow.Author.Tests.{le-leb, lt-leb, lt-ltb, le-ltb, ne_eqb}
use Rattle.encoding.specs.Result.{ok, bad, Parser, pick, shift, after, ◌>>=◌, pure, chunk, at_first, item, judged, must, made, mapc, leave, enter, inside, first_of}
use Rattle.encoding.proofs.ResultLaws.{bind_bad, bind_next, chunk_step, chunk_written, must_step}
use Rattle.encoding.specs.Utf8.{Utf8}
use Rattle.encoding.specs.Number.{val, negative, number, byte, bool_form, le_bytes, length_form, size_bytes, string, string_bytes, declared}
use Rattle.encoding.proofs.NumberLaws.{length_le_bytes, number_written, byte_written, content_step, string_written, declared_written}
use Rattle.encoding.specs.Message.{ended, limit, refused_first}
use Rattle.endpoint.specs.Endpoint.{endpoint_version, Address, Endpoint, opened, unopened, opens, timed, port_form, address_bytes, endpoint_bytes, port, timeout, flag, address, versioned, encapsulated, typed, open_endpoint}
use Rattle.endpoint.specs.EndpointDemands.{Dials, Proper, Port, Framed, port_place, Timeout, four, none, compress_place, OpenRefused}
use Rattle.endpoint.proofs.EndpointLaws.{opens_step, dials_few, is_timed, wrong_port, four_written, port_written, address_written, version_written, host_within, lastly, after_port, after_host, typed_written, other_written}
use Rattle.endpoint.proofs.RefusalLaws.{ended_more}

-- ---- what was written before the reader that refuses

-- a reader refuses what follows the bytes u
bind_refused : {A B : Type 0} (p : Parser A) (f : A → Parser B) (u w : List ℕ) {a : A} {c q : ℕ} → p (u ++ w) ≡ ok a (length u) → f a w ≡ bad c q → (p >>= f) (u ++ w) ≡ bad c (length u + q)
unfolding shift
bind_refused p f u w h k = bind_next p f (u ++ w) h ∙ ap (shift (length u)) (ap (f _) (drop_at u w (length u) refl) ∙ k)

short : (b : List ℕ) → length b ≤ limit → open_endpoint b ≡ typed b
unfolding open_endpoint refused_first first_of
short b l = rw (le-ltb limit (length b) l)

-- a refusal of the type's encapsulation
typed_refused : (k : ℕ) (x : List ℕ) (c q : ℕ) → k < 2 ^ 16 → length (le_bytes 2 k ++ x) ≤ limit → encapsulated k x ≡ bad c q → open_endpoint (le_bytes 2 k ++ x) ≡ bad c (2 + q)
unfolding typed
typed_refused k x c q l m h =
    let r : (number 2 >>= encapsulated) (le_bytes 2 k ++ x) ≡ bad c (length (le_bytes 2 k) + q) =
    bind_refused (number 2) encapsulated (le_bytes 2 k) x (number_written 2 k x (omega arith) ∙ ap (ok k) (sym (length_le_bytes 2 k))) h in
    short (le_bytes 2 k ++ x) m ∙ bind_bad (number 2 >>= encapsulated) ended (le_bytes 2 k ++ x) r ∙ ap (λ (n : ℕ). bad c (n + q)) (length_le_bytes 2 k)

-- a declared length that is refused, of any type
declared_refused : (k : ℕ) (x : List ℕ) (c : ℕ) → declared 6 4 x ≡ bad c 0 → encapsulated k x ≡ bad c 0
unfolding encapsulated mapc made inside enter
declared_refused k x c h = go (opens k)
  where
    go : (b : Bool) → pick b (mapc (λ e _. opened e) (inside (declared 6 4) (versioned k))) (mapc (λ _ _. unopened k) (declared 6 4)) x ≡ bad c 0
    go true = rw h
    go false = rw h

length_two : (k : ℕ) (x : List ℕ) → length (le_bytes 2 k ++ x) ≡ 2 + length x
length_two k x = omega (arith, length-append (le_bytes 2 k) x, length_le_bytes 2 k)

length_size : (n : ℕ) (w : List ℕ) → length (le_bytes 4 n ++ w) ≡ 4 + length w
length_size n w = omega (arith, length-append (le_bytes 4 n) w, length_le_bytes 4 n)

-- ---- the declared size

module _ (n : ℕ) (w : List ℕ) (four : n < 2 ^ 32) where
  size_read_lem : number 4 (le_bytes 4 n ++ w) ≡ ok n 4
  size_read_lem = number_written 4 n w (omega arith)

  size_refused : length_form 6 n ≡ 11 → declared 6 4 (le_bytes 4 n ++ w) ≡ bad 11 0
  unfolding declared item at_first must judged ◌>>=◌ after
  size_refused h = rw (size_read_lem, h)

  pub low_refused : n < 6 → length_form 6 n ≡ 11
  unfolding length_form first_of
  low_refused l = rw (lt-ltb n 6 l)

  pub negative_refused : 2 ^ 31 ≤ n → length_form 6 n ≡ 11
  unfolding length_form first_of negative
  negative_refused l = rw (le-ltb n 6 (omega arith), le-leb (2 ^ 31) n l)

  far_refused : 6 ≤ n → n < 2 ^ 31 → length w + 4 < n → declared 6 4 (le_bytes 4 n ++ w) ≡ bad 4 0
  unfolding declared item at_first must judged length_form first_of negative chunk ◌>>=◌ after shift
  far_refused l m f =
      let d : drop 4 (le_bytes 4 n ++ w) ≡ w = drop_at (le_bytes 4 n) w 4 (length_le_bytes 4 n) in
      rw (size_read_lem, le-ltb n 6 l, lt-leb (2 ^ 31) n m, d, lt-leb (n - 4) (length w) (omega arith))

-- ---- what an endpoint holds

module _ (k : ℕ) (K : Dials k) (d w : List ℕ) (two : 2 ≤ length d) (l : length (Framed k d w) ≤ limit) where
  framed_short : 4 + length d < 2 ^ 31
  framed_short =
      omega (arith, l, length-append (le_bytes 2 k) (le_bytes 4 (4 + length d) ++ d ++ w), length-append (le_bytes 4 (4 + length d) ++ d) w, length-append (le_bytes 4 (4 + length d)) d)

  part_read : declared 6 4 (le_bytes 4 (4 + length d) ++ d ++ w) ≡ ok d (4 + length d)
  part_read = declared_written 6 4 d w (omega arith) (omega arith) framed_short

  pub in_endpoint : (c q : ℕ) → versioned k d ≡ bad c q → open_endpoint (Framed k d w) ≡ bad c (6 + q)
  unfolding encapsulated mapc made inside enter leave
  in_endpoint c q h =
      let z : 4 + length d - length d + q ≡ 4 + q = omega arith in
      let e : encapsulated k (le_bytes 4 (4 + length d) ++ d ++ w) ≡ bad c (4 + q) = rw (opens_step K, part_read, h) (ap (bad c) z) in
      typed_refused k _ c (4 + q) (omega (arith, dials_few K)) l e ∙ ap (bad c) (omega arith)

  pub over_endpoint : (e : Address) (m : ℕ) → versioned k d ≡ ok e m → m < length d → open_endpoint (Framed k d w) ≡ bad 11 2
  unfolding encapsulated mapc made inside enter leave
  over_endpoint e m h n =
      let r : encapsulated k (le_bytes 4 (4 + length d) ++ d ++ w) ≡ bad 11 0 = rw (opens_step K, part_read, h, ne_eqb m (length d) (λ q. omega arith)) in
      typed_refused k _ 11 0 (omega (arith, dials_few K)) l r

-- the version
other : (k x y : ℕ) (r : List ℕ) → x < 256 → y < 256 → ((x ≡ 1) × (y ≡ 1) → ⊥) → versioned k (x ∷ y ∷ r) ≡ bad 6 0
unfolding versioned must judged number chunk endpoint_version val ◌>>=◌ after
other k x y r a b n = rw (le-leb 2 (suc (suc (length r))) (omega arith), ne_eqb (x + 256 * (y + 256 * 0)) 257 (λ e. n (omega arith, omega arith)))

-- a refusal of the fields
fields_refused : (k : ℕ) (r : List ℕ) (c q : ℕ) → address k r ≡ bad c q → versioned k (1 ∷ 1 ∷ r) ≡ bad c (2 + q)
unfolding versioned endpoint_version le_bytes
fields_refused k r c q h =
    bind_refused (must endpoint_version (number 2)) (λ _. address k) (le_bytes 2 257) r
    (must_step (number 2) (le_bytes 2 257 ++ r) endpoint_version (number_written 2 257 r (omega arith)) refl) h

-- the host, then a refusal
after_string : (k : ℕ) (h u : List ℕ) (c q : ℕ) → Utf8 h → length h < 2 ^ 31 → after_host k h u ≡ bad c q → address k (string_bytes h ++ u) ≡ bad c (length (string_bytes h) + q)
unfolding address
after_string k h u c q t l e = bind_refused string (λ h. after_host k h) (string_bytes h) u (string_written h u (content_step h t) l) e

port_cut : (u : List ℕ) → length u < 4 → port u ≡ bad 4 0
unfolding port must judged number chunk
port_cut u l = rw (lt-leb 4 (length u) l)

port_wrong : (p : ℕ) (u : List ℕ) → p < 2 ^ 32 → (Port p → ⊥) → port (le_bytes 4 p ++ u) ≡ bad 27 0
unfolding port must judged port_form
port_wrong p u l n = rw (four_written p u l, wrong_port p n)

timeout_cut : (k : ℕ) (u : List ℕ) → (k ≡ 3 → ⊥) → length u < 4 → timeout k u ≡ bad 4 0
unfolding timeout number chunk
timeout_cut k u z l = rw (is_timed k z, lt-leb 4 (length u) l)

timeout_read : (k : ℕ) (t u : List ℕ) → Timeout k t → timeout k (t ++ u) ≡ ok (val t) (length t)
unfolding timeout timed pure number val
timeout_read k t u (four z l) = rw (is_timed k z) (chunk_written 4 val t u l ∙ ap (ok (val t)) (sym l))
timeout_read k t u none = refl

flag_cut : flag [] ≡ bad 4 0
unfolding flag must judged byte number chunk
flag_cut = refl

flag_wrong : (x : ℕ) (u : List ℕ) → 2 ≤ x → flag (x ∷ u) ≡ bad 8 0
unfolding flag must judged bool_form
flag_wrong x u l = rw (byte_written x u, le-ltb x 2 l)

last_refused : (k : ℕ) (h : List ℕ) (p t : ℕ) (u : List ℕ) (c : ℕ) → flag u ≡ bad c 0 → lastly k h p t u ≡ bad c 0
unfolding mapc made
last_refused k h p t u c e = rw e

-- compress after the timeout's bytes t
flag_refused : (k : ℕ) (h : List ℕ) (p : ℕ) (t u : List ℕ) (c : ℕ) → Timeout k t → flag u ≡ bad c 0 → after_port k h p (t ++ u) ≡ bad c (length t + 0)
flag_refused k h p t u c T e = bind_refused (timeout k) (λ t. lastly k h p t) t u (timeout_read k t u T) (last_refused k h p (val t) u c e)

-- a host in an endpoint within the limit is short
host_short : (k : ℕ) (h u w : List ℕ) → length (Framed k (1 ∷ 1 ∷ (string_bytes h ++ u)) w) ≤ limit → length h < 2 ^ 31
unfolding string_bytes
host_short k h u w l =
    let d : List ℕ = 1 ∷ 1 ∷ size_bytes (length h) ++ h ++ u in
    omega (arith, l, length-append (le_bytes 2 k) (le_bytes 4 (4 + length d) ++ d ++ w), length-append (le_bytes 4 (4 + length d) ++ d) w, length-append (le_bytes 4 (4 + length d)) d, length-append (size_bytes (length h) ++ h) u, length-append (size_bytes (length h)) h)

-- ---- after the endpoint

behind_typed : (b : List ℕ) (s : Endpoint) (n : ℕ) → length b ≤ limit → (number 2 >>= encapsulated) b ≡ ok s n → n < length b → open_endpoint b ≡ bad 18 n
unfolding typed shift
behind_typed b s n l h m = short b l ∙ bind_next (number 2 >>= encapsulated) ended b h ∙ ap (shift n) (ended_more s n b m) ∙ ap (bad 18) (omega arith)

-- ---- all

no_int : (x : List ℕ) → length x < 4 → declared 6 4 x ≡ bad 4 0
unfolding declared item at_first must judged number chunk ◌>>=◌ after
no_int x l = rw (lt-leb 4 (length x) l)

moved_two : shift {A = Endpoint} 2 (bad 4 0) ≡ bad 4 2
unfolding shift
moved_two = refl

string_bad : (k : ℕ) (r : List ℕ) (c q : ℕ) → string r ≡ bad c q → address k r ≡ bad c q
unfolding address
string_bad k r c q h = bind_bad string (λ h. after_host k h) r h

long : (b : List ℕ) → limit < length b → open_endpoint b ≡ bad 3 0
unfolding open_endpoint refused_first first_of
long b l = rw (lt-ltb limit (length b) l)

cut_type : (b : List ℕ) → length b < 2 → open_endpoint b ≡ bad 4 0
unfolding typed number chunk ◌>>=◌ after
cut_type b l = short b (omega arith) ∙ rw (lt-leb 2 (length b) l)

cut_size : (b : List ℕ) → 2 ≤ length b → length b < 6 → open_endpoint b ≡ bad 4 2
unfolding typed number
cut_size b l m =
    let n : declared 6 4 (drop 2 b) ≡ bad 4 0 = no_int (drop 2 b) (omega (arith, length-drop 2 b)) in
    let t : (number 2 >>= encapsulated) b ≡ bad 4 2 = bind_next (number 2) encapsulated b (chunk_step 2 val b l) ∙ ap (shift 2) (declared_refused (val (take 2 b)) (drop 2 b) 4 n) ∙ moved_two in
    short b (omega arith) ∙ bind_bad (number 2 >>= encapsulated) ended b t

any_size : (k n : ℕ) (w : List ℕ) (c : ℕ) → k < 2 ^ 16 → length w + 6 ≤ limit → declared 6 4 (le_bytes 4 n ++ w) ≡ bad c 0 → open_endpoint (le_bytes 2 k ++ (le_bytes 4 n ++ w)) ≡ bad c 2
any_size k n w c l m h =
    typed_refused k (le_bytes 4 n ++ w) c 0 l (omega (arith, length_two k (le_bytes 4 n ++ w), length_size n w)) (declared_refused k (le_bytes 4 n ++ w) c h)

-- a refusal of the fields of type k after the host h
after_host_lem : (k : ℕ) (K : Dials k) (h u w : List ℕ) (c q : ℕ) → Utf8 h → length (Framed k (1 ∷ 1 ∷ (string_bytes h ++ u)) w) ≤ limit → after_host k h u ≡ bad c q
    → open_endpoint (Framed k (1 ∷ 1 ∷ (string_bytes h ++ u)) w) ≡ bad c (port_place h + q)
after_host_lem k K h u w c q t l e =
    in_endpoint k K (1 ∷ 1 ∷ (string_bytes h ++ u)) w (omega arith) l c (2 + (length (string_bytes h) + q))
    (fields_refused k (string_bytes h ++ u) c (length (string_bytes h) + q) (after_string k h u c q t (host_short k h u w l) e)) ∙ ap (bad c) (omega arith)

-- a refusal of the fields after the port p
after_port_lem : (k : ℕ) (K : Dials k) (h : List ℕ) (p : ℕ) (u w : List ℕ) (c q : ℕ) → Utf8 h → Port p → length (Framed k (1 ∷ 1 ∷ (string_bytes h ++ (le_bytes 4 p ++ u))) w) ≤ limit → after_port k h p u ≡ bad c q
    → open_endpoint (Framed k (1 ∷ 1 ∷ (string_bytes h ++ (le_bytes 4 p ++ u))) w) ≡ bad c (port_place h + 4 + q)
after_port_lem k K h p u w c q t r l e =
    after_host_lem k K h (le_bytes 4 p ++ u) w c (length (le_bytes 4 p) + q) t l (bind_refused port (λ p. after_port k h p) (le_bytes 4 p) u (port_written p u r.0 r.1) e)
    ∙ ap (bad c) (omega (arith, length_le_bytes 4 p))

-- a refusal of compress
compress_refused : (k : ℕ) (K : Dials k) (h : List ℕ) (p : ℕ) (t u w : List ℕ) (c : ℕ) → Utf8 h → Port p → Timeout k t → flag u ≡ bad c 0
    → length (Framed k (1 ∷ 1 ∷ (string_bytes h ++ (le_bytes 4 p ++ (t ++ u)))) w) ≤ limit
    → open_endpoint (Framed k (1 ∷ 1 ∷ (string_bytes h ++ (le_bytes 4 p ++ (t ++ u)))) w) ≡ bad c (compress_place h t)
compress_refused k K h p t u w c i r T e l = after_port_lem k K h p (t ++ u) w c (length t + 0) i r l (flag_refused k h p t u c T e) ∙ ap (bad c) (omega arith)

over : (e : Address) (x : ℕ) (r w : List ℕ) → Proper e → length (Framed e.kind (1 ∷ 1 ∷ (address_bytes e ++ (x ∷ r))) w) ≤ limit
    → open_endpoint (Framed e.kind (1 ∷ 1 ∷ (address_bytes e ++ (x ∷ r))) w) ≡ bad 11 2
over e x r w P l =
    let d : List ℕ = 1 ∷ 1 ∷ (address_bytes e ++ (x ∷ r)) in
    let s = framed_short e.kind P.dials d w (omega arith) l in
    let n = length-append (address_bytes e) (x ∷ r) in
    over_endpoint e.kind P.dials d w (omega arith) l e (2 + length (address_bytes e))
    (version_written e.kind (address_bytes e ++ (x ∷ r)) (address_written e P (omega (arith, host_within e, n, s)) (x ∷ r))) (omega (arith, n))

pub open_refused : OpenRefused
open_refused = record {
  too_long_lem = long;
  no_type = cut_type;
  no_size_lem = cut_size;
  size_low = λ k n w j l m. any_size k n w 11 j m (size_refused n w (omega arith) (low_refused n w (omega arith) l));
  size_negative = λ k n w j l f m. any_size k n w 11 j m (size_refused n w f (negative_refused n w f l));
  size_far = λ k n w j l f g m. any_size k n w 4 j m (far_refused n w (omega arith) l f g);
  other_version = λ k x y r w K a b n l. in_endpoint k K (x ∷ y ∷ r) w (omega arith) l 6 0 (other k x y r a b n);
  bad_host = λ k r w c q K h l. in_endpoint k K (1 ∷ 1 ∷ r) w (omega arith) l c (2 + q) (fields_refused k r c q (string_bad k r c q h)) ∙ ap (bad c) (omega arith);
  no_port_lem = λ k h u w K t n l. after_host_lem k K h u w 4 0 t l (bind_bad port (λ p. after_port k h p) u (port_cut u n)) ∙ ap (bad 4) (omega arith);
  bad_port = λ k h p u w K t f n l. after_host_lem k K h (le_bytes 4 p ++ u) w 27 0 t l (bind_bad port (λ p. after_port k h p) (le_bytes 4 p ++ u) (port_wrong p u f n)) ∙ ap (bad 27) (omega arith);
  no_timeout = λ k h p u w K z t q n l. after_port_lem k K h p u w 4 0 t q l (bind_bad (timeout k) (λ t. lastly k h p t) u (timeout_cut k u z n)) ∙ ap (bad 4) (omega arith);
  no_compress = λ k h p t w K i r T l.
      subst
      (λ (z : List ℕ). length (Framed k (1 ∷ 1 ∷ (string_bytes h ++ (le_bytes 4 p ++ z))) w) ≤ limit → open_endpoint (Framed k (1 ∷ 1 ∷ (string_bytes h ++ (le_bytes 4 p ++ z))) w) ≡ bad 4 (compress_place h t))
      (append-nil t) (compress_refused k K h p t [] w 4 i r T flag_cut) l;
  bad_compress = λ k h p t x u w K i r T n l. compress_refused k K h p t (x ∷ u) w 8 i r T (flag_wrong x u n) l;
  left_over = over;
  behind = λ e x r P l. behind_typed (endpoint_bytes e ++ (x ∷ r)) (opened e) (length (endpoint_bytes e)) l (typed_written e P (shorter e x r l) (x ∷ r)) (longer e x r);
  behind_other = λ k d x r j o n l. behind_typed (Framed k d (x ∷ r)) (unopened k) (2 + (4 + length d)) l (other_written k d (x ∷ r) j o n (small k d x r l)) (more k d x r) ∙ ap (bad 18) (omega arith);
}
  where
    shorter : (e : Address) (x : ℕ) (r : List ℕ) → length (endpoint_bytes e ++ (x ∷ r)) ≤ limit → length (endpoint_bytes e) ≤ limit
    shorter e x r l = omega (arith, l, length-append (endpoint_bytes e) (x ∷ r))

    longer : (e : Address) (x : ℕ) (r : List ℕ) → length (endpoint_bytes e) < length (endpoint_bytes e ++ (x ∷ r))
    longer e x r = omega (arith, length-append (endpoint_bytes e) (x ∷ r))

    sizes : (k : ℕ) (d : List ℕ) (x : ℕ) (r : List ℕ) → length (Framed k d (x ∷ r)) ≡ 2 + (4 + length d) + suc (length r)
    sizes k d x r =
        omega (arith, length-append (le_bytes 2 k) (le_bytes 4 (4 + length d) ++ d ++ (x ∷ r)), length-append (le_bytes 4 (4 + length d) ++ d) (x ∷ r), length-append (le_bytes 4 (4 + length d)) d, length_le_bytes 2 k, length_le_bytes 4 (4 + length d))

    small : (k : ℕ) (d : List ℕ) (x : ℕ) (r : List ℕ) → length (Framed k d (x ∷ r)) ≤ limit → 4 + length d < 2 ^ 31
    small k d x r l = omega (arith, l, sizes k d x r)

    more : (k : ℕ) (d : List ℕ) (x : ℕ) (r : List ℕ) → 2 + (4 + length d) < length (Framed k d (x ∷ r))
    more k d x r = omega (arith, sizes k d x r)
