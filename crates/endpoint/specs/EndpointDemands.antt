-- What is promised of opening and writing an endpoint (M-106), each promise in full, to be read without its proof.
--
--   Dials            TCP, SSL or UDP
--   Proper           an address: its type is opened, its host is text, its port 1 to 65,535, its numbers have their widths, UDP has timeout 0
--   EndpointExact    bytes are opened exactly if they are the writing of a proper address, within 65,536 bytes
--   OtherExact       bytes are answered as unopened exactly if they are another type and an encapsulation, nothing after it
--   HostThere        the host is in the bytes at the place and with the length that are answered
--   EndpointBack     what is written is opened as what was given
--   EndpointAgain    what is opened and written again is the same bytes
--   WriteRefused     when 2, 3, 24, 27 and 22 come, and when it is written
--   OpenWithin       opening refuses by 3, 4, 6, 7, 8, 11, 18, 24 and 27 alone, and the place is within the bytes
--   OpenRefused      when each comes, and where, by what the bytes begin with
use Rattle.std.specs.Prelude.{◌≡◌, List, [], ◌∷◌, ◌++◌, ℕ, ◌+◌, ◌^◌, ◌≤◌, ◌<◌, length, take, drop}
use Rattle.encoding.specs.Result.{ok, bad}
use Rattle.encoding.specs.Utf8.{Utf8}
use Rattle.encoding.specs.Number.{Bytes, le_bytes, string, string_bytes}
use Rattle.encoding.specs.Message.{limit}
use Rattle.encoding.specs.Write.{out, stop}
use Rattle.endpoint.specs.Endpoint.{Address, opened, unopened, address_bytes, endpoint_bytes, open_endpoint, host_place, address_of, endpoint_writing}

-- the types that are opened
pub data Dials : ℕ → Type 0 where
  tcp : Dials 1
  ssl : Dials 2
  udp : Dials 3

-- an address that may be written
pub record Proper (e : Address) : Type 0 where
  pub dials : Dials e.kind
  pub host_bytes : Bytes e.host
  pub host_text : Utf8 e.host
  pub port_least : 0 < e.port
  pub port_most : e.port < 2 ^ 16
  pub timeout_int : e.timeout < 2 ^ 32
  pub timeout_none : e.kind ≡ 3 → e.timeout ≡ 0
  pub compress_bool : e.compress < 2

-- Rules out an opener that only refuses, and one that answers a host that is not there: both directions speak of every list of bytes.
abbrev pub EndpointExact : Type 0
EndpointExact =
    (b : List ℕ) (e : Address) (n : ℕ) → Bytes b
    → (open_endpoint b ≡ ok (opened e) n → Proper e × (b ≡ endpoint_bytes e) × (length b ≤ limit) × (n ≡ length b))
    × (Proper e → b ≡ endpoint_bytes e → length b ≤ limit → open_endpoint b ≡ ok (opened e) (length b))

-- another type, an encapsulation of any content, nothing after it
pub record Other (b : List ℕ) (k : ℕ) : Type 0 where
  pub kind_pattern : k < 2 ^ 16
  pub kind_other : Dials k → ⊥
  pub content : List ℕ
  pub enough : 2 ≤ length content
  pub whole : b ≡ le_bytes 2 k ++ (le_bytes 4 (4 + length content) ++ content)
  pub short : length b ≤ limit

abbrev pub OtherExact : Type 0
OtherExact =
    (b : List ℕ) (k n : ℕ) → Bytes b
    → (open_endpoint b ≡ ok (unopened k) n → Other b k × (n ≡ length b)) × (Other b k → open_endpoint b ≡ ok (unopened k) (length b))

abbrev pub HostThere : Type 0
HostThere =
    (b : List ℕ) (e : Address) (n : ℕ) → Bytes b → open_endpoint b ≡ ok (opened e) n
    → (host_place (length e.host) + length e.host ≤ length b) × (take (length e.host) (drop (host_place (length e.host)) b) ≡ e.host)

-- The timeout of UDP comes back as 0. Rules out a writer that touches nothing, or leaves out the timeout.
abbrev pub EndpointBack : Type 0
EndpointBack =
    (k : ℕ) (h : List ℕ) (p t c room : ℕ) (b : List ℕ) → Bytes h → t < 2 ^ 32 → c < 2
    → endpoint_writing k h p t c room ≡ out b → open_endpoint b ≡ ok (opened (address_of k h p t c)) (length b)

abbrev pub EndpointAgain : Type 0
EndpointAgain =
    (b : List ℕ) (e : Address) (n room : ℕ) → Bytes b → open_endpoint b ≡ ok (opened e) n → length b ≤ room
    → endpoint_writing e.kind e.host e.port e.timeout e.compress room ≡ out b

-- a port
abbrev pub Port : ℕ → Type 0
Port p = (0 < p) × (p < 2 ^ 16)

-- the bytes that the writer makes if it refuses nothing
abbrev pub Needed : ℕ → List ℕ → ℕ → ℕ → ℕ → List ℕ
Needed k h p t c = endpoint_bytes (address_of k h p t c)

-- when each refusal of the writer comes, each after those before it
pub record WriteRefusals (k : ℕ) (h : List ℕ) (p t c room : ℕ) : Type 0 where
  pub no_type : (Dials k → ⊥) → endpoint_writing k h p t c room ≡ stop 2 0
  pub too_long_lem : Dials k → limit < length h → endpoint_writing k h p t c room ≡ stop 3 0
  pub no_text : Dials k → length h ≤ limit → (Utf8 h → ⊥) → endpoint_writing k h p t c room ≡ stop 24 0
  pub no_port_lem : Dials k → length h ≤ limit → Utf8 h → (Port p → ⊥) → endpoint_writing k h p t c room ≡ stop 27 0
  pub no_room : Dials k → length h ≤ limit → Utf8 h → Port p
      → ((length (Needed k h p t c) ≤ limit) × (length (Needed k h p t c) ≤ room) → ⊥)
      → endpoint_writing k h p t c room ≡ stop 22 (length (Needed k h p t c))
  pub written : Dials k → Utf8 h → Port p → length (Needed k h p t c) ≤ limit → length (Needed k h p t c) ≤ room
      → endpoint_writing k h p t c room ≡ out (Needed k h p t c)

abbrev pub WriteRefused : Type 0
WriteRefused = (k : ℕ) (h : List ℕ) (p t c room : ℕ) → WriteRefusals k h p t c room

-- the numbers by which opening refuses
pub data OpenNumber : ℕ → Type 0 where
  too_long_lem : OpenNumber 3
  cut : OpenNumber 4
  version : OpenNumber 6
  size : OpenNumber 7
  bool : OpenNumber 8
  left_over : OpenNumber 11
  behind : OpenNumber 18
  text : OpenNumber 24
  port : OpenNumber 27

abbrev pub OpenWithin : Type 0
OpenWithin = (b : List ℕ) (c p : ℕ) → open_endpoint b ≡ bad c p → OpenNumber c × (p ≤ length b)

-- ---- refusals of opening

-- an endpoint of type k that declares the bytes d, then whatever follows
abbrev pub Framed : ℕ → List ℕ → List ℕ → List ℕ
Framed k d w = le_bytes 2 k ++ (le_bytes 4 (4 + length d) ++ d ++ w)

-- where the port is, after the host h
abbrev pub port_place : List ℕ → ℕ
port_place h = 8 + length (string_bytes h)

-- the bytes t of a timeout in an endpoint of type k: four, none in UDP
pub data Timeout : ℕ → List ℕ → Type 0 where
  four : {k : ℕ} {t : List ℕ} → (k ≡ 3 → ⊥) → length t ≡ 4 → Timeout k t
  none : Timeout 3 []

-- where compress is, after the host h and the timeout's bytes t
abbrev pub compress_place : List ℕ → List ℕ → ℕ
compress_place h t = port_place h + 4 + length t

-- What an endpoint holds is judged before `w`, the bytes after it. Each list of bytes is within the limit.
pub record OpenRefusals : Type 0 where
  pub too_long_lem : (b : List ℕ) → limit < length b → open_endpoint b ≡ bad 3 0
  pub no_type : (b : List ℕ) → length b < 2 → open_endpoint b ≡ bad 4 0
  pub no_size_lem : (b : List ℕ) → 2 ≤ length b → length b < 6 → open_endpoint b ≡ bad 4 2
  pub size_low : (k n : ℕ) (w : List ℕ) → k < 2 ^ 16 → n < 6 → length w + 6 ≤ limit → open_endpoint (le_bytes 2 k ++ (le_bytes 4 n ++ w)) ≡ bad 11 2
  pub size_negative : (k n : ℕ) (w : List ℕ) → k < 2 ^ 16 → 2 ^ 31 ≤ n → n < 2 ^ 32 → length w + 6 ≤ limit → open_endpoint (le_bytes 2 k ++ (le_bytes 4 n ++ w)) ≡ bad 11 2
  pub size_far : (k n : ℕ) (w : List ℕ) → k < 2 ^ 16 → 6 ≤ n → n < 2 ^ 31 → length w + 4 < n → length w + 6 ≤ limit → open_endpoint (le_bytes 2 k ++ (le_bytes 4 n ++ w)) ≡ bad 4 2
  pub other_version : (k x y : ℕ) (r w : List ℕ) → Dials k → x < 256 → y < 256 → ((x ≡ 1) × (y ≡ 1) → ⊥) → length (Framed k (x ∷ y ∷ r) w) ≤ limit
      → open_endpoint (Framed k (x ∷ y ∷ r) w) ≡ bad 6 6
  pub bad_host : (k : ℕ) (r w : List ℕ) (c q : ℕ) → Dials k → string r ≡ bad c q → length (Framed k (1 ∷ 1 ∷ r) w) ≤ limit
      → open_endpoint (Framed k (1 ∷ 1 ∷ r) w) ≡ bad c (8 + q)
  pub no_port_lem : (k : ℕ) (h u w : List ℕ) → Dials k → Utf8 h → length u < 4 → length (Framed k (1 ∷ 1 ∷ (string_bytes h ++ u)) w) ≤ limit
      → open_endpoint (Framed k (1 ∷ 1 ∷ (string_bytes h ++ u)) w) ≡ bad 4 (port_place h)
  pub bad_port : (k : ℕ) (h : List ℕ) (p : ℕ) (u w : List ℕ) → Dials k → Utf8 h → p < 2 ^ 32 → (Port p → ⊥) → length (Framed k (1 ∷ 1 ∷ (string_bytes h ++ (le_bytes 4 p ++ u))) w) ≤ limit
      → open_endpoint (Framed k (1 ∷ 1 ∷ (string_bytes h ++ (le_bytes 4 p ++ u))) w) ≡ bad 27 (port_place h)
  pub no_timeout : (k : ℕ) (h : List ℕ) (p : ℕ) (u w : List ℕ) → Dials k → (k ≡ 3 → ⊥) → Utf8 h → Port p → length u < 4 → length (Framed k (1 ∷ 1 ∷ (string_bytes h ++ (le_bytes 4 p ++ u))) w) ≤ limit
      → open_endpoint (Framed k (1 ∷ 1 ∷ (string_bytes h ++ (le_bytes 4 p ++ u))) w) ≡ bad 4 (port_place h + 4)
  pub no_compress : (k : ℕ) (h : List ℕ) (p : ℕ) (t w : List ℕ) → Dials k → Utf8 h → Port p → Timeout k t → length (Framed k (1 ∷ 1 ∷ (string_bytes h ++ (le_bytes 4 p ++ t))) w) ≤ limit
      → open_endpoint (Framed k (1 ∷ 1 ∷ (string_bytes h ++ (le_bytes 4 p ++ t))) w) ≡ bad 4 (compress_place h t)
  pub bad_compress : (k : ℕ) (h : List ℕ) (p : ℕ) (t : List ℕ) (x : ℕ) (u w : List ℕ) → Dials k → Utf8 h → Port p → Timeout k t → 2 ≤ x → length (Framed k (1 ∷ 1 ∷ (string_bytes h ++ (le_bytes 4 p ++ (t ++ (x ∷ u))))) w) ≤ limit
      → open_endpoint (Framed k (1 ∷ 1 ∷ (string_bytes h ++ (le_bytes 4 p ++ (t ++ (x ∷ u))))) w) ≡ bad 8 (compress_place h t)
  pub left_over : (e : Address) (x : ℕ) (r w : List ℕ) → Proper e → length (Framed e.kind (1 ∷ 1 ∷ (address_bytes e ++ (x ∷ r))) w) ≤ limit
      → open_endpoint (Framed e.kind (1 ∷ 1 ∷ (address_bytes e ++ (x ∷ r))) w) ≡ bad 11 2
  pub behind : (e : Address) (x : ℕ) (r : List ℕ) → Proper e → length (endpoint_bytes e ++ (x ∷ r)) ≤ limit
      → open_endpoint (endpoint_bytes e ++ (x ∷ r)) ≡ bad 18 (length (endpoint_bytes e))
  pub behind_other : (k : ℕ) (d : List ℕ) (x : ℕ) (r : List ℕ) → k < 2 ^ 16 → (Dials k → ⊥) → 2 ≤ length d → length (Framed k d (x ∷ r)) ≤ limit
      → open_endpoint (Framed k d (x ∷ r)) ≡ bad 18 (6 + length d)

abbrev pub OpenRefused : Type 0
OpenRefused = OpenRefusals
