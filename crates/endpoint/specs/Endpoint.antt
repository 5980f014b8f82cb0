-- One endpoint of a proxy, opened and written (document 02, M-106; document 004).
--
--   Address                type, host, port, timeout, compress: what an endpoint of TCP (1), SSL (2) and UDP (3) holds
--   Endpoint               what opening gives: an address, or the type of an endpoint that is not opened
--   opens, timed, no_port   the type is one that is opened; it has a timeout; a number is no port
--   timeout_bytes, address_bytes    an address as it is written; endpoint_bytes with its type and its encapsulation
--   port_form, port, timeout, flag    the readers of its fields; address k: all of them, for type k
--   endpoint_version, versioned k     version 1.1, then the address
--   encapsulated k         an encapsulation of these, or of anything if the type is not opened
--   typed                  the type, then the encapsulation, and nothing after it
--   open_endpoint           3, then these: the reader of one endpoint
--   host_place              where the host begins, its size not counted
--   opened_of               the answer as the call returns it; opened_numbers: its nine numbers
--   opened_within           22 where too few bytes are lent for the seven numbers; seven_bytes, with_opened: the numbers as bytes; the lent bytes after the call
--   address_of              the address that the writer's arguments name; argument_form: 2, 3, 24, 27
--   endpoint_writing        the writer: the endpoint's bytes or a refusal, 22 last
use Rattle.std.specs.Prelude.{Bool, ◌||◌, not, List, [], ◌∷◌, ◌++◌, ℕ, ◌+◌, length, drop, eqb, leb, ltb}
use Rattle.encoding.specs.Result.{Res, ok, bad, Parser, pick, ◌>>=◌, pure, must, mapc, inside, first_of}
use Rattle.encoding.specs.Utf8.{is_utf8}
use Rattle.encoding.specs.Number.{number, byte, le_bytes, size_bytes, string, string_bytes, declared, bool_form}
use Rattle.encoding.specs.Slice.{sliced}
use Rattle.encoding.specs.Message.{v11, version11, encapsulate, ended, limit, refused_first}
use Rattle.encoding.specs.Write.{Out, next, stopped_first, bounded}
use Rattle.endpoint.specs.declared.Opened.{Opened}
use Rattle.endpoint.specs.declared.Opened.TheVariants.{Is, Unopened, Refused}

-- type 1, 2 or 3; the host's bytes; port; timeout, an int's pattern, 0 in UDP; compress 0 or 1
pub record Address : Type 0 where
  pub kind : ℕ
  pub host : List ℕ
  pub port : ℕ
  pub timeout : ℕ
  pub compress : ℕ

-- what opening gives
pub data Endpoint : Type 0 where
  opened : Address → Endpoint
  unopened : (kind : ℕ) → Endpoint

-- TCP, SSL, UDP
unfoldable pub opens : ℕ → Bool
opens k = eqb k 1 || (eqb k 2 || eqb k 3)

-- UDP has no timeout
unfoldable pub timed : ℕ → Bool
timed k = not (eqb k 3)

-- ports are 1 to 65,535; a negative int is above
unfoldable pub no_port : ℕ → Bool
no_port p = eqb p 0 || ltb 65535 p

-- ---- as it is written

-- none in UDP
unfoldable pub timeout_bytes : ℕ → ℕ → List ℕ
timeout_bytes k t = pick (timed k) (le_bytes 4 t) []

-- host, port, timeout unless UDP, compress
unfoldable pub address_bytes : Address → List ℕ
address_bytes e = string_bytes e.host ++ (le_bytes 4 e.port ++ (timeout_bytes e.kind e.timeout ++ (e.compress ∷ [])))

-- the type, and an encapsulation of the address
unfoldable pub endpoint_bytes : Address → List ℕ
endpoint_bytes e = le_bytes 2 e.kind ++ encapsulate (v11 sliced) (address_bytes e)

-- ---- opening

-- 27 where a number is no port
unfoldable pub port_form : ℕ → ℕ
port_form p = pick (no_port p) 27 0

-- 4, then 27, at the port
unfoldable pub port : Parser ℕ
port = must port_form (number 4)

-- any int; none in UDP, answered as 0
unfoldable pub timeout : ℕ → Parser ℕ
timeout k = pick (timed k) (number 4) (pure 0)

-- compress: 0 or 1
unfoldable pub flag : Parser ℕ
flag = must bool_form byte

-- the fields of an endpoint of type k; its host is a string, with its 4, 7 and 24
unfoldable pub address : ℕ → Parser Address
address k = do
  h ← string
  p ← port
  t ← timeout k
  mapc (λ c _. record { kind = k; host = h; port = p; timeout = t; compress = c }) flag

-- 6 for every version but 1.1
unfoldable pub endpoint_version : ℕ → ℕ
endpoint_version v = pick (eqb v version11) 0 6

-- version 1.1, else 6, then the fields
unfoldable pub versioned : ℕ → Parser Address
versioned k = must endpoint_version (number 2) >>= λ _. address k

-- a type that is opened: the fields use the encapsulation up, else 11 at its size; another: its size alone is judged
unfoldable pub encapsulated : ℕ → Parser Endpoint
encapsulated k = pick (opens k) (mapc (λ e _. opened e) (inside (declared 6 4) (versioned k))) (mapc (λ _ _. unopened k) (declared 6 4))

-- the type, its encapsulation, 18 for what is after it
unfoldable pub typed : Parser Endpoint
typed = number 2 >>= encapsulated >>= ended

-- 3 for too many bytes, then the type and the rest
unfoldable pub open_endpoint : Parser Endpoint
open_endpoint b = refused_first (first_of ((3, ltb limit (length b)) ∷ [])) (typed b)

-- ---- the answer of opening

-- type, size and version, then the host's size
unfoldable pub host_place : ℕ → ℕ
host_place n = 8 + length (size_bytes n)

-- an answer as the call returns it
unfoldable pub opened_of : Res Endpoint → Opened
opened_of (ok (opened e) n) = Is e.kind (host_place (length e.host)) (length e.host) e.port e.timeout e.compress
opened_of (ok (unopened k) n) = Unopened k
opened_of (bad c p) = Refused c p

-- refusal, place, then opened or not, type, host's place and length, port, timeout, compress
unfoldable pub opened_numbers : Opened → List ℕ
opened_numbers (Is k a n p t c) = 0 ∷ 0 ∷ 1 ∷ k ∷ a ∷ n ∷ p ∷ t ∷ c ∷ []
opened_numbers (Unopened k) = 0 ∷ 0 ∷ 0 ∷ k ∷ 0 ∷ 0 ∷ 0 ∷ 0 ∷ 0 ∷ []
opened_numbers (Refused c p) = c ∷ p ∷ 0 ∷ 0 ∷ 0 ∷ 0 ∷ 0 ∷ 0 ∷ 0 ∷ []

-- 22 at 28, last, where fewer bytes are lent for the seven numbers
unfoldable pub opened_within : ℕ → Opened → Opened
opened_within lent (Is k a n p t c) = pick (leb 28 lent) (Is k a n p t c) (Refused 22 28)
opened_within lent (Unopened k) = pick (leb 28 lent) (Unopened k) (Refused 22 28)
opened_within lent (Refused c p) = Refused c p

-- the seven numbers, 32 bits each
unfoldable pub seven_bytes : ℕ → ℕ → ℕ → ℕ → ℕ → ℕ → ℕ → List ℕ
seven_bytes o k a n p t c = le_bytes 4 o ++ le_bytes 4 k ++ le_bytes 4 a ++ le_bytes 4 n ++ le_bytes 4 p ++ le_bytes 4 t ++ le_bytes 4 c

-- the lent bytes after the call: bytes beyond the numbers stay, on a refusal all
unfoldable pub with_opened : Opened → List ℕ → List ℕ
with_opened (Is k a n p t c) lent = seven_bytes 1 k a n p t c ++ drop 28 lent
with_opened (Unopened k) lent = seven_bytes 0 k 0 0 0 0 0 ++ drop 28 lent
with_opened (Refused c p) lent = lent

-- ---- the writer

-- a timeout given for UDP is ignored
unfoldable pub address_of : ℕ → List ℕ → ℕ → ℕ → ℕ → Address
address_of k h p t c = record { kind = k; host = h; port = p; timeout = pick (timed k) t 0; compress = c }

-- 2 for another type, 3, 24, 27
unfoldable pub argument_form : ℕ → List ℕ → ℕ → ℕ
argument_form k h p = first_of ((2, not (opens k)) ∷ (3, ltb limit (length h)) ∷ (24, not (is_utf8 h)) ∷ (27, no_port p) ∷ [])

-- the arguments judged, then the bytes, 22 last
unfoldable pub endpoint_writing : ℕ → List ℕ → ℕ → ℕ → ℕ → ℕ → Out (List ℕ)
endpoint_writing k h p t c room = next (stopped_first (argument_form k h p)) λ _. bounded room (endpoint_bytes (address_of k h p t c))
