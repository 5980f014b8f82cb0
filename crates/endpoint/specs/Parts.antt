-- Parts of an address that are functions of their own in the code, and what the code answers of them.
--
--   settings k       timeout and compress
--   tail k           port, then those
--   Four             host's length, port, timeout, compress
--   fields_of g r     these four, by g from what was read, and the bytes taken; or the refusal
--   fields_later n r  such an answer of what comes n bytes later; FieldsFit: its sums do not wrap
--   settings_fields, tail_fields, address_fields
--                    the answers of the functions: with the host's length and the port where they were read before
--   any_inside k, address_inside k
--                    an encapsulation of any content; of an address
--   whole p          the type's two bytes, then p, and nothing after it
--   int_bytes l       numbers as bytes, 32 bits each, one after another
--   Roomy o room     so many lent bytes hold the seven numbers of an answer that has some
use Rattle.std.specs.Prelude.{List, ℕ, ◌+◌, ◌^◌, ◌≤◌, ◌<◌, length, Result, Ok, Err}
use Rattle.encoding.specs.Result.{Res, ok, bad, Parser, ◌>>=◌, skip, mapc, inside, concat}
use Rattle.encoding.specs.Number.{declared, le_bytes}
use Rattle.encoding.specs.Message.{ended}
use Rattle.endpoint.specs.Endpoint.{Address, Endpoint, opened, unopened, port, timeout, flag, versioned}
use Rattle.endpoint.specs.declared.Opened.{Opened}
use Rattle.endpoint.specs.declared.Opened.TheVariants.{Is, Unopened, Refused}
use Rattle.endpoint.specs.declared.fields.Fields.{Fields}
use Rattle.wire.specs.declared.Refusal.{Refusal}
use Rattle.wire.specs.Steps.{refused, behind}

unfoldable pub settings : ℕ → Parser (ℕ × ℕ)
settings k = timeout k >>= λ t. mapc (λ c _. (t, c)) flag

unfoldable pub tail : ℕ → Parser (ℕ × (ℕ × ℕ))
tail k = port >>= λ p. mapc (λ s _. (p, s)) (settings k)

-- host's length, port, timeout, compress
abbrev pub Four : Type 0
Four = ℕ × ℕ × ℕ × ℕ

-- the four and the bytes taken
abbrev pub fields : Four → ℕ → Fields
fields f n = record { host = f.0; port = f.1; timeout = f.2; compress = f.3; bytes = n }

unfoldable pub fields_of : {A : Type 0} → (A → Four) → Res A → Result Fields Refusal
fields_of g (ok a n) = Ok (fields (g a) n)
fields_of g (bad c p) = refused c p

-- the fields that come n bytes later
abbrev pub moved : ℕ → Fields → Fields
moved n f = record { host = f.host; port = f.port; timeout = f.timeout; compress = f.compress; bytes = n + f.bytes }

abbrev pub fields_later : ℕ → Result Fields Refusal → Result Fields Refusal
fields_later n (Ok f) = Ok (moved n f)
fields_later n (Err x) = Err (behind n x)

abbrev pub FieldsFit : ℕ → Result Fields Refusal → Type 0
FieldsFit n (Ok f) = n + f.bytes < 2 ^ 64
FieldsFit n (Err x) = n + x.place < 2 ^ 64

abbrev pub settings_fields : ℕ → ℕ → Res (ℕ × ℕ) → Result Fields Refusal
settings_fields n p = fields_of (λ (s : ℕ × ℕ). (n, p, s.0, s.1))

abbrev pub tail_fields : ℕ → Res (ℕ × (ℕ × ℕ)) → Result Fields Refusal
tail_fields n = fields_of (λ (t : ℕ × (ℕ × ℕ)). (n, t.0, t.1.0, t.1.1))

abbrev pub address_fields : Res Address → Result Fields Refusal
address_fields = fields_of (λ (e : Address). (length e.host, e.port, e.timeout, e.compress))

-- ---- after the type

-- an encapsulation of any content, and of an address
unfoldable pub any_inside : ℕ → Parser Endpoint
any_inside k = mapc (λ _ _. unopened k) (declared 6 4)

unfoldable pub address_inside : ℕ → Parser Endpoint
address_inside k = mapc (λ e _. opened e) (inside (declared 6 4) (versioned k))

-- the two bytes of the type, then p, and nothing after it
unfoldable pub whole : Parser Endpoint → Parser Endpoint
whole p = skip 2 >>= (λ _. p) >>= ended

-- numbers, 32 bits each, one after another
abbrev pub int_bytes : List ℕ → List ℕ
int_bytes l = concat (le_bytes 4) l

-- there is room for the numbers of an answer that has some
unfoldable pub Roomy : Opened → ℕ → Type 0
Roomy (Is k a n p t c) room = 28 ≤ room
Roomy (Unopened k) room = 28 ≤ room
Roomy (Refused c p) room = Unit {0}
