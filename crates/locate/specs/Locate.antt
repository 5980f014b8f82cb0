-- Where an endpoint is in its proxy (encoding 1.1).
--
--   Spot             how many endpoints there are; place and length of one
--   counted, referenced, generals    a proxy up to its endpoint count, which is read; nil has none
--   started, apart   the count with the bytes before the first endpoint; where endpoint i is among the endpoints
--   placed, spot_at   where endpoint i is in the proxy, counted from 0
--   unless_bad, locating i            3, the proxy's own refusals, 18 for what is after it; then where endpoint i is
--   spot n a l, spotted   an answer as the functions within return it
--   located_of        the answer as the call returns it; located_numbers: its five numbers
--   located_within    22 where too few bytes are lent for the three numbers; three_bytes, with_located: the numbers as bytes; the lent bytes after the call
--   RoomyAt          so many lent bytes hold the three numbers of an answer that has some
use Rattle.std.specs.Prelude.{false, List, [], ◌∷◌, ◌++◌, ℕ, ◌+◌, ◌≤◌, length, drop, eqb, leb, ltb, Result, Ok}
use Rattle.encoding.specs.Result.{Res, ok, bad, Parser, pick, ◌>>=◌, pure, skip, mapc, times, first_of}
use Rattle.encoding.specs.Number.{size, le_bytes}
use Rattle.encoding.specs.Proxy.{facets, endpoint, proxy}
use Rattle.proxy.specs.Parts.{named}
use Rattle.encoding.specs.Message.{ended, limit, refused_first}
use Rattle.wire.specs.declared.Refusal.{Refusal}
use Rattle.wire.specs.Steps.{refused}
use Rattle.locate.specs.declared.Spot.{Spot as Spotted}
use Rattle.locate.specs.declared.Located.{Located}
use Rattle.locate.specs.declared.Located.TheVariants.{At, Refused}

-- how many, where, how long
pub record Spot : Type 0 where
  pub count : ℕ
  pub place : ℕ
  pub len : ℕ

-- mode, secure, protocol and encoding, six bytes that the proxy reader judges, then how many endpoints there are
unfoldable pub counted : Parser ℕ
counted = skip 6 >>= λ _. size

-- the facets, then the same
unfoldable pub referenced : Parser ℕ
referenced = facets >>= λ _. counted

-- the identity, then the same; nil has no endpoints
unfoldable pub generals : Parser ℕ
generals = named >>= λ n. pick (eqb n 0) (pure 0) referenced

-- how many endpoints there are, and the bytes before the first
unfoldable pub started : Parser (ℕ × ℕ)
started = mapc (λ n h. (n, h)) generals

-- of endpoints one after another: the bytes before endpoint i, and its own
unfoldable pub apart : ℕ → Parser (ℕ × ℕ)
apart i = mapc (λ _ m. m) (times i endpoint) >>= λ m. mapc (λ _ l. (m, l)) endpoint

-- endpoint i of the n that follow the first h bytes
unfoldable pub placed : ℕ → ℕ → ℕ → Parser Spot
placed i n h = mapc (λ (e : ℕ × ℕ) _. record { count = n; place = h + e.0; len = e.1 }) (apart i)

-- where endpoint i is; 0, 0 if there is none
unfoldable pub spot_at : ℕ → Parser Spot
spot_at i = started >>= λ (s : ℕ × ℕ). pick (ltb i s.0) (placed i s.0 s.1) (pure (record { count = s.0; place = 0; len = 0 }))

-- one reading judges, another answers
unfoldable pub unless_bad : {A B : Type 0} → Res A → Res B → Res B
unless_bad (ok a n) r = r
unless_bad (bad c p) r = bad c p

-- 3, then all of the proxy is judged, 18 for what is after it; then the answer
unfoldable pub locating : ℕ → Parser Spot
locating i p = refused_first (first_of ((3, ltb limit (length p)) ∷ [])) (unless_bad ((proxy false >>= ended) p) (spot_at i p))

-- ---- the answer

-- an answer as the functions within return it
abbrev pub spot : ℕ → ℕ → ℕ → Result Spotted Refusal
spot n a l = Ok (record { count = n; place = a; len = l })

unfoldable pub spotted : Res Spot → Result Spotted Refusal
spotted (ok s n) = spot s.count s.place s.len
spotted (bad c p) = refused c p

-- an answer as the call returns it
unfoldable pub located_of : Res Spot → Located
located_of (ok s n) = At s.count s.place s.len
located_of (bad c p) = Refused c p

-- refusal, place, then how many, where, how long
unfoldable pub located_numbers : Located → List ℕ
located_numbers (At n a l) = 0 ∷ 0 ∷ n ∷ a ∷ l ∷ []
located_numbers (Refused c p) = c ∷ p ∷ 0 ∷ 0 ∷ 0 ∷ []

-- 22 at 12, last, where fewer bytes are lent for the three numbers
unfoldable pub located_within : ℕ → Located → Located
located_within lent (At n a l) = pick (leb 12 lent) (At n a l) (Refused 22 12)
located_within lent (Refused c p) = Refused c p

-- the three numbers, 32 bits each
unfoldable pub three_bytes : ℕ → ℕ → ℕ → List ℕ
three_bytes n a l = le_bytes 4 n ++ le_bytes 4 a ++ le_bytes 4 l

-- the lent bytes after the call: bytes beyond the numbers stay, on a refusal all
unfoldable pub with_located : Located → List ℕ → List ℕ
with_located (At n a l) lent = three_bytes n a l ++ drop 12 lent
with_located (Refused c p) lent = lent

-- there is room for the numbers of an answer that has some
unfoldable pub RoomyAt : Located → ℕ → Type 0
RoomyAt (At n a l) room = 12 ≤ room
RoomyAt (Refused c p) room = Unit {0}
