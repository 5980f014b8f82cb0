-- Parts of a proxy's definition that are functions of their own in the code.
--
--   named          an identity, of which the length of the name is kept
--   addresses n    n endpoints, or an adapter where n is 0
--   addressed old  a proxy's protocol, encoding and endpoints; 1.0 has no protocol and encoding
--   secured old    a proxy's secure, then those
--   mode old       a proxy's mode, then those
use Rattle.std.specs.Prelude.{Bool, ℕ, eqb}
use Rattle.encoding.specs.Result.{Parser, pick, ◌>>=◌, must, mapc, times}
use Rattle.encoding.specs.Number.{byte, bool}
use Rattle.encoding.specs.Proxy.{identity, text, mode_form, versions, endpoint, endpoints}

-- nil where the name is empty
unfoldable pub named : Parser ℕ
named = mapc (λ (l : ℕ × ℕ) _. l.0) identity

-- no endpoint: an adapter
unfoldable pub addresses : ℕ → Parser (Unit {0})
addresses n = pick (eqb n 0) text (times n endpoint)

-- protocol and encoding, then the endpoints
unfoldable pub addressed : Bool → Parser (Unit {0})
addressed old = versions old >>= λ _. endpoints

-- secure, then those
unfoldable pub secured : Bool → Parser (Unit {0})
secured old = bool >>= λ _. addressed old

-- mode 0..4, judged at itself
unfoldable pub mode : Bool → Parser (Unit {0})
mode old = must mode_form byte >>= λ _. secured old
