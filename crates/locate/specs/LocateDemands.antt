-- What is promised of finding an endpoint in its proxy (M-106), each promise in full, to be read without its proof.
--
--   LocateRefused    a proxy is refused as the reader refuses it; then 18 for bytes after it
--   LocateThere      of an accepted proxy each endpoint is found
use Rattle.std.specs.Prelude.{◌≡◌, false, List, ℕ, ◌+◌, ◌≤◌, ◌<◌, length, drop}
use Rattle.encoding.specs.Result.{ok, bad}
use Rattle.encoding.specs.Proxy.{endpoint, proxy}
use Rattle.encoding.specs.Message.{limit}
use Rattle.locate.specs.Locate.{Spot, locating}

-- A proxy that the reader refuses is refused with the same number and place; bytes after a proxy are 18.
pub record LocateRefusals (i : ℕ) (p : List ℕ) : Type 0 where
  pub too_long_lem : limit < length p → locating i p ≡ bad 3 0
  pub refused : (c q : ℕ) → length p ≤ limit → proxy false p ≡ bad c q → locating i p ≡ bad c q
  pub behind : (n : ℕ) → length p ≤ limit → proxy false p ≡ ok tt n → n < length p → locating i p ≡ bad 18 n

abbrev pub LocateRefused : Type 0
LocateRefused = (i : ℕ) (p : List ℕ) → LocateRefusals i p

-- what is found: endpoint i is there, or there are no more than i
pub record Found (i : ℕ) (p : List ℕ) (s : Spot) : Type 0 where
  pub is_there : i < s.count → endpoint (drop s.place p) ≡ ok tt s.len
  pub within : s.place + s.len ≤ length p
  pub is_none_lem : s.count ≤ i → (s.place ≡ 0) × (s.len ≡ 0)

-- Of an accepted proxy each endpoint is found. Rules out a call that refuses it or that gives another part of it.
abbrev pub LocateThere : Type 0
LocateThere = (i : ℕ) (p : List ℕ) → length p ≤ limit → proxy false p ≡ ok tt (length p) → (s : Spot) × (n : ℕ) × (locating i p ≡ ok s n) × Found i p s
