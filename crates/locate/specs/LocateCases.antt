-- Endpoints found in a proxy, byte by byte.
--
--   full, adapted    a proxy with two endpoints; one with an adapter
--   found            how many endpoints there are, place and length of one; a proxy that is refused
use Rattle.std.specs.Prelude.{◌≡◌, refl, List, [], ◌∷◌, ◌++◌, ℕ}
use Rattle.encoding.proofs.Cases.{computed}
use Rattle.proxy.specs.Parts
use Rattle.endpoint.proofs.EndpointCases.{tcp, udp}
use Rattle.locate.specs.Locate

-- identity `n`, no category, no facet, twoway, not secure, protocol 1.0, encoding 1.1
abbrev pub general : List ℕ
general = 1 ∷ 110 ∷ 0 ∷ 0 ∷ 0 ∷ 0 ∷ 1 ∷ 0 ∷ 1 ∷ 1 ∷ []

abbrev pub full : List ℕ
full = general ++ (2 ∷ []) ++ tcp ++ udp

abbrev pub adapted : List ℕ
adapted = general ++ (0 ∷ 1 ∷ 97 ∷ [])

-- what finding answers, as numbers
unfoldable pub spot_of : ℕ → List ℕ → List ℕ
unfolding Locate.located_numbers Locate.located_of
spot_of i p = Locate.located_numbers (Locate.located_of (Locate.locating i p))

pub found : spot_of 0 full ∷ spot_of 1 full ∷ spot_of 2 full ∷ spot_of 0 adapted ∷ spot_of 0 (0 ∷ 0 ∷ []) ∷ spot_of 0 (full ++ (7 ∷ [])) ∷ spot_of 0 (0 ∷ 1 ∷ 97 ∷ []) ∷ []
    ≡ (0 ∷ 0 ∷ 2 ∷ 11 ∷ 21 ∷ []) ∷ (0 ∷ 0 ∷ 2 ∷ 32 ∷ 17 ∷ []) ∷ (0 ∷ 0 ∷ 2 ∷ 0 ∷ 0 ∷ []) ∷ (0 ∷ 0 ∷ 0 ∷ 0 ∷ 0 ∷ []) ∷ (0 ∷ 0 ∷ 0 ∷ 0 ∷ 0 ∷ [])
    ∷ (18 ∷ 49 ∷ 0 ∷ 0 ∷ 0 ∷ []) ∷ (10 ∷ 0 ∷ 0 ∷ 0 ∷ 0 ∷ []) ∷ []
unfolding computed spot_of Parts.named Locate.counted Locate.referenced Locate.generals Locate.started Locate.apart Locate.placed Locate.spot_at Locate.unless_bad Locate.locating Locate.located_of Locate.located_numbers
found = refl
