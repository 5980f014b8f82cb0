-- Endpoints byte by byte: two of document 004's layouts opened and written, and each refusal of opening by a call on a few bytes.
--
--   tcp, udp                 TCP and UDP to port 4061 of host `hub`, timeout 60,000, compressed
--   opened_right             their numbers
--   opened_refused           each refusal with its place, also where what follows is wrong too
--   written_right            the writer makes just these bytes; a timeout given for UDP is not written
use Rattle.std.specs.Prelude.{◌≡◌, refl, List, [], ◌∷◌, ◌++◌, map, ℕ}
use Rattle.encoding.specs.Write
use Rattle.encoding.proofs.Cases.{computed}
use Rattle.endpoint.specs.Endpoint

abbrev pub tcp : List ℕ
tcp = 1 ∷ 0 ∷ 19 ∷ 0 ∷ 0 ∷ 0 ∷ 1 ∷ 1 ∷ 3 ∷ 104 ∷ 117 ∷ 98 ∷ 221 ∷ 15 ∷ 0 ∷ 0 ∷ 96 ∷ 234 ∷ 0 ∷ 0 ∷ 1 ∷ []

abbrev pub udp : List ℕ
udp = 3 ∷ 0 ∷ 15 ∷ 0 ∷ 0 ∷ 0 ∷ 1 ∷ 1 ∷ 3 ∷ 104 ∷ 117 ∷ 98 ∷ 221 ∷ 15 ∷ 0 ∷ 0 ∷ 1 ∷ []

-- what opening answers, as numbers
unfoldable pub numbers_of : List ℕ → List ℕ
unfolding Endpoint.opened_numbers Endpoint.opened_of
numbers_of b = Endpoint.opened_numbers (Endpoint.opened_of (Endpoint.open_endpoint b))

unfoldable all_open : ℕ
unfolding computed numbers_of Endpoint.opens Endpoint.timed Endpoint.no_port Endpoint.timeout_bytes Endpoint.address_bytes Endpoint.endpoint_bytes Endpoint.port_form Endpoint.port Endpoint.timeout Endpoint.flag Endpoint.address Endpoint.endpoint_version Endpoint.versioned Endpoint.encapsulated Endpoint.typed Endpoint.open_endpoint Endpoint.host_place Endpoint.opened_of Endpoint.opened_numbers Endpoint.address_of Endpoint.argument_form Endpoint.endpoint_writing Write.next Write.stopped_first Write.bounded
all_open = 0

pub opened_right : map numbers_of (tcp ∷ udp ∷ (4 ∷ 0 ∷ 6 ∷ 0 ∷ 0 ∷ 0 ∷ 9 ∷ 9 ∷ []) ∷ [])
    ≡ (0 ∷ 0 ∷ 1 ∷ 1 ∷ 9 ∷ 3 ∷ 4061 ∷ 60000 ∷ 1 ∷ []) ∷ (0 ∷ 0 ∷ 1 ∷ 3 ∷ 9 ∷ 3 ∷ 4061 ∷ 0 ∷ 1 ∷ []) ∷ (0 ∷ 0 ∷ 0 ∷ 4 ∷ 0 ∷ 0 ∷ 0 ∷ 0 ∷ 0 ∷ []) ∷ []
unfolding all_open
opened_right = refl

-- a refusal and its place alone
abbrev pub refused : ℕ → ℕ → List ℕ
refused c p = c ∷ p ∷ 0 ∷ 0 ∷ 0 ∷ 0 ∷ 0 ∷ 0 ∷ 0 ∷ []

pub opened_refused : map numbers_of
    ((1 ∷ [])
    ∷ (1 ∷ 0 ∷ 7 ∷ 0 ∷ 0 ∷ 0 ∷ 1 ∷ 1 ∷ [])
    ∷ (1 ∷ 0 ∷ 5 ∷ 0 ∷ 0 ∷ 0 ∷ 1 ∷ 1 ∷ [])
    ∷ (1 ∷ 0 ∷ 6 ∷ 0 ∷ 0 ∷ 0 ∷ 1 ∷ 0 ∷ 7 ∷ [])
    ∷ (1 ∷ 0 ∷ 7 ∷ 0 ∷ 0 ∷ 0 ∷ 1 ∷ 1 ∷ 3 ∷ 7 ∷ [])
    ∷ (1 ∷ 0 ∷ 11 ∷ 0 ∷ 0 ∷ 0 ∷ 1 ∷ 1 ∷ 255 ∷ 3 ∷ 0 ∷ 0 ∷ 0 ∷ 7 ∷ [])
    ∷ (1 ∷ 0 ∷ 8 ∷ 0 ∷ 0 ∷ 0 ∷ 1 ∷ 1 ∷ 1 ∷ 255 ∷ 7 ∷ [])
    ∷ (1 ∷ 0 ∷ 11 ∷ 0 ∷ 0 ∷ 0 ∷ 1 ∷ 1 ∷ 0 ∷ 0 ∷ 0 ∷ 0 ∷ 0 ∷ 7 ∷ [])
    ∷ (1 ∷ 0 ∷ 11 ∷ 0 ∷ 0 ∷ 0 ∷ 1 ∷ 1 ∷ 0 ∷ 0 ∷ 0 ∷ 1 ∷ 0 ∷ 7 ∷ [])
    ∷ (1 ∷ 0 ∷ 11 ∷ 0 ∷ 0 ∷ 0 ∷ 1 ∷ 1 ∷ 0 ∷ 1 ∷ 0 ∷ 0 ∷ 0 ∷ 7 ∷ [])
    ∷ (1 ∷ 0 ∷ 15 ∷ 0 ∷ 0 ∷ 0 ∷ 1 ∷ 1 ∷ 0 ∷ 1 ∷ 0 ∷ 0 ∷ 0 ∷ 9 ∷ 9 ∷ 9 ∷ 9 ∷ 7 ∷ [])
    ∷ (3 ∷ 0 ∷ 11 ∷ 0 ∷ 0 ∷ 0 ∷ 1 ∷ 1 ∷ 0 ∷ 1 ∷ 0 ∷ 0 ∷ 0 ∷ 7 ∷ [])
    ∷ (1 ∷ 0 ∷ 16 ∷ 0 ∷ 0 ∷ 0 ∷ 1 ∷ 1 ∷ 0 ∷ 1 ∷ 0 ∷ 0 ∷ 0 ∷ 9 ∷ 9 ∷ 9 ∷ 9 ∷ 2 ∷ 7 ∷ [])
    ∷ (3 ∷ 0 ∷ 12 ∷ 0 ∷ 0 ∷ 0 ∷ 1 ∷ 1 ∷ 0 ∷ 1 ∷ 0 ∷ 0 ∷ 0 ∷ 2 ∷ 7 ∷ [])
    ∷ (3 ∷ 0 ∷ 13 ∷ 0 ∷ 0 ∷ 0 ∷ 1 ∷ 1 ∷ 0 ∷ 1 ∷ 0 ∷ 0 ∷ 0 ∷ 1 ∷ 0 ∷ 7 ∷ [])
    ∷ (tcp ++ (7 ∷ []))
    ∷ (4 ∷ 0 ∷ 6 ∷ 0 ∷ 0 ∷ 0 ∷ 9 ∷ 9 ∷ 7 ∷ [])
    ∷ [])
    ≡ refused 4 0 ∷ refused 4 2 ∷ refused 11 2 ∷ refused 6 6 ∷ refused 4 8 ∷ refused 7 8 ∷ refused 24 8 ∷ refused 27 9 ∷ refused 27 9 ∷ refused 4 13
    ∷ refused 4 17 ∷ refused 4 13 ∷ refused 8 17 ∷ refused 8 13
    ∷ refused 11 2 ∷ refused 18 21 ∷ refused 18 8 ∷ []
unfolding all_open
opened_refused = refl

pub written_right : Endpoint.endpoint_writing 1 (104 ∷ 117 ∷ 98 ∷ []) 4061 60000 1 21 ∷ Endpoint.endpoint_writing 3 (104 ∷ 117 ∷ 98 ∷ []) 4061 60000 1 17 ∷ []
    ≡ Write.out tcp ∷ Write.out udp ∷ []
unfolding all_open
written_right = refl
