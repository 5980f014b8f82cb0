-- The laws of `Layout`: length_tail, length_head, needed_is, layout.
use Rattle.std.specs.Prelude.{◌≡◌, refl, Bool, true, false, List, [], ◌∷◌, ◌++◌, ℕ, ◌+◌, ◌-◌, length}
use Rattle.std.proofs.Common.{sym, ap, ap₂, ◌∙◌, append_assoc, arith, length-append}
use Rattle.encoding.specs.Result.{pick}
use Rattle.encoding.specs.Number.{le_bytes, size_bytes, string_bytes}
use Rattle.encoding.proofs.NumberLaws.{length_le_bytes}
use Rattle.encoding.specs.Message.{encapsulate}
use Rattle.endpoint.specs.Endpoint.{timed, timeout_bytes, address_bytes, endpoint_bytes, address_of}
use Rattle.endpoint.proofs.EndpointLaws.{length_endpoint}
use Rattle.endpoint.specs.Layout.{needed_length, head_bytes, tail_bytes}

-- a timeout that is not written does not matter
timeout_same : (k t : ℕ) → timeout_bytes k (pick (timed k) t 0) ≡ timeout_bytes k t
unfolding timeout_bytes
timeout_same k t = go (timed k)
  where
    go : (b : Bool) → pick b (le_bytes 4 (pick b t 0)) [] ≡ pick b (le_bytes 4 t) []
    go true = refl
    go false = refl

address_parts : (k : ℕ) (h : List ℕ) (p t c : ℕ) → address_bytes (address_of k h p t c) ≡ size_bytes (length h) ++ h ++ tail_bytes k p t c
unfolding address_bytes address_of string_bytes tail_bytes
address_parts k h p t c = ap (λ (x : List ℕ). size_bytes (length h) ++ h ++ (le_bytes 4 p ++ (x ++ (c ∷ [])))) (timeout_same k t)

length_timeout : (k t : ℕ) → 13 + length (timeout_bytes k t) ≡ pick (timed k) 17 13
unfolding timeout_bytes
length_timeout k t = go (timed k)
  where
    go : (b : Bool) → 13 + length (pick b (le_bytes 4 t) []) ≡ pick b 17 13
    go true = omega (arith, length_le_bytes 4 t)
    go false = refl

pub length_tail : (k p t c : ℕ) → length (tail_bytes k p t c) + 8 ≡ pick (timed k) 17 13
unfolding tail_bytes
length_tail k p t c = omega (arith, length-append (le_bytes 4 p) (timeout_bytes k t ++ (c ∷ [])), length-append (timeout_bytes k t) (c ∷ []), length_le_bytes 4 p, length_timeout k t)

pub length_head : (k n : ℕ) (h : List ℕ) → length (head_bytes k n h) ≡ 8 + length (size_bytes (length h)) + length h
unfolding head_bytes
length_head k n h =
    let a : List ℕ = le_bytes 2 k ++ le_bytes 4 (n - 2) in
    let b : List ℕ = a ++ le_bytes 2 257 in
    omega (arith, length-append (le_bytes 2 k) (le_bytes 4 (n - 2)), length-append a (le_bytes 2 257), length-append b (size_bytes (length h)), length-append (b ++ size_bytes (length h)) h, length_le_bytes 2 k, length_le_bytes 4 (n - 2), length_le_bytes 2 257)

pub needed_is : (k : ℕ) (h : List ℕ) (p t c : ℕ) → length (endpoint_bytes (address_of k h p t c)) ≡ needed_length k (length h)
unfolding needed_length
needed_is k h p t c =
    let S : List ℕ = size_bytes (length h) in
    let q = ap length (address_parts k h p t c) in
    omega (arith, length_endpoint (address_of k h p t c), q, length-append (S ++ h) (tail_bytes k p t c), length-append S h, length_tail k p t c)

pub layout : (k : ℕ) (h : List ℕ) (p t c n : ℕ) → n ≡ length (endpoint_bytes (address_of k h p t c)) → endpoint_bytes (address_of k h p t c) ≡ head_bytes k n h ++ tail_bytes k p t c
unfolding endpoint_bytes encapsulate head_bytes le_bytes address_of
layout k h p t c n e =
    let S : List ℕ = size_bytes (length h) in
    let A : List ℕ = address_bytes (address_of k h p t c) in
    let m : 6 + length A ≡ n - 2 = omega (arith, e, length_endpoint (address_of k h p t c)) in
    let K : List ℕ = le_bytes 2 k in
    let N : List ℕ = le_bytes 4 (n - 2) in
    let J : List ℕ = le_bytes 2 257 in
    ap₂ (λ (i : ℕ) (x : List ℕ). K ++ (le_bytes 4 i ++ (1 ∷ 1 ∷ x))) m (address_parts k h p t c)
    ∙ sym (append_assoc (K ++ N ++ J ++ S) h (tail_bytes k p t c) ∙ append_assoc (K ++ N ++ J) S (h ++ tail_bytes k p t c) ∙ append_assoc (K ++ N) J (S ++ (h ++ tail_bytes k p t c))
    ∙ append_assoc K N (J ++ (S ++ (h ++ tail_bytes k p t c))) ∙ ap (λ (x : List ℕ). K ++ (N ++ (1 ∷ 1 ∷ x))) (sym (append_assoc S h (tail_bytes k p t c))))
