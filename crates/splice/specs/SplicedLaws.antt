-- Lengths of what is put, and that the parts put one after another are the whole.
--
--   piece_length_lem, exchanged_length, size_is, take_length, head_length, data_length, middle_length, front_length, spliced_length    lengths
--   shaped_cuts, shaped_slice                         a cut of a message, and of its slice
--   spliced_parts                                     the whole from its parts
use Rattle.std.specs.Prelude.{◌≡◌, Bool, true, false, take, eqb, ltb}
use Rattle.std.proofs.Math.Path.{refl, ap}
use Rattle.std.proofs.Common.{sym, ap₂, ◌∙◌, length-take-le, ltb-true}
use mathlib.Core.List.{List, [], ◌∷◌, ◌++◌, append_assoc}
use Prim.Native.Nat.{ℕ, ◌+◌, ◌-◌, ◌*◌, ◌≤◌, ◌<◌}
use native.Mathlib.Omega.{arith}
use Rattle.std.proofs.Math.ListN.{length, drop, length-append, length-drop}
use Rattle.encoding.specs.Result.{pick}
use Rattle.encoding.specs.Number.{le_bytes, size_bytes}
use Rattle.encoding.proofs.NumberLaws.{length_le_bytes}
use Rattle.wire.specs.Put.{form_bits}
use Rattle.pieces.specs.Pieces.{header_field, length_field, optional_field}
use Rattle.edit.specs.Place.{size_after, list_spliced, slice_spliced}
use Rattle.splice.specs.declared.Cut.{Cut}
use Rattle.splice.specs.Spliced.{header_length, field_length, piece_length, piece_of, marker_of, exchanged, size_of, flag_of, head_of, data_of, slice_middle, front_of, spliced, Cuts, Shaped}

pub piece_length_lem : (q : Bool) (t form : ℕ) (b : List ℕ) → length (piece_of q t form b) ≡ piece_length q t form (length b)
unfolding piece_of piece_length optional_field header_field header_length length_field field_length
piece_length_lem true t form b =
    let h : List ℕ = header_field t (form_bits form) in
    let f : List ℕ = length_field form (length b) in
    length-append (h ++ f) b ∙ ap (λ (n : ℕ). n + length b) (length-append h f ∙ ap₂ ◌+◌ (header t (form_bits form)) (field form (length b)))
  where
    header : (t k : ℕ) → length (header_field t k) ≡ header_length t
    header t k = go (ltb t 30)
      where
        go : (q : Bool) → length (pick q ((t * 8 + k) ∷ []) ((240 + k) ∷ size_bytes t)) ≡ pick q 1 (1 + length (size_bytes t))
        go true = refl
        go false = omega arith

    field : (form n : ℕ) → length (length_field form n) ≡ field_length form n
    field form n = go (ltb form 9) (eqb form 9)
      where
        go : (p q : Bool) → length (pick p [] (pick q (size_bytes n) (le_bytes 4 n))) ≡ pick p 0 (pick q (length (size_bytes n)) 4)
        go true q = refl
        go false true = refl
        go false false = length_le_bytes 4 n
piece_length_lem false t form b = refl

pub exchanged_length : (c : Cut) (b : List ℕ) → length (exchanged c b) ≡ piece_length c.setting c.tag c.form (length b) + length (marker_of c.marker)
unfolding exchanged
exchanged_length c b = length-append (piece_of c.setting c.tag c.form b) (marker_of c.marker) ∙ ap (λ (n : ℕ). n + length (marker_of c.marker)) (piece_length_lem c.setting c.tag c.form b)

pub size_is : (c : Cut) (all : ℕ) (b : List ℕ) → size_after all c.from c.to (exchanged c b) ≡ size_of c all (length b)
unfolding size_after size_of
size_is c all b = omega (arith, exchanged_length c b)

module _ (l : ℕ) (c : Cut) (S : Shaped l c) where
  pub shaped_cuts : Cuts l c
  shaped_cuts = record { order = S.order; fewer = omega (arith, S.inside); few = S.few }

  pub shaped_slice : 0 < c.end → Cuts (c.end - c.size) c
  shaped_slice h = record { order = S.order; fewer = omega (arith, S.order, S.ends h, S.data_at h); few = omega (arith, S.few, S.end_at_lem) }

pub take_length : (a n : ℕ) (m : List ℕ) → a + n ≤ length m → length (take n (drop a m)) ≡ n
take_length a n m h = length-take-le n (drop a m) (omega (arith, length-drop a m))

pub head_length : (q : Bool) (flags size : ℕ) (m : List ℕ) → 4 ≤ flags → flags + 1 ≤ size → size ≤ length m → length (head_of q flags size m) ≡ size - 4
unfolding head_of
head_length q flags size m a b d =
    omega (arith, length-append (take (flags - 4) (drop 4 m)) (flag_of q flags m ∷ take (size - (flags + 1)) (drop (flags + 1) m)), take_length 4 (flags - 4) m (omega arith), take_length (flags + 1) (size - (flags + 1)) m (omega arith))

pub data_length : (size from v : ℕ) (m : List ℕ) → size + 4 ≤ from → from ≤ length m → length (data_of size from v m) ≡ from - size
unfolding data_of
data_length size from v m a b =
    omega (arith, length-append (le_bytes 4 v) (take (from - (size + 4)) (drop (size + 4) m)), length_le_bytes 4 v, take_length (size + 4) (from - (size + 4)) m (omega arith))

module _ (c : Cut) (m b : List ℕ) (S : Shaped (length m) c) where
  pub middle_length : (n : ℕ) → 0 < c.end → length (slice_middle c m n) ≡ c.from - 4
  unfolding slice_middle
  middle_length n h =
      let v : ℕ = size_of c (c.end - c.size) n in
      omega (
        arith,
        length-append (head_of c.flagged c.flags c.size m) (data_of c.size c.from v m),
        head_length c.flagged c.flags c.size m (S.flags_at_lem h) (S.size_at_lem h) (omega (arith, S.data_at h, S.order, S.inside)),
        data_length c.size c.from v m (S.data_at h) (omega (arith, S.order, S.inside)),
        S.flags_at_lem h,
        S.size_at_lem h,
        S.data_at h,
      )

  pub front_length : length (front_of c m (length b)) ≡ c.from
  unfolding front_of
  front_length = go (ltb 0 c.end) refl
    where
      z : List ℕ
      z = le_bytes 4 (size_of c (length m) (length b))

      go : (q : Bool) → ltb 0 c.end ≡ q → length (z ++ pick q (slice_middle c m (length b)) (take (c.from - 4) (drop 4 m))) ≡ c.from
      go true e = omega (arith, length-append z (slice_middle c m (length b)), length_le_bytes 4 (size_of c (length m) (length b)), middle_length (length b) (ltb-true 0 c.end e), S.begins)
      go false e = omega (arith, length-append z (take (c.from - 4) (drop 4 m)), length_le_bytes 4 (size_of c (length m) (length b)), take_length 4 (c.from - 4) m (omega (arith, S.begins, S.order, S.inside)), S.begins)

  -- before the exchange, what is exchanged, what is after it
  pub spliced_parts : spliced c m b ≡ front_of c m (length b) ++ (exchanged c b ++ drop c.to m)
  unfolding spliced front_of slice_spliced list_spliced slice_middle head_of data_of
  spliced_parts = go (ltb 0 c.end)
    where
      w : List ℕ
      w = exchanged c b ++ drop c.to m

      x : List ℕ
      x = take (c.flags - 4) (drop 4 m)

      y : List ℕ
      y = take (c.size - (c.flags + 1)) (drop (c.flags + 1) m)

      v : List ℕ
      v = take (c.from - (c.size + 4)) (drop (c.size + 4) m)

      joined : (L x y z v w : List ℕ) (f : ℕ) → L ++ (x ++ (f ∷ (y ++ (z ++ (v ++ w))))) ≡ L ++ ((x ++ (f ∷ y)) ++ (z ++ v)) ++ w
      joined L x y z v w f =
          sym (append_assoc L ((x ++ (f ∷ y)) ++ (z ++ v)) w ∙ ap (λ (u : List ℕ). L ++ u) (append_assoc (x ++ (f ∷ y)) (z ++ v) w ∙ append_assoc x (f ∷ y) (z ++ v ++ w) ∙ ap (λ (u : List ℕ). x ++ (f ∷ (y ++ u))) (append_assoc z v w)))

      go : (q : Bool)
          → pick q (le_bytes 4 (size_after (length m) c.from c.to (exchanged c b)) ++ (x ++ (flag_of c.flagged c.flags m ∷ (y ++ (le_bytes 4 (size_after (c.end - c.size) c.from c.to (exchanged c b)) ++ (v ++ w))))))
          (le_bytes 4 (size_after (length m) c.from c.to (exchanged c b)) ++ (take (c.from - 4) (drop 4 m) ++ w))
          ≡ le_bytes 4 (size_of c (length m) (length b)) ++ pick q ((x ++ (flag_of c.flagged c.flags m ∷ y)) ++ (le_bytes 4 (size_of c (c.end - c.size) (length b)) ++ v)) (take (c.from - 4) (drop 4 m)) ++ w
      go true =
          ap₂ (λ (i j : ℕ). le_bytes 4 i ++ (x ++ (flag_of c.flagged c.flags m ∷ (y ++ (le_bytes 4 j ++ (v ++ w)))))) (size_is c (length m) b) (size_is c (c.end - c.size) b)
          ∙ joined (le_bytes 4 (size_of c (length m) (length b))) x y (le_bytes 4 (size_of c (c.end - c.size) (length b))) v w (flag_of c.flagged c.flags m)
      go false = ap (λ (i : ℕ). le_bytes 4 i ++ (take (c.from - 4) (drop 4 m) ++ w)) (size_is c (length m) b) ∙ sym (append_assoc (le_bytes 4 (size_of c (length m) (length b))) (take (c.from - 4) (drop 4 m)) w)

  pub spliced_length : length (spliced c m b) ≡ size_of c (length m) (length b)
  unfolding size_of
  spliced_length =
      omega (arith, ap length spliced_parts, length-append (front_of c m (length b)) (exchanged c b ++ drop c.to m), length-append (exchanged c b) (drop c.to m), length-drop c.to m, front_length, exchanged_length c b, S.order, S.inside)
