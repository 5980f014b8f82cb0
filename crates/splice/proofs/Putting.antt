-- Lengths, and parts put one after another. Assumes nothing.
--
--   header_.., field_.., piece_.., size_..   lengths by the cases of the code
--   head_.., data_.., slice_.., front_..     what is put before the exchange
--   piece_put, marker_put, whole_put         the new member, the end marker, the whole
use mathlib.Core.Path.{◌≡◌, sym, ap, ap₂, ◌∙◌}
use mathlib.Core.Bool.{Bool, true, false}
use mathlib.Core.List.{List, [], ◌∷◌, ◌++◌, append_assoc}
use Prim.Native.Nat.{ℕ, ◌+◌, ◌-◌, ◌%◌, ◌≤◌, ◌<◌}
use native.Mathlib.Omega.{arith}
use lib.ListN.{length, take, drop, length-append, length-drop}
use lib.Seq.{take_all}
use mir.Syntax.{w64}
use mir.Val.{Fits}
use borrow.Author.Tests.{eq-eqb, ne_eqb, lt-ltb, le-ltb}
use Rattle.encoding.specs.Result.{pick}
use Rattle.encoding.specs.Number.{le_bytes, size_bytes}
use Rattle.encoding.proofs.NumberLaws.{length_le_bytes}
use Rattle.encoding.specs.Table.{at}
use Rattle.encoding.specs.Slice.{sliced, compact, bit, flag_bits}
use Rattle.encoding.specs.Write.{part_of}
use Rattle.wire.specs.Put.{put}
use Rattle.wire.specs.PutLaws.{put_put, put_front, put_length}
use Rattle.pieces.specs.Puts.{Puts}
use Rattle.pieces.specs.PutsLaws.{puts_none, puts_is, puts_byte}
use Rattle.pieces.specs.Pieces.{optional_field}
use Rattle.splice.specs.declared.Cut.{Cut}
use Rattle.splice.specs.Spliced.{header_length, field_length, piece_length, piece_of, marker_of, exchanged, size_of, flag_of, head_of, data_of, slice_middle, front_of, spliced, Cuts, Shaped}
use Rattle.splice.specs.SplicedLaws.{piece_length_lem, shaped_slice, take_length, head_length, data_length, middle_length, front_length, spliced_parts, spliced_length}

-- ---- lengths

module _ (t : ℕ) where
  pub header_short : t < 30 → 1 ≡ header_length t
  unfolding header_length
  header_short h = rw (lt-ltb t 30 h)

  pub header_long : (n : ℕ) → 30 ≤ t → n ≡ length (size_bytes t) → 1 + n ≡ header_length t
  unfolding header_length
  header_long n h e = rw (le-ltb t 30 h, e)

module _ (form n : ℕ) where
  pub field_none : form < 9 → 0 ≡ field_length form n
  unfolding field_length
  field_none h = rw (lt-ltb form 9 h)

  pub field_size : (k : ℕ) → 9 ≤ form → form ≡ 9 → k ≡ length (size_bytes n) → k ≡ field_length form n
  unfolding field_length
  field_size k h e f = rw (le-ltb form 9 h, eq-eqb form 9 e) f

  pub field_int : 9 ≤ form → (form ≡ 9 → ⊥) → 4 ≡ field_length form n
  unfolding field_length
  field_int h u = rw (le-ltb form 9 h, ne_eqb form 9 u)

module _ (q : Bool) (t form n : ℕ) where
  pub piece_set : (a b : ℕ) → q ≡ true → a ≡ header_length t → b ≡ field_length form n → a + b + n ≡ piece_length q t form n
  unfolding piece_length
  piece_set a b e f g = rw (e, f, g)

  pub piece_none : q ≡ false → 0 ≡ piece_length q t form n
  unfolding piece_length
  piece_none e = rw e

module _ (c : Cut) (all n : ℕ) where
  pub cut_order : Cuts all c → c.from ≤ c.to
  cut_order C = C.order

  pub cut_fewer : Cuts all c → c.to - c.from ≤ all
  cut_fewer C = C.fewer

  pub size_sum : (p k : ℕ) → p ≡ piece_length c.setting c.tag c.form n → k ≡ length (marker_of c.marker) → all - (c.to - c.from) + p + k ≡ size_of c all n
  unfolding size_of
  size_sum p k e f = rw (e, f)

  pub size_few : (p k : ℕ) → Cuts all c → p ≤ 65600 → k ≤ 1 → all - (c.to - c.from) + p + k ≤ 131200
  size_few p k C e f = omega (arith, C.few)

  pub size_fits : (p : ℕ) → Cuts all c → p ≤ 65600 → Fits w64 (all - (c.to - c.from) + p)
  size_fits p C e = omega (arith, C.few)

  pub size_fits_all : (p k : ℕ) → Cuts all c → p ≤ 65600 → k ≤ 1 → Fits w64 (all - (c.to - c.from) + p + k)
  size_fits_all p k C e f = omega (arith, C.few)

-- ---- before the exchange

flag_byte : (q l : Bool) → flag_bits sliced true q l < 256
unfolding flag_bits
flag_byte true true = omega arith
flag_byte true false = omega arith
flag_byte false true = omega arith
flag_byte false false = omega arith

one_byte : (f : ℕ) → f < 256 → le_bytes 1 f ≡ f ∷ []
unfolding le_bytes
one_byte f h = let e : f % 256 ≡ f = omega arith in ap (λ (z : ℕ). z ∷ []) e

pub head_put : (q : Bool) (flags size : ℕ) (m o₀ o₁ o₂ o₃ : List ℕ) (b : ℕ) (last : Bool) (f : ℕ) → b ≡ at m 1 flags → last ≡ bit b 32 → f ≡ flag_bits (pick true sliced compact) true q last
    → o₁ ≡ put 4 (take (flags - 4) (drop 4 m)) o₀ → o₂ ≡ put flags (le_bytes 1 f) o₁ → o₃ ≡ put (flags + 1) (take (size - (flags + 1)) (drop (flags + 1) m)) o₂
    → 4 ≤ flags → flags + 1 ≤ size → size ≤ length m → size ≤ length o₀ → o₃ ≡ put 4 (head_of q flags size m) o₀
unfolding head_of flag_of
head_put q flags size m o₀ o₁ o₂ o₃ b last f eb el ef e₁ e₂ e₃ g h i j =
    let x : List ℕ = take (flags - 4) (drop 4 m) in
    let y : List ℕ = take (size - (flags + 1)) (drop (flags + 1) m) in
    let v : ℕ = flag_bits sliced true q (bit (at m 1 flags) 32) in
    let w : f ≡ v = ef ∙ ap (flag_bits sliced true q) (el ∙ ap (λ (z : ℕ). bit z 32) eb) in
    let nx = take_length 4 (flags - 4) m (omega arith) in
    let ny = take_length (flags + 1) (size - (flags + 1)) m (omega arith) in
    let one : o₂ ≡ put 4 (x ++ (v ∷ [])) o₀ = e₂ ∙ ap₂ (λ (z : ℕ) (o : List ℕ). put flags (le_bytes 1 z) o) w e₁ ∙ ap (λ (z : List ℕ). put flags z (put 4 x o₀)) (one_byte v (flag_byte q (bit (at m 1 flags) 32))) ∙ put_put 4 flags x (v ∷ []) o₀ (omega arith) (omega arith) in
    e₃ ∙ ap (put (flags + 1) y) one ∙ put_put 4 (flags + 1) (x ++ (v ∷ [])) y o₀ (omega (arith, length-append x (v ∷ []))) (omega (arith, length-append x (v ∷ []))) ∙ ap (λ (z : List ℕ). put 4 z o₀) (append_assoc x (v ∷ []) y)

pub data_put : (size from v : ℕ) (m o₀ o₁ o₂ : List ℕ) → o₁ ≡ put size (le_bytes 4 v) o₀ → o₂ ≡ put (size + 4) (take (from - (size + 4)) (drop (size + 4) m)) o₁
    → size + 4 ≤ from → from ≤ length m → from ≤ length o₀ → o₂ ≡ put size (data_of size from v m) o₀
unfolding data_of
data_put size from v m o₀ o₁ o₂ e₁ e₂ g h i =
    let y : List ℕ = take (from - (size + 4)) (drop (size + 4) m) in
    let n = length_le_bytes 4 v in
    e₂ ∙ ap (put (size + 4) y) e₁ ∙ put_put size (size + 4) (le_bytes 4 v) y o₀ (omega arith) (omega (arith, take_length (size + 4) (from - (size + 4)) m (omega arith)))

module _ (c : Cut) (m o₀ : List ℕ) (n : ℕ) (S : Shaped (length m) c) (h : 0 < c.end) where
  pub slice_flags_at : 4 ≤ c.flags
  slice_flags_at = S.flags_at_lem h

  pub slice_size_at : c.flags + 1 ≤ c.size
  slice_size_at = S.size_at_lem h

  pub slice_size_in : c.size ≤ length m
  slice_size_in = omega (arith, S.data_at h, S.order, S.inside)

  pub slice_few : length m ≤ 65536
  slice_few = S.few

  pub slice_size_out : c.from ≤ length o₀ → c.size ≤ length o₀
  slice_size_out g = omega (arith, S.data_at h)

  pub slice_data_at : c.size + 4 ≤ c.from
  slice_data_at = S.data_at h

  pub slice_from_in : c.from ≤ length m
  slice_from_in = omega (arith, S.order, S.inside)

  pub slice_order : c.size ≤ c.end
  slice_order = omega (arith, S.data_at h, S.order, S.ends h)

  pub slice_cuts : Cuts (c.end - c.size) c
  slice_cuts = shaped_slice (length m) c S h

  pub slice_put : (o₁ o₂ : List ℕ) (v : ℕ) → o₁ ≡ put 4 (head_of c.flagged c.flags c.size m) o₀ → v ≡ size_of c (c.end - c.size) n → o₂ ≡ put c.size (data_of c.size c.from v m) o₁ → c.from ≤ length o₀
      → o₂ ≡ put 4 (slice_middle c m n) o₀
  unfolding slice_middle
  slice_put o₁ o₂ v e₁ ev e₂ g =
      let x : List ℕ = head_of c.flagged c.flags c.size m in
      let w : ℕ = size_of c (c.end - c.size) n in
      let nx = head_length c.flagged c.flags c.size m slice_flags_at slice_size_at slice_size_in in
      let ny = data_length c.size c.from w m slice_data_at slice_from_in in
      e₂ ∙ ap₂ (λ (z : ℕ) (o : List ℕ). put c.size (data_of c.size c.from z m) o) ev e₁ ∙ put_put 4 c.size x (data_of c.size c.from w m) o₀ (omega (arith, nx, slice_flags_at, slice_size_at)) (omega (arith, nx, ny, slice_flags_at, slice_size_at, slice_data_at))

module _ (c : Cut) (m o₀ o₁ : List ℕ) (n v : ℕ) (S : Shaped (length m) c) (g : c.from ≤ length o₀) (ev : v ≡ size_of c (length m) n) (e₁ : o₁ ≡ put 0 (le_bytes 4 v) o₀) where
  pub front_room : c.from ≤ length o₁
  front_room = omega (arith, ap length e₁, put_length 0 (le_bytes 4 v) o₀)

  pub front_slice : (o₂ : List ℕ) → 0 < c.end → o₂ ≡ put 4 (slice_middle c m n) o₁ → o₂ ≡ put 0 (front_of c m n) o₀
  unfolding front_of
  front_slice o₂ h e₂ =
      let z : List ℕ = le_bytes 4 (size_of c (length m) n) in
      let nz = length_le_bytes 4 (size_of c (length m) n) in
      e₂ ∙ ap (put 4 (slice_middle c m n)) (e₁ ∙ ap (λ (i : ℕ). put 0 (le_bytes 4 i) o₀) ev) ∙ put_put 0 4 z (slice_middle c m n) o₀ (omega arith) (omega (arith, middle_length c m [] S n h, S.begins))
      ∙ ap (λ (q : Bool). put 0 (z ++ pick q (slice_middle c m n) (take (c.from - 4) (drop 4 m))) o₀) (sym (lt-ltb 0 c.end h))

  pub front_list : (o₂ : List ℕ) → c.end ≤ 0 → o₂ ≡ put 4 (take (c.from - 4) (drop 4 m)) o₁ → o₂ ≡ put 0 (front_of c m n) o₀
  unfolding front_of
  front_list o₂ h e₂ =
      let z : List ℕ = le_bytes 4 (size_of c (length m) n) in
      let y : List ℕ = take (c.from - 4) (drop 4 m) in
      let nz = length_le_bytes 4 (size_of c (length m) n) in
      let ny = take_length 4 (c.from - 4) m (omega (arith, S.begins, S.order, S.inside)) in
      e₂ ∙ ap (put 4 y) (e₁ ∙ ap (λ (i : ℕ). put 0 (le_bytes 4 i) o₀) ev) ∙ put_put 0 4 z y o₀ (omega arith) (omega (arith, ny, S.begins))
      ∙ ap (λ (q : Bool). put 0 (z ++ pick q (slice_middle c m n) y) o₀) (sym (le-ltb 0 c.end h))

pub front_begins : (l : ℕ) (c : Cut) → Shaped l c → 4 ≤ c.from
front_begins l c S = S.begins

-- ---- the exchange

module _ (q : Bool) (t form at : ℕ) (b out last : List ℕ) where
  pub piece_put : (r : ℕ) → q ≡ true → Puts at (optional_field t form (part_of b (record { member = 0; place = 0; len = length b }))) out last r → Puts at (piece_of q t form b) out last r
  unfolding piece_of part_of
  piece_put r e P = puts_is at _ _ out last r (ap (optional_field t form) (take_all (length b) b (omega arith)) ∙ ap (λ (z : Bool). pick z (optional_field t form b) []) (sym e)) P

  pub piece_end : (r : ℕ) → at ≤ 65536 → length b ≤ 65536 → r ≤ at + 11 + length b → r ≤ 131200
  piece_end r h k e = omega arith

pub piece_skip : (q : Bool) (t form at : ℕ) (b out : List ℕ) → q ≡ false → Puts at (piece_of q t form b) out out at
unfolding piece_of
piece_skip q t form at b out e = rw e (puts_none at out)

pub marker_put : (q : Bool) (at : ℕ) (out last : List ℕ) → q ≡ true → last ≡ put at (le_bytes 1 255) out → Puts at (marker_of q) out last (at + 1)
marker_put q at out last e f = rw e (puts_byte 255 at out last (omega arith) f)

pub marker_skip : (q : Bool) (at : ℕ) (out : List ℕ) → q ≡ false → Puts at (marker_of q) out out at
marker_skip q at out e = rw e (puts_none at out)

-- ---- the whole

module _ (c : Cut) (m b o₀ : List ℕ) (S : Shaped (length m) c) (g : size_of c (length m) (length b) ≤ length o₀) where
  pub whole_from : c.from ≤ length o₀
  unfolding size_of
  whole_from = omega (arith, S.order, S.inside)

  pub whole_at : c.from ≤ 65536
  whole_at = omega (arith, S.order, S.inside, S.few)

  pub whole_put : (o₁ o₂ o₃ o₄ : List ℕ) (x y : ℕ) → o₁ ≡ put 0 (front_of c m (length b)) o₀ → Puts c.from (piece_of c.setting c.tag c.form b) o₁ o₂ x → Puts x (marker_of c.marker) o₂ o₃ y
      → o₄ ≡ put y (take (length m) (drop c.to m)) o₃ → o₄ ≡ spliced c m b ++ drop (length (spliced c m b)) o₀
  unfolding exchanged size_of
  whole_put o₁ o₂ o₃ o₄ x y e₁ P Q e₄ =
      let F : List ℕ = front_of c m (length b) in
      let p : List ℕ = piece_of c.setting c.tag c.form b in
      let k : List ℕ = marker_of c.marker in
      let R : List ℕ = drop c.to m in
      let nF = front_length c m b S in
      let np = piece_length_lem c.setting c.tag c.form b in
      let nR = length-drop c.to m in
      let t : take (length m) R ≡ R = take_all (length m) R (omega (arith, nR)) in
      let l₁ : length o₁ ≡ length o₀ = ap length e₁ ∙ put_length 0 F o₀ in
      let e₂ : o₂ ≡ put c.from p o₁ = P.lays (omega (arith, S.order, S.inside)) in
      let l₂ : length o₂ ≡ length o₁ = ap length e₂ ∙ put_length c.from p o₁ in
      let e₃ : o₃ ≡ put x k o₂ = Q.lays (omega (arith, P.ends, S.order, S.inside)) in
      let a₂ : o₂ ≡ put 0 (F ++ p) o₀ = e₂ ∙ ap (put c.from p) e₁ ∙ put_put 0 c.from F p o₀ (omega arith) (omega (arith, S.order, S.inside)) in
      let nFp = length-append F p in
      let a₃ : o₃ ≡ put 0 (F ++ p ++ k) o₀ = e₃ ∙ ap (put x k) a₂ ∙ put_put 0 x (F ++ p) k o₀ (omega (arith, P.ends)) (omega (arith, S.order, S.inside)) in
      let nFpk = length-append (F ++ p) k in
      let a₄ : o₄ ≡ put 0 (F ++ p ++ k ++ R) o₀ = e₄ ∙ ap₂ (λ (z o : List ℕ). put y z o) t a₃ ∙ put_put 0 y (F ++ p ++ k) R o₀ (omega (arith, Q.ends, P.ends)) (omega (arith, S.order, S.inside)) in
      let w : F ++ p ++ k ++ R ≡ spliced c m b = append_assoc (F ++ p) k R ∙ append_assoc F p (k ++ R) ∙ ap (λ (z : List ℕ). F ++ z) (sym (append_assoc p k R)) ∙ sym (spliced_parts c m b S) in
      a₄ ∙ ap (λ (z : List ℕ). put 0 z o₀) w ∙ put_front (spliced c m b) o₀ (omega (arith, spliced_length c m b S))
