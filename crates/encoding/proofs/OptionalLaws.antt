-- The laws of the members of one owner: frame, extent and fuel of their readers, and the declared part of an optional.
--
--   closed-                      headers, extents, parts, optionals and required members have every property that all ways of joining readers keep; held- the extent
--   ends-, eats-, starved-       of these, where it holds
--   optionals_enough             fuel is never used up in reading optionals
--   Sound f, form_of_sound        the forms that types have
--   part_extent                  a known value's part takes what its type in the header declares
--   part_canonical               the bytes of a part are its length field and what it delivers
use Rattle.std.specs.Prelude.{◌≡◌, Bool, true, ◌&&◌, length, take, drop, eqb, ltb}
use Rattle.std.proofs.Math.Path.{refl}
use Rattle.std.proofs.Common.{sym, ap, ◌∙◌, zero-add, arith, length-take-le}
use Rattle.std.proofs.Math.Bool.{false}
use Rattle.std.proofs.Math.Option.{Option, none, some}
use mathlib.Core.List.{List, [], ◌∷◌, ◌++◌}
use Prim.Native.Nat.{ℕ, suc, ◌/◌, ◌%◌, ◌^◌, ◌≤◌, ◌<◌}
use Rattle.encoding.specs.Result.{Parser, ok, pick, fail, chunk, many}
use Rattle.encoding.proofs.ResultLaws.{Closed, Judges, by_pick, framed, held, many_fuel, pick_judges, first_of_judges, none_judges, ok≢bad, Bound, bind_ok, bind_take, chunk_ok, item_ok, bytes_ok, Framed, Held, Ends, ends_chunk, ends_bytes, ends_item, ends_bind, Eats, eats_must, eats_first, Starved, starved_must, starved_bind, many_enough}
use Rattle.encoding.specs.Number.{Bytes, size_bytes}
use Rattle.encoding.specs.Number
use Rattle.encoding.proofs.NumberLaws.{closed_byte, closed_size, closed_declared, held_size, ends_declared, eats_byte, starved_byte, size_canonical, declared_canonical}
use Rattle.encoding.specs.Types.{Ty, short, int, long, float, double, broken, bool, byte, string, proxy, old_proxy, num, enum, old_enum, struct, seq, dict, fixed, fixeds, single, Bits, f1, f2, f4, f8, size, vsize, fsize, class, bits_at, Form, bare, own, counted, sized, bits_of, form_of}
use Rattle.encoding.proofs.ValueLaws.{closed_value}
use Rattle.encoding.specs.Table.{Member, lookup}
use Rattle.encoding.specs.Optional.{Piece, Header, first_form, header_tail, header_form, header, extent, part, content, next_optional, optionals, requireds, length_bytes, required, optional, skipped}

-- ---- headers

headers_judge : (ms : List Member) (least : ℕ) (h : Header) → Judges false (header_form ms least h)
unfolding header_form
headers_judge ms least h = first_of_judges false 12 _ _ refl (first_of_judges false 12 _ _ refl (first_of_judges false 13 _ _ refl (first_of_judges false 12 _ [] refl (none_judges false))))

module _ (ms : List Member) (least : ℕ) where
  pub eats_header : Eats (header ms least)
  unfolding header
  eats_header = eats_must (header_form ms least) _ (eats_first _ header_tail (eats_must first_form _ eats_byte))

  pub starved_header : Starved (header ms least)
  unfolding header
  starved_header = starved_must (header_form ms least) _ (starved_bind _ header_tail (starved_must first_form _ starved_byte))

  pub eats_optional : Eats (next_optional ms least)
  unfolding next_optional
  eats_optional = eats_first _ _ eats_header

  pub starved_optional : Starved (next_optional ms least)
  unfolding next_optional
  starved_optional = starved_bind _ _ starved_header

-- ---- what extents and parts deliver ends what they take

pub ends_extent : (k : Bits) → Ends (extent k)
unfolding extent fail
ends_extent f1 xs d n h = ends_chunk 1 xs d n h
ends_extent f2 xs d n h = ends_chunk 2 xs d n h
ends_extent f4 xs d n h = ends_chunk 4 xs d n h
ends_extent f8 xs d n h = ends_chunk 8 xs d n h
ends_extent size xs d n h = ends_bytes _ held_size xs d n h
ends_extent vsize xs d n h = ends_item _ (ends_bind _ _ (λ n. ends_chunk n)) xs d n h
ends_extent fsize xs d n h = ends_declared 1 0 xs d n h
ends_extent class xs d n h = absurd (ok≢bad h refl)

-- ---- properties that all ways of joining readers keep

module _ {P : (A : Type 0) → Parser A → Type 0} {Stops : (List ℕ → Option ℕ) → Type 0} (C : Closed false P Stops) where
  pub closed_header : (ms : List Member) (least : ℕ) → P Header (header ms least)
  unfolding header header_tail first_form
  closed_header ms least =
      C.by_must _
      (C.by_bind _ header_tail (C.by_must _ (closed_byte C) first_form (λ h. pick_judges false (ltb (h / 8) 31) 0 12 refl refl)) λ h.
      by_pick C (eqb (h / 8) 30) _ _ (C.by_mapc _ (closed_size C) (λ n _. record { long = true; tag = n; type = bits_at (h % 8) }))
      (C.by_pure (record { long = false; tag = h / 8; type = bits_at (h % 8) })))
      (header_form ms least) (headers_judge ms least)

  pub closed_extent : (k : Bits) → P (List ℕ) (extent k)
  unfolding extent
  closed_extent f1 = C.by_chunk 1 (λ b. b)
  closed_extent f2 = C.by_chunk 2 (λ b. b)
  closed_extent f4 = C.by_chunk 4 (λ b. b)
  closed_extent f8 = C.by_chunk 8 (λ b. b)
  closed_extent size = C.by_bytes _ (closed_size C)
  closed_extent vsize = C.by_item _ (C.by_bind _ _ (closed_size C) (λ n. C.by_chunk n (λ b. b)))
  closed_extent fsize = closed_declared C 1 0
  closed_extent class = C.by_fail (List ℕ) 13 refl

  pub closed_part : (f : Form) → P (List ℕ) (part f)
  unfolding part
  closed_part (bare k) = closed_extent k
  closed_part own = C.by_bytes _ (closed_extent vsize)
  closed_part counted = closed_extent vsize
  closed_part sized = closed_extent fsize

pub held_header : (ms : List Member) (least : ℕ) → Held (header ms least)
held_header = closed_header (held false)

pub framed_extent : (k : Bits) → Framed (extent k)
framed_extent = closed_extent (framed false)

pub held_extent : (k : Bits) → Held (extent k)
held_extent = closed_extent (held false)

pub held_part : (f : Form) → Held (part f)
held_part = closed_part (held false)

pub ends_part : (f : Form) → Ends (part f)
unfolding part
ends_part (bare k) xs d n h = ends_extent k xs d n h
ends_part own xs d n h = ends_bytes _ (held_extent vsize) xs d n h
ends_part counted xs d n h = ends_extent vsize xs d n h
ends_part sized xs d n h = ends_extent fsize xs d n h

module _ {P : (A : Type 0) → Parser A → Type 0} {Stops : (List ℕ → Option ℕ) → Type 0} (C : Closed false P Stops) where
  pub closed_content : (o : Option Member) (h : Header) → P Piece (content o h)
  unfolding content
  closed_content none h = C.by_mapc _ (C.by_bytes _ (closed_extent C h.type)) (λ b _. skipped h.tag h.type b)
  closed_content (some m) h =
      C.by_mapc _ (C.by_inside _ _ (closed_part C (form_of m.ty)) (ends_part (form_of m.ty)) (C.by_bytes _ (closed_value C m.ty))) (λ b _. optional h.tag (form_of m.ty) b)

  pub closed_optional : (ms : List Member) (least : ℕ) → P (Piece × ℕ) (next_optional ms least)
  unfolding next_optional
  closed_optional ms least = C.by_bind _ _ (closed_header C ms least) (λ h. C.by_mapc _ (closed_content (lookup h.tag ms) h) (λ p _. (p, suc h.tag)))

  pub closed_optionals : (stop : List ℕ → Option ℕ) → Stops stop → (ms : List Member) → P (List Piece) (optionals stop ms)
  unfolding optionals
  closed_optionals stop s ms = C.by_fuel (λ f. many stop (next_optional ms) f 0) (λ f. C.by_many stop (next_optional ms) s (closed_optional ms) (eats_optional ms) f 0) (many_fuel stop (next_optional ms) (eats_optional ms) 0)

-- required members are the same in both encodings, but for their types
module _ {old : Bool} {P : (A : Type 0) → Parser A → Type 0} {Stops : (List ℕ → Option ℕ) → Type 0} (C : Closed old P Stops) where
  pub closed_requireds : (ms : List Member) → P (List Piece) (requireds ms)
  unfolding requireds
  closed_requireds [] = C.by_pure []
  closed_requireds (m ∷ ms) = C.by_bind _ _ (C.by_bytes _ (closed_value C m.ty)) (λ b. C.by_mapc _ (closed_requireds ms) (λ ps _. required m.key b ∷ ps))

pub held_content : (o : Option Member) (h : Header) → Held (content o h)
held_content = closed_content (held false)

pub held_optional : (ms : List Member) (least : ℕ) → Held (next_optional ms least)
held_optional = closed_optional (held false)

pub held_requireds : (ms : List Member) → Held (requireds ms)
held_requireds = closed_requireds (held false)

-- any fuel that is not below the bytes left gives the same
pub optionals_enough : (ms : List Member) (stop : List ℕ → Option ℕ) (f : ℕ) (xs : List ℕ) → length xs ≤ f → optionals stop ms xs ≡ many stop (next_optional ms) f 0 xs
unfolding optionals
optionals_enough ms stop f xs h = many_enough stop (next_optional ms) (eats_optional ms) (starved_optional ms) (length xs) f 0 xs (omega arith) h

-- ---- the part of a known value

-- a type whose value needs no length: F1 to F8 and Size
abbrev pub Plain : Bits → Type 0
Plain f1 = Unit {0}
Plain f2 = Unit {0}
Plain f4 = Unit {0}
Plain f8 = Unit {0}
Plain size = Unit {0}
Plain vsize = ⊥
Plain fsize = ⊥
Plain class = ⊥

abbrev pub Sound : Form → Type 0
Sound (bare k) = Plain k
Sound own = Unit {0}
Sound counted = Unit {0}
Sound sized = Unit {0}

pub form_of_sound : (t : Ty) → Sound (form_of t)
unfolding form_of
form_of_sound broken = tt
form_of_sound bool = tt
form_of_sound byte = tt
form_of_sound string = tt
form_of_sound proxy = tt
form_of_sound old_proxy = tt
form_of_sound (num short) = tt
form_of_sound (num int) = tt
form_of_sound (num long) = tt
form_of_sound (num float) = tt
form_of_sound (num double) = tt
form_of_sound (enum g) = tt
form_of_sound (old_enum g) = tt
form_of_sound (struct ts) = go (fixeds ts)
  where
    go : (b : Bool) → Sound (pick b counted sized)
    go true = tt
    go false = tt
form_of_sound (seq t) = go (single t) (fixed t)
  where
    go : (a b : Bool) → Sound (pick a own (pick b counted sized))
    go true b = tt
    go false true = tt
    go false false = tt
form_of_sound (dict k v) = go (fixed k && fixed v)
  where
    go : (b : Bool) → Sound (pick b counted sized)
    go true = tt
    go false = tt

pub part_extent : (f : Form) (xs : List ℕ) {d : List ℕ} {n : ℕ} → part f xs ≡ ok d n → (e : List ℕ) × (extent (bits_of f) xs ≡ ok e n)
unfolding part
part_extent (bare k) xs {d} h = (d, h)
part_extent own xs h = let e = bytes_ok (extent vsize) xs h in (e.0, e.1)
part_extent counted xs {d} h = (d, h)
part_extent sized xs {d} h = (d, h)

chunk_whole : (k : ℕ) (xs : List ℕ) {d : List ℕ} {n : ℕ} → chunk k (λ b. b) xs ≡ ok d n → take n xs ≡ d
chunk_whole k xs h = let e = chunk_ok k (λ b. b) xs h in rw e.2 (sym e.1)

bare_whole : (k : Bits) → Plain k → (xs : List ℕ) {d : List ℕ} {n : ℕ} → extent k xs ≡ ok d n → take n xs ≡ d
unfolding extent
bare_whole f1 p xs h = chunk_whole 1 xs h
bare_whole f2 p xs h = chunk_whole 2 xs h
bare_whole f4 p xs h = chunk_whole 4 xs h
bare_whole f8 p xs h = chunk_whole 8 xs h
bare_whole size p xs h = sym (bytes_ok Number.size xs h).2
bare_whole vsize p xs h = absurd p
bare_whole fsize p xs h = absurd p
bare_whole class p xs h = absurd p

pub counted_canonical : (xs : List ℕ) → Bytes xs → {d : List ℕ} {n : ℕ} → extent vsize xs ≡ ok d n → (take n xs ≡ size_bytes (length d) ++ d) × (length d < 2 ^ 31)
unfolding extent
counted_canonical xs y {d} {n} h = go (bind_ok Number.size (λ n. chunk n (λ b. b)) xs (item_ok _ xs h))
  where
    go : Bound Number.size (λ n. chunk n (λ b. b)) xs d n → (take n xs ≡ size_bytes (length d) ++ d) × (length d < 2 ^ 31)
    go B =
        let S = size_canonical xs y B.first in
        let K = chunk_ok B.fst (λ b. b) (drop B.n xs) B.next in
        let l : length d ≡ B.fst = ap length K.1 ∙ length-take-le B.fst (drop B.n xs) K.0 in (
          bind_take Number.size (λ n. chunk n (λ b. b)) xs B ∙ ap (λ (z : List ℕ). z ++ take B.m (drop B.n xs)) (S.0 ∙ ap size_bytes (sym l))
              ∙ ap (λ (z : List ℕ). size_bytes (length d) ++ z) (chunk_whole B.fst (drop B.n xs) B.next),
          omega (arith, S.1),
        )

pub part_canonical : (f : Form) → Sound f → (xs : List ℕ) → Bytes xs → {d : List ℕ} {n : ℕ} → part f xs ≡ ok d n → take n xs ≡ length_bytes f d ++ d
unfolding part length_bytes extent
part_canonical (bare k) s xs y h = bare_whole k s xs h
part_canonical own s xs y h = sym (bytes_ok (extent vsize) xs h).2
part_canonical counted s xs y h = (counted_canonical xs y h).0
part_canonical sized s xs y h = rw zero-add at (declared_canonical 1 0 xs y (omega arith) h).0
