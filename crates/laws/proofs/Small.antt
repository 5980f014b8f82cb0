-- The numbers of an accepted message are small: each fits the 32 bits in which a call gives it.
-- A skipped optional has a header and a skipped slice has flags, so there are no more of them than bytes; rows are at most 1,024 and no more than the members of the table.
--
--   Small            the numbers of an answer to an accepted message
--   accepted_small   of every message that the rules accept
use Rattle.std.specs.Prelude.{◌≡◌, Bool, true, false, ltb}
use Rattle.std.proofs.Math.Path.{ap}
use Rattle.std.proofs.Common.{◌∙◌}
use mathlib.Core.List.{List, [], ◌∷◌, ◌++◌}
use Prim.Native.Nat.{ℕ, ◌+◌, ◌*◌, ◌≤◌, ◌<◌}
use native.Mathlib.Omega.{arith}
use Rattle.std.proofs.Math.ListN.{length, length-append}
use Rattle.encoding.specs.Result.{ok, pick, concat}
use Rattle.encoding.specs.Number.{Bytes, le_bytes, size_bytes, string_bytes}
use Rattle.encoding.proofs.NumberLaws.{length_le_bytes}
use Rattle.encoding.specs.Types.{Bits, bits}
use Rattle.encoding.specs.Table.{types, members}
use Rattle.encoding.proofs.RuleLaws.{named_ok, types_most}
use Rattle.encoding.specs.Optional.{Piece, required, optional, skipped, is_skipped, header_bytes, front_bytes, content_bytes, piece_bytes}
use Rattle.encoding.specs.Slice.{Slice, known, passed, Stand, first, is_last, any_optional, id_of, slice_front, data_bytes}
use Rattle.encoding.specs.Old.{pair_front}
use Rattle.encoding.specs.Message.{Pieces, list, exception, class, Encoding, v10, v11, front_as, later_as, lead, encode, rules, rows, or_zero, first_in, first_known, skipped_pieces, skipped_in, passed_in, optionals_skipped, slices_skipped, slices_bytes}
use Rattle.encoding.proofs.MessageLaws.{top_there, length_encapsulate}
use Rattle.encoding.specs.Conform.{Slices, Conform}
use Rattle.laws.specs.Demands.{read_as}
use Rattle.laws.proofs.TableExact.{sound}
use Rattle.laws.proofs.MessageExact.{exact_message}
use Rattle.laws.proofs.RowsMost.{rows_most, rows_members}

pub record Small (T : List ℕ) (top : ℕ) (f : Encoding) (p : Pieces) : Type 0 where
  pub first : first_known T top p < 256
  pub count : length (rows T top f p) ≤ 1024
  pub owned : length (rows T top f p) ≤ members T
  pub optionals : optionals_skipped p ≤ 65536
  pub slices : slices_skipped p ≤ 65536

-- ---- what is skipped has bytes

header_some : (t : ℕ) (k : Bits) → 1 ≤ length (header_bytes t k)
unfolding header_bytes
header_some t k = go (ltb t 30)
  where
    go : (b : Bool) → 1 ≤ length (pick b ((t * 8 + bits k) ∷ []) ((240 + bits k) ∷ size_bytes t))
    go true = omega arith
    go false = omega arith

piece_some : (p : Piece) → pick (is_skipped p) 1 0 ≤ length (piece_bytes p)
unfolding is_skipped piece_bytes front_bytes content_bytes
piece_some (required i b) = omega arith
piece_some (optional t f b) = omega arith
piece_some (skipped t k b) = omega (arith, header_some t k, length-append (header_bytes t k) b)

pieces_some : (ps : List Piece) → skipped_pieces ps ≤ length (concat piece_bytes ps)
unfolding skipped_pieces concat
pieces_some [] = omega arith
pieces_some (p ∷ ps) = omega (arith, piece_some p, pieces_some ps, length-append (piece_bytes p) (concat piece_bytes ps))

-- a front has flags, or in 1.0 a size
front_some : (f : Encoding) (s : Stand) (last : Bool) (sl : Slice) → 1 ≤ length (front_as f s last sl)
unfolding slice_front pair_front
front_some v10 s last sl =
    omega (arith, length-append (string_bytes (id_of sl)) (le_bytes 4 (4 + length (data_bytes sl))), length_le_bytes 4 (4 + length (data_bytes sl)))
front_some (v11 g) s last sl = omega arith

module _ (f : Encoding) where
  slices_some : (s : Stand) (ss : List Slice) → (skipped_in ss ≤ length (slices_bytes f s ss)) × (passed_in ss ≤ length (slices_bytes f s ss))
  unfolding skipped_in passed_in slices_bytes data_bytes
  slices_some s [] = (omega arith, omega arith)
  slices_some s (known o ps ∷ ss) =
      let ih = slices_some (later_as f) ss in
      let u : List ℕ = front_as f s (is_last ss) (known o ps) in
      let d : List ℕ = data_bytes (known o ps) in
      let sum = length-append (u ++ d) (slices_bytes f (later_as f) ss) ∙ ap (λ (i : ℕ). i + length (slices_bytes f (later_as f) ss)) (length-append u d) in
      let w = length-append (concat piece_bytes ps) (pick (any_optional ps) (255 ∷ []) []) in
      (omega (arith, ih.0, pieces_some ps, sum, w), omega (arith, ih.1, sum))
  slices_some s (passed b nm d ∷ ss) =
      let ih = slices_some (later_as f) ss in
      let u : List ℕ = front_as f s (is_last ss) (passed b nm d) in
      let sum = length-append (u ++ d) (slices_bytes f (later_as f) ss) ∙ ap (λ (i : ℕ). i + length (slices_bytes f (later_as f) ss)) (length-append u d) in
      (omega (arith, ih.0, sum), omega (arith, ih.1, sum, front_some f s (is_last ss) (passed b nm d)))

-- ---- a message

-- the first known type is a row of the table
first_row : (T : List ℕ) (top : ℕ) (f : Encoding) (ss : List Slice) → Slices T top f ss → first_in T ss < types T
unfolding first_in or_zero
first_row T top f [] C = absurd C
first_row T top f (known o ps ∷ ss) C = rw C.known (named_ok T o C.row C.known).0
first_row T top f (passed b nm d ∷ ss) (P, C) = first_row T top f ss C

module _ (T : List ℕ) (top : ℕ) (f : Encoding) where
  first_small : (p : Pieces) → top < types T → Conform T top f p → first_known T top p < types T
  unfolding first_known
  first_small (list ps) l C = l
  first_small (exception ss) l C = first_row T top f ss (go f C)
    where
      go : (f : Encoding) → Conform T top f (exception ss) → Slices T top f ss
      go v10 (k, W, C) = C
      go (v11 g) (k, C) = C
  first_small (class ss) l C = first_row T top f ss (go f C)
    where
      go : (f : Encoding) → Conform T top f (class ss) → Slices T top f ss
      go v10 C = absurd C
      go (v11 g) (k, C) = C

  skipped_small : (p : Pieces) → (optionals_skipped p ≤ length (encode f p)) × (slices_skipped p ≤ length (encode f p))
  unfolding optionals_skipped slices_skipped encode
  skipped_small (list ps) = (pieces_some ps, omega arith)
  skipped_small (exception ss) = let h = slices_some f first ss in let l = length-append (lead f) (slices_bytes f first ss) in (omega (arith, h.0, l), omega (arith, h.1, l))
  skipped_small (class ss) = let h = slices_some f first ss in (omega (arith, h.0), omega (arith, h.1))

pub accepted_small : (T : List ℕ) (top : ℕ) (m : List ℕ) (f : Encoding) (p : Pieces) (n : ℕ) → Bytes m → rules T top m ≡ ok (read_as f p) n → Small T top f p
accepted_small T top m f p n y h =
    let E = ((exact_message T top m f p n y).0 h).0 in
    let l = (top_there T top E.top_there).0 in
    let few : length (encode f p) ≤ 65536 = omega (arith, E.short, ap length E.encoded ∙ length_encapsulate f (encode f p)) in
    let S = skipped_small T top f p in
    record {
      first = omega (arith, first_small T top f p l E.conforms, types_most T (sound T E.table));
      count = rows_most T (sound T E.table) top f p l E.conforms;
      owned = rows_members T (sound T E.table) top f p l E.conforms;
      optionals = omega (arith, S.0);
      slices = omega (arith, S.1);
    }
