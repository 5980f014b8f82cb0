-- Rows are in message order and share no byte: each is read off its piece, and pieces follow one another.
use Rattle.std.proofs.Math.Option.{Option, none, some}
use mathlib.Core.List.{List, [], ◌∷◌, ◌++◌, append-nil}
use Rattle.std.specs.Prelude.{◌≡◌}
use Prim.Native.Nat.{ℕ, ◌+◌, ◌≤◌}
use Rattle.std.proofs.Common.{arith}
use Rattle.std.proofs.Math.ListN.{length, length-append}
use Rattle.encoding.specs.Result.{concat, pick}
use Rattle.encoding.specs.Table.{Member, chain}
use Rattle.encoding.specs.Optional.{Piece, front_bytes, content_bytes, piece_bytes}
use Rattle.encoding.specs.Slice.{Slice, known, passed, Stand, first, is_last, any_optional, data_bytes}
use Rattle.encoding.specs.Message.{Pieces, list, exception, class, Encoding, front_as, later_as, lead, Row, list_row, piece_member, piece_rows, slice_rows, first_in, rows}
use Rattle.laws.specs.Demands.{Apart, RowsApart}

-- apart from a place on, so from an earlier one on
earlier : (n m : ℕ) (rs : List Row) → n ≤ m → Apart m rs → Apart n rs
earlier n m [] h A = tt
earlier n m (r ∷ rs) h (l, A) = (omega arith, A)

module _ (T : List ℕ) (t : ℕ) where
  -- rows of pieces from a place on, and then rows after them
  pieces_apart : (at : ℕ) (ps : List Piece) (rs : List Row) → Apart (at + length (concat piece_bytes ps)) rs → Apart at (piece_rows T t at ps ++ rs)
  unfolding piece_rows concat list_row piece_bytes
  pieces_apart at [] rs A = earlier at (at + 0) rs (omega arith) A
  pieces_apart at (p ∷ ps) rs A =
      go (piece_member T t p) (pieces_apart (at + length (piece_bytes p)) ps rs (earlier (at + length (piece_bytes p) + length (concat piece_bytes ps)) (at + length (piece_bytes p ++ concat piece_bytes ps)) rs (omega (arith, length-append (piece_bytes p) (concat piece_bytes ps))) A))
    where
      l : length (front_bytes p ++ content_bytes p) ≡ length (front_bytes p) + length (content_bytes p)
      l = length-append (front_bytes p) (content_bytes p)

      go : (o : Option Member) → Apart (at + length (piece_bytes p)) (piece_rows T t (at + length (piece_bytes p)) ps ++ rs)
          → Apart at (list_row o (at + length (front_bytes p)) (content_bytes p) (piece_rows T t (at + length (piece_bytes p)) ps) ++ rs)
      go none R = earlier at (at + length (piece_bytes p)) (piece_rows T t (at + length (piece_bytes p)) ps ++ rs) (omega arith) R
      go (some m) R = (omega arith, earlier (at + length (front_bytes p) + length (content_bytes p)) (at + length (piece_bytes p)) (piece_rows T t (at + length (piece_bytes p)) ps ++ rs) (omega (arith, l)) R)

module _ (T : List ℕ) (f : Encoding) where
  slices_apart : (s : Stand) (at : ℕ) (ts : List ℕ) (ss : List Slice) → Apart at (slice_rows T f s at ts ss)
  unfolding slice_rows data_bytes
  slices_apart s at ts [] = tt
  slices_apart s at ts (passed b nm d ∷ ss) =
      let n : ℕ = at + length (front_as f s (is_last ss) (passed b nm d)) + length d in
      earlier at n (slice_rows T f (later_as f) n ts ss) (omega arith) (slices_apart (later_as f) n ts ss)
  slices_apart s at [] (known o ps ∷ ss) = tt
  slices_apart s at (t ∷ ts) (known o ps ∷ ss) =
      let d : ℕ = at + length (front_as f s (is_last ss) (known o ps)) in
      let n : ℕ = d + length (data_bytes (known o ps)) in
      let rest : List Row = slice_rows T f (later_as f) n ts ss in
      earlier at d (piece_rows T t d ps ++ rest) (omega arith)
      (pieces_apart T t d ps rest (earlier (d + length (concat piece_bytes ps)) n rest (omega (arith, length-append (concat piece_bytes ps) (pick (any_optional ps) (255 ∷ []) []))) (slices_apart (later_as f) n ts ss)))

all_apart : (T : List ℕ) (top : ℕ) (f : Encoding) (p : Pieces) → Apart 6 (rows T top f p)
unfolding rows
all_apart T top f (list ps) = rw append-nil at (pieces_apart T top 6 ps [] tt)
all_apart T top f (exception ss) =
    earlier 6 (6 + length (lead f)) (slice_rows T f first (6 + length (lead f)) (chain T (first_in T ss)) ss) (omega arith) (slices_apart T f first (6 + length (lead f)) (chain T (first_in T ss)) ss)
all_apart T top f (class ss) = earlier 6 7 (slice_rows T f first 7 (chain T (first_in T ss)) ss) (omega arith) (slices_apart T f first 7 (chain T (first_in T ss)) ss)

pub listed_apart : RowsApart
listed_apart T top m f p n h = all_apart T top f p
