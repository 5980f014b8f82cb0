-- Laws of `Messages`: what is written goes by the verdict on the rows. Assumes nothing.
--
--   written_few         too few row bytes
--   written_wrong       a row that is wrong, or a member missing at the end
--   written_right       the message that the rows make, or 22
use Rattle.std.proofs.Math.Path.{◌≡◌, refl, ap}
use Rattle.std.proofs.Common.{sym, ◌∙◌, le-leb}
use Rattle.std.specs.Prelude.{Bool, ℕ, ◌-◌, ◌*◌, ◌/◌, ◌≤◌, ◌<◌}
use mathlib.Core.List.{List, map}
use native.Mathlib.Omega.{arith}
use Rattle.std.proofs.Math.ListN.{length}
use Rattle.std.proofs.lemmas.Bool.{lt-leb}
use Rattle.encoding.specs.Table.{base, upward, range, chain}
use Rattle.encoding.proofs.TableLaws.{chain_row}
use Rattle.encoding.specs.Message.{encode, encapsulate}
use Rattle.encoding.specs.Write.{Out, out, stop, next, above, Given, judge_all, gathered, bounded, row_at, rows_given}
use Rattle.pieces.specs.Cursors.{due_at, state_of}
use Rattle.pieces.specs.Judged.{verdict_of, verdict_from}
use Rattle.writer.specs.Slices.{encoding_as}
use Rattle.writer.specs.Messages.{contents_of, written}
use Rattle.writer.specs.Gathers.{begin_is, contents_are}

module _ (T : List ℕ) (type : ℕ) (old : Bool) (count : ℕ) (rows buffer : List ℕ) (room : ℕ) where
  -- too few row bytes
  pub written_few : length rows / 12 < count → written T type old count rows buffer room ≡ stop 20 count
  unfolding written rows_given next
  written_few h = let l : length rows < 12 * count = omega arith in rw (lt-leb (12 * count) (length rows) l)

  -- the message of what the rows give
  abbrev made : List Given → Out (List ℕ)
  made gs = bounded room (encapsulate (encoding_as old) (encode (encoding_as old) (gathered T type gs)))

  -- what the rows give
  abbrev judged : Out (List Given)
  judged = judge_all T old buffer (state_of T (due_at type 0)) 0 (map (row_at rows) (range 0 count))

  verdict_is : verdict_from T old rows buffer count (state_of T (due_at type 0)) 0 ≡ verdict_of judged
  unfolding verdict_from
  verdict_is = let z : count - 0 ≡ count = omega arith in rw z

  module _ (h : count ≤ length rows / 12) where
    written_is : written T type old count rows buffer room ≡ next judged made
    unfolding written rows_given next above
    written_is =
        let l : 12 * count ≤ length rows = omega arith in
        rw (le-leb (12 * count) (length rows) l, chain_row T type, begin_is T type (upward (chain T) (base T type)) refl)

    pub written_wrong : (n p : ℕ) → verdict_from T old rows buffer count (state_of T (due_at type 0)) 0 ≡ stop n p → written T type old count rows buffer room ≡ stop n p
    unfolding verdict_of next
    written_wrong n p e = written_is ∙ go judged (sym verdict_is ∙ e)
      where
        go : (w : Out (List Given)) → verdict_of w ≡ stop n p → next w made ≡ stop n p
        go (out gs) q = let y : ◌≡◌ {A = ℕ} 0 1 = cc in absurd (omega arith)
        go (stop m r) q = let a : m ≡ n = cc in let b : r ≡ p = cc in rw (a, b)

    pub written_right : verdict_from T old rows buffer count (state_of T (due_at type 0)) 0 ≡ out tt
        → written T type old count rows buffer room ≡ bounded room (encapsulate (encoding_as old) (contents_of T old rows buffer count type))
    unfolding verdict_of next
    written_right e = written_is ∙ go judged refl (sym verdict_is ∙ e)
      where
        go : (w : Out (List Given)) → judged ≡ w → verdict_of w ≡ out tt → next w made ≡ bounded room (encapsulate (encoding_as old) (contents_of T old rows buffer count type))
        go (out gs) f q = ap (λ (b : List ℕ). bounded room (encapsulate (encoding_as old) b)) (contents_are T old rows buffer count type gs f)
        go (stop m r) f q = let y : ◌≡◌ {A = ℕ} 0 1 = cc in absurd (omega arith)
