-- The outcome of the walk over pairs, pair by pair. Assumes nothing.
--
--   onward_ended, _bad, _next     the walk over the pairs ahead: ended, refused, one pair further
--   left_whole, left_listed       the whole walk, from its start: its answer and its rows
--   left_refused, _passed, _known, _done   what the next pair, and the end, make of the outcome
use Rattle.std.specs.Prelude.{◌≡◌, refl, Bool, false, drop}
use Rattle.std.proofs.Common.{sym, ◌∙◌, zero-add}
use Rattle.std.proofs.Math.Path.{ap, ap₂}
use Rattle.std.proofs.Math.Bool.{true}
use mathlib.Core.List.{List, [], ◌∷◌, ◌++◌}
use Prim.Native.Nat.{ℕ, suc, ◌+◌}
use native.Mathlib.Omega.{arith}
use Rattle.std.proofs.Math.ListN.{length, length-append, length-drop}
use Rattle.encoding.specs.Result.{Res, ok, bad, Parser, shift, pure, made, mapc}
use Rattle.encoding.proofs.ResultLaws.{bind_bad, bind_next}
use Rattle.encoding.specs.Table.{base, upward, chain}
use Rattle.encoding.specs.Table
use Rattle.encoding.specs.Optional.{Piece}
use Rattle.encoding.specs.Slice.{Slice, known, passed, first}
use Rattle.encoding.specs.Old.{members_as, PairStage, any_pair, pair_of, id_pair, none_due, walk_pairs, pair_front}
use Rattle.encoding.proofs.OldLaws.{pairs_ended, pairs_on, pairs_enough}
use Rattle.encoding.specs.Message.{v10, Row, piece_rows, slice_rows, first_in, skipped_pieces, skipped_in, passed_in}
use Rattle.level.specs.Fill.{fill}
use Rattle.level.specs.FillLaws.{fill_append}
use Rattle.level.specs.RequiredLaws.{required_count}
use Rattle.slices.specs.declared.Walk.{Walk}
use Rattle.slices.specs.declared.Walk.TheVariants.{Done}
use Rattle.slices.specs.Walks.{pair_rows, pair_walk}
use Rattle.slices.specs.Left.{listed, refused, answer_of}
use Rattle.slices.specs.MemberLaws.{required_plain}
use Rattle.pairs.specs.Pairs.{turn_rows, first_by, onward, owners, first_from, rows_from, left}
use Rattle.pairs.specs.PairLaws.{row_is, owners_is, first_is, Knew, pair_passing}

-- ---- the pairs ahead

module _ (T : List ℕ) (top : ℕ) (d : PairStage) (xs : List ℕ) where
  pub onward_ended : none_due d ≡ true → onward T top d xs ≡ ok [] 0
  unfolding onward pure
  onward_ended e = ap (λ (p : Parser (List Slice)). p xs) (pairs_ended T top (length xs) d e)

  abbrev after : Slice × PairStage → Parser (List Slice)
  after r = mapc (λ ss _. r.0 ∷ ss) (walk_pairs T top (length xs) r.1)

  module _ (e : none_due d ≡ false) where
    pub onward_bad : (c p : ℕ) → id_pair T top d xs ≡ bad c p → onward T top d xs ≡ bad c p
    unfolding onward
    onward_bad c p h =
        pairs_enough T top (length xs) (suc (length xs)) d xs (omega arith) (omega arith)
        ∙ ap (λ (p : Parser (List Slice)). p xs) (pairs_on T top (length xs) d e) ∙ bind_bad (id_pair T top d) after xs h

    pub onward_next : (sl : Slice) (st : PairStage) (n : ℕ) → id_pair T top d xs ≡ ok (sl, st) n
        → onward T top d xs ≡ shift n (made (λ ss _. sl ∷ ss) (onward T top st (drop n xs)))
    unfolding onward mapc
    onward_next sl st n h =
        pairs_enough T top (length xs) (suc (length xs)) d xs (omega arith) (omega arith)
        ∙ ap (λ (p : Parser (List Slice)). p xs) (pairs_on T top (length xs) d e) ∙ bind_next (id_pair T top d) after xs h
        ∙ ap (λ (r : Res (List Slice)). shift n (made (λ ss _. sl ∷ ss) r)) (pairs_enough T top (length xs) (length (drop n xs)) st (drop n xs) (omega (arith, length-drop n xs)) (omega arith))

-- ---- the whole walk

pub left_whole : (T : List ℕ) (at : ℕ) (out : List ℕ) (r : Res (List Slice)) → answer_of (left T any_pair at 0 0 0 out r) ≡ pair_walk T at r
unfolding answer_of left pair_walk pair_rows rows_from first_from owners
left_whole T at out (ok ss n) = ap₂ (λ (i j : ℕ). Done (first_in T ss) 2 i (skipped_in ss) j (at + n)) (zero-add _) (zero-add _)
left_whole T at out (bad c p) = refl

pub left_listed : (T : List ℕ) (at : ℕ) (out : List ℕ) (ss : List Slice) (n : ℕ) (w : Walk) (l : List ℕ) → listed w l ≡ left T any_pair at 0 0 0 out (ok ss n) → l ≡ fill 0 (pair_rows T at ss) out
unfolding left pair_rows rows_from owners
left_listed T at out ss n w l h = cc

-- ---- one pair

module _ (T : List ℕ) (top : ℕ) (d : PairStage) (xs : List ℕ) (at k s fst : ℕ) (out : List ℕ) where
  pub left_refused : none_due d ≡ false → (c p : ℕ) → id_pair T top d xs ≡ bad c p → left T d at k s fst out (onward T top d xs) ≡ refused c (at + p)
  unfolding left
  left_refused e c p h = rw (onward_bad T top d xs e c p h)

  pub left_done : none_due d ≡ true → left T d at k s fst out (onward T top d xs) ≡ left T d at k s fst out (ok [] 0)
  left_done e = ap (left T d at k s fst out) (onward_ended T top d xs e)

  -- a skipped pair
  passed_step : (b : Bool) (nm x : List ℕ) (n : ℕ) → n ≡ length (pair_front (passed b nm x)) + length x → (r : Res (List Slice))
      → left T any_pair at k s fst out (shift n (made (λ ss _. passed b nm x ∷ ss) r)) ≡ left T any_pair (at + n) k (s + 1) fst out r
  unfolding left shift made rows_from first_from owners first_in slice_rows skipped_in passed_in
  passed_step b nm x n w (ok ss m) =
      let i : at + length (pair_front (passed b nm x)) + length x ≡ at + n = omega arith in
      let rows : slice_rows T v10 first (at + length (pair_front (passed b nm x)) + length x) (chain T (first_in T ss)) ss ≡ slice_rows T v10 first (at + n) (chain T (first_in T ss)) ss =
      ap (λ (j : ℕ). slice_rows T v10 first j (chain T (first_in T ss)) ss) i in
      ap₂ listed
      (ap₂ (λ (i : ℕ) (j : ℕ × ℕ). Done (first_in T ss) 2 i (skipped_in ss) j.0 j.1) (ap (λ (rs : List Row). k + length rs) rows) (ap₂ (λ (x y : ℕ). (x, y)) (omega arith) (omega arith)))
      (ap (λ (rs : List Row). fill k rs out) rows)
  passed_step b nm x n w (bad c p) = ap (refused c) (omega arith)

  pub left_passed : none_due d ≡ false → (b : Bool) (nm x : List ℕ) (st : PairStage) (n : ℕ) → id_pair T top d xs ≡ ok (passed b nm x, st) n
      → left T d at k s fst out (onward T top d xs) ≡ left T d (at + n) k (s + 1) fst out (onward T top d (drop n xs))
  left_passed e b nm x st n h =
      let P = pair_passing T top d xs b nm x st n h in
      ap₂ (λ (z : PairStage) (r : Res (List Slice)). left T z at k s fst out r) P.stage (onward_next T top d xs e (passed b nm x) st n h)
      ∙ ap (λ (z : PairStage). left T any_pair at k s fst out (shift n (made (λ ss _. passed b nm x ∷ ss) (onward T top z (drop n xs))))) P.next
      ∙ passed_step b nm x n P.sum (onward T top any_pair (drop n xs))
      ∙ sym (ap (λ (z : PairStage). left T z (at + n) k (s + 1) fst out (onward T top z (drop n xs))) P.stage)

  -- a known pair
  module _ (o : List ℕ) (ps : List Piece) (st : PairStage) (n : ℕ) (K : Knew T top d o ps st n) where
    abbrev rows_here : List Row
    rows_here = turn_rows T d at (known o ps)

    count_is : length rows_here ≡ length ps
    unfolding turn_rows
    count_is = rw (row_is T top d o K.t K.means) (required_count true T K.t K.part ps (length K.part) _ K.read)

    rows_split : (ss : List Slice) → rows_from T d at (known o ps ∷ ss) ≡ rows_here ++ rows_from T (pair_of (base T K.t)) (at + n) ss
    unfolding rows_from slice_rows turn_rows owners
    rows_split ss =
        ap (λ (ts : List ℕ). slice_rows T v10 first at ts (known o ps ∷ ss)) (owners_is T top d o ps ss K.t K.means)
        ∙ ap₂ (λ (u i : ℕ). piece_rows T u (at + length (pair_front (known o ps))) ps ++ slice_rows T v10 first i (upward (chain T) (base T K.t)) ss)
        (sym (row_is T top d o K.t K.means)) (omega (arith, K.sum))

    known_step : (r : Res (List Slice))
        → left T d at k s fst out (shift n (made (λ ss _. known o ps ∷ ss) r))
        ≡ left T (pair_of (base T K.t)) (at + n) (k + length ps) s (first_by d fst K.t) (fill k rows_here out) r
    unfolding left shift made first_from skipped_in passed_in
    known_step (ok ss m) =
        let rows : List Row = rows_from T (pair_of (base T K.t)) (at + n) ss in
        let counted : k + length (rows_from T d at (known o ps ∷ ss)) ≡ k + length ps + length rows =
        ap (λ (l : List Row). k + length l) (rows_split ss) ∙ omega (arith, length-append rows_here rows, count_is) in
        let plain : skipped_pieces ps + skipped_in ss ≡ skipped_in ss = omega (arith, (required_plain (members_as true (Table.required_members T K.t)) K.part ps (length K.part) K.read).none_skipped) in
        let filled : fill k (rows_from T d at (known o ps ∷ ss)) out ≡ fill (k + length ps) rows (fill k rows_here out) =
        ap (λ (l : List Row). fill k l out) (rows_split ss) ∙ fill_append rows_here rows k out ∙ ap (λ (i : ℕ). fill (k + i) rows (fill k rows_here out)) count_is in
        ap₂ listed
        (ap₂ (λ (i : ℕ × ℕ) (j : ℕ × ℕ). Done i.0 2 i.1 j.0 (s + passed_in ss) j.1) (ap₂ (λ (x y : ℕ). (x, y)) (first_is T top d o ps ss K.t fst K.means) counted) (ap₂ (λ (x y : ℕ). (x, y)) plain (omega arith)))
        filled
    known_step (bad c p) = ap (refused c) (omega arith)

    pub left_known : none_due d ≡ false → id_pair T top d xs ≡ ok (known o ps, st) n
        → left T d at k s fst out (onward T top d xs)
        ≡ left T (pair_of (base T K.t)) (at + n) (k + length ps) s (first_by d fst K.t) (fill k (turn_rows T d at (known o ps)) out) (onward T top (pair_of (base T K.t)) (drop n xs))
    left_known e h =
        ap (left T d at k s fst out) (onward_next T top d xs e (known o ps) st n h ∙ ap (λ (z : PairStage). shift n (made (λ ss _. known o ps ∷ ss) (onward T top z (drop n xs)))) K.next)
        ∙ known_step (onward T top (pair_of (base T K.t)) (drop n xs))
