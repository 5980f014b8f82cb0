-- The walk's outcome, step by step: what a slice or a member that was read makes of it.
--
--   onward_..                  the walk over the slices ahead: ended, refused, one slice further
--   optionals_..               the optionals ahead: ended, refused, one further
--   left_whole, left_listed    the whole walk, from its start: its answer and its rows
--   left_refused, _skipped, _known       what the next slice makes of the outcome
--   fields_.., parameters_..   what the required members of a slice or a list make of it
--   finish_..                  what the next optional makes of it
use Rattle.std.specs.Prelude.{◌≡◌, Bool, ◌&&◌, not, take}
use Rattle.std.proofs.Math.Path.{refl, sym, ap, ap₂}
use Rattle.std.proofs.Common.{◌∙◌, add-zero, zero-add, add_assoc, add-one}
use Rattle.std.proofs.Math.Bool.{true, false}
use Rattle.std.proofs.Math.Option.{Option, none, some}
use mathlib.Core.List.{List, [], ◌∷◌, ◌++◌}
use Prim.Native.Nat.{ℕ, suc, ◌+◌, ◌-◌, ◌*◌}
use native.Mathlib.Omega.{arith}
use Rattle.std.proofs.Math.ListN.{length, drop, length-append, length-drop}
use Rattle.std.proofs.Math.Seq.{drop-drop}
use Rattle.std.proofs.Math.Dec.{eqb}
use borrow.Author.Tests.{eqb-true, eqb-false, eq-eqb, ne_eqb}
use Rattle.encoding.specs.Result.{Res, ok, bad, Parser, pick, shift, ◌>>=◌, pure, judged, must, made, mapc, recalled, turn, many, at_mark, at_end, concat}
use Rattle.encoding.proofs.ResultLaws.{both_true, bind_bad, bind_next, many_enough}
use Rattle.encoding.specs.Table.{Member, base, upward, chain, name_of}
use Rattle.encoding.specs.Table
use Rattle.encoding.specs.Optional.{Piece, optional, skipped, next_optional, optionals, requireds, piece_bytes, is_skipped}
use Rattle.encoding.proofs.OptionalLaws.{eats_optional, starved_optional}
use Rattle.encoding.proofs.WeightLaws.{requireds_weight}
use Rattle.encoding.specs.Slice.{Format, sliced, compact, is_sliced, format_number, Slice, known, passed, Stand, first, later, Stage, seek, follow, stand_of, finished, Chain, ahead, some_form, fields, slice, walk, slice_front, data_bytes, is_last}
use Rattle.encoding.proofs.SliceLaws.{walk_ended, walk_on, walk_enough}
use Rattle.encoding.proofs.WalkLaws.{walk_of}
use Rattle.encoding.specs.Message.{v11, Row, row_bytes, parameters, piece_rows, slice_rows, first_in, skipped_pieces, skipped_in, passed_in}
use Rattle.wire.specs.Put.{put}
use Rattle.level.specs.Fill.{fill}
use Rattle.level.specs.FillLaws.{fill_append}
use Rattle.level.specs.AnswersLaws.{KnownRead, SkippedRead, known_rows, skipped_rows}
use Rattle.level.specs.RequiredLaws.{required_count}
use Rattle.slices.specs.declared.Walk.{Walk}
use Rattle.slices.specs.declared.Walk.TheVariants.{Done}
use Rattle.heads.specs.declared.Stage.TheVariants.{First, Seeking, Following}
use Rattle.heads.specs.declared.Stage
use Rattle.heads.specs.Stages.{stage_of}
use Rattle.slices.specs.Walks.{chain_rows, slice_walk}
use Rattle.slices.specs.Openings.{ended, first_or}
use Rattle.slices.specs.Left.{WalkEnd, listed, refused, answer_of, recall_to, owners, first_from, onward, rows_from, left, closing, recalling, optionals_from, no_piece, finish}
use Rattle.slices.specs.MemberLaws.{required_plain, fields_weight, rows_append, skipped_append}
use Rattle.slices.specs.OpeningLaws.{Marks, Opened, Skipped, format_kept, owners_known, first_known, known_place, opened_sized, passed_end, passed_never}

-- ---- the slices ahead

module _ (T : List ℕ) (top : ℕ) (st : Stage) (xs : List ℕ) where
  pub onward_ended : {g : Format} → finished st ≡ some g → onward T top st xs ≡ ok (record { format = g; list = [] }) 0
  unfolding onward pure
  onward_ended e = ap (λ (p : Parser Chain). p xs) (walk_ended T top (length xs) st e)

  -- one turn, with fuel to spare
  onward_turn : finished st ≡ none → onward T top st xs ≡ (slice T top st >>= λ (r : Slice × Stage). mapc (λ c _. ahead r.0 c) (walk T top (length xs) r.1)) xs
  unfolding onward
  onward_turn e = walk_enough T top (length xs) (suc (length xs)) st xs (omega arith) (omega arith) ∙ ap (λ (p : Parser Chain). p xs) (walk_on T top (length xs) st e)

  module _ (e : finished st ≡ none) where
    pub onward_bad : (c p : ℕ) → slice T top st xs ≡ bad c p → onward T top st xs ≡ bad c p
    onward_bad c p h = onward_turn e ∙ bind_bad (slice T top st) _ xs h

    pub onward_next : (sl : Slice) (st' : Stage) (n : ℕ) → slice T top st xs ≡ ok (sl, st') n
        → onward T top st xs ≡ shift n (made (λ c _. ahead sl c) (onward T top st' (drop n xs)))
    unfolding onward mapc
    onward_next sl st' n h =
        onward_turn e ∙ bind_next (slice T top st) (λ (r : Slice × Stage). mapc (λ c _. ahead r.0 c) (walk T top (length xs) r.1)) xs h
        ∙ ap (λ (r : Res Chain). shift n (made (λ c _. ahead sl c) r)) (walk_enough T top (length xs) (length (drop n xs)) st' (drop n xs) (omega (arith, length-drop n xs)) (omega arith))

-- ---- the optionals ahead

module _ (stop : List ℕ → Option ℕ) (ms : List Member) (least : ℕ) (xs : List ℕ) where
  optionals_turn : optionals_from stop ms least xs ≡ turn (stop xs) ((next_optional ms least >>= λ (r : Piece × ℕ). mapc (λ l _. r.0 ∷ l) (many stop (next_optional ms) (length xs) r.1)) xs)
  unfolding optionals_from many
  optionals_turn = many_enough stop (next_optional ms) (eats_optional ms) (starved_optional ms) (length xs) (suc (length xs)) least xs (omega arith) (omega arith)

  pub optionals_end : {j : ℕ} → stop xs ≡ some j → optionals_from stop ms least xs ≡ ok [] j
  unfolding turn
  optionals_end e = optionals_turn ∙ rw e

  module _ (e : stop xs ≡ none) where
    pub optionals_bad : (c p : ℕ) → next_optional ms least xs ≡ bad c p → optionals_from stop ms least xs ≡ bad c p
    unfolding turn
    optionals_bad c p h = optionals_turn ∙ rw e (bind_bad (next_optional ms least) _ xs h)

    pub optionals_next : (p : Piece) (s' n : ℕ) → next_optional ms least xs ≡ ok (p, s') n
        → optionals_from stop ms least xs ≡ shift n (made (λ l _. p ∷ l) (optionals_from stop ms s' (drop n xs)))
    unfolding turn mapc optionals_from
    optionals_next p s' n h =
        optionals_turn ∙ rw e (bind_next (next_optional ms least) (λ (r : Piece × ℕ). mapc (λ l _. r.0 ∷ l) (many stop (next_optional ms) (length xs) r.1)) xs h
        ∙ ap (λ (r : Res (List Piece)). shift n (made (λ l _. p ∷ l) r))
        (many_enough stop (next_optional ms) (eats_optional ms) (starved_optional ms) (length xs) (length (drop n xs)) s' (drop n xs) (omega (arith, length-drop n xs)) (omega arith)))

-- ---- the outcome, slice by slice

-- the whole walk, from its start
pub left_whole : (T : List ℕ) (at : ℕ) (out : List ℕ) (r : Res Chain) → answer_of (left T (seek first) at 0 0 0 0 out r) ≡ slice_walk T at r
unfolding answer_of left slice_walk chain_rows rows_from first_from owners stand_of
left_whole T at out (ok c n) =
    ap₂ (λ (i : ℕ) (j : ℕ × ℕ). Done (first_in T c.list) (format_number c.format) i j.0 j.1 (at + n)) (zero-add _) (ap₂ (λ (x y : ℕ). (x, y)) (zero-add _) (zero-add _))
left_whole T at out (bad c p) = refl

pub left_listed : (T : List ℕ) (at : ℕ) (out : List ℕ) (c : Chain) (n : ℕ) (w : Walk) (l : List ℕ) → listed w l ≡ left T (seek first) at 0 0 0 0 out (ok c n) → l ≡ fill 0 (chain_rows T at c) out
unfolding left chain_rows rows_from owners stand_of
left_listed T at out c n w l h = cc

module _ (T : List ℕ) (top : ℕ) (xs : List ℕ) (at k o s fst : ℕ) (out : List ℕ) where
  -- a refusal of the next slice, recalled or not
  pub left_refused : (st : Stage) → finished st ≡ none → (c p : ℕ) → slice T top st xs ≡ bad c (recall_to c 0 p) → left T st at k o s fst out (onward T top st xs) ≡ refused c (recall_to c at (at + p))
  unfolding left recall_to
  left_refused st f c p e = ap (left T st at k o s fst out) (onward_bad T top st xs f c (recall_to c 0 p) e) ∙ go (eqb c 14)
    where
      go : (b : Bool) → refused c (at + pick b 0 p) ≡ refused c (pick b at (at + p))
      go true = ap (refused c) (add-zero at)
      go false = refl

module _ (T : List ℕ) (top : ℕ) (st : Stage) (xs : List ℕ) where
  -- the format that the stage fixes
  onward_format : (g : Format) → Marks st g → (c : Chain) (n : ℕ) → onward T top st xs ≡ ok c n → c.format ≡ g
  unfolding onward
  onward_format g m c n e = format_kept (walk_of T top (length xs) st xs e) g m

-- ---- a skipped slice

module _ (T : List ℕ) (stand : Stand) (b : Bool) (nm d : List ℕ) (at n : ℕ) where
  abbrev skipped_slice : Slice
  skipped_slice = passed b nm d

  skipped_rows_from : ((last : Bool) → length (slice_front sliced stand last skipped_slice) + length d ≡ n) → (c : Chain) → c.format ≡ sliced
      → rows_from T (seek stand) at (ahead skipped_slice c) ≡ rows_from T (seek (later sliced)) (at + n) c
  unfolding rows_from owners first_in ahead stand_of slice_rows
  skipped_rows_from w c f =
      ap (λ (g : Format). slice_rows T (v11 g) (later g) (at + length (slice_front g stand (is_last c.list) skipped_slice) + length d) (chain T (first_in T c.list)) c.list) f
      ∙ ap (λ (i : ℕ). slice_rows T (v11 sliced) (later sliced) i (chain T (first_in T c.list)) c.list) (omega (arith, w (is_last c.list)))
      ∙ sym (ap (λ (g : Format). slice_rows T (v11 g) (later sliced) (at + n) (chain T (first_in T c.list)) c.list) f)

  skipped_step : ((last : Bool) → length (slice_front sliced stand last skipped_slice) + length d ≡ n) → (k o s fst : ℕ) (out : List ℕ) (r : Res Chain)
      → ((c : Chain) (m : ℕ) → r ≡ ok c m → c.format ≡ sliced)
      → left T (seek stand) at k o s fst out (shift n (made (λ c _. ahead skipped_slice c) r)) ≡ left T (seek (later sliced)) (at + n) k o (s + 1) fst out r
  unfolding left shift made first_from first_in ahead skipped_in passed_in
  skipped_step w k o s fst out (ok c m) f =
      let R = skipped_rows_from w c (f c m refl) in
      ap₂ listed
      (ap₂ (λ (i : ℕ) (j : ℕ × ℕ). Done (first_in T c.list) (format_number c.format) i (o + skipped_in c.list) j.0 j.1) (ap (λ (rs : List Row). k + length rs) R)
      (ap₂ (λ (x y : ℕ). (x, y)) (omega arith) (omega arith)))
      (ap (λ (rs : List Row). fill k rs out) R)
  skipped_step w k o s fst out (bad c p) f = ap (refused c) (omega arith)

module _ (T : List ℕ) (top : ℕ) (xs : List ℕ) (at k o s fst : ℕ) (out : List ℕ) (n : ℕ) where
  abbrev thereafter : WalkEnd
  thereafter = left T (seek (later sliced)) (at + n) k o (s + 1) fst out (onward T top (seek (later sliced)) (drop n xs))

  pub left_skipped : (stage : Stage.Stage) → Skipped T top (stage_of stage) xs n → left T (stage_of stage) at k o s fst out (onward T top (stage_of stage) xs) ≡ thereafter
  unfolding stage_of finished stand_of
  left_skipped First K =
      ap (left T (seek first) at k o s fst out) (onward_next T top (seek first) xs refl _ _ n K.read)
      ∙ skipped_step T first K.h.optionals K.h.id K.part at n (passed_end T top First xs n K) k o s fst out (onward T top (seek (later sliced)) (drop n xs))
      (onward_format T top (seek (later sliced)) (drop n xs) sliced (refl, refl))
  left_skipped Seeking K =
      ap (left T (seek (later sliced)) at k o s fst out) (onward_next T top (seek (later sliced)) xs refl _ _ n K.read)
      ∙ skipped_step T (later sliced) K.h.optionals K.h.id K.part at n (passed_end T top Seeking xs n K) k o s fst out (onward T top (seek (later sliced)) (drop n xs))
      (onward_format T top (seek (later sliced)) (drop n xs) sliced (refl, refl))
  left_skipped (Following z b) K = absurd (passed_never T top (pick z sliced compact) b xs n K)

-- ---- a slice of a known row

module _ (T : List ℕ) (st : Stage) (g : Format) (t b : ℕ) (nm : List ℕ) (ps : List Piece) (at a n : ℕ)
    (own : (ss : List Slice) → owners T st (known nm ps ∷ ss) ≡ t ∷ upward (chain T) b)
    (place : (last : Bool) → length (slice_front g (stand_of st) last (known nm ps)) ≡ a) (weight : n ≡ length (data_bytes (known nm ps))) where
  known_rows_from : (c : Chain) → c.format ≡ g → rows_from T st at (ahead (known nm ps) c) ≡ piece_rows T t (at + a) ps ++ rows_from T (follow g b) (at + a + n) c
  unfolding rows_from owners ahead stand_of slice_rows
  known_rows_from c f =
      ap (λ (ts : List ℕ). slice_rows T (v11 c.format) (stand_of st) at ts (known nm ps ∷ c.list)) (own c.list)
      ∙ ap (λ (h : Format). piece_rows T t (at + length (slice_front h (stand_of st) (is_last c.list) (known nm ps))) ps
      ++ slice_rows T (v11 h) (later h) (at + length (slice_front h (stand_of st) (is_last c.list) (known nm ps)) + length (data_bytes (known nm ps))) (upward (chain T) b) c.list) f
      ∙ ap₂ (λ (i j : ℕ). piece_rows T t (at + i) ps ++ slice_rows T (v11 g) (later g) (at + i + j) (upward (chain T) b) c.list) (place (is_last c.list)) (sym weight)
      ∙ sym (ap (λ (h : Format). piece_rows T t (at + a) ps ++ slice_rows T (v11 h) (later g) (at + a + n) (upward (chain T) b) c.list) f)

  known_step : (k o s fst fst' : ℕ) (out : List ℕ) → ((ss : List Slice) → first_from T st fst (known nm ps ∷ ss) ≡ fst') → (r : Res Chain) → ((c : Chain) (m : ℕ) → r ≡ ok c m → c.format ≡ g)
      → left T st at k o s fst out (shift (a + n) (made (λ c _. ahead (known nm ps) c) r))
      ≡ left T (follow g b) (at + a + n) (k + length (piece_rows T t (at + a) ps)) (o + skipped_pieces ps) s fst' (fill k (piece_rows T t (at + a) ps) out) r
  unfolding left shift made first_from ahead skipped_in passed_in
  known_step k o s fst fst' out e (ok c m) f =
      let R = known_rows_from c (f c m refl) in
      let ps' = piece_rows T t (at + a) ps in
      let l : k + length (rows_from T st at (ahead (known nm ps) c)) ≡ k + length ps' + length (rows_from T (follow g b) (at + a + n) c) =
      ap (λ (rs : List Row). k + length rs) R ∙ omega (arith, length-append ps' (rows_from T (follow g b) (at + a + n) c)) in
      let w : at + (a + n + m) ≡ at + a + n + m = omega arith in
      let v : o + (skipped_pieces ps + skipped_in c.list) ≡ o + skipped_pieces ps + skipped_in c.list = omega arith in
      ap₂ listed
      (ap₂ (λ (i : ℕ × ℕ) (j : ℕ × ℕ). Done i.0 (format_number c.format) i.1 j.0 (s + passed_in c.list) j.1) (ap₂ (λ (x y : ℕ). (x, y)) (e c.list) l) (ap₂ (λ (x y : ℕ). (x, y)) v w))
      (ap (λ (rs : List Row). fill k rs out) R ∙ fill_append ps' (rows_from T (follow g b) (at + a + n) c) k out)
  known_step k o s fst fst' out e (bad c p) f = ap (refused c) (omega arith)

-- the outcome, by the members of the next slice
module _ (T : List ℕ) (top : ℕ) (st : Stage) (m : List ℕ) (pos t : ℕ) (opt z : Bool) (a e : ℕ) (O : Opened T top st (drop pos m) t opt z a e) (on : finished st ≡ none)
    (k o s fst : ℕ) (out : List ℕ) where
  format_is : O.h.format ≡ pick z sliced compact
  format_is = go O.h.format z O.sizes
    where
      go : (g : Format) (b : Bool) → is_sliced g ≡ b → g ≡ pick b sliced compact
      go compact true h = let x : ◌≡◌ {A = ℕ} 0 1 = cc in absurd (omega arith)
      go compact false h = refl
      go sliced true h = refl
      go sliced false h = let x : ◌≡◌ {A = ℕ} 0 1 = cc in absurd (omega arith)

  abbrev whole : WalkEnd
  whole = left T st pos k o s fst out (onward T top st (drop pos m))

  abbrev close : (at k o : ℕ) → List ℕ → WalkEnd
  close = closing T top m z (base T t) s (first_or st fst t) (pos + a) (pos + e)

  abbrev in_part : List ℕ
  in_part = take (e - a) (drop a (drop pos m))

  -- no member is refused, and none is left over
  known_whole : (ps : List Piece) (n : ℕ) → fields T t opt in_part ≡ ok ps n → z && not (eqb (a + n) e) ≡ false
      → whole ≡ left T (follow (pick z sliced compact) (base T t)) (pos + a + n) (k + length (piece_rows T t (pos + a) ps)) (o + skipped_pieces ps) s (first_or st fst t)
      (fill k (piece_rows T t (pos + a) ps) out) (onward T top (follow (pick z sliced compact) (base T t)) (drop (pos + a + n) m))
  unfolding recalled made ended
  known_whole ps n f q =
      let g = pick z sliced compact in
      let r : slice T top st (drop pos m) ≡ ok (known (name_of T t) ps, follow g (base T t)) (a + n) =
      O.read ∙ ap (λ (y : Res (List Piece)). recalled 14 (made (λ ps _. (known (name_of T t) ps, follow O.h.format (base T t))) (ended z a e y))) f
      ∙ rw (q, format_is) in
      let d : drop (a + n) (drop pos m) ≡ drop (pos + a + n) m = drop-drop (a + n) pos m ∙ ap (λ (i : ℕ). drop i m) (sym (add_assoc pos a n)) in
      ap (left T st pos k o s fst out) (onward_next T top st (drop pos m) on _ _ (a + n) r)
      ∙ known_step T st g t (base T t) (name_of T t) ps pos a n (owners_known T top st O.h t O.means ps)
      (λ last. ap (λ (h : Format). length (slice_front h (stand_of st) last (known (name_of T t) ps))) (sym format_is) ∙ known_place T top st (drop pos m) t opt z a e O last ps)
      (fields_weight T t (name_of T t) opt in_part ps n f) k o s fst (first_or st fst t) out (first_known T top st O.h t O.means fst ps)
      (onward T top (follow g (base T t)) (drop (a + n) (drop pos m))) (onward_format T top (follow g (base T t)) (drop (a + n) (drop pos m)) g refl)
      ∙ ap (λ (l : List ℕ). left T (follow g (base T t)) (pos + a + n) (k + length (piece_rows T t (pos + a) ps)) (o + skipped_pieces ps) s (first_or st fst t)
      (fill k (piece_rows T t (pos + a) ps) out) (onward T top (follow g (base T t)) l)) d

  known_over : (ps : List Piece) (n : ℕ) → fields T t opt in_part ≡ ok ps n → z && not (eqb (a + n) e) ≡ true → whole ≡ refused 11 (pos + a - 4)
  unfolding recalled made ended recall_to
  known_over ps n f q =
      let r : slice T top st (drop pos m) ≡ bad 11 (recall_to 11 0 (a - 4)) =
      O.read ∙ ap (λ (y : Res (List Piece)). recalled 14 (made (λ ps _. (known (name_of T t) ps, follow O.h.format (base T t))) (ended z a e y))) f ∙ rw q in
      left_refused T top (drop pos m) pos k o s fst out st on 11 (a - 4) r
      ∙ ap (refused 11) (omega (arith, opened_sized T top st (drop pos m) t opt z a e O (both_true z (not (eqb (a + n) e)) q).0))

  known_bad : (c p : ℕ) → fields T t opt in_part ≡ bad c p → whole ≡ refused c (recall_to c pos (pos + a + p))
  unfolding recalled made ended recall_to
  known_bad c p f =
      let r : slice T top st (drop pos m) ≡ bad c (recall_to c 0 (a + p)) =
      O.read ∙ ap (λ (y : Res (List Piece)). recalled 14 (made (λ ps _. (known (name_of T t) ps, follow O.h.format (base T t))) (ended z a e y))) f ∙ go (eqb c 14) in
      left_refused T top (drop pos m) pos k o s fst out st on c (a + p) r ∙ ap (λ (i : ℕ). refused c (recall_to c pos i)) (sym (add_assoc pos a p))
    where
      go : (b : Bool) → pick {X = Res (Slice × Stage)} b (bad c 0) (bad c (a + p)) ≡ bad c (pick b 0 (a + p))
      go true = refl
      go false = refl

  pub left_known : whole ≡ finish T t close (recalling pos) false (pos + a) k o out (fields T t opt in_part)
  unfolding finish closing recalling
  left_known = go (fields T t opt in_part) refl
    where
      same_end : (n : ℕ) → eqb (pos + a + n) (pos + e) ≡ eqb (a + n) e
      same_end n = by (eqb (a + n) e) refl
        where
          by : (b : Bool) → eqb (a + n) e ≡ b → eqb (pos + a + n) (pos + e) ≡ b
          by true h = let x : a + n ≡ e = eqb-true (a + n) e h in eq-eqb (pos + a + n) (pos + e) (omega arith)
          by false h = let x : a + n ≡ e → ⊥ = eqb-false (a + n) e h in ne_eqb (pos + a + n) (pos + e) (λ y. x (omega arith))

      tested : (ps : List Piece) (n : ℕ) → fields T t opt in_part ≡ ok ps n → (b : Bool) → z && not (eqb (a + n) e) ≡ b
          → whole ≡ pick b (refused 11 (pos + a - 4)) (left T (follow (pick z sliced compact) (base T t)) (pos + a + n) (k + length (piece_rows T t (pos + a) ps)) (o + skipped_pieces ps) s (first_or st fst t)
          (fill k (piece_rows T t (pos + a) ps) out) (onward T top (follow (pick z sliced compact) (base T t)) (drop (pos + a + n) m)))
      tested ps n f true q = known_over ps n f q
      tested ps n f false q = known_whole ps n f q

      go : (r : Res (List Piece)) → fields T t opt in_part ≡ r → whole ≡ finish T t close (recalling pos) false (pos + a) k o out r
      go (ok ps n) f = tested ps n f (z && not (eqb (pos + a + n) (pos + e))) (ap (λ (b : Bool). z && not b) (sym (same_end n)))
      go (bad c p) f = known_bad c p f

-- ---- members, one after another

-- where there is a piece, none is missing
never : (b : Bool) (x y : WalkEnd) → pick (b && false) x y ≡ y
never true x y = refl
never false x y = refl

module _ (T : List ℕ) (t : ℕ) (go : (at k o : ℕ) → List ℕ → WalkEnd) (refuse : ℕ → ℕ → WalkEnd) where
  -- required members, then what was read after them
  module _ (xs : List ℕ) (ps : List Piece) (n : ℕ) (e : requireds (Table.required_members T t) xs ≡ ok ps n) (at k o : ℕ) (out : List ℕ) where
    finish_append : (r : Res (List Piece))
        → finish T t go refuse false at k o out (shift n (made (λ qs _. ps ++ qs) r)) ≡ finish T t go refuse false (at + n) (k + length ps) o (fill k (piece_rows T t at ps) out) r
    unfolding finish shift made
    finish_append (ok qs m) =
        let w : length (concat piece_bytes ps) ≡ n = sym (requireds_weight (Table.required_members T t) xs e) in
        let l : length (piece_rows T t at ps) ≡ length ps = required_count false T t xs ps n at e in
        let R : piece_rows T t at (ps ++ qs) ≡ piece_rows T t at ps ++ piece_rows T t (at + n) qs =
        rows_append T t ps qs at ∙ ap (λ (i : ℕ). piece_rows T t at ps ++ piece_rows T t (at + i) qs) w in
        let i : at + (n + m) ≡ at + n + m = omega arith in
        let j : k + length (piece_rows T t at (ps ++ qs)) ≡ k + length ps + length (piece_rows T t (at + n) qs) =
        ap (λ (rs : List Row). k + length rs) R ∙ omega (arith, length-append (piece_rows T t at ps) (piece_rows T t (at + n) qs)) in
        let h : o + skipped_pieces (ps ++ qs) ≡ o + skipped_pieces qs = omega (arith, skipped_append ps qs, (required_plain (Table.required_members T t) xs ps n e).none_skipped) in
        let f : fill k (piece_rows T t at (ps ++ qs)) out ≡ fill (k + length ps) (piece_rows T t (at + n) qs) (fill k (piece_rows T t at ps) out) =
        ap (λ (rs : List Row). fill k rs out) R ∙ fill_append (piece_rows T t at ps) (piece_rows T t (at + n) qs) k out
        ∙ ap (λ (i : ℕ). fill (k + i) (piece_rows T t (at + n) qs) (fill k (piece_rows T t at ps) out)) l in
        ap₂ (λ (x : ℕ × ℕ) (y : ℕ × List ℕ). go x.0 x.1 y.0 y.1) (ap₂ (λ (x y : ℕ). (x, y)) i j) (ap₂ (λ (x : ℕ) (y : List ℕ). (x, y)) h f)
    finish_append (bad c p) = ap (refuse c) (omega arith)

    -- at least one optional has to be there
    finish_some : (r : Res (List Piece))
        → finish T t go refuse false at k o out (shift n (made (λ qs _. ps ++ qs) (judged some_form r))) ≡ finish T t go refuse true (at + n) (k + length ps) o (fill k (piece_rows T t at ps) out) r
    unfolding finish shift made judged some_form no_piece
    finish_some (ok [] m) = ap (refuse 14) (omega arith)
    finish_some (ok (q ∷ qs) m) = finish_append (ok (q ∷ qs) m)
    finish_some (bad c p) = ap (refuse c) (omega arith)

    finish_none : finish T t go refuse false at k o out (ok ps n) ≡ go (at + n) (k + length ps) o (fill k (piece_rows T t at ps) out)
    unfolding finish
    finish_none =
        let l : k + length (piece_rows T t at ps) ≡ k + length ps = ap (λ (i : ℕ). k + i) (required_count false T t xs ps n at e) in
        let h : o + skipped_pieces ps ≡ o = omega (arith, (required_plain (Table.required_members T t) xs ps n e).none_skipped) in
        ap₂ (λ (i j : ℕ). go (at + n) i j (fill k (piece_rows T t at ps) out)) l h

    -- in a slice, by its bit 2
    pub fields_required : (opt : Bool) → finish T t go refuse false at k o out (fields T t opt xs)
        ≡ pick opt (finish T t go refuse true (at + n) (k + length ps) o (fill k (piece_rows T t at ps) out) (optionals_from at_mark (Table.optional_members T t) 0 (drop n xs)))
        (go (at + n) (k + length ps) o (fill k (piece_rows T t at ps) out))
    unfolding fields mapc must optionals optionals_from pure shift
    fields_required true =
        ap (finish T t go refuse false at k o out) (bind_next (requireds (Table.required_members T t)) _ xs e) ∙ finish_some (optionals_from at_mark (Table.optional_members T t) 0 (drop n xs))
    fields_required false =
        ap (finish T t go refuse false at k o out) (bind_next (requireds (Table.required_members T t)) _ xs e ∙ ap (ok ps) (add-zero n)) ∙ finish_none

    -- in a parameter list
    pub parameters_required : finish T t go refuse false at k o out (parameters T t xs)
        ≡ finish T t go refuse false (at + n) (k + length ps) o (fill k (piece_rows T t at ps) out) (optionals_from at_end (Table.optional_members T t) 0 (drop n xs))
    unfolding parameters mapc optionals optionals_from
    parameters_required =
        ap (finish T t go refuse false at k o out) (bind_next (requireds (Table.required_members T t)) _ xs e) ∙ finish_append (optionals_from at_end (Table.optional_members T t) 0 (drop n xs))

  module _ (xs : List ℕ) (c p : ℕ) (e : requireds (Table.required_members T t) xs ≡ bad c p) (at k o : ℕ) (out : List ℕ) where
    pub fields_refused : (opt : Bool) → finish T t go refuse false at k o out (fields T t opt xs) ≡ refuse c (at + p)
    unfolding fields finish
    fields_refused opt = ap (finish T t go refuse false at k o out) (bind_bad (requireds (Table.required_members T t)) _ xs e)

    pub parameters_refused : finish T t go refuse false at k o out (parameters T t xs) ≡ refuse c (at + p)
    unfolding parameters finish
    parameters_refused = ap (finish T t go refuse false at k o out) (bind_bad (requireds (Table.required_members T t)) _ xs e)

  -- ---- optionals, one after another

  module _ (stop : List ℕ → Option ℕ) (due : Bool) (least : ℕ) (xs : List ℕ) (at k o : ℕ) (out : List ℕ) where
    abbrev pub ahead_of : WalkEnd
    ahead_of = finish T t go refuse due at k o out (optionals_from stop (Table.optional_members T t) least xs)

    pub finish_end : (j : ℕ) → stop xs ≡ some j → due ≡ false → ahead_of ≡ go (at + j) k o out
    unfolding finish no_piece piece_rows skipped_pieces fill
    finish_end j e d = ap (finish T t go refuse due at k o out) (optionals_end stop (Table.optional_members T t) least xs e) ∙ rw d (ap₂ (λ (x y : ℕ). go (at + j) x y out) (add-zero k) (add-zero o))

    pub finish_early : (j : ℕ) → stop xs ≡ some j → due ≡ true → ahead_of ≡ refuse 14 at
    unfolding finish no_piece
    finish_early j e d = ap (finish T t go refuse due at k o out) (optionals_end stop (Table.optional_members T t) least xs e) ∙ rw d

    module _ (e : stop xs ≡ none) where
      pub finish_wrong : (c p : ℕ) → next_optional (Table.optional_members T t) least xs ≡ bad c p → ahead_of ≡ refuse c (at + p)
      unfolding finish
      finish_wrong c p h = ap (finish T t go refuse due at k o out) (optionals_bad stop (Table.optional_members T t) least xs e c p h)

      pub finish_known : (m tag a n : ℕ) → KnownRead (Table.optional_members T t) least xs m tag a n
          → ahead_of ≡ finish T t go refuse false (at + n) (k + 1) o (put (12 * k) (row_bytes (record { member = m; place = at + a; len = n - a })) out) (optionals_from stop (Table.optional_members T t) (suc tag) (drop n xs))
      unfolding finish shift made no_piece fill skipped_pieces is_skipped
      finish_known m tag a n K =
          ap (finish T t go refuse due at k o out) (optionals_next stop (Table.optional_members T t) least xs e (optional tag K.form K.bytes) (suc tag) n K.read)
          ∙ by (optionals_from stop (Table.optional_members T t) (suc tag) (drop n xs))
        where
          piece : Piece
          piece = optional tag K.form K.bytes

          r : Row
          r = record { member = m; place = at + a; len = n - a }

          by : (y : Res (List Piece)) → finish T t go refuse due at k o out (shift n (made (λ l _. piece ∷ l) y)) ≡ finish T t go refuse false (at + n) (k + 1) o (put (12 * k) (row_bytes r) out) y
          by (ok ps l) =
              let R : piece_rows T t at (piece ∷ ps) ≡ r ∷ piece_rows T t (at + n) ps = known_rows T t least xs at ps m tag a n K in
              never due (refuse 14 at) _
              ∙ ap₂ (λ (x : ℕ × ℕ) (y : ℕ × List ℕ). go x.0 x.1 y.0 y.1)
              (ap₂ (λ (x y : ℕ). (x, y)) (omega arith) (ap (λ (rs : List Row). k + length rs) R ∙ omega arith))
              (ap₂ (λ (x : ℕ) (y : List ℕ). (x, y)) (omega arith)
              (ap (λ (rs : List Row). fill k rs out) R ∙ ap (λ (i : ℕ). fill i (piece_rows T t (at + n) ps) (put (12 * k) (row_bytes r) out)) (sym (add-one k))))
          by (bad c p) = ap (refuse c) (omega arith)

      pub finish_skipped : (tag n : ℕ) → SkippedRead (Table.optional_members T t) least xs tag n
          → ahead_of ≡ finish T t go refuse false (at + n) k (o + 1) out (optionals_from stop (Table.optional_members T t) (suc tag) (drop n xs))
      unfolding finish shift made no_piece skipped_pieces is_skipped
      finish_skipped tag n K =
          ap (finish T t go refuse due at k o out) (optionals_next stop (Table.optional_members T t) least xs e (skipped tag K.type K.bytes) (suc tag) n K.read)
          ∙ by (optionals_from stop (Table.optional_members T t) (suc tag) (drop n xs))
        where
          piece : Piece
          piece = skipped tag K.type K.bytes

          by : (y : Res (List Piece)) → finish T t go refuse due at k o out (shift n (made (λ l _. piece ∷ l) y)) ≡ finish T t go refuse false (at + n) k (o + 1) out y
          by (ok ps l) =
              let R : piece_rows T t at (piece ∷ ps) ≡ piece_rows T t (at + n) ps = skipped_rows T t least xs at ps tag n K in
              never due (refuse 14 at) _
              ∙ ap₂ (λ (x : ℕ × ℕ) (y : ℕ × List ℕ). go x.0 x.1 y.0 y.1)
              (ap₂ (λ (x y : ℕ). (x, y)) (omega arith) (ap (λ (rs : List Row). k + length rs) R))
              (ap₂ (λ (x : ℕ) (y : List ℕ). (x, y)) (omega arith) (ap (λ (rs : List Row). fill k rs out) R))
          by (bad c p) = ap (refuse c) (omega arith)
