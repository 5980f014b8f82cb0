-- The search for an owner, for a slice and for a tag: what holds at the head of each loop, and what each step makes of it. Assumes nothing.
--
--   owner_..            the loop up a chain
--   Seeks, seeks_..     the loop over slices
--   id_.., frame_..     one slice
--   end_.., other_..    whether optionals end; whether there are others
--   Tags, tags_..       the loop over optionals
--   members_..          the search after the required members
use mathlib.Core.Path.{◌≡◌, refl, sym, ap, ap₂, ◌∙◌, subst}
use mathlib.Core.Bool.{Bool, true, false, ◌&&◌, ◌||◌, not, true≢false}
use mathlib.Core.Option.{Option, none, some}
use mathlib.Core.List.{List, [], ◌∷◌}
use Prim.Native.Nat.{ℕ, zero, suc, ◌+◌, ◌-◌, ◌*◌, ◌≤◌, ◌<◌}
use native.Mathlib.Numerals.{add-one, sub-one}
use native.Mathlib.Omega.{arith}
use lib.ListN.{length, take, drop, length-drop}
use lib.Seq.{drop-drop}
use lib.Dec.{eqb, leb, ltb}
use mir.Syntax.{w64}
use mir.Val.{Fits}
use borrow.Author.Tests.{eqb-true, eqb-false, eq-eqb, ne_eqb, lt-ltb, le-ltb, le-leb, ltb-true, leb-true}
use Rattle.std.specs.Prelude.{Result, Ok, Err, Some, None}
use Rattle.std.specs.Prelude.{Option as Maybe}
use Rattle.encoding.specs.Result.{ok, pick, same_bytes}
use Rattle.encoding.proofs.ResultLaws.{both_true, held_took}
use Rattle.encoding.specs.Number.{declared, val}
use Rattle.encoding.proofs.NumberLaws.{held_declared}
use Rattle.encoding.proofs.WeightLaws.{declared_weight}
use Rattle.encoding.specs.Types.{Ty, vsize}
use Rattle.encoding.specs.Table.{at, field, mark, tag, takes, range, Member, member_ty, trees, own_rows, optionals_in, base, upward, chain}
use Rattle.encoding.specs.Table
use Rattle.encoding.proofs.TableLaws.{chain_row}
use Rattle.encoding.specs.Optional.{extent, next_optional, requireds}
use Rattle.encoding.proofs.OptionalLaws.{ends_extent, held_extent}
use Rattle.encoding.specs.Write.{optional_row}
use Rattle.wire.specs.declared.Refusal.{Refusal}
use Rattle.wire.specs.declared.Counted.{Counted}
use Rattle.wire.specs.Steps.{step_of, bytes_of}
use Rattle.wire.specs.StepLaws.{rest_is, step_took, step_fault, bytes_is, bytes_isnt}
use Rattle.table.specs.Found.{found_of}
use Rattle.table.specs.Tags.{optional_from}
use Rattle.level.specs.declared.Optional.{Optional}
use Rattle.level.specs.declared.Optional.TheVariants.{Known, Skipped}
use Rattle.level.specs.declared.Members.{Members}
use Rattle.level.specs.Answers.{members_of, optional_answer}
use Rattle.level.specs.AnswersLaws.{known_read, skipped_read, wrong_read, skipped_some, skipped_within, members_read, members_refused, members_within}
use Rattle.edit.specs.Change.{Target, or_further, target_in, target}
use Rattle.edit.specs.Place.{Gap, gap, closed, seek_at, seek_piece, seek_next, seek_tag, moved_by, after_required, gap_in, Seat, size_read, id_read, seek_slice}
use Rattle.seek.specs.declared.Slot.{Slot}
use Rattle.seek.specs.declared.Slot.TheVariants.{List as InList, At, Nothing}
use Rattle.seek.specs.declared.Frame.{Frame}
use Rattle.seek.specs.declared.Spot.{Spot}
use Rattle.seek.specs.Located.{target_row, slot_of, slot_in, SlotInside, Framed, FrameIs, as_gap, SpotInside}

-- ---- the owner

module _ (T : List ℕ) (m : ℕ) where
  -- a row that is required is no optional
  row_marked : (l : List Ty) (a b : ℕ) → mark T m ≡ 0 → optional_row m 0 (optionals_in T l (range a b)) ≡ none
  unfolding optional_row optionals_in range
  row_marked l a zero e = refl
  row_marked l a (suc b) e = go (eqb (mark T a) 0) refl (eqb m a) refl (row_marked l (suc a) b e)
    where
      go : (x : Bool) → eqb (mark T a) 0 ≡ x → (y : Bool) → eqb m a ≡ y → optional_row m 0 (optionals_in T l (range (suc a) b)) ≡ none
          → optional_row m 0 (pick x (optionals_in T l (range (suc a) b)) (record { row = a; key = tag T a; ty = member_ty T l a } ∷ optionals_in T l (range (suc a) b))) ≡ none
      go true p y q ih = ih
      go false p true q ih = absurd (eqb-false (mark T a) 0 p (ap (mark T) (sym (eqb-true m a q)) ∙ e))
      go false p false q ih = rw q ih

  -- an optional row is found exactly among the rows taken
  row_out : (l : List Ty) (a b : ℕ) → leb a m && ltb m (a + b) ≡ false → optional_row m 0 (optionals_in T l (range a b)) ≡ none
  unfolding optional_row optionals_in range
  row_out l a zero e = refl
  row_out l a (suc b) e = go (eqb (mark T a) 0) (row_out l (suc a) b (later e))
    where
      later : leb a m && ltb m (a + suc b) ≡ false → leb (suc a) m && ltb m (suc a + b) ≡ false
      later e = cases (leb (suc a) m) refl (ltb m (suc a + b)) refl
        where
          cases : (x : Bool) → leb (suc a) m ≡ x → (y : Bool) → ltb m (suc a + b) ≡ y → x && y ≡ false
          cases true p true q = absurd (both_no (omega (arith, leb-true (suc a) m p)) (omega (arith, ltb-true m (suc a + b) q)))
            where
              both_no : a ≤ m → m < a + suc b → ⊥
              both_no u v = true≢false (sym (rw (le-leb a m u, lt-ltb m (a + suc b) v)) ∙ e)
          cases true p false q = refl
          cases false p y q = refl

      not_here : m ≡ a → ⊥
      not_here s = true≢false (sym (rw (le-leb a m (omega arith), lt-ltb m (a + suc b) (omega arith))) ∙ e)

      go : (x : Bool) → optional_row m 0 (optionals_in T l (range (suc a) b)) ≡ none
          → optional_row m 0 (pick x (optionals_in T l (range (suc a) b)) (record { row = a; key = tag T a; ty = member_ty T l a } ∷ optionals_in T l (range (suc a) b))) ≡ none
      go true ih = ih
      go false ih = rw (ne_eqb m a not_here) ih

  row_in : (l : List Ty) (a b : ℕ) → (mark T m ≡ 0 → ⊥) → a ≤ m → m < a + b → (d : Member) × (optional_row m 0 (optionals_in T l (range a b)) ≡ some d)
  unfolding optional_row optionals_in range
  row_in l a zero u h g = absurd (omega arith)
  row_in l a (suc b) u h g = go (eqb (mark T a) 0) refl (eqb m a) refl (λ k. row_in l (suc a) b u k (omega arith))
    where
      rest : List Member
      rest = optionals_in T l (range (suc a) b)

      this : Member
      this = record { row = a; key = tag T a; ty = member_ty T l a }

      go : (x : Bool) → eqb (mark T a) 0 ≡ x → (y : Bool) → eqb m a ≡ y → (suc a ≤ m → (d : Member) × (optional_row m 0 rest ≡ some d)) → (d : Member) × (optional_row m 0 (pick x rest (this ∷ rest)) ≡ some d)
      go true p true q ih = absurd (u (ap (mark T) (eqb-true m a q) ∙ eqb-true (mark T a) 0 p))
      go false p true q ih = (this, ap (λ (c : Bool). pick (c && leb 0 (tag T a)) (some this) (optional_row m 0 rest)) q ∙ ap (λ (c : Bool). pick c (some this) (optional_row m 0 rest)) (le-leb 0 (tag T a) (omega arith)))
      go true p false q ih = ih (omega (arith, eqb-false m a q))
      go false p false q ih = let R = ih (omega (arith, eqb-false m a q)) in (R.0, ap (λ (c : Bool). pick (c && leb 0 (tag T a)) (some this) (optional_row m 0 rest)) q ∙ R.1)

  chain_marked : (ts : List ℕ) → mark T m ≡ 0 → target_in T m ts ≡ none
  unfolding target_in or_further Table.optional_members own_rows
  chain_marked [] e = refl
  chain_marked (t ∷ ts) e = ap (or_further t (target_in T m ts)) (row_marked (trees T) (field T t 0) (field T t 1) e) ∙ chain_marked ts e

  pub owner_required : (t k : ℕ) → k ≡ mark T m → k ≡ 0 → None ≡ found_of (target_row (target T t m))
  unfolding target found_of target_row
  owner_required t k e z = sym (ap (λ (w : Option Target). found_of (target_row w)) (chain_marked (chain T t) (sym e ∙ z)))

  module _ (o : ℕ) (whole : Maybe ℕ) (inv : whole ≡ found_of (target_row (target T o m))) (r : Bool) (er : r ≡ takes T o m) where
    node : target T o m ≡ or_further o (target_in T m (upward (chain T) (base T o))) (optional_row m 0 (Table.optional_members T o))
    unfolding target target_in
    node = ap (target_in T m) (chain_row T o)

    pub owner_here : (k : ℕ) → k ≡ mark T m → (k ≡ 0 → ⊥) → r ≡ true → Some o ≡ whole
    unfolding or_further found_of target_row takes Table.optional_members own_rows
    owner_here k e u q =
        let b = both_true (leb (field T o 0) m) (ltb m (field T o 0 + field T o 1)) (sym er ∙ q) in
        let R = row_in (trees T) (field T o 0) (field T o 1) (λ z. u (e ∙ z)) (leb-true (field T o 0) m b.0) (ltb-true m (field T o 0 + field T o 1) b.1) in
        sym (inv ∙ ap (λ (w : Option Target). found_of (target_row w)) (node ∙ ap (or_further o (target_in T m (upward (chain T) (base T o)))) R.1))

    further : r ≡ false → target T o m ≡ target_in T m (upward (chain T) (base T o))
    unfolding or_further takes Table.optional_members own_rows
    further q = node ∙ ap (or_further o (target_in T m (upward (chain T) (base T o)))) (row_out (trees T) (field T o 0) (field T o 1) (sym er ∙ q))

    module _ (q : r ≡ false) (b : ℕ) (eb : b ≡ base T o) where
      pub owner_end : b ≡ 0 → None ≡ whole
      unfolding found_of target_row upward target_in
      owner_end z = sym (inv ∙ ap (λ (w : Option Target). found_of (target_row w)) (further q ∙ ap (λ (i : ℕ). target_in T m (upward (chain T) i)) (sym eb ∙ z)))

      pub owner_next : (b ≡ 0 → ⊥) → whole ≡ found_of (target_row (target T (b - 1) m))
      unfolding upward target
      owner_next z = inv ∙ ap (λ (w : Option Target). found_of (target_row w)) (further q ∙ ap (λ (i : ℕ). target_in T m (upward (chain T) i)) (sym eb) ∙ go b z)
        where
          go : (i : ℕ) → (i ≡ 0 → ⊥) → target_in T m (upward (chain T) i) ≡ target_in T m (chain T (i - 1))
          go zero h = absurd (h refl)
          go (suc i) h = rw sub-one

-- ---- the slice

pub record Seeks (nm m : List ℕ) (start : ℕ) (whole : Slot) (at : ℕ) : Type 0 where
  pub fuel : ℕ
  pub enough : length m < at + fuel
  pub begun : start ≤ at
  pub rest : whole ≡ slot_of (seek_slice nm fuel at (drop at m))

pub seeks_begin : (nm m : List ℕ) (start : ℕ) → Seeks nm m start (slot_of (seek_slice nm (suc (length m)) start (drop start m))) start
seeks_begin nm m start = record { fuel = suc (length m); enough = omega arith; begun = omega arith; rest = refl }

module _ (nm m : List ℕ) (start : ℕ) (whole : Slot) (at : ℕ) (inv : Seeks nm m start whole at) where
  pub seeks_end : length m ≤ at → Nothing ≡ whole
  unfolding seek_slice slot_of
  seeks_end h = sym (inv.rest ∙ ap slot_of (go inv.fuel (drop at m) (omega (arith, length-drop at m))))
    where
      go : (f : ℕ) (l : List ℕ) → length l ≤ 0 → seek_slice nm f at l ≡ none
      go zero l h = refl
      go (suc f) [] h = refl
      go (suc f) (x ∷ l) h = absurd (omega arith)

  module _ (more : at < length m) (fr : Maybe Frame) (F : FrameIs m at fr) where
    -- one slice further
    abbrev then : ℕ → Option Seat
    then f = id_read nm at (drop (at + 1) m) (extent vsize (drop (at + 1) m)) (λ a ys. seek_slice nm f a ys)

    opened : (f : ℕ) × (length m < at + suc f) × (whole ≡ slot_of (then f))
    unfolding seek_slice
    opened = go inv.fuel inv.enough inv.rest
      where
        head : (l : List ℕ) → l ≡ drop at m → (f : ℕ) → seek_slice nm (suc f) at l ≡ then f
        head [] e f = absurd (omega (arith, ap length e, length-drop at m))
        head (x ∷ l) e f =
            let s : l ≡ drop (at + 1) m = ap (drop 1) e ∙ drop-drop 1 at m in
            ap (λ (z : List ℕ). id_read nm at z (extent vsize z) (λ a ys. seek_slice nm f a ys)) s

        go : (f : ℕ) → length m < at + f → whole ≡ slot_of (seek_slice nm f at (drop at m)) → (f : ℕ) × (length m < at + suc f) × (whole ≡ slot_of (then f))
        go zero h e = absurd (omega arith)
        go (suc f) h e = (f, h, e ∙ ap slot_of (head (drop at m) refl f))

    pub seeks_none : fr ≡ None → Nothing ≡ whole
    unfolding slot_of
    seeks_none q = sym (opened.2 ∙ ap slot_of (subst (FrameIs m at) q F nm (λ a ys. seek_slice nm opened.0 a ys)))

    module _ (x : Frame) (q : fr ≡ Some x) where
      framed : Framed m at x.id x.size x.end
      framed = subst (FrameIs m at) q F

      pub frame_order : x.id ≤ x.size
      frame_order = framed.id_order

      pub frame_within : x.size ≤ length m
      frame_within = omega (arith, framed.least, framed.fits)

      pub seeks_less : length m - x.end < length m - at
      seeks_less = omega (arith, framed.least, framed.fits, framed.size_at_lem)

      pub slot_inside : SlotInside start (length m) (At at x.size x.end)
      slot_inside = (inv.begun, omega (arith, framed.size_at_lem), framed.least, framed.fits)

      module _ (r : Bool) (er : r ≡ same_bytes (take (x.size - x.id) (drop x.id m)) nm) where
        chosen : whole ≡ slot_of (pick r (some (record { flags = at; size = x.size; end = x.end })) (seek_slice nm opened.0 x.end (drop x.end m)))
        unfolding id_read size_read
        chosen =
            let f : ℕ = opened.0 in
            opened.2 ∙ ap (λ w. slot_of (id_read nm at (drop (at + 1) m) w (λ i ys. seek_slice nm f i ys))) framed.reads_id
            ∙ ap₂ (λ (z : ℕ) (y : List ℕ). slot_of (size_read nm at z framed.id y (declared 4 4 y) (λ i ys. seek_slice nm f i ys))) (sym framed.size_at_lem) (drop-drop framed.taken (at + 1) m ∙ ap (λ (z : ℕ). drop z m) (sym framed.size_at_lem))
            ∙ ap (λ w. slot_of (size_read nm at x.size framed.id (drop x.size m) w (λ i ys. seek_slice nm f i ys))) framed.reads_size
            ∙ ap₂ (λ (w : Bool) (y : List ℕ). slot_of (pick w (some (record { flags = at; size = x.size; end = x.size + framed.sized })) (seek_slice nm f (x.size + framed.sized) y))) (sym (er ∙ ap (λ (z : List ℕ). same_bytes z nm) framed.id_is)) (drop-drop framed.sized x.size m)
            ∙ ap (λ (z : ℕ). slot_of (pick r (some (record { flags = at; size = x.size; end = z })) (seek_slice nm f z (drop z m)))) (sym framed.ends)

        pub seeks_here : r ≡ true → At at x.size x.end ≡ whole
        unfolding slot_of
        seeks_here h = sym (chosen ∙ ap (λ (w : Bool). slot_of (pick w (some (record { flags = at; size = x.size; end = x.end })) (seek_slice nm opened.0 x.end (drop x.end m)))) h)

        pub seeks_next : r ≡ false → Seeks nm m start whole x.end
        seeks_next h = record {
          fuel = opened.0;
          enough = omega (arith, opened.1, framed.least, framed.size_at_lem);
          begun = omega (arith, inv.begun, framed.least, framed.size_at_lem);
          rest = chosen ∙ ap (λ (w : Bool). slot_of (pick w (some (record { flags = at; size = x.size; end = x.end })) (seek_slice nm opened.0 x.end (drop x.end m)))) h;
        }

-- ---- one slice

module _ (m : List ℕ) (at : ℕ) (more : at < length m) (id : Result Counted Refusal) (ei : id ≡ bytes_of (extent vsize (take (length m - (at + 1)) (drop (at + 1) m)))) where
  id_reads : id ≡ bytes_of (extent vsize (drop (at + 1) m))
  id_reads = ei ∙ ap (λ (z : List ℕ). bytes_of (extent vsize z)) (rest_is m (at + 1))

  pub frame_unnamed : (x : Refusal) → id ≡ Err x → FrameIs m at None
  unfolding id_read
  frame_unnamed x q nm further = ap (λ w. id_read nm at (drop (at + 1) m) w further) (bytes_isnt (extent vsize (drop (at + 1) m)) x (sym q ∙ id_reads))

  module _ (x : Counted) (q : id ≡ Ok x) where
    id_read_lem : (d : List ℕ) × (extent vsize (drop (at + 1) m) ≡ ok d x.bytes) × (x.number ≡ length d)
    id_read_lem = bytes_is (extent vsize (drop (at + 1) m)) x (sym q ∙ id_reads)

    pub id_fits : at + 1 + x.bytes ≤ length m
    id_fits = omega (arith, held_took (extent vsize) (held_extent vsize) (drop (at + 1) m) id_read_lem.1, length-drop (at + 1) m)

    id_shorter : x.number ≤ x.bytes
    id_shorter = omega (arith, id_read_lem.2, (ends_extent vsize (drop (at + 1) m) id_read_lem.0 x.bytes id_read_lem.1).within)

    pub id_sum : Fits w64 (length m) → Fits w64 (at + 1 + x.bytes)
    id_sum f = omega (arith, id_fits)

    pub id_begins : x.number ≤ at + 1 + x.bytes
    id_begins = omega (arith, id_shorter)

    module _ (step : Result ℕ Refusal) (es : step ≡ step_of (declared 4 4 (take (length m - (at + 1 + x.bytes)) (drop (at + 1 + x.bytes) m)))) where
      size_reads : step ≡ step_of (declared 4 4 (drop (at + 1 + x.bytes) m))
      size_reads = es ∙ ap (λ (z : List ℕ). step_of (declared 4 4 z)) (rest_is m (at + 1 + x.bytes))

      pub frame_unsized : (y : Refusal) → step ≡ Err y → FrameIs m at None
      unfolding id_read size_read
      frame_unsized y h nm further =
          ap (λ w. id_read nm at (drop (at + 1) m) w further) id_read_lem.1
          ∙ ap (λ (z : List ℕ). size_read nm at (at + 1 + x.bytes) id_read_lem.0 z (declared 4 4 z) further) (drop-drop x.bytes (at + 1) m)
          ∙ ap (λ w. size_read nm at (at + 1 + x.bytes) id_read_lem.0 (drop (at + 1 + x.bytes) m) w further) (step_fault (declared 4 4 (drop (at + 1 + x.bytes) m)) y (sym h ∙ size_reads))

      module _ (l : ℕ) (ql : step ≡ Ok l) where
        size_read_lem : (d : List ℕ) × (declared 4 4 (drop (at + 1 + x.bytes) m) ≡ ok d l)
        size_read_lem = step_took (declared 4 4 (drop (at + 1 + x.bytes) m)) l (sym ql ∙ size_reads)

        size_fits : at + 1 + x.bytes + l ≤ length m
        size_fits = omega (arith, held_took (declared 4 4) (held_declared 4 4) (drop (at + 1 + x.bytes) m) size_read_lem.1, length-drop (at + 1 + x.bytes) m, id_fits)

        pub size_sum : Fits w64 (length m) → Fits w64 (at + 1 + x.bytes + l)
        size_sum f = omega (arith, size_fits)

        pub frame_is : FrameIs m at (Some (record { id = at + 1 + x.bytes - x.number; size = at + 1 + x.bytes; end = at + 1 + x.bytes + l }))
        frame_is =
            let E = ends_extent vsize (drop (at + 1) m) id_read_lem.0 x.bytes id_read_lem.1 in
            let a : at + 1 + x.bytes - (at + 1 + x.bytes - x.number) ≡ length id_read_lem.0 = omega (arith, id_read_lem.2, id_shorter) in
            let b : at + 1 + x.bytes - x.number ≡ at + 1 + (x.bytes - length id_read_lem.0) = omega (arith, id_read_lem.2, id_shorter) in
            record {
              id = id_read_lem.0;
              taken = x.bytes;
              reads_id = id_read_lem.1;
              size_at_lem = refl;
              body = size_read_lem.0;
              sized = l;
              reads_size = size_read_lem.1;
              ends = refl;
              id_is = ap₂ (λ (i j : ℕ). take i (drop j m)) a b ∙ ap (take (length id_read_lem.0)) (sym (drop-drop (x.bytes - length id_read_lem.0) (at + 1) m)) ∙ E.there;
              id_order = omega arith;
              least = omega (arith, declared_weight 4 4 (drop (at + 1 + x.bytes) m) size_read_lem.1);
              fits = size_fits;
            }

-- ---- the end of optionals

pub end_past : (s : List ℕ) (at : ℕ) → length s ≤ at → leb (length s) at ≡ closed (drop at s)
unfolding closed
end_past s at h = le-leb (length s) at h ∙ go (drop at s) (omega (arith, length-drop at s))
  where
    go : (l : List ℕ) → length l ≤ 0 → true ≡ closed l
    go [] h = refl
    go (x ∷ l) h = absurd (omega arith)

pub end_byte : (s : List ℕ) (i b : ℕ) → i < length s → b ≡ at s 1 i → eqb b 255 ≡ closed (drop i s)
unfolding closed at val
end_byte s i b h e = ap (λ (z : ℕ). eqb z 255) e ∙ go (drop i s) (omega (arith, length-drop i s))
  where
    go : (l : List ℕ) → 0 < length l → eqb (val (take 1 l)) 255 ≡ closed l
    go [] h = absurd (omega arith)
    go (x ∷ l) h = let e : x + 256 * 0 ≡ x = omega arith in ap (λ (z : ℕ). eqb z 255) e

pub other_before : (least : ℕ) (e : Bool) → 0 < least → ltb 0 least ≡ ltb 0 least || not e
other_before least e h = rw (lt-ltb 0 least h)

pub other_after : (least : ℕ) (e : Bool) → least ≤ 0 → not e ≡ ltb 0 least || not e
other_after least e h = rw (le-ltb 0 least h)

-- ---- the tag

pub record Tags (s : List ℕ) (k : ℕ) (whole : Gap) (at least : ℕ) : Type 0 where
  pub fuel : ℕ
  pub inside : at ≤ length s
  pub enough : length s < at + fuel
  pub rest : whole ≡ seek_tag k fuel at least (drop at s)

pub tags_begin : (s : List ℕ) (k : ℕ) → Tags s k (seek_tag k (suc (length s)) 0 0 s) 0 0
tags_begin s k = record { fuel = suc (length s); inside = omega arith; enough = omega arith; rest = refl }

module _ (T s : List ℕ) (k : ℕ) (whole : Gap) (at least : ℕ) (inv : Tags s k whole at least) where
  module _ (r : Bool) (er : r ≡ closed (drop at s)) where
    pub tags_end : r ≡ true → record { from = at; to = at; others = ltb 0 least } ≡ whole
    unfolding seek_tag gap
    tags_end q = sym (inv.rest ∙ go inv.fuel inv.enough)
      where
        go : (f : ℕ) → length s < at + f → seek_tag k f at least (drop at s) ≡ record { from = at; to = at; others = ltb 0 least }
        go zero h = absurd (omega (arith, inv.inside))
        go (suc f) h = rw (sym er ∙ q)

    module _ (q : r ≡ false) (o : Result Optional Refusal) (eo : o ≡ optional_answer (optional_from T 0 0) (next_optional (optional_from T 0 0) least (take (length s - at) (drop at s)))) where
      none_known : optional_from T 0 0 ≡ []
      unfolding optional_from range optionals_in
      none_known = refl

      reads : o ≡ optional_answer [] (next_optional [] least (drop at s))
      reads = eo ∙ ap₂ (λ (ms : List Member) (z : List ℕ). optional_answer ms (next_optional ms least z)) none_known (rest_is s at)

      opened_tag : (f : ℕ) × (length s < at + suc f) × (whole ≡ seek_next k at least (drop at s) (next_optional [] least (drop at s)) (λ u n. seek_tag k f (at + n) u (drop n (drop at s))))
      unfolding seek_tag
      opened_tag = go inv.fuel inv.enough inv.rest
        where
          go : (f : ℕ) → length s < at + f → whole ≡ seek_tag k f at least (drop at s)
              → (f : ℕ) × (length s < at + suc f) × (whole ≡ seek_next k at least (drop at s) (next_optional [] least (drop at s)) (λ u n. seek_tag k f (at + n) u (drop n (drop at s))))
          go zero h e = absurd (omega (arith, inv.inside))
          go (suc f) h e = (f, h, e ∙ ap (λ (w : Bool). pick w (gap at at (ltb 0 least)) (seek_next k at least (drop at s) (next_optional [] least (drop at s)) (λ u n. seek_tag k f (at + n) u (drop n (drop at s))))) (sym er ∙ q))

      pub tags_wrong : (x : Refusal) → o ≡ Err x → record { from = at; to = at; others = true } ≡ whole
      unfolding seek_next gap
      tags_wrong x h = sym (opened_tag.2 ∙ ap (λ w. seek_next k at least (drop at s) w (λ u n. seek_tag k opened_tag.0 (at + n) u (drop n (drop at s)))) (wrong_read [] least (drop at s) o reads x h))

      pub tags_known : (p : Optional) → o ≡ Ok p → (m t a n : ℕ) → p ≡ Known m t a n → record { from = at; to = at; others = true } ≡ whole
      unfolding seek_next seek_piece gap
      tags_known p g m t a n h =
          sym (opened_tag.2 ∙ ap (λ w. seek_next k at least (drop at s) w (λ u n. seek_tag k opened_tag.0 (at + n) u (drop n (drop at s)))) (known_read [] least (drop at s) o reads p g m t a n h).read)

      module _ (p : Optional) (g : o ≡ Ok p) (t n : ℕ) (h : p ≡ Skipped t n) where
        abbrev onward : Gap
        onward = seek_tag k opened_tag.0 (at + n) (suc t) (drop n (drop at s))

        skipped_here : whole ≡ seek_at k at least (drop at s) t n onward
        unfolding seek_next seek_piece
        skipped_here = opened_tag.2 ∙ ap (λ w. seek_next k at least (drop at s) w (λ u n. seek_tag k opened_tag.0 (at + n) u (drop n (drop at s)))) (skipped_read [] least (drop at s) o reads p g t n h).read

        within : at + n ≤ length s
        within = omega (arith, skipped_within [] least (drop at s) o reads p g t n h, length-drop at s, inv.inside)

        pub tags_fits : Fits w64 (length s) → Fits w64 (at + n)
        tags_fits f = omega (arith, within)

        pub tags_less : length s - (at + n) < length s - at
        tags_less = omega (arith, within, skipped_some [] least (drop at s) o reads p g t n h)

        pub tags_before : k < t → record { from = at; to = at; others = true } ≡ whole
        unfolding seek_at gap
        tags_before l = sym (skipped_here ∙ rw (lt-ltb k t l))

        pub spot_here : (w : Bool) → SpotInside (length s) (record { from = at; to = at + n; others = w })
        spot_here w = record { order = omega arith; inside = within }

        pub tags_here : (k ≡ t) → (e : Bool) → e ≡ closed (drop (at + n) s) → (w : Bool) → w ≡ ltb 0 least || not e → record { from = at; to = at + n; others = w } ≡ whole
        unfolding seek_at gap
        tags_here l e ee w ew =
            sym (skipped_here ∙ ap₂ (λ (x y : Bool). pick x (gap at at true) (pick y (gap at (at + n) (ltb 0 least || not (closed (drop n (drop at s))))) onward)) (le-ltb k t (omega arith)) (eq-eqb k t l)
            ∙ ap (λ (z : Bool). record { from = at; to = at + n; others = z }) (ap (λ (z : List ℕ). ltb 0 least || not (closed z)) (drop-drop n at s) ∙ ap (λ (z : Bool). ltb 0 least || not z) (sym ee) ∙ sym ew))

        pub tags_next : t ≤ k → (k ≡ t → ⊥) → Tags s k whole (at + n) (t + 1)
        unfolding seek_at
        tags_next l u = record {
          fuel = opened_tag.0;
          inside = within;
          enough = omega (arith, opened_tag.1, skipped_some [] least (drop at s) o reads p g t n h);
          rest = skipped_here ∙ ap₂ (λ (x y : Bool). pick x (gap at at true) (pick y (gap at (at + n) (ltb 0 least || not (closed (drop n (drop at s))))) onward)) (le-ltb k t l) (ne_eqb k t u)
              ∙ ap₂ (λ (i : ℕ) (z : List ℕ). seek_tag k opened_tag.0 (at + n) i z) (sym (add-one t)) (drop-drop n at s);
        }

-- ---- after the required members

module _ (T : List ℕ) (o k : ℕ) (s : List ℕ) (start : ℕ) (ms : Result Members Refusal) (e : ms ≡ members_of 0 start (requireds (Table.required_members T o) s)) where
  pub members_none : (x : Refusal) → ms ≡ Err x → record { from = 0; to = 0; others = true } ≡ gap_in T o k s
  unfolding gap_in after_required gap
  members_none x q = sym (ap (after_required k s) (members_refused (Table.required_members T o) 0 start s ms e x q))

  module _ (p : Members) (q : ms ≡ Ok p) where
    pub members_fit : p.bytes ≤ length s
    members_fit = members_within (Table.required_members T o) 0 start s ms e p q

    module _ (x : Spot) (ex : as_gap x ≡ seek_tag k (suc (length (take (length s - p.bytes) (drop p.bytes s)))) 0 0 (take (length s - p.bytes) (drop p.bytes s))) where
      pub members_gap : record { from = p.bytes + x.from; to = p.bytes + x.to; others = x.others } ≡ gap_in T o k s
      unfolding gap_in after_required moved_by gap
      members_gap =
          sym (ap (after_required k s) (members_read (Table.required_members T o) 0 start s ms e p q).1
          ∙ ap (moved_by p.bytes) (sym (ex ∙ ap (λ (z : List ℕ). seek_tag k (suc (length z)) 0 0 z) (rest_is s p.bytes))))

      module _ (I : SpotInside (length (take (length s - p.bytes) (drop p.bytes s))) x) where
        inside_rest : p.bytes + x.to ≤ length s
        inside_rest = omega (arith, I.inside, ap length (rest_is s p.bytes), length-drop p.bytes s, members_fit)

        pub members_spot : SpotInside (length s) (record { from = p.bytes + x.from; to = p.bytes + x.to; others = x.others })
        members_spot = record { order = omega (arith, I.order); inside = inside_rest }

-- ---- by the top's kind

module _ (T : List ℕ) (k o : ℕ) (m : List ℕ) where
  pub slot_list : k ≡ 15 → InList ≡ slot_in T k o m
  unfolding slot_in
  slot_list e = rw (eq-eqb k 15 e)

  module _ (u : k ≡ 15 → ⊥) (r : Slot) where
    pub slot_class : k ≡ 14 → r ≡ slot_of (seek_slice (Table.name_of T o) (suc (length m)) 7 (drop 7 m)) → r ≡ slot_in T k o m
    unfolding slot_in
    slot_class e h = rw (ne_eqb k 15 u, eq-eqb k 14 e) h

    pub slot_exception : (k ≡ 14 → ⊥) → r ≡ slot_of (seek_slice (Table.name_of T o) (suc (length m)) 6 (drop 6 m)) → r ≡ slot_in T k o m
    unfolding slot_in
    slot_exception v h = rw (ne_eqb k 15 u, ne_eqb k 14 v) h
