-- The steps of the walk over pairs, one case for each way out of the code. Assumes nothing.
--
--   first_row, _outside, _unknown   what a type ID means before the first known pair
--   meant_first, _base, _other      what it means at any stage
--   id_length, _order, _within      where the ID lies; opening_named, _unnamed a pair by its ID
--   took_fits .. fault_fits, enter_..   where its data lie, and what follows the ID
--   data_.., turn_..                one pair: where its data lie, and what is answered of it
--   first_here, _kept               the first known type
use mathlib.Core.Path.{◌≡◌, refl, sym, ap, ap₂, ◌∙◌}
use mathlib.Core.Bool.{Bool, true, false, not}
use mathlib.Core.Option.{Option, none, some}
use mathlib.Core.List.{List}
use Prim.Native.Nat.{ℕ, zero, suc, ◌+◌, ◌-◌, ◌^◌, ◌≤◌, ◌<◌}
use native.Mathlib.Omega.{arith}
use lib.ListN.{length, take, drop, length-drop}
use lib.Seq.{length-take-le}
use lib.Dec.{eqb}
use borrow.Author.Tests.{eq-eqb, ne_eqb}
use mir.Syntax.{w64}
use mir.Val.{Fits}
use Rattle.encoding.specs.Result.{Res, ok, bad, pick, made, same_bytes}
use Rattle.encoding.proofs.ResultLaws.{ok≢bad, must_ok, Ends, ends_item, ends_bind, ends_chunk, held_took, held_refused}
use Rattle.encoding.specs.Number.{Content, declared, string}
use Rattle.encoding.proofs.NumberLaws.{held_declared, held_string}
use Rattle.encoding.proofs.WeightLaws.{declared_weight}
use Rattle.encoding.specs.Table.{name_of, named, base}
use Rattle.encoding.specs.Table
use Rattle.encoding.specs.Optional.{Piece, requireds}
use Rattle.encoding.specs.Slice.{Slice, known, passed, row, wrong, id_of}
use Rattle.encoding.specs.Old.{members_as, descends, PairStage, any_pair, pair_of, first_meaning, pair_meaning, id_pair, pair_front}
use Rattle.encoding.specs.Message.{piece_rows}
use Rattle.std.specs.Prelude.{Result, Ok, Err, Some, None}
use Rattle.std.specs.Prelude.{Option as Answer}
use Rattle.wire.specs.declared.Refusal.{Refusal}
use Rattle.wire.specs.declared.Counted.{Counted}
use Rattle.wire.specs.Steps.{step_of, bytes_of, refused, behind, later, LaterFits}
use Rattle.wire.specs.StepLaws.{bytes_is, bytes_isnt}
use Rattle.table.specs.Found.{found_of}
use Rattle.table.specs.Tags.{optional_start}
use Rattle.level.specs.Fill.{fill}
use Rattle.level.specs.Answers.{members_of}
use Rattle.level.specs.AnswersLaws.{members_read, members_refused, members_within, refused_within}
use Rattle.level.specs.declared.Members.{Members}
use Rattle.slices.specs.Openings.{ended}
use Rattle.slices.proofs.Steps.{declared_ended, declared_unended}
use Rattle.pairs.specs.declared.Opening.{Opening}
use Rattle.pairs.specs.declared.Opening.TheVariants.{Skip, Data}
use Rattle.pairs.specs.declared.Turn.TheVariants.{Passed, Known}
use Rattle.pairs.specs.Pairs.{due_of, meant_of, data_in, data_as, enter_as, open_by, opening, row_of, slice_turn, turn_of, turn_rows, first_by}
use Rattle.pairs.specs.PairLaws.{front_weight, row_is, Opened, opened_bad, opened_skip, opened_data}

-- ---- what a type ID means

found_at : (o : Option ℕ) (t : ℕ) → Some t ≡ found_of o → o ≡ some t
unfolding found_of
found_at none t h = let z : ◌≡◌ {A = ℕ} 0 1 = cc in absurd (omega arith)
found_at (some i) t h = cc

found_none : (o : Option ℕ) → None ≡ found_of o → o ≡ none
unfolding found_of
found_none none h = refl
found_none (some i) h = let z : ◌≡◌ {A = ℕ} 0 1 = cc in absurd (omega arith)

module _ (T : List ℕ) (top : ℕ) (id : List ℕ) (found : Answer ℕ) (ef : found ≡ found_of (named T id)) where
  module _ (t : ℕ) (q : found ≡ Some t) (b : Bool) (eb : b ≡ descends T top t) where
    pub first_row : b ≡ true → Ok (Some t) ≡ meant_of (pair_meaning T top (due_of 0) id)
    unfolding due_of pair_meaning first_meaning meant_of
    first_row h = rw (found_at (named T id) t (sym q ∙ ef), ← eb, h)

    pub first_outside : b ≡ false → refused 17 0 ≡ meant_of (pair_meaning T top (due_of 0) id)
    unfolding due_of pair_meaning first_meaning meant_of
    first_outside h = rw (found_at (named T id) t (sym q ∙ ef), ← eb, h)

  pub first_unknown : found ≡ None → Ok None ≡ meant_of (pair_meaning T top (due_of 0) id)
  unfolding due_of pair_meaning first_meaning meant_of
  first_unknown q = rw (found_none (named T id) (sym q ∙ ef))

module _ (T : List ℕ) (top due : ℕ) (id : List ℕ) where
  pub meant_first : due ≡ 0 → (r : Result (Answer ℕ) Refusal) → r ≡ meant_of (pair_meaning T top (due_of 0) id) → r ≡ meant_of (pair_meaning T top (due_of due) id)
  meant_first z r e = rw z e

  module _ (n : due ≡ 0 → ⊥) (b : Bool) (e : b ≡ same_bytes id (name_of T (due - 1))) where
    by_name : meant_of (pair_meaning T top (due_of due) id) ≡ meant_of (pick b (row (due - 1)) (wrong 17))
    unfolding due_of pair_meaning
    by_name = go due n e
      where
        go : (k : ℕ) → (k ≡ 0 → ⊥) → b ≡ same_bytes id (name_of T (k - 1)) → meant_of (pair_meaning T top (due_of k) id) ≡ meant_of (pick b (row (k - 1)) (wrong 17))
        go zero n e = absurd (n refl)
        go (suc u) n e =
            let z : suc u - 1 ≡ u = omega arith in
            rw z (ap (λ (x : Bool). meant_of (pick x (row u) (wrong 17))) (sym (e ∙ ap (λ (i : ℕ). same_bytes id (name_of T i)) z)))

    pub meant_base : b ≡ true → Ok (Some (due - 1)) ≡ meant_of (pair_meaning T top (due_of due) id)
    unfolding meant_of
    meant_base h = sym (by_name ∙ rw h)

    pub meant_other : b ≡ false → refused 17 0 ≡ meant_of (pair_meaning T top (due_of due) id)
    unfolding meant_of
    meant_other h = sym (by_name ∙ rw h)

-- ---- a pair up to its data

ends_string : Ends string
unfolding string
ends_string xs d n h = ends_item _ (ends_bind _ _ (λ n. ends_chunk n)) xs d n (must_ok _ xs Content h).0

module _ (s : List ℕ) (r : Result Counted Refusal) (e : r ≡ bytes_of (string s)) where
  module _ (x : Counted) (q : r ≡ Ok x) where
    id_read_lem : (b : List ℕ) × (string s ≡ ok b x.bytes) × (x.number ≡ length b)
    id_read_lem = bytes_is (string s) x (sym q ∙ e)

    pub id_length : x.number ≤ x.bytes
    id_length = go id_read_lem
      where
        go : (b : List ℕ) × (string s ≡ ok b x.bytes) × (x.number ≡ length b) → x.number ≤ x.bytes
        go I = omega (arith, I.2, (ends_string s I.0 x.bytes I.1).within)

    pub id_order : x.bytes - x.number ≤ x.bytes
    id_order = omega arith

    pub id_within : x.bytes ≤ length s
    id_within = held_took string held_string s id_read_lem.1

    -- the bytes that were read are the ID's
    module _ (T : List ℕ) (top : ℕ) (d : PairStage) (mt : Result (Answer ℕ) Refusal)
        (em : mt ≡ meant_of (pair_meaning T top d (take (x.bytes - (x.bytes - x.number)) (drop (x.bytes - x.number) s)))) where
      named_as : opening T top d s ≡ enter_as x.bytes mt (declared 4 4 (drop x.bytes s))
      unfolding opening open_by
      named_as = go id_read_lem
        where
          go : (b : List ℕ) × (string s ≡ ok b x.bytes) × (x.number ≡ length b) → opening T top d s ≡ enter_as x.bytes mt (declared 4 4 (drop x.bytes s))
          go I =
              let n = x.bytes in
              let l = x.number in
              let E = ends_string s I.0 n I.1 in
              let i : n - (n - l) ≡ length I.0 = omega (arith, I.2, E.within) in
              let w : take (n - (n - l)) (drop (n - l) s) ≡ I.0 = ap₂ (λ (u v : ℕ). take u (drop (n - v) s)) i I.2 ∙ E.there in
              rw I.1 (ap (λ (v : Result (Answer ℕ) Refusal). enter_as n v (declared 4 4 (drop n s))) (sym (em ∙ ap (λ (b : List ℕ). meant_of (pair_meaning T top d b)) w)))

      pub opening_named : (m : Answer ℕ) → mt ≡ Ok m → (o : Result Opening Refusal) → o ≡ data_as x.bytes m (declared 4 4 (drop x.bytes s)) → o ≡ opening T top d s
      unfolding enter_as
      opening_named m h o eo = eo ∙ sym (named_as ∙ rw h)

      pub opening_meant : (y : Refusal) → mt ≡ Err y → Err y ≡ opening T top d s
      unfolding enter_as
      opening_meant y h = sym (named_as ∙ rw h)

  pub opening_unnamed : (x : Refusal) → r ≡ Err x → (T : List ℕ) (top : ℕ) (d : PairStage) → Err x ≡ opening T top d s
  unfolding opening open_by
  opening_unnamed x q T top d = rw (bytes_isnt (string s) x (sym q ∙ e))

-- the end of the declared bytes after n bytes
module _ (s : List ℕ) (n : ℕ) (h : n ≤ length s) (step : Result ℕ Refusal) (f : step ≡ step_of (declared 4 4 (take (length s - n) (drop n s)))) (r : Result ℕ Refusal) (g : r ≡ later n step) where
  module _ (i : ℕ) (w : r ≡ Ok i) where
    pub enter_skip : (m : Answer ℕ) → m ≡ None → Ok (Skip i) ≡ data_as n m (declared 4 4 (drop n s))
    unfolding data_as data_in
    enter_skip m z = let E = declared_ended s n h step f r g i w in simp (z, E.2, E.3)

    pub enter_data : (m : Answer ℕ) (t : ℕ) → m ≡ Some t → Ok (Data t (n + 4) i) ≡ data_as n m (declared 4 4 (drop n s))
    unfolding data_as data_in
    enter_data m t z = let E = declared_ended s n h step f r g i w in simp (z, E.2, E.3)

  pub enter_unread : (x : Refusal) → r ≡ Err x → (m : Answer ℕ) → Err x ≡ data_as n m (declared 4 4 (drop n s))
  unfolding data_as
  enter_unread x w m = let E = declared_unended s n h step f r g x w in simp (E.2, E.3)

-- ---- one pair

module _ (T : List ℕ) (top : ℕ) (d : PairStage) (s : List ℕ) (k at : ℕ) (r : Result Opening Refusal) (er : r ≡ opening T top d s) where
  module _ (o : Opening) (g : r ≡ Ok o) (n : ℕ) (q : o ≡ Skip n) where
    skipped : (nm : List ℕ) × (x : List ℕ) × (id_pair T top d s ≡ ok (passed false nm x, any_pair) n)
    skipped = opened_skip T top d s r er n (g ∙ ap Ok q)

    pub turn_skip : Ok (Passed n) ≡ turn_of T d k (id_pair T top d s)
    unfolding turn_of slice_turn
    turn_skip = sym (ap (turn_of T d k) skipped.2)

    pub turn_skip_gives : (out : List ℕ) (sl : Slice) (st : PairStage) (i : ℕ) → id_pair T top d s ≡ ok (sl, st) i → out ≡ fill k (turn_rows T d at sl) out
    unfolding turn_rows fill
    turn_skip_gives out sl st i e =
        let h : ◌≡◌ {A = Res (Slice × PairStage)} (ok (sl, st) i) (ok (passed false skipped.0 skipped.1, any_pair) n) = sym e ∙ skipped.2 in
        let p : ◌≡◌ {A = Slice × PairStage} (sl, st) (passed false skipped.0 skipped.1, any_pair) = cc in
        sym (ap (λ (x : Slice × PairStage). fill k (turn_rows T d at x.0) out) p)

  module _ (x : Refusal) (q : r ≡ Err x) where
    pub turn_bad : Err x ≡ turn_of T d k (id_pair T top d s)
    unfolding turn_of
    turn_bad = sym (ap (turn_of T d k) (opened_bad T top d s r er x q))

    pub turn_bad_gives : (out l : List ℕ) (sl : Slice) (st : PairStage) (i : ℕ) → id_pair T top d s ≡ ok (sl, st) i → out ≡ fill k (turn_rows T d at sl) l
    turn_bad_gives out l sl st i e = absurd (ok≢bad e (opened_bad T top d s r er x q))

  module _ (o : Opening) (g : r ≡ Ok o) (t a e : ℕ) (q : o ≡ Data t a e) where
    opened : Opened T top d s t a e
    opened = opened_data T top d s r er t a e (g ∙ ap Ok q)

    pub data_order : a ≤ e
    data_order = opened.order

    pub data_within : e ≤ length s
    data_within = opened.within

    pub data_front : 4 ≤ a
    data_front = omega (arith, opened.front)

    long : length (take (e - a) (drop a s)) ≡ e - a
    long = length-take-le (e - a) (drop a s) (omega (arith, opened.within, opened.order, length-drop a s))

    pub data_place : at + length s < 2 ^ 63 → at + a + length (take (e - a) (drop a s)) < 2 ^ 63
    data_place h = omega (arith, long, opened.within, opened.order)

    pub data_fits : at + length s < 2 ^ 63 → Fits w64 (at + a)
    data_fits h = omega (arith, opened.within, opened.order)

    abbrev members : List ℕ → Res (List Piece)
    members = requireds (members_as true (Table.required_members T t))

    abbrev made_of : Res (List Piece) → Res (Slice × PairStage)
    made_of = made (λ ps _. (known (name_of T t) ps, pair_of (base T t)))

    row_here : row_of T d (name_of T t) ≡ t
    row_here = row_is T top d (name_of T t) t opened.means

    front_here : (ps : List Piece) → length (pair_front (known (name_of T t) ps)) ≡ a
    unfolding id_of
    front_here ps = front_weight (known (name_of T t) ps) ∙ sym opened.front

    -- the rows of the members are the pair's
    pub turn_data_gives : (out l : List ℕ) → ((ps : List Piece) (n : ℕ) → requireds (members_as true (Table.required_members T t)) (take (e - a) (drop a s)) ≡ ok ps n → out ≡ fill k (piece_rows T t (at + a) ps) l)
        → (sl : Slice) (st : PairStage) (i : ℕ) → id_pair T top d s ≡ ok (sl, st) i → out ≡ fill k (turn_rows T d at sl) l
    unfolding turn_rows ended made
    turn_data_gives out l fills sl st i h = go (members (take (e - a) (drop a s))) refl (sym opened.read ∙ h)
      where
        whole : (ps : List Piece) (n : ℕ) → members (take (e - a) (drop a s)) ≡ ok ps n → ◌≡◌ {A = Slice × PairStage} (known (name_of T t) ps, pair_of (base T t)) (sl, st) → out ≡ fill k (turn_rows T d at sl) l
        whole ps n f p =
            fills ps n f
            ∙ ap₂ (λ (x y : ℕ). fill k (piece_rows T x (at + y) ps) l) (sym row_here) (sym (front_here ps))
            ∙ ap (λ (x : Slice × PairStage). fill k (turn_rows T d at x.0) l) p

        by : (ps : List Piece) (n : ℕ) → members (take (e - a) (drop a s)) ≡ ok ps n → (b : Bool) → made_of (pick (not b) (bad 11 (a - 4)) (ok ps (a + n))) ≡ ok (sl, st) i → out ≡ fill k (turn_rows T d at sl) l
        by ps n f true g = whole ps n f (cc)
        by ps n f false g = absurd (ok≢bad g refl)

        go : (y : Res (List Piece)) → members (take (e - a) (drop a s)) ≡ y → made_of (ended true a e y) ≡ ok (sl, st) i → out ≡ fill k (turn_rows T d at sl) l
        go (ok ps n) f g = by ps n f (eqb (a + n) e) g
        go (bad c p) f g = absurd (ok≢bad g refl)

    module _ (ms : Result Members Refusal) (em : ms ≡ members_of k (optional_start T t) (requireds (members_as true (Table.required_members T t)) (take (e - a) (drop a s)))) where
      module _ (x : Refusal) (w : ms ≡ Err x) where
        pub turn_refused : (y : Refusal) → y ≡ behind a x → Err y ≡ turn_of T d k (id_pair T top d s)
        unfolding turn_of made ended
        turn_refused y h =
            ap Err h ∙ sym (ap (turn_of T d k) (opened.read ∙ ap (λ (y : Res (List Piece)). made_of (ended true a e y))
            (members_refused (members_as true (Table.required_members T t)) k (optional_start T t) (take (e - a) (drop a s)) ms em x w)))

        pub refused_fits : length s < 2 ^ 64 → a + x.place < 2 ^ 64
        refused_fits b =
            omega (arith, refused_within (members_as true (Table.required_members T t)) k (optional_start T t) (take (e - a) (drop a s)) ms em x w, long, opened.within, opened.order)

      module _ (x : Members) (w : ms ≡ Ok x) where
        pub read_fits : Fits w64 (length s) → Fits w64 (a + x.bytes)
        read_fits b =
            omega (arith, members_within (members_as true (Table.required_members T t)) k (optional_start T t) (take (e - a) (drop a s)) ms em x w, long, opened.within, opened.order)

        read_is : (ps : List Piece) × (requireds (members_as true (Table.required_members T t)) (take (e - a) (drop a s)) ≡ ok ps x.bytes) × (x.count ≡ k + length ps)
        read_is = members_read (members_as true (Table.required_members T t)) k (optional_start T t) (take (e - a) (drop a s)) ms em x w

        pub turn_known : a + x.bytes ≡ e → Ok (Known t x.count e) ≡ turn_of T d k (id_pair T top d s)
        unfolding turn_of slice_turn made ended
        turn_known h = go read_is
          where
            go : (ps : List Piece) × (requireds (members_as true (Table.required_members T t)) (take (e - a) (drop a s)) ≡ ok ps x.bytes) × (x.count ≡ k + length ps)
                → Ok (Known t x.count e) ≡ turn_of T d k (id_pair T top d s)
            go R = sym (
                ap (turn_of T d k) (opened.read ∙ ap (λ (y : Res (List Piece)). made_of (ended true a e y)) R.1)
                ∙ rw (eq-eqb (a + x.bytes) e h) (ap₂ (λ (u : ℕ) (v : ℕ × ℕ). Ok (Known u v.0 v.1)) row_here (ap₂ (λ (u v : ℕ). (u, v)) (sym R.2) h)))

        pub turn_over : (a + x.bytes ≡ e → ⊥) → refused 11 (a - 4) ≡ turn_of T d k (id_pair T top d s)
        unfolding turn_of made ended
        turn_over h = go read_is
          where
            go : (ps : List Piece) × (requireds (members_as true (Table.required_members T t)) (take (e - a) (drop a s)) ≡ ok ps x.bytes) × (x.count ≡ k + length ps)
                → refused 11 (a - 4) ≡ turn_of T d k (id_pair T top d s)
            go R = sym (
                ap (turn_of T d k) (opened.read ∙ ap (λ (y : Res (List Piece)). made_of (ended true a e y)) R.1)
                ∙ rw (ne_eqb (a + x.bytes) e h))

-- ---- the first known type

module _ (due fst t : ℕ) where
  pub first_here : due ≡ 0 → t ≡ first_by (due_of due) fst t
  unfolding first_by due_of
  first_here q = rw q

  pub first_kept : (due ≡ 0 → ⊥) → fst ≡ first_by (due_of due) fst t
  unfolding first_by due_of
  first_kept q = go due q
    where
      go : (k : ℕ) → (k ≡ 0 → ⊥) → fst ≡ first_by (due_of k) fst t
      go zero q = absurd (q refl)
      go (suc u) q = refl
