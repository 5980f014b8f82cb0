-- The walk over slices: what holds at the heads of its loops, and what each step makes of it. Assumes nothing.
--
--   ends_says, ends_gives   an outcome's answer and list are those of the walk
--   credit                  how many owners may still come
--   Outer, outer_..         at the head of the loop over slices
--   Inner, inner_..         at the head of the loop over optionals
--   wrong_.., refused_.., stopped_.., over_..   the answer and the lent list are those of the walk: where a slice is refused before its data, a required member, an optional, and where bytes are left over
use mathlib.Core.Path.{◌≡◌, refl, sym, ap, ap₂, ◌∙◌}
use mathlib.Core.Bool.{Bool, true, false, ◌&&◌, not}
use mathlib.Core.Option.{none, some}
use mathlib.Core.Logic.{◌⊎◌, inl, inr}
use mathlib.Core.List.{List}
use Prim.Native.Nat.{ℕ, zero, suc, ◌+◌, ◌-◌, ◌*◌, ◌^◌, ◌≤◌, ◌<◌}
use native.Mathlib.Nat.{add-zero}
use native.Mathlib.Numerals.{add-one}
use native.Mathlib.Omega.{arith}
use lib.ListN.{length, take, drop, length-drop}
use lib.Seq.{drop-drop}
use lib.Dec.{eqb}
use borrow.Author.Tests.{ne_eqb}
use mir.Syntax.{w64}
use mir.Val.{Fits}
use Rattle.std.specs.Prelude.{Result, Ok, Err, Some, None}
use Rattle.std.specs.Prelude.{Option as Answer}
use Rattle.wire.specs.declared.Refusal.{Refusal}
use Rattle.encoding.specs.Result.{Res, ok, bad, pick, at_mark}
use Rattle.encoding.proofs.ResultLaws.{both_true, held_took}
use Rattle.encoding.specs.Table.{field, base}
use Rattle.encoding.specs.Table
use Rattle.encoding.proofs.TableLaws.{base_below}
use Rattle.encoding.specs.Optional.{Piece, requireds, next_optional}
use Rattle.encoding.proofs.OptionalLaws.{held_optional, eats_optional}
use Rattle.encoding.specs.Slice.{compact, sliced, first, seek, later, follow, finished, fields, slices, Chain, format_number, slice}
use Rattle.encoding.proofs.SliceLaws.{held_slice, eats_slice}
use Rattle.encoding.specs.Message.{piece_rows, row_bytes, slice_rows, skipped_in, passed_in}
use Rattle.wire.specs.Put.{put}
use Rattle.wire.specs.StepLaws.{rest_is}
use Rattle.table.specs.Tags.{optional_from, optional_start, Passed}
use Rattle.table.specs.Tags
use Rattle.table.specs.TagsLaws.{passed_none, passed_still, passed_behind}
use Rattle.level.specs.Fill.{fill}
use Rattle.level.specs.TagLaws.{member_tag, member_begun, member_within}
use Rattle.level.specs.Answers.{members_of}
use Rattle.level.specs.AnswersLaws.{KnownRead, SkippedRead, members_read, members_start, members_refused, members_within, refused_within}
use Rattle.level.specs.declared.Members.{Members}
use Rattle.level.specs.declared.Optional.{Optional}
use Rattle.level.specs.declared.Optional.TheVariants.{Known, Skipped as SkippedOptional}
use Rattle.heads.specs.declared.Stage.{Stage}
use Rattle.heads.specs.declared.Stage.TheVariants.{First, Seeking, Following}
use Rattle.slices.specs.declared.Opening.{Opening}
use Rattle.slices.specs.declared.Opening.TheVariants.{Skip, Known as KnownSlice}
use Rattle.slices.specs.declared.Walk.{Walk}
use Rattle.heads.specs.Stages.{stage_of}
use Rattle.slices.specs.Openings.{opening, turn_of, first_or}
use Rattle.slices.specs.declared.Walk.TheVariants.{Done, Stop}
use Rattle.slices.specs.Walks.{chain_rows, slice_walk}
use Rattle.slices.specs.Left.{WalkEnd, answer_of, recall_to, first_from, onward, rows_from, left, closing, recalling, stop_at, optionals_from, finish, amid, Ends}
use Rattle.slices.specs.LeftLaws.{left_whole, left_listed, left_refused, left_skipped, left_known, onward_ended, fields_required, fields_refused, finish_end, finish_early, finish_wrong, finish_known, finish_skipped}
use Rattle.slices.specs.OpeningLaws.{Opened, Skipped, opening_wrong, opening_place, opening_skip, opening_known, opened_eats, opened_sized, row_below, row_base, passed_never}
use Rattle.slices.specs.MemberLaws.{required_few, optional_two, mark_byte}
use Rattle.slices.specs.TurnLaws.{turn_end, turn_known, turn_skipped, Early, turn_wrong, turn_place, passed_turn}
use Rattle.slices.proofs.Endings.{ends_refused, ends_listed, ends_answer, ends_list, Small, types_below, field_below, part_on, part_length}

-- ---- the whole walk

module _ (T : List ℕ) (at : ℕ) (out₀ : List ℕ) (r : Res Chain) (v : Walk) (out : List ℕ) (E : Ends (left T (seek first) at 0 0 0 0 out₀ r) v out) where
  pub ends_says : v ≡ slice_walk T at r
  ends_says = ends_answer E ∙ left_whole T at out₀ r

  pub ends_gives : (c : Chain) (n : ℕ) → r ≡ ok c n → out ≡ fill 0 (chain_rows T at c) out₀
  unfolding left
  ends_gives c n e = ends_list E _ _ (ap (left T (seek first) at 0 0 0 0 out₀) e) ∙ left_listed T at out₀ c n _ _ refl

-- how many owners may still come
unfoldable pub credit : Stage → ℕ
credit First = 65536
credit Seeking = 65536
credit (Following z b) = b

-- ---- the loop over slices

-- the outcome follows from the slices ahead
pub record Outer (T : List ℕ) (top : ℕ) (m : List ℕ) (whole : WalkEnd) (stage : Stage) (pos k o s fst : ℕ) (out : List ℕ) : Type 0 where
  pub small : Small T
  pub room : length m < 2 ^ 63
  pub inside : pos ≤ length m
  pub few : 2 * (k + 65536 * credit stage) ≤ 8589934592 + pos
  pub fewer : o ≤ pos
  pub fewest : s ≤ pos
  pub on : finished (stage_of stage) ≡ none
  pub rest : whole ≡ left T (stage_of stage) pos k o s fst out (onward T top (stage_of stage) (drop pos m))

-- the outcome follows from the optionals ahead, where there may be more, or from what comes after the slice's members
pub record Inner (T : List ℕ) (top : ℕ) (m : List ℕ) (whole : WalkEnd) (stage : Stage) (pos t : ℕ) (z : Bool) (from end s fst stop : ℕ) (at least row k o : ℕ) (more : Bool) (out : List ℕ) : Type 0 where
  pub small : Small T
  pub room : length m < 2 ^ 63
  pub begun : pos < at
  pub inside : at ≤ end
  pub within : end ≤ length m
  pub few : 2 * (k + 65536 * t) ≤ 8589934592 + at
  pub fewer : o ≤ at
  pub fewest : s ≤ pos
  pub sized : z ≡ true → 4 ≤ from
  pub passed : Passed T t stop row least
  pub rest : whole ≡ amid T top m (stage_of stage) pos t z from end s fst at least k o more out

module _ (T : List ℕ) (top : ℕ) (m : List ℕ) (at : ℕ) (out : List ℕ) where
  pub outer_begin : Small T → length m < 2 ^ 63 → at ≤ length m → Outer T top m (left T (seek first) at 0 0 0 0 out (slices T top (drop at m))) First at 0 0 0 0 out
  unfolding credit stage_of finished slices onward
  outer_begin S l h = record { small = S; room = l; inside = h; few = omega arith; fewer = omega arith; fewest = omega arith; on = refl; rest = refl }

module _ {T : List ℕ} {top : ℕ} {m : List ℕ} {whole : WalkEnd} {stage : Stage} {pos k o s fst : ℕ} {out : List ℕ} (inv : Outer T top m whole stage pos k o s fst out)
    {r : Result Opening Refusal} (e : r ≡ opening T top (stage_of stage) (take (length m - pos) (drop pos m))) where
  opens : r ≡ opening T top (stage_of stage) (drop pos m)
  opens = e ∙ ap (opening T top (stage_of stage)) (rest_is m pos)

  -- a refusal before the data
  outer_wrong : {x : Refusal} → r ≡ Err x → {w : Walk} → w ≡ stop_at pos pos x → Ends whole w out
  unfolding stop_at
  outer_wrong {x} q {w} h =
      ends_refused whole x.number (recall_to x.number pos (pos + x.place)) w out
      (inv.rest ∙ left_refused T top (drop pos m) pos k o s fst out (stage_of stage) inv.on x.number x.place (opening_wrong T top (stage_of stage) (drop pos m) r opens x q)) h

  pub wrong_fits : {x : Refusal} → r ≡ Err x → pos + x.place < 2 ^ 64
  wrong_fits {x} q = omega (arith, inv.room, opening_place T top (stage_of stage) (drop pos m) r opens x q, length-drop pos m, inv.inside)

  -- a skipped slice
  module _ {sl : Opening} (g : r ≡ Ok sl) {n : ℕ} (q : sl ≡ Skip n) where
    skipped : Skipped T top (stage_of stage) (drop pos m) n
    skipped = opening_skip T top (stage_of stage) (drop pos m) r opens n (g ∙ ap Ok q)

    skip_some : 1 ≤ n
    skip_some = eats_slice T top (stage_of stage) (drop pos m) _ n skipped.read

    skip_within : pos + n ≤ length m
    skip_within = omega (arith, held_took (slice T top (stage_of stage)) (held_slice T top (stage_of stage)) (drop pos m) skipped.read, length-drop pos m, inv.inside)

    pub skip_less : length m - (pos + n) < length m - pos
    skip_less = omega (arith, skip_some, skip_within)

    pub skip_fits : Fits w64 (pos + n)
    skip_fits = omega (arith, inv.room, skip_within)

    pub skip_count : Fits w64 (s + 1)
    skip_count = omega (arith, inv.room, skip_within, skip_some, inv.fewest)

    same_credit : credit stage ≡ 65536
    unfolding credit stage_of
    same_credit = go stage skipped
      where
        go : (stage : Stage) → Skipped T top (stage_of stage) (drop pos m) n → credit stage ≡ 65536
        go First K = refl
        go Seeking K = refl
        go (Following z b) K = absurd (passed_never T top (pick z sliced compact) b (drop pos m) n K)

    pub outer_skip : Outer T top m whole Seeking (pos + n) k o (s + 1) fst out
    unfolding credit stage_of finished
    outer_skip = record {
      small = inv.small;
      room = inv.room;
      inside = skip_within;
      few = omega (arith, inv.few, same_credit);
      fewer = omega (arith, inv.fewer);
      fewest = omega (arith, inv.fewest, skip_some);
      on = refl;
      rest = inv.rest ∙ left_skipped T top (drop pos m) pos k o s fst out n stage skipped
          ∙ ap (λ (l : List ℕ). left T (seek (later sliced)) (pos + n) k o (s + 1) fst out (onward T top (seek (later sliced)) l)) (drop-drop n pos m);
    }

  -- a slice of a known row
  module _ {sl : Opening} (g : r ≡ Ok sl) {t : ℕ} {opt z : Bool} {a b : ℕ} (q : sl ≡ KnownSlice t opt z a b) where
    opened : Opened T top (stage_of stage) (drop pos m) t opt z a b
    opened = opening_known T top (stage_of stage) (drop pos m) r opens t opt z a b (g ∙ ap Ok q)

    pub known_order : pos + a ≤ pos + b
    known_order = omega (arith, opened.order)

    pub known_within : pos + b ≤ length m
    known_within = omega (arith, opened.within, length-drop pos m, inv.inside)

    pub from_fits : Fits w64 (pos + a)
    from_fits = omega (arith, inv.room, known_order, known_within)

    pub end_fits : Fits w64 (pos + b)
    end_fits = omega (arith, inv.room, known_within)

    pub asks_place : pos + a + length (take (pos + b - (pos + a)) (drop (pos + a) m)) < 2 ^ 63
    asks_place = omega (arith, inv.room, part_length m (pos + a) (pos + b) known_order known_within, known_order, known_within)

    pub asks_count : k < 2 ^ 63
    asks_count = omega (arith, inv.room, inv.few, inv.inside)

    -- an owner fewer may come
    owner_counts : suc t ≤ credit stage
    unfolding credit stage_of
    owner_counts = go stage opened
      where
        go : (stage : Stage) → Opened T top (stage_of stage) (drop pos m) t opt z a b → suc t ≤ credit stage
        go First O = omega (arith, row_below T top (seek first) O.h t O.means first refl, types_below T inv.small)
        go Seeking O = omega (arith, row_below T top (seek (later sliced)) O.h t O.means (later sliced) refl, types_below T inv.small)
        go (Following y c) O = omega (arith, row_base T top (follow (pick y sliced compact) c) O.h t O.means (pick y sliced compact) c refl)

    same_part : take (b - a) (drop a (drop pos m)) ≡ take (pos + b - (pos + a)) (drop (pos + a) m)
    same_part = let i : b - a ≡ pos + b - (pos + a) = omega arith in ap₂ (λ (i : ℕ) (l : List ℕ). take i l) i (drop-drop a pos m)

    abbrev part : List ℕ
    part = take (pos + b - (pos + a)) (drop (pos + a) m)

    abbrev close : (at k o : ℕ) → List ℕ → WalkEnd
    close = closing T top m z (base T t) s (first_or (stage_of stage) fst t) (pos + a) (pos + b)

    by_members : whole ≡ finish T t close (recalling pos) false (pos + a) k o out (fields T t opt part)
    by_members =
        inv.rest ∙ left_known T top (stage_of stage) m pos t opt z a b opened inv.on k o s fst out
        ∙ ap (λ (l : List ℕ). finish T t close (recalling pos) false (pos + a) k o out (fields T t opt l)) same_part

    module _ {ms : Result Members Refusal} (em : ms ≡ members_of k (optional_start T t) (requireds (Table.required_members T t) part)) where
      known_refused : {x : Refusal} → ms ≡ Err x → {v : Walk} → v ≡ stop_at pos (pos + a) x → (out' : List ℕ) → Ends whole v out'
      unfolding stop_at recalling
      known_refused {x} w {v} h out' =
          ends_refused whole x.number (recall_to x.number pos (pos + a + x.place)) v out'
          (by_members ∙ fields_refused T t close (recalling pos) part x.number x.place (members_refused (Table.required_members T t) k (optional_start T t) part ms em x w) (pos + a) k o out opt) h

      pub refused_fits : {x : Refusal} → ms ≡ Err x → pos + a + x.place < 2 ^ 64
      refused_fits {x} w =
          omega (arith, inv.room, refused_within (Table.required_members T t) k (optional_start T t) part ms em x w, part_length m (pos + a) (pos + b) known_order known_within, known_order, known_within)

      module _ {x : Members} (w : ms ≡ Ok x) where
        abbrev n : ℕ
        n = x.bytes

        abbrev j : ℕ
        j = x.count

        at_within : pos + a + n ≤ pos + b
        at_within = omega (arith, members_within (Table.required_members T t) k (optional_start T t) part ms em x w, part_length m (pos + a) (pos + b) known_order known_within, known_order)

        pub at_fits : Fits w64 (pos + a + n)
        at_fits = omega (arith, inv.room, at_within, known_within)

        module _ {out' : List ℕ} (fills : (ps : List Piece) (n : ℕ) → requireds (Table.required_members T t) part ≡ ok ps n → out' ≡ fill k (piece_rows T t (pos + a) ps) out) where
          -- the members after the required ones decide the answer
          pub outer_same : whole ≡ amid T top m (stage_of stage) pos t z (pos + a) (pos + b) s fst (pos + a + n) 0 j o opt out'
          unfolding amid
          outer_same = go (members_read (Table.required_members T t) k (optional_start T t) part ms em x w)
            where
              go : (ps : List Piece) × (requireds (Table.required_members T t) part ≡ ok ps n) × (j ≡ k + length ps)
                  → whole ≡ amid T top m (stage_of stage) pos t z (pos + a) (pos + b) s fst (pos + a + n) 0 j o opt out'
              go R =
                  by_members ∙ fields_required T t close (recalling pos) part R.0 n R.1 (pos + a) k o out opt
                  ∙ ap₂ (λ (i : ℕ) (l : List ℕ). pick opt (finish T t close (recalling pos) true (pos + a + n) i o l (optionals_from at_mark (Table.optional_members T t) 0 (drop n part))) (close (pos + a + n) i o l))
                  (sym R.2) (sym (fills R.0 n R.1))
                  ∙ ap (λ (l : List ℕ). pick opt (finish T t close (recalling pos) true (pos + a + n) j o out' (optionals_from at_mark (Table.optional_members T t) 0 l)) (close (pos + a + n) j o out')) (part_on m (pos + a) n (pos + b))

        pub outer_in : {stop : ℕ} → stop ≡ field T t 0 + field T t 1 → (out' : List ℕ)
            → Inner T top m (amid T top m (stage_of stage) pos t z (pos + a) (pos + b) s fst (pos + a + n) 0 j o opt out') stage pos t z (pos + a) (pos + b) s fst stop (pos + a + n) 0 x.optional j o opt out'
        outer_in {stop} e out' =
            let R = members_read (Table.required_members T t) k (optional_start T t) part ms em x w in
            let eats = opened_eats T top (stage_of stage) (drop pos m) t opt z a b opened in
            record {
              small = inv.small;
              room = inv.room;
              begun = omega arith;
              inside = at_within;
              within = known_within;
              few = omega (arith, inv.few, owner_counts, R.2, required_few false T t part R.0 n R.1, field_below T inv.small t 1);
              fewer = omega (arith, inv.fewer);
              fewest = inv.fewest;
              sized = λ y. omega (arith, opened_sized T top (stage_of stage) (drop pos m) t opt z a b opened y);
              passed = passed_none T t stop x.optional e (members_start (Table.required_members T t) k (optional_start T t) part ms em x w);
              rest = refl;
            }

-- ---- the loop over optionals

module _ {T : List ℕ} {top : ℕ} {m : List ℕ} {whole : WalkEnd} {stage : Stage} {pos t : ℕ} {z : Bool} {from end s fst stop : ℕ} {at least row k o : ℕ} {more : Bool} {out : List ℕ}
    (inv : Inner T top m whole stage pos t z from end s fst stop at least row k o more out) where
  -- the rows of the owner's members end before the bound of the look-ups
  pub inner_bound : stop ≤ 131072
  inner_bound = omega (arith, inv.passed.ends, field_below T inv.small t 0, field_below T inv.small t 1)

  abbrev close_in : (at k o : ℕ) → List ℕ → WalkEnd
  close_in = closing T top m z (base T t) s (first_or (stage_of stage) fst t) from end

  abbrev part_in : List ℕ
  part_in = take (end - at) (drop at m)

  module _ (go_on : more ≡ true) {r : Result (Answer Optional) Refusal} (e : r ≡ turn_of (optional_from T stop row) least part_in) where
    turns : r ≡ turn_of (Table.optional_members T t) least part_in
    turns = e ∙ passed_turn T t stop row least inv.passed part_in

    ahead : whole ≡ finish T t close_in (recalling pos) (eqb least 0) at k o out (optionals_from at_mark (Table.optional_members T t) least part_in)
    unfolding amid
    ahead = inv.rest ∙ rw go_on

    long : length part_in ≡ end - at
    long = part_length m at end inv.inside inv.within

    -- the end marker
    module _ {next : Answer Optional} (g : r ≡ Ok next) (q : next ≡ None) where
      end_within : at + 1 ≤ end
      end_within = omega (arith, (mark_byte part_in 1 (turn_end (Table.optional_members T t) least part_in r turns (g ∙ ap Ok q)).0).1, long)

      pub end_less : length m - (at + 1) < length m - at
      end_less = omega (arith, end_within, inv.within)

      pub end_mark_fits : Fits w64 (at + 1)
      end_mark_fits = omega (arith, inv.room, end_within, inv.within)

      pub inner_end : Inner T top m whole stage pos t z from end s fst stop (at + 1) least row k o false out
      unfolding amid
      inner_end =
          let E = turn_end (Table.optional_members T t) least part_in r turns (g ∙ ap Ok q) in
          record {
            small = inv.small;
            room = inv.room;
            begun = omega (arith, inv.begun);
            inside = end_within;
            within = inv.within;
            few = omega (arith, inv.few);
            fewer = omega (arith, inv.fewer);
            fewest = inv.fewest;
            sized = inv.sized;
            passed = inv.passed;
            rest = ahead ∙ finish_end T t close_in (recalling pos) at_mark (eqb least 0) least part_in at k o out 1 E.0 E.1;
          }

    -- a known optional
    module _ {next : Answer Optional} (g : r ≡ Ok next) {opt : Optional} (h : next ≡ Some opt) {i tag a n : ℕ} (q : opt ≡ Known i tag a n) where
      known_told : (at_mark part_in ≡ none) × KnownRead (Table.optional_members T t) least part_in i tag a n
      known_told = turn_known (Table.optional_members T t) least part_in r turns opt (g ∙ ap Ok h) i tag a n q

      known_two : 2 ≤ n
      known_two = optional_two (Table.optional_members T t) least part_in _ n known_told.1.read

      known_ends : at + n ≤ end
      known_ends = omega (arith, held_took (next_optional (Table.optional_members T t) least) (held_optional (Table.optional_members T t) least) part_in known_told.1.read, long, inv.inside)

      pub known_less : length m - (at + n) < length m - at
      known_less = omega (arith, known_two, known_ends, inv.within)

      pub known_starts : a ≤ n
      known_starts = omega (arith, known_told.1.sum)

      pub place_fits : Fits w64 (at + a)
      place_fits = omega (arith, inv.room, known_ends, known_starts, inv.within)

      pub next_fits : Fits w64 (at + n)
      next_fits = omega (arith, inv.room, known_ends, inv.within)

      pub tag_fits : Fits w64 (tag + 1)
      tag_fits = omega (arith, known_told.1.low)

      pub count_fits : Fits w64 (k + 1)
      count_fits = omega (arith, inv.room, inv.few, inv.inside, inv.within)

      pub member_few : i < 131072
      member_few = omega (arith, member_within T t least part_in i tag a n known_told.1, field_below T inv.small t 0, field_below T inv.small t 1)

      pub inner_known : {out' : List ℕ} → out' ≡ put (12 * k) (row_bytes (record { member = i; place = at + a; len = n - a })) out → {row' : ℕ} → row' ≡ Tags.behind T row i tag
          → Inner T top m whole stage pos t z from end s fst stop (at + n) (tag + 1) row' (k + 1) o more out'
      unfolding amid
      inner_known {out'} w {row'} p = record {
        small = inv.small;
        room = inv.room;
        begun = omega (arith, inv.begun);
        inside = known_ends;
        within = inv.within;
        few = omega (arith, inv.few, known_two);
        fewer = omega (arith, inv.fewer);
        fewest = inv.fewest;
        sized = inv.sized;
        passed = rw p (passed_behind T t stop row least inv.passed tag known_told.1.rises i (member_begun T t least part_in i tag a n known_told.1) (member_tag T t least part_in i tag a n known_told.1));
        rest = ahead ∙ finish_known T t close_in (recalling pos) at_mark (eqb least 0) least part_in at k o out known_told.0 i tag a n known_told.1
            ∙ ap₂ (λ (y : List ℕ) (l : List ℕ). finish T t close_in (recalling pos) false (at + n) (k + 1) o y (optionals_from at_mark (Table.optional_members T t) (suc tag) l)) (sym w) (part_on m at n end)
            ∙ rw (go_on, add-one tag, ne_eqb (suc tag) 0 (λ y. omega arith));
      }

    -- a skipped one
    module _ {next : Answer Optional} (g : r ≡ Ok next) {opt : Optional} (h : next ≡ Some opt) {tag n : ℕ} (q : opt ≡ SkippedOptional tag n) where
      skipped_told : (at_mark part_in ≡ none) × SkippedRead (Table.optional_members T t) least part_in tag n
      skipped_told = turn_skipped (Table.optional_members T t) least part_in r turns opt (g ∙ ap Ok h) tag n q

      skipped_some : 1 ≤ n
      skipped_some = eats_optional (Table.optional_members T t) least part_in _ n skipped_told.1.read

      skipped_ends : at + n ≤ end
      skipped_ends = omega (arith, held_took (next_optional (Table.optional_members T t) least) (held_optional (Table.optional_members T t) least) part_in skipped_told.1.read, long, inv.inside)

      pub skipped_less : length m - (at + n) < length m - at
      skipped_less = omega (arith, skipped_some, skipped_ends, inv.within)

      pub skipped_fits : Fits w64 (at + n)
      skipped_fits = omega (arith, inv.room, skipped_ends, inv.within)

      pub skipped_tag_fits : Fits w64 (tag + 1)
      skipped_tag_fits = omega (arith, skipped_told.1.low)

      pub skipped_count : Fits w64 (o + 1)
      skipped_count = omega (arith, inv.room, inv.fewer, skipped_some, skipped_ends, inv.within)

      pub inner_skipped : Inner T top m whole stage pos t z from end s fst stop (at + n) (tag + 1) row k (o + 1) more out
      unfolding amid
      inner_skipped = record {
        small = inv.small;
        room = inv.room;
        begun = omega (arith, inv.begun);
        inside = skipped_ends;
        within = inv.within;
        few = omega (arith, inv.few);
        fewer = omega (arith, inv.fewer, skipped_some);
        fewest = inv.fewest;
        sized = inv.sized;
        passed = passed_still T t stop row least inv.passed tag skipped_told.1.rises;
        rest = ahead ∙ finish_skipped T t close_in (recalling pos) at_mark (eqb least 0) least part_in at k o out skipped_told.0 tag n skipped_told.1
            ∙ ap (λ (l : List ℕ). finish T t close_in (recalling pos) false (at + n) k (o + 1) out (optionals_from at_mark (Table.optional_members T t) (suc tag) l)) (part_on m at n end)
            ∙ rw (go_on, add-one tag, ne_eqb (suc tag) 0 (λ y. omega arith));
      }

    -- a refusal
    module _ {x : Refusal} (q : r ≡ Err x) where
      pub stop_fits : at + x.place < 2 ^ 64
      stop_fits = omega (arith, inv.room, turn_place (Table.optional_members T t) least part_in r turns x q, long, inv.inside, inv.within)

      inner_wrong : {w : Walk} → w ≡ stop_at pos at x → Ends whole w out
      unfolding stop_at recall_to recalling
      inner_wrong {w} h = go (turn_wrong (Table.optional_members T t) least part_in r turns x q)
        where
          go : Early (Table.optional_members T t) least part_in r turns x.number x.place ⊎ ((at_mark part_in ≡ none) × (next_optional (Table.optional_members T t) least part_in ≡ bad x.number x.place)) → Ends whole w out
          go (inl E) =
              ends_refused whole 14 pos w out (ahead ∙ finish_early T t close_in (recalling pos) at_mark (eqb least 0) least part_in at k o out 1 E.mark E.unmet) (h ∙ rw E.number)
          go (inr W) =
              ends_refused whole x.number (recall_to x.number pos (at + x.place)) w out (ahead ∙ finish_wrong T t close_in (recalling pos) at_mark (eqb least 0) least part_in at k o out W.0 x.number x.place W.1) h

  -- after the members
  module _ (enough : more ≡ false) {b : Bool} (eb : b ≡ z && not (eqb at end)) where
    behind : whole ≡ closing T top m z (base T t) s (first_or (stage_of stage) fst t) from end at k o out
    unfolding amid
    behind = inv.rest ∙ rw enough

    module _ (over : b ≡ true) where
      inner_over : Ends whole (Stop 11 (from - 4)) out
      unfolding closing
      inner_over = ends_refused whole 11 (from - 4) (Stop 11 (from - 4)) out (behind ∙ rw (sym eb ∙ over)) refl

    module _ (used : b ≡ false) {fst' : ℕ} (ef : fst' ≡ first_or (stage_of stage) fst t) {j : ℕ} (ej : j ≡ base T t) where
      onwards : whole ≡ left T (follow (pick z sliced compact) j) at k o s fst' out (onward T top (follow (pick z sliced compact) j) (drop at m))
      unfolding closing
      onwards = behind ∙ rw (sym eb ∙ used, ← ef, ← ej)

      pub inner_done : j ≡ 0 → {g : ℕ} → g ≡ format_number (pick z sliced compact) → Ends whole (Done fst' g k o s at) out
      unfolding left rows_from first_from slice_rows fill skipped_in passed_in finished
      inner_done n {g} eg =
          let f : finished (follow (pick z sliced compact) j) ≡ some (pick z sliced compact) = rw n in
          ends_listed whole (Done fst' g k o s at) out
          (onwards ∙ ap (left T (follow (pick z sliced compact) j) at k o s fst' out) (onward_ended T top (follow (pick z sliced compact) j) (drop at m) f)
          ∙ rw (← eg, add-zero k, add-zero o, add-zero s, add-zero at))

      pub inner_out : (j ≡ 0 → ⊥) → Outer T top m whole (Following z j) at k o s fst' out
      unfolding credit stage_of finished
      inner_out n = record {
        small = inv.small;
        room = inv.room;
        inside = omega (arith, inv.inside, inv.within);
        few = omega (arith, inv.few, base_below T t);
        fewer = inv.fewer;
        fewest = omega (arith, inv.fewest, inv.begun);
        on = go j n;
        rest = onwards;
      }
        where
          go : (j : ℕ) → (j ≡ 0 → ⊥) → finished (follow (pick z sliced compact) j) ≡ none
          go zero n = absurd (n refl)
          go (suc i) n = refl

-- the length of a slice with bytes left over is before its data
pub size_place : (z : Bool) (from at end : ℕ) → (z ≡ true → 4 ≤ from) → (b : Bool) → b ≡ z && not (eqb at end) → b ≡ true → 4 ≤ from
size_place z from at end f b eb over = f (both_true z (not (eqb at end)) (sym eb ∙ over)).0

-- an outcome by another name
pub outer_join : {T : List ℕ} {top : ℕ} {m : List ℕ} {whole other : WalkEnd} {stage : Stage} {pos k o s fst : ℕ} {out : List ℕ}
    → whole ≡ other → Outer T top m other stage pos k o s fst out → Outer T top m whole stage pos k o s fst out
outer_join e inv = record {
  small = inv.small;
  room = inv.room;
  inside = inv.inside;
  few = inv.few;
  fewer = inv.fewer;
  fewest = inv.fewest;
  on = inv.on;
  rest = e ∙ inv.rest;
}

-- ---- how the walk ends

module _ (T : List ℕ) (top : ℕ) (m : List ℕ) (start : ℕ) (out₀ : List ℕ) (stage : Stage) (pos k o s fst : ℕ) (out : List ℕ)
    (inv : Outer T top m (left T (seek first) start 0 0 0 0 out₀ (slices T top (drop start m))) stage pos k o s fst out)
    (r : Result Opening Refusal) (e : r ≡ opening T top (stage_of stage) (take (length m - pos) (drop pos m))) where
  -- a slice is refused before its data
  module _ (x : Refusal) (q : r ≡ Err x) (w : Walk) (h : w ≡ stop_at pos pos x) where
    pub wrong_says : w ≡ slice_walk T start (slices T top (drop start m))
    wrong_says = ends_says T start out₀ (slices T top (drop start m)) w out (outer_wrong inv e q h)

    pub wrong_gives : (c : Chain) (n : ℕ) → slices T top (drop start m) ≡ ok c n → out ≡ fill 0 (chain_rows T start c) out₀
    wrong_gives = ends_gives T start out₀ (slices T top (drop start m)) w out (outer_wrong inv e q h)

  module _ (sl : Opening) (g : r ≡ Ok sl) (t : ℕ) (opt z : Bool) (a b : ℕ) (q : sl ≡ KnownSlice t opt z a b) (ms : Result Members Refusal) (em : ms ≡ members_of k (optional_start T t) (requireds (Table.required_members T t) (take (pos + b - (pos + a)) (drop (pos + a) m)))) where
    -- a required member is refused
    module _ (y : Refusal) (w : ms ≡ Err y) (x : Walk) (h : x ≡ stop_at pos (pos + a) y) where
      pub refused_says : x ≡ slice_walk T start (slices T top (drop start m))
      refused_says = ends_says T start out₀ (slices T top (drop start m)) x out (known_refused inv e g q em w h out)

      pub refused_gives : (out' : List ℕ) (c : Chain) (n : ℕ) → slices T top (drop start m) ≡ ok c n → out' ≡ fill 0 (chain_rows T start c) out₀
      refused_gives out' = ends_gives T start out₀ (slices T top (drop start m)) x out' (known_refused inv e g q em w h out')

    -- the members after the required ones decide the answer
    pub outer_answer : (x : Members) → ms ≡ Ok x → (out' : List ℕ)
        → ((ps : List Piece) (n : ℕ) → requireds (Table.required_members T t) (take (pos + b - (pos + a)) (drop (pos + a) m)) ≡ ok ps n → out' ≡ fill k (piece_rows T t (pos + a) ps) out)
        → slice_walk T start (slices T top (drop start m)) ≡ answer_of (amid T top m (stage_of stage) pos t z (pos + a) (pos + b) s fst (pos + a + x.bytes) 0 x.count o opt out')
    outer_answer x w out' fills = sym (left_whole T start out₀ (slices T top (drop start m))) ∙ ap answer_of (outer_same inv e g q em w fills)

-- a walk that stops accepts nothing
stop_never : (T : List ℕ) (start : ℕ) (r : Res Chain) (c p : ℕ) → Stop c p ≡ slice_walk T start r → (x : Chain) (n : ℕ) → r ≡ ok x n → (out l : List ℕ) → out ≡ l
unfolding slice_walk
stop_never T start (ok d i) c p h x n e out l = let z : ◌≡◌ {A = ℕ} 0 1 = cc in absurd (omega arith)
stop_never T start (bad d q) c p h x n e out l = let z : ◌≡◌ {A = ℕ} 0 1 = cc in absurd (omega arith)

-- inside a slice, where the answer is known to be that of the outcome
module _ (T : List ℕ) (top : ℕ) (m : List ℕ) (start : ℕ) (whole : WalkEnd) (stage : Stage) (pos t : ℕ) (z : Bool) (from end s fst stop : ℕ) (at least row k o : ℕ) (more : Bool) (out : List ℕ)
    (inv : Inner T top m whole stage pos t z from end s fst stop at least row k o more out) (answer : slice_walk T start (slices T top (drop start m)) ≡ answer_of whole) where
  -- an optional is refused
  module _ (go_on : more ≡ true) (r : Result (Answer Optional) Refusal) (e : r ≡ turn_of (optional_from T stop row) least (take (end - at) (drop at m))) (x : Refusal) (q : r ≡ Err x) (w : Walk) (h : w ≡ stop_at pos at x) where
    pub stopped_says : w ≡ slice_walk T start (slices T top (drop start m))
    stopped_says = ends_answer (inner_wrong inv go_on e q h) ∙ sym answer

    told : Stop x.number (recall_to x.number pos (at + x.place)) ≡ w
    unfolding stop_at
    told = sym h

    pub stopped_gives : (out₀ : List ℕ) (c : Chain) (n : ℕ) → slices T top (drop start m) ≡ ok c n → out ≡ fill 0 (chain_rows T start c) out₀
    stopped_gives out₀ c n f = stop_never T start (slices T top (drop start m)) x.number (recall_to x.number pos (at + x.place)) (told ∙ stopped_says) c n f out _

  -- bytes are left over
  module _ (enough : more ≡ false) (b : Bool) (eb : b ≡ z && not (eqb at end)) (over : b ≡ true) where
    pub over_says : Stop 11 (from - 4) ≡ slice_walk T start (slices T top (drop start m))
    over_says = ends_answer (inner_over inv enough eb over) ∙ sym answer

    pub over_gives : (out₀ : List ℕ) (x : Chain) (n : ℕ) → slices T top (drop start m) ≡ ok x n → out ≡ fill 0 (chain_rows T start x) out₀
    over_gives out₀ x n f = stop_never T start (slices T top (drop start m)) 11 (from - 4) over_says x n f out _
