-- The plan of a change, a case for each way out of the code. Assumes nothing.
--
--   listed_.., compact_.., fresh_..   whether a member is listed; the refusal of a compact record; 3 and 21
--   end_.., spot_.., slot_..          the exchange at a spot; in a list or a slice
--   read_..                           a message that is read
--   answer_.., output_..              the answer, and the output
--   plan_..                           the plan for an accepted message
use mathlib.Core.Path.{◌≡◌, refl, sym, ap, ap₂, ◌∙◌, subst}
use mathlib.Core.Bool.{Bool, true, false, ◌&&◌, ◌||◌, not, true≢false}
use mathlib.Core.Option.{Option, none, some}
use mathlib.Core.List.{List, [], ◌∷◌, ◌++◌}
use Prim.Native.Nat.{ℕ, ◌+◌, ◌-◌, ◌≤◌, ◌<◌}
use native.Mathlib.Omega.{arith}
use lib.ListN.{length, take, drop, length-take, length-drop}
use lib.Dec.{eqb, leb, ltb}
use mir.Syntax.{w32, w64}
use mir.Val.{Fits}
use borrow.Author.Tests.{lt-ltb, le-ltb, ltb-false, eqb-true, eqb-false, ne_eqb, le-leb, lt-leb}
use Rattle.encoding.specs.Result.{Res, ok, bad, pick, first_of}
use Rattle.encoding.proofs.ResultLaws.{ok≢bad}
use Rattle.encoding.specs.Number.{Bytes}
use Rattle.encoding.specs.Types.{Ty, form_of}
use Rattle.encoding.specs.Value.{exact}
use Rattle.encoding.specs.Table.{fine, faults, kind, tag, member_ty, trees, ty_of, chain}
use Rattle.encoding.proofs.RuleLaws.{optional_own}
use Rattle.encoding.specs.Slice.{Format, compact, sliced, format_number}
use Rattle.encoding.specs.Message.{Pieces, v10, v11, encoding_number, Read, Row, rows, rules, limit, encode, encapsulate, first_known}
use Rattle.encoding.specs.View.{part, nothing, row_of, seen}
use Rattle.encoding.specs.Write.{Out, out, stop, next, stopped_first, bounded, output, writing_of}
use Rattle.encoding.specs.Conform.{Conform}
use Rattle.laws.specs.Demands.{read_as, Follows}
use Rattle.encoding.proofs.MessageLaws.{length_encapsulate}
use Rattle.encoding.specs.declared.Writing.{Writing}
use Rattle.encoding.specs.declared.Writing.TheVariants.{Written, Rejected}
use Rattle.laws.proofs.Refusals.{rules_refused, refusal_numbered}
use Rattle.laws.proofs.TableExact.{sound}
use Rattle.laws.proofs.MessageExact.{exact_message}
use Rattle.shapes.specs.Shapes.{form_number, shapes_of, form_in}
use Rattle.shapes.specs.ShapesLaws.{form_row}
use Rattle.wire.specs.StepLaws.{rest_is}
use Rattle.std.specs.Prelude.{Some, None}
use Rattle.std.specs.Prelude.{Option as Maybe}
use Rattle.table.specs.Found.{found_of}
use Rattle.table.specs.declared.MemberRow.{MemberRow}
use Rattle.table.specs.Rows.{IsMemberRow}
use Rattle.view.specs.declared.View.{View}
use Rattle.view.specs.declared.View.TheVariants.{Part, Fallback, Nothing, Refused}
use Rattle.view.specs.Views.{view_of, view_answer_of, view_answer, view_within}
use Rattle.edit.specs.Change.{Target, target, lists, change_form, changed_at, changed_as, changed, changing, set, remove}
use Rattle.edit.proofs.TargetLaws.{Aim, target_aim, aim_chain}
use Rattle.edit.proofs.MadeLaws.{result_of, first_there}
use Rattle.edit.specs.Place.{Gap, gap_in, flagged, has_marker, cut_end}
use Rattle.seek.specs.declared.Slot.{Slot}
use Rattle.seek.specs.declared.Slot.TheVariants.{List as InList, At, Nothing as NoSlot}
use Rattle.seek.specs.declared.Spot.{Spot}
use Rattle.seek.specs.Located.{target_row, slot_in, SlotInside, as_gap, SpotInside}
use Rattle.splice.specs.declared.Cut.{Cut}
use Rattle.splice.specs.Spliced.{size_of, spliced, Cuts, Shaped}
use Rattle.splice.specs.SplicedLaws.{shaped_cuts, spliced_length}
use Rattle.slices.specs.declared.Walk.{Walk}
use Rattle.slices.specs.declared.Walk.TheVariants.{Done, Stop as WalkStop}
use Rattle.slices.specs.Walks.{read_done, body_walk}
use Rattle.reading.specs.Told.{Walked}
use Rattle.prepare.specs.declared.Prepared.{Prepared}
use Rattle.prepare.specs.declared.Prepared.TheVariants.{Ready, Refused as Turned}
use Rattle.prepare.specs.Preparing.{checks}
use Rattle.prepare.specs.PreparingLaws.{ready_short, reading_refused}
use Rattle.change.specs.declared.Plan.{Plan}
use Rattle.change.specs.declared.Plan.TheVariants.{Make, Stop}
use Rattle.change.specs.Planned.{is_part, compact_plan, fresh_form, cut_at, at_spot, at_slot, located_plan, sliced_plan, content_of, Planned, Ripe, PlannedFor, PlanFits}
use Rattle.change.specs.PlannedLaws.{planned_located}

-- ---- whether a member is listed

module _ (v a : View) (e : v ≡ view_within 12 a) where
  same_view : a ≡ v
  unfolding view_within
  same_view = sym e

  pub listed_part : (p n : ℕ) → v ≡ Part p n → true ≡ is_part a
  unfolding is_part
  listed_part p n q = sym (ap is_part (same_view ∙ q))

  pub listed_fallback : v ≡ Fallback → false ≡ is_part a
  unfolding is_part
  listed_fallback q = sym (ap is_part (same_view ∙ q))

  pub listed_nothing : v ≡ Nothing → false ≡ is_part a
  unfolding is_part
  listed_nothing q = sym (ap is_part (same_view ∙ q))

  pub listed_refused : (c p : ℕ) → v ≡ Refused c p → false ≡ is_part a
  unfolding is_part
  listed_refused c p q = sym (ap is_part (same_view ∙ q))

module _ (q l : Bool) where
  pub compact_set : q ≡ true → Stop 51 0 ≡ compact_plan q l
  unfolding compact_plan
  compact_set e = rw e

  pub compact_listed : (r : Bool) → q ≡ false → r ≡ l → r ≡ true → Stop 51 0 ≡ compact_plan q l
  unfolding compact_plan
  compact_listed r e f g = rw (e, sym f ∙ g)

  pub compact_none : (r : Bool) → q ≡ false → r ≡ l → r ≡ false → Stop 50 0 ≡ compact_plan q l
  unfolding compact_plan
  compact_none r e f g = rw (e, sym f ∙ g)

-- ---- 3 and 21

module _ (q : Bool) (t : Ty) (b : List ℕ) where
  pub fresh_long : q ≡ true → 65536 < length b → 3 ≡ fresh_form q t b
  unfolding fresh_form
  fresh_long e h = rw (e, lt-ltb 65536 (length b) h)

  pub fresh_right : (r : Bool) → q ≡ true → length b ≤ 65536 → r ≡ exact t b → r ≡ true → 0 ≡ fresh_form q t b
  unfolding fresh_form
  fresh_right r e h f g = rw (e, le-ltb 65536 (length b) h, sym f ∙ g)

  pub fresh_wrong : (r : Bool) → q ≡ true → length b ≤ 65536 → r ≡ exact t b → r ≡ false → 21 ≡ fresh_form q t b
  unfolding fresh_form
  fresh_wrong r e h f g = rw (e, le-ltb 65536 (length b) h, sym f ∙ g)

  pub fresh_none : q ≡ false → 0 ≡ fresh_form q t b
  unfolding fresh_form
  fresh_none e = rw e

-- ---- at a spot

pub end_last : (s f : Bool) (to : ℕ) → s ≡ true → f ≡ false → to + 1 ≡ pick s (pick f to (to + 1)) to
end_last s f to e g = rw (e, g)

pub end_flagged : (s f : Bool) (to : ℕ) → s ≡ true → f ≡ true → to ≡ pick s (pick f to (to + 1)) to
end_flagged s f to e g = rw (e, g)

pub end_list : (s f : Bool) (to : ℕ) → s ≡ false → to ≡ pick s (pick f to (to + 1)) to
end_list s f to e = rw e

pub gone_set : (q : Bool) (from to : ℕ) → q ≡ true → false ≡ not q && eqb from to
gone_set q from to e = rw e

pub gone_empty : (q : Bool) (from to : ℕ) → q ≡ false → eqb from to ≡ not q && eqb from to
gone_empty q from to e = rw e

end_most : (s f : Bool) (to : ℕ) → pick s (pick f to (to + 1)) to ≤ to + 1
end_most true true to = omega arith
end_most true false to = omega arith
end_most false f to = omega arith

pub last_fits : (a to : ℕ) (s f : Bool) (r : ℕ) → r ≡ pick s (pick f to (to + 1)) to → a ≤ 65536 → to ≤ 65536 → Fits w64 (a + r)
last_fits a to s f r e h k = omega (arith, end_most s f to)

module _ (f s e a : ℕ) (x : Spot) (t form : ℕ) (q : Bool) where
  pub spot_gone : (g : Bool) → g ≡ not q && eqb x.from x.to → g ≡ true → Stop 50 0 ≡ at_spot f s e a (as_gap x) t form q
  unfolding at_spot
  spot_gone g u v = ap (λ (z : Bool). pick z (Stop 50 0) (Make (cut_at f s e a (as_gap x) t form q))) (sym v ∙ u)

  module _ (fl : Bool) (ef : fl ≡ q || x.others) (r : ℕ) (er : r ≡ pick (ltb 0 e) (pick fl x.to (x.to + 1)) x.to) (mk : Bool) (em : mk ≡ ltb 0 e && (q && (eqb x.from x.to && not x.others))) where
    the_cut : record { flags = f; size = s; end = e; from = a + x.from; to = a + r; tag = t; form = form; setting = q; flagged = fl; marker = mk } ≡ cut_at f s e a (as_gap x) t form q
    unfolding cut_at flagged has_marker cut_end
    the_cut =
        ap (λ (z : Bool). record { flags = f; size = s; end = e; from = a + x.from; to = a + r; tag = t; form = form; setting = q; flagged = z; marker = mk }) ef
        ∙ ap (λ (z : ℕ). record { flags = f; size = s; end = e; from = a + x.from; to = a + z; tag = t; form = form; setting = q; flagged = q || x.others; marker = mk }) (er ∙ ap (λ (z : Bool). pick (ltb 0 e) (pick z x.to (x.to + 1)) x.to) ef)
        ∙ ap (λ (z : Bool). record { flags = f; size = s; end = e; from = a + x.from; to = a + pick (ltb 0 e) (pick (q || x.others) x.to (x.to + 1)) x.to; tag = t; form = form; setting = q; flagged = q || x.others; marker = z }) em

    pub spot_made : (g : Bool) → g ≡ not q && eqb x.from x.to → g ≡ false
        → Make (record { flags = f; size = s; end = e; from = a + x.from; to = a + r; tag = t; form = form; setting = q; flagged = fl; marker = mk }) ≡ at_spot f s e a (as_gap x) t form q
    unfolding at_spot
    spot_made g u v = ap Make the_cut ∙ ap (λ (z : Bool). pick z (Stop 50 0) (Make (cut_at f s e a (as_gap x) t form q))) (sym v ∙ u)

-- ---- in a list or a slice

module _ (T : List ℕ) (k o : ℕ) (m : List ℕ) (t form : ℕ) (q : Bool) (w : Slot) (ew : w ≡ slot_in T k o m) where
  pub slot_none : w ≡ NoSlot → Stop 49 0 ≡ located_plan T k o m t form q
  unfolding located_plan at_slot
  slot_none e = sym (ap (at_slot T o m t form q) (sym ew ∙ e))

  pub slot_list : w ≡ InList → (x : Spot) → as_gap x ≡ gap_in T o t (take (length m - 6) (drop 6 m)) → (p : Plan) → p ≡ at_spot 0 0 0 6 (as_gap x) t form q → p ≡ located_plan T k o m t form q
  unfolding located_plan at_slot
  slot_list e x ex p ep = ep ∙ ap (λ (g : Gap). at_spot 0 0 0 6 g t form q) (ex ∙ ap (gap_in T o t) (rest_is m 6)) ∙ sym (ap (at_slot T o m t form q) (sym ew ∙ e))

  module _ (f s e : ℕ) (q₁ : w ≡ At f s e) where
    pub slot_slice : (x : Spot) → as_gap x ≡ gap_in T o t (take (e - (s + 4)) (drop (s + 4) m)) → (p : Plan) → p ≡ at_spot f s e (s + 4) (as_gap x) t form q → p ≡ located_plan T k o m t form q
    unfolding located_plan at_slot
    slot_slice x ex p ep = ep ∙ ap (λ (g : Gap). at_spot f s e (s + 4) g t form q) ex ∙ sym (ap (at_slot T o m t form q) (sym ew ∙ q₁))

module _ (m : List ℕ) (w : Slot) (I : SlotInside 6 (length m) w) (f s e : ℕ) (q : w ≡ At f s e) where
  slice_inside : SlotInside 6 (length m) (At f s e)
  slice_inside = subst (SlotInside 6 (length m)) q I

  pub slice_fits : Fits w64 (length m) → Fits w64 (s + 4)
  slice_fits h = omega (arith, slice_inside.2, slice_inside.3)

  pub slice_order : s + 4 ≤ e
  slice_order = slice_inside.2

  pub slice_end : e ≤ length m
  slice_end = slice_inside.3

  pub slice_begins : length m ≤ 65536 → s + 4 ≤ 65536
  slice_begins h = omega (arith, slice_inside.2, slice_inside.3)

pub part_few : (m : List ℕ) (n a : ℕ) → length m ≤ 65536 → length (take n (drop a m)) ≤ 65536
part_few m n a h = omega (arith, length-take n (drop a m), length-drop a m)

pub spot_to : (l : ℕ) (x : Spot) → SpotInside l x → l ≤ 65536 → x.to ≤ 65536
spot_to l x I h = omega (arith, I.inside)

pub spot_from : (l : ℕ) (x : Spot) → SpotInside l x → l ≤ 65536 → x.from ≤ 65536
spot_from l x I h = omega (arith, I.inside, I.order)

-- ---- an accepted message

lists_part : (n : ℕ) (rs : List Row) → is_part (view_of (row_of n rs)) ≡ lists n rs
unfolding is_part view_of row_of lists
lists_part n [] = refl
lists_part n (r ∷ rs) = go (eqb n r.member) (lists_part n rs)
  where
    go : (b : Bool) → is_part (view_of (row_of n rs)) ≡ lists n rs → is_part (view_of (pick b (part r.place r.len) (row_of n rs))) ≡ b || lists n rs
    go true ih = refl
    go false ih = ih

found_none : (o : Option Target) → None ≡ found_of (target_row o) → o ≡ none
unfolding found_of target_row
found_none none h = refl
found_none (some x) h = let z : ◌≡◌ {A = ℕ} 0 1 = cc in absurd (omega arith)

found_at : (w : Option Target) (o : ℕ) → Some o ≡ found_of (target_row w) → (x : Target) × (w ≡ some x) × (x.owner ≡ o)
unfolding found_of target_row
found_at none o h = let z : ◌≡◌ {A = ℕ} 0 1 = cc in absurd (omega arith)
found_at (some x) o h = let e : x.owner ≡ o = cc in (x, refl, e)

compact_is : (f : Format) → 0 ≡ format_number f → f ≡ compact
compact_is compact e = refl
compact_is sliced e = absurd (omega arith)

sliced_is : (f : Format) (k : ℕ) → k ≡ format_number f → (k ≡ 0 → ⊥) → f ≡ sliced
sliced_is compact k e u = absurd (u e)
sliced_is sliced k e u = refl

-- of a message of 1.1
abbrev Planned11 : List ℕ → ℕ → ℕ → ℕ → List ℕ → ℕ → Bool → List ℕ → Plan → Type 0
Planned11 T top first format m n q b p =
    Bytes m → (q ≡ false → length b ≤ 65536) → (f : Format) (ps : Pieces) (j : ℕ) → rules T top m ≡ ok (read_as (v11 f) ps) j → first ≡ first_known T top ps → format ≡ format_number f
    → Planned (changed T top n (content_of q b) (rules T top m)) m b p

module _ (T : List ℕ) (top first format : ℕ) (m : List ℕ) (n : ℕ) (q : Bool) (b : List ℕ) where
  in_11 : (p : Plan) → (format ≡ 2 → ⊥) → Planned11 T top first format m n q b p → PlannedFor T top first format m n q b p
  in_11 p w P y hb v10 ps j a ef eg = absurd (w eg)
  in_11 p w P y hb (v11 f) ps j a ef eg = P y hb f ps j a ef eg

  -- a message of 1.0
  pub plan_old : format ≡ 2 → PlannedFor T top first format m n q b (Stop 49 0)
  unfolding changed changed_as
  plan_old z y hb v10 ps j a ef eg = (ap (changed T top n (content_of q b)) a, omega arith, omega arith)
  plan_old z y hb (v11 compact) ps j a ef eg = absurd (omega arith)
  plan_old z y hb (v11 sliced) ps j a ef eg = absurd (omega arith)

module _ (T : List ℕ) (top first format : ℕ) (m : List ℕ) (n : ℕ) (q : Bool) (b : List ℕ) (fd : Maybe ℕ) (ed : fd ≡ found_of (target_row (target T first n))) where
  none_11 : fd ≡ None → Planned11 T top first format m n q b (Stop 49 0)
  unfolding changed changed_as changed_at
  none_11 e y hb fm ps j a ef eg =
      let z : target T (first_known T top ps) n ≡ none = ap (λ (i : ℕ). target T i n) (sym ef) ∙ found_none (target T first n) (sym e ∙ ed) in
      (ap (changed T top n (content_of q b)) a ∙ ap (changed_at T top fm ps (content_of q b)) z, omega arith, omega arith)

  module _ (o : ℕ) (e : fd ≡ Some o) where
    hit : (x : Target) × (target T first n ≡ some x) × (x.owner ≡ o)
    hit = found_at (target T first n) o (sym e ∙ ed)

    -- what is known of the message and the member
    record Known (fm : Format) (ps : Pieces) (j : ℕ) : Type 0 where
      right : faults T ≡ fine
      follows : Follows T top m (v11 fm) ps
      found : target T (first_known T top ps) n ≡ some hit.0
      aim : Aim T (chain T (first_known T top ps)) n hit.0

    known : Bytes m → (fm : Format) (ps : Pieces) (j : ℕ) → rules T top m ≡ ok (read_as (v11 fm) ps) j → first ≡ first_known T top ps → Known fm ps j
    known y fm ps j a ef =
        let F = ((exact_message T top m (v11 fm) ps j y).0 a).0 in
        let R = sound T F.table in
        let t : target T (first_known T top ps) n ≡ some hit.0 = ap (λ (i : ℕ). target T i n) (sym ef) ∙ hit.1 in
        record { right = R; follows = F; found = t; aim = target_aim T R (first_known T top ps) n (first_there T top fm F.top_there ps F.conforms) hit.0 t }

    abbrev form_answer : Format → Pieces → ℕ
    form_answer fm ps = change_form hit.0.member (content_of q b) fm (rows T top (v11 fm) ps)

    changes : (fm : Format) (ps : Pieces) (j : ℕ) → rules T top m ≡ ok (read_as (v11 fm) ps) j → target T (first_known T top ps) n ≡ some hit.0
        → changed T top n (content_of q b) (rules T top m) ≡ next (stopped_first (form_answer fm ps)) (λ _. out (result_of T fm ps (content_of q b) hit.0))
    unfolding changed changed_as changed_at
    changes fm ps j a t = ap (changed T top n (content_of q b)) a ∙ ap (changed_at T top fm ps (content_of q b)) t

    compact_11 : format ≡ 0 → (p : Plan) → p ≡ compact_plan q (is_part (view_answer T top m n)) → Planned11 T top first format m n q b p
    unfolding change_form first_of content_of compact_plan next stopped_first view_answer view_answer_of seen view_of
    compact_11 z p ep y hb fm ps j a ef eg =
        let K = known y fm ps j a ef in
        let fc : fm ≡ compact = compact_is fm (sym z ∙ eg) in
        let rs : List Row = rows T top (v11 fm) ps in
        let v : is_part (view_answer T top m n) ≡ lists n rs =
        ap (λ (w : Res Read). is_part (view_answer_of T top n w)) a
        ∙ ap (λ (w : Bool). is_part (view_of (pick w (row_of n rs) nothing))) (aim_chain T K.right (first_known T top ps) n hit.0 K.aim).owned ∙ lists_part n rs in
        let l : lists hit.0.member.row rs ≡ is_part (view_answer T top m n) = ap (λ (i : ℕ). lists i rs) K.aim.row ∙ sym v in
        let c : changed T top n (content_of q b) (rules T top m) ≡ next (stopped_first (change_form hit.0.member (content_of q b) compact rs)) (λ _. out (result_of T fm ps (content_of q b) hit.0)) =
        changes fm ps j a K.found ∙ ap (λ (g : Format). next (stopped_first (change_form hit.0.member (content_of q b) g rs)) (λ _. out (result_of T fm ps (content_of q b) hit.0))) fc in
        subst (Planned (changed T top n (content_of q b) (rules T top m)) m b) (sym ep) (go q (lists hit.0.member.row rs) refl (is_part (view_answer T top m n)) l c)
      where
        go : (z : Bool) (u : Bool) → lists hit.0.member.row (rows T top (v11 fm) ps) ≡ u → (w : Bool) → lists hit.0.member.row (rows T top (v11 fm) ps) ≡ w
            → changed T top n (content_of q b) (rules T top m) ≡ next (stopped_first (change_form hit.0.member (content_of z b) compact (rows T top (v11 fm) ps))) (λ _. out (result_of T fm ps (content_of q b) hit.0))
            → Planned (changed T top n (content_of q b) (rules T top m)) m b (pick (z || w) (Stop 51 0) (Stop 50 0))
        go true u eu w ew c = (c, omega arith, omega arith)
        go false true eu true ew c = (c ∙ ap (λ (i : Bool). next (stopped_first (first_of ((50, not i) ∷ (51, true) ∷ []))) (λ _. out (result_of T fm ps (content_of q b) hit.0))) eu, omega arith, omega arith)
        go false true eu false ew c = absurd (true≢false (sym eu ∙ ew))
        go false false eu true ew c = absurd (true≢false (sym ew ∙ eu))
        go false false eu false ew c = (c ∙ ap (λ (i : Bool). next (stopped_first (first_of ((50, not i) ∷ (51, true) ∷ []))) (λ _. out (result_of T fm ps (content_of q b) hit.0))) eu, omega arith, omega arith)

    module _ (u : format ≡ 0 → ⊥) (c : ℕ) (ec : c ≡ fresh_form q (member_ty T (trees T) n) b) where
      plan_fresh : (c ≡ 0 → ⊥) → Planned11 T top first format m n q b (Stop c 0)
      unfolding fresh_form change_form first_of content_of next stopped_first
      plan_fresh v y hb fm ps j a ef eg =
          let K = known y fm ps j a ef in
          let fs : fm ≡ sliced = sliced_is fm format eg u in
          let rs : List Row = rows T top (v11 fm) ps in
          let ty : member_ty T (trees T) n ≡ hit.0.member.ty = sym K.aim.typed in
          let d : changed T top n (content_of q b) (rules T top m) ≡ next (stopped_first (change_form hit.0.member (content_of q b) sliced rs)) (λ _. out (result_of T fm ps (content_of q b) hit.0)) =
          changes fm ps j a K.found ∙ ap (λ (g : Format). next (stopped_first (change_form hit.0.member (content_of q b) g rs)) (λ _. out (result_of T fm ps (content_of q b) hit.0))) fs in
          go q (ltb 65536 (length b)) refl (exact hit.0.member.ty b) refl (ec ∙ ap (λ (i : Ty). fresh_form q i b) ty) d
        where
          go : (z : Bool) (x : Bool) → ltb 65536 (length b) ≡ x → (w : Bool) → exact hit.0.member.ty b ≡ w → c ≡ fresh_form z hit.0.member.ty b
              → changed T top n (content_of q b) (rules T top m) ≡ next (stopped_first (change_form hit.0.member (content_of z b) sliced (rows T top (v11 fm) ps))) (λ _. out (result_of T fm ps (content_of q b) hit.0))
              → (changed T top n (content_of q b) (rules T top m) ≡ stop c 0) × (c < 4294967296) × (0 < 4294967296)
          go true true ex w ew f d = let g : c ≡ 3 = f ∙ rw ex in (d ∙ rw ex (ap (λ (i : ℕ). stop i 0) (sym g)), omega arith, omega arith)
          go true false ex true ew f d = absurd (v (f ∙ rw (ex, ew)))
          go true false ex false ew f d = let g : c ≡ 21 = f ∙ rw (ex, ew) in (d ∙ rw (ex, ew) (ap (λ (i : ℕ). stop i 0) (sym g)), omega arith, omega arith)
          go false x ex w ew f d = absurd (v f)

      plan_located : c ≡ 0 → length m ≤ 65536 → (p : Plan) → p ≡ located_plan T (kind T top) o m (tag T n) (form_number (form_of (member_ty T (trees T) n))) q
          → Planned11 T top first format m n q b p
      unfolding fresh_form
      plan_located z sh p ep y hb fm ps j a ef eg =
          let K = known y fm ps j a ef in
          let fs : fm ≡ sliced = sliced_is fm format eg u in
          let ty : member_ty T (trees T) n ≡ hit.0.member.ty = sym K.aim.typed in
          let key : tag T n ≡ hit.0.member.key = ap (tag T) (sym K.aim.row) ∙ sym ((optional_own T hit.0.owner hit.0.member.key hit.0.member K.aim.found).tagged refl) in
          let form : form_number (form_of (member_ty T (trees T) n)) ≡ form_number (form_of hit.0.member.ty) = ap (λ (i : Ty). form_number (form_of i)) ty in
          let f₀ : 0 ≡ fresh_form q hit.0.member.ty b = sym z ∙ ec ∙ ap (λ (i : Ty). fresh_form q i b) ty in
          let fr : (q ≡ true → (length b ≤ 65536) × (exact hit.0.member.ty b ≡ true)) = λ e. fresh_passes q (ltb 65536 (length b)) refl (exact hit.0.member.ty b) refl f₀ e in
          let fw : length b ≤ 65536 = few_bytes q refl fr in
          let C = subst (λ (i : Format). Conform T top (v11 i) ps) fs K.follows.conforms in
          let em = K.follows.encoded ∙ ap (λ (i : Format). encapsulate (v11 i) (encode (v11 i) ps)) fs in
          let P = planned_located T K.right top n hit.0 ps C K.aim q b j K.found fr fw m em sh in
          subst (Planned (changed T top n (content_of q b) (rules T top m)) m b)
          (ap (λ (i : ℕ). located_plan T (kind T top) i m hit.0.member.key (form_number (form_of hit.0.member.ty)) q) hit.2
          ∙ ap₂ (λ (i l : ℕ). located_plan T (kind T top) o m i l q) (sym key) (sym form) ∙ sym ep)
          (subst (λ (w : Res Read). Planned (changed T top n (content_of q b) w) m b (located_plan T (kind T top) hit.0.owner m hit.0.member.key (form_number (form_of hit.0.member.ty)) q)) (ap (λ (i : Format). ok (read_as (v11 i) ps) j) (sym fs) ∙ sym a) P)
        where
          fresh_passes : (z : Bool) (x : Bool) → ltb 65536 (length b) ≡ x → (w : Bool) → exact hit.0.member.ty b ≡ w → 0 ≡ fresh_form z hit.0.member.ty b → z ≡ true → (length b ≤ 65536) × (exact hit.0.member.ty b ≡ true)
          fresh_passes true true ex w ew f e = absurd (zero_three (f ∙ rw ex))
            where
              zero_three : ◌≡◌ {A = ℕ} 0 3 → ⊥
              zero_three i = omega arith
          fresh_passes true false ex true ew f e = (ltb-false 65536 (length b) ex, ew)
          fresh_passes true false ex false ew f e = absurd (zero_late (f ∙ rw (ex, ew)))
            where
              zero_late : ◌≡◌ {A = ℕ} 0 21 → ⊥
              zero_late i = omega arith
          fresh_passes false x ex w ew f e = absurd (true≢false (sym e))

          few_bytes : (z : Bool) → q ≡ z → (q ≡ true → (length b ≤ 65536) × (exact hit.0.member.ty b ≡ true)) → length b ≤ 65536
          few_bytes true e fr = (fr e).0
          few_bytes false e fr = hb e

    sliced_11 : (format ≡ 0 → ⊥) → length m ≤ 65536 → (p : Plan) → p ≡ sliced_plan T top o m n q b → Planned11 T top first format m n q b p
    unfolding sliced_plan
    sliced_11 u sh p ep = go (eqb c 0) refl
      where
        c : ℕ
        c = fresh_form q (member_ty T (trees T) n) b

        go : (z : Bool) → eqb c 0 ≡ z → Planned11 T top first format m n q b p
        go true e = plan_located u c refl (eqb-true c 0 e) sh p (ep ∙ ap (λ (w : Bool). pick w (located_plan T (kind T top) o m (tag T n) (form_number (form_of (member_ty T (trees T) n))) q) (Stop c 0)) e)
        go false e = subst (Planned11 T top first format m n q b) (sym (ep ∙ ap (λ (w : Bool). pick w (located_plan T (kind T top) o m (tag T n) (form_number (form_of (member_ty T (trees T) n))) q) (Stop c 0)) e)) (plan_fresh u c refl (eqb-false c 0 e))

    pub plan_compact : format ≡ 0 → (p : Plan) → p ≡ compact_plan q (is_part (view_answer T top m n)) → PlannedFor T top first format m n q b p
    plan_compact z p ep = in_11 T top first format m n q b p (λ e. omega arith) (compact_11 z p ep)

    pub plan_sliced : (format ≡ 2 → ⊥) → (format ≡ 0 → ⊥) → length m ≤ 65536 → (p : Plan) → p ≡ sliced_plan T top o m n q b → PlannedFor T top first format m n q b p
    plan_sliced w u sh p ep = in_11 T top first format m n q b p w (sliced_11 u sh p ep)

  pub plan_none : (format ≡ 2 → ⊥) → fd ≡ None → PlannedFor T top first format m n q b (Stop 49 0)
  plan_none w e = in_11 T top first format m n q b (Stop 49 0) w (none_11 e)

-- ---- 3 and 21, then the exchange

module _ (T : List ℕ) (top o : ℕ) (m : List ℕ) (n : ℕ) (q : Bool) (b : List ℕ) (t : ℕ) (et : (ty_of T t ≡ member_ty T (trees T) n) × (t < 65536)) (c : ℕ) (ec : c ≡ fresh_form q (ty_of T t) b) where
  fresh_same : fresh_form q (member_ty T (trees T) n) b ≡ c
  fresh_same = ap (λ (i : Ty). fresh_form q i b) (sym et.0) ∙ sym ec

  pub sliced_fresh : (c ≡ 0 → ⊥) → Stop c 0 ≡ sliced_plan T top o m n q b
  unfolding sliced_plan
  sliced_fresh u = sym (ap (λ (i : ℕ). pick (eqb i 0) (located_plan T (kind T top) o m (tag T n) (form_number (form_of (member_ty T (trees T) n))) q) (Stop i 0)) fresh_same ∙ ap (λ (w : Bool). pick w (located_plan T (kind T top) o m (tag T n) (form_number (form_of (member_ty T (trees T) n))) q) (Stop c 0)) (ne_eqb c 0 u))

  pub sliced_located : c ≡ 0 → (row : MemberRow) → IsMemberRow T n row → (k : ℕ) → k ≡ kind T top → (shapes : List ℕ) → shapes ≡ shapes_of T → (h : ℕ) → h ≡ form_in shapes t → (p : Plan) → p ≡ located_plan T k o m row.tag h q
      → p ≡ sliced_plan T top o m n q b
  unfolding sliced_plan
  sliced_located z row R k ek shapes es h eh p ep =
      ep ∙ ap (λ (i : ℕ). located_plan T i o m row.tag h q) ek
      ∙ ap₂ (λ (i l : ℕ). located_plan T (kind T top) o m i l q) R.tag_is (eh ∙ form_row T t shapes es ∙ ap (λ (i : Ty). form_number (form_of i)) et.0)
      ∙ sym (ap (λ (i : ℕ). pick (eqb i 0) (located_plan T (kind T top) o m (tag T n) (form_number (form_of (member_ty T (trees T) n))) q) (Stop i 0)) (fresh_same ∙ z))

-- ---- a message that is read

module _ (T : List ℕ) (top : ℕ) (m : List ℕ) (n : ℕ) (q : Bool) (b : List ℕ) where
  -- a refusal by the rules is the answer, and its numbers are small
  refused_rules : (c p : ℕ) → rules T top m ≡ bad c p → Planned (changed T top n (content_of q b) (rules T top m)) m b (Stop c p)
  unfolding changed
  refused_rules c p e = let N = refusal_numbered (rules_refused T top m e) in (ap (changed T top n (content_of q b)) e, omega (arith, N.known_number), omega (arith, N.small_place))

  module _ (w : Walk) (list last : List ℕ) (W : Walked T top m w list last) where
    pub read_stopped : (c p : ℕ) → w ≡ WalkStop c p → (q ≡ false → length b ≤ 65536) → Ripe (changed T top n (content_of q b) (rules T top m)) m b (Stop c p)
    unfolding body_walk read_done
    read_stopped c p e hb = record { planned = go (rules T top m) refl (sym e ∙ W.says) }
      where
        go : (r : Res Read) → rules T top m ≡ r → WalkStop c p ≡ body_walk T top r → Planned (changed T top n (content_of q b) (rules T top m)) m b (Stop c p)
        go (ok r j) f g = let z : ◌≡◌ {A = ℕ} 0 1 = cc in absurd (omega arith)
        go (bad c' p') f g =
            let a : c' ≡ c = cc in
            let d : p' ≡ p = cc in
            refused_rules c p (f ∙ ap₂ bad a d)

    module _ (a f k o s e : ℕ) (d : w ≡ Done a f k o s e) where
      done : (r : Read) × (j : ℕ) × (rules T top m ≡ ok r j) × (a ≡ first_known T top r.pieces) × (f ≡ encoding_number r.format)
      unfolding body_walk read_done
      done = go (rules T top m) refl (sym d ∙ W.says)
        where
          go : (r : Res Read) → rules T top m ≡ r → Done a f k o s e ≡ body_walk T top r → (r : Read) × (j : ℕ) × (rules T top m ≡ ok r j) × (a ≡ first_known T top r.pieces) × (f ≡ encoding_number r.format)
          go (ok r j) u g =
              let x : a ≡ first_known T top r.pieces = cc in
              let z : f ≡ encoding_number r.format = cc in
              (r, j, u, x, z)
          go (bad c p) u g = let z : ◌≡◌ {A = ℕ} 0 1 = cc in absurd (omega arith)

      -- the checks refused nothing
      fine_checks : checks T top 1 (length m) ≡ Ready
      fine_checks = go (checks T top 1 (length m)) refl
        where
          go : (p : Prepared) → p ≡ checks T top 1 (length m) → checks T top 1 (length m) ≡ Ready
          go Ready x = sym x
          go (Turned c p) x = absurd (ok≢bad done.2 (reading_refused T top m (length m) refl (Turned c p) x c p refl))

      pub read_shapes : (l : List ℕ) → (checks T top 1 (length m) ≡ Ready → l ≡ shapes_of T) → l ≡ shapes_of T
      read_shapes l g = g fine_checks

      pub read_few : length m ≤ 65536
      read_few = ready_short T top 1 (length m) Ready (sym fine_checks) refl

      pub read_short : length m < 6 → (q ≡ false → length b ≤ 65536) → Ripe (changed T top n (content_of q b) (rules T top m)) m b (Stop 4 0)
      read_short l hb =
          let F = ((exact_message T top m done.0.format done.0.pieces done.1 W.bytes).0 done.2).0 in
          absurd (omega (arith, ap length F.encoded ∙ length_encapsulate done.0.format (encode done.0.format done.0.pieces)))

      pub read_done_lem : (p : Plan) → PlannedFor T top a f m n q b p → (q ≡ false → length b ≤ 65536) → Ripe (changed T top n (content_of q b) (rules T top m)) m b p
      read_done_lem p P hb = record { planned = P W.bytes hb done.0.format done.0.pieces done.1 done.2 done.3 done.4 }

-- ---- the answer

module _ (o : Out (List ℕ)) (m b : List ℕ) (room : ℕ) where
  pub answer_stop : (p : Plan) → Planned o m b p → (c k : ℕ) → p ≡ Stop c k → Rejected c k ≡ writing_of (next o (bounded room))
  unfolding next writing_of
  answer_stop p P c k e = sym (ap (λ (z : Out (List ℕ)). writing_of (next z (bounded room))) (subst (Planned o m b) e P).0)

  module _ (p : Plan) (P : Planned o m b p) (c : Cut) (e : p ≡ Make c) (n : ℕ) (en : n ≡ size_of c (length m) (length b)) where
    made_plan : Planned o m b (Make c)
    made_plan = subst (Planned o m b) e P

    result_length : length (spliced c m b) ≡ n
    result_length = spliced_length c m b made_plan.1 ∙ sym en

    bounded_is : (q : Bool) → leb (length (spliced c m b)) limit && leb (length (spliced c m b)) room ≡ q → next o (bounded room) ≡ pick q (out (spliced c m b)) (stop 22 (length (spliced c m b)))
    unfolding next bounded
    bounded_is q h = ap (λ (z : Out (List ℕ)). next z (bounded room)) made_plan.0 ∙ ap (λ (z : Bool). pick z (out (spliced c m b)) (stop 22 (length (spliced c m b)))) h

    pub answer_long : 65536 < n → Rejected 22 n ≡ writing_of (next o (bounded room))
    unfolding writing_of
    answer_long h = sym (ap writing_of (bounded_is false (rw (lt-leb (length (spliced c m b)) limit (omega (arith, result_length))))) ∙ ap (Rejected 22) result_length)

    pub answer_room : n ≤ 65536 → room < n → Rejected 22 n ≡ writing_of (next o (bounded room))
    unfolding writing_of
    answer_room h k = sym (ap writing_of (bounded_is false (rw (le-leb (length (spliced c m b)) limit (omega (arith, result_length)), lt-leb (length (spliced c m b)) room (omega (arith, result_length))))) ∙ ap (Rejected 22) result_length)

    fits_all : n ≤ 65536 → n ≤ room → next o (bounded room) ≡ out (spliced c m b)
    fits_all h k = bounded_is true (rw (le-leb (length (spliced c m b)) limit (omega (arith, result_length)), le-leb (length (spliced c m b)) room (omega (arith, result_length))))

    pub answer_made : n ≤ 65536 → n ≤ room → Written n ≡ writing_of (next o (bounded room))
    unfolding writing_of
    answer_made h k = sym (ap writing_of (fits_all h k) ∙ ap Written result_length)

    pub output_made : n ≤ 65536 → n ≤ room → (out₀ out₁ : List ℕ) → out₁ ≡ spliced c m b ++ drop (length (spliced c m b)) out₀ → out₁ ≡ output (next o (bounded room)) out₀
    unfolding output
    output_made h k out₀ out₁ f = f ∙ sym (ap (λ (z : Out (List ℕ)). output z out₀) (fits_all h k))

    pub output_long : 65536 < n → (out₀ : List ℕ) → out₀ ≡ output (next o (bounded room)) out₀
    unfolding output
    output_long h out₀ = sym (ap (λ (z : Out (List ℕ)). output z out₀) (bounded_is false (rw (lt-leb (length (spliced c m b)) limit (omega (arith, result_length))))))

    pub output_room : n ≤ 65536 → room < n → (out₀ : List ℕ) → out₀ ≡ output (next o (bounded room)) out₀
    unfolding output
    output_room h k out₀ = sym (ap (λ (z : Out (List ℕ)). output z out₀) (bounded_is false (rw (le-leb (length (spliced c m b)) limit (omega (arith, result_length)), lt-leb (length (spliced c m b)) room (omega (arith, result_length))))))

  pub output_stop : (p : Plan) → Planned o m b p → (c k : ℕ) → p ≡ Stop c k → (out₀ : List ℕ) → out₀ ≡ output (next o (bounded room)) out₀
  unfolding next output
  output_stop p P c k e out₀ = sym (ap (λ (z : Out (List ℕ)). output (next z (bounded room)) out₀) (subst (Planned o m b) e P).0)

-- ---- a plan carried out

module _ (l n : ℕ) (p : Plan) (F : PlanFits l n p) where
  pub fits_shaped : (c : Cut) → p ≡ Make c → Shaped l c
  fits_shaped c e = (subst (PlanFits l n) e F).0

  pub fits_cuts : (c : Cut) → p ≡ Make c → Cuts l c
  fits_cuts c e = shaped_cuts l c (fits_shaped c e)

  pub fits_few : (c : Cut) → p ≡ Make c → n ≤ 65536
  fits_few c e = (subst (PlanFits l n) e F).1

  pub fits_number : (c k : ℕ) → p ≡ Stop c k → Fits w32 c
  fits_number c k e = omega (arith, (subst (PlanFits l n) e F).0)

  pub fits_place : (c k : ℕ) → p ≡ Stop c k → Fits w32 k
  fits_place c k e = omega (arith, (subst (PlanFits l n) e F).1)

module _ (m b : List ℕ) (room : ℕ) (p : Plan) where
  pub told_stop : (c k : ℕ) → p ≡ Stop c k → (o : Out (List ℕ)) → Ripe o m b p → Rejected c k ≡ writing_of (next o (bounded room))
  told_stop c k e o P = answer_stop o m b room p P.planned c k e

  pub put_stop : (c k : ℕ) → p ≡ Stop c k → (lent : List ℕ) → (o : Out (List ℕ)) → Ripe o m b p → lent ≡ output (next o (bounded room)) lent
  put_stop c k e lent o P = output_stop o m b room p P.planned c k e lent

  module _ (c : Cut) (e : p ≡ Make c) (n : ℕ) (en : n ≡ size_of c (length m) (length b)) where
    pub told_long : 65536 < n → (o : Out (List ℕ)) → Ripe o m b p → Rejected 22 n ≡ writing_of (next o (bounded room))
    told_long h o P = answer_long o m b room p P.planned c e n en h

    pub told_room : n ≤ 65536 → room < n → (o : Out (List ℕ)) → Ripe o m b p → Rejected 22 n ≡ writing_of (next o (bounded room))
    told_room h k o P = answer_room o m b room p P.planned c e n en h k

    pub told_made : n ≤ 65536 → n ≤ room → (o : Out (List ℕ)) → Ripe o m b p → Written n ≡ writing_of (next o (bounded room))
    told_made h k o P = answer_made o m b room p P.planned c e n en h k

    pub put_long : 65536 < n → (lent : List ℕ) → (o : Out (List ℕ)) → Ripe o m b p → lent ≡ output (next o (bounded room)) lent
    put_long h lent o P = output_long o m b room p P.planned c e n en h lent

    pub put_room : n ≤ 65536 → room < n → (lent : List ℕ) → (o : Out (List ℕ)) → Ripe o m b p → lent ≡ output (next o (bounded room)) lent
    put_room h k lent o P = output_room o m b room p P.planned c e n en h k lent

    pub put_made : n ≤ 65536 → n ≤ room → (lent last : List ℕ) → last ≡ spliced c m b ++ drop (length (spliced c m b)) lent → (o : Out (List ℕ)) → Ripe o m b p → last ≡ output (next o (bounded room)) lent
    put_made h k lent last f o P = output_made o m b room p P.planned c e n en h k lent last f

    pub put_asks : (k : ℕ) → n ≤ k → size_of c (length m) (length b) ≤ k
    put_asks k h = omega arith

-- ---- the calls

planned_fits : (o : Out (List ℕ)) (m b : List ℕ) (p : Plan) → Planned o m b p → PlanFits (length m) (length b) p
planned_fits o m b (Make c) P = (P.1, P.2)
planned_fits o m b (Stop c k) P = (P.1, P.2)

module _ (T : List ℕ) (top : ℕ) (m : List ℕ) (n : ℕ) (b : List ℕ) (p : Plan) (P : (true ≡ false → length b ≤ 65536) → Ripe (changed T top n (content_of true b) (rules T top m)) m b p) where
  set_planned : Ripe (changed T top n (content_of true b) (rules T top m)) m b p
  set_planned = P (λ e. absurd (true≢false e))

  pub set_fits : PlanFits (length m) (length b) p
  set_fits = planned_fits _ m b p set_planned.planned

  pub set_told : (room : ℕ) (r : Writing) → ((o : Out (List ℕ)) → Ripe o m b p → r ≡ writing_of (next o (bounded room))) → r ≡ writing_of (set T top m n b room)
  unfolding set changing content_of
  set_told room r F = F _ set_planned

  pub set_put : (room : ℕ) (lent last : List ℕ) → ((o : Out (List ℕ)) → Ripe o m b p → last ≡ output (next o (bounded room)) lent) → last ≡ output (set T top m n b room) lent
  unfolding set changing content_of
  set_put room lent last F = F _ set_planned

module _ (T : List ℕ) (top : ℕ) (m : List ℕ) (n : ℕ) (p : Plan) (P : (false ≡ false → 0 ≤ 65536) → Ripe (changed T top n (content_of false []) (rules T top m)) m [] p) where
  remove_planned : Ripe (changed T top n (content_of false []) (rules T top m)) m [] p
  remove_planned = P (λ e. omega arith)

  pub remove_fits : PlanFits (length m) 0 p
  remove_fits = planned_fits _ m [] p remove_planned.planned

  pub remove_told : (room : ℕ) (r : Writing) → ((o : Out (List ℕ)) → Ripe o m [] p → r ≡ writing_of (next o (bounded room))) → r ≡ writing_of (remove T top m n room)
  unfolding remove changing content_of
  remove_told room r F = F _ remove_planned

  pub remove_put : (room : ℕ) (lent last : List ℕ) → ((o : Out (List ℕ)) → Ripe o m [] p → last ≡ output (next o (bounded room)) lent) → last ≡ output (remove T top m n room) lent
  unfolding remove changing content_of
  remove_put room lent last F = F _ remove_planned
