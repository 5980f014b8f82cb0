-- The small steps of the walk, one case for each way out of the code. Assumes nothing.
--
--   opening_..     a slice up to its data
--   next_..        what comes next among a slice's optionals
--   recall_.., over_.., first_..    a refusal's place, bytes left over, the first known type
use mathlib.Core.Path.{◌≡◌, refl, sym, ap, ◌∙◌}
use mathlib.Core.Bool.{Bool, true, false, ◌&&◌, not}
use mathlib.Core.Option.{none, some}
use mathlib.Core.List.{List, [], ◌∷◌}
use Prim.Native.Nat.{ℕ, ◌+◌, ◌-◌, ◌^◌, ◌≤◌, ◌<◌}
use native.Mathlib.Omega.{arith}
use lib.ListN.{length, take, drop, length-drop}
use lib.Dec.{eqb}
use borrow.Author.Tests.{eq-eqb, ne_eqb}
use mir.Syntax.{w64}
use mir.Val.{Fits}
use Rattle.encoding.specs.Result.{Res, ok, bad, shift, at_mark}
use Rattle.encoding.proofs.ResultLaws.{held_took, held_refused}
use Rattle.encoding.specs.Number.{declared}
use Rattle.encoding.proofs.NumberLaws.{held_declared}
use Rattle.encoding.specs.Table.{Member}
use Rattle.encoding.specs.Table
use Rattle.encoding.specs.Optional.{next_optional}
use Rattle.encoding.proofs.WeightLaws.{declared_weight}
use Rattle.encoding.specs.Slice
use Rattle.wire.specs.At.{at_byte}
use Rattle.std.specs.Prelude.{Result, Ok, Err, Some, None}
use Rattle.std.specs.Prelude.{Option as Answer}
use Rattle.wire.specs.declared.Refusal.{Refusal}
use Rattle.wire.specs.Steps.{step_of, refused, behind, later, LaterFits}
use Rattle.wire.specs.StepLaws.{rest_later}
use Rattle.wire.proofs.Sums.{later_fits}
use Rattle.table.specs.Tags.{optional_from}
use Rattle.level.specs.declared.Optional.{Optional}
use Rattle.level.specs.declared.Optional.TheVariants.{Known as KnownOptional}
use Rattle.level.specs.Answers.{Headed, optional_answer}
use Rattle.heads.specs.declared.Stage.{Stage}
use Rattle.heads.specs.declared.Stage.TheVariants.{First, Seeking, Following}
use Rattle.heads.specs.declared.Heading.{Heading}
use Rattle.heads.specs.declared.Heading.TheVariants.{Skip as SkipHeading, Known as KnownHeading}
use Rattle.slices.specs.declared.Opening.TheVariants.{Skip, Known}
use Rattle.heads.specs.Stages.{stage_of, head_answer}
use Rattle.slices.specs.Openings.{skip_opening, part_opening, head_opening, headed, opening, turn_answer, turn_by, turn_of, first_or}
use Rattle.slices.specs.OpeningLaws.{skip_head_within, known_head_within}
use Rattle.slices.specs.declared.Walk.TheVariants.{Stop}
use Rattle.slices.specs.Left.{recall_to, stop_at}

-- ---- a slice up to its data

-- the end of declared bytes that begin after n bytes
module _ (s : List ℕ) (n : ℕ) (l : n ≤ length s) (step : Result ℕ Refusal) (f : step ≡ step_of (declared 4 4 (take (length s - n) (drop n s)))) where
  pub declared_fits : length s < 2 ^ 64 → LaterFits n step
  declared_fits = later_fits (declared 4 4) (held_declared 4 4) s n step f l

  module _ (r : Result ℕ Refusal) (g : r ≡ later n step) where
    ends_as : r ≡ step_of (shift n (declared 4 4 (drop n s)))
    ends_as = g ∙ rest_later (declared 4 4) s n step f

    pub declared_ended : (e : ℕ) → r ≡ Ok e → (d : List ℕ) × (k : ℕ) × (declared 4 4 (drop n s) ≡ ok d k) × (e ≡ n + k)
    unfolding step_of shift
    declared_ended e q = go (declared 4 4 (drop n s)) refl (sym q ∙ ends_as)
      where
        go : (y : Res (List ℕ)) → declared 4 4 (drop n s) ≡ y → Ok e ≡ step_of (shift n y) → (d : List ℕ) × (k : ℕ) × (declared 4 4 (drop n s) ≡ ok d k) × (e ≡ n + k)
        go (ok d k) i h = (d, k, i, cc)
        go (bad c p) i h = let z : ◌≡◌ {A = ℕ} 0 1 = cc in absurd (omega arith)

    pub declared_unended : (x : Refusal) → r ≡ Err x → (c : ℕ) × (p : ℕ) × (declared 4 4 (drop n s) ≡ bad c p) × (x ≡ record { number = c; place = n + p })
    unfolding step_of shift
    declared_unended x q = go (declared 4 4 (drop n s)) refl (sym q ∙ ends_as)
      where
        go : (y : Res (List ℕ)) → declared 4 4 (drop n s) ≡ y → Err x ≡ step_of (shift n y) → (c : ℕ) × (p : ℕ) × (declared 4 4 (drop n s) ≡ bad c p) × (x ≡ record { number = c; place = n + p })
        go (ok d k) i h = let z : ◌≡◌ {A = ℕ} 0 1 = cc in absurd (omega arith)
        go (bad c p) i h = (c, p, i, cc)

    pub size_fits : (e : ℕ) → r ≡ Ok e → length s < 2 ^ 64 → Fits w64 (n + 4)
    size_fits e q b =
        let E = declared_ended e q in
        omega (arith, held_took (declared 4 4) (held_declared 4 4) (drop n s) E.2, length-drop n s, declared_weight 4 4 (drop n s) E.2)

module _ (T : List ℕ) (top : ℕ) (st : Slice.Stage) (s : List ℕ) (r : Result Heading Refusal) (e : r ≡ head_answer T top st (headed T top st s)) where
  pub opening_wrong : (x : Refusal) → r ≡ Err x → Err x ≡ opening T top st s
  unfolding opening head_opening
  opening_wrong x q = rw (sym e ∙ q)

  module _ (h : Heading) (g : r ≡ Ok h) where
    pub opening_compact : (t n : ℕ) (o z : Bool) → h ≡ KnownHeading t o z n → z ≡ false → Ok (Known t o z n (length s)) ≡ opening T top st s
    unfolding opening head_opening
    opening_compact t n o z q f = rw (sym e ∙ g, q, f)

    pub skip_within : (n : ℕ) → h ≡ SkipHeading n → n ≤ length s
    skip_within n q = skip_head_within T top st s e (g ∙ ap Ok q)

    pub known_within : (t n : ℕ) (o z : Bool) → h ≡ KnownHeading t o z n → n ≤ length s
    known_within t n o z q = known_head_within T top st s e (g ∙ ap Ok q)

    module _ (n : ℕ) (step : Result ℕ Refusal) (f : step ≡ step_of (declared 4 4 (take (length s - n) (drop n s)))) (i : Result ℕ Refusal) (ei : i ≡ later n step) where
      module _ (q : h ≡ SkipHeading n) where
        pub opening_skip : (b : ℕ) → i ≡ Ok b → Ok (Skip b) ≡ opening T top st s
        unfolding opening head_opening skip_opening
        opening_skip b w = let E = declared_ended s n (skip_within n q) step f i ei b w in simp (sym e ∙ g, q, E.2, E.3)

        pub opening_unskipped : (x : Refusal) → i ≡ Err x → Err x ≡ opening T top st s
        unfolding opening head_opening skip_opening
        opening_unskipped x w = let E = declared_unended s n (skip_within n q) step f i ei x w in simp (sym e ∙ g, q, E.2, E.3)

      module _ (t : ℕ) (o z : Bool) (q : h ≡ KnownHeading t o z n) (j : z ≡ true) where
        pub opening_sliced : (b : ℕ) → i ≡ Ok b → Ok (Known t o z (n + 4) b) ≡ opening T top st s
        unfolding opening head_opening part_opening
        opening_sliced b w = let E = declared_ended s n (known_within t n o z q) step f i ei b w in simp (sym e ∙ g, q, j, E.2, E.3)

        pub opening_unsized : (x : Refusal) → i ≡ Err x → Err x ≡ opening T top st s
        unfolding opening head_opening part_opening
        opening_unsized x w = let E = declared_unended s n (known_within t n o z q) step f i ei x w in simp (sym e ∙ g, q, j, E.2, E.3)

-- ---- the next optional

mark_here : (s : List ℕ) → Table.at s 1 0 ≡ 255 → at_mark s ≡ some 1
unfolding at_mark
mark_here [] e = let z = at_byte [] 0 in absurd (omega arith)
mark_here (x ∷ s) e = rw (eq-eqb x 255 (sym (at_byte (x ∷ s) 0) ∙ e))

mark_none : (s : List ℕ) → (Table.at s 1 0 ≡ 255 → ⊥) → at_mark s ≡ none
unfolding at_mark
mark_none [] e = refl
mark_none (x ∷ s) e = rw (ne_eqb x 255 (λ z. e (at_byte (x ∷ s) 0 ∙ z)))

module _ (ms : List Member) (least : ℕ) (s : List ℕ) (b : ℕ) (e : b ≡ Table.at s 1 0) where
  module _ (q : b ≡ 255) where
    pub next_early : least ≡ 0 → refused 14 0 ≡ turn_of ms least s
    unfolding turn_of turn_by
    next_early z = rw (mark_here s (sym e ∙ q), eq-eqb least 0 z)

    pub next_end : (least ≡ 0 → ⊥) → Ok None ≡ turn_of ms least s
    unfolding turn_of turn_by
    next_end z = rw (mark_here s (sym e ∙ q), ne_eqb least 0 z)

  module _ (q : b ≡ 255 → ⊥) (r : Result Optional Refusal) (f : r ≡ optional_answer ms (next_optional ms least s)) where
    unmarked : at_mark s ≡ none
    unmarked = mark_none s (λ z. q (e ∙ z))

    pub next_some : (o : Optional) → r ≡ Ok o → Ok (Some o) ≡ turn_of ms least s
    unfolding turn_of turn_by turn_answer
    next_some o w = rw (unmarked, sym f ∙ w)

    pub next_wrong : (x : Refusal) → r ≡ Err x → Err x ≡ turn_of ms least s
    unfolding turn_of turn_by turn_answer
    next_wrong x w = rw (unmarked, sym f ∙ w)

-- an optional that was read without a call
pub next_simple : (T : List ℕ) (stop row least : ℕ) (s : List ℕ) (b : ℕ) → b ≡ Table.at s 1 0 → (b ≡ 255 → ⊥) → (k h n : ℕ) → Headed T stop row least s k h n → (n ≡ 0 → ⊥)
    → Ok (Some (KnownOptional row k h n)) ≡ turn_of (optional_from T stop row) least s
next_simple T stop row least s b e q k h n B z = next_some (optional_from T stop row) least s b e q (Ok (KnownOptional row k h n)) (B.known (omega (arith, z))) (KnownOptional row k h n) refl

-- ---- small answers

module _ (flags n : ℕ) (x : Refusal) where
  pub recall_flags : x.number ≡ 14 → Stop 14 flags ≡ stop_at flags n x
  unfolding stop_at recall_to
  recall_flags q = rw q

  pub recall_place : (x.number ≡ 14 → ⊥) → Stop x.number (n + x.place) ≡ stop_at flags n x
  unfolding stop_at recall_to
  recall_place q = rw (ne_eqb x.number 14 q)

pub over_sliced : (z : Bool) (at end : ℕ) → z ≡ true → not (eqb at end) ≡ z && not (eqb at end)
over_sliced z at end q = rw q

module _ (stage : Stage) (fst t : ℕ) where
  pub first_here : stage ≡ First → t ≡ first_or (stage_of stage) fst t
  unfolding first_or stage_of
  first_here q = rw q

  pub first_found : stage ≡ Seeking → t ≡ first_or (stage_of stage) fst t
  unfolding first_or stage_of
  first_found q = rw q

  pub first_kept : (z : Bool) (b : ℕ) → stage ≡ Following z b → fst ≡ first_or (stage_of stage) fst t
  unfolding first_or stage_of
  first_kept z b q = rw q
