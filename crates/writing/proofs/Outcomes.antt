-- The writer's outcome, and the answer made of it. Assumes nothing.
--
--   anew_outcome, anew_output                         the outcome and the output of slices passed as new parts
--   refused_outcome, _fits, _output                   if a check before the rows refuses: the outcome, its numbers fit 32 bits, the output
--   rows_outcome, _fits, _output                      the same if none refuses
--   made_fits, number_fits, place_fits                each number of an outcome fits; fits_made, fits_stopped, fits_needed: outcomes of these numbers
--   told_made, told_stopped                           the answer of an outcome
--   fit_made, fit_other, fit_over, fit_room, fit_fits the outcome for a room
--   answer_told, answer_fitted                        the answer is document 01's
use mathlib.Core.Path.{◌≡◌, refl, sym, ap, ◌∙◌, subst}
use mathlib.Core.Bool.{Bool, true, false, ◌&&◌}
use mathlib.Core.List.{List}
use Prim.Native.Nat.{ℕ, zero, suc, ◌-◌, ◌≤◌, ◌<◌}
use native.Mathlib.Omega.{arith}
use lib.ListN.{length, take, drop}
use lib.Dec.{eqb, leb}
use borrow.Author.Tests.{le-leb, lt-leb, eq-eqb, ne_eqb}
use Rattle.encoding.specs.Result.{pick}
use Rattle.encoding.specs.Table.{Fault, fine, fault, faults, rule_number, chain}
use Rattle.encoding.specs.Message.{limit}
use Rattle.encoding.proofs.MessageLaws.{length_encapsulate}
use Rattle.encoding.specs.declared.Writing.{Writing}
use Rattle.encoding.specs.declared.Writing.TheVariants.{Written, Rejected}
use Rattle.encoding.specs.Write.{Out, out, stop, next, begin, above, judge_all, encoding_of, bounded, table_rules, early, stopped_first, rows_given, message, writing, output, writing_of}
use Rattle.wire.specs.StepLaws.{rest_is}
use Rattle.prepare.specs.Preparing.{before, checked, checks}
use Rattle.prepare.specs.PreparingLaws.{ready_table, ready_early}
use Rattle.prepare.specs.declared.Prepared.{Prepared}
use Rattle.prepare.specs.declared.Prepared.TheVariants.{Ready, Refused}
use Rattle.std.specs.Prelude.{Result, Ok, Err}
use Rattle.wire.specs.declared.Refusal.{Refusal}
use Rattle.wire.specs.Steps as step
use Rattle.writer.specs.Messages.{written, outcome_of}
use Rattle.laws.proofs.PlanLaws.{out≢stop}
use Rattle.laws.proofs.MessageWritten.{message_ok, too_long_lem}
use Rattle.laws.proofs.WriteSmall.{Narrow, writing_narrow}
use Rattle.writing.specs.Tell.{Fits, tells, fitted}

-- ---- slices passed as new parts

-- a slice from 0 on, as the check names it
abbrev anew : List ℕ → List ℕ
anew s = take (length s - 0) (drop 0 s)

module _ (T : List ℕ) (top format count : ℕ) (rows buffer : List ℕ) (n : ℕ) where
  anew_same : writing (anew T) top format count (anew rows) (anew buffer) n ≡ writing T top format count rows buffer n
  anew_same = rw (rest_is T 0, rest_is rows 0, rest_is buffer 0)

  pub anew_outcome : (r : Result ℕ Refusal) → r ≡ outcome_of (writing (anew T) top format count (anew rows) (anew buffer) n) → r ≡ outcome_of (writing T top format count rows buffer n)
  anew_outcome r e = e ∙ ap outcome_of anew_same

  pub anew_output : (lent last : List ℕ) → last ≡ output (writing (anew T) top format count (anew rows) (anew buffer) n) lent → last ≡ output (writing T top format count rows buffer n) lent
  anew_output lent last e = e ∙ ap (λ (w : Out (List ℕ)). output w lent) anew_same

-- ---- the outcome

-- one judgement after another, then a last one
next_then : {A B C : Type 0} (o : Out A) (f : A → Out B) (g : B → Out C) (h : A → Out C) → ((a : A) → next (f a) g ≡ h a) → next (next o f) g ≡ next o h
unfolding next
next_then (out a) f g h e = e a
next_then (stop n p) f g h e = refl

module _ (T : List ℕ) (top format count : ℕ) (rows buffer : List ℕ) (room : ℕ) where
  -- what is written
  abbrev result : Out (List ℕ)
  result = writing T top format count rows buffer room

  writing_refused : (c p : ℕ) → checks T top format (length buffer) ≡ Refused c p → result ≡ stop c p
  unfolding checks checked before early writing message table_rules stopped_first next
  writing_refused c p h = go (faults T) refl (before T top format (length buffer)) refl h
    where
      go : (f : Fault) → faults T ≡ f → (n : ℕ) → before T top format (length buffer) ≡ n → checked f n ≡ Refused c p → result ≡ stop c p
      go (fault d q) e n i h = let ec : rule_number d ≡ c = cc in let ep : q ≡ p = cc in rw (e, ec, ep)
      go fine e zero i h = let z : ◌≡◌ {A = ℕ} 0 1 = cc in absurd (omega arith)
      go fine e (suc n) i h = let ec : suc n ≡ c = cc in let ep : 0 ≡ p = cc in rw (e, i, ec, ep)

  writing_rows : faults T ≡ fine → before T top format (length buffer) ≡ 0 → result ≡ written T top (eqb format 2) count rows buffer room
  unfolding before early writing message encoding_of table_rules stopped_first next written
  writing_rows f e =
      rw (f, e)
      (next_then (rows_given count rows) _ (bounded room) _
      (λ rs. next_then (judge_all T (eqb format 2) buffer (begin T top (above (chain T top))) 0 rs) _ (bounded room) _ (λ gs. refl)))

-- an outcome has the numbers of what is written
fits_outcome : (w : Out (List ℕ)) → Narrow w → Fits (outcome_of w)
unfolding outcome_of Fits
fits_outcome (out m) h = h
fits_outcome (stop n p) h = h

stopped_outcome : (w : Out (List ℕ)) (n p : ℕ) → w ≡ stop n p → step.refused n p ≡ outcome_of w
unfolding outcome_of
stopped_outcome w n p e = sym (ap outcome_of e)

stopped_output : (w : Out (List ℕ)) (n p : ℕ) → w ≡ stop n p → (lent : List ℕ) → lent ≡ output w lent
unfolding output
stopped_output w n p e lent = sym (ap (λ (x : Out (List ℕ)). output x lent) e)

module _ (T : List ℕ) (top format count : ℕ) (rows buffer lent : List ℕ) where
  abbrev answered : Out (List ℕ)
  answered = writing T top format count rows buffer (length lent)

  outcome_fits : count < 4294967296 → (r : Result ℕ Refusal) → r ≡ outcome_of answered → Fits r
  outcome_fits few r e = subst Fits (sym e) (fits_outcome answered (writing_narrow T top format count rows buffer (length lent) few))

  module _ (r : Prepared) (er : r ≡ checks T top format (length buffer)) where
    module _ (c p : ℕ) (q : r ≡ Refused c p) where
      refused : answered ≡ stop c p
      refused = writing_refused T top format count rows buffer (length lent) c p (sym er ∙ q)

      pub refused_outcome : step.refused c p ≡ outcome_of answered
      refused_outcome = stopped_outcome answered c p refused

      pub refused_fits : count < 4294967296 → Fits (step.refused c p)
      refused_fits few = outcome_fits few (step.refused c p) refused_outcome

      pub refused_output : lent ≡ output answered lent
      refused_output = stopped_output answered c p refused lent

    module _ (q : r ≡ Ready) where
      rows_answered : written T top (eqb format 2) count rows buffer (length lent) ≡ answered
      rows_answered =
          sym (writing_rows T top format count rows buffer (length lent) (ready_table T top format (length buffer) r er q) (ready_early T top format (length buffer) r er q))

      pub rows_outcome : (o : Result ℕ Refusal) → o ≡ outcome_of (written T top (eqb format 2) count rows buffer (length lent)) → o ≡ outcome_of answered
      rows_outcome o e = e ∙ ap outcome_of rows_answered

      pub rows_fits : (o : Result ℕ Refusal) → o ≡ outcome_of (written T top (eqb format 2) count rows buffer (length lent)) → count < 4294967296 → Fits o
      rows_fits o e few = outcome_fits few o (rows_outcome o e)

      pub rows_output : (last : List ℕ) → last ≡ output (written T top (eqb format 2) count rows buffer (length lent)) lent → last ≡ output answered lent
      rows_output last e = e ∙ ap (λ (x : Out (List ℕ)). output x lent) rows_answered

-- ---- the answer

module _ (o : Result ℕ Refusal) (F : Fits o) where
  module _ (n : ℕ) (q : o ≡ Ok n) where
    pub made_fits : n < 4294967296
    unfolding Fits
    made_fits = subst Fits q F

    pub fits_made : Fits (Ok n)
    fits_made = subst Fits q F

    pub told_made : Written n ≡ tells o
    unfolding tells
    told_made = sym (ap tells q)

    pub fit_made : (room : ℕ) → Ok n ≡ fitted room o
    unfolding fitted
    fit_made room = sym (ap (fitted room) q)

  module _ (x : Refusal) (q : o ≡ Err x) where
    pub number_fits : x.number < 4294967296
    unfolding Fits
    number_fits = (subst Fits q F).0

    pub place_fits : x.place < 4294967296
    unfolding Fits
    place_fits = (subst Fits q F).1

    pub fits_stopped : Fits (Err x)
    fits_stopped = subst Fits q F

    pub fits_needed : Fits (Ok x.place)
    unfolding Fits
    fits_needed = place_fits

    pub told_stopped : Rejected x.number x.place ≡ tells o
    unfolding tells
    told_stopped = sym (ap tells q)

    module _ (room : ℕ) where
      pub fit_other : (x.number ≡ 22 → ⊥) → Err x ≡ fitted room o
      unfolding fitted
      fit_other h = rw (q, fitted, ne_eqb x.number 22 h)

      module _ (h : x.number ≡ 22) where
        pub fit_over : limit < x.place → Err x ≡ fitted room o
        unfolding fitted
        fit_over l = rw (q, fitted, eq-eqb x.number 22 h, lt-leb x.place limit l)

        pub fit_room : x.place ≤ limit → room < x.place → Err x ≡ fitted room o
        unfolding fitted
        fit_room l k = rw (q, fitted, eq-eqb x.number 22 h, le-leb x.place limit l, lt-leb x.place room k)

        pub fit_fits : x.place ≤ limit → x.place ≤ room → Ok x.place ≡ fitted room o
        unfolding fitted
        fit_fits l k = rw (q, fitted, eq-eqb x.number 22 h, le-leb x.place limit l, le-leb x.place room k)

tells_outcome : (w : Out (List ℕ)) → tells (outcome_of w) ≡ writing_of w
unfolding tells outcome_of writing_of
tells_outcome (out m) = refl
tells_outcome (stop n p) = refl

pub answer_told : (w : Out (List ℕ)) (o : Result ℕ Refusal) → o ≡ outcome_of w → (r : Writing) → r ≡ tells o → r ≡ writing_of w
answer_told w o e r q = q ∙ ap tells e ∙ tells_outcome w

module _ (T : List ℕ) (top format count : ℕ) (rows buffer : List ℕ) (l room : ℕ) (none : l < 6) where
  -- an output of fewer bytes than an encapsulation holds no message
  fitted_writing : fitted room (outcome_of (writing T top format count rows buffer l)) ≡ outcome_of (writing T top format count rows buffer room)
  unfolding writing next bounded fitted outcome_of
  fitted_writing = go (message T top format count rows buffer) refl
    where
      long : (m : List ℕ) → message T top format count rows buffer ≡ out m → leb (length m) l ≡ false
      long m e =
          let C = message_ok T top format count rows buffer e in
          lt-leb (length m) l (omega (arith, ap length C.made ∙ length_encapsulate _ _))

      go : (o : Out (List ℕ)) → message T top format count rows buffer ≡ o → fitted room (outcome_of (next o (bounded l))) ≡ outcome_of (next o (bounded room))
      go (out m) e = rw (long m e) (cases (leb (length m) limit) (leb (length m) room) refl refl)
        where
          cases : (a b : Bool) → leb (length m) limit ≡ a → leb (length m) room ≡ b
              → fitted room (outcome_of (pick (a && false) (out m) (stop 22 (length m)))) ≡ outcome_of (pick (a && b) (out m) (stop 22 (length m)))
          cases true true p q = rw (p, q)
          cases true false p q = rw (p, q)
          cases false b p q = rw p
      go (stop n p) e = ap (λ (b : Bool). pick (b && (leb p limit && leb p room)) (Ok p) (step.refused n p)) (ne_eqb n 22 other)
        where
          other : n ≡ 22 → ⊥
          other q =
              let W = (too_long_lem T top format count rows buffer l p).0 (ap (λ (o : Out (List ℕ)). next o (bounded l)) e ∙ ap (λ (k : ℕ). stop k p) q) in
              out≢stop W.is_made e

pub answer_fitted : (T : List ℕ) (top format count : ℕ) (rows buffer lent : List ℕ) → length lent ≡ 1 → (o : Result ℕ Refusal) → o ≡ outcome_of (writing T top format count rows buffer (length lent))
    → (room : ℕ) (f : Result ℕ Refusal) → f ≡ fitted room o → (r : Writing) → r ≡ tells f → r ≡ writing_of (writing T top format count rows buffer room)
answer_fitted T top format count rows buffer lent l o eo room f ef r er =
    answer_told (writing T top format count rows buffer room) f (ef ∙ ap (fitted room) eo ∙ fitted_writing T top format count rows buffer (length lent) room (omega arith)) r er
