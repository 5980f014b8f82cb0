-- What comes next among a slice's optionals, as the code answers it.
--
--   turn_end         the end marker, after an optional
--   turn_known, turn_skipped   the next optional
--   turn_wrong       a refusal: of the next optional, or 14 for a marker before any
--   turn_place       its place is there
--   passed_turn      what comes next, where its tag is looked up after the members that were passed
use Rattle.std.proofs.Math.Path.{◌≡◌, refl}
use Rattle.std.proofs.Common.{sym, ap, ◌∙◌, inl, inr}
use Rattle.std.specs.Prelude.{Bool, ◌⊎◌, List, ℕ, ◌≤◌, eqb, Result, Ok, Err, Some, None}
use Rattle.std.specs.Prelude.{Option as Answer}
use Rattle.std.proofs.Math.Bool.{true, false}
use Rattle.std.proofs.Math.Option.{Option, none, some}
use native.Mathlib.Omega.{arith}
use Rattle.std.proofs.Math.ListN.{length}
use Rattle.encoding.specs.Result.{bad, pick, at_mark}
use Rattle.encoding.proofs.ResultLaws.{held_refused}
use Rattle.encoding.specs.Table.{Member}
use Rattle.encoding.specs.Table
use Rattle.encoding.specs.Optional.{next_optional}
use Rattle.encoding.proofs.OptionalLaws.{held_optional}
use Rattle.table.specs.Tags.{optional_from, Passed}
use Rattle.wire.specs.declared.Refusal.{Refusal}
use Rattle.wire.specs.Steps.{refused}
use Rattle.level.specs.declared.Optional.{Optional}
use Rattle.level.specs.declared.Optional.TheVariants.{Known, Skipped}
use Rattle.level.specs.Answers.{optional_answer}
use Rattle.level.specs.AnswersLaws.{KnownRead, SkippedRead, known_read, skipped_read, wrong_read}
use Rattle.level.specs.TagLaws.{passed_answer}
use Rattle.slices.specs.Openings.{turn_answer, turn_by, turn_of}
use Rattle.slices.specs.MemberLaws.{mark_byte}

answer_some : (r : Result Optional Refusal) (o : Optional) → Ok (Some o) ≡ turn_answer r → r ≡ Ok o
unfolding turn_answer
answer_some (Ok p) o e = cc
answer_some (Err x) o e = let z : ◌≡◌ {A = ℕ} 0 1 = cc in absurd (omega arith)

answer_wrong : (r : Result Optional Refusal) (x : Refusal) → Err x ≡ turn_answer r → r ≡ Err x
unfolding turn_answer
answer_wrong (Ok p) x e = let z : ◌≡◌ {A = ℕ} 0 1 = cc in absurd (omega arith)
answer_wrong (Err y) x e = cc

answer_end : (r : Result Optional Refusal) → Ok None ≡ turn_answer r → ⊥
unfolding turn_answer
answer_end (Ok p) e = let z : ◌≡◌ {A = ℕ} 0 1 = cc in omega arith
answer_end (Err x) e = let z : ◌≡◌ {A = ℕ} 0 1 = cc in omega arith

module _ (ms : List Member) (least : ℕ) (xs : List ℕ) (r : Result (Answer Optional) Refusal) (e : r ≡ turn_of ms least xs) where
  answer : Result Optional Refusal
  answer = optional_answer ms (next_optional ms least xs)

  pub turn_end : r ≡ Ok None → (at_mark xs ≡ some 1) × (eqb least 0 ≡ false)
  unfolding turn_of turn_by answer
  turn_end q = go (at_mark xs) refl (sym q ∙ e)
    where
      by : (b : Bool) → ◌≡◌ {A = Result (Answer Optional) Refusal} (Ok None) (pick b (refused 14 0) (Ok None)) → b ≡ false
      by true h = let z : ◌≡◌ {A = ℕ} 0 1 = cc in absurd (omega arith)
      by false h = refl

      go : (o : Option ℕ) → at_mark xs ≡ o → Ok None ≡ turn_by o least (turn_answer answer) → (at_mark xs ≡ some 1) × (eqb least 0 ≡ false)
      go none f h = absurd (answer_end answer h)
      go (some j) f h = (f ∙ ap some (mark_byte xs j f).0, by (eqb least 0) h)

  module _ (o : Optional) (q : r ≡ Ok (Some o)) where
    turn_some : (at_mark xs ≡ none) × (answer ≡ Ok o)
    unfolding turn_of turn_by answer
    turn_some = go (at_mark xs) refl (sym q ∙ e)
      where
        by : (b : Bool) → ◌≡◌ {A = Result (Answer Optional) Refusal} (Ok (Some o)) (pick b (refused 14 0) (Ok None)) → ⊥
        by true h = let z : ◌≡◌ {A = ℕ} 0 1 = cc in omega arith
        by false h = let z : ◌≡◌ {A = ℕ} 0 1 = cc in omega arith

        go : (a : Option ℕ) → at_mark xs ≡ a → Ok (Some o) ≡ turn_by a least (turn_answer answer) → (at_mark xs ≡ none) × (answer ≡ Ok o)
        go none f h = (f, answer_some answer o h)
        go (some j) f h = absurd (by (eqb least 0) h)

    pub turn_known : (m k a n : ℕ) → o ≡ Known m k a n → (at_mark xs ≡ none) × KnownRead ms least xs m k a n
    unfolding answer
    turn_known m k a n w = (turn_some.0, known_read ms least xs answer refl o turn_some.1 m k a n w)

    pub turn_skipped : (k n : ℕ) → o ≡ Skipped k n → (at_mark xs ≡ none) × SkippedRead ms least xs k n
    unfolding answer
    turn_skipped k n w = (turn_some.0, skipped_read ms least xs answer refl o turn_some.1 k n w)

  -- a marker before any optional
  pub record Early (c p : ℕ) : Type 0 where
    pub mark : at_mark xs ≡ some 1
    pub unmet : eqb least 0 ≡ true
    pub number : c ≡ 14
    pub place : p ≡ 0

  pub turn_wrong : (x : Refusal) → r ≡ Err x → Early x.number x.place ⊎ ((at_mark xs ≡ none) × (next_optional ms least xs ≡ bad x.number x.place))
  unfolding turn_of turn_by answer
  turn_wrong x q = go (at_mark xs) refl (sym q ∙ e)
    where
      by : (b : Bool) → ◌≡◌ {A = Result (Answer Optional) Refusal} (Err x) (pick b (refused 14 0) (Ok None)) → (b ≡ true) × (x.number ≡ 14) × (x.place ≡ 0)
      by true h = let f : x ≡ record { number = 14; place = 0 } = cc in (refl, ap (λ (v : Refusal). v.number) f, ap (λ (v : Refusal). v.place) f)
      by false h = let z : ◌≡◌ {A = ℕ} 0 1 = cc in absurd (omega arith)

      go : (o : Option ℕ) → at_mark xs ≡ o → Err x ≡ turn_by o least (turn_answer answer) → Early x.number x.place ⊎ ((at_mark xs ≡ none) × (next_optional ms least xs ≡ bad x.number x.place))
      go none f h = inr (f, wrong_read ms least xs answer refl x (answer_wrong answer x h))
      go (some j) f h =
          let B = by (eqb least 0) h in
          inl (record { mark = f ∙ ap some (mark_byte xs j f).0; unmet = B.0; number = B.1; place = B.2 })

  pub turn_place : (x : Refusal) → r ≡ Err x → x.place ≤ length xs
  unfolding answer
  turn_place x q = go (turn_wrong x q)
    where
      go : Early x.number x.place ⊎ ((at_mark xs ≡ none) × (next_optional ms least xs ≡ bad x.number x.place)) → x.place ≤ length xs
      go (inl E) = omega (arith, E.place)
      go (inr W) = held_refused (next_optional ms least) (held_optional ms least) xs W.1

-- what comes next, where its tag is looked up after the members that were passed
pub passed_turn : (T : List ℕ) (t end from least : ℕ) → Passed T t end from least → (xs : List ℕ) → turn_of (optional_from T end from) least xs ≡ turn_of (Table.optional_members T t) least xs
unfolding turn_of
passed_turn T t end from least P xs = ap (λ (r : Result Optional Refusal). turn_by (at_mark xs) least (turn_answer r)) (passed_answer T t end from least P xs)
