-- The answer, and the output after it. Assumes nothing.
--
--   answer_few                   too few row bytes: a refusal, and the output stays
--   answer_wrong                 a row is wrong: the same
--   answer_over, answer_room     22: the message is too long, or longer than the output
--   answer_made                  a message that is put is at the output's start
use mathlib.Core.Path.{◌≡◌, refl, sym, ap, ◌∙◌}
use mathlib.Core.Bool.{Bool, true, false, ◌&&◌}
use mathlib.Core.List.{List, []}
use Prim.Native.Nat.{ℕ, ◌/◌, ◌≤◌, ◌<◌}
use native.Mathlib.Nat.{zero-add}
use native.Mathlib.Omega.{arith}
use lib.ListN.{length}
use lib.Dec.{leb}
use borrow.Author.Tests.{le-leb, lt-leb}
use Rattle.std.specs.Prelude.{Result, Ok, Err}
use Rattle.wire.specs.declared.Refusal.{Refusal}
use Rattle.wire.specs.Steps as step
use Rattle.encoding.specs.Result.{pick}
use Rattle.encoding.specs.Message.{encapsulate}
use Rattle.encoding.specs.Write.{Out, out, stop, bounded, output}
use Rattle.wire.specs.Put.{put}
use Rattle.wire.specs.PutLaws.{put_front}
use Rattle.pieces.specs.Cursors.{due_at, state_of}
use Rattle.pieces.specs.Judged.{verdict_from}
use Rattle.pieces.specs.JudgedLaws.{gives_all}
use Rattle.pieces.specs.Puts.{Puts}
use Rattle.writer.specs.Slices.{encoding_as}
use Rattle.writer.specs.Messages.{contents_of, AllPut, written, outcome_of}
use Rattle.writer.specs.MessagesLaws.{written_few, written_wrong, written_right}

module _ (T : List ℕ) (top : ℕ) (old : Bool) (count : ℕ) (rows buffer lent : List ℕ) where
  -- what is written
  abbrev result : Out (List ℕ)
  result = written T top old count rows buffer (length lent)

  -- the message
  abbrev message : List ℕ
  message = encapsulate (encoding_as old) (contents_of T old rows buffer count top)

  refused : (n p : ℕ) → result ≡ stop n p → (step.refused n p ≡ outcome_of result) × (lent ≡ output result lent)
  unfolding outcome_of output
  refused n p w = (sym (ap outcome_of w), sym (ap (λ (x : Out (List ℕ)). output x lent) w))

  pub answer_few : length rows / 12 < count → (step.refused 20 count ≡ outcome_of result) × (lent ≡ output result lent)
  answer_few h = refused 20 count (written_few T top old count rows buffer (length lent) h)

  module _ (enough : count ≤ length rows / 12) (r : Result ℕ Refusal) (j : AllPut T old rows buffer false count top 0 message [] [] r) where
    pub answer_wrong : (x : Refusal) → r ≡ Err x → (Err x ≡ outcome_of result) × (lent ≡ output result lent)
    answer_wrong x q = refused x.number x.place (written_wrong T top old count rows buffer (length lent) enough x.number x.place (gives_all _ _ (rw q at j)))

    module _ (n : ℕ) (q : r ≡ Ok n) where
      all_right : (verdict_from T old rows buffer count (state_of T (due_at top 0)) 0 ≡ out tt) × Puts 0 message [] [] n
      all_right = go (rw q at j)
        where
          go : AllPut T old rows buffer false count top 0 message [] [] (Ok n) → (verdict_from T old rows buffer count (state_of T (due_at top 0)) 0 ≡ out tt) × Puts 0 message [] [] n
          go a = (gives_all _ _ a.0, a.1)

      long : length message ≡ n
      long = sym (all_right.1.ends ∙ zero-add (length message))

      result_is : (a b : Bool) → leb (length message) 65536 ≡ a → leb (length message) (length lent) ≡ b → result ≡ pick (a && b) (out message) (stop 22 n)
      unfolding bounded
      result_is a b f g =
          written_right T top old count rows buffer (length lent) enough all_right.0 ∙ rw (f, g, long)

      pub answer_over : 65536 < n → (step.refused 22 n ≡ outcome_of result) × (lent ≡ output result lent)
      answer_over h = refused 22 n (result_is false (leb (length message) (length lent)) (lt-leb (length message) 65536 (omega (arith, long))) refl)

      module _ (h : n ≤ 65536) where
        pub answer_room : length lent < n → (step.refused 22 n ≡ outcome_of result) × (lent ≡ output result lent)
        answer_room l = refused 22 n (result_is true false (le-leb (length message) 65536 (omega (arith, long))) (lt-leb (length message) (length lent) (omega (arith, long))))

        module _ (l : n ≤ length lent) (end : List ℕ) where
          -- the message is at the output's start
          made : end ≡ put 0 message lent → (Ok n ≡ outcome_of result) × (end ≡ output result lent)
          unfolding outcome_of output
          made e =
              let w = result_is true true (le-leb (length message) 65536 (omega (arith, long))) (le-leb (length message) (length lent) (omega (arith, long))) in
              (sym (ap outcome_of w ∙ ap Ok long), e ∙ put_front message lent (omega (arith, long)) ∙ sym (ap (λ (x : Out (List ℕ)). output x lent) w))

          -- the rows are right as before
          pub answer_made : (again : Result ℕ Refusal) → AllPut T old rows buffer true count top 0 message lent end again → (again ≡ outcome_of result) × (end ≡ output result lent)
          answer_made (Ok k) a =
              let m = made (a.1.lays (omega (arith, long))) in
              (ap Ok (a.1.ends ∙ zero-add (length message) ∙ long) ∙ m.0, m.1)
          answer_made (Err x) a = let f : stop x.number x.place ≡ out tt = sym (a (λ _. rw all_right.0 tt)) ∙ all_right.0 in let y : ◌≡◌ {A = ℕ} 0 1 = cc in absurd (omega arith)
