-- Laws of `Judged`: the verdict on the rows, row by row and owner by owner. Assumes nothing.
--
--   gives_all, gives_then           what judging gives where the parts are judged, and by two steps
--   judged_up                       what is judged from another state that reaches the same
--   verdict_right, verdict_wrong    the verdict where the next row is right, and where it is wrong
--   verdict_due                     a required member is missing at the end
--   leave_row, leave_end            the owner is left: the next row is none of its, or there is no row left, and nothing is due
use Rattle.std.proofs.Math.Path.{◌≡◌, refl, sym, ap}
use Rattle.std.proofs.Common.{◌∙◌, add-one, lt-ltb, le-ltb}
use Rattle.std.specs.Prelude.{Bool}
use Rattle.std.proofs.Math.Bool.{true, false}
use mathlib.Core.List.{List, [], ◌∷◌, map}
use Prim.Native.Nat.{ℕ, zero, suc, ◌+◌, ◌-◌, ◌≤◌, ◌<◌}
use native.Mathlib.Omega.{arith}
use Rattle.encoding.specs.Result.{pick}
use Rattle.encoding.specs.Table.{range, Member, base}
use Rattle.encoding.specs.Message.{Row}
use Rattle.encoding.specs.Old.{any_of}
use Rattle.encoding.specs.Write.{Out, out, stop, next, State, Reached, reach, still_due, Given, given, part_of, judge, prepend, judge_all, row_at}
use Rattle.pieces.specs.Cursors.{Cursor, due_from, due_at, state_of, Gone}
use Rattle.pieces.specs.CursorsLaws.{reach_end, reach_above, still_here, still_none, still_above}
use Rattle.pieces.specs.Judged.{state_from, judged_row, verdict_of, verdict_from, verdict_above, Accepted, Gives}

-- ---- parts judged before

module _ {A : Type 0} where
  pub gives_all : (v w : Out A) → Gives false v w → v ≡ w
  gives_all v w g = g (λ e. let z : ◌≡◌ {A = ℕ} 0 1 = cc in absurd (omega arith))

  pub gives_then : (judged : Bool) (u v w : Out A) → Gives judged u v → Gives judged v w → Gives judged u w
  gives_then judged u v w f g h = let e = f h in e ∙ g (λ q. rw e at (h q))

-- ---- one row more

verdict_more : (g : Given) (w : Out (List Given)) → verdict_of (next w (prepend g)) ≡ verdict_of w
unfolding verdict_of next prepend
verdict_more g (out l) = refl
verdict_more g (stop n p) = refl

-- it goes by what is judged next
verdict_next : (T : List ℕ) (old : Bool) (buffer : List ℕ) (i : ℕ) (l : List Row) (w : Out Reached) (f : Reached → Given)
    → verdict_of (next w (λ (z : Reached). next (judge_all T old buffer z.state (suc i) l) (prepend (f z)))) ≡ verdict_of (next (state_from w) (λ (s : State). judge_all T old buffer s (suc i) l))
unfolding verdict_of next state_from
verdict_next T old buffer i l (stop n p) f = refl
verdict_next T old buffer i l (out z) f = verdict_more (f z) (judge_all T old buffer z.state (suc i) l)

-- the first is accepted where all are
first_accepted : (w : Out State) (f : State → Out (List Given)) → Accepted (verdict_of (next w f)) → Accepted w
unfolding verdict_of next
first_accepted (out z) f h = tt
first_accepted (stop n p) f h = h

module _ (T : List ℕ) (old : Bool) (rows buffer : List ℕ) where
  pub judged_up : (s z : State) (i k : ℕ) → reach T (row_at rows i).member s ≡ reach T (row_at rows i).member z
      → judge_all T old buffer s i (map (row_at rows) (range i (suc k))) ≡ judge_all T old buffer z i (map (row_at rows) (range i (suc k)))
  unfolding judge_all range
  judged_up s z i k e = rw e

  module _ (count : ℕ) (s : State) (i : ℕ) where
    -- the rows from i on, of which there is one
    row_first : i < count → verdict_from T old rows buffer count s i ≡ verdict_of (judge_all T old buffer s i (map (row_at rows) (range i (suc (count - (i + 1))))))
    unfolding verdict_from
    row_first h = let n : count - i ≡ suc (count - (i + 1)) = omega arith in rw n

    row_judged : i < count
        → verdict_from T old rows buffer count s i ≡ verdict_of (next (judged_row T old rows buffer s i) (λ (z : State). judge_all T old buffer z (i + 1) (map (row_at rows) (range (i + 1) (count - (i + 1))))))
    unfolding judged_row judge_all range
    row_judged h =
        row_first h
        ∙ verdict_next T old buffer i (map (row_at rows) (range (suc i) (count - (i + 1)))) (judge old buffer i (row_at rows i) (reach T (row_at rows i).member s)) (λ (z : Reached). given z (part_of buffer (row_at rows i)))
        ∙ rw (add-one i)

    pub verdict_right : i < count → (judged : Bool) (z : State) → Gives judged (judged_row T old rows buffer s i) (out z)
        → Gives judged (verdict_from T old rows buffer count s i) (verdict_from T old rows buffer count z (i + 1))
    unfolding verdict_from next
    verdict_right h judged z g a = row_judged h ∙ rw (g (λ q. first_accepted (judged_row T old rows buffer s i) _ (rw (row_judged h) at (a q))))

    pub verdict_wrong : i < count → (n : ℕ) → judged_row T old rows buffer s i ≡ stop n i → verdict_from T old rows buffer count s i ≡ stop n i
    unfolding verdict_of next
    verdict_wrong h n e = row_judged h ∙ rw e

    -- no row is left
    row_last : count ≤ i → (t : Bool) → still_due T s ≡ t → verdict_from T old rows buffer count s i ≡ pick t (stop 20 i) (out tt)
    unfolding verdict_from verdict_of judge_all range
    row_last h t e = let n : count - i ≡ 0 = omega arith in rw (n, e) (go t)
      where
        go : (t : Bool) → verdict_of (pick t (stop 20 i) (out [])) ≡ pick t (stop 20 i) (out tt)
        go true = refl
        go false = refl

  -- ---- an owner is left

  none_of : (l : List Member) → any_of l ≡ false → l ≡ []
  unfolding any_of
  none_of [] e = refl
  none_of (d ∷ ds) e = let z : ◌≡◌ {A = ℕ} 0 1 = cc in absurd (omega arith)

  module _ (count : ℕ) (c : Cursor) (i : ℕ) where
    pub verdict_due : count ≤ i → any_of (due_from T c.owner c.passed) ≡ true → verdict_from T old rows buffer count (state_of T c) i ≡ stop 20 i
    unfolding any_of
    verdict_due h e = go (due_from T c.owner c.passed) refl e
      where
        go : (l : List Member) → due_from T c.owner c.passed ≡ l → any_of l ≡ true → verdict_from T old rows buffer count (state_of T c) i ≡ stop 20 i
        go [] f q = let z : ◌≡◌ {A = ℕ} 0 1 = cc in absurd (omega arith)
        go (d ∷ ds) f q = row_last count (state_of T c) i h true (still_here T c d ds f)

    pub leave_row : i < count → Gone T c (row_at rows i).member → verdict_from T old rows buffer count (state_of T c) i ≡ verdict_above T old rows buffer count (base T c.owner) i
    unfolding verdict_above judged_row state_from judge
    leave_row h g = go (base T c.owner) refl
      where
        go : (up : ℕ) → base T c.owner ≡ up → verdict_from T old rows buffer count (state_of T c) i ≡ verdict_above T old rows buffer count up i
        go zero e =
            let n = reach_end T (row_at rows i).member c g.due g.may e in
            verdict_wrong count (state_of T c) i h 20 (rw n) ∙ rw (lt-ltb i count h)
        go (suc t) e =
            row_first count (state_of T c) i h
            ∙ ap verdict_of (judged_up (state_of T c) (state_of T (due_at t 0)) i (count - (i + 1)) (reach_above T (row_at rows i).member c t g.due g.may e))
            ∙ sym (row_first count (state_of T (due_at t 0)) i h)

    pub leave_end : count ≤ i → any_of (due_from T c.owner c.passed) ≡ false
        → verdict_from T old rows buffer count (state_of T c) i ≡ verdict_above T old rows buffer count (base T c.owner) i
    unfolding verdict_above
    leave_end h f = go (base T c.owner) refl
      where
        none_due : due_from T c.owner c.passed ≡ []
        none_due = none_of (due_from T c.owner c.passed) f

        go : (up : ℕ) → base T c.owner ≡ up → verdict_from T old rows buffer count (state_of T c) i ≡ verdict_above T old rows buffer count up i
        go zero e = row_last count (state_of T c) i h false (still_none T c none_due e) ∙ rw (le-ltb i count h)
        go (suc t) e = row_last count (state_of T c) i h (still_due T (state_of T (due_at t 0))) (still_above T c t none_due e) ∙ sym (row_last count (state_of T (due_at t 0)) i h (still_due T (state_of T (due_at t 0))) refl)
