-- One row, judged. Assumes nothing.
--
--   part_inside, part_outside, part_right, part_wrong   the judgement on a row's bytes
--   quick_right                                         the same, by the bytes that a value takes
--   part_fits                                           a part that is right lies in the buffer
--   row_none, row_refused, row_right                    the judgement on a row, by what is reached and by its bytes
use mathlib.Core.Path.{◌≡◌, refl, sym, ap, ◌∙◌}
use mathlib.Core.Bool.{Bool, true, false}
use mathlib.Core.Option.{Option, none, some}
use mathlib.Core.List.{List}
use Prim.Native.Nat.{ℕ, ◌+◌, ◌-◌, ◌≤◌, ◌<◌}
use native.Mathlib.Omega.{arith}
use lib.ListN.{length, take, drop, length-take, length-drop}
use lib.Dec.{eqb, leb}
use borrow.Author.Tests.{leb-true, eqb-true, ne_eqb}
use Rattle.encoding.specs.Result.{pick}
use Rattle.encoding.specs.Types.{Ty}
use Rattle.encoding.specs.Value.{value, exact}
use Rattle.encoding.specs.Old.{type_as}
use Rattle.encoding.specs.Message.{Row}
use Rattle.encoding.specs.Write.{out, stop, Reached, State, reach, part_of, judge, row_at}
use Rattle.std.specs.Prelude.{Ok}
use Rattle.wire.specs.Steps.{step_of}
use Rattle.value.proofs.CycleLaws.{exact_took}
use Rattle.pieces.specs.Judged.{part_form, state_from, judged_row, Accepted, Gives}

-- ---- a row's bytes

pub part_inside : (l p n : ℕ) (f : Bool) → f ≡ leb (p + n) l → f ≡ true → p + n ≤ l
part_inside l p n f e q = leb-true (p + n) l (sym e ∙ q)

module _ (buffer : List ℕ) (r : Row) (w : Ty) (f : Bool) (ef : f ≡ leb (r.place + r.len) (length buffer)) where
  pub part_outside : f ≡ false → 20 ≡ part_form buffer r w
  unfolding part_form
  part_outside q = rw (← ef, q)

  module _ (q : f ≡ true) (x : Bool) (ex : x ≡ exact w (take (r.place + r.len - r.place) (drop r.place buffer))) where
    exact_is : exact w (part_of buffer r) ≡ x
    unfolding part_of
    exact_is = let z : r.place + r.len - r.place ≡ r.len = omega arith in sym (ex ∙ rw z)

    pub part_right : x ≡ true → 0 ≡ part_form buffer r w
    unfolding part_form
    part_right g = rw (← ef, q, exact_is, g)

    pub part_wrong : x ≡ false → 21 ≡ part_form buffer r w
    unfolding part_form
    part_wrong g = rw (← ef, q, exact_is, g)

  -- a value that was read, of n bytes
  module _ (q : f ≡ true) (n : ℕ) (p : 0 < n → Ok n ≡ step_of (value w (take (r.place + r.len - r.place) (drop r.place buffer)))) (h : 0 < n) where
    long : length (take (r.place + r.len - r.place) (drop r.place buffer)) ≡ r.len
    long = omega (arith, length-take (r.place + r.len - r.place) (drop r.place buffer), length-drop r.place buffer, part_inside (length buffer) r.place r.len f ef q)

    tested : eqb n r.len ≡ exact w (take (r.place + r.len - r.place) (drop r.place buffer))
    tested = ap (eqb n) (sym long) ∙ exact_took w _ (Ok n) (p h) n refl

    pub quick_right : eqb n r.len ≡ true → 0 ≡ part_form buffer r w
    quick_right e = part_right q (eqb n r.len) tested e

pub part_fits : (buffer : List ℕ) (r : Row) (w : Ty) → part_form buffer r w ≡ 0 → r.place + r.len ≤ length buffer
unfolding part_form
part_fits buffer r w e = go (leb (r.place + r.len) (length buffer)) refl e
  where
    go : (b : Bool) → leb (r.place + r.len) (length buffer) ≡ b → ◌≡◌ {A = ℕ} (pick b (pick (exact w (part_of buffer r)) 0 21) 20) 0 → r.place + r.len ≤ length buffer
    go true q h = leb-true (r.place + r.len) (length buffer) q
    go false q h = absurd (omega arith)

-- ---- a row

-- a member with its bytes
judged_part : (old : Bool) (buffer : List ℕ) (i : ℕ) (r : Row) (z : Reached)
    → judge old buffer i r (some z) ≡ pick (eqb (part_form buffer r (type_as old z.member.ty)) 0) (out z) (stop (part_form buffer r (type_as old z.member.ty)) i)
unfolding judge part_form
judged_part old buffer i r z = go (leb (r.place + r.len) (length buffer)) (exact (type_as old z.member.ty) (part_of buffer r))
  where
    go : (a b : Bool) → pick a (pick b (out z) (stop 21 i)) (stop 20 i) ≡ pick (eqb (pick a (pick b 0 21) 20) 0) (out z) (stop (pick a (pick b 0 21) 20) i)
    go true true = refl
    go true false = refl
    go false b = refl

accepted_part : (z : Reached) (i k : ℕ) → Accepted (state_from (pick (eqb k 0) (out z) (stop k i))) → k ≡ 0
unfolding state_from
accepted_part z i k a = go (eqb k 0) refl a
  where
    go : (b : Bool) → eqb k 0 ≡ b → Accepted (state_from (pick b (out z) (stop k i))) → k ≡ 0
    go true e h = eqb-true k 0 e
    go false e h = absurd h

module _ (T : List ℕ) (old : Bool) (rows buffer : List ℕ) (i : ℕ) (r : Row) (er : r ≡ row_at rows i) (s : State) where
  row_is : (w : Option Reached) → reach T r.member s ≡ w → judged_row T old rows buffer s i ≡ state_from (judge old buffer i r w)
  unfolding judged_row
  row_is w e = rw (← er, e)

  pub row_none : reach T r.member s ≡ none → judged_row T old rows buffer s i ≡ stop 20 i
  unfolding state_from judge
  row_none e = row_is none e

  module _ (z : Reached) (e : reach T r.member s ≡ some z) where
    part_is : judged_row T old rows buffer s i ≡ state_from (pick (eqb (part_form buffer r (type_as old z.member.ty)) 0) (out z) (stop (part_form buffer r (type_as old z.member.ty)) i))
    part_is = row_is (some z) e ∙ ap state_from (judged_part old buffer i r z)

    module _ (judged : Bool) (form : ℕ) (ef : form ≡ pick judged 0 (part_form buffer r (type_as old z.member.ty))) where
      pub row_refused : (form ≡ 0 → ⊥) → judged_row T old rows buffer s i ≡ stop form i
      unfolding state_from
      row_refused n = go judged ef
        where
          go : (j : Bool) → form ≡ pick j 0 (part_form buffer r (type_as old z.member.ty)) → judged_row T old rows buffer s i ≡ stop form i
          go true q = absurd (n q)
          go false q = part_is ∙ rw (← q, ne_eqb form 0 n)

      -- right now, or before
      part_fine : form ≡ 0 → (judged ≡ true → Accepted (judged_row T old rows buffer s i)) → part_form buffer r (type_as old z.member.ty) ≡ 0
      part_fine n a = go judged ef a
        where
          go : (j : Bool) → form ≡ pick j 0 (part_form buffer r (type_as old z.member.ty)) → (j ≡ true → Accepted (judged_row T old rows buffer s i)) → part_form buffer r (type_as old z.member.ty) ≡ 0
          go true q a = accepted_part z i (part_form buffer r (type_as old z.member.ty)) (rw part_is at (a refl))
          go false q a = sym q ∙ n

      pub row_right : form ≡ 0 → Gives judged (judged_row T old rows buffer s i) (out z.state)
      unfolding state_from
      row_right n a = part_is ∙ rw (part_fine n a)
