-- What an owner answers of a member row. Assumes nothing.
--
--   found_due, found_other   a member is due: the row is it, or is refused
--   found_may                none is due, and the row is an optional that may come
--   gone_..                  none is due, and it is none
use mathlib.Core.Path.{◌≡◌, refl, sym, ap, ◌∙◌}
use mathlib.Core.Bool.{Bool, true, false, ◌&&◌, not}
use mathlib.Core.Option.{none, some}
use mathlib.Core.List.{List, [], ◌∷◌}
use Prim.Native.Nat.{ℕ, ◌+◌, ◌-◌, ◌≤◌, ◌<◌}
use native.Mathlib.Numerals.{add-one}
use native.Mathlib.Omega.{arith}
use lib.Dec.{eqb, leb}
use borrow.Author.Tests.{le-leb, lt-leb, eq-eqb, ne_eqb}
use Rattle.encoding.specs.Result.{pick}
use Rattle.encoding.specs.Table.{field, mark, tag, trees, ty_of, member_ty, optional_members}
use Rattle.encoding.specs.Write.{optional_row, reach_due, reach}
use Rattle.pieces.specs.Cursors.{required_in, due_from, due_at, may_at, state_of, may_member, due_reached, may_reached, IsDue, Gone, IsMay}
use Rattle.pieces.specs.CursorsLaws.{due_more, due_none, may_outside, may_inside, reach_due_lem, reach_may_lem}

-- ---- a required member

module _ (T : List ℕ) (o k m : ℕ) (d : IsDue T o k m) where
  due_here : due_from T o k ≡ record { row = field T o 0 + k; key = required_in T (field T o 0) k; ty = member_ty T (trees T) (field T o 0 + k) } ∷ due_from T o (k + 1)
  due_here = due_more T (field T o 0) (field T o 1) k d.inside (ap (mark T) (sym d.here) ∙ d.required)

  pub found_due : reach T m (state_of T (due_at o k)) ≡ some (due_reached T m (due_at o (k + 1)))
  unfolding due_reached reach_due state_of
  found_due =
      let z : k + 1 - 1 ≡ k = omega arith in
      reach_due_lem T m (due_at o k) _ _ due_here ∙ rw (← d.here, eq-eqb m m refl, z)

  pub found_other : (n : ℕ) → (n ≡ m → ⊥) → reach T n (state_of T (due_at o k)) ≡ none
  unfolding reach_due
  found_other n e = reach_due_lem T n (due_at o k) _ _ due_here ∙ rw (ne_eqb n (field T o 0 + k) (λ q. e (q ∙ sym d.here)))

-- ---- an optional member

module _ (T : List ℕ) (o a b least m : ℕ) (ea : a ≡ field T o 0) (eb : b ≡ field T o 1) where
  none_due : due_from T o (field T o 1) ≡ []
  none_due = due_none T (field T o 0) (field T o 1) (field T o 1) (omega arith)

  -- not one of the owner's member rows
  pub gone_below : m < a → Gone T (may_at T o least) m
  gone_below l = record { due = none_due; may = may_outside T m least o (λ p q. omega arith) }

  pub gone_past : a + b ≤ m → Gone T (may_at T o least) m
  gone_past l = record { due = none_due; may = may_outside T m least o (λ p q. omega arith) }

  module _ (l : a ≤ m) (u : m < a + b) (g t : ℕ) (eg : g ≡ mark T m) (et : t ≡ tag T m) where
    -- the test of its mark and tag
    may_is : (r w : Bool) → eqb (mark T m) 0 ≡ r → leb least (tag T m) ≡ w → optional_row m least (optional_members T o) ≡ pick (not r && w) (some (may_member T m)) none
    may_is r w er ew = may_inside T m least o (omega arith) (omega arith) ∙ rw (er, ew)

    pub gone_required : g ≡ 0 → Gone T (may_at T o least) m
    gone_required z = record { due = none_due; may = may_is true (leb least (tag T m)) (eq-eqb (mark T m) 0 (sym eg ∙ z)) refl }

    module _ (z : g ≡ 0 → ⊥) where
      pub gone_tag : t < least → Gone T (may_at T o least) m
      gone_tag n = record { due = none_due; may = may_is false false (ne_eqb (mark T m) 0 (λ q. z (eg ∙ q))) (lt-leb least (tag T m) (omega arith)) }

      pub found_may : least ≤ t → (r : ℕ) → ty_of T r ≡ member_ty T (trees T) m → t < 4294967296 → IsMay T o least m r t
      unfolding may_reached may_member state_of
      found_may n r ty s = record {
        reached =
            reach_may_lem T m (may_at T o least) (may_member T m) none_due (may_is false true (ne_eqb (mark T m) 0 (λ q. z (eg ∙ q))) (le-leb least (tag T m) (omega arith)))
            ∙ rw (et, add-one, none_due);
        typed = ty;
        tagged = et;
        small = s;
      }
