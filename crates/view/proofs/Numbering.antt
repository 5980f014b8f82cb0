-- The member view in numbers. Assumes nothing.
--
--   within_enough, within_part, within_fallback, within_nothing, within_refused   the answer with so many lent bytes, case by case
--   part_put, fallback_put, nothing_put, refused_put    the numbers put, case by case
--   view_told, view_put                                 answer and numbers of the call
use mathlib.Core.Path.{◌≡◌, refl, sym, ap, ◌∙◌}
use mathlib.Core.Bool.{Bool, true, false}
use mathlib.Core.List.{List, []}
use Prim.Native.Nat.{ℕ, ◌*◌, ◌≤◌, ◌<◌}
use native.Mathlib.Omega.{arith}
use lib.ListN.{length}
use lib.Dec.{leb}
use borrow.Author.Tests.{leb-true, le-leb, lt-leb}
use Rattle.encoding.specs.Result.{pick}
use Rattle.encoding.specs.Message.{row_bytes}
use Rattle.encoding.proofs.MessageLaws.{length_row}
use Rattle.wire.specs.Put.{put}
use Rattle.wire.specs.PutLaws.{put_none, put_front}
use Rattle.view.specs.Views.{view_short, view_within, view_bytes, with_view}
use Rattle.view.specs.declared.View.{View}
use Rattle.view.specs.declared.View.TheVariants.{Part, Fallback, Nothing, Refused}

-- ---- with so many lent bytes

module _ (v : View) (n : ℕ) where
  pub within_enough : 12 ≤ n → v ≡ view_within n v
  unfolding view_within
  within_enough h = rw (le-leb 12 n h)

  module _ (h : n < 12) where
    few : view_within n v ≡ view_short v
    unfolding view_within
    few = rw (lt-leb 12 n h)

    pub within_part : (p l : ℕ) → v ≡ Part p l → Refused 22 12 ≡ view_within n v
    unfolding view_short
    within_part p l e = sym (few ∙ ap view_short e)

    pub within_fallback : v ≡ Fallback → Refused 22 12 ≡ view_within n v
    unfolding view_short
    within_fallback e = sym (few ∙ ap view_short e)

    pub within_nothing : v ≡ Nothing → Refused 22 12 ≡ view_within n v
    unfolding view_short
    within_nothing e = sym (few ∙ ap view_short e)

    pub within_refused : (c p : ℕ) → v ≡ Refused c p → Refused c p ≡ view_within n v
    unfolding view_short
    within_refused c p e = sym (few ∙ ap view_short e)

-- ---- the numbers put

module _ (v : View) (lent x : List ℕ) where
  pub part_put : (p l : ℕ) → v ≡ Part p l → x ≡ put (12 * 0) (row_bytes (record { member = 1; place = p; len = l })) lent → x ≡ put 0 (view_bytes v) lent
  unfolding view_bytes
  part_put p l e ex = ex ∙ sym (ap (λ (w : View). put 0 (view_bytes w) lent) e)

  pub fallback_put : v ≡ Fallback → x ≡ put (12 * 0) (row_bytes (record { member = 2; place = 0; len = 0 })) lent → x ≡ put 0 (view_bytes v) lent
  unfolding view_bytes
  fallback_put e ex = ex ∙ sym (ap (λ (w : View). put 0 (view_bytes w) lent) e)

  pub nothing_put : v ≡ Nothing → x ≡ put (12 * 0) (row_bytes (record { member = 0; place = 0; len = 0 })) lent → x ≡ put 0 (view_bytes v) lent
  unfolding view_bytes
  nothing_put e ex = ex ∙ sym (ap (λ (w : View). put 0 (view_bytes w) lent) e)

pub refused_put : (v : View) (lent : List ℕ) (c p : ℕ) → v ≡ Refused c p → lent ≡ put 0 (view_bytes v) lent
unfolding view_bytes
refused_put v lent c p e = sym (ap (λ (w : View). put 0 (view_bytes w) lent) e ∙ put_none 0 lent)

-- ---- the call

most_bytes : (v : View) → length (view_bytes v) ≤ 12
unfolding view_bytes
most_bytes (Part p l) = omega (arith, length_row (record { member = 1; place = p; len = l }))
most_bytes Fallback = omega (arith, length_row (record { member = 2; place = 0; len = 0 }))
most_bytes Nothing = omega (arith, length_row (record { member = 0; place = 0; len = 0 }))
most_bytes (Refused c p) = omega arith

short_bytes : (v : View) → view_bytes (view_short v) ≡ []
unfolding view_bytes view_short
short_bytes (Part p l) = refl
short_bytes Fallback = refl
short_bytes Nothing = refl
short_bytes (Refused c p) = refl

within_room : (n : ℕ) (v : View) → length (view_bytes (view_within n v)) ≤ n
unfolding view_within
within_room n v = go (leb 12 n) refl
  where
    go : (b : Bool) → leb 12 n ≡ b → length (view_bytes (pick b v (view_short v))) ≤ n
    go true e = omega (arith, most_bytes v, leb-true 12 n e)
    go false e = omega (arith, ap length (short_bytes v))

module _ (v a w : View) (ea : v ≡ a) (lent : List ℕ) (n : ℕ) (en : n ≡ length lent) (ew : w ≡ view_within n v) where
  pub view_told : w ≡ view_within (length lent) a
  view_told = ew ∙ ap (λ (u : View). view_within n u) ea ∙ ap (λ (i : ℕ). view_within i a) en

  pub view_put : (x : List ℕ) → x ≡ put 0 (view_bytes w) lent → x ≡ with_view (view_within (length lent) a) lent
  unfolding with_view
  view_put x ex = ex ∙ ap (λ (u : View). put 0 (view_bytes u) lent) view_told ∙ put_front (view_bytes (view_within (length lent) a)) lent (within_room (length lent) a)
